-- The arrays by level number, and that the tests over them are those of `Sound`.
use Prim.Native.Nat.{ℕ, zero, suc, ◌+◌, ◌-◌, ◌<◌, ◌≤◌}
use mathlib.Core.Path.{◌≡◌, refl, sym, ◌∙◌}
use mathlib.Core.Bool.{Bool, true, false, ◌&&◌, and-true}
use mathlib.Core.List.{List}
use native.Mathlib.Nat.{sub-zero}
use native.Mathlib.Numerals.{add-one}
use native.Mathlib.Omega.{arith}
use borrow.Author.Tests.{lt-ltb, eq-eqb, ne_eqb, eqb-true, eqb-false, leb-true}
use lib.Dec.{eqb, leb}
use lib.ListN.{length, length-set, get_or, get_or-replicate, replicate, set}
use lib.Seq.{get_or-set_same, get_or-set_other}
use Rattle.std.specs.Prelude.{None, Option, Some}
use Rattle.frame.specs.declared.LevelRow.{LevelRow}
use Rattle.basics.specs.Limits.{places, no_row, system_master}
use Rattle.basics.specs.Scan.{all_below, first_from}
use Rattle.basics.proofs.ScanLaws.{all_more, all_miss, all_ext, all_both, first_hit, first_miss, first_none, first_finds, first_default}
use Rattle.basics.proofs.Tests.{by_test, and_left}
use Rattle.frame.specs.declared.LevelRows.{LevelRows}
use Rattle.frame.specs.declared.Setup.{Setup}
use Rattle.frame.specs.declared.SlaveRows.{SlaveRows}
use Rattle.frame.specs.Frame.{level_at, slave_at, rows_present, level_row_fits}
use Rattle.frame.specs.Find.{level_found, level_row, level_index, row_holds, slave_row, slave_index}
use Rattle.frame.specs.Rows.{is_fair, is_level, level_or, is_present, level_of}
use Rattle.frame.proofs.FrameLaws.{level_facts}
use Rattle.channel.specs.declared.Phase.{Phase}
use Rattle.channel.specs.declared.Phase.TheVariants.{Arbitrating, Granted}
use Rattle.channel.specs.declared.Channel.{Channel}
use Rattle.channel.specs.declared.Request.{Request}
use Rattle.channel.specs.Channel.{request_of}
use Rattle.channel.specs.Line.{line}
use Rattle.sound.specs.declared.Members.{Members}
use Rattle.sound.specs.Request.{is_inside_slave}
use Rattle.sound.specs.Sound.{is_grant_sound, owner_sound, is_owner_sound, is_request_sound, are_requests_sound, is_mark_sound, are_marks_sound}
use Rattle.sound.specs.Sound.{is_never_granted_sound, is_clock_sound, is_asked_sound, is_sound}
use Rattle.sound.specs.inner.Tables.{is_fair_row, AreMembers, with_level, grant_fits, owner_fits, is_blank_or, are_blank, open_sound, are_open_sound, requests_fit, are_marked}

-- the row of a level among those from row i on
unfoldable pub found_from : LevelRows → ℕ → ℕ → Option LevelRow
found_from levels l i =
    level_found levels (first_from (λ (k : ℕ). eqb (level_at levels k).level l) i (rows_present levels.count - i) no_row)

-- an array that tells what is asked of those rows
abbrev pub TellsFrom : LevelRows → (Option LevelRow → Bool) → ℕ → List Bool → Type 0
TellsFrom levels asked i table = (l : ℕ) → l < places → get_or table l false ≡ asked (found_from levels l i)

module _ (levels : LevelRows) (l : ℕ) where
  pub found_none : (i : ℕ) → rows_present levels.count ≤ i → found_from levels l i ≡ None
  unfolding found_from
  found_none i h = rw (first_none _ i (rows_present levels.count) no_row h)

  pub found_here : (i : ℕ) → 0 < i → i ≤ rows_present levels.count → (level_at levels (i - 1)).level ≡ l
      → found_from levels l (i - 1) ≡ Some (level_at levels (i - 1))
  unfolding found_from
  found_here i some h e =
      rw (first_hit _ (i - 1) (rows_present levels.count) no_row (omega arith) (eq-eqb _ l e), lt-ltb (i - 1) no_row (omega arith))

  pub found_after : (i : ℕ) → 0 < i → i ≤ rows_present levels.count → ((level_at levels (i - 1)).level ≡ l → ⊥)
      → found_from levels l (i - 1) ≡ found_from levels l i
  unfolding found_from
  found_after i some h n =
      let e : i - 1 + 1 ≡ i = omega arith in
      rw (first_miss (λ (k : ℕ). eqb (level_at levels k).level l) (i - 1) (rows_present levels.count) no_row (omega arith) (ne_eqb _ l n), e)

  pub found_whole : level_row levels l ≡ found_from levels l 0
  unfolding found_from level_row level_index
  found_whole = rw (sub-zero (rows_present levels.count))

  -- an array told of one row more
  pub found_more : (asked : Option LevelRow → Bool) (table : List Bool) (i : ℕ) → 0 < i → i ≤ rows_present levels.count
      → (level_at levels (i - 1)).level < length table → get_or table l false ≡ asked (found_from levels l i)
      → get_or (set table (level_at levels (i - 1)).level (asked (Some (level_at levels (i - 1))))) l false ≡ asked (found_from levels l (i - 1))
  found_more asked table i some h s e =
      by_test (eqb (level_at levels (i - 1)).level l)
      (λ t.
      let q = eqb-true (level_at levels (i - 1)).level l t in
      rw (found_here i some h q, ← q) (get_or-set_same table (level_at levels (i - 1)).level _ false s))
      (λ f.
      let n = eqb-false (level_at levels (i - 1)).level l f in
      rw (found_after i some h n) (get_or-set_other table (level_at levels (i - 1)).level l _ false (λ q. n (sym q)) ∙ e))

pub ruleset found = (found_none, found_here, found_after, found_whole)

-- the tables tell of the rows from row i on
pub record AreMembersFrom (levels : LevelRows) (i : ℕ) (members : Members) : Type 0 where
  pub present_places : length members.present ≡ places
  pub fair_places : length members.fair ≡ places
  pub present : TellsFrom levels is_level i members.present
  pub fair : TellsFrom levels is_fair_row i members.fair

-- empty, of none
pub none_put : (levels : LevelRows) (i : ℕ) → rows_present levels.count ≤ i
    → AreMembersFrom levels i (record { present = replicate places false; fair = replicate places false })
none_put levels i h =
    record {
      present_places = refl;
      fair_places = refl;
      present = λ l k. rw (found_none levels l i h) (get_or-replicate places l false false k);
      fair = λ l k. rw (found_none levels l i h) (get_or-replicate places l false false k);
    }

-- and with one more put into them, of one row more
pub level_put : (levels : LevelRows) (members put : Members) (i : ℕ) → put ≡ with_level members (level_at levels (i - 1)) → 0 < i
    → i ≤ rows_present levels.count → (level_at levels (i - 1)).level < places → AreMembersFrom levels i members → AreMembersFrom levels (i - 1) put
level_put levels members put i e some h s tell =
    rw e
    record {
      present_places = length-set members.present _ true ∙ tell.present_places;
      fair_places = length-set members.fair _ (is_fair (level_at levels (i - 1)).options) ∙ tell.fair_places;
      present = λ l k. found_more levels l is_level members.present i some h (omega arith) (tell.present l k);
      fair = λ l k. found_more levels l is_fair_row members.fair i some h (omega arith) (tell.fair l k);
    }

-- a row that keeps the frame has a level with a place in the tables
pub fits_small : (levels : LevelRows) (i : ℕ) → level_row_fits levels i ≡ true → (level_at levels i).level < places
unfolding level_row_fits
fits_small levels i e = let f = (level_facts (level_at levels i) (and_left _ _ e)).level in omega arith

-- what is left to test, where the last holds
pub all_less : (f : ℕ → Bool) (i : ℕ) → 0 < i → f (i - 1) ≡ true → all_below f i ≡ all_below f (i - 1)
unfolding all_below
all_less f zero h e = absurd (omega arith)
all_less f (suc i) h e = let k : suc i - 1 ≡ i = omega arith in let g : f i ≡ true = rw k at e in rw (k, g) (and-true (all_below f i))

-- one number more of those below a bound
pub all_one_more : (f : ℕ → Bool) (i : ℕ) → all_below f (i + 1) ≡ (all_below f i && f i)
unfolding all_below
all_one_more f i = rw add-one

pub ruleset scan = (all_more, all_miss, all_one_more)

-- a search of the slave rows for a request's range
abbrev pub holds_at : SlaveRows → Request → ℕ → Bool
holds_at slaves q i = row_holds (slave_at slaves i) q.space q.address q.left

module _ (setup : Setup) (q : Request) where
  pub inside_hit : (i : ℕ) → i < rows_present setup.slaves.count → holds_at setup.slaves q i ≡ true → is_inside_slave setup q ≡ true
  unfolding slave_row slave_index
  inside_hit i h e =
      let f = first_finds (holds_at setup.slaves q) 0 (rows_present setup.slaves.count) no_row i (omega arith) (omega arith) e in
      rw (lt-ltb (first_from (holds_at setup.slaves q) 0 (rows_present setup.slaves.count) no_row) no_row (omega (arith, f.2)))

  pub inside_none : ((k : ℕ) → k < rows_present setup.slaves.count → holds_at setup.slaves q k ≡ false) → is_inside_slave setup q ≡ false
  unfolding slave_row slave_index
  inside_none h =
      rw (first_default (holds_at setup.slaves q) 0 (rows_present setup.slaves.count) no_row (λ j l m. h j (omega arith)))

pub ruleset inside = (inside_hit, inside_none)

module _ (setup : Setup) (ch : Channel) (members : Members) (tells : AreMembers setup.levels members) where
  -- the owner
  grant_is : (o : ℕ) → grant_fits members ch o ≡ is_grant_sound setup.levels ch o
  unfolding is_grant_sound is_present
  grant_is o =
      by_test (leb o system_master)
      (λ t. let h = leb-true o system_master t in rw (t, tells.present o (omega arith)))
      (λ f. rw f)

  owner_by : (p : Phase) → owner_fits members ch p ≡ owner_sound setup.levels ch p
  owner_by Arbitrating = refl
  owner_by (Granted o) = grant_is o

  pub owner_is : owner_fits members ch ch.phase ≡ is_owner_sound setup.levels ch
  unfolding is_owner_sound
  owner_is = owner_by ch.phase

  -- the requests
  request_is : (l : ℕ) → l < places
      → (is_blank_or (request_of ch l) && open_sound setup members ch l) ≡ is_request_sound setup ch l
  unfolding is_request_sound is_present open_sound
  request_is l k =
      by_test (eqb (get_or ch.left l 0) 0)
      (λ t. rw (t, and-true))
      (λ f. rw (f, tells.present l k))

  pub requests_are : requests_fit setup members ch ≡ are_requests_sound setup ch
  unfolding are_blank are_open_sound are_requests_sound
  requests_are = all_both _ _ places ∙ all_ext _ _ places request_is

  -- the marks
  fair_row : (active : Bool) (f : Option LevelRow) → (is_fair_row f && active) ≡ (is_level f && (is_fair (level_or f).options && active))
  fair_row active None = refl
  fair_row active (Some row) = refl

  pub marks_are : (active : Bool) → are_marked members ch active ≡ are_marks_sound setup.levels ch.inactive active
  unfolding are_marked are_marks_sound is_mark_sound is_present level_of
  marks_are active =
      all_ext _ _ places (λ l k. rw (tells.fair l k, fair_row active (level_row setup.levels l)))

  -- and all of them together, the two that are tested as they are said among them
  pub clauses_sound : (is_never_granted_sound ch.ever ch.phase ch.clock ch.inactive
      && (owner_fits members ch ch.phase
      && (requests_fit setup members ch
      && (are_marked members ch (line ch) && (is_clock_sound ch && is_asked_sound setup ch (line ch))))))
      ≡ is_sound setup ch
  unfolding is_sound
  clauses_sound = rw (owner_is, requests_are, marks_are (line ch))
