-- What a good judgement is made of: each part that was judged is good. Assumes nothing.
use Prim.Native.Nat.{ℕ, ◌≤◌}
use mathlib.Core.Path.{◌≡◌, refl, sym, ap, ◌∙◌}
use mathlib.Core.Bool.{Bool, true, false, cond}
use native.Mathlib.Omega.{arith}
use borrow.Author.Tests.{ltb-false}
use lib.Dec.{ltb}
use Rattle.std.specs.Prelude.{Ok, Err}
use Rattle.refusal.specs.declared.Refusal.TheVariants.{BadEdition, Follows}
use Rattle.number.specs.Number.{NumberRead, Number, fault}
use Rattle.numbers.specs.Numbers.{Part, Reading, number_between}
use Rattle.numbers.proofs.Parts.{no_good, with_good, then_good}
use Rattle.frame.specs.declared.Setup.{Setup}
use Rattle.frame.specs.declared.RowKind.TheVariants.{Levels, Slaves}
use Rattle.frame.specs.Kind.{no_rows}
use Rattle.sheet.specs.declared.RowsRead.{RowsRead}
use Rattle.sheet.specs.Sheet.{then_rows, with_rows, counted_rows, head, counted_events, sheet_end, body, sheet}

-- rows that were read to their end: the part before them is good, and what comes then
pub then_rows_good : (j : Part) (setup : Setup) (f : ℕ → RowsRead) {end : ℕ} → (then_rows j setup f).part ≡ Ok end
    → (mid : ℕ) × (j ≡ Ok mid) × (then_rows j setup f ≡ f mid)
then_rows_good (Ok mid) setup f e = (mid, refl, refl)
then_rows_good (Err x) setup f e = no_good e

pub with_rows_good : (got : NumberRead) (setup : Setup) (f : ℕ → ℕ → RowsRead) {end : ℕ} → (with_rows got setup f).part ≡ Ok end
    → (v : ℕ) × (next : ℕ) × (got ≡ Number v next) × (with_rows got setup f ≡ f v next)
with_rows_good (Number v next) setup f e = (v, next, refl, refl)
with_rows_good (Err x) setup f e = no_good e

-- the two kinds of rows of a good head
pub record HeadParts (src : Reading) (at end : ℕ) : Type 0 where
  pub second : ℕ
  pub levels_good : (counted_rows Levels src no_rows at).part ≡ Ok second
  pub whole : head src at ≡ counted_rows Slaves src (counted_rows Levels src no_rows at).setup second
  pub slaves_good : (counted_rows Slaves src (counted_rows Levels src no_rows at).setup second).part ≡ Ok end

pub head_parts : (src : Reading) (at : ℕ) {end : ℕ} → (head src at).part ≡ Ok end → HeadParts src at end
unfolding head
head_parts src at e =
    let levels = counted_rows Levels src no_rows at in
    let a = then_rows_good levels.part levels.setup (λ second. counted_rows Slaves src levels.setup second) e in
    record {
      second = a.0;
      levels_good = a.1;
      whole = a.2;
      slaves_good = sym (ap (λ (r : RowsRead). r.part) a.2) ∙ e;
    }

ended_good : (len at : ℕ) {end : ℕ} (b : Bool) → ltb at len ≡ b → cond b (Err (fault Follows at)) (Ok at) ≡ Ok end → (at ≡ end) × (len ≤ at)
ended_good len at true q e = no_good e
ended_good len at {end} false q e = let same : at ≡ end = cc in (same, ltb-false at len q)

-- the parts of a good sheet, and that it ends where the last of them does
pub record Parts (src : Reading) (len end : ℕ) : Type 0 where
  pub edition : ℕ
  pub first : ℕ
  pub third : ℕ
  pub edition_good : number_between src 1 1 BadEdition 0 ≡ Number edition first
  pub head_good : (head src first).part ≡ Ok third
  pub events_good : counted_events src third ≡ Ok end
  pub whole : len ≤ end

pub sheet_parts : (src : Reading) (len : ℕ) {end : ℕ} → sheet src len ≡ Ok end → Parts src len end
unfolding sheet body
sheet_parts src len {end} e =
    let a = with_good (number_between src 1 1 BadEdition 0) (λ edition first. body src len first) e in
    let c = then_good (head src a.1).part _ a.3 in
    let d = then_good (counted_events src c.0) (sheet_end len) c.2 in
    let f = ended_good len d.0 (ltb d.0 len) refl d.2 in
    record {
      edition = a.0;
      first = a.1;
      third = c.0;
      edition_good = a.2;
      head_good = c.1;
      events_good = rw f.0 at d.1;
      whole = omega (arith, f.0, f.1);
    }
