-- Writing what was read gives the bytes: of a set-up, of a whole image, and of a sheet's head as a list. What was read can be written. Assumes nothing.
use Prim.Native.Nat.{ℕ, zero, suc, ◌+◌, ◌*◌, ◌≤◌, ◌<◌}
use mathlib.Core.Path.{◌≡◌, refl, sym, ap, ap₂, ◌∙◌}
use mathlib.Core.Bool.{Bool, true, false, cond}
use mathlib.Core.List.{List, [], ◌∷◌, ◌++◌}
use native.Mathlib.Nat.{zero-add}
use native.Mathlib.Omega.{arith}
use borrow.Author.Tests.{leb-true, le-leb, ltb-false}
use lib.ListN.{length, take, drop, get_or, length-append, take-append-drop}
use lib.Seq.{sets, sets-eq, take-take, take_at, take_all, length-take-le, take-append_seam, get_or-append-add}
use lib.Dec.{leb, ltb}
use Rattle.basics.specs.Limits.{rows_most}
use Rattle.basics.proofs.Tests.{by_test}
use Rattle.std.specs.Prelude.{Result, Ok, Err}
use Rattle.number.specs.declared.Fault.{Fault}
use Rattle.number.specs.Number.{read_number, Bytes}
use Rattle.numbers.specs.Numbers.{all_bytes}
use Rattle.numbers.proofs.RoundTrip.{Numbers, all_append}
use Rattle.numbers.proofs.Laws.{sets_append}
use Rattle.numbers.proofs.SizeLaws.{Small, small_none, small_any, small_append}
use Rattle.numbers.proofs.Spelt.{Spells, spells_append, spells_within, spells_same, spells_bytes, spells_size, spells_fit, all_spell}
use Rattle.frame.specs.declared.Setup.{Setup}
use Rattle.frame.specs.declared.RowKind.{RowKind}
use Rattle.frame.specs.declared.RowKind.TheVariants.{Levels, Slaves}
use Rattle.frame.specs.Frame.{rows_present}
use Rattle.frame.specs.Kind.{row_count}
use Rattle.frame.proofs.KindLaws.{Wide}
use Rattle.channel.specs.declared.Channel.{Channel}
use Rattle.channel.specs.Channel.{fresh_channel}
use Rattle.image.specs.declared.ChannelRead.{ChannelRead}
use Rattle.image.specs.Layout.{layout_number, counted_numbers, head_numbers, setup_numbers, channel_numbers, image_bytes}
use Rattle.image.specs.Read.{setup_at, channel_part_at}
use Rattle.image.specs.Image.{Imaged, imaged, malformed, then_image, read_setup, read_channel, read_image, head_read, head_bytes, read_head}
use Rattle.image.proofs.LayLaws.{rows_size}
use Rattle.image.proofs.SetupSpelt.{setup_told}
use Rattle.image.proofs.ChannelSpelt.{channel_told}
use Rattle.image.proofs.Writable.{Writable}

-- the bytes that a list is spelt by from the first on are its own
spelt_first : (s : List ℕ) → Bytes s → {list : List ℕ} {end : ℕ} → Spells (read_number s) 0 list end
    → (take end s ≡ all_bytes list) × (end ≤ length s) × (end ≡ length (all_bytes list))
spelt_first s bytes {list} {end} h =
    let size : end ≡ length (all_bytes list) = spells_size s bytes h ∙ zero-add (length (all_bytes list)) in
    (ap (take end) (spells_bytes s bytes h) ∙ take_at (all_bytes list) (drop end s) end (sym size), spells_within s h (omega arith), size)

-- What was read as a set-up is what would be written for it, and so many bytes.
pub setup_written : (s : List ℕ) → Bytes s → {setup : Setup} {start : ℕ} → setup_at (read_number s) ≡ Ok (setup, start)
    → (take start s ≡ all_bytes (setup_numbers setup)) × (start ≤ length s) × (start ≡ length (all_bytes (setup_numbers setup)))
setup_written s bytes {setup} {start} g = spelt_first s bytes (setup_told (read_number s) (setup, start) g).spelt

-- the first bytes of a list of bytes are bytes
bytes_take : (n : ℕ) (s : List ℕ) → Bytes s → Bytes (take n s)
bytes_take zero s y = tt
bytes_take (suc n) [] y = tt
bytes_take (suc n) (b ∷ s) y = (y.0, bytes_take n s y.1)

-- what an image says is a set-up and a channel, and a malformed one says nothing
pub imaged_is : {a b : Setup} {c d : Channel} → imaged a c ≡ imaged b d → (a ≡ b) × (c ≡ d)
imaged_is {a} {b} {c} {d} e =
    let same : ◌≡◌ {A = Setup × Channel} (a, c) (b, d) = cc in
    (ap (λ (x : Setup × Channel). x.0) same, ap (λ (x : Setup × Channel). x.1) same)

not_malformed : {A : Type 0} {setup : Setup} {ch : Channel} → malformed ≡ imaged setup ch → A
not_malformed e = cc

then_image_lem : {A : Type 0} (j : Result A Fault) (f : A → Imaged) {setup : Setup} {ch : Channel} → then_image j f ≡ imaged setup ch
    → (x : A) × (j ≡ Ok x) × (f x ≡ imaged setup ch)
then_image_lem (Ok x) f e = (x, refl, e)
then_image_lem (Err x) f e = not_malformed e

-- an image that fits its memory is read up to its length; one that does not is malformed
pub setup_inside : (bytes : List ℕ) (n : ℕ) {x : Setup × ℕ} → read_setup bytes n ≡ Ok x
    → (n ≤ length bytes) × (setup_at (read_number (take n bytes)) ≡ Ok x)
unfolding read_setup
setup_inside bytes n e =
    by_test (leb n (length bytes)) (λ t. (leb-true n (length bytes) t, rw t at e)) (λ f. let q = rw f at e in cc)

pub channel_inside : (bytes : List ℕ) (n at : ℕ) → n ≤ length bytes → read_channel bytes n at ≡ channel_part_at (read_number (take n bytes)) n at
unfolding read_channel
channel_inside bytes n at h = rw (le-leb n (length bytes) h)

-- Another channel's image with the same set-up: the bytes of the set-up stay where they are, and the channel's follow them.
pub image_after_lem : (bytes : List ℕ) (n : ℕ) → Bytes bytes → {setup : Setup} {start : ℕ} → read_setup bytes n ≡ Ok (setup, start) → (next : Channel)
    → image_bytes setup next ≡ take start bytes ++ all_bytes (channel_numbers next)
unfolding image_bytes
image_after_lem bytes n y {setup} {start} e next =
    let i = setup_inside bytes n e in
    let s = take n bytes in
    let w = setup_written s (bytes_take n bytes y) i.1 in
    let short : start ≤ n = omega (arith, w.1, length-take-le n bytes i.0) in
    all_append (setup_numbers setup) (channel_numbers next)
    ∙ ap (λ (x : List ℕ). x ++ all_bytes (channel_numbers next)) (sym w.0 ∙ take-take start n bytes short)

-- The parts of an image that was read.
pub record ImageParts (bytes : List ℕ) (n : ℕ) (setup : Setup) (ch : Channel) : Type 0 where
  pub inside : n ≤ length bytes
  pub start : ℕ
  pub end : ℕ
  pub setup_good : setup_at (read_number (take n bytes)) ≡ Ok (setup, start)
  pub channel_good : (channel_part_at (read_number (take n bytes)) n start).part ≡ Ok end
  pub channel_is : (channel_part_at (read_number (take n bytes)) n start).channel ≡ ch

pub image_parts : (bytes : List ℕ) (n : ℕ) {setup : Setup} {ch : Channel} → read_image bytes n ≡ imaged setup ch
    → ImageParts bytes n setup ch
unfolding read_image
image_parts bytes n e =
    let a = then_image_lem (read_setup bytes n) _ e in
    let i = setup_inside bytes n a.1 in
    let b = then_image_lem (read_channel bytes n a.0.1).part _ a.2 in
    let c = channel_inside bytes n a.0.1 i.0 in
    let both = imaged_is b.2 in
    record {
      inside = i.0;
      start = a.0.1;
      end = b.0;
      setup_good = rw both.0 at i.1;
      channel_good = ap (λ (r : ChannelRead). r.part) (sym c) ∙ b.1;
      channel_is = ap (λ (r : ChannelRead). r.channel) (sym c) ∙ both.1;
    }

-- an image that was read spells the numbers of what was read
pub image_spelt : (bytes : List ℕ) (n : ℕ) {setup : Setup} {ch : Channel} → read_image bytes n ≡ imaged setup ch
    → Spells (read_number (take n bytes)) 0 (setup_numbers setup ++ channel_numbers ch) n
image_spelt bytes n e =
    let p = image_parts bytes n e in
    let src = read_number (take n bytes) in
    let a = setup_told src _ p.setup_good in
    let b = channel_told src n p.start p.end p.channel_good in
    let s = spells_append a.spelt b.spelt in
    let ends : p.end ≡ n = omega (arith, b.whole, spells_within (take n bytes) s (omega arith), length-take-le n bytes p.inside) in
    rw (p.channel_is, ends) at s

module _ (bytes : List ℕ) (n : ℕ) (y : Bytes bytes) {setup : Setup} {ch : Channel} (e : read_image bytes n ≡ imaged setup ch) where
  -- Writing what was read gives the bytes.
  pub image_written : image_bytes setup ch ≡ take n bytes
  unfolding image_bytes
  image_written =
      let s = take n bytes in
      let f = spelt_first s (bytes_take n bytes y) (image_spelt bytes n e) in
      sym f.0 ∙ take_all n s (omega (arith, length-take-le n bytes (image_parts bytes n e).inside))

  -- What was read can be written.
  pub image_writable : Writable setup ch
  image_writable =
      let p = image_parts bytes n e in
      let src = read_number (take n bytes) in
      let a = setup_told src _ p.setup_good in
      let b = channel_told src n p.start p.end p.channel_good in
      record {
        few = a.few;
        wide = a.wide;
        shaped = rw p.channel_is at b.shaped;
        owner = rw p.channel_is at b.owner;
        blank = rw p.channel_is at b.blank;
        fits = spells_fit (take n bytes) (bytes_take n bytes y) (image_spelt bytes n e);
      }

-- something follows the head, or not
head_ended : (b : Bool) (i : Imaged) {setup : Setup} {ch : Channel} → cond b malformed i ≡ imaged setup ch
    → (b ≡ false) × (i ≡ imaged setup ch)
head_ended true i e = not_malformed e
head_ended false i e = (refl, e)

-- A set-up that was read from a list, with a master length, and the fresh channel: the numbers are the set-up's part of an image, and nothing more.
pub record HeadRead (list : List ℕ) (master : ℕ) (setup : Setup) (ch : Channel) : Type 0 where
  pub spelt : Spells (read_number (head_bytes list master)) 0 (setup_numbers setup) (length (head_bytes list master))
  pub good : setup_at (read_number (head_bytes list master)) ≡ Ok (setup, length (head_bytes list master))
  pub channel_is : ch ≡ fresh_channel
  pub few : (kind : RowKind) → row_count setup kind ≤ rows_most
  pub wide : Wide setup

pub head_read_lem : (list : List ℕ) (master : ℕ) {setup : Setup} {ch : Channel} → read_head list master ≡ imaged setup ch
    → HeadRead list master setup ch
unfolding read_head head_read
head_read_lem list master {setup} {ch} e =
    let s = head_bytes list master in
    let a = then_image_lem (read_setup s (length s)) _ e in
    let b = head_ended (ltb a.0.1 (length s)) (imaged a.0.0 fresh_channel) a.2 in
    let both = imaged_is b.1 in
    let i = setup_inside s (length s) a.1 in
    let good = rw (take_all (length s) s (omega arith), both.0) at i.1 in
    let t = setup_told (read_number s) _ good in
    let ends : a.0.1 ≡ length s = omega (arith, ltb-false a.0.1 (length s) b.0, spells_within s t.spelt (omega arith)) in
    record { spelt = rw ends at t.spelt; good = rw ends at good; channel_is = sym both.1; few = t.few; wide = t.wide }

-- the first numbers and the last of a list
last_apart : (a b : List ℕ) {x y : ℕ} → a ++ (x ∷ []) ≡ b ++ (y ∷ []) → (a ≡ b) × (x ≡ y)
last_apart a b {x} {y} e =
    let size : length a ≡ length b = omega (arith, ap length e, length-append a (x ∷ []), length-append b (y ∷ [])) in (
      sym (take-append_seam a (x ∷ [])) ∙ ap₂ take size e ∙ take-append_seam b (y ∷ []),
      sym (get_or-append-add a (x ∷ []) 0 0) ∙ ap₂ (λ (l : List ℕ) (n : ℕ). get_or l (n + 0) 0) e size ∙ get_or-append-add b (y ∷ []) 0 0,
    )

-- The list is a sheet's head of that set-up, with its master store's length.
pub head_list : (list : List ℕ) (master : ℕ) → Numbers list → master < 4294967296 → {setup : Setup} {ch : Channel}
    → read_head list master ≡ imaged setup ch
    → (list ≡ head_numbers setup) × (master ≡ setup.master)
unfolding setup_numbers
head_list list master fit small {setup} e =
    let h = head_read_lem list master e in
    let own : Small list (length (all_bytes list)) = record { fits = fit; most = omega arith } in
    let fits = (small_any layout_number (omega arith) (small_append own (small_any master small small_none))).fits in
    let whole = spells_same (head_bytes list master) (all_spell (layout_number ∷ (list ++ (master ∷ []))) fits) h.spelt in
    last_apart list (head_numbers setup) (ap (drop 1) whole)

-- how many numbers a head has
pub head_many : (setup : Setup) → length (head_numbers setup)
    ≡ 3 + rows_present setup.levels.count * 3 + rows_present setup.slaves.count * 5
unfolding head_numbers
head_many setup =
    let levels = rows_size setup Levels (rows_present setup.levels.count) 0 in
    let slaves = rows_size setup Slaves (rows_present setup.slaves.count) 0 in
    let both = length-append (counted_numbers setup Levels) (counted_numbers setup Slaves) in
    omega (arith, levels, slaves, both)

-- A longer list than 131 numbers is none.
pub head_long : (list : List ℕ) (master : ℕ) → Numbers list → master < 4294967296 → 131 < length list → malformed ≡ read_head list master
unfolding read_head head_read
head_long list master fit small long = go (read_setup s (length s)) refl
  where
    s : List ℕ
    s = head_bytes list master

    go : (got : Result (Setup × ℕ) Fault) → read_setup (head_bytes list master) (length (head_bytes list master)) ≡ got → malformed ≡ read_head list master
    go (Err x) e = rw e
    go (Ok x) e =
        by_test (ltb x.1 (length (head_bytes list master)))
        (λ t. rw (e, t))
        (λ f.
        let read : read_head list master ≡ imaged x.0 fresh_channel = rw (e, f) in
        absurd (omega (arith, ap length (head_list list master fit small read).0, head_many x.0)))

-- A channel's part that is written where the set-up's part ends leaves the image of both: the set-up's bytes stand there already.
module _ (image : List ℕ) (n : ℕ) (y : Bytes image) {setup : Setup} {start : ℕ} (g : read_setup image n ≡ Ok (setup, start)) (next : Channel) where
  within : start ≤ length image
  within =
      let i = setup_inside image n g in
      let w = setup_written (take n image) (bytes_take n image y) i.1 in
      omega (arith, w.1, length-take-le n image i.0, i.0)

  front_size : length (take start image) ≡ start
  front_size = length-take-le start image within

  pub tail_size : start + length (all_bytes (channel_numbers next)) ≡ length (image_bytes setup next)
  tail_size =
      let all = ap length (image_after_lem image n y g next) in
      omega (arith, all, length-append (take start image) (all_bytes (channel_numbers next)), front_size)

  pub tail_placed : sets image start (all_bytes (channel_numbers next)) ≡ sets image 0 (image_bytes setup next)
  tail_placed =
      let front = take start image in
      let size : 0 + length front ≡ start = omega (arith, front_size) in
      let stays : sets image 0 front ≡ image =
      sets-eq front image 0 (omega (arith, within, front_size))
      ∙ ap (λ (k : ℕ). front ++ drop k image) size
      ∙ take-append-drop start image in
      sym
      (ap (sets image 0) (image_after_lem image n y g next)
      ∙ sets_append front (all_bytes (channel_numbers next)) image 0
      ∙ ap₂ (λ (x : List ℕ) (k : ℕ). sets x k (all_bytes (channel_numbers next))) stays size)
