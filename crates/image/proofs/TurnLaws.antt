-- One turn of each loop that reads an image, by what stands at the place. Assumes nothing.
use Prim.Native.Nat.{ℕ, suc, ◌+◌}
use mathlib.Core.Path.{◌≡◌, ap, ◌∙◌}
use borrow.Author.Tests.{eq-eqb, ne_eqb}
use lib.ListN.{set}
use Rattle.std.specs.Prelude.{Ok, Err}
use Rattle.number.specs.declared.Fault.{Fault}
use Rattle.number.specs.Number.{Number}
use Rattle.numbers.specs.Numbers.{Part, Reading, ◌>>=◌, passed}
use Rattle.frame.specs.declared.LevelRow.{LevelRow}
use Rattle.frame.specs.declared.SlaveRow.{SlaveRow}
use Rattle.frame.specs.declared.Setup.{Setup}
use Rattle.frame.specs.declared.RowKind.TheVariants.{Levels, Slaves}
use Rattle.frame.specs.Kind.{with_levels, with_slaves}
use Rattle.channel.specs.declared.Channel.{Channel}
use Rattle.channel.specs.declared.Request.{Request}
use Rattle.channel.specs.Channel.{with_request}
use Rattle.image.specs.Read.{Read, rows_at, channel_read, requests_at, ended, nothing_after}
use Rattle.image.specs.inner.Rows.{read_level, read_slave, read_request}
use Rattle.image.proofs.Told.{read_one}

-- what was read of a row or of a request, by its part
abbrev read_by : {A : Type 0} → Part → A → Read A
read_by part here = part >>= λ past. Ok (here, past)

part_ok : {A : Type 0} (part : Part) (here : A) {x : A} {end : ℕ} → read_by part here ≡ Ok (x, end) → (part ≡ Ok end) × (here ≡ x)
part_ok {A} (Ok past) here e = let same = read_one e in (ap (λ (y : A × ℕ). Ok y.1) same, ap (λ (y : A × ℕ). y.0) same)
part_ok (Err x) here e = cc

part_err : {A : Type 0} (part : Part) (here : A) {f : Fault} → read_by part here ≡ Err f → part ≡ Err f
part_err (Ok past) here e = cc
part_err (Err x) here e = cc

-- rows, of which one more is due
module _ (src : Reading) (at : ℕ) {left k : ℕ} (more : left ≡ suc k) (i : ℕ) (setup : Setup) where
  pub level_fault : {f : Fault} → read_level src at ≡ Err f → rows_at Levels src left i setup at ≡ Err f
  level_fault e = rw (more, part_err (passed src 3 at) _ e)

  pub level_on : {row : LevelRow} {next : ℕ} → read_level src at ≡ Ok (row, next)
      → rows_at Levels src k (i + 1) (with_levels setup (record { rows = set setup.levels.rows i row; count = setup.levels.count })) next
      ≡ rows_at Levels src left i setup at
  level_on e = let p = part_ok (passed src 3 at) _ e in rw (more, p.0, p.1)

  pub slave_fault : {f : Fault} → read_slave src at ≡ Err f → rows_at Slaves src left i setup at ≡ Err f
  slave_fault e = rw (more, part_err (passed src 5 at) _ e)

  pub slave_on : {row : SlaveRow} {next : ℕ} → read_slave src at ≡ Ok (row, next)
      → rows_at Slaves src k (i + 1) (with_slaves setup (record { rows = set setup.slaves.rows i row; count = setup.slaves.count })) next
      ≡ rows_at Slaves src left i setup at
  slave_on e = let p = part_ok (passed src 5 at) _ e in rw (more, p.0, p.1)

-- requests, of which the place is one more; the number that stands there are the bytes left of one
module _ (src : Reading) (len at : ℕ) {left k : ℕ} (more : left ≡ suc k) (l : ℕ) (ch : Channel) where
  pub requests_fault : {f : Fault} → src at ≡ Err f → channel_read ch (Err f) ≡ nothing_after len (requests_at src left l ch at)
  unfolding requests_at
  requests_fault r = rw (more, r)

  module _ {n next : ℕ} (r : src at ≡ Number n next) where
    pub requests_none : n ≡ 0 → requests_at src k (l + 1) ch next ≡ requests_at src left l ch at
    unfolding requests_at
    requests_none z = rw (more, r, eq-eqb n 0 z)

    -- its other numbers are read
    module _ (some : n ≡ 0 → ⊥) where
      pub requests_short : {f : Fault} → read_request src n next ≡ Err f → channel_read ch (Err f) ≡ nothing_after len (requests_at src left l ch at)
      unfolding requests_at
      requests_short e = rw (more, r, ne_eqb n 0 some, part_err (passed src 4 next) _ e)

      pub requests_on : {request : Request} {end : ℕ} → read_request src n next ≡ Ok (request, end)
          → requests_at src k (l + 1) (with_request ch l request) end ≡ requests_at src left l ch at
      unfolding requests_at
      requests_on e = let p = part_ok (passed src 4 next) _ e in rw (more, r, ne_eqb n 0 some, p.0, p.1)

-- none is due, and the image ends or not
pub requests_done : (src : Reading) (len at : ℕ) {left : ℕ} → left ≡ 0 → (l : ℕ) (ch : Channel) {part : Part} → part ≡ ended len at
    → channel_read ch part ≡ nothing_after len (requests_at src left l ch at)
unfolding requests_at
requests_done src len at none l ch is = ap (channel_read ch) is ∙ rw none
