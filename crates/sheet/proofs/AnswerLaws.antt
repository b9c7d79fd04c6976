-- No two answers share their numbers. Assumes nothing.
use mathlib.Core.Path.{◌≡◌, sym, ap}
use Rattle.std.specs.Prelude.{Ok, Err}
use Rattle.basics.proofs.SameLaws.{at}
use Rattle.refusal.proofs.NumberLaws.{one_number, not_zero}
use Rattle.number.specs.Number.{fault}
use Rattle.sheet.specs.Sheet.{SheetAnswer, sheet_numbers}

pub one_answer : (a b : SheetAnswer) → sheet_numbers a ≡ sheet_numbers b → a ≡ b
one_answer (Ok n) (Ok m) e = ap Ok (at 1 e)
one_answer (Ok n) (Err f) e = absurd (not_zero f.why (sym (at 0 e)))
one_answer (Err f) (Ok m) e = absurd (not_zero f.why (at 0 e))
one_answer (Err f) (Err g) e = let x = one_number f.why g.why (at 0 e) in let y = at 1 e in λ i. Err (fault (x i) (y i))
