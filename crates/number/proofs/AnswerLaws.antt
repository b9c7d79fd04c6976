-- No two answers share their numbers. Assumes nothing.
use mathlib.Core.Path.{◌≡◌, sym, ap}
use Rattle.basics.proofs.SameLaws.{at}
use Rattle.refusal.proofs.NumberLaws.{one_number, not_zero}
use Rattle.std.specs.Prelude.{Ok, Err}
use Rattle.number.specs.Number.{NumberRead, NumberWritten, Number, fault, reading_numbers, writing_numbers}

pub one_read : (a b : NumberRead) → reading_numbers a ≡ reading_numbers b → a ≡ b
one_read (Number v n) (Number w m) e = let x = at 1 e in let y = at 2 e in λ i. Number (x i) (y i)
one_read (Number v n) (Err f) e = absurd (not_zero f.why (sym (at 0 e)))
one_read (Err f) (Number w m) e = absurd (not_zero f.why (at 0 e))
one_read (Err f) (Err g) e = let x = one_number f.why g.why (at 0 e) in let y = at 1 e in λ i. Err (fault (x i) (y i))

pub one_written : (a b : NumberWritten) → writing_numbers a ≡ writing_numbers b → a ≡ b
one_written (Ok n) (Ok m) e = ap Ok (at 1 e)
one_written (Ok n) (Err b) e = absurd (not_zero b (sym (at 0 e)))
one_written (Err a) (Ok m) e = absurd (not_zero a (at 0 e))
one_written (Err a) (Err b) e = ap Err (one_number a b (at 0 e))
