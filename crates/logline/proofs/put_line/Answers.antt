use Prim.Native.Nat.{ℕ, ◌+◌, ◌-◌}
use Rattle.logline.proofs.DigitLaws.{digits_most}
use Rattle.logline.proofs.TextLaws.{fields_more, fields_none, write_more}
use Rattle.logline.specs.Text.{digits, field, fields_from, place_after, out_after}
use lib.ListN.{get_or}
use lib.ListN.{length, set, length-append}
use lib.Seq.{sets}
use mathlib.Core.List.{List, [], ◌∷◌, ◌++◌}
use mathlib.Core.Path.{◌≡◌, sym, ap, ◌∙◌}
use native.Mathlib.Numerals.{add-one}
use native.Mathlib.Omega.{arith}
use Rattle.logline.proofs.put_line.Goals as goal

pub returns-then-not-has_room : goal.returns-then-not-has_room
unfolding place_after out_after
returns-then-not-has_room c =
    let e = sym c.has_room.ensures ∙ c.if-not-has_room.true in
    record {
      value = rw e;
      out_after = rw e;
    }

pub loop-number-preserved : goal.loop-number-preserved
loop-number-preserved c =
    let a = c.args in
    let l = c.loop-number in
    let k = c.put_field-next.ensures in
    let numbers = c.args.numbers.now in
    let i = l.number-index in
    let count = length numbers in
    let n = get_or numbers i 0 in
    let rest = fields_from numbers (i + 1) (count - (i + 1)) in
    let e : l.next + 1 + length (digits 9 n) ≡ l.next + length (field n) = omega arith in
    let m = ap length (fields_more numbers i count (omega arith)) in (
      omega (arith, k.value, digits_most 9 n),
      rw (k.out_after, k.value, e) (write_more numbers i _ l.next l.out _ (omega arith) l.invariant.1),
      omega (arith, k.value, m, length-append (field n) rest, l.invariant.2),
      l.invariant.3,
    )

pub returns : goal.returns
unfolding place_after out_after
returns c =
    let a = c.args in
    let l = c.loop-number in
    let numbers = c.args.numbers.now in
    let all = fields_from numbers 0 (length numbers) in
    let e = sym c.has_room.ensures ∙ c.if-not-has_room.false in
    let z = fields_none numbers l.number-index (length numbers) (omega arith) in record {
      value = rw e (omega (arith, length-append all (10 ∷ []), l.invariant.2, ap length z));
      out_after = rw e
          (sym (ap (λ (t : List ℕ). sets l.out l.next (t ++ (10 ∷ []))) z)
          ∙ l.invariant.1
          ∙ ap (λ (j : ℕ). sets (set a.out.now a.at a.letter) j (all ++ (10 ∷ []))) (add-one a.at));
    }
