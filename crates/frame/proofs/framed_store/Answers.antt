use mathlib.Core.Path.{◌≡◌, ◌∙◌}
use mathlib.Core.Bool.{true, false, ◌&&◌, and-true, and-false}
use Rattle.std.specs.Prelude.{None}
use Rattle.basics.proofs.Tests.{by_test, and_left, and_right}
use Rattle.frame.specs.declared.Setup.{Setup}
use Rattle.frame.specs.Find.{store_if, framed_store}
use Rattle.frame.specs.Frame.{levels_fit, slaves_fit, is_master_length, is_framed}
use Rattle.frame.proofs.framed_store.Goals as goal

whole : (setup : Setup) → (levels_fit setup.levels && is_master_length setup.master) ≡ true
    → store_if (slaves_fit setup.slaves) setup.slaves ≡ framed_store setup
unfolding framed_store is_framed
whole setup e =
    let l : levels_fit setup.levels ≡ true = and_left _ _ e in
    let m : is_master_length setup.master ≡ true = and_right (levels_fit setup.levels) _ e in
    rw (l, m, and-true (slaves_fit setup.slaves))

part : (setup : Setup) → (levels_fit setup.levels && is_master_length setup.master) ≡ false → None ≡ framed_store setup
unfolding framed_store is_framed
part setup e =
    by_test (levels_fit setup.levels)
    (λ t. let f : is_master_length setup.master ≡ false = rw t at e in rw (t, f, and-false (slaves_fit setup.slaves)))
    (λ f. rw f)

pub returns-then-levels_fit-is_master_length : goal.returns-then-levels_fit-is_master_length
returns-then-levels_fit-is_master_length c =
    let e = rw (c.levels_fit.ensures, c.is_master_length.ensures) at c.if-levels_fit-is_master_length.true in
    c.fitting_store.ensures ∙ whole _ e

pub returns : goal.returns
returns c =
    let e = rw (c.levels_fit.ensures, c.is_master_length.ensures) at c.if-levels_fit-is_master_length.false in
    part _ e
