use mathlib.Core.Path.{sym, ◌∙◌}
use Rattle.basics.proofs.Tests.{and_left}
use Rattle.frame.proofs.FrameLaws.{framed_levels, framed_slaves, level_count_lem}
use Rattle.frame.proofs.SlaveLaws.{slave_count_lem}
use Rattle.sound.proofs.StoreLaws.{store_told}
use Rattle.image.proofs.write_image.Goals as goal

pub put_image-requires : goal.put_image-requires
put_image-requires c =
    let a = c.args in
    let told = (store_told a.setup a.channel _ (sym c.sound_store.ensures ∙ c.in-Some.is)).0 in
    let framed = and_left _ _ told in
    ((level_count_lem a.setup.levels (framed_levels a.setup framed)).1, (slave_count_lem a.setup.slaves (framed_slaves a.setup framed)).1)
