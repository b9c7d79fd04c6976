use Rattle.basics.specs.Scan.{all_below}
use Rattle.channel.specs.Channel.{request_of}
use Rattle.sound.specs.inner.Tables.{is_blank_or}
use mathlib.Core.Path.{◌≡◌}
use Rattle.std.proofs.Common.{ℕ}
use Rattle.sound.proofs.are_blank.Given as goal

abbrev pub invariant-loop-level : goal.invariant-loop-level
invariant-loop-level v = v.all ≡ all_below (λ (l : ℕ). is_blank_or (request_of v.channel l)) v.level
