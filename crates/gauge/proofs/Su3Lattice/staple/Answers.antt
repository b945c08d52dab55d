use Rattle.std.proofs.Common.{refl, ap, ◌∙◌, arith}
use Rattle.gauge.specs.Staple.{staples_to, staple_of}
use Rattle.gauge.specs.Paired.{matrix_of}
use Rattle.gauge.proofs.Su3Lattice.staple.Goals as goal

pub loop-nu-init : goal.loop-nu-init
unfolding staples_to matrix_of
loop-nu-init c = refl

pub returns : goal.returns
unfolding staple_of
returns c = c.into.ensures ∙ c.loop-nu-2.invariant ∙ ap (staples_to _ _ _ _) {x = c.loop-nu-2.nu} (omega arith)
