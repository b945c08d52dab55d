use Rattle.std.proofs.Common.{◌≡◌, refl, arith}
use Rattle.folds.specs.Folds.{fold_to}
use Rattle.folds.proofs.Laws.{fold_none, fold_next}
use Rattle.mat.specs.Matrix.{dist_sqr, sub_of}
use Rattle.mat.proofs.Su3.dist_sqr.Goals as goal

pub loop-c-init : goal.loop-c-init
loop-c-init c = fold_none _ _ _

pub loop-c-preserved : goal.loop-c-preserved
loop-c-preserved c = fold_next _ _ _ _ c.loop-c.invariant c.norm_sqr-s.ensures refl

pub returns : goal.returns
unfolding dist_sqr sub_of fold_to
returns c = let n : c.loop-c.c-index ≡ 9 = omega arith in rw (c.loop-c.invariant, n, c.sub.ensures)
