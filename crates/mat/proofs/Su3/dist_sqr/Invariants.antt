use Rattle.std.proofs.Common.{◌≡◌, get_or}
use Rattle.folds.specs.Folds.{fold_to}
use Rattle.complex.specs.Rounded.{◌⊞◌, fzero}
use Rattle.complex.specs.Complex.{norm_sqr, cnan}
use Rattle.mat.proofs.Su3.dist_sqr.Given as goal

abbrev pub invariant-loop-c : goal.invariant-loop-c
invariant-loop-c l = l.s ≡ fold_to (λ s x. s ⊞ x) fzero (λ k. norm_sqr (get_or l.c-items k cnan)) l.c-index
