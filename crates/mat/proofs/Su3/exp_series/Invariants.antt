use Rattle.std.proofs.Common.{◌≡◌}
use Rattle.mat.specs.Exponential.{term_of, series_of}
use Rattle.mat.proofs.Su3.exp_series.Given as goal

abbrev pub invariant-loop-n : goal.invariant-loop-n
invariant-loop-n l = (l.term ≡ term_of l.q l.n) × (l.result ≡ series_of l.q l.n)
