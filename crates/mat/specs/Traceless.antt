-- The anti-Hermitian traceless part (M − M†)/2 − Tr(M − M†)/6 · 1.
use Rattle.std.specs.Prelude.{set}
use Rattle.complex.specs.declared.C64.{C64}
use Rattle.mat.specs.declared.Su3.{Su3}
use Rattle.complex.specs.Rounded.{fhalf, fthree, inverse}
use Rattle.complex.specs.Complex.{cscale, csub}
use Rattle.mat.specs.Matrix.{at, dagger_of, scale_of, sub_of, trace_of}

-- (M − M†)/2
unfoldable pub anti_of : Su3 → Su3
anti_of a = scale_of (sub_of a (dagger_of a)) fhalf

-- M − t·1
unfoldable pub sub_diag : Su3 → C64 → Su3
sub_diag a t = record {
  m = set (set (set a.m 0 (csub (at a 0 0) t)) 4 (csub (at a 1 1) t)) 8 (csub (at a 2 2) t);
}

-- the trace is taken of (M − M†)/2, and multiplied by 1/3
unfoldable pub traceless_of : Su3 → Su3
traceless_of a = sub_diag (anti_of a) (cscale (trace_of (anti_of a)) (inverse fthree))
