-- Quaternions a0 + i(a1 σ1 + a2 σ2 + a3 σ3), and the 2×2 matrices that they are.
use Rattle.std.specs.Prelude.{Float}
use Rattle.std.specs.Float.Ieee.{neg}
use Rattle.root.specs.Sqrt.{sqrt_of}
use Rattle.quat.specs.declared.Mat2.{Mat2}
use Rattle.quat.specs.declared.Quat.{Quat}
use Rattle.complex.specs.Rounded.{◌⊞◌, ◌⊟◌, ◌⊠◌, fzero, fhalf}
use Rattle.complex.specs.Complex.{complex_of}

-- the orthogonal projection of a 2×2 block onto the real span of SU(2)
unfoldable pub project_of : Mat2 → Quat
project_of w = record {
  a0 = fhalf ⊠ (w.m00.re ⊞ w.m11.re);
  a1 = fhalf ⊠ (w.m01.im ⊞ w.m10.im);
  a2 = fhalf ⊠ (w.m01.re ⊟ w.m10.re);
  a3 = fhalf ⊠ (w.m00.im ⊟ w.m11.im);
}

unfoldable pub quat_norm : Quat → Float
quat_norm q = sqrt_of (fzero ⊞ q.a0 ⊠ q.a0 ⊞ q.a1 ⊠ q.a1 ⊞ q.a2 ⊠ q.a2 ⊞ q.a3 ⊠ q.a3)

unfoldable pub quat_conj : Quat → Quat
quat_conj q = record { a0 = q.a0; a1 = neg q.a1; a2 = neg q.a2; a3 = neg q.a3 }

-- a0 b0 − a·b + i(a0 b + b0 a − a × b)
unfoldable pub quat_mul : Quat → Quat → Quat
quat_mul a b = record {
  a0 = a.a0 ⊠ b.a0 ⊟ a.a1 ⊠ b.a1 ⊟ a.a2 ⊠ b.a2 ⊟ a.a3 ⊠ b.a3;
  a1 = a.a0 ⊠ b.a1 ⊞ b.a0 ⊠ a.a1 ⊟ (a.a2 ⊠ b.a3 ⊟ a.a3 ⊠ b.a2);
  a2 = a.a0 ⊠ b.a2 ⊞ b.a0 ⊠ a.a2 ⊟ (a.a3 ⊠ b.a1 ⊟ a.a1 ⊠ b.a3);
  a3 = a.a0 ⊠ b.a3 ⊞ b.a0 ⊠ a.a3 ⊟ (a.a1 ⊠ b.a2 ⊟ a.a2 ⊠ b.a1);
}

unfoldable pub to_mat : Quat → Mat2
to_mat q = record {
  m00 = complex_of q.a0 q.a3;
  m01 = complex_of q.a2 q.a1;
  m10 = complex_of (neg q.a2) q.a1;
  m11 = complex_of q.a0 (neg q.a3);
}
