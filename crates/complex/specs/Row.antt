-- Rows of three complex numbers.
use Rattle.std.specs.Prelude.{Float}
use Rattle.root.specs.Sqrt.{sqrt_of}
use Rattle.complex.specs.declared.C64.{C64}
use Rattle.complex.specs.declared.Row.{Row}
use Rattle.complex.specs.Rounded.{◌⊞◌, fzero, inverse}
use Rattle.complex.specs.Complex.{czero, conj_of, norm_sqr, cscale, cadd, csub, cmul, minor, combination}

-- ⟨a, b⟩: the sum of conj a·b from +0
unfoldable pub conj_dot : Row → Row → C64
conj_dot a b =
    cadd
    (cadd (cadd czero (cmul (conj_of a.c0) b.c0)) (cmul (conj_of a.c1) b.c1))
    (cmul (conj_of a.c2) b.c2)

unfoldable pub row_scale : Row → Float → Row
row_scale v s = record { c0 = cscale v.c0 s; c1 = cscale v.c1 s; c2 = cscale v.c2 s }

-- |v|², summed from +0
unfoldable pub row_norm_sqr : Row → Float
row_norm_sqr v = fzero ⊞ norm_sqr v.c0 ⊞ norm_sqr v.c1 ⊞ norm_sqr v.c2

-- v − d·w
unfoldable pub row_sub_mul : Row → C64 → Row → Row
row_sub_mul v d w = record {
  c0 = csub v.c0 (cmul d w.c0);
  c1 = csub v.c1 (cmul d w.c1);
  c2 = csub v.c2 (cmul d w.c2);
}

-- x·a + y·b
unfoldable pub row_combination : C64 → Row → C64 → Row → Row
row_combination x a y b = record {
  c0 = combination x a.c0 y b.c0;
  c1 = combination x a.c1 y b.c1;
  c2 = combination x a.c2 y b.c2;
}

-- v times 1 / |v|
unfoldable pub unit_row : Row → Row
unit_row v = row_scale v (inverse (sqrt_of (row_norm_sqr v)))

-- the conjugate of a × b
unfoldable pub cross_conj : Row → Row → Row
cross_conj a b = record {
  c0 = conj_of (minor a.c1 b.c2 a.c2 b.c1);
  c1 = conj_of (minor a.c2 b.c0 a.c0 b.c2);
  c2 = conj_of (minor a.c0 b.c1 a.c1 b.c0);
}
