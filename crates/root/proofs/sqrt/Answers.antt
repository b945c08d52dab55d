use Rattle.std.proofs.Common.{T, sym, subst, arith, ltb-true}
use lib.Ieee.{binary64, fits}
use Rattle.root.proofs.Cases.{positive_finite, bits_in, root_of_bits, at_infinity}
use Rattle.root.proofs.sqrt.Goals as goal
use Rattle.root.proofs.sqrt.Goals.{Start}

-- what owning an `f64` tells: the format holds it
held : (c : Start) → T (fits binary64 c.args.x)
held c = subst T (sym c.well_formed.0.1) tt

pub invariant_of-root_subnormal : goal.invariant_of-root_subnormal
invariant_of-root_subnormal c =
    let b = bits_in c.args.x (held (goal.at.invariant_of-root_subnormal c).Start) (positive_finite c.args.x c.if-x.true (omega arith)) in
    record { positive = b.0; finite = b.1 }

pub returns-then-bits-lt9218868437227405312 : goal.returns-then-bits-lt9218868437227405312
returns-then-bits-lt9218868437227405312 c =
    root_of_bits c.args.x c.root_normal.result (held (goal.at.returns-then-bits-lt9218868437227405312 c).Start) (positive_finite c.args.x c.if-x.true (omega (arith, ltb-true))) c.root_normal.ensures

pub returns-then-bits-lt4503599627370496 : goal.returns-then-bits-lt4503599627370496
returns-then-bits-lt4503599627370496 c =
    root_of_bits c.args.x c.root_subnormal.result (held (goal.at.returns-then-bits-lt4503599627370496 c).Start) (positive_finite c.args.x c.if-x.true (omega arith)) c.root_subnormal.ensures

pub returns-else-bits-lt4503599627370496 : goal.returns-else-bits-lt4503599627370496
returns-else-bits-lt4503599627370496 c =
    at_infinity c.args.x (held (goal.at.returns-else-bits-lt4503599627370496 c).Start) c.if-x.true (grind arith)
