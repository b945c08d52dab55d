-- Whole numbers: steps of one in i32, offsets in reach.
use Rattle.std.proofs.Common.{ℕ, zero, suc, ◌+◌, ◌<◌, ◌≤◌, List, [], ◌∷◌, ◌≡◌, refl, ap, false, ℤ, pos, negsuc, nat_abs, ◌+ℤ◌, arith, w32, SFits, to_z, of_z}
use Rattle.std.proofs.lemmas.Bool.{or_parts}
use Rattle.std.proofs.lemmas.Int.{ints, to_z-of_z}
use Rattle.std.proofs.Math.ListN.{set}
use Rattle.std.specs.Int.{int_signum}
use Rattle.stairs.specs.Line.{along_of}
use Rattle.stairs.specs.Staircase.{stepped_to, Reached}
use Rattle.stairs.specs.Offsets.{bad_offset, bad_offsets}

-- ## a step of one

signum_low : (d : ℤ) → nat_abs (int_signum d) ≤ 1
signum_low (pos n) = omega arith
signum_low (negsuc n) = omega arith

pub moved_near : (z d : ℤ) → nat_abs (z +ℤ int_signum d) ≤ nat_abs z + 1
moved_near z d = omega (arith, ints, signum_low d)

moved_is : (x y : ℤ) {s : ℤ} → nat_abs x ≤ 96 → SFits w32 y → s ≡ int_signum (to_z w32 (of_z w32 y)) → to_z w32 (of_z w32 (to_z w32 (of_z w32 x) +ℤ to_z w32 (of_z w32 s))) ≡ x +ℤ int_signum y
moved_is x y low fits e = grind (arith, ints, to_z-of_z)

-- what the code adds is the sign s of what d has along the axis
pub moved : (p d : List ℤ) (a : ℕ) {s : ℤ} → Reached p → a < 3 → SFits w32 (along_of d a) → s ≡ int_signum (to_z w32 (of_z w32 (along_of d a)))
    → set p a (to_z w32 (of_z w32 (to_z w32 (of_z w32 (along_of p a)) +ℤ to_z w32 (of_z w32 s)))) ≡ stepped_to p d a
unfolding stepped_to
moved p d a r l fits e = ap (set p a) (moved_is (along_of p a) (along_of d a) (r.each a l) fits e)

-- ## offsets in reach

pub reach_low : (z : ℤ) → bad_offset z ≡ false → nat_abs z ≤ 32
unfolding bad_offset
reach_low z h = grind (arith, ints)

-- ## an offset's three numbers

pub each_offset : (d : List ℤ) (a : ℕ) → bad_offsets d ≡ false → bad_offset (along_of d a) ≡ false
unfolding bad_offsets
each_offset [] a h = unfold bad_offset in refl
each_offset (x ∷ d) zero h = (or_parts _ _ h).0
each_offset (x ∷ d) (suc a) h = each_offset d a (or_parts (bad_offset x) _ h).1
