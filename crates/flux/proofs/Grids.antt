-- A grid and a field of the same extents in space.
use Rattle.std.proofs.Common.{ℕ, not, false, nat_eq, List, [], ◌∷◌, ◌≡◌, get_or, drop, ap, sym}
use Rattle.std.specs.Cmp.Lexicographic.{pointwise, same_text}
use borrow.Author.Tests.{not-false}
use Rattle.geometry.specs.Radix.{volume}
use Rattle.geometry.specs.Shape.{Shape}
use Rattle.geometry.proofs.Shape.{space_are}
use Rattle.slices.specs.Slices.{places}
use Rattle.flux.specs.Situations.{other_grid}

-- the code's test, by a field's extents in space
pub other_is : (n d : List ℕ) → Shape d → {s : List ℕ} → s ≡ drop 1 d → not (pointwise nat_eq n s) ≡ other_grid n d
unfolding other_grid
other_is n d shape e = rw (e, space_are d shape)

-- a field's x, y, z
pub same_cells : (n d : List ℕ) → Shape d → other_grid n d ≡ false → volume n ≡ places d
unfolding other_grid
same_cells n d shape h = rw (space_are d shape) (ap volume (same_text n (get_or d 1 0 ∷ get_or d 2 0 ∷ get_or d 3 0 ∷ []) (sym (not-false _ h))))
