-- The test of extents says what Shape says, and what follows for a field's extents.
use Prim.Native.Nat.{ℕ, suc, ◌*◌, ◌%◌, ◌<◌, ◌≤◌}
use mathlib.Core.Bool.{Bool, true, false, ◌&&◌, and-eq-true_iff}
use mathlib.Core.List.{List, [], ◌∷◌}
use mathlib.Core.Path.{◌≡◌, refl, ap}
use native.Mathlib.Nat.{mul-le-mul, mul-pos, le_refl}
use native.Mathlib.Omega.{arith}
use lib.Dec.{leb, eqb}
use lib.ListN.{length, get_or, drop}
use borrow.Author.Tests.{leb-true, eqb-true, le-leb, eq-eqb}
use Rattle.std.specs.List.{list_all}
use Rattle.std.proofs.lemmas.List.Folds.{list_all_at}
use Rattle.folds.specs.Folds.{all_below}
use Rattle.folds.proofs.Laws.{all_each, each_all}
use Rattle.folds.proofs.Few.{below_three, four_are as few-are}
use Rattle.geometry.specs.Radix.{volume}
use Rattle.geometry.specs.Shape.{Extent, Shape, GridShape, extent_test, fits_of}

-- ## one extent

pub extent_true : (e : ℕ) → extent_test e ≡ true → Extent e
unfolding extent_test
extent_true e h =
    let all = (and-eq-true_iff (leb 2 e && leb e 16) (eqb (e % 2) 0)).0 h in
    let ends = (and-eq-true_iff (leb 2 e) (leb e 16)).0 all.0 in
    record { low = leb-true 2 e ends.0; high = leb-true e 16 ends.1; even = eqb-true (e % 2) 0 all.1 }

pub extent_passes : (e : ℕ) → Extent e → extent_test e ≡ true
unfolding extent_test
extent_passes e x = rw (le-leb 2 e x.low, le-leb e 16 x.high, eq-eqb (e % 2) 0 x.even)

-- ## all of them

pub fits_shape : (d : List ℕ) → length d ≡ 4 → fits_of d ≡ true → Shape d
unfolding fits_of
fits_shape d four h = record { four = four; each = λ mu g. extent_true (get_or d mu 0) (all_each (λ (k : ℕ). extent_test (get_or d k 0)) 4 mu g h) }

pub shape_fits : (d : List ℕ) → Shape d → fits_of d ≡ true
unfolding fits_of
shape_fits d s = each_all (λ (k : ℕ). extent_test (get_or d k 0)) 4 (λ mu g. extent_passes (get_or d mu 0) (s.each mu g))

regrouped : (p q r s : Bool) → p && (q && (r && (s && true))) ≡ true && p && q && r && s
regrouped false q r s = refl
regrouped true false r s = refl
regrouped true true false s = refl
regrouped true true true false = refl
regrouped true true true true = refl

-- the code's walk over them
pub all_fit : (d : List ℕ) → length d ≡ 4 → list_all extent_test d ≡ fits_of d
unfolding fits_of all_below
all_fit [] four = absurd (omega arith)
all_fit (a ∷ []) four = absurd (omega arith)
all_fit (a ∷ b ∷ []) four = absurd (omega arith)
all_fit (a ∷ b ∷ c ∷ []) four = absurd (omega arith)
all_fit (a ∷ b ∷ c ∷ e ∷ []) four = regrouped (extent_test a) (extent_test b) (extent_test c) (extent_test e)
all_fit (a ∷ b ∷ c ∷ e ∷ f ∷ l) four = absurd (omega arith)

-- ## a grid

pub grid_extents : (n : List ℕ) → length n ≡ 3 → list_all extent_test n ≡ true → GridShape n
grid_extents n three h = record { three = three; each = λ a g. extent_true (get_or n a 0) (passes (extent_test (get_or n a 0)) a refl g) }
  where
    passes : (b : Bool) (a : ℕ) → extent_test (get_or n a 0) ≡ b → a < 3 → extent_test (get_or n a 0) ≡ true
    passes true a e g = e
    passes false a e g = let fails = list_all_at extent_test n a 0 (omega (arith, three)) e in cc

-- ## what follows

-- a list of four is its four elements
pub four_are : (l : List ℕ) → length l ≡ 4 → l ≡ get_or l 0 0 ∷ get_or l 1 0 ∷ get_or l 2 0 ∷ get_or l 3 0 ∷ []
four_are = few-are 0

pub axis_in : (d : List ℕ) → Shape d → (mu : ℕ) → mu < 4 → mu < length d
axis_in d s mu h = omega (arith, s.four)

product_pos : (d : List ℕ) → ((mu : ℕ) → mu < length d → Extent (get_or d mu 0)) → 0 < volume d
unfolding volume
product_pos [] x = omega arith
product_pos (e ∷ d) x = let l = (x 0 (omega arith)).low in mul-pos (omega arith) (product_pos d (λ mu h. x (suc mu) (omega arith)))

pub volume_pos : (d : List ℕ) → Shape d → 0 < volume d
volume_pos d s = product_pos d (λ mu h. s.each mu (omega (arith, s.four)))

pub volume_high : (d : List ℕ) → Shape d → volume d ≤ 65536
unfolding volume
volume_high d s = rw (four_are d s.four) (mul-le-mul (high 0 (omega arith)) (mul-le-mul (high 1 (omega arith)) (mul-le-mul (high 2 (omega arith)) (mul-le-mul (high 3 (omega arith)) (le_refl 1)))))
  where
    high : (mu : ℕ) → mu < 4 → get_or d mu 0 ≤ 16
    high mu h = (s.each mu h).high

pub space_are : (d : List ℕ) → Shape d → drop 1 d ≡ get_or d 1 0 ∷ get_or d 2 0 ∷ get_or d 3 0 ∷ []
space_are d s = ap (λ (l : List ℕ). drop 1 l) (four_are d s.four)

pub space_fits : (d : List ℕ) → Shape d → GridShape (drop 1 d)
space_fits d s =
    let axes = get_or d 1 0 ∷ get_or d 2 0 ∷ get_or d 3 0 ∷ [] in
    rw (space_are d s) (record { three = refl; each = below_three (λ a. Extent (get_or axes a 0)) (s.each 1 (omega arith)) (s.each 2 (omega arith)) (s.each 3 (omega arith)) })

pub volume_is : (d : List ℕ) → Shape d → get_or d 0 0 * volume (drop 1 d) ≡ volume d
unfolding volume
volume_is d s = rw (four_are d s.four)
