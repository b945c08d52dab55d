-- What the code works out on the way fits a word.
use Prim.Native.Nat.{ℕ, ◌+◌, ◌*◌, ◌/◌, ◌%◌, ◌<◌, ◌≤◌}
use mathlib.Core.List.{List, [], ◌∷◌}
use mathlib.Core.Path.{◌≡◌}
use native.Mathlib.Nat.{mul_comm, mul-one, mul-zero, add-zero, mul-pos, mul-le-mul, div-lt_iff_lt-mul, mod-eq_of_lt}
use native.Mathlib.Omega.{arith}
use lib.ListN.{length, get_or}
use Rattle.folds.proofs.Few.{three_are}
use Rattle.geometry.specs.Radix.{volume, coords_of, index_of, Within}
use Rattle.geometry.specs.Shape.{Shape, GridShape}
use Rattle.geometry.specs.Steps.{total, parity_of}
use Rattle.geometry.proofs.Radix.{coords_within}
use Rattle.geometry.proofs.Shape.{volume_pos, four_are}

-- ## extents and coordinates

pub record Low (d : List ℕ) : Type 0 where
  pub t : 2 ≤ get_or d 0 0
  pub x : 2 ≤ get_or d 1 0
  pub y : 2 ≤ get_or d 2 0
  pub z : 2 ≤ get_or d 3 0

pub shape_low : (d : List ℕ) → Shape d → Low d
shape_low d s = record { t = (s.each 0 (omega arith)).low; x = (s.each 1 (omega arith)).low; y = (s.each 2 (omega arith)).low; z = (s.each 3 (omega arith)).low }

pub record High (l : List ℕ) : Type 0 where
  pub t : get_or l 0 0 ≤ 16
  pub x : get_or l 1 0 ≤ 16
  pub y : get_or l 2 0 ≤ 16
  pub z : get_or l 3 0 ≤ 16

high : (l : List ℕ) → ((mu : ℕ) → mu < 4 → get_or l mu 0 ≤ 16) → High l
high l at = record { t = at 0 (omega arith); x = at 1 (omega arith); y = at 2 (omega arith); z = at 3 (omega arith) }

pub shape_high : (d : List ℕ) → Shape d → High d
shape_high d s = high d (λ mu h. (s.each mu h).high)

pub within_high : (d c : List ℕ) → Shape d → Within d c → High c
within_high d c s w = high c (λ mu h. omega (arith, w.each mu (omega (arith, s.four)), (s.each mu h).high))

pub coords_high : (d : List ℕ) (n : ℕ) → Shape d → High (coords_of d n)
coords_high d n s = within_high d (coords_of d n) s (coords_within d n (volume_pos d s))

-- ## the cells of a grid

pub record Cells (n : List ℕ) : Type 0 where
  pub some : 0 < get_or n 0 0 * (get_or n 1 0 * get_or n 2 0)
  pub yz : get_or n 1 0 * get_or n 2 0 ≤ 256
  pub xyz : get_or n 0 0 * (get_or n 1 0 * get_or n 2 0) ≤ 4096

pub cells_small : (n : List ℕ) → GridShape n → Cells n
cells_small n g =
    let high : (a : ℕ) → a < 3 → get_or n a 0 ≤ 16 = λ a h. (g.each a h).high in
    let low : (a : ℕ) → a < 3 → 0 < get_or n a 0 = λ a h. omega (arith, (g.each a h).low) in
    let yz = mul-le-mul (high 1 (omega arith)) (high 2 (omega arith)) in
    record { some = mul-pos (low 0 (omega arith)) (mul-pos (low 1 (omega arith)) (low 2 (omega arith))); yz = yz; xyz = mul-le-mul (high 0 (omega arith)) yz }

pub cells_are : (n : List ℕ) → length n ≡ 3 → get_or n 0 0 * (get_or n 1 0 * get_or n 2 0) ≡ volume n
unfolding volume
cells_are n h = rw (three_are 0 n h, mul-one (get_or n 2 0))

-- ## sites by coordinates

product : {a b : ℕ} (j k : ℕ) → a ≤ j → b ≤ k → a * b ≤ j * k
product j k h g = mul-le-mul h g

-- what `index` works out on the way, for extents d and coordinates c
pub record Index (d c : List ℕ) : Type 0 where
  pub z : get_or d 2 0 * get_or c 3 0 ≤ 256
  pub yz : get_or d 1 0 * (get_or c 2 0 + get_or d 2 0 * get_or c 3 0) ≤ 4352
  pub xyz : get_or d 0 0 * (get_or c 1 0 + get_or d 1 0 * (get_or c 2 0 + get_or d 2 0 * get_or c 3 0)) ≤ 69888
  pub high : High c

pub index_small : (d c : List ℕ) → Shape d → Within d c → Index d c
index_small d c s w =
    let e = shape_high d s in
    let at = within_high d c s w in
    let z = product 16 16 e.y at.z in
    let yz : get_or d 1 0 * (get_or c 2 0 + get_or d 2 0 * get_or c 3 0) ≤ 4352 = product 16 272 e.x (omega (arith, z, at.y)) in
    record { z = z; yz = yz; xyz = product 16 4368 e.t (omega (arith, yz, at.x)); high = at }

pub index_is : (d c : List ℕ) → Shape d → Within d c → get_or c 0 0 + get_or d 0 0 * (get_or c 1 0 + get_or d 1 0 * (get_or c 2 0 + get_or d 2 0 * get_or c 3 0)) ≡ index_of d c
unfolding index_of
index_is d c s w =
    let l : length c ≡ 4 = rw w.len s.four in
    rw (four_are d s.four, four_are c l) (simp (mul-zero, add-zero))

-- ## coordinates by number

pub quotient_below : {e v n : ℕ} → 0 < e → n < e * v → n / e < v
quotient_below p i = (div-lt_iff_lt-mul p).1 (rw mul_comm at i)

-- what is left of a site's number after three extents is below the last
pub last_below : (d : List ℕ) (n : ℕ) → Shape d → n < volume d → n / get_or d 0 0 / get_or d 1 0 / get_or d 2 0 < get_or d 3 0
unfolding volume
last_below d n s h =
    let l = shape_low d s in
    let a = quotient_below (omega (arith, l.t)) (rw (four_are d s.four) at h) in
    let b = quotient_below (omega (arith, l.x)) a in
    let c = quotient_below (omega (arith, l.y)) b in
    rw mul-one at c

pub coords_are : (d : List ℕ) (n : ℕ) → Shape d → n < volume d
    → n % get_or d 0 0 ∷ n / get_or d 0 0 % get_or d 1 0 ∷ n / get_or d 0 0 / get_or d 1 0 % get_or d 2 0 ∷ n / get_or d 0 0 / get_or d 1 0 / get_or d 2 0 ∷ [] ≡ coords_of d n
unfolding coords_of
coords_are d n s h = rw (four_are d s.four, mod-eq_of_lt (last_below d n s h))

pub parity_is : (d c : List ℕ) (n : ℕ) → Shape d → c ≡ coords_of d n → (get_or c 0 0 + get_or c 1 0 + get_or c 2 0 + get_or c 3 0) % 2 ≡ parity_of d n
unfolding parity_of total
parity_is d c n s e =
    let l : length c ≡ 4 = rw (e, (coords_within d n (volume_pos d s)).len) s.four in
    rw (← e, four_are c l) (omega arith)

pub grid_low : (n : List ℕ) → GridShape n → (0 < get_or n 0 0) × (0 < get_or n 1 0) × (0 < get_or n 2 0)
grid_low n g =
    let low : (a : ℕ) → a < 3 → 0 < get_or n a 0 = λ a h. omega (arith, (g.each a h).low) in
    (low 0 (omega arith), low 1 (omega arith), low 2 (omega arith))

pub cell_coords : (n : List ℕ) (k : ℕ) → GridShape n → k < volume n → k % get_or n 0 0 ∷ k / get_or n 0 0 % get_or n 1 0 ∷ k / get_or n 0 0 / get_or n 1 0 ∷ [] ≡ coords_of n k
unfolding coords_of volume
cell_coords n k g h =
    let low = grid_low n g in
    let a = quotient_below low.0 (rw (three_are 0 n g.three) at h) in
    let b = quotient_below low.1 a in
    rw (three_are 0 n g.three, mod-eq_of_lt (rw mul-one at b))
