-- Places of space by their three coordinates.
use Rattle.std.proofs.Common.{ℕ, ◌+◌, ◌*◌, ◌%◌, ◌<◌, List, [], ◌∷◌, map, ◌≡◌, length, get_or, refl, mul-zero, add-zero, arith}
use native.Mathlib.Nat.{mod-lt, mul-le-mul_left}
use Rattle.folds.proofs.Few.{below_three}
use Rattle.geometry.specs.Range.{range}
use Rattle.geometry.specs.Radix.{volume, coords_of, index_of, Within}
use Rattle.geometry.proofs.Range.{length-listed, listed_at}
use Rattle.geometry.proofs.Radix.{coords_within, index_below, coords_index}
use Rattle.slices.specs.Slices.{shifted}

-- ## three extents

module _ (nx ny nz : ℕ) where
  abbrev pub three : List ℕ
  three = nx ∷ ny ∷ nz ∷ []

  pub within_three : (x y z : ℕ) → x < nx → y < ny → z < nz → Within three (x ∷ y ∷ z ∷ [])
  within_three x y z a b c = record { len = refl; each = below_three (λ mu. get_or (x ∷ y ∷ z ∷ []) mu 0 < get_or three mu 0) a b c }

  pub three_below : (x y z : ℕ) → x < nx → y < ny → z < nz → x + nx * (y + ny * z) < nx * (ny * nz)
  three_below x y z a b c = below a (below b c)
    where
      below : {c n q m : ℕ} → c < n → q < m → c + n * q < n * m
      below {c} {n} {q} {m} h g = omega (arith, h, mul-le-mul_left n g)

  pub index_three : (x y z : ℕ) → index_of three (x ∷ y ∷ z ∷ []) ≡ x + nx * (y + ny * z)
  unfolding index_of
  index_three x y z = simp (mul-zero, add-zero)

  pub shifted_three : (c : List ℕ) (x y z : ℕ) → x < nx → y < ny → z < nz
      → shifted three c (x + nx * (y + ny * z)) ≡ (x + get_or c 0 0) % nx + nx * ((y + get_or c 1 0) % ny + ny * ((z + get_or c 2 0) % nz))
  unfolding shifted range
  shifted_three c x y z a b e =
      rw (← (index_three x y z), coords_index three (x ∷ y ∷ z ∷ []) (within_three x y z a b e))
      (index_three ((x + get_or c 0 0) % nx) ((y + get_or c 1 0) % ny) ((z + get_or c 2 0) % nz))

-- ## offsets

module _ (e c : List ℕ) (pos : 0 < volume e) (k : ℕ) where
  abbrev sums : ℕ → ℕ
  sums mu = (get_or (coords_of e k) mu 0 + get_or c mu 0) % get_or e mu 0

  sums_within : Within e (map sums (range (length e)))
  sums_within = record {
    len = length-listed sums (length e);
    each = λ mu h.
        let some : 0 < get_or e mu 0 = omega (arith, (coords_within e k pos).each mu h) in
        rw (listed_at sums 0 (length e) mu h) (mod-lt _ some);
  }

  pub shifted_below : shifted e c k < volume e
  unfolding shifted
  shifted_below = index_below e _ sums_within

  pub shifted_coords : coords_of e (shifted e c k) ≡ map sums (range (length e))
  unfolding shifted
  shifted_coords = coords_index e _ sums_within
