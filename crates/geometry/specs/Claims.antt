-- What is proved of extents, sites, neighbours and parities. All but the first two and, of the last, count and nth hold for any extents and any axis.
use Rattle.std.specs.Prelude.{ℕ, ◌+◌, ◌%◌, ◌<◌, ◌≤◌, true, ◌≡◌, length, get_or}
use mathlib.Core.List.{List, Mem, Nodup}
use Rattle.geometry.specs.Radix.{volume, coords_of, index_of, Within}
use Rattle.geometry.specs.Shape.{Shape, fits_of}
use Rattle.geometry.specs.Steps.{moved_of, fwd_of, bwd_of, parity_of}
use Rattle.geometry.specs.Order.{sites_of, half_of, nth_of}

-- the test of extents says what Shape says
pub record FitsIsShape : Type 0 where
  pub passes : (d : List ℕ) → Shape d → fits_of d ≡ true
  pub passed : (d : List ℕ) → length d ≡ 4 → fits_of d ≡ true → Shape d

-- a field has at most 16 · 16 · 16 · 16 sites
abbrev pub SitesAreBounded : Type 0
SitesAreBounded = (d : List ℕ) → Shape d → volume d ≤ 65536

-- a site's number and its coordinates give back each other
pub record CoordsInverse : Type 0 where
  pub within : (d : List ℕ) (n : ℕ) → n < volume d → Within d (coords_of d n)
  pub index_coords : (d : List ℕ) (n : ℕ) → n < volume d → index_of d (coords_of d n) ≡ n
  pub below : (d c : List ℕ) → Within d c → index_of d c < volume d
  pub coords_index : (d c : List ℕ) → Within d c → coords_of d (index_of d c) ≡ c

-- a step on and a step back lead to where one was
pub record NeighboursInverse : Type 0 where
  pub bwd_fwd : (d : List ℕ) (n mu : ℕ) → n < volume d → mu < length d → bwd_of d (fwd_of d n mu) mu ≡ n
  pub fwd_bwd : (d : List ℕ) (n mu : ℕ) → n < volume d → mu < length d → fwd_of d (bwd_of d n mu) mu ≡ n

-- a move of odd length along an axis of even extent leads to the other parity
abbrev pub ParityFlips : Type 0
ParityFlips =
    (d : List ℕ) (n mu k : ℕ) → n < volume d → mu < length d → get_or d mu 0 % 2 ≡ 0 → k % 2 ≡ 1 → parity_of d (moved_of d n mu k) + parity_of d n ≡ 1

-- the sites of a parity: each of them and no other, once; half of all; the k-th is nth_of's, which rises with k
pub record SitesInOrder : Type 0 where
  pub inside : (d : List ℕ) (p n : ℕ) → Mem n (sites_of d p) → (n < volume d) × (parity_of d n ≡ p)
  pub all : (d : List ℕ) (p n : ℕ) → n < volume d → parity_of d n ≡ p → Mem n (sites_of d p)
  pub once : (d : List ℕ) (p : ℕ) → Nodup (sites_of d p)
  pub count : (d : List ℕ) → Shape d → (p : ℕ) → p < 2 → length (sites_of d p) ≡ half_of d
  pub nth : (d : List ℕ) → Shape d → (p : ℕ) → p < 2 → (k : ℕ) → k < half_of d → get_or (sites_of d p) k 0 ≡ nth_of d p k
  pub rises : (d : List ℕ) (p i k : ℕ) → i < k → nth_of d p i < nth_of d p k
