-- Moves along an axis: where they lead, that they add up, that they flip the parity. For any extents and any axis.
use Prim.Native.Nat.{ℕ, zero, suc, ◌+◌, ◌%◌, ◌<◌}
use mathlib.Core.List.{List, [], ◌∷◌}
use mathlib.Core.Path.{◌≡◌, ap, ◌∙◌}
use native.Mathlib.Nat.{add_assoc, mod-lt, mod-eq_of_lt, mod-add-mod, add-mod_right, mod-mod_of_dvd, dvd_of_mod-eq-zero}
use native.Mathlib.Omega.{arith}
use lib.ListN.{length, get_or, set}
use lib.Seq.{get_or-set_same, get_or-set_other, set-set, set-get_or}
use Rattle.geometry.specs.Radix.{volume, coords_of, Within}
use Rattle.geometry.specs.Steps.{moved_of, total, parity_of}
use Rattle.geometry.proofs.Radix.{coords_within, within_set, index_below, coords_index, index_coords}

-- one coordinate changed in a sum
pub total_set : (cs : List ℕ) (mu v : ℕ) → mu < length cs → total (set cs mu v) + get_or cs mu 0 ≡ total cs + v
unfolding total
total_set [] mu v h = absurd (omega arith)
total_set (c ∷ cs) zero v h = omega arith
total_set (c ∷ cs) (suc mu) v h = omega (arith, total_set cs mu v (omega arith))

-- a remainder by an even number keeps the parity
pub even_rem : (a e : ℕ) → e % 2 ≡ 0 → a % e % 2 ≡ a % 2
even_rem a e h = mod-mod_of_dvd 2 a (dvd_of_mod-eq-zero 2 h)

pub parity_small : (d : List ℕ) (n : ℕ) → parity_of d n < 2
unfolding parity_of
parity_small d n = omega arith

module _ (d : List ℕ) (pos : 0 < volume d) (n mu : ℕ) (axis : mu < length d) where
  pub coord_below : get_or (coords_of d n) mu 0 < get_or d mu 0
  coord_below = (coords_within d n pos).each mu axis

  pub coords_long : mu < length (coords_of d n)
  coords_long = omega (arith, (coords_within d n pos).len)

  pub moved_within : (k : ℕ) → Within d (set (coords_of d n) mu ((get_or (coords_of d n) mu 0 + k) % get_or d mu 0))
  moved_within k = within_set d (coords_of d n) mu _ (coords_within d n pos) (mod-lt _ (omega (arith, coord_below)))

  pub moved_below : (k : ℕ) → moved_of d n mu k < volume d
  unfolding moved_of
  moved_below k = index_below d _ (moved_within k)

  pub moved_coords : (k : ℕ) → coords_of d (moved_of d n mu k) ≡ set (coords_of d n) mu ((get_or (coords_of d n) mu 0 + k) % get_or d mu 0)
  unfolding moved_of
  moved_coords k = coords_index d _ (moved_within k)

  -- the coordinates on other axes stay
  pub moved_there : (k nu : ℕ) → (nu ≡ mu → ⊥) → get_or (coords_of d (moved_of d n mu k)) nu 0 ≡ get_or (coords_of d n) nu 0
  moved_there k nu ne = rw (moved_coords k) (get_or-set_other (coords_of d n) mu nu _ 0 ne)

  -- two moves along an axis are one
  pub moved_moved : (j k : ℕ) → moved_of d (moved_of d n mu j) mu k ≡ moved_of d n mu (j + k)
  unfolding moved_of
  moved_moved j k =
      let c = get_or (coords_of d n) mu 0 in
      let e = get_or d mu 0 in
      let s : (((c + j) % e) + k) % e ≡ (c + (j + k)) % e = mod-add-mod (c + j) e k ∙ ap (λ (x : ℕ). x % e) (add_assoc c j k) in
      rw (moved_coords j, get_or-set_same (coords_of d n) mu ((c + j) % e) 0 coords_long, set-set, s)

  -- an odd length along an axis of even extent
  pub moved_flips : (k : ℕ) → get_or d mu 0 % 2 ≡ 0 → k % 2 ≡ 1 → parity_of d (moved_of d n mu k) + parity_of d n ≡ 1
  unfolding parity_of
  moved_flips k even odd =
      let c = get_or (coords_of d n) mu 0 in
      let t = total_set (coords_of d n) mu ((c + k) % get_or d mu 0) coords_long in
      let r = even_rem (c + k) (get_or d mu 0) even in
      rw (moved_coords k) (omega (arith, t, r))

-- once around
pub moved_around : (d : List ℕ) (n mu : ℕ) → n < volume d → mu < length d → moved_of d n mu (get_or d mu 0) ≡ n
unfolding moved_of
moved_around d n mu below axis =
    let c = get_or (coords_of d n) mu 0 in
    let e = get_or d mu 0 in
    let s : (c + e) % e ≡ c = add-mod_right c e ∙ mod-eq_of_lt (coord_below d (omega arith) n mu axis) in
    rw (s, set-get_or (coords_of d n) mu 0) (index_coords d n below)
