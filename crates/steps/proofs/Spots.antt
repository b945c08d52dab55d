-- Steps from a spot with its coordinates carried along, and the spot with the next number.
use Prim.Native.Nat.{ℕ, zero, suc, ◌+◌, ◌-◌, ◌%◌, ◌<◌, ◌≤◌}
use mathlib.Core.List.{List, [], ◌∷◌, ◌++◌}
use native.Mathlib.Numerals.{add-one}
use borrow.Author.Tests.{lt-ltb, le-ltb}
use Rattle.std.proofs.Common.{replicate, drop}
use Rattle.std.proofs.lemmas.List.{length-replicate}
use lib.Seq.{drop-cons, get_or-append_seam, set-append_seam}
use mathlib.Core.Path.{◌≡◌, refl, ap, sym, ◌∙◌}
use native.Mathlib.Decide.{dec_lt}
use native.Mathlib.Nat.{mod-eq_of_lt, mod_self, div-eq_of_lt, mul-mod_right, mul-div_cancel_left}
use native.Mathlib.Omega.{arith}
use lib.ListN.{length, get_or, set}
use Rattle.geometry.specs.declared.Spot.{Spot}
use Rattle.geometry.specs.Radix.{volume, coords_of, next_coords, Within}
use Rattle.geometry.specs.Shape.{Shape}
use Rattle.geometry.specs.Steps.{moved_of, fwd_of, bwd_of, spot_of}
use Rattle.geometry.proofs.Shape.{axis_in, volume_pos, four_are}
use Rattle.geometry.proofs.Radix.{left_pos, right_pos, coords_within, next_coords_lem}
use Rattle.geometry.proofs.Steps.{coord_below, moved_coords}

module _ (d : List ℕ) (shape : Shape d) (p : Spot) (spot : p ≡ spot_of d p.site) where
  at_coords : p.at ≡ coords_of d p.site
  unfolding spot_of
  at_coords = ap (λ (q : Spot). q.at) spot

  module _ (mu : ℕ) (axis : mu < 4) where
    pub coord : get_or p.at mu 0 ≡ get_or (coords_of d p.site) mu 0
    coord = rw at_coords

    pub coord_fits : (get_or p.at mu 0 < get_or d mu 0) × (get_or d mu 0 ≤ 65536)
    coord_fits =
        let high = (shape.each mu axis).high in
        (rw at_coords (coord_below d (volume_pos d shape) p.site mu (axis_in d shape mu axis)), omega arith)

    coords_moved : {k : ℕ} (j : ℕ) → k ≡ (get_or p.at mu 0 + j) % get_or d mu 0 → set p.at mu k ≡ coords_of d (moved_of d p.site mu j)
    coords_moved j e = rw (e, at_coords) (sym (moved_coords d (volume_pos d shape) p.site mu (axis_in d shape mu axis) j))

    module _ {site k : ℕ} where
      pub spot_up : site ≡ fwd_of d p.site mu → k ≡ (get_or p.at mu 0 + 1) % get_or d mu 0 → record { site = site; at = set p.at mu k } ≡ spot_of d site
      unfolding spot_of fwd_of
      spot_up e f = rw (coords_moved 1 f, e)

      pub spot_down : site ≡ bwd_of d p.site mu → k ≡ (get_or p.at mu 0 + (get_or d mu 0 - 1)) % get_or d mu 0 → record { site = site; at = set p.at mu k } ≡ spot_of d site
      unfolding spot_of bwd_of
      spot_down e f = rw (coords_moved (get_or d mu 0 - 1) f, e)

  pub spot_within : Within d p.at
  spot_within = rw at_coords (coords_within d p.site (volume_pos d shape))

-- ## the next number

-- the coordinates of which n could not go on, and begin again
unfoldable pub begun : List ℕ → ℕ → List ℕ
begun c n = replicate n 0 ++ drop n c

zero_after : (n : ℕ) (l : List ℕ) → replicate n 0 ++ 0 ∷ l ≡ replicate (suc n) 0 ++ l
zero_after zero l = refl
zero_after (suc n) l = ap (λ (m : List ℕ). 0 ∷ m) (zero_after n l)

-- a loop over the axes that is at the n-th, from the coordinates c to l
pub record After (d c l : List ℕ) (n : ℕ) : Type 0 where
  pub list : l ≡ begun c n
  pub next : next_coords d c ≡ replicate n 0 ++ next_coords (drop n d) (drop n c)

module _ (d c : List ℕ) (shape : Shape d) (within : Within d c) where
  four : length c ≡ 4
  four = rw within.len shape.four

  pub after_none : After d c c 0
  unfolding begun
  after_none = record { list = refl; next = refl }

  module _ (n : ℕ) (axis : n < 4) {l : List ℕ} (i : After d c l n) where
    parts : l ≡ replicate n 0 ++ get_or c n 0 ∷ drop (suc n) c
    unfolding begun
    parts = i.list ∙ rw (drop-cons c n 0 (omega (arith, four)))

    pub here : get_or l n 0 ≡ get_or c n 0
    here = rw parts (rw length-replicate at (get_or-append_seam (replicate n 0) (get_or c n 0) (drop (suc n) c) 0))

    pub small : (get_or l n 0 < get_or d n 0) × (get_or d n 0 ≤ 16)
    small = (rw here (within.each n (omega (arith, shape.four))), (shape.each n axis).high)

    stored : (x : ℕ) → set l n x ≡ replicate n 0 ++ x ∷ drop (suc n) c
    stored x = rw parts (rw length-replicate at (set-append_seam (replicate n 0) (get_or c n 0) (drop (suc n) c) x))

    next_here : next_coords d c ≡ replicate n 0 ++ next_coords (get_or d n 0 ∷ drop (suc n) d) (get_or c n 0 ∷ drop (suc n) c)
    next_here = i.next ∙ rw (drop-cons d n 0 (omega (arith, shape.four)), drop-cons c n 0 (omega (arith, four)))

    pub after_next : get_or d n 0 ≤ get_or l n 0 + 1 → After d c (set l n 0) (n + 1)
    unfolding begun next_coords
    after_next h = record {
      list = rw (add-one n) (stored 0 ∙ zero_after n _);
      next = rw (add-one n) (next_here ∙ rw (le-ltb _ _ (rw here at h)) (zero_after n _));
    }

    pub goes_on : get_or l n 0 + 1 < get_or d n 0 → set l n (get_or l n 0 + 1) ≡ next_coords d c
    unfolding next_coords
    goes_on h = rw (next_here, lt-ltb _ _ (rw here at h)) (stored _ ∙ rw here)

  none_left : (m : List ℕ) → length m ≡ 4 → drop 4 m ≡ []
  none_left m h = rw (four_are m h)

  pub after_all : {l : List ℕ} {n : ℕ} → After d c l n → n ≡ 4 → l ≡ next_coords d c
  unfolding begun next_coords
  after_all i e = rw e at i.list ∙ sym (rw e at i.next ∙ rw (none_left d shape.four, none_left c four))

-- past the last site the coordinates begin again
coords_around : (d : List ℕ) → 0 < volume d → coords_of d (volume d) ≡ coords_of d 0
unfolding coords_of volume
coords_around [] h = refl
coords_around (e ∷ d) h =
    let pos = left_pos e (volume d) h in
    rw (mul-mod_right e (volume d), mul-div_cancel_left (volume d) pos, coords_around d (right_pos e (volume d) h), mod-eq_of_lt pos, div-eq_of_lt pos)

module _ (d : List ℕ) (pos : 0 < volume d) (p : Spot) (spot : p ≡ spot_of d p.site) (below : p.site < volume d) where
  pub next_spot : {site : ℕ} {at : List ℕ} → site ≡ (p.site + 1) % volume d → at ≡ next_coords d p.at → record { site = site; at = at } ≡ spot_of d site
  unfolding spot_of
  next_spot {site} {at} e f = rw (f, ap (λ (q : Spot). q.at) spot, next_coords_lem d p.site pos, e) (go (dec_lt (p.site + 1) (volume d)))
    where
      go : Dec (p.site + 1 < volume d) → ◌≡◌ {A = Spot} (record { site = (p.site + 1) % volume d; at = coords_of d (p.site + 1) }) (record { site = (p.site + 1) % volume d; at = coords_of d ((p.site + 1) % volume d) })
      go (yes h) = rw (mod-eq_of_lt h)
      go (no h) =
          let last : p.site + 1 ≡ volume d = omega arith in
          rw (last, mod_self (volume d), coords_around d pos)

-- ## all neighbours

-- a list of four, by its numbers
pub four_by : (f : ℕ → ℕ) (l : List ℕ) → length l ≡ 4 → get_or l 0 0 ≡ f 0 → get_or l 1 0 ≡ f 1 → get_or l 2 0 ≡ f 2 → get_or l 3 0 ≡ f 3 → l ≡ f 0 ∷ f 1 ∷ f 2 ∷ f 3 ∷ []
four_by f l n a b c e = rw (four_are l n, a, b, c, e)
