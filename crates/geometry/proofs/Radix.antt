-- Number and coordinates give back each other, whatever the extents.
use Prim.Native.Nat.{ℕ, zero, suc, ◌+◌, ◌*◌, ◌/◌, ◌%◌, ◌<◌}
use mathlib.Core.Bool.{cond}
use mathlib.Core.List.{List, [], ◌∷◌}
use mathlib.Core.Path.{◌≡◌, refl, ap, sym, ◌∙◌}
use native.Mathlib.Nat.{zero-mul, mul-zero, mul_comm, zero-add, mod-lt, mod-eq_of_lt, mod-add-div, div-eq_of_lt, div-lt_iff_lt-mul, add-mul-div_left, add-mul-mod_self_left, mul-le-mul_left, mul-add}
use native.Mathlib.Decide.{dec_lt}
use native.Mathlib.Omega.{arith}
use lib.Dec.{ltb}
use lib.ListN.{length, get_or, set, replicate}
use borrow.Author.Tests.{lt-ltb, le-ltb}
use Rattle.geometry.specs.Radix.{volume, coords_of, index_of, next_coords, Within}

-- ## extents above 0

pub left_pos : (a b : ℕ) → 0 < a * b → 0 < a
left_pos zero b h = absurd (omega (arith, zero-mul b))
left_pos (suc a) b h = omega arith

pub right_pos : (a b : ℕ) → 0 < a * b → 0 < b
right_pos a zero h = absurd (omega (arith, mul-zero a))
right_pos a (suc b) h = omega arith

-- ## coordinates below their extents

more : {e c : ℕ} {d cs : List ℕ} → c < e → Within d cs → Within (e ∷ d) (c ∷ cs)
more {e} {c} {d} {cs} h w = record { len = ap suc w.len; each = go }
  where
    go : (mu : ℕ) → mu < length (e ∷ d) → get_or (c ∷ cs) mu 0 < get_or (e ∷ d) mu 0
    go zero g = h
    go (suc mu) g = w.each mu (omega arith)

rest : {e c : ℕ} {d cs : List ℕ} → Within (e ∷ d) (c ∷ cs) → Within d cs
rest w = record { len = omega (arith, w.len); each = λ mu h. w.each (suc mu) (omega arith) }

pub coords_within : (d : List ℕ) (n : ℕ) → 0 < volume d → Within d (coords_of d n)
unfolding coords_of volume
coords_within [] n h = record { len = refl; each = λ mu g. absurd (omega arith) }
coords_within (e ∷ d) n h = more (mod-lt n (left_pos e (volume d) h)) (coords_within d (n / e) (right_pos e (volume d) h))

pub within_set : (d cs : List ℕ) (mu v : ℕ) → Within d cs → v < get_or d mu 0 → Within d (set cs mu v)
within_set [] cs mu v w h = absurd (omega arith)
within_set (e ∷ d) [] mu v w h = absurd (omega (arith, w.len))
within_set (e ∷ d) (c ∷ cs) zero v w h = more h (rest w)
within_set (e ∷ d) (c ∷ cs) (suc mu) v w h = more (w.each 0 (omega arith)) (within_set d cs mu v (rest w) h)

-- ## there and back

pub index_below : (d cs : List ℕ) → Within d cs → index_of d cs < volume d
unfolding index_of volume
index_below [] cs w = omega arith
index_below (e ∷ d) [] w = absurd (omega (arith, w.len))
index_below (e ∷ d) (c ∷ cs) w = omega (arith, w.each 0 (omega arith), mul-le-mul_left e (index_below d cs (rest w)))

pub coords_index : (d cs : List ℕ) → Within d cs → coords_of d (index_of d cs) ≡ cs
unfolding index_of coords_of
coords_index [] [] w = refl
coords_index [] (c ∷ cs) w = absurd (omega (arith, w.len))
coords_index (e ∷ d) [] w = absurd (omega (arith, w.len))
coords_index (e ∷ d) (c ∷ cs) w =
    let h = w.each 0 (omega arith) in
    let p : 0 < e = omega arith in
    rw (add-mul-mod_self_left c e (index_of d cs), mod-eq_of_lt h, add-mul-div_left c (index_of d cs) p, div-eq_of_lt h, zero-add, coords_index d cs (rest w))

pub index_coords : (d : List ℕ) (n : ℕ) → n < volume d → index_of d (coords_of d n) ≡ n
unfolding index_of coords_of volume
index_coords [] n h = omega arith
index_coords (e ∷ d) n h =
    let p : 0 < e = left_pos e (volume d) (omega arith) in
    let q : n / e < volume d = (div-lt_iff_lt-mul p).1 (rw mul_comm at h) in
    rw (index_coords d (n / e) q) (mod-add-div n e)

-- ## the next site

pub next_coords_lem : (d : List ℕ) (n : ℕ) → 0 < volume d → next_coords d (coords_of d n) ≡ coords_of d (n + 1)
unfolding next_coords coords_of volume
next_coords_lem [] n h = refl
next_coords_lem (e ∷ d) n h = go (next_coords_lem d (n / e) (right_pos e (volume d) h)) (dec_lt (n % e + 1) e)
  where
    pos : 0 < e
    pos = left_pos e (volume d) h

    split : n ≡ n % e + e * (n / e)
    split = sym (mod-add-div n e)

    go : next_coords d (coords_of d (n / e)) ≡ coords_of d (n / e + 1) → Dec (n % e + 1 < e) → cond (ltb (n % e + 1) e) ((n % e + 1) ∷ coords_of d (n / e)) (0 ∷ next_coords d (coords_of d (n / e))) ≡ (n + 1) % e ∷ coords_of d ((n + 1) / e)
    go ih (yes g) =
        let next : n + 1 ≡ (n % e + 1) + e * (n / e) = omega (arith, split) in
        let m : (n + 1) % e ≡ n % e + 1 = ap (λ (x : ℕ). x % e) next ∙ add-mul-mod_self_left (n % e + 1) e (n / e) ∙ mod-eq_of_lt g in
        let q : (n + 1) / e ≡ n / e = ap (λ (x : ℕ). x / e) next ∙ add-mul-div_left (n % e + 1) (n / e) pos ∙ (rw (div-eq_of_lt g) (zero-add (n / e))) in
        rw (lt-ltb _ _ g, m, q)
    go ih (no g) =
        let last : n % e + 1 ≡ e = omega (arith, mod-lt n pos) in
        let next : n + 1 ≡ 0 + e * (n / e + 1) = let f = mul-add e (n / e) 1 in omega (arith, split, last, f) in
        let m : (n + 1) % e ≡ 0 = ap (λ (x : ℕ). x % e) next ∙ add-mul-mod_self_left 0 e (n / e + 1) ∙ mod-eq_of_lt pos in
        let q : (n + 1) / e ≡ n / e + 1 = ap (λ (x : ℕ). x / e) next ∙ add-mul-div_left 0 (n / e + 1) pos ∙ (rw (div-eq_of_lt pos) (zero-add (n / e + 1))) in
        rw (le-ltb (n % e + 1) e (omega arith), m, q, ih)

pub coords_zero : (d : List ℕ) → 0 < volume d → coords_of d 0 ≡ replicate (length d) 0
unfolding coords_of volume
coords_zero [] h = refl
coords_zero (e ∷ d) h =
    let pos = left_pos e (volume d) h in
    rw (mod-eq_of_lt pos, div-eq_of_lt pos, coords_zero d (right_pos e (volume d) h))
