-- The best axis so far, axis by axis, is in the end the first of the nearest ones.
use Rattle.std.proofs.Common.{ℕ, zero, suc, ◌+◌, ◌<◌, Bool, true, false, cond, List, [], ◌∷◌, ◌≡◌, refl, ap, sym, ◌∙◌, ℤ, Option, None, Some, MatchOption, arith, add-one, w32, SFits, of_z, true≢false}
use Rattle.std.proofs.lemmas.Int.{ints}
use mathlib.Core.List.{cons≢nil}
use Rattle.std.specs.Float.Ieee.{Float, lt}
use Rattle.folds.proofs.Few.{below_three}
use Rattle.stairs.specs.Line.{along_of}
use Rattle.stairs.specs.Staircase.{differs, step_dist, left_of, first_min, least_of, best_of}

-- the better of the best axis so far, if one was found, and another, each with its distance: one as near is not better
abbrev pub better_of : Option (ℕ × Float) → ℕ → Float → ℕ × Float
better_of None a dist = (a, dist)
better_of (Some best) a dist = cond (lt dist best.1) (a, dist) best

abbrev pub axis_of : Option (ℕ × Float) → ℕ
axis_of None = 0
axis_of (Some best) = best.0

pub differs_lem : (x y : ℤ) → SFits w32 x → SFits w32 y → (of_z w32 x ≡ of_z w32 y → ⊥) → differs x y ≡ true
unfolding differs
differs_lem x y f g ne = grind (arith, ints)

pub same_lem : (x y : ℤ) → SFits w32 x → SFits w32 y → of_z w32 x ≡ of_z w32 y → differs x y ≡ false
unfolding differs
same_lem x y f g e = grind (arith, ints)

module _ (p d : List ℤ) where
  -- an axis counts if something is left along it
  abbrev pub nearer_of : Option (ℕ × Float) → ℕ → Option (ℕ × Float)
  nearer_of best a = cond (differs (along_of p a) (along_of d a)) (Some (better_of best a (step_dist p d a))) best

  -- the best of the first axes
  unfoldable pub best_below : ℕ → Option (ℕ × Float)
  best_below zero = None
  best_below (suc a) = nearer_of (best_below a) a

  -- ## one more axis; r is whether it is better
  module _ {best next : Option (ℕ × Float)} (a : ℕ) {dist : Float} (r : Bool) (now : best ≡ best_below a) where
    pub left_better : differs (along_of p a) (along_of d a) ≡ true → dist ≡ step_dist p d a → MatchOption best (r ≡ true) (λ x. r ≡ lt dist x.1) → r ≡ true → next ≡ Some (a, dist) → next ≡ best_below (a + 1)
    unfolding best_below
    left_better left e h better is = rw (is, add-one a, ← now, left, e) (go best (rw e at h))
      where
        go : (best : Option (ℕ × Float)) → MatchOption best (r ≡ true) (λ x. r ≡ lt (step_dist p d a) x.1) → Some (a, step_dist p d a) ≡ Some (better_of best a (step_dist p d a))
        go None h = refl
        go (Some x) h = rw (sym h ∙ better)

    pub left_kept : differs (along_of p a) (along_of d a) ≡ true → dist ≡ step_dist p d a → MatchOption best (r ≡ true) (λ x. r ≡ lt dist x.1) → r ≡ false → next ≡ best → next ≡ best_below (a + 1)
    unfolding best_below
    left_kept left e h worse is = rw (is, add-one a, ← now, left) (go best (rw e at h))
      where
        go : (best : Option (ℕ × Float)) → MatchOption best (r ≡ true) (λ x. r ≡ lt (step_dist p d a) x.1) → best ≡ Some (better_of best a (step_dist p d a))
        go None h = absurd (true≢false (sym h ∙ worse))
        go (Some x) h = rw (sym h ∙ worse)

  pub none_more : {best next : Option (ℕ × Float)} (a : ℕ) → best ≡ best_below a → differs (along_of p a) (along_of d a) ≡ false → next ≡ best → next ≡ best_below (a + 1)
  unfolding best_below
  none_more a now none is = rw (is, add-one a, ← now, none)

  -- ## all of them
  abbrev over : Option (ℕ × Float) → List ℕ → Option (ℕ × Float)
  over best [] = best
  over best (a ∷ axes) = over (nearer_of best a) axes

  abbrev found_at : ℕ → Option (ℕ × Float)
  found_at a = Some (a, step_dist p d a)

  goes_on : (best : ℕ) (axes : List ℕ) → axis_of (over (found_at best) axes) ≡ first_min (step_dist p d) best (left_of p d axes)
  unfolding left_of first_min
  goes_on best [] = refl
  goes_on best (a ∷ axes) = go (differs (along_of p a) (along_of d a)) (goes_on best axes) (goes_on a axes)
    where
      less : (c : Bool)
          → axis_of (over (found_at best) axes) ≡ first_min (step_dist p d) best (left_of p d axes)
          → axis_of (over (found_at a) axes) ≡ first_min (step_dist p d) a (left_of p d axes)
          → axis_of (over (Some (cond c (a, step_dist p d a) (best, step_dist p d best))) axes) ≡ first_min (step_dist p d) (cond c a best) (left_of p d axes)
      less true x y = y
      less false x y = x

      go : (left : Bool)
          → axis_of (over (found_at best) axes) ≡ first_min (step_dist p d) best (left_of p d axes)
          → axis_of (over (found_at a) axes) ≡ first_min (step_dist p d) a (left_of p d axes)
          → axis_of (over (cond left (Some (cond (lt (step_dist p d a) (step_dist p d best)) (a, step_dist p d a) (best, step_dist p d best))) (found_at best)) axes)
          ≡ first_min (step_dist p d) best (cond left (a ∷ left_of p d axes) (left_of p d axes))
      go true x y = less (lt (step_dist p d a) (step_dist p d best)) x y
      go false x y = x

  begins : (axes : List ℕ) → axis_of (over None axes) ≡ least_of (step_dist p d) (left_of p d axes)
  unfolding left_of least_of
  begins [] = refl
  begins (a ∷ axes) = go (differs (along_of p a) (along_of d a)) (begins axes) (goes_on a axes)
    where
      go : (left : Bool)
          → axis_of (over None axes) ≡ least_of (step_dist p d) (left_of p d axes)
          → axis_of (over (found_at a) axes) ≡ first_min (step_dist p d) a (left_of p d axes)
          → axis_of (over (cond left (found_at a) None) axes) ≡ least_of (step_dist p d) (cond left (a ∷ left_of p d axes) (left_of p d axes))
      go true x y = y
      go false x y = x

  best_below_three : axis_of (best_below 3) ≡ best_of p d
  unfolding best_below best_of
  best_below_three = begins (0 ∷ 1 ∷ 2 ∷ [])

  pub best_found : {best : Option (ℕ × Float)} {a n : ℕ} → a ≡ 3 → best ≡ best_below a → MatchOption best (n ≡ 0) (λ x. n ≡ x.0) → n ≡ best_of p d
  best_found {best} {a} {n} e h found = go best found ∙ ap axis_of (h ∙ ap best_below e) ∙ best_below_three
    where
      go : (best : Option (ℕ × Float)) → MatchOption best (n ≡ 0) (λ x. n ≡ x.0) → n ≡ axis_of best
      go None h = h
      go (Some x) h = h

-- ## it is one of them

-- what holds of each axis of a list
All : (ℕ → Type 0) → List ℕ → Type 0
All P [] = Unit {0}
All P (a ∷ axes) = P a × All P axes

module _ (f : ℕ → Float) (P : ℕ → Type 0) where
  min_all : (best : ℕ) (axes : List ℕ) → P best → All P axes → P (first_min f best axes)
  unfolding first_min All
  min_all best [] l h = l
  min_all best (a ∷ axes) l h = min_all (cond (lt (f a) (f best)) a best) axes (go (lt (f a) (f best))) h.1
    where
      go : (c : Bool) → P (cond c a best)
      go true = h.0
      go false = l

  first_all : (axes : List ℕ) → (axes ≡ [] → P 0) → All P axes → P (least_of f axes)
  unfolding least_of All
  first_all [] l h = l refl
  first_all (a ∷ axes) l h = min_all a axes h.0 h.1

module _ (p d : List ℤ) where
  abbrev Left : ℕ → Type 0
  Left a = differs (along_of p a) (along_of d a) ≡ true

  left_all : (P : ℕ → Type 0) (axes : List ℕ) → All P axes → All (λ a. P a × Left a) (left_of p d axes)
  unfolding left_of All
  left_all P [] h = tt
  left_all P (a ∷ axes) h = go (differs (along_of p a) (along_of d a)) refl (left_all P axes h.1)
    where
      go : (c : Bool) → differs (along_of p a) (along_of d a) ≡ c → All (λ a. P a × Left a) (left_of p d axes) → All (λ a. P a × Left a) (cond c (a ∷ left_of p d axes) (left_of p d axes))
      go true e l = ((h.0, e), l)
      go false e l = l

  -- no axis is left where the list is empty
  none_left : (axes : List ℕ) → left_of p d axes ≡ [] → All (λ a. differs (along_of p a) (along_of d a) ≡ false) axes
  unfolding left_of All
  none_left [] e = tt
  none_left (a ∷ axes) e = go (differs (along_of p a) (along_of d a)) refl e (none_left axes)
    where
      go : (c : Bool) → differs (along_of p a) (along_of d a) ≡ c → cond c (a ∷ left_of p d axes) (left_of p d axes) ≡ []
          → (left_of p d axes ≡ [] → All (λ a. differs (along_of p a) (along_of d a) ≡ false) axes)
          → (differs (along_of p a) (along_of d a) ≡ false) × All (λ a. differs (along_of p a) (along_of d a) ≡ false) axes
      go true e h rest = absurd (cons≢nil h)
      go false e h rest = (e, rest h)

  three : All (λ a. a < 3) (0 ∷ 1 ∷ 2 ∷ [])
  unfolding All
  three = (omega arith, (omega arith, (omega arith, tt)))

  pub best_low : best_of p d < 3
  unfolding best_of All
  best_low = first_all (step_dist p d) (λ a. a < 3) (left_of p d (0 ∷ 1 ∷ 2 ∷ [])) (λ e. omega arith) (drop-left (left_of p d (0 ∷ 1 ∷ 2 ∷ [])) (left_all (λ a. a < 3) (0 ∷ 1 ∷ 2 ∷ []) three))
    where
      drop-left : (axes : List ℕ) → All (λ a. (a < 3) × Left a) axes → All (λ a. a < 3) axes
      drop-left [] h = tt
      drop-left (a ∷ axes) h = (h.0.0, drop-left axes h.1)

  -- where something is left, it is left along the best axis
  pub best_left : (a : ℕ) → a < 3 → Left a → Left (best_of p d)
  unfolding best_of All
  best_left a l h =
      first_all (step_dist p d) Left (left_of p d (0 ∷ 1 ∷ 2 ∷ [])) (λ e. absurd (true≢false (sym h ∙ none_at (none_left (0 ∷ 1 ∷ 2 ∷ []) e))))
      (only_left (left_of p d (0 ∷ 1 ∷ 2 ∷ [])) (left_all (λ a. a < 3) (0 ∷ 1 ∷ 2 ∷ []) three))
    where
      only_left : (axes : List ℕ) → All (λ a. (a < 3) × Left a) axes → All Left axes
      only_left [] h = tt
      only_left (a ∷ axes) h = (h.0.1, only_left axes h.1)

      none_at : All (λ a. differs (along_of p a) (along_of d a) ≡ false) (0 ∷ 1 ∷ 2 ∷ []) → differs (along_of p a) (along_of d a) ≡ false
      none_at h = below_three (λ a. differs (along_of p a) (along_of d a) ≡ false) h.0 h.1.0 h.1.1.0 a l
