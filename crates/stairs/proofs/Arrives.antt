-- The staircase arrives: along each axis the place is between the origin and the offset, and each step brings it one nearer.
use Rattle.std.proofs.Common.{ℕ, zero, suc, ◌+◌, ◌-◌, ◌<◌, ◌≤◌, min, true, cond, ◌||◌, List, [], ◌∷◌, ◌++◌, map, ◌≡◌, refl, ap, sym, ◌∙◌, add-one, arith, ltb, ℤ, pos, negsuc, nat_abs, ◌+ℤ◌, length, set, ext_get_or, get_or-set_same, get_or-set_other, lt-ltb, le-ltb}
use native.Mathlib.Decide.{ℕ_discrete, dec_lt}
use lib.Signed.{lt_z}
use Rattle.std.specs.Int.{int_signum}
use Rattle.folds.proofs.Few.{below_three}
use Rattle.geometry.specs.Range.{range}
use Rattle.geometry.proofs.Range.{listed_next}
use Rattle.stairs.specs.declared.Step.{Step}
use Rattle.stairs.specs.Line.{along_of}
use Rattle.stairs.specs.Staircase.{differs, stepped_to, best_of, step_along, place_at, step_at, steps_to, staircase_of}
use Rattle.stairs.specs.Claims.{led_by, StaircaseArrives}
use Rattle.stairs.proofs.Best.{best_low, best_left}
use Rattle.stairs.proofs.Places.{long_place, length-staircase}

-- ## along one axis

-- between 0 and d
Between : ℤ → ℤ → Type 0
Between (pos k) (pos m) = k ≤ m
Between (pos zero) (negsuc m) = Unit {0}
Between (pos (suc k)) (negsuc m) = ⊥
Between (negsuc k) (pos m) = ⊥
Between (negsuc k) (negsuc m) = k ≤ m

near_ends : (p d : ℤ) → Between p d → nat_abs p ≤ nat_abs d
unfolding Between
near_ends (pos k) (pos m) b = b
near_ends (pos zero) (negsuc m) b = omega arith
near_ends (pos (suc k)) (negsuc m) b = absurd b
near_ends (negsuc k) (pos m) b = absurd b
near_ends (negsuc k) (negsuc m) b = omega arith

there : (p d : ℤ) → Between p d → nat_abs p ≡ nat_abs d → p ≡ d
unfolding Between
there (pos k) (pos m) b e = ap pos e
there (pos zero) (negsuc m) b e = absurd (omega arith)
there (pos (suc k)) (negsuc m) b e = absurd b
there (negsuc k) (pos m) b e = absurd b
there (negsuc k) (negsuc m) b e = let s : k ≡ m = omega arith in ap negsuc s

-- something is left where the place is nearer to 0 than the offset
is_left : (p d : ℤ) → Between p d → nat_abs p < nat_abs d → differs p d ≡ true
unfolding Between differs
is_left (pos k) (pos m) b l = rw (lt-ltb k m l)
is_left (pos zero) (negsuc m) b l = refl
is_left (pos (suc k)) (negsuc m) b l = absurd b
is_left (negsuc k) (pos m) b l = absurd b
is_left (negsuc k) (negsuc m) b l = let h : k < m = omega arith in rw (le-ltb m k b, lt-ltb k m h)

-- and then a step brings it one further
less : (k m : ℕ) → k ≤ m → ltb k m || ltb m k ≡ true → k < m
less k m b h = grind arith

less_back : (k m : ℕ) → k ≤ m → ltb m k || ltb k m ≡ true → k < m
less_back k m b h = grind arith

record Nearer (q p d : ℤ) : Type 0 where
  between : Between q d
  further : nat_abs q ≡ nat_abs p + 1

step_nearer : (p d : ℤ) → Between p d → differs p d ≡ true → Nearer (p +ℤ int_signum d) p d
unfolding Between differs
step_nearer (pos k) (pos zero) b h = absurd (let l = less k 0 b h in omega arith)
step_nearer (pos k) (pos (suc m)) b h = let l = less k (suc m) b h in record { between = omega arith; further = omega arith }
step_nearer (pos zero) (negsuc m) b h = record { between = omega arith; further = refl }
step_nearer (pos (suc k)) (negsuc m) b h = absurd b
step_nearer (negsuc k) (pos m) b h = absurd b
step_nearer (negsuc k) (negsuc m) b h = let l = less_back k m b h in record { between = omega arith; further = omega arith }

-- ## along all three

-- another number along one axis
steps_set : (p : List ℤ) (a : ℕ) (z : ℤ) → length p ≡ 3 → a < 3 → nat_abs z ≡ nat_abs (along_of p a) + 1 → steps_to (set p a z) ≡ steps_to p + 1
unfolding steps_to
steps_set p zero z n l e =
    rw (get_or-set_same p 0 z (pos 0) (omega arith), get_or-set_other p 0 1 z (pos 0) (omega arith), get_or-set_other p 0 2 z (pos 0) (omega arith)) (omega arith)
steps_set p (suc zero) z n l e =
    rw (get_or-set_other p 1 0 z (pos 0) (omega arith), get_or-set_same p 1 z (pos 0) (omega arith), get_or-set_other p 1 2 z (pos 0) (omega arith)) (omega arith)
steps_set p (suc (suc zero)) z n l e =
    rw (get_or-set_other p 2 0 z (pos 0) (omega arith), get_or-set_other p 2 1 z (pos 0) (omega arith), get_or-set_same p 2 z (pos 0) (omega arith)) (omega arith)
steps_set p (suc (suc (suc a))) z n l e = absurd (omega arith)

at_origin : (z : ℤ) → Between (pos 0) z
unfolding Between
at_origin (pos m) = omega arith
at_origin (negsuc m) = tt

origin_at : (a : ℕ) → a < 3 → along_of (pos 0 ∷ pos 0 ∷ pos 0 ∷ []) a ≡ pos 0
origin_at = below_three (λ a. along_of (pos 0 ∷ pos 0 ∷ pos 0 ∷ []) a ≡ pos 0) refl refl refl

record OnTheWay (d : List ℤ) (i : ℕ) : Type 0 where
  between : (a : ℕ) → a < 3 → Between (along_of (place_at d i) a) (along_of d a)
  steps : steps_to (place_at d i) ≡ i

-- some axis has something left
some_left : (d p : List ℤ) → ((a : ℕ) → a < 3 → Between (along_of p a) (along_of d a)) → steps_to p < steps_to d → differs (along_of p (best_of p d)) (along_of d (best_of p d)) ≡ true
unfolding steps_to
some_left d p b l = go (dec_lt (nat_abs (along_of p 0)) (nat_abs (along_of d 0))) (dec_lt (nat_abs (along_of p 1)) (nat_abs (along_of d 1)))
  where
    at : (a : ℕ) → a < 3 → nat_abs (along_of p a) < nat_abs (along_of d a) → differs (along_of p (best_of p d)) (along_of d (best_of p d)) ≡ true
    at a m h = best_left p d a m (is_left (along_of p a) (along_of d a) (b a m) h)

    go : Dec (nat_abs (along_of p 0) < nat_abs (along_of d 0)) → Dec (nat_abs (along_of p 1) < nat_abs (along_of d 1)) → differs (along_of p (best_of p d)) (along_of d (best_of p d)) ≡ true
    go (yes h) y = at 0 (omega arith) h
    go (no x) (yes h) = at 1 (omega arith) h
    go (no x) (no y) = at 2 (omega arith) (omega arith)

module _ (d : List ℤ) where
  -- one step on from there
  next : (i : ℕ) → OnTheWay d i → (b : ℕ) → b < 3 → differs (along_of (place_at d i) b) (along_of d b) ≡ true
      → ((a : ℕ) → a < 3 → Between (along_of (stepped_to (place_at d i) d b) a) (along_of d a)) × (steps_to (stepped_to (place_at d i) d b) ≡ i + 1)
  unfolding stepped_to
  next i h b m left =
      let n = step_nearer (along_of (place_at d i) b) (along_of d b) (h.between b m) left in
      let len = long_place d i in
      let t = steps_set (place_at d i) b (along_of (place_at d i) b +ℤ int_signum (along_of d b)) len m n.further in
      (λ a k. go a k n.between (ℕ_discrete a b), t ∙ ap (λ (j : ℕ). j + 1) h.steps)
    where
      go : (a : ℕ) → a < 3 → Between (along_of (place_at d i) b +ℤ int_signum (along_of d b)) (along_of d b) → Dec (a ≡ b)
          → Between (along_of (set (place_at d i) b (along_of (place_at d i) b +ℤ int_signum (along_of d b))) a) (along_of d a)
      go a k n (yes e) =
          let in_list : b < length (place_at d i) = rw (long_place d i) m in
          rw (e, get_or-set_same (place_at d i) b (along_of (place_at d i) b +ℤ int_signum (along_of d b)) (pos 0) in_list) n
      go a k n (no e) = rw (get_or-set_other (place_at d i) b a (along_of (place_at d i) b +ℤ int_signum (along_of d b)) (pos 0) e) (h.between a k)

  on_the_way : (i : ℕ) → i ≤ steps_to d → OnTheWay d i
  unfolding place_at steps_to
  on_the_way zero l = record { between = λ a m. rw (origin_at a m) (at_origin (along_of d a)); steps = refl }
  on_the_way (suc i) l =
      let h = on_the_way i (omega arith) in
      let n = next i h (best_of (place_at d i) d) (best_low (place_at d i) d) (some_left d (place_at d i) h.between (rw h.steps (omega arith))) in
      record { between = n.0; steps = n.1 ∙ add-one i }

  left_along : (i : ℕ) → i < steps_to d → differs (along_of (place_at d i) (best_of (place_at d i) d)) (along_of d (best_of (place_at d i) d)) ≡ true
  left_along i l = let h = on_the_way i (omega arith) in some_left d (place_at d i) h.between (rw h.steps l)

  -- three numbers that are at most three others, and have their sum
  same : (p : List ℤ) → ((a : ℕ) → a < 3 → Between (along_of p a) (along_of d a)) → steps_to p ≡ steps_to d → (a : ℕ) → a < 3 → along_of p a ≡ along_of d a
  unfolding steps_to
  same p b e a l =
      let x = near_ends _ _ (b 0 (omega arith)) in
      let y = near_ends _ _ (b 1 (omega arith)) in
      let z = near_ends _ _ (b 2 (omega arith)) in
      there (along_of p a) (along_of d a) (b a l) (below_three (λ a. nat_abs (along_of p a) ≡ nat_abs (along_of d a)) (omega (arith, e)) (omega (arith, e)) (omega (arith, e)) a l)

  at_last : length d ≡ 3 → place_at d (steps_to d) ≡ d
  at_last three =
      let h = on_the_way (steps_to d) (omega arith) in
      ext_get_or (pos 0) (place_at d (steps_to d)) d (long_place d (steps_to d) ∙ sym three)
      (λ a l. same (place_at d (steps_to d)) h.between h.steps a (omega (arith, long_place d (steps_to d))))

  -- ## the steps themselves

  -- a step up or down is one towards the offset, where something is left
  toward : (p e : ℤ) → Between p e → differs p e ≡ true → cond (lt_z (pos 0) e) (pos 1) (negsuc 0) ≡ int_signum e
  unfolding Between differs
  toward (pos k) (pos zero) b h = absurd (let l = less k 0 b h in omega arith)
  toward (pos k) (pos (suc m)) b h = rw (lt-ltb 0 (suc m) (omega arith)) (let e : 1 ≡ min (suc m) 1 = omega arith in ap pos e)
  toward (pos zero) (negsuc m) b h = refl
  toward (pos (suc k)) (negsuc m) b h = absurd b
  toward (negsuc k) (pos m) b h = absurd b
  toward (negsuc k) (negsuc m) b h = refl

  led_snoc : (p : List ℤ) (steps : List Step) (s : Step) → led_by p (steps ++ (s ∷ [])) ≡ led_by (led_by p steps) (s ∷ [])
  unfolding led_by
  led_snoc p [] s = refl
  led_snoc p (x ∷ steps) s = led_snoc (set p (x.axis - 1) (along_of p (x.axis - 1) +ℤ cond x.forward (pos 1) (negsuc 0))) steps s

  led_step : (i : ℕ) → i < steps_to d → led_by (place_at d i) (step_at d i ∷ []) ≡ place_at d (suc i)
  unfolding led_by place_at step_at step_along stepped_to
  led_step i l =
      let h = on_the_way i (omega arith) in
      let b = best_of (place_at d i) d in
      let same : b + 1 - 1 ≡ b = omega arith in
      rw (same, toward (along_of (place_at d i) b) (along_of d b) (h.between b (best_low (place_at d i) d)) (left_along i l))

  led : (i : ℕ) → i ≤ steps_to d → led_by (pos 0 ∷ pos 0 ∷ pos 0 ∷ []) (map (step_at d) (range i)) ≡ place_at d i
  led zero l = unfold led_by place_at range in refl
  led (suc i) l =
      rw (listed_next (step_at d) i, led_snoc (pos 0 ∷ pos 0 ∷ pos 0 ∷ []) (map (step_at d) (range i)) (step_at d i), led i (omega arith)) (led_step i (omega arith))

  all_lead : length d ≡ 3 → led_by (pos 0 ∷ pos 0 ∷ pos 0 ∷ []) (staircase_of d) ≡ d
  unfolding staircase_of
  all_lead three = led (steps_to d) (omega arith) ∙ at_last three

  space_axis : (i : ℕ) → (1 ≤ (step_at d i).axis) × ((step_at d i).axis ≤ 3)
  unfolding step_at step_along
  space_axis i = let l = best_low (place_at d i) d in (omega arith, omega arith)

pub staircase_arrives : StaircaseArrives
staircase_arrives = record { count = length-staircase; axes = space_axis; left = left_along; arrives = all_lead }
