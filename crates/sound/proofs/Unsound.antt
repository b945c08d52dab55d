-- The two comparisons of the link check, and what its loop leaves.
use Prim.Native.Nat.{ℕ, zero, suc, ◌+◌, ◌*◌, ◌/◌, ◌%◌, ◌<◌, ◌≤◌}
use mathlib.Core.Bool.{Bool, true, false, ◌&&◌, Bool-discrete, true≢false}
use mathlib.Core.List.Perm
use mathlib.Core.List.{List, [], ◌∷◌, ◌++◌, append-nil, filter, filter-append}
use mathlib.Core.Logic.{if_pos, if_neg}
use mathlib.Core.Path.{◌≡◌, refl, ap, sym, ◌∙◌}
use native.Mathlib.Nat.{mod-add-div, mul_comm}
use native.Mathlib.Numerals.{add-one}
use native.Mathlib.Omega.{arith}
use Rattle.std.specs.List.{list_all}
use Rattle.std.proofs.Math.Bool.{and_assoc}
use Rattle.std.proofs.lemmas.List.{get_or-drop, get_or-take}
use lib.Ieee.{Float, nan, inf, fin, le, neg, of_bits}
use lib.ListN.{length, get_or, take, drop, set, length-append, length-take, length-drop}
use lib.Seq.{set_at, take_at, drop_at, drop-cons, drop-drop, append_snoc}
use Rattle.folds.specs.Folds.{all_below}
use Rattle.folds.proofs.Lists.{all_listed}
use Rattle.complex.specs.Rounded.{fone}
use Rattle.mat.specs.Matrix.{ent}
use Rattle.links.specs.Store.{cell_at, matrix_at}
use Rattle.links.proofs.Laws.{entry_at}
use Rattle.geometry.specs.Range.{range}
use Rattle.links.specs.Field.{place_of, field_of}
use Rattle.sound.specs.Sound.{sound_number, sound_entry, sound_of, Listed}

-- ## one number

-- an infinity and a NaN are on one side of −1 or 1, or of neither
pub sound_by : (x : Float) → le (neg fone) x && le x fone ≡ sound_number x
unfolding sound_number le neg of_bits
sound_by nan = refl
sound_by (inf true) = refl
sound_by (inf false) = refl
sound_by (fin s m e) = refl

-- ## where a link stands in the list

pub link_at : (v k : ℕ) → place_of v (k / v) (k % v) ≡ 18 * k
link_at v k = let e = mod-add-div k v in let f = mul_comm (k / v) v in omega (arith, e, f)

-- ## the eighteen numbers of a matrix

pairs : (test : ℕ → Bool) (n : ℕ) → all_below test (2 * n) ≡ all_below (λ k. test (2 * k) && test (2 * k + 1)) n
unfolding all_below
pairs test zero = refl
pairs test (suc n) =
    let e : 2 * suc n ≡ suc (suc (2 * n)) = omega arith in
    rw (e, pairs test n, ← add-one (2 * n)) (and_assoc (all_below (λ k. test (2 * k) && test (2 * k + 1)) n) (test (2 * n)) (test (2 * n + 1)))

alike : (f g : ℕ → Bool) (n : ℕ) → ((k : ℕ) → k < n → f k ≡ g k) → all_below f n ≡ all_below g n
unfolding all_below
alike f g zero h = refl
alike f g (suc n) h = rw (alike f g n (λ k q. h k (omega arith)), h n (omega arith))

number_at : (l : List Float) (p i : ℕ) → i < 18 → get_or (take 18 (drop p l)) i nan ≡ get_or l (p + i) nan
number_at l p i h = get_or-take 18 (drop p l) i nan h ∙ get_or-drop p l i nan

entry_sound : (l : List Float) (p k : ℕ) → k < 9
    → sound_number (get_or (take 18 (drop p l)) (2 * k) nan) && sound_number (get_or (take 18 (drop p l)) (2 * k + 1) nan) ≡ sound_entry (ent (matrix_at l p) k)
unfolding sound_entry cell_at
entry_sound l p k h =
    let e : p + (2 * k + 1) ≡ p + 2 * k + 1 = omega arith in
    rw (number_at l p (2 * k) (omega arith), number_at l p (2 * k + 1) (omega arith), e, ← entry_at l p k h)

pub sound_numbers : (l : List Float) (p : ℕ) → p + 18 ≤ length l → list_all sound_number (take 18 (drop p l)) ≡ sound_of (matrix_at l p)
unfolding sound_of
sound_numbers l p h =
    let xs = take 18 (drop p l) in
    let len : length xs ≡ 18 = simp (length-take, length-drop) (omega arith) in
    sym (all_listed sound_number xs nan)
    ∙ ap (all_below (λ k. sound_number (get_or xs k nan))) len
    ∙ pairs (λ k. sound_number (get_or xs k nan)) 9
    ∙ alike _ _ 9 (entry_sound l p)

-- ## the numbers that fail a test

module _ (test : ℕ → Bool) where
  abbrev fails : (k : ℕ) → Dec (test k ≡ false)
  fails k = Bool-discrete (test k) false

  -- those below n
  abbrev pub failing : ℕ → List ℕ
  failing n = filter fails (range n)

  failing_next : (n : ℕ) → test n ≡ false → failing (n + 1) ≡ failing n ++ (n ∷ [])
  unfolding range
  failing_next n h = rw (add-one n) (filter-append fails (range n) (n ∷ []) ∙ ap (λ (l : List ℕ). failing n ++ l) (if_pos (fails n) h _ _))

  failing_same : (n : ℕ) → test n ≡ true → failing (n + 1) ≡ failing n
  unfolding range
  failing_same n h =
      let not : test n ≡ false → ⊥ = λ g. true≢false (sym h ∙ g) in
      rw (add-one n) (filter-append fails (range n) (n ∷ []) ∙ ap (λ (l : List ℕ). failing n ++ l) (if_neg (fails n) not _ _) ∙ append-nil (failing n))

  -- the front of a list taken by those below n, c of them
  pub record Written (old : List ℕ) (n c : ℕ) (new : List ℕ) : Type 0 where
    pub count : c ≡ length (failing n)
    pub list : new ≡ failing n ++ drop c old

  pub written_none : (old : List ℕ) → Written old 0 0 old
  unfolding range
  written_none old = record { count = refl; list = refl }

  pub written_skip : (old : List ℕ) (n c : ℕ) (new : List ℕ) → Written old n c new → test n ≡ true → Written old (n + 1) c new
  written_skip old n c new w h = record { count = rw (failing_same n h) w.count; list = rw (failing_same n h) w.list }

  pub written_next : (old : List ℕ) (n c : ℕ) (new : List ℕ) → Written old n c new → test n ≡ false → c < length old → Written old (n + 1) (c + 1) (set new c n)
  written_next old n c new w h room = record {
    count = rw (failing_next n h, length-append, w.count);
    list = rw (failing_next n h, w.list, drop-cons old c 0 room, set_at (failing n) (get_or old c 0) (drop (suc c) old) n c (sym w.count), append_snoc, add-one c);
  }

  pub written_done : (old : List ℕ) {m n : ℕ} (c : ℕ) (new : List ℕ) → m ≡ n → Written old m c new → Listed (failing n) old c new
  written_done old c new e w = record {
    counted = rw e at w.count;
    front = rw (w.list, take_at (failing _) (drop c old) c (sym w.count), e) (Perm.refl _);
    later = rw w.list (drop_at (failing _) (drop c old) c (sym w.count));
  }

-- ## eighteen numbers after eighteen

unfoldable pub sound_at : ℕ → List Float → ℕ → Bool
sound_at v l k = sound_of (field_of v l (k / v) (k % v))

numbers_sound : (v : ℕ) (l : List Float) (k : ℕ) → 18 * k + 18 ≤ length l → list_all sound_number (take 18 (drop (18 * k) l)) ≡ sound_at v l k
unfolding sound_at
numbers_sound v l k h = rw (link_at v k) (sound_numbers l (18 * k) h)

-- the numbers that are left after k links of l, those of `old` being what was written over
pub record Along (v : ℕ) (l : List Float) (old : List ℕ) (k : ℕ) (rest : List Float) (c : ℕ) (new : List ℕ) : Type 0 where
  pub ahead : rest ≡ drop (18 * k) l
  pub gone : 18 * k ≤ length l
  pub few : c ≤ k
  pub written : Written (sound_at v l) old k c new

module _ (v : ℕ) (l : List Float) (old : List ℕ) where
  pub along_none : Along v l old 0 l 0 old
  along_none = record { ahead = refl; gone = omega arith; few = omega arith; written = written_none _ old }

  module _ {k : ℕ} {rest : List Float} {c : ℕ} {new : List ℕ} (a : Along v l old k rest c new) where
    pub along_done : length l ≡ 72 * v → length rest < 18 → (Listed (failing (sound_at v l) (4 * v)) old c new) × (c ≤ 4 * v)
    along_done len short =
        let all : k ≡ 4 * v = let g = ap length a.ahead ∙ length-drop (18 * k) l in omega (arith, g, a.gone) in
        (written_done _ old c new all a.written, omega (arith, a.few))

    module _ (x t : List Float) (cut : rest ≡ x ++ t) (eighteen : length x ≡ 18) where
      here : x ≡ take 18 (drop (18 * k) l)
      here = sym (rw (← a.ahead, cut) (take_at x t 18 eighteen))

      left : t ≡ drop (18 * (k + 1)) l
      left = let e : 18 * k + 18 ≡ 18 * (k + 1) = omega arith in sym (drop_at x t 18 eighteen) ∙ rw (← cut, a.ahead) (drop-drop 18 (18 * k) l ∙ ap (λ (i : ℕ). drop i l) e)

      more : 18 * (k + 1) ≤ length l
      more = let g = sym (ap length a.ahead ∙ length-drop (18 * k) l) ∙ ap length cut ∙ length-append x t in omega (arith, g, eighteen, a.gone)

      checked : list_all sound_number x ≡ sound_at v l k
      checked = rw here (numbers_sound v l k (omega (arith, more)))

      pub along_room : length l ≡ 72 * v → c < 4 * v
      along_room len = omega (arith, more, a.few)

      pub along_sound : true ≡ list_all sound_number x → Along v l old (k + 1) t c new
      along_sound ok = record { ahead = left; gone = more; few = omega (arith, a.few); written = written_skip _ old k c new a.written (sym (ok ∙ checked)) }

      pub along_unsound : false ≡ list_all sound_number x → c < length old → Along v l old (k + 1) t (c + 1) (set new c k)
      along_unsound bad room = record { ahead = left; gone = more; few = omega (arith, a.few); written = written_next _ old k c new a.written (sym (bad ∙ checked)) room }
