-- Visits one after another are visits all at once, for any update that reads, of the links that are visited, its own alone.
use Rattle.std.specs.Result.{result_unwrap_or}
use Rattle.std.proofs.lemmas.List.Sums.{sum_by-cons, sum_by-append, count_by-le-length}
use Rattle.std.proofs.Common.{cond, ℕ, ◌+◌, ◌<◌, ◌≤◌, List, [], ◌∷◌, ◌++◌, ◌≡◌, refl, ap, sym, ◌∙◌, length}
use mathlib.Core.HLevel.{⊥_prop}
use mathlib.Core.List.{Mem, Disjoint, dec_mem, mem-append, mem-append_left, mem-append_right, mem-cons_self, mem-cons_of_mem, not-mem-nil}
use mathlib.Core.Logic.Or
use mathlib.Core.Logic.Dec
use mathlib.Core.Logic.{ite, if_pos, if_neg}
use native.Mathlib.Decide.{ℕ_discrete}
use Rattle.mat.specs.declared.Su3.{Su3}
use Rattle.geometry.specs.Radix.{volume}
use Rattle.links.specs.Field.{Field}
use Rattle.gauge.specs.Staple.{SameOff}
use Rattle.update.specs.Update.{Updated, is_stuck}
use Rattle.gauge.proofs.Lists.{Same}
use Rattle.geometry.specs.Steps.{parity_of}
use Rattle.visits.specs.Visits.{visited_link, visited_field, stuck_among}

-- ## what a field becomes

module _ (update : Field → ℕ → Updated) (mu : ℕ) where
  pub visited_in : (U : Field) (sites : List ℕ) (nu n : ℕ) → nu ≡ mu → Mem n sites → visited_field update mu U sites nu n ≡ visited_link (update U n) (U nu n)
  unfolding visited_field
  visited_in U sites nu n e m = if_pos (Dec.and (ℕ_discrete nu mu) (dec_mem ℕ_discrete n sites)) (e, m) _ _

  pub visited_out : (U : Field) (sites : List ℕ) (nu n : ℕ) → (nu ≡ mu → Mem n sites → ⊥) → visited_field update mu U sites nu n ≡ U nu n
  unfolding visited_field
  visited_out U sites nu n e = if_neg (Dec.and (ℕ_discrete nu mu) (dec_mem ℕ_discrete n sites)) (λ h. e h.0 h.1) _ _

  -- no visits
  pub visited_none : (U : Field) (nu n : ℕ) → visited_field update mu U [] nu n ≡ U nu n
  visited_none U nu n = visited_out U [] nu n (λ e m. not-mem-nil m)

  -- nine entries everywhere stay so
  pub visited_nine : (U : Field) → ((nu n : ℕ) → length (U nu n).m ≡ 9) → ((n : ℕ) (old : Su3) → length old.m ≡ 9 → length (result_unwrap_or (update U n) old).m ≡ 9)
      → (sites : List ℕ) (nu n : ℕ) → length (visited_field update mu U sites nu n).m ≡ 9
  unfolding visited_field visited_link
  visited_nine U nine updated sites nu n = go (Dec.and (ℕ_discrete nu mu) (dec_mem ℕ_discrete n sites))
    where
      go : (c : Dec ((nu ≡ mu) × Mem n sites)) → length (ite c (visited_link (update U n) (U nu n)) (U nu n)).m ≡ 9
      go (yes h) = updated n (U nu n) (nine nu n)
      go (no h) = nine nu n

-- ## how many are stuck

module _ (update : Field → ℕ → Updated) where
  pub stuck_append : (U : Field) (a b : List ℕ) → stuck_among update U (a ++ b) ≡ stuck_among update U a + stuck_among update U b
  unfolding stuck_among
  stuck_append U a b = sum_by-append _ a b

  -- how many sites were visited bounds how many were stuck
  pub stuck_few : (U : Field) (sites : List ℕ) → stuck_among update U sites ≤ length sites
  unfolding stuck_among
  stuck_few U sites = count_by-le-length (λ n. is_stuck (update U n)) sites

  -- two fields with the same updates at these sites have as many stuck links there
  stuck_same : (U W : Field) (sites : List ℕ) → ((n : ℕ) → Mem n sites → update U n ≡ update W n) → stuck_among update U sites ≡ stuck_among update W sites
  unfolding stuck_among
  stuck_same U W [] h = refl
  stuck_same U W (n ∷ ns) h =
      let here = h n mem-cons_self in
      let others = stuck_same U W ns (λ m k. h m (mem-cons_of_mem n k)) in
      simp sum_by-cons (rw here (ap (λ k. cond (is_stuck (update W n)) 1 0 + k) others))

-- ## visits in turn

-- sites of one parity
abbrev pub Inside : List ℕ → ℕ → List ℕ → Type 0
Inside d p sites = (n : ℕ) → Mem n sites → (n < volume d) × (parity_of d n ≡ p)

not_either : (n : ℕ) (a b : List ℕ) → (Mem n a → ⊥) → (Mem n b → ⊥) → Mem n (a ++ b) → ⊥
not_either n a b ha hb m = Or.elim ⊥_prop (mem-append.0 m) ha hb

module _
    (d : List ℕ) (mu p : ℕ) (update : Field → ℕ → Updated) (axis : mu < 4)
    (local : (U W : Field) → SameOff d mu p U W → (n : ℕ) → n < volume d → parity_of d n ≡ p → U mu n ≡ W mu n → update U n ≡ update W n)
    (U W : Field) (a b : List ℕ) (ina : Inside d p a) (inb : Inside d p b) (apart : Disjoint a b)
    (same : Same d W (visited_field update mu U a))
  where
    -- where W is U after the visits of a, the update at a site of b is that from U
    pub update_same : (n : ℕ) → Mem n b → update W n ≡ update U n
    update_same n m =
        local W U
        (λ nu k h g out. same nu k h g ∙ visited_out update mu U a nu k (λ e i. out e (ina k i).1))
        n (inb n m).0 (inb n m).1 (link_same n m)
      where
        link_same : (n : ℕ) → Mem n b → W mu n ≡ U mu n
        link_same n m = same mu n axis (inb n m).0 ∙ visited_out update mu U a mu n (λ e i. apart n i m)

    pub visited_join : Same d (visited_field update mu W b) (visited_field update mu U (a ++ b))
    visited_join nu n h g = go (ℕ_discrete nu mu) (dec_mem ℕ_discrete n b) (dec_mem ℕ_discrete n a)
      where
        go : Dec (nu ≡ mu) → Dec (Mem n b) → Dec (Mem n a) → visited_field update mu W b nu n ≡ visited_field update mu U (a ++ b) nu n
        go (yes e) (yes m) k =
            visited_in update mu W b nu n e m
            ∙ ap (λ (r : Updated). visited_link r (W nu n)) (update_same n m)
            ∙ ap (λ (u : Su3). visited_link (update U n) u) (same nu n h g ∙ visited_out update mu U a nu n (λ f i. apart n i m))
            ∙ sym (visited_in update mu U (a ++ b) nu n e (mem-append_right a m))
        go (yes e) (no m) (yes k) =
            visited_out update mu W b nu n (λ f. m) ∙ same nu n h g
            ∙ visited_in update mu U a nu n e k ∙ sym (visited_in update mu U (a ++ b) nu n e (mem-append_left b k))
        go (yes e) (no m) (no k) =
            visited_out update mu W b nu n (λ f. m) ∙ same nu n h g
            ∙ visited_out update mu U a nu n (λ f. k) ∙ sym (visited_out update mu U (a ++ b) nu n (λ f. not_either n a b k m))
        go (no e) m k =
            visited_out update mu W b nu n (λ f i. e f) ∙ same nu n h g
            ∙ visited_out update mu U a nu n (λ f i. e f) ∙ sym (visited_out update mu U (a ++ b) nu n (λ f i. e f))

    pub stuck_join : stuck_among update W b ≡ stuck_among update U b
    stuck_join = stuck_same update W U b update_same
