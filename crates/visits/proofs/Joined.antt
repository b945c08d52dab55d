-- Overrelaxation of some sites and then of others, from list to list, is that of all of them from the first list.
use Rattle.std.proofs.Common.{ℕ, suc, cond, Bool, ◌+◌, ◌*◌, ◌-◌, ◌<◌, ◌≤◌, min, List, [], ◌∷◌, ◌++◌, ◌≡◌, ap, sym, ◌∙◌, subst, arith, Float, length, take, drop, length-take, length-drop, take-append-drop, take-suc, get_or-drop}
use mathlib.Core.List.{Mem, Nodup, Disjoint, mem-append_left, mem-append_right, Nodup-append}
use Rattle.geometry.specs.Radix.{volume}
use Rattle.geometry.specs.Shape.{Shape}
use Rattle.geometry.specs.Order.{sites_of, half_of, nth_of}
use Rattle.geometry.proofs.Order.{count_sites, site_at_lem}
use Rattle.geometry.proofs.Members.{site_inside, sites_once}
use Rattle.links.specs.Field.{Field}
use Rattle.links.proofs.Laws.{matrix_nine}
use Rattle.gauge.specs.Field.{link_of, list_of}
use Rattle.update.specs.Update.{is_stuck, update_of}
use Rattle.gauge.proofs.Lists.{Same, list_same, list_holds, links_of}
use Rattle.update.proofs.UpdateLaws.{updated_nine, update_reads_no_other}
use Rattle.visits.specs.Visits.{stuck_among, segment, overrelax, overrelaxed_field, stuck_count}
use Rattle.visits.proofs.Visited.{Inside, visited_none, visited_nine, visited_join, stuck_append, stuck_few, stuck_join}

-- ## sites that follow each other

-- two pieces of the sites of a parity
pub record Pieces (d : List ℕ) (p : ℕ) (a b : List ℕ) : Type 0 where
  pub first : Inside d p a
  pub second : Inside d p b
  pub apart : Disjoint a b

module _ (d : List ℕ) (p : ℕ) where
  -- a part of the sites has sites of the parity, each once
  pub part_inside : (s t : ℕ) → Inside d p (segment d p s t)
  part_inside s t n m =
      let tail = subst (Mem n) (take-append-drop t (drop s (sites_of d p))) (mem-append_left (drop t (drop s (sites_of d p))) m) in
      site_inside d p n (subst (Mem n) (take-append-drop s (sites_of d p)) (mem-append_right (take s (sites_of d p)) tail))

  part_once : (s t : ℕ) → Nodup (segment d p s t)
  part_once s t =
      let tail = ((Nodup-append {l₁ = take s (sites_of d p)}).0 (subst Nodup (sym (take-append-drop s (sites_of d p))) (sites_once d p))).1 in
      ((Nodup-append {l₁ = segment d p s t} {l₂ = drop t (drop s (sites_of d p))}).0 (subst Nodup (sym (take-append-drop t (drop s (sites_of d p)))) tail)).0

  pub pieces : (s t : ℕ) (a b : List ℕ) → segment d p s t ≡ a ++ b → Pieces d p a b
  pieces s t a b e = record {
    first = λ n m. part_inside s t n (subst (Mem n) (sym e) (mem-append_left b m));
    second = λ n m. part_inside s t n (subst (Mem n) (sym e) (mem-append_right a m));
    apart = ((Nodup-append {l₁ = a}).0 (subst Nodup e (part_once s t))).2;
  }

  module _ (shape : Shape d) (two : p < 2) where
    pub length_part : (s t : ℕ) → length (segment d p s t) ≡ min t (half_of d - s)
    length_part s t = length-take t (drop s (sites_of d p)) ∙ ap (λ (x : ℕ). min t x) (length-drop s (sites_of d p) ∙ ap (λ (x : ℕ). x - s) (count_sites d shape p two))

    -- one site more
    pub part_next : (s t : ℕ) → s + t < half_of d → segment d p s (suc t) ≡ segment d p s t ++ (nth_of d p (s + t) ∷ [])
    part_next s t h =
        let room : t < length (drop s (sites_of d p)) = rw (length-drop s (sites_of d p), count_sites d shape p two) (omega arith) in
        take-suc (drop s (sites_of d p)) t 0 room
        ∙ ap (λ (n : ℕ). segment d p s t ++ (n ∷ [])) (get_or-drop s (sites_of d p) t 0 ∙ site_at_lem d shape p two (s + t) h)

    pub few_stuck : (mu : ℕ) (U : Field) (s t : ℕ) {r : ℕ} → r ≡ stuck_count d mu U (segment d p s t) → r ≤ t
    few_stuck mu U s t e = omega (arith, e, stuck_few (overrelax d mu) U (segment d p s t), length_part s t)

-- ## visits of one piece, and then of the other

module _ (d : List ℕ) (mu : ℕ) where
  pub field_nine : (l : List Float) (a : List ℕ) (nu n : ℕ) → length (overrelaxed_field d mu (link_of d l) a nu n).m ≡ 9
  field_nine l a = visited_nine (overrelax d mu) mu (link_of d l) (λ nu n. matrix_nine l _) (λ n old h. unfold update_of in (updated_nine _ _ old h)) a

  -- before any visit
  pub visits_none : (l : List Float) → length l ≡ 72 * volume d → l ≡ list_of d (overrelaxed_field d mu (link_of d l) [])
  visits_none l len = list_holds d l len (λ nu n h g. sym (visited_none (overrelax d mu) mu (link_of d l) nu n))

module _ (d : List ℕ) (shape : Shape d) (mu p : ℕ) (axis : mu < 4) where
  -- the list l holds the field that l₀ held, after visits of a
  module _ (l₀ l : List Float) (a b : List ℕ) (both : Pieces d p a b) (after : l ≡ list_of d (overrelaxed_field d mu (link_of d l₀) a)) where
    same : Same d (link_of d l) (overrelaxed_field d mu (link_of d l₀) a)
    same = rw after (links_of d (overrelaxed_field d mu (link_of d l₀) a) (field_nine d mu l₀ a))

    pub visits_join : list_of d (overrelaxed_field d mu (link_of d l) b) ≡ list_of d (overrelaxed_field d mu (link_of d l₀) (a ++ b))
    visits_join =
        list_same d (visited_join d mu p (overrelax d mu) axis (λ U W. update_reads_no_other d shape mu p U W axis)
        (link_of d l₀) (link_of d l) a b both.first both.second both.apart same)

    pub count_join : stuck_count d mu (link_of d l₀) a + stuck_count d mu (link_of d l) b ≡ stuck_count d mu (link_of d l₀) (a ++ b)
    count_join =
        ap (λ (x : ℕ). stuck_count d mu (link_of d l₀) a + x)
        (stuck_join d mu p (overrelax d mu) axis (λ U W. update_reads_no_other d shape mu p U W axis)
        (link_of d l₀) (link_of d l) a b both.first both.second both.apart same)
        ∙ sym (stuck_append (overrelax d mu) (link_of d l₀) a b)

-- ## one site more: after those from the from-th on, the k-th

module _ (d : List ℕ) (shape : Shape d) (mu p : ℕ) (axis : mu < 4) (two : p < 2) (l₀ l : List Float) (from k n : ℕ)
    (reached : from ≤ k) (room : k < half_of d) (site : n ≡ nth_of d p k)
    (after : l ≡ list_of d (overrelaxed_field d mu (link_of d l₀) (segment d p from (k - from))))
  where
    grown : segment d p from (k + 1 - from) ≡ segment d p from (k - from) ++ (n ∷ [])
    grown =
        let more : k + 1 - from ≡ suc (k - from) = omega arith in
        let here : from + (k - from) ≡ k = omega arith in
        rw (more, site) (rw here at (part_next d p shape two from (k - from) (omega arith)))

    both : Pieces d p (segment d p from (k - from)) (n ∷ [])
    both = pieces d p from (k + 1 - from) (segment d p from (k - from)) (n ∷ []) grown

    pub visit_next : {s : ℕ} → s ≡ stuck_count d mu (link_of d l₀) (segment d p from (k - from)) → {b : Bool} → b ≡ is_stuck (update_of d (link_of d l) n mu)
        → (list_of d (overrelaxed_field d mu (link_of d l) (n ∷ [])) ≡ list_of d (overrelaxed_field d mu (link_of d l₀) (segment d p from (k + 1 - from))))
        × (s + cond b 1 0 ≡ stuck_count d mu (link_of d l₀) (segment d p from (k + 1 - from)))
    unfolding stuck_among
    visit_next e f =
        let all = count_join d shape mu p axis l₀ l (segment d p from (k - from)) (n ∷ []) both after in (
          rw grown (visits_join d shape mu p axis l₀ l (segment d p from (k - from)) (n ∷ []) both after),
          rw (grown, ← all, e, f) (omega arith),
        )
