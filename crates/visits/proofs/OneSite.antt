-- A visit of one site: the list with the link's update stored, or as it is where the link is stuck.
use Rattle.std.proofs.Common.{ℕ, ◌<◌, Ok, Err, ◌*◌, arith, List, [], ◌∷◌, ◌≡◌, refl, sym, ◌∙◌, Float, length}
use mathlib.Core.HLevel.{⊥_prop}
use mathlib.Core.List.Memᴰ
use mathlib.Core.List.{mem-cons_self}
use mathlib.Core.Logic.{∥∥₁_elim}
use native.Mathlib.Decide.{ℕ_discrete}
use Rattle.mat.specs.declared.Su3.{Su3}
use Rattle.geometry.specs.Radix.{volume}
use Rattle.links.specs.Store.{with_matrix}
use Rattle.links.specs.Field.{place_of, link_number}
use Rattle.links.proofs.Laws.{matrix_nine, link_same, link_other, length-with_matrix, number_same, number_below}
use Rattle.gauge.specs.Field.{link_of, list_of}
use Rattle.std.specs.Result.{result_unwrap_or}
use Rattle.update.specs.declared.Stuck.{Stuck}
use Rattle.update.specs.Update.{update_of}
use Rattle.gauge.proofs.Lists.{list_holds}
use Rattle.update.proofs.UpdateLaws.{updated_nine}
use Rattle.visits.specs.Visits.{visited_link, overrelax, overrelaxed_field}
use Rattle.visits.proofs.Visited.{visited_in, visited_out}

module _ (d : List ℕ) (l : List Float) (n mu : ℕ) (fits : length l ≡ 72 * volume d) (below : n < volume d) (axis : mu < 4) where
  here : (nu m : ℕ) → nu ≡ mu → m ≡ n → overrelaxed_field d mu (link_of d l) (n ∷ []) nu m ≡ visited_link (update_of d (link_of d l) n mu) (link_of d l mu n)
  here nu m e f = rw (e, f) (visited_in (overrelax d mu) mu (link_of d l) (n ∷ []) mu n refl mem-cons_self)

  off_site : (nu m : ℕ) → (m ≡ n → ⊥) → overrelaxed_field d mu (link_of d l) (n ∷ []) nu m ≡ link_of d l nu m
  off_site nu m f = visited_out (overrelax d mu) mu (link_of d l) (n ∷ []) nu m (λ e i. ∥∥₁_elim i ⊥_prop (λ x. f (Memᴰ.eq_of_singleton x)))

  off_axis : (nu m : ℕ) → (nu ≡ mu → ⊥) → overrelaxed_field d mu (link_of d l) (n ∷ []) nu m ≡ link_of d l nu m
  off_axis nu m f = visited_out (overrelax d mu) mu (link_of d l) (n ∷ []) nu m (λ e i. f e)

  pub site_stuck : {cause : Stuck} → update_of d (link_of d l) n mu ≡ Err cause → l ≡ list_of d (overrelaxed_field d mu (link_of d l) (n ∷ []))
  unfolding visited_link
  site_stuck stuck = list_holds d l fits (λ nu m h g. go nu m (ℕ_discrete nu mu) (ℕ_discrete m n))
    where
      go : (nu m : ℕ) → Dec (nu ≡ mu) → Dec (m ≡ n) → link_of d l nu m ≡ overrelaxed_field d mu (link_of d l) (n ∷ []) nu m
      go nu m (yes e) (yes f) = rw (here nu m e f, stuck, e, f)
      go nu m (yes e) (no f) = sym (off_site nu m f)
      go nu m (no e) f = sym (off_axis nu m e)

  pub site_moved : {u : Su3} → update_of d (link_of d l) n mu ≡ Ok u → with_matrix l (place_of (volume d) mu n) u ≡ list_of d (overrelaxed_field d mu (link_of d l) (n ∷ []))
  unfolding visited_link
  site_moved {u} moved =
      list_holds d (with_matrix l (place_of (volume d) mu n) u) (length-with_matrix l (place_of (volume d) mu n) u ∙ fits)
      (λ nu m h g. go nu m g (ℕ_discrete nu mu) (ℕ_discrete m n))
    where
      nine : length u.m ≡ 9
      nine =
          let nine_or : length (result_unwrap_or (update_of d (link_of d l) n mu) (link_of d l mu n)).m ≡ 9 = unfold update_of in (updated_nine _ _ _ (matrix_nine l _)) in
          rw moved at nine_or

      other : (nu m : ℕ) → m < volume d → (nu ≡ mu → m ≡ n → ⊥) → link_of d (with_matrix l (place_of (volume d) mu n) u) nu m ≡ link_of d l nu m
      other nu m g out =
          link_other l (link_number (volume d) mu n) u (link_number (volume d) nu m)
          (λ e. let both = number_same (volume d) nu mu m n g below e in out both.0 both.1)

      go : (nu m : ℕ) → m < volume d → Dec (nu ≡ mu) → Dec (m ≡ n) → link_of d (with_matrix l (place_of (volume d) mu n) u) nu m ≡ overrelaxed_field d mu (link_of d l) (n ∷ []) nu m
      go nu m g (yes e) (yes f) =
          rw (here nu m e f, moved, e, f) (link_same l (link_number (volume d) mu n) u (omega (arith, fits, number_below (volume d) mu n axis below)) nine)
      go nu m g (yes e) (no f) = other nu m g (λ a b. f b) ∙ sym (off_site nu m f)
      go nu m g (no e) f = other nu m g (λ a b. e a) ∙ sym (off_axis nu m e)
