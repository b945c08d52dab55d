-- When a situation does not hold, and when one does.
use Rattle.std.proofs.Common.{ℕ, ◌*◌, ◌<◌, true, false, List, ◌≡◌, lt-ltb, eq-eqb, ne_eqb}
use Rattle.geometry.specs.Radix.{volume}
use Rattle.geometry.specs.Shape.{fits_of}
use Rattle.field_checks.specs.Situations.{bad_extents, bad_links, bad_site}

module _ (d : List ℕ) where
  pub good_extents : fits_of d ≡ true → bad_extents d ≡ false
  unfolding bad_extents
  good_extents h = rw h

  pub bad_links_lem : {len : ℕ} → (len ≡ 72 * volume d → ⊥) → bad_links d len ≡ true
  unfolding bad_links
  bad_links_lem h = rw (ne_eqb _ _ h)

  pub good_links : {len : ℕ} → len ≡ 72 * volume d → bad_links d len ≡ false
  unfolding bad_links
  good_links h = rw (eq-eqb _ _ h)

  pub good_site : {n : ℕ} → n < volume d → bad_site d n ≡ false
  unfolding bad_site
  good_site h = rw (lt-ltb _ _ h)
