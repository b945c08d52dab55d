-- What `Pattern::root` returns is the pattern of the root. Assumes nothing.
use Rattle.std.proofs.Common.{◌≡◌, ℕ, ◌+◌, ◌-◌, ◌*◌, ◌/◌, ◌%◌, ◌^◌, ◌<◌, ◌≤◌, false, sym, ap, ◌∙◌, subst, arith}
use lib.Ieee.{binary64, of_bits, odd}
use Rattle.root.specs.Root.{IsNearestRoot}
use Rattle.root.specs.Sqrt.{sqrt_units}
use Rattle.root.specs.Parts.{PartsOf, units_bits}
use Rattle.root.proofs.Scaling.{sqrt_units_at, scaled_same, near_in}
use Rattle.root.proofs.Patterns.{written}

pub bits_of : (b m g a q : ℕ) → PartsOf b m g → a ≡ m * 2 ^ (g % 2) → 2 ^ 52 ≤ a → a < 2 ^ 54 - 1 → IsNearestRoot (a * 2 ^ 52) q → 2 ^ 52 ≤ q → q < 2 ^ 53
    → of_bits binary64 ((g / 2 - 26) * 2 ^ 52 + q) ≡ sqrt_units (units_bits b)
bits_of b m g a q p e al ah n lo hi =
    let least = p.least in
    let most = p.most in
    written q (g / 2 - 26) lo hi (omega arith)
    ∙ ap (λ (k : ℕ). odd 53 false q k 1074) (step g p.least)
    ∙ sym (sqrt_units_at (units_bits b) a (g / 2 - 27) q al (omega arith) (p.same ∙ rw e (scaled_same m g p.least)) (omega arith) n)
  where
    step : (g : ℕ) → 1022 ≤ g → g / 2 - 26 ≡ g / 2 - 27 + 1
    step g l = omega arith

-- ---- of `has_root`: w is that pattern where its digits, after the exponent, are the nearest ones

pub seen : (b m g a w q : ℕ) → PartsOf b m g → a ≡ m * 2 ^ (g % 2) → 2 ^ 52 ≤ a → a < 2 ^ 54 - 1 → (q + (g / 2 - 26) * 2 ^ 52) % 2 ^ 64 ≡ w → IsNearestRoot (a * 2 ^ 52) q
    → of_bits binary64 w ≡ sqrt_units (units_bits b)
seen b m g a w q p i al ah e near =
    let d = near_in a q al ah near in
    subst (λ (z : ℕ). of_bits binary64 z ≡ sqrt_units (units_bits b)) (whole g w q p.least p.most d.1 e) (bits_of b m g a q p i al ah near d.0 d.1)
  where
    whole : (g w q : ℕ) → 1022 ≤ g → g < 3120 → q < 2 ^ 53 → (q + (g / 2 - 26) * 2 ^ 52) % 2 ^ 64 ≡ w → (g / 2 - 26) * 2 ^ 52 + q ≡ w
    whole g w q h j l e = omega arith
