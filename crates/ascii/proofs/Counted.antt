-- How many digits a number has, and the lines of numbers; a finite number is no NaN.
use Prim.Native.Nat.{ℕ, zero, suc, ◌+◌, ◌*◌, ◌/◌, ◌-◌, ◌^◌, ◌≤◌, ◌<◌}
use mathlib.Core.Bool.{Bool, true, false, cond, not, true≢false}
use mathlib.Core.Path.{◌≡◌, refl, sym}
use native.Mathlib.Nat.{one-le-pow, pow-suc, pow-le-pow_right}
use native.Mathlib.Omega.{arith}
use lib.Dec.{T, ltb}
use lib.Ieee.{Float, nan, inf, fin, is_nan}
use lib.Ieee.Scale.{finite}
use borrow.Author.Tests.{ltb-true, ltb-false}
use Rattle.io.specs.Digits.{IsDigitCount}
use mathlib.Core.List.{List, ◌++◌}
use lib.ListN.{take}
use Rattle.io.specs.Digits.{last_digits}
use Rattle.std.proofs.Common.{Fits, w64}
use Rattle.ascii.specs.Lines.{places_of, decimal_text, hex_text, text_line}

-- the least number of so many digits
least : (n s : ℕ) → IsDigitCount 10 1 n (suc (suc s)) → 10 ^ s * 10 ≤ n
least n s f =
    let e : suc (suc s) - 1 ≡ suc s = omega arith in
    rw (e, pow-suc) at (f.2 (omega arith))

one_digit : (n r : ℕ) → n < 10 → IsDigitCount 10 1 n r → r ≡ 1
one_digit n zero small f = absurd (omega arith)
one_digit n (suc zero) small f = refl
one_digit n (suc (suc s)) small f =
    let low = least n s f in
    let some : 1 ≤ 10 ^ s = one-le-pow s 10 (omega arith) in
    absurd (omega arith)

-- without its last digit
fewer : (n s : ℕ) → IsDigitCount 10 1 n (suc (suc s)) → IsDigitCount 10 1 (n / 10) (suc s)
fewer n s f =
    let low = least n s f in
    let high : n < 10 ^ suc s * 10 = rw (pow-suc 10 (suc s)) at f.1 in
    let e : suc s - 1 ≡ s = omega arith in
    (omega arith, omega arith, λ more. rw e (omega arith))

pub places_fewest : (k n r : ℕ) → n < 10 ^ (k + 1) → IsDigitCount 10 1 n r → r ≡ places_of k n
unfolding places_of
places_fewest zero n r small f = one_digit n r (omega arith) f
places_fewest (suc k) n r small f = go (ltb n 10) refl (places_fewest k)
  where
    rest : (r : ℕ) → 10 ≤ n → IsDigitCount 10 1 n r → ((m s : ℕ) → m < 10 ^ (k + 1) → IsDigitCount 10 1 m s → s ≡ places_of k m) → r ≡ places_of k (n / 10) + 1
    rest zero big f short = absurd (omega arith)
    rest (suc zero) big f short = let low : n < 10 = f.1 in absurd (omega arith)
    rest (suc (suc s)) big f short =
        let e : suc k + 1 ≡ suc (k + 1) = omega arith in
        let high : n < 10 ^ (k + 1) * 10 = rw (e, pow-suc) at small in
        let same = short (n / 10) (suc s) (omega arith) (fewer n s f) in
        omega arith

    go : (b : Bool) → ltb n 10 ≡ b → ((m s : ℕ) → m < 10 ^ (k + 1) → IsDigitCount 10 1 m s → s ≡ places_of k m) → r ≡ cond b 1 (places_of k (n / 10) + 1)
    go true h short = one_digit n r (ltb-true n 10 h) f
    go false h short = rest r (ltb-false n 10 h) f short

-- a number below b ^ m has at most m digits
pub at_most : (b low m n r : ℕ) → 0 < b → low ≤ m → n < b ^ m → IsDigitCount b low n r → r ≤ m
at_most b low m n r base wide small f = go (ltb m r) refl
  where
    go : (t : Bool) → ltb m r ≡ t → r ≤ m
    go true h =
        let more : m < r = ltb-true m r h in
        let under : b ^ (r - 1) ≤ n = f.2 (omega arith) in
        let high : b ^ m ≤ b ^ (r - 1) = pow-le-pow_right {n = b} base {i = m} {j = r - 1} (omega arith) in
        absurd (omega arith)
    go false h = ltb-false m r h

pub sixteen : (n r : ℕ) → n < 2 ^ 64 → IsDigitCount 16 16 n r → r ≡ 16
sixteen n r small f = let most = at_most 16 16 16 n r (omega arith) (omega arith) small f in omega arith

pub twenty : (n r : ℕ) → n < 2 ^ 64 → IsDigitCount 10 1 n r → r ≤ 20
twenty n r small f = at_most 10 1 20 n r (omega arith) (omega arith) (omega arith) f

pub no_nan : (x : Float) → finite x ≡ true → T (not (is_nan x))
unfolding is_nan
no_nan nan h = absurd (true≢false (sym h))
no_nan (inf s) h = tt
no_nan (fin s m e) h = tt

-- the line of digits that were put at the start of a list
module _ (text name out : List ℕ) (r : ℕ) {next : List ℕ} (line : next ≡ text ++ text_line name (take r out)) where
  pub decimal_line : (n : ℕ) → Fits w64 n → IsDigitCount 10 1 n r → take r out ≡ last_digits 10 r n → next ≡ text ++ text_line name (decimal_text n)
  unfolding decimal_text
  decimal_line n small f e = rw (← places_fewest 19 n r (omega arith) f, ← e) line

  pub hex_line : (n : ℕ) → Fits w64 n → IsDigitCount 16 16 n r → take r out ≡ last_digits 16 r n → next ≡ text ++ text_line name (hex_text n)
  unfolding hex_text
  hex_line n small f e = rw (line, e, sixteen n r (omega arith) f)
