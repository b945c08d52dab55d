-- Steps at the front of an array of 96, and the default step at the places past them.
use Rattle.std.proofs.Common.{ℕ, zero, suc, ◌+◌, ◌-◌, ◌<◌, ◌≤◌, List, [], ◌∷◌, ◌++◌, take, length, replicate, ◌≡◌, ap, sym, append_assoc, arith}
use Rattle.std.proofs.lemmas.List.{take_more_set, length-replicate}
use Rattle.std.proofs.Math.Seq.{set-append_seam}
use Rattle.std.proofs.Math.ListN.{set, length-append}
use Rattle.stairs.specs.declared.Step.{Step}
use Rattle.stairs.specs.Staircase.{no_step}

len : (n : ℕ) (l : List Step) → n ≤ 96 → length (take n l) ≡ n → take n l ++ replicate (96 - n) no_step ≡ l → length l ≡ 96
len n l low e whole =
    let m : length (take n l ++ replicate (96 - n) no_step) ≡ 96 = rw (length-append, e, length-replicate) (omega (arith, low)) in
    rw whole at m

-- one more at the front
pub pushed : (n : ℕ) (l : List Step) (x : Step) → n < 96 → length (take n l) ≡ n → take n l ++ replicate (96 - n) no_step ≡ l → take (n + 1) (set l n x) ≡ take n l ++ x ∷ []
pushed n l x low e whole = take_more_set l n x (rw (len n l (omega (arith, low)) e whole) low)

-- and one place less past them
pub padded : (n : ℕ) (l : List Step) (x : Step) → n < 96 → length (take n l) ≡ n → take n l ++ replicate (96 - n) no_step ≡ l → take (n + 1) (set l n x) ++ replicate (96 - (n + 1)) no_step ≡ set l n x
padded n l x low e whole =
    let k : 96 - n ≡ suc (96 - (n + 1)) = omega (arith, low) in
    let split : take n l ++ no_step ∷ replicate (96 - (n + 1)) no_step ≡ l = rw k at whole in
    let seam = set-append_seam (take n l) no_step (replicate (96 - (n + 1)) no_step) x in
    let there = rw (split, e) at seam in
    rw (pushed n l x low e whole, append_assoc) (sym there)

-- the default step at the front is as good as past it
pub defaults : (n : ℕ) → n ≤ 96 → take n (replicate 96 no_step) ++ replicate (96 - n) no_step ≡ replicate 96 no_step
defaults n low = go n (96 - n) 96 (omega (arith, low))
  where
    go : (n k m : ℕ) → n + k ≡ m → take n (replicate m no_step) ++ replicate k no_step ≡ replicate m no_step
    go zero k m e = let f : k ≡ m = omega (arith, e) in ap (λ x. replicate x no_step) f
    go (suc n) k zero e = absurd (omega (arith, e))
    go (suc n) k (suc m) e = ap (λ l. no_step ∷ l) (go n k m (omega (arith, e)))
