-- Sound links, as the scope defines them: the link check lists those that are not.
use Rattle.std.specs.Prelude.{ℕ, ◌*◌, ◌/◌, ◌%◌, Bool, false, ◌&&◌, ◌≡◌, Float, length, take, drop}
use Rattle.std.proofs.Math.Bool.{Bool-discrete}
use mathlib.Core.List.{List, Perm, filter}
use Rattle.std.specs.Float.Ieee.{le, neg}
use Rattle.std.specs.Float.Ieee.Scale.{finite}
use Rattle.folds.specs.Folds.{all_below}
use Rattle.complex.specs.declared.C64.{C64}
use Rattle.mat.specs.declared.Su3.{Su3}
use Rattle.complex.specs.Rounded.{fone}
use Rattle.mat.specs.Matrix.{ent}
use Rattle.geometry.specs.Radix.{volume}
use Rattle.geometry.specs.Range.{range}
use Rattle.links.specs.Field.{Field}

-- finite, and from −1 to 1
unfoldable pub sound_number : Float → Bool
sound_number x = finite x && (le (neg fone) x && le x fone)

unfoldable pub sound_entry : C64 → Bool
sound_entry z = sound_number z.re && sound_number z.im

-- all eighteen numbers
unfoldable pub sound_of : Su3 → Bool
sound_of u = all_below (λ k. sound_entry (ent u k)) 9

-- whether the link with number k, direction times sites + site, is sound
unfoldable pub sound_link : List ℕ → Field → ℕ → Bool
sound_link d U k = sound_of (U (k / volume d) (k % volume d))

-- the numbers of the links that are not
unfoldable pub unsound_links : List ℕ → Field → List ℕ
unsound_links d U = filter (λ k. Bool-discrete (sound_link d U k) false) (range (4 * volume d))

-- a list of numbers written to the front of another, in some order; later places are kept
pub record Listed (numbers old : List ℕ) (count : ℕ) (new : List ℕ) : Type 0 where
  pub counted : count ≡ length numbers
  pub front : Perm (take count new) numbers
  pub later : drop count new ≡ drop count old
