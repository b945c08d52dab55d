-- Sites by number and by coordinates, for any list of extents: n = t + nt(x + nx(y + ny z)), first extent fastest. Definitions only.
use Rattle.std.specs.Prelude.{ℕ, ◌+◌, ◌*◌, ◌/◌, ◌%◌, ◌<◌, cond, List, [], ◌∷◌, ◌≡◌, ltb, length, get_or}

-- the number of sites: the product of the extents
unfoldable pub volume : List ℕ → ℕ
volume [] = 1
volume (e ∷ d) = e * volume d

-- the coordinates of a site
unfoldable pub coords_of : List ℕ → ℕ → List ℕ
coords_of [] n = []
coords_of (e ∷ d) n = n % e ∷ coords_of d (n / e)

-- the site at coordinates
unfoldable pub index_of : List ℕ → List ℕ → ℕ
index_of [] cs = 0
index_of (e ∷ d) [] = 0
index_of (e ∷ d) (c ∷ cs) = c + e * index_of d cs

-- the coordinates of the next site: the first that can go on does, those before it go back to 0
unfoldable pub next_coords : List ℕ → List ℕ → List ℕ
next_coords [] cs = []
next_coords (e ∷ d) [] = []
next_coords (e ∷ d) (c ∷ cs) = cond (ltb (c + 1) e) ((c + 1) ∷ cs) (0 ∷ next_coords d cs)

-- coordinates, one to each extent and below it
pub record Within (d cs : List ℕ) : Type 0 where
  pub len : length cs ≡ length d
  pub each : (mu : ℕ) → mu < length d → get_or cs mu 0 < get_or d mu 0
