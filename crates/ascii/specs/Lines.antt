-- Text in ASCII: words, numbers, and lines of a name and a value.
use Rattle.std.specs.Prelude.{ℕ, zero, suc, ◌+◌, ◌/◌, cond, List, [], ◌∷◌, ◌++◌, ltb, Float}
use Prim.Native.Char.{code}
use Prim.Native.String.{String, len, char_at}
use Rattle.std.specs.Float.{binary64}
use Rattle.std.specs.Float.Ieee.{to_bits}
use Rattle.io.specs.Digits.{last_digits}

-- the codes of a word's first k characters
abbrev pub codes : String → ℕ → List ℕ
codes s zero = []
codes s (suc k) = codes s k ++ code (char_at s k) ∷ []

abbrev pub ascii : String → List ℕ
ascii s = codes s (len s)

-- how many decimal digits a number below 10 ^ (k + 1) has
unfoldable pub places_of : ℕ → ℕ → ℕ
places_of zero n = 1
places_of (suc k) n = cond (ltb n 10) 1 (places_of k (n / 10) + 1)

-- a number below 2 ^ 64 in decimal: 20 digits at most
unfoldable pub decimal_text : ℕ → List ℕ
decimal_text n = last_digits 10 (places_of 19 n) n

-- a number below 2 ^ 64 in 16 hexadecimal digits
unfoldable pub hex_text : ℕ → List ℕ
hex_text n = last_digits 16 16 n

-- an f64 by its bits
unfoldable pub number_text : Float → List ℕ
number_text x = hex_text (to_bits binary64 x)

-- a name, a space, a value, and the line's end
unfoldable pub text_line : List ℕ → List ℕ → List ℕ
text_line name value = name ++ ascii " " ++ value ++ ascii "\n"
