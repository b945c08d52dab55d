-- Bytes appended one after the other, and a line's length.
use Prim.Native.Nat.{ℕ, ◌+◌}
use mathlib.Core.List.{List, ◌++◌, append_assoc}
use mathlib.Core.Path.{◌≡◌}
use native.Mathlib.Omega.{arith}
use lib.ListN.{length, length-append}
use Rattle.ascii.specs.Lines.{ascii, text_line}

pub then : (text xs ys : List ℕ) {next last : List ℕ} → last ≡ next ++ ys → next ≡ text ++ xs → last ≡ text ++ (xs ++ ys)
then text xs ys second first = rw (second, first) (append_assoc text xs ys)

pub line_after : (text name value : List ℕ) {bytes a b c d : List ℕ} → bytes ≡ name → a ≡ text ++ bytes → b ≡ a ++ ascii " " → c ≡ b ++ value → d ≡ c ++ ascii "\n" → d ≡ text ++ text_line name value
unfolding text_line
line_after text name value same e f g h = rw (h, g, f, e, same) (simp append_assoc)

pub length_line : (name value : List ℕ) → length (text_line name value) ≡ length name + length value + 2
unfolding text_line
length_line name value = rw (length-append, length-append, length-append) (omega arith)

pub length_after : (text name value : List ℕ) {next : List ℕ} → next ≡ text ++ text_line name value → length next ≡ length text + length name + length value + 2
length_after text name value e = rw (e, length-append, length_line) (omega arith)
