-- Offsets in reach: from −32 to 32 along each axis; and time lengths, up to 64. A quark's offset is x, y, z.
use Rattle.std.specs.Prelude.{ℕ, Bool, ◌||◌, List, ℤ, pos, negsuc, ltb}
use Rattle.std.specs.List.{list_any}
use Rattle.std.specs.Int.Signed.{lt_z}

-- 11: a number out of range
unfoldable pub bad_offset : ℤ → Bool
bad_offset x = lt_z x (negsuc 31) || lt_z (pos 32) x

-- one of an offset's three
unfoldable pub bad_offsets : List ℤ → Bool
bad_offsets d = list_any bad_offset d

-- one of three quarks' offsets
unfoldable pub bad_quarks : List (List ℤ) → Bool
bad_quarks o = list_any bad_offsets o

-- 11: a time length above 64
unfoldable pub bad_time : ℕ → Bool
bad_time t = ltb 64 t
