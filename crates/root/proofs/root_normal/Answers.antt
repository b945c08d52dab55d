use Rattle.std.proofs.Common.{T, sym, subst, ◌∙◌}
use lib.Ieee.{binary64}
use lib.Ieee.Bits.{of_bits-to_bits}
use Rattle.root.proofs.root_normal.Goals as goal

pub returns-then-has_root : goal.returns-then-has_root
returns-then-has_root c = sym (of_bits-to_bits binary64 c.guess-r.result (subst T (sym c.guess-r.type_inv) tt)) ∙ c.has_root.ensures c.if-has_root.true
