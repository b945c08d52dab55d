use Rattle.std.proofs.Common.{rules}
use Rattle.ascii.proofs.Counted.{hex_line}
use Rattle.ascii.proofs.word_line.Goals as goal

pub returns-clause-items : goal.returns-clause-items
returns-clause-items g c = search (hex_line, rules)
