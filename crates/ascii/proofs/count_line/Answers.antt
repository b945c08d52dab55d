use Rattle.std.proofs.Common.{rules}
use Rattle.ascii.proofs.Counted.{decimal_line}
use Rattle.ascii.proofs.count_line.Goals as goal

pub returns-clause-items : goal.returns-clause-items
returns-clause-items g c = search (decimal_line, rules)
