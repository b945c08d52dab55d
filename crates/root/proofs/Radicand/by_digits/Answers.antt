-- Half of the root of four times as much, rounded up, is the nearest whole number.
use Rattle.root.proofs.Scaling.{nearest_is}
use Rattle.root.proofs.Radicand.by_digits.Goals as goal

pub invariant_of-result : goal.invariant_of-result
invariant_of-result c =
    let n = nearest_is c.args.self.a c.root54.result c.args.self.least c.args.self.most c.root54.ensures in
    record { least = n.1; most = n.2 }

pub returns : goal.returns
returns c = (nearest_is c.args.self.a c.root54.result c.args.self.least c.args.self.most c.root54.ensures).0
