use Rattle.root.proofs.Assemble.{bits_of}
use Rattle.root.proofs.Pattern.root.Goals as goal

pub returns : goal.returns
returns c =
    let a = c.radicand.result in
    let n = c.nearest-n.result in
    bits_of c.args.self.bits c.parts-p.result.m.digits c.parts-p.result.g a.a n.digits c.parts-p.ensures c.radicand.ensures a.least a.most c.nearest-n.ensures n.least n.most
