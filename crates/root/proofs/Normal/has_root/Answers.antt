use Rattle.std.proofs.Common.{arith}
use Rattle.root.proofs.Assemble.{seen}
use Rattle.root.proofs.Normal.has_root.Goals as goal

pub returns : goal.returns
returns c = λ e.
    let p = c.parts-p.result in
    let a = c.radicand.result in
    seen c.args.self.bits p.m.digits p.g a.a c.args.w _ c.parts-p.ensures c.radicand.ensures a.least a.most (omega arith) (c.is_nearest.ensures.0 e)
