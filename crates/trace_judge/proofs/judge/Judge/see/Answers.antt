use Rattle.std.proofs.Common.{◌<◌, subst}
use Rattle.trace_judge.specs.Judging.{Judged, Passes}
use Rattle.trace_judge.proofs.JudgeLaws.{fails_so}
use Rattle.trace_judge.proofs.judge.Judge.see.Goals as goal

pub breach-requires : goal.breach-requires
breach-requires c =
    let v = c.args.self.now in
    let f = c.args.fact.now in
    fails_so v c.enter.new.self f (subst (λ (w : Judged). 0 < w.script.config.shards) c.self.view_is c.self.invariant.shards) (subst (λ b. Passes v f b c.enter.new.self) c.if-branch.false c.in_ok-enter.ensures.ok)
