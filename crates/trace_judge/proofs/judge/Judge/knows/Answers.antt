use Rattle.std.proofs.Common.{◌≡◌, subst, true}
use Rattle.yard_model.specs.declared.fact.Fact.TheVariants as fact
use Rattle.yard_model.specs.Safe.{safe}
use Rattle.judge_laws.proofs.BrokenLaws.{unbroken_is_exact}
use Rattle.trace_judge.specs.Judging.{Judged}
use Rattle.trace_judge.proofs.judge.Judge.knows.Goals as goal

pub returns : goal.returns
returns c =
    let i = c.self.inside in
    subst (λ (v : Judged). safe v.script v.trace ≡ true) c.self.view_is ((unbroken_is_exact i.slots.script i.story.told fact.Nothing c.self.invariant.shards c.self.invariant.unbroken).before)
