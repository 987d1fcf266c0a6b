use Rattle.judge_run.proofs.WholeLaws.{judges_whole}
use Rattle.judge_run.proofs.top.judge.Goals as goal

pub returns-clause-whole : goal.returns-clause-whole
returns-clause-whole g c s k =
    judges_whole c.meant_is_answered.ensures (g.S.Source.left c.args.source.now) (g.S.Source.left c.judge_input.new.source) c.judge_input.result _ _ c.judge_input.ensures.answered (c.judge_input.ensures.complete s k)
