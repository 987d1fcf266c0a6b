use Rattle.judge_text.proofs.HearLaws.{cuts_at}
use Rattle.judge_text.proofs.lines.first_line.Goals as goal

pub returns-in-Some : goal.returns-in-Some
returns-in-Some c = cuts_at c.args.bytes.now c.in-Some.end c.in-Some.ensures.place c.in-Some.ensures.within
