use Rattle.std.proofs.Common.{subst}
use Rattle.judge_text.specs.Hears.{HearsLine}
use Rattle.judge_text.proofs.HearLaws.{last_heard, last_passed}
use Rattle.judge_text.proofs.reading.last.Goals as goal

pub returns-in-Some : goal.returns-in-Some
returns-in-Some c =
    last_heard c.args.hearing.now c.take.new.self c.args.rest.now c.in-Some.answer c.requires.no_line c.requires.some
    (subst (λ o. HearsLine c.args.hearing.now c.args.rest.now o c.take.new.self) c.in-Some.is c.in_ok-answer.ensures)

pub returns-in-None : goal.returns-in-None
returns-in-None c =
    last_passed c.args.hearing.now c.take.new.self c.args.rest.now c.end.result c.requires.no_line c.requires.some
    (subst (λ o. HearsLine c.args.hearing.now c.args.rest.now o c.take.new.self) c.in-None.is c.in_ok-answer.ensures) c.end.ensures
