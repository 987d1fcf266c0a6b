use Rattle.std.proofs.Common.{◌≡◌, ◌∙◌, sym}
use Rattle.std.specs.Prelude.{None, Some}
use Rattle.serve_laws.proofs.OneLaws.{reply_of_one}
use Rattle.serve_answers.specs.Records.{records_in}
use Rattle.serve_answers.proofs.RecordLaws.{the_reply}
use Rattle.serve_answers.proofs.records.reply_of.Goals as goal

pub unreachable-requires : goal.unreachable-requires
unreachable-requires c =
    let none : None ≡ Some c.requires.0.reply = sym c.in-None.ensures ∙ reply_of_one c.args.producer c.args.number (records_in c.args.entity.now c.args.list.now) c.requires.0 c.requires.1 in
    cc

pub returns : goal.returns
returns c = the_reply c.args.producer c.args.entity.now c.args.number c.args.list.now c.requires.0 c.in-Some.ensures.0 c.in-Some.reply c.requires.1 c.in-Some.ensures.1
