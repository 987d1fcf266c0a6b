use Rattle.std.proofs.Common.{◌<◌, arith, length, sym}
use Rattle.plain_laws.proofs.Booleans.{below}
use Rattle.serve_answers.proofs.RecordLaws.{there}
use Rattle.serve_answers.proofs.records.reply_there.Goals as goal

pub returns-in-Some : goal.returns-in-Some
returns-in-Some c =
    let got = c.in-Some.ensures in
    let within : c.args.place < length c.args.list.now = below c.args.place (length c.args.list.now) (sym got.lookup.0) in
    there c.args.producer c.args.entity.now c.args.number c.args.list.now c.args.place c.in-Some.entry.now c.reply_in.result within (got.lookup.4 (omega arith) c.in-Some.entry.now) c.reply_in.ensures
