use Rattle.std.proofs.Common.{◌∙◌, ◌-◌, arith, sym}
use Rattle.serve_answers.proofs.RecordLaws.{found_at}
use Rattle.serve_answers.proofs.records.last_reply.Goals as goal

pub returns-in-Some : goal.returns-in-Some
returns-in-Some c = (
  c.loop-left.left - 1,
  found_at c.args.producer c.args.entity.now c.args.number c.args.list.now (c.loop-left.left - 1) c.index-list-left.result c.in-Some.reply (omega (arith, c.loop-left-test.true, c.loop-left.invariant.within)) c.index-list-left.is
      (sym c.reply_in.ensures ∙ c.in-Some.is),
)
