use Rattle.std.proofs.Common.{get_or, arith}
use Rattle.yard_model.specs.Members.{no_member}
use Rattle.yard_model.specs.ShardSet.{has}
use Rattle.handoff_steps.specs.Awaited.{awaited_of}
use Rattle.handoff_steps.proofs.BitLaws.{awaited_more, few_more}
use Rattle.handoff_steps.proofs.waits.awaited_of.Goals as goal

pub loop-place-preserved : goal.loop-place-preserved
loop-place-preserved c =
    let rs = c.args.regions.now in
    let p = c.loop-place.place in
    let inv = c.loop-place.invariant in record {
      within = omega (arith, inv.end, c.loop-place-test.true);
      end = inv.end;
      few = few_more c.loop-place.list c.push_awaited.new.list (get_or rs p no_member) (has c.args.awaited p) p c.push_awaited.ensures inv.few;
      rest = awaited_more c.loop-place.list c.push_awaited.new.list rs (awaited_of rs c.args.awaited) p c.args.awaited (omega (arith, inv.end, c.loop-place-test.true)) c.push_awaited.ensures inv.rest;
    }
