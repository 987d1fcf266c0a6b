use Rattle.std.proofs.Common.{◌≤◌, ◌+◌, length, arith}
use Rattle.bulk_gen.proofs.BulkLaws.{drawn_more, lines_few}
use Rattle.bulk_gen.specs.Bulk.{drawn}
use Rattle.bulk_gen.proofs.rounds.push_drawn.Goals as goal

pub loop-preserved : goal.loop-preserved
loop-preserved c = record {
  few =
      let more : length c.push_one.new.lines.items ≤ length c.loop.lines.items + 2 = lines_few c.loop.lines.items c.push_one.new.lines.items c.loop.rng c.in_ok-push_one.ensures.lines in
      omega (arith, more, c.loop.invariant.few);
  lines =
      drawn_more c.args.lines.now.items c.loop.lines.items c.push_one.new.lines.items (drawn c.args.count c.args.rng.now) c.loop.rng c.push_one.new.rng c.loop.counter c.args.count c.loop-test.true
      c.in_ok-push_one.ensures.lines c.in_ok-push_one.ensures.rest c.loop.invariant.lines;
}
