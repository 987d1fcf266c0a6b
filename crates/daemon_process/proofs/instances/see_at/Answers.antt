use Rattle.daemon_process.proofs.PlacedLaws.{seen_at_item, seen_nowhere}
use Rattle.daemon_process.proofs.instances.see_at.Goals as goal

pub returns-then-i-cells : goal.returns-then-i-cells
returns-then-i-cells c =
    seen_at_item c.args.fact.now c.args.name.now c.index-cells-i.result c.args.cells.now c.number_of-i.result c.see.new.self c.requires.named c.requires.whose c.number_of-i.ensures c.if-i-cells.true c.see.ensures

pub returns-else-i-cells : goal.returns-else-i-cells
returns-else-i-cells c = seen_nowhere c.args.fact.now c.args.name.now c.args.cells.now c.number_of-i.result c.requires.named c.requires.whose c.number_of-i.ensures c.if-i-cells.false
