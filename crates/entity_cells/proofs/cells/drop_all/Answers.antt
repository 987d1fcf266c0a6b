use Rattle.std.proofs.Common.{drop, ◌∙◌, refl, arith}
use Rattle.envelope_pool.specs.Keyed.{list_of}
use Rattle.entity_cells.proofs.StashLaws.{list_inside, one_less, own_list, put_again}
use Rattle.entity_cells.proofs.cells.drop_all.Goals as goal

pub loop-preserved : goal.loop-preserved
loop-preserved c = record {
  lists = put_again c.args.stashes.now.lists (drop 1 (list_of c.loop.stashes c.args.key)) (list_inside c.args.stashes.now.lists c.requires c.loop.invariant.lists) c.loop.invariant.lists c.pop.ensures.lists;
  cells = c.pop.ensures.cells ∙ c.loop.invariant.cells;
  left = one_less (list_of c.loop.stashes c.args.key) (own_list c.loop.stashes.lists (list_inside c.args.stashes.now.lists c.requires c.loop.invariant.lists) c.pop.ensures.lists) c.loop.invariant.left (omega (arith, c.loop-test.true, c.len-end.ensures)) refl;
}
