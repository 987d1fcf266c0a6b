use Rattle.std.proofs.Common.{drop, ap, ◌∙◌, ◌++◌, refl, arith}
use Rattle.envelope_pool.specs.Keyed.{list_of}
use Rattle.entity_cells.proofs.StashLaws.{list_inside, one_less, own_list, put_again}
use Rattle.entity_cells.proofs.cells.move_out.Goals as goal

pub loop-preserved : goal.loop-preserved
loop-preserved c = record {
  lists = put_again c.args.stashes.now.lists (drop 1 (list_of c.loop.stashes c.args.key)) (list_inside c.args.stashes.now.lists c.requires.key c.loop.invariant.lists) c.loop.invariant.lists c.move_one.ensures.lists;
  cells = c.move_one.ensures.cells ∙ c.loop.invariant.cells;
  pending = ap (λ l. c.move_one.new.pending.messages ++ l) (own_list c.loop.stashes.lists (list_inside c.args.stashes.now.lists c.requires.key c.loop.invariant.lists) c.move_one.ensures.lists) ∙ (c.move_one.ensures.pending ∙ c.loop.invariant.pending);
  window = c.move_one.ensures.window ∙ c.loop.invariant.window;
  left = one_less (list_of c.loop.stashes c.args.key) (own_list c.loop.stashes.lists (list_inside c.args.stashes.now.lists c.requires.key c.loop.invariant.lists) c.move_one.ensures.lists) c.loop.invariant.left (omega (arith, c.loop-test.true, c.len-end.ensures)) refl;
}
