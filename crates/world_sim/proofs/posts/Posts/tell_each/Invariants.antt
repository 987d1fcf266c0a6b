use Rattle.std.proofs.Common.{◌≡◌, ◌||◌, length}
use Rattle.yard_model.specs.World.{numbered, wire_limit}
use Rattle.world_sim.specs.Lending.{with_items}
use Rattle.world_sim.specs.Mail.{is_past}
use Rattle.world_sim.specs.Told.{ToldTo, all_told}
use Rattle.world_sim.proofs.posts.Posts.tell_each.Given as goal

abbrev pub invariant-loop-item : goal.invariant-loop-item
invariant-loop-item g l = record {
  told : ToldTo l.initial.facts l.facts (numbered wire_limit (length l.initial.self.packets) l.initial.out.items) (numbered wire_limit (length l.self.packets) l.out.items);
  rest : all_told wire_limit (with_items l.self l.out) ≡ all_told wire_limit (with_items l.initial.self l.initial.out);
  past : (l.past || is_past wire_limit (length l.self.packets) l.out.items) ≡ is_past wire_limit (length l.initial.self.packets) l.initial.out.items;
}

abbrev pub decreases-loop-item : goal.decreases-loop-item
decreases-loop-item g l = length l.out.items
