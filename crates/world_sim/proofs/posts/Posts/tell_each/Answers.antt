use Rattle.std.proofs.Common.{◌≤◌, length}
use Rattle.yard_model.specs.World.{wire_limit, numbered}
use Rattle.world_sim.specs.Lending.{with_items}
use Rattle.world_sim.specs.Mail.{is_past}
use Rattle.world_sim.proofs.ToldLaws.{told_kept, rest_kept, past_kept, first_of, posts_with}
use Rattle.world_sim.proofs.posts.Posts.tell_each.Goals as goal

pub loop-item-preserved-then-past : goal.loop-item-preserved-then-past
loop-item-preserved-then-past g c =
    let start = with_items c.args.self.now c.args.out.now in
    let before = with_items c.loop-item.self c.loop-item.out in
    let m = with_items c.loop-item.self c.drop_first.new.self in
    let after = with_items c.tell_item.new.self c.drop_first.new.self in
    let i = c.in-Some.item.now in
    let is = first_of c.loop-item.self c.loop-item.out c.drop_first.new.self i c.in-Some.ensures c.drop_first.ensures.items c.drop_first.ensures.spare in
    let goes = posts_with wire_limit c.loop-item.self c.tell_item.new.self c.drop_first.new.self i c.in_ok-over.ensures.ok in
    let fits : length m.packets ≤ wire_limit = c.len-posted.ensures.fits in
    let past = past_kept wire_limit (is_past wire_limit (length start.packets) start.items) before m after i c.loop-item.past c.in_ok-over.over is fits c.in_ok-over.ensures.past goes c.loop-item.invariant.past in
    record {
      told = told_kept wire_limit before m after i c.args.facts.now c.loop-item.facts c.tell_item.new.facts (numbered wire_limit (length start.packets) start.items) is fits c.in_ok-over.ensures.facts goes c.loop-item.invariant.told;
      rest = rest_kept wire_limit start before m after i is fits goes c.loop-item.invariant.rest;
      past = rw c.if-past.true (rw c.if-past.true at past);
    }

pub loop-item-preserved : goal.loop-item-preserved
loop-item-preserved g c =
    let start = with_items c.args.self.now c.args.out.now in
    let before = with_items c.loop-item.self c.loop-item.out in
    let m = with_items c.loop-item.self c.drop_first.new.self in
    let after = with_items c.tell_item.new.self c.drop_first.new.self in
    let i = c.in-Some.item.now in
    let is = first_of c.loop-item.self c.loop-item.out c.drop_first.new.self i c.in-Some.ensures c.drop_first.ensures.items c.drop_first.ensures.spare in
    let goes = posts_with wire_limit c.loop-item.self c.tell_item.new.self c.drop_first.new.self i c.in_ok-over.ensures.ok in
    let fits : length m.packets ≤ wire_limit = c.len-posted.ensures.fits in
    let past = past_kept wire_limit (is_past wire_limit (length start.packets) start.items) before m after i c.loop-item.past c.in_ok-over.over is fits c.in_ok-over.ensures.past goes c.loop-item.invariant.past in
    record {
      told = told_kept wire_limit before m after i c.args.facts.now c.loop-item.facts c.tell_item.new.facts (numbered wire_limit (length start.packets) start.items) is fits c.in_ok-over.ensures.facts goes c.loop-item.invariant.told;
      rest = rest_kept wire_limit start before m after i is fits goes c.loop-item.invariant.rest;
      past = rw c.if-past.false at past;
    }
