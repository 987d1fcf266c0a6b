use Rattle.std.proofs.Common.{◌≡◌, ◌≤◌, ◌+◌, ◌-◌, ◌++◌, List, length, sym, ap, ◌∙◌, arith}
use Rattle.std.specs.List.{flat_map}
use Rattle.yard_model.specs.Coordinator.{Coordinator}
use Rattle.yard_model.specs.Move.{Move, item_of}
use Rattle.yard_model.specs.Words.{numbers}
use Rattle.coordinator_actor.specs.Parts.{begin_each, begin_if}
use Rattle.coordinator_actor.proofs.RoundLaws.{left_first, more_items, more_length}
use Rattle.coordinator_actor.proofs.coordinator.Coordinator.tell_each.Goals as goal

pub tell_if-requires : goal.tell_if-requires
tell_if-requires c =
    let st : Coordinator = c.args.self.now.state in
    let set = c.args.shards.now in
    let next = c.args.next.now in
    let f = begin_if set next st in
    let i = c.loop-place.place in
    let n = c.shards-count.result in
    let s = c.shard_at.result in
    let inv = c.loop-place.invariant in
    let rest : List Move = flat_map f (numbers (i + 1) (n - (i + 1))) in
    let long : length (flat_map item_of (flat_map f (numbers i (n - i)))) ≡ length (flat_map item_of (f s)) + length (flat_map item_of rest) =
    ap (λ (ms : List Move). length (flat_map item_of ms)) (left_first f i n c.loop-place-test.true) ∙ (more_length (f i) rest ∙ ap (λ t. length (flat_map item_of (f t)) + length (flat_map item_of rest)) (sym c.shard_at.ensures)) in
    let all : length (flat_map item_of (begin_each set next st)) ≤ c.args.out.now.spare = c.requires.room in
    record { room = omega (arith, long, inv.spare, all) }

pub loop-place-preserved : goal.loop-place-preserved
loop-place-preserved c =
    let st : Coordinator = c.args.self.now.state in
    let set = c.args.shards.now in
    let next = c.args.next.now in
    let f = begin_if set next st in
    let i = c.loop-place.place in
    let n = c.shards-count.result in
    let s = c.shard_at.result in
    let inv = c.loop-place.invariant in
    let call = c.tell_if.ensures in
    let rest : List Move = flat_map f (numbers (i + 1) (n - (i + 1))) in
    let first : flat_map f (numbers i (n - i)) ≡ f s ++ rest = left_first f i n c.loop-place-test.true ∙ ap (λ t. f t ++ rest) (sym c.shard_at.ensures) in
    let long : length (flat_map item_of (flat_map f (numbers i (n - i)))) ≡ length (flat_map item_of (f s)) + length (flat_map item_of rest) =
    ap (λ (ms : List Move). length (flat_map item_of ms)) first ∙ more_length (f s) rest in
    let spared : c.tell_if.new.out.spare + length (flat_map item_of (f s)) ≡ c.loop-place.out.spare = call.spare in
    record {
      items = more_items (f s) rest c.loop-place.out.items c.tell_if.new.out.items (c.args.out.now.items ++ flat_map item_of (begin_each set next st)) call.items
          (ap (λ (ms : List Move). c.loop-place.out.items ++ flat_map item_of ms) (sym first) ∙ inv.items);
      spare = omega (arith, long, spared, inv.spare);
      within = omega (arith, c.loop-place-test.true);
    }
