use Rattle.std.proofs.Common.{◌≡◌, ◌≤◌, ◌+◌, ◌-◌, ◌++◌, List, length, sym, ap, ◌∙◌, arith}
use Rattle.std.specs.List.{flat_map}
use Rattle.yard_model.specs.Coordinator.{Coordinator, host_again}
use Rattle.yard_model.specs.Move.{Move, item_of}
use Rattle.yard_model.specs.Words.{numbers}
use Rattle.coordinator_actor.specs.Parts.{host_all}
use Rattle.coordinator_actor.proofs.RoundLaws.{left_first, more_items, more_length}
use Rattle.coordinator_actor.proofs.TickLaws.{hosted_state}
use Rattle.coordinator_actor.proofs.coordinator.Coordinator.host_all.Goals as goal

pub host_again-requires-clause-room : goal.host_again-requires-clause-room
host_again-requires-clause-room c =
    let st : Coordinator = c.args.self.now.state in
    let i = c.loop-place.place in
    let n = c.shards-count.result in
    let s = c.shard_at.result in
    let inv = c.loop-place.invariant in
    let rest : List Move = flat_map (host_again st) (numbers (i + 1) (n - (i + 1))) in
    let long : length (flat_map item_of (flat_map (host_again st) (numbers i (n - i)))) ≡ length (flat_map item_of (host_again st s)) + length (flat_map item_of rest) =
    ap (λ (ms : List Move). length (flat_map item_of ms)) (left_first (host_again st) i n c.loop-place-test.true) ∙ (more_length (host_again st i) rest ∙ ap (λ t. length (flat_map item_of (host_again st t)) + length (flat_map item_of rest)) (sym c.shard_at.ensures)) in
    let all : length (flat_map item_of (host_all st)) ≤ c.args.out.now.spare = c.requires.room in
    omega (arith, long, inv.spare, all)

pub loop-place-preserved : goal.loop-place-preserved
loop-place-preserved c =
    let st : Coordinator = c.args.self.now.state in
    let i = c.loop-place.place in
    let n = c.shards-count.result in
    let s = c.shard_at.result in
    let inv = c.loop-place.invariant in
    let call = c.host_again.ensures in
    let rest : List Move = flat_map (host_again st) (numbers (i + 1) (n - (i + 1))) in
    let first : flat_map (host_again st) (numbers i (n - i)) ≡ host_again st s ++ rest = left_first (host_again st) i n c.loop-place-test.true ∙ ap (λ t. host_again st t ++ rest) (sym c.shard_at.ensures) in
    let long : length (flat_map item_of (flat_map (host_again st) (numbers i (n - i)))) ≡ length (flat_map item_of (host_again st s)) + length (flat_map item_of rest) =
    ap (λ (ms : List Move). length (flat_map item_of ms)) first ∙ more_length (host_again st s) rest in
    let spared : c.host_again.new.out.spare + length (flat_map item_of (host_again st s)) ≡ c.loop-place.out.spare = call.spare in
    record {
      items = more_items (host_again st s) rest c.loop-place.out.items c.host_again.new.out.items (c.args.out.now.items ++ flat_map item_of (host_all st)) call.items
          (ap (λ (ms : List Move). c.loop-place.out.items ++ flat_map item_of ms) (sym first) ∙ inv.items);
      spare = omega (arith, long, spared, inv.spare);
      within = omega (arith, c.loop-place-test.true);
    }

pub returns-clause-state : goal.returns-clause-state
returns-clause-state c = hosted_state c.args.self.now.state c.args.self.now.state
