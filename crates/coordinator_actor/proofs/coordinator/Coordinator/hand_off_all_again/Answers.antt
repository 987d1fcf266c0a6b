use Rattle.std.proofs.Common.{◌≡◌, ◌≤◌, ◌+◌, ℕ, drop, length, append-nil, ap, sym, ◌∙◌, arith}
use Rattle.std.specs.Prelude.{◌++◌, List}
use Rattle.std.specs.List.{flat_map}
use Rattle.yard_model.specs.Coordinator.{Coordinator, hand_off_again}
use Rattle.yard_model.specs.Move.{Move, item_of}
use Rattle.handoff_steps.specs.Places.{all_shards}
use Rattle.coordinator_actor.specs.Parts.{at_shard}
use Rattle.coordinator_actor.proofs.RoundLaws.{all_told, by_shard, first_left, more_items, more_length}
use Rattle.coordinator_actor.proofs.TickLaws.{again_state}
use Rattle.coordinator_actor.proofs.coordinator.Coordinator.hand_off_all_again.Goals as goal

pub loop-place-init : goal.loop-place-init
loop-place-init c =
    let st : Coordinator = c.args.self.now.state in
    let f : ℕ → List Move = λ s. flat_map (hand_off_again st) (at_shard s st.moving) in
    let all : flat_map f all_shards ≡ flat_map (hand_off_again st) st.moving = sym (by_shard (hand_off_again st) st.moving c.round.ensures.rising) in
    record {
      told = ap (λ (ms : List Move). c.args.out.now.items ++ flat_map item_of ms) all;
      spare = ap (λ (ms : List Move). c.args.out.now.spare + length (flat_map item_of ms)) all;
      within = omega arith;
    }

pub hand_off_again-requires : goal.hand_off_again-requires
hand_off_again-requires c =
    let st : Coordinator = c.args.self.now.state in
    let f : ℕ → List Move = λ s. flat_map (hand_off_again st) (at_shard s st.moving) in
    let i = c.loop-place.place in
    let s = c.shard_at.result in
    let inv = c.loop-place.invariant in
    let rest : List Move = flat_map f (drop (i + 1) all_shards) in
    let first : flat_map f (drop i all_shards) ≡ f s ++ rest = first_left f i c.loop-place-test.true ∙ ap (λ t. f t ++ rest) (sym c.shard_at.ensures) in
    let long : length (flat_map item_of (flat_map f (drop i all_shards))) ≡ length (flat_map item_of (f s)) + length (flat_map item_of rest) =
    ap (λ (ms : List Move). length (flat_map item_of ms)) first ∙ more_length (f s) rest in
    let room : length (flat_map item_of (flat_map (hand_off_again st) st.moving)) ≤ c.args.out.now.spare = c.requires.room in
    record { room = omega (arith, long, inv.spare, room) }

pub loop-place-preserved : goal.loop-place-preserved
loop-place-preserved c =
    let st : Coordinator = c.args.self.now.state in
    let f : ℕ → List Move = λ s. flat_map (hand_off_again st) (at_shard s st.moving) in
    let i = c.loop-place.place in
    let s = c.shard_at.result in
    let inv = c.loop-place.invariant in
    let rest : List Move = flat_map f (drop (i + 1) all_shards) in
    let first : flat_map f (drop i all_shards) ≡ f s ++ rest = first_left f i c.loop-place-test.true ∙ ap (λ t. f t ++ rest) (sym c.shard_at.ensures) in
    let long : length (flat_map item_of (flat_map f (drop i all_shards))) ≡ length (flat_map item_of (f s)) + length (flat_map item_of rest) =
    ap (λ (ms : List Move). length (flat_map item_of ms)) first ∙ more_length (f s) rest in
    let call = c.hand_off_again.ensures in
    let spared : c.hand_off_again.new.out.spare + length (flat_map item_of (f s)) ≡ c.loop-place.out.spare = call.spare in
    record {
      told = more_items (f s) rest c.loop-place.out.items c.hand_off_again.new.out.items (c.args.out.now.items ++ flat_map item_of (flat_map (hand_off_again st) st.moving)) call.items
          (ap (λ (ms : List Move). c.loop-place.out.items ++ flat_map item_of ms) (sym first) ∙ inv.told);
      spare = omega (arith, long, spared, inv.spare);
      within = omega (arith, c.loop-place-test.true);
    }

pub returns-clause-items : goal.returns-clause-items
returns-clause-items c =
    let st : Coordinator = c.args.self.now.state in
    let f : ℕ → List Move = λ s. flat_map (hand_off_again st) (at_shard s st.moving) in
    let end : 128 ≤ c.loop-place.place = omega (arith, c.loop-place-test.false) in
    sym (append-nil c.loop-place.out.items) ∙ (ap (λ (ms : List Move). c.loop-place.out.items ++ flat_map item_of ms) (sym (all_told f c.loop-place.place end)) ∙ c.loop-place.invariant.told)

pub returns-clause-spare : goal.returns-clause-spare
returns-clause-spare c =
    let st : Coordinator = c.args.self.now.state in
    let f : ℕ → List Move = λ s. flat_map (hand_off_again st) (at_shard s st.moving) in
    let end : 128 ≤ c.loop-place.place = omega (arith, c.loop-place-test.false) in
    let none : length (flat_map item_of (flat_map f (drop c.loop-place.place all_shards))) ≡ 0 = ap (λ (ms : List Move). length (flat_map item_of ms)) (all_told f c.loop-place.place end) in
    omega (arith, none, c.loop-place.invariant.spare)

pub returns-clause-state : goal.returns-clause-state
returns-clause-state c = again_state c.args.self.now.state c.args.self.now.state
