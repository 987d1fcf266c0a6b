use Rattle.std.proofs.Common.{◌≡◌, ◌≤◌, ◌+◌, ℕ, drop, length, append-nil, ap, sym, ◌∙◌, refl, arith}
use Rattle.std.specs.Prelude.{◌++◌, List}
use Rattle.std.specs.List.{flat_map}
use Rattle.yard_model.specs.Coordinator.{Moving}
use Rattle.yard_model.specs.Move.{Move, item_of}
use Rattle.handoff_steps.specs.Places.{all_shards, lost_at, moving}
use Rattle.coordinator_actor.specs.Parts.{at_shard, lost_posts}
use Rattle.coordinator_actor.proofs.LostLaws.{lost_below, lost_none, lost_more, lost_kept, lost_end}
use Rattle.coordinator_actor.proofs.RoundLaws.{all_told, by_shard, first_left, more_items, more_length}
use Rattle.coordinator_actor.proofs.lost.lose_each.Goals as goal

pub loop-place-init : goal.loop-place-init
loop-place-init c =
    let v0 = c.args.round.now in
    let who = c.args.who.now in
    let r = c.args.r.now in
    let m : List Moving = moving v0 in
    let posts : Moving → List Move = lost_posts who v0.stamp r in
    let f : ℕ → List Move = λ s. flat_map posts (at_shard s m) in
    let all : flat_map f all_shards ≡ flat_map posts m = sym (by_shard posts m c.stamp.ensures.rising) in
    record {
      stamp = refl;
      left = sym (lost_none r m);
      told = ap (λ (ms : List Move). c.args.out.now.items ++ flat_map item_of ms) all;
      spare = ap (λ (ms : List Move). c.args.out.now.spare + length (flat_map item_of ms)) all;
      within = omega arith;
    }

pub lose_shard-requires : goal.lose_shard-requires
lose_shard-requires c =
    let v0 = c.args.round.now in
    let who = c.args.who.now in
    let r = c.args.r.now in
    let m : List Moving = moving v0 in
    let posts : Moving → List Move = lost_posts who v0.stamp r in
    let f : ℕ → List Move = λ s. flat_map posts (at_shard s m) in
    let i = c.loop-place.place in
    let v = c.loop-place.round in
    let s = c.shard_at.result in
    let inv = c.loop-place.invariant in
    let rest : List Move = flat_map f (drop (i + 1) all_shards) in
    let one : List Move = flat_map (lost_posts who v.stamp r) (at_shard s (moving v)) in
    let here : one ≡ f i =
    ap (λ t. flat_map (lost_posts who t r) (at_shard s (moving v))) inv.stamp
    ∙ (ap (λ n. flat_map posts (at_shard n (moving v))) c.shard_at.ensures
    ∙ (ap (λ (l : List Moving). flat_map posts (at_shard i l)) inv.left ∙ ap (λ (l : List Moving). flat_map posts l) (lost_kept i r m))) in
    let first : flat_map f (drop i all_shards) ≡ one ++ rest = first_left f i c.loop-place-test.true ∙ ap (λ (ms : List Move). ms ++ rest) (sym here) in
    let long : length (flat_map item_of (flat_map f (drop i all_shards))) ≡ length (flat_map item_of one) + length (flat_map item_of rest) =
    ap (λ (ms : List Move). length (flat_map item_of ms)) first ∙ more_length one rest in
    let room : length (flat_map item_of (flat_map posts m)) ≤ c.args.out.now.spare = c.requires.room in
    record { room = omega (arith, long, inv.spare, room) }

pub loop-place-preserved : goal.loop-place-preserved
loop-place-preserved c =
    let v0 = c.args.round.now in
    let who = c.args.who.now in
    let r = c.args.r.now in
    let m : List Moving = moving v0 in
    let posts : Moving → List Move = lost_posts who v0.stamp r in
    let f : ℕ → List Move = λ s. flat_map posts (at_shard s m) in
    let i = c.loop-place.place in
    let v = c.loop-place.round in
    let s = c.shard_at.result in
    let inv = c.loop-place.invariant in
    let rest : List Move = flat_map f (drop (i + 1) all_shards) in
    let one : List Move = flat_map (lost_posts who v.stamp r) (at_shard s (moving v)) in
    let here : one ≡ f i =
    ap (λ t. flat_map (lost_posts who t r) (at_shard s (moving v))) inv.stamp
    ∙ (ap (λ n. flat_map posts (at_shard n (moving v))) c.shard_at.ensures
    ∙ (ap (λ (l : List Moving). flat_map posts (at_shard i l)) inv.left ∙ ap (λ (l : List Moving). flat_map posts l) (lost_kept i r m))) in
    let first : flat_map f (drop i all_shards) ≡ one ++ rest = first_left f i c.loop-place-test.true ∙ ap (λ (ms : List Move). ms ++ rest) (sym here) in
    let long : length (flat_map item_of (flat_map f (drop i all_shards))) ≡ length (flat_map item_of one) + length (flat_map item_of rest) =
    ap (λ (ms : List Move). length (flat_map item_of ms)) first ∙ more_length one rest in
    let call = c.lose_shard.ensures in
    let spared : c.lose_shard.new.out.spare + length (flat_map item_of one) ≡ c.loop-place.out.spare = call.spare in
    record {
      stamp = call.stamp ∙ inv.stamp;
      left = call.moving ∙ (ap (λ n. lost_at n r (moving v)) c.shard_at.ensures ∙ (ap (λ (l : List Moving). lost_at i r l) inv.left ∙ lost_more i r m));
      told = more_items one rest c.loop-place.out.items c.lose_shard.new.out.items (c.args.out.now.items ++ flat_map item_of (flat_map posts m)) call.items
          (ap (λ (ms : List Move). c.loop-place.out.items ++ flat_map item_of ms) (sym first) ∙ inv.told);
      spare = omega (arith, long, spared, inv.spare);
      within = omega (arith, c.loop-place-test.true);
    }

pub returns-clause-items : goal.returns-clause-items
returns-clause-items c =
    let v0 = c.args.round.now in
    let who = c.args.who.now in
    let r = c.args.r.now in
    let m : List Moving = moving v0 in
    let posts : Moving → List Move = lost_posts who v0.stamp r in
    let f : ℕ → List Move = λ s. flat_map posts (at_shard s m) in
    let end : 128 ≤ c.loop-place.place = omega (arith, c.loop-place-test.false) in
    sym (append-nil c.loop-place.out.items) ∙ (ap (λ (ms : List Move). c.loop-place.out.items ++ flat_map item_of ms) (sym (all_told f c.loop-place.place end)) ∙ c.loop-place.invariant.told)

pub returns-clause-spare : goal.returns-clause-spare
returns-clause-spare c =
    let v0 = c.args.round.now in
    let who = c.args.who.now in
    let r = c.args.r.now in
    let m : List Moving = moving v0 in
    let posts : Moving → List Move = lost_posts who v0.stamp r in
    let f : ℕ → List Move = λ s. flat_map posts (at_shard s m) in
    let end : 128 ≤ c.loop-place.place = omega (arith, c.loop-place-test.false) in
    let none : length (flat_map item_of (flat_map f (drop c.loop-place.place all_shards))) ≡ 0 = ap (λ (ms : List Move). length (flat_map item_of ms)) (all_told f c.loop-place.place end) in
    omega (arith, none, c.loop-place.invariant.spare)

pub returns-clause-moving : goal.returns-clause-moving
returns-clause-moving c =
    let m : List Moving = moving c.args.round.now in
    let last : c.loop-place.place ≡ 128 = omega (arith, c.loop-place-test.false, c.loop-place.invariant.within) in
    c.loop-place.invariant.left ∙ (ap (λ n. lost_below n c.args.r.now m) last ∙ lost_end 128 c.args.r.now m c.stamp.ensures.below)
