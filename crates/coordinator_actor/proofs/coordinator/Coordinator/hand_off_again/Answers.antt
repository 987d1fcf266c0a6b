use Rattle.std.proofs.Common.{◌≡◌, ◌≤◌, ◌+◌, length, append-nil, ap, sym, subst, ◌∙◌, arith}
use Rattle.std.specs.Prelude.{◌++◌, List, [], option_map}
use Rattle.std.specs.List.{flat_map}
use Rattle.yard_model.specs.Coordinator.{Coordinator, Moving, hand_off_again}
use Rattle.yard_model.specs.Move.{Move, item_of}
use Rattle.handoff_steps.specs.Places.{place_at, one_of}
use Rattle.coordinator_actor.specs.Parts.{at_shard, go_on_at}
use Rattle.coordinator_actor.proofs.AckLaws.{again_one, again_none}
use Rattle.coordinator_actor.proofs.coordinator.Coordinator.hand_off_again.Goals as goal

pub go_on_at-requires : goal.go_on_at-requires
go_on_at-requires c =
    let st : Coordinator = c.args.self.now.state in
    let s = c.args.s in
    let p = place_at c.round-round.result.now s in
    let at : at_shard s st.moving ≡ one_of s p = ap (λ (l : List Moving). at_shard s l) (sym c.round-round.ensures.moving) ∙ c.is_moving.ensures.shard in
    let is : flat_map (hand_off_again st) (at_shard s st.moving) ≡ go_on_at s c.awaited-awaited.result c.owner-owner.result st =
    ap (λ (l : List Moving). flat_map (hand_off_again st) l) at ∙ (again_one s st p (sym c.is_moving.ensures.place ∙ c.if-not-is_moving.false)
    ∙ (ap (λ a. go_on_at s a (option_map (λ h. h.owner) p) st) (sym c.awaited-awaited.ensures) ∙ ap (λ o. go_on_at s c.awaited-awaited.result o st) (sym c.owner-owner.ensures))) in
    record { room = subst (λ (ms : List Move). length (flat_map item_of ms) ≤ c.args.out.now.spare) is c.requires.room }

pub returns-clause-items : goal.returns-clause-items
returns-clause-items c =
    let st : Coordinator = c.args.self.now.state in
    let s = c.args.s in
    let p = place_at c.round-round.result.now s in
    let at : at_shard s st.moving ≡ one_of s p = ap (λ (l : List Moving). at_shard s l) (sym c.round-round.ensures.moving) ∙ c.is_moving.ensures.shard in
    let is : flat_map (hand_off_again st) (at_shard s st.moving) ≡ go_on_at s c.awaited-awaited.result c.owner-owner.result st =
    ap (λ (l : List Moving). flat_map (hand_off_again st) l) at ∙ (again_one s st p (sym c.is_moving.ensures.place ∙ c.if-not-is_moving.false)
    ∙ (ap (λ a. go_on_at s a (option_map (λ h. h.owner) p) st) (sym c.awaited-awaited.ensures) ∙ ap (λ o. go_on_at s c.awaited-awaited.result o st) (sym c.owner-owner.ensures))) in
    c.go_on_at.ensures.items ∙ ap (λ (ms : List Move). c.args.out.now.items ++ flat_map item_of ms) (sym is)

pub returns-clause-spare : goal.returns-clause-spare
returns-clause-spare c =
    let st : Coordinator = c.args.self.now.state in
    let s = c.args.s in
    let p = place_at c.round-round.result.now s in
    let at : at_shard s st.moving ≡ one_of s p = ap (λ (l : List Moving). at_shard s l) (sym c.round-round.ensures.moving) ∙ c.is_moving.ensures.shard in
    let is : flat_map (hand_off_again st) (at_shard s st.moving) ≡ go_on_at s c.awaited-awaited.result c.owner-owner.result st =
    ap (λ (l : List Moving). flat_map (hand_off_again st) l) at ∙ (again_one s st p (sym c.is_moving.ensures.place ∙ c.if-not-is_moving.false)
    ∙ (ap (λ a. go_on_at s a (option_map (λ h. h.owner) p) st) (sym c.awaited-awaited.ensures) ∙ ap (λ o. go_on_at s c.awaited-awaited.result o st) (sym c.owner-owner.ensures))) in
    ap (λ (ms : List Move). c.go_on_at.new.out.spare + length (flat_map item_of ms)) is ∙ c.go_on_at.ensures.spare

pub returns-then-not-is_moving-clause-items : goal.returns-then-not-is_moving-clause-items
returns-then-not-is_moving-clause-items c =
    let st : Coordinator = c.args.self.now.state in
    let s = c.args.s in
    let p = place_at c.round-round.result.now s in
    let at : at_shard s st.moving ≡ one_of s p = ap (λ (l : List Moving). at_shard s l) (sym c.round-round.ensures.moving) ∙ c.is_moving.ensures.shard in
    let is : flat_map (hand_off_again st) (at_shard s st.moving) ≡ [] =
    ap (λ (l : List Moving). flat_map (hand_off_again st) l) at ∙ again_none s st p (sym c.is_moving.ensures.place ∙ c.if-not-is_moving.true) in
    sym (append-nil c.args.out.now.items) ∙ ap (λ (ms : List Move). c.args.out.now.items ++ flat_map item_of ms) (sym is)

pub returns-then-not-is_moving-clause-spare : goal.returns-then-not-is_moving-clause-spare
returns-then-not-is_moving-clause-spare c =
    let st : Coordinator = c.args.self.now.state in
    let s = c.args.s in
    let p = place_at c.round-round.result.now s in
    let at : at_shard s st.moving ≡ one_of s p = ap (λ (l : List Moving). at_shard s l) (sym c.round-round.ensures.moving) ∙ c.is_moving.ensures.shard in
    let is : flat_map (hand_off_again st) (at_shard s st.moving) ≡ [] =
    ap (λ (l : List Moving). flat_map (hand_off_again st) l) at ∙ again_none s st p (sym c.is_moving.ensures.place ∙ c.if-not-is_moving.true) in
    let none : length (flat_map item_of (flat_map (hand_off_again st) (at_shard s st.moving))) ≡ 0 = ap (λ (ms : List Move). length (flat_map item_of ms)) is in
    omega (arith, none)
