use Rattle.std.proofs.Common.{◌≡◌, ◌<◌, length, sym, ap, ◌∙◌, subst, true}
use Rattle.std.specs.Prelude.{List}
use Rattle.yard_model.specs.declared.incarnation.Incarnation.{Incarnation}
use Rattle.yard_model.specs.declared.incarnation.Slot.TheVariants as slot
use Rattle.yard_model.specs.Lawful.{own}
use Rattle.coordinator_actor.proofs.Differ.{room_for}
use Rattle.coordinator_actor.proofs.coordinator.Coordinator.check_room.Goals as goal

pub returns : goal.returns
returns c =
    let held = c.args.self.now in
    let lawful : own held.script slot.Coordinator held.state.entries ≡ true =
    ap (λ s. own s slot.Coordinator held.state.entries) (sym c.store.ensures.script) ∙ (ap (own c.store.result.now.script slot.Coordinator) (sym c.store.ensures.entries) ∙ c.entries.ensures.lawful) in
    let few : length c.args.view.now.members < 17 = subst (λ (l : List Incarnation). length l < 17) c.members-members.ensures c.len.ensures.fits in
    room_for held.script held.state.entries c.args.view.now.members c.args.from.now lawful c.requires.viewed c.requires.seen c.requires.fresh few
