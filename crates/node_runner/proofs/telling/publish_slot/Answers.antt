use Rattle.std.proofs.Common.{◌≡◌, true, false, sym, ap, ◌∙◌}
use Rattle.yard_model.specs.Genuine.{is_slot_of}
use Rattle.yard_model.specs.Script.{Script}
use Rattle.shard_store.specs.Stores.{entries_of_ref}
use Rattle.lease_table.specs.Belongs.{charter_of}
use Rattle.plain_laws.proofs.Booleans.{true_is_not_false}
use Rattle.plain_laws.proofs.Lists.{none_is_not_some, some_is}
use Rattle.node_runner.proofs.telling.publish_slot.Goals as goal

pub returns-then-not-has_slot-clause-shown : goal.returns-then-not-has_slot-clause-shown
returns-then-not-has_slot-clause-shown g c = λ list here held.
    let out : is_slot_of (charter_of c.args.table.now) c.args.slot.now ≡ false = ap (λ (y : Script). is_slot_of y c.args.slot.now) (sym c.requires.charter) ∙ (sym c.has_slot.ensures ∙ c.if-not-has_slot.true) in
    absurd (true_is_not_false (sym here ∙ out))

pub held_store-requires : goal.held_store-requires
held_store-requires g c = ap (λ (y : Script). is_slot_of y c.args.slot.now) (c.requires.rested.script ∙ sym c.requires.charter) ∙ (sym c.has_slot.ensures ∙ c.if-not-has_slot.false)

pub publish_store-requires-clause-slot : goal.publish_store-requires-clause-slot
publish_store-requires-clause-slot g c = ap (λ (y : Script). is_slot_of y c.args.slot.now) (sym c.requires.charter) ∙ (sym c.has_slot.ensures ∙ c.if-not-has_slot.false)

pub returns-in_default-clause-shown : goal.returns-in_default-clause-shown
returns-in_default-clause-shown g c = λ list here held. absurd (none_is_not_some list (sym c.in_default.ensures.store ∙ held))

pub returns-clause-shown : goal.returns-clause-shown
returns-clause-shown g c = λ list here held. c.publish_store.ensures.shown ∙ some_is (entries_of_ref c.in-Some.store) list (sym c.in-Some.ensures.store ∙ held)
