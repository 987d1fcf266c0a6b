use Rattle.std.proofs.Common.{◌≡◌, true, false, ap, ◌∙◌, subst, refl}
use Rattle.std.specs.Prelude.{MatchOption}
use Rattle.yard_model.specs.Lawful.{is_held, lawful}
use Rattle.yard_model.specs.SlotReads.{epoch}
use Rattle.yard_model.specs.Trace.{list_at}
use Rattle.log_resume.specs.Restored.{freed}
use Rattle.log_resume.proofs.FreedLaws.{freed_law, freed_none, freed_one}
use Rattle.log_resume.proofs.free.free.Goals as goal

pub returns-in_default-clause-freed : goal.returns-in_default-clause-freed
returns-in_default-clause-freed c =
    let list = list_at c.args.store.now.lists c.args.slot.now in
    freed_none c.args.store.now.lists c.args.slot.now (subst (λ o. MatchOption o (is_held list ≡ false) (λ n. (is_held list ≡ true) × (n ≡ epoch list))) c.in_default.is c.grant.ensures)

pub returns-clause-freed : goal.returns-clause-freed
returns-clause-freed c =
    let list = list_at c.args.store.now.lists c.args.slot.now in
    let some = subst (λ o. MatchOption o (is_held list ≡ false) (λ n. (is_held list ≡ true) × (n ≡ epoch list))) c.in-Some.is c.grant.ensures in
    let e = c.in_ok-enter.ensures.ok in
    freed_one (λ s. (c.slot_law.ensures s s).1 refl) c.args.store.now.script c.args.store.now.lists c.enter.new.self.lists c.args.slot.now c.in-Some.epoch _ c.requires.slot some.0 some.1 e.answer e.lists

pub returns-clause-lawful : goal.returns-clause-lawful
returns-clause-lawful c =
    let list = list_at c.args.store.now.lists c.args.slot.now in
    let some = subst (λ o. MatchOption o (is_held list ≡ false) (λ n. (is_held list ≡ true) × (n ≡ epoch list))) c.in-Some.is c.grant.ensures in
    let e = c.in_ok-enter.ensures.ok in
    let new : c.enter.new.self.lists ≡ freed c.args.store.now.lists c.args.slot.now =
    freed_one (λ s. (c.slot_law.ensures s s).1 refl) c.args.store.now.script c.args.store.now.lists c.enter.new.self.lists c.args.slot.now c.in-Some.epoch _ c.requires.slot some.0 some.1 e.answer e.lists in
    ap (lawful c.args.store.now.script) new ∙ freed_law (λ s. (c.slot_law.ensures s s).1 refl) c.args.store.now.script c.args.store.now.lists c.args.slot.now c.requires.slot c.requires.lawful
