use Rattle.std.proofs.Common.{List, sym, subst, ◌∙◌, ap, length, map}
use Rattle.std.specs.Prelude.{◌<◌}
use Rattle.yard_model.specs.declared.fact.Fact.{Fact}
use Rattle.yard_model.specs.declared.entry.CoordEntry.TheVariants as coord
use Rattle.yard_model.specs.Words.{is_among}
use Rattle.yard_model.specs.Entry.{coord_fact}
use Rattle.yard_model.specs.Genuine.{is_node}
use Rattle.yard_model.specs.Lawful.{is_held}
use Rattle.yard_model.specs.SlotReads.{regions}
use Rattle.coordinator_state.specs.Kept.{IsKept}
use Rattle.coordinator_state.proofs.KeptLaws.{facts_more, registered_kept}
use Rattle.coordinator_state.proofs.store.CoordStore.registered.Goals as goal

pub invariant_of-self : goal.invariant_of-self
invariant_of-self c =
    let k = c.self.inside in
    let script = k.script.value in
    let xs = map coord_fact k.entries.items in
    subst (λ (l : List Fact). IsKept script l c.register.new.self k.epoch k.leased) (sym (facts_more k.entries.items c.push.new.self.items (coord.Registered c.args.r) c.push.ensures.items))
    (registered_kept script xs k.homes c.register.new.self k.epoch k.leased c.args.r c.self.invariant (ap (λ v. is_held v.entries) c.self.view_is ∙ c.requires.leased) (ap (λ v. is_node v.script c.args.r) c.self.view_is ∙ c.requires.node) (ap (λ v. is_among c.args.r (regions v.entries)) c.self.view_is ∙ c.requires.fresh)
    (subst (λ v. length (regions v.entries) < 16) (sym c.self.view_is) c.requires.room) c.register.ensures.regions c.register.ensures.homes)
