use Rattle.std.proofs.Common.{List, sym, subst, ◌∙◌, ap, map}
use Rattle.std.specs.Prelude.{is_some}
use Rattle.yard_model.specs.declared.fact.Fact.{Fact}
use Rattle.yard_model.specs.declared.entry.CoordEntry.TheVariants as coord
use Rattle.yard_model.specs.Entry.{coord_fact}
use Rattle.yard_model.specs.Genuine.{is_shard}
use Rattle.yard_model.specs.Lawful.{is_held}
use Rattle.yard_model.specs.SlotReads.{allocation}
use Rattle.coordinator_state.specs.Kept.{IsKept}
use Rattle.coordinator_state.proofs.KeptLaws.{facts_more, deallocated_kept}
use Rattle.coordinator_state.proofs.store.CoordStore.deallocated.Goals as goal

pub invariant_of-self : goal.invariant_of-self
invariant_of-self c =
    let k = c.self.inside in
    let script = k.script.value in
    let xs = map coord_fact k.entries.items in
    subst (λ (l : List Fact). IsKept script l c.place.new.self k.epoch k.leased) (sym (facts_more k.entries.items c.push.new.self.items (coord.Deallocated c.args.s) c.push.ensures.items))
    (deallocated_kept script xs k.homes c.place.new.self k.epoch k.leased c.args.s c.self.invariant (ap (λ v. is_held v.entries) c.self.view_is ∙ c.requires.leased) (ap (λ v. is_shard v.script c.args.s) c.self.view_is ∙ c.requires.shard)
    (ap (λ v. is_some (allocation c.args.s v.entries)) c.self.view_is ∙ c.requires.home) c.place.ensures.within c.place.ensures.regions c.place.ensures.homes)
