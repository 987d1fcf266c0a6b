use Rattle.std.proofs.Common.{◌+◌, List, sym, subst, ◌∙◌, ap, map}
use Rattle.std.specs.Prelude.{true}
use Rattle.yard_model.specs.declared.fact.Fact.{Fact}
use Rattle.yard_model.specs.declared.entry.CoordEntry.TheVariants as coord
use Rattle.yard_model.specs.Entry.{coord_fact}
use Rattle.yard_model.specs.Genuine.{is_node}
use Rattle.yard_model.specs.Lawful.{is_held}
use Rattle.coordinator_state.specs.Kept.{IsKept}
use Rattle.coordinator_state.proofs.KeptLaws.{facts_more, granted_kept}
use Rattle.coordinator_state.proofs.store.CoordStore.grant.Goals as goal

pub invariant_of-self : goal.invariant_of-self
invariant_of-self c =
    let k = c.self.inside in
    let script = k.script.value in
    let xs = map coord_fact k.entries.items in
    subst (λ (l : List Fact). IsKept script l k.homes (k.epoch + 1) true) (sym (facts_more k.entries.items c.push.new.self.items (coord.Granted (k.epoch + 1) c.args.who) c.push.ensures.items))
    (granted_kept script xs k.homes k.epoch k.leased c.args.who c.self.invariant (ap (λ v. is_held v.entries) c.self.view_is ∙ c.requires.free) (ap (λ v. is_node v.script c.args.who) c.self.view_is ∙ c.requires.node))
