use Rattle.std.proofs.Common.{List, sym, subst, ◌∙◌, ap, map}
use Rattle.yard_model.specs.declared.fact.Fact.{Fact}
use Rattle.yard_model.specs.declared.entry.CoordEntry.TheVariants as coord
use Rattle.yard_model.specs.Words.{is_among, at}
use Rattle.yard_model.specs.Entry.{coord_fact}
use Rattle.yard_model.specs.Lawful.{is_held}
use Rattle.yard_model.specs.SlotReads.{regions}
use Rattle.coordinator_state.specs.Kept.{IsKept}
use Rattle.coordinator_state.proofs.HomesLaws.{home_at}
use Rattle.coordinator_state.proofs.KeptLaws.{facts_more, terminated_kept}
use Rattle.coordinator_state.proofs.store.CoordStore.terminated.Goals as goal

pub invariant_of-self : goal.invariant_of-self
invariant_of-self c =
    let k = c.self.inside in
    let script = k.script.value in
    let xs = map coord_fact k.entries.items in
    subst (λ (l : List Fact). IsKept script l c.terminate.new.self k.epoch k.leased) (sym (facts_more k.entries.items c.push.new.self.items (coord.Terminated c.args.r) c.push.ensures.items))
    (terminated_kept script xs k.homes c.terminate.new.self k.epoch k.leased c.args.r c.self.invariant (ap (λ v. is_held v.entries) c.self.view_is ∙ c.requires.leased) (ap (λ v. is_among c.args.r (regions v.entries)) c.self.view_is ∙ c.requires.registered)
    c.terminate.ensures.regions (λ s. ap (λ hs. at hs s) c.terminate.ensures.homes ∙ home_at c.args.r k.homes.homes s))
