use Rattle.std.proofs.Common.{◌<◌, List, sym, subst, ◌∙◌, ap, length}
use Rattle.yard_model.specs.declared.load.Load.{Load}
use Rattle.yard_model.specs.Words.{is_among}
use Rattle.coordinator_state.specs.Homes.{AreHomes}
use Rattle.coordinator_state.proofs.HomesLaws.{registered_homes}
use Rattle.coordinator_state.proofs.homes.Homes.register.Goals as goal

pub invariant_of-self : goal.invariant_of-self
invariant_of-self c =
    let r = c.args.r in
    let l : Load = record { region = r; shards = c.empty.result } in
    subst (λ (ls : List Load). AreHomes c.self.inside.homes.items ls) (sym (rw c.deref_mut.ensures.value at c.push.ensures))
    (registered_homes c.self.inside.homes.items c.self.inside.loads.value l c.self.invariant c.empty.ensures.none (ap (λ v. is_among r v.regions) c.self.view_is ∙ c.requires.fresh)
    (subst (λ v. length v.regions < 16) (sym c.self.view_is) c.requires.room))
