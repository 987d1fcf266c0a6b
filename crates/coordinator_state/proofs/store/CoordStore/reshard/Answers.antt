use Rattle.std.proofs.Common.{◌≡◌, ◌≤◌, List, sym, subst, ◌∙◌, ap, map, None, ℕ}
use Rattle.std.specs.Prelude.{[], ◌∷◌, ◌++◌}
use Rattle.yard_model.specs.declared.fact.Fact.TheVariants as fact
use Rattle.plain_laws.proofs.Booleans.{get_replicate}
use Rattle.yard_model.specs.declared.fact.Fact.{Fact}
use Rattle.yard_model.specs.declared.entry.CoordEntry.TheVariants as coord
use Rattle.yard_model.specs.Entry.{coord_fact}
use Rattle.yard_model.specs.Lawful.{is_held}
use Rattle.yard_model.specs.Script.{Script, with_shards}
use Rattle.yard_model.specs.Words.{at}
use Rattle.coordinator_state.specs.Kept.{IsKept}
use Rattle.coordinator_state.proofs.KeptLaws.{facts_more, resharded_kept, shards_range}
use Rattle.coordinator_state.proofs.store.CoordStore.reshard.Goals as goal

pub invariant_of-result : goal.invariant_of-result
invariant_of-result c =
    let k = c.self.inside in
    let xs = map coord_fact k.entries.items in
    let new : Script = c.args.charter.now in
    let n : c.config.result.now.shards ≡ new.config.shards = ap (λ x. x.shards) c.config.ensures.value in
    let entry = coord.Reshard c.config.result.now.shards c.args.epoch in
    let items : c.push.new.self.items ≡ k.entries.items ++ entry ∷ [] = c.push.ensures.items ∙ ap (λ l. l ++ entry ∷ []) (c.in_ok-reserve.ensures.items ∙ ap (λ e. e.items) c.in_ok-entries.ensures) in
    subst (λ (x : Script). IsKept x (map coord_fact c.push.new.self.items) c.in_ok-homes.homes k.epoch k.leased) (sym c.of.ensures)
    (subst (λ (l : List Fact). IsKept new l c.in_ok-homes.homes k.epoch k.leased)
    (sym (facts_more k.entries.items c.push.new.self.items entry items ∙ ap (λ (m : ℕ). xs ++ fact.Reshard m c.args.epoch ∷ []) n))
    (resharded_kept k.script.value new xs k.homes c.in_ok-homes.homes k.epoch c.args.epoch k.leased c.self.invariant
    (subst (λ v. v.script.config.shards ≤ 128) (sym c.self.view_is) c.requires.shards) (shards_range new c.config.ensures.script)
    (ap (λ v. is_held v.entries) c.self.view_is ∙ c.requires.free) (c.requires.charter ∙ ap (λ v. with_shards new.config.shards v.script) (sym c.self.view_is))
    c.in_ok-homes.ensures.regions (λ s. ap (λ hs. at hs s) c.in_ok-homes.ensures.homes ∙ get_replicate 128 s None)))
