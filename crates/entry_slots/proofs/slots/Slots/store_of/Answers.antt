use Rattle.std.proofs.Common.{◌≡◌, subst, ap, ◌∙◌}
use Rattle.std.specs.Prelude.{Some}
use Rattle.yard_model.specs.declared.charter.Config.{Config}
use Rattle.yard_model.specs.Script.{Script, setting}
use Rattle.yard_model.specs.Setting.{shard_of}
use Rattle.yard_model.specs.Shard.{shard}
use Rattle.yard_model.specs.Words.{at}
use Rattle.shard_store.specs.declared.store.Store.TheVariants as store
use Rattle.shard_store.specs.Stores.{AreHomes}
use Rattle.entry_slots.specs.Entered.{AllLists}
use Rattle.entry_slots.specs.Kept.{IsShardOf}
use Rattle.entry_slots.proofs.SeenLaws.{its_shard, shard_there}
use Rattle.entry_slots.proofs.slots.Slots.store_of.Goals as goal

pub returns : goal.returns
returns c =
    let i = c.self.inside in
    let e = c.args.entity.now in
    let s = shard_of (setting i.charter) e in
    let homes : AreHomes i.charter i.stores.places = subst (λ (d : Script). AreHomes d i.stores.places) c.self.invariant.script_is c.knows.ensures in
    let number : c.shard_of.result ≡ s = c.shard_of.ensures ∙ ap (λ (x : Config). shard x.shards e) c.config.ensures.value in
    subst (λ (v : AllLists). IsShardOf v.script v.lists (shard_of (setting v.script) e) c.shard.result.now) c.self.view_is
    (shard_there i.charter i.stores.places s c.shard.result.now homes (its_shard i.charter e homes.script_is) (subst (λ n. at i.stores.places n ≡ Some (store.Shard c.shard.result.now)) number c.shard.ensures))
