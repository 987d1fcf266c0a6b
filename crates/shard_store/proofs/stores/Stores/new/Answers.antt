use Rattle.std.proofs.Common.{◌≡◌, sym, subst, ap}
use Rattle.yard_model.specs.declared.charter.Config.{Config}
use Rattle.yard_model.specs.Script.{Script}
use Rattle.shard_store.specs.Stores.{AreHomes}
use Rattle.shard_store.proofs.StoresLaws.{homes_of, no_entries, none_at}
use Rattle.shard_store.proofs.stores.Stores.new.Goals as goal

pub invariant_of-result : goal.invariant_of-result
invariant_of-result c =
    subst (λ (s : Script). AreHomes s c.in_ok-places.places.items × (c.config.result.now.shards ≡ s.config.shards)) (sym c.of.ensures)
    (homes_of c.args.charter.now c.in_ok-places.places.items c.config.ensures.script c.in_ok-places.ensures, ap (λ (x : Config). x.shards) c.config.ensures.value)

pub returns-clause-none : goal.returns-clause-none
returns-clause-none c = no_entries c.args.charter.now c.in_ok-places.places.items c.in_ok-places.ensures

pub returns-clause-empty : goal.returns-clause-empty
returns-clause-empty c = none_at c.args.charter.now c.in_ok-places.places.items c.in_ok-places.ensures
