use Rattle.std.proofs.Common.{sym, subst, ap, ◌∙◌}
use Rattle.yard_model.specs.Shard.{shard}
use Rattle.yard_model.specs.Words.{at}
use Rattle.shard_store.specs.Stores.{Shelves, AreHomes}
use Rattle.shard_store.proofs.AfterLaws.{IsFound, found}
use Rattle.shard_store.proofs.stores.Stores.store_of.Goals as goal

it : (c : goal.After-store_at) → IsFound c.args.self.now c.args.name.now c.store_at.result.now
it c =
    found c.args.self.now c.args.name.now c.store_at.result.now c.shard_of.result
    (subst (λ (v : Shelves). AreHomes v.script v.places) c.self.view_is c.self.invariant.0)
    (c.shard_of.ensures ∙ (ap (λ n. shard n c.args.name.now) c.self.invariant.1 ∙ ap (λ (v : Shelves). shard v.script.config.shards c.args.name.now) c.self.view_is))
    (ap (λ (v : Shelves). at v.places c.shard_of.result) (sym c.self.view_is) ∙ (ap (λ l. at l c.shard_of.result) (sym c.as_slice.ensures.value) ∙ c.store_at.ensures))
    c.requires

pub returns-clause-script : goal.returns-clause-script
returns-clause-script c = (it c).script_is

pub returns-clause-name : goal.returns-clause-name
returns-clause-name c = (it c).of

pub returns-clause-list : goal.returns-clause-list
returns-clause-list c = (it c).list_is
