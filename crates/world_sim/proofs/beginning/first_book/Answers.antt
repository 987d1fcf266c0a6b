use Rattle.std.proofs.Common.{◌+◌, ◌<◌, ap, ◌∙◌, subst}
use Rattle.yard_model.specs.Lawful.{is_held}
use Rattle.yard_model.specs.Script.{Script}
use Rattle.shard_store.specs.Stores.{lists_at}
use Rattle.world_sim.proofs.RestsLaws.{none_held}
use Rattle.world_sim.proofs.beginning.first_book.Goals as goal

pub book_of-requires : goal.book_of-requires
book_of-requires c k h = ap is_held (none_held c.args.charter.now c.in_ok-stores.stores.places k c.in_ok-stores.ensures.none (subst (λ (s : Script). k < s.config.shards + s.config.producers + 1) c.in_ok-stores.ensures.script h))

pub returns-clause-none : goal.returns-clause-none
returns-clause-none c = ap (lists_at c.args.charter.now.config) c.in_ok-book.ensures.places ∙ c.in_ok-stores.ensures.none
