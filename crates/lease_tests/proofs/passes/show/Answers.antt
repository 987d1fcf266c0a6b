use Rattle.std.proofs.Common.{ap, ◌∙◌, length, List}
use Rattle.yard_model.specs.declared.fact.Fact.{Fact}
use Rattle.shard_store.specs.Stores.{place_of}
use Rattle.lease_table.specs.declared.View.{View}
use Rattle.lease_table.specs.Lists.{seen_at}
use Rattle.lease_tests.specs.Holding.{two_nodes}
use Rattle.lease_tests.proofs.passes.show.Goals as goal

pub returns-clause-seen : goal.returns-clause-seen
returns-clause-seen c = ap (λ (u : View). length (seen_at u.seen (place_of two_nodes.config c.args.slot))) c.note-note.ensures.note.1 ∙ ap (λ (l : List Fact). length l) c.publish-pass.ensures.seen
