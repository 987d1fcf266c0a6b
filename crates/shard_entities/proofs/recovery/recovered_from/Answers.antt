use Rattle.std.proofs.Common.{◌∙◌, ap, length, refl}
use Rattle.shard_entities.proofs.FoldLaws.{store_goes_on, store_begins}
use Rattle.shard_entities.proofs.recovery.recovered_from.Goals as goal

pub replayed-requires-clause-state : goal.replayed-requires-clause-state
replayed-requires-clause-state g c = (store_goes_on c.args.store.now.shard c.args.place.now.entity c.args.store.now.entries c.command_law.ensures c.decision_law.ensures c.requires.script c.requires.kind c.entries.ensures.own refl c.in-Some.ensures refl).valid

pub replayed-requires-clause-count : goal.replayed-requires-clause-count
replayed-requires-clause-count g c = c.len-records.ensures.count ∙ ap length c.journal_at-journal.ensures.records

pub replayed-requires-clause-records : goal.replayed-requires-clause-records
replayed-requires-clause-records g c = (store_goes_on c.args.store.now.shard c.args.place.now.entity c.args.store.now.entries c.command_law.ensures c.decision_law.ensures c.requires.script c.requires.kind c.entries.ensures.own refl c.in-Some.ensures refl).may

pub replayed-requires-in-None-clause-count : goal.replayed-requires-in-None-clause-count
replayed-requires-in-None-clause-count g c = c.len-records.ensures.count ∙ ap length c.journal_at-journal.ensures.records

pub replayed-requires-in-None-clause-records : goal.replayed-requires-in-None-clause-records
replayed-requires-in-None-clause-records g c = (store_begins c.args.store.now.shard c.args.place.now.entity c.args.store.now.entries c.command_law.ensures c.decision_law.ensures c.requires.script c.requires.kind c.entries.ensures.own refl c.empty.ensures refl).may

pub returns-in-Some-clause-state : goal.returns-in-Some-clause-state
returns-in-Some-clause-state g c = c.replayed.ensures.value ∙ (store_goes_on c.args.store.now.shard c.args.place.now.entity c.args.store.now.entries c.command_law.ensures c.decision_law.ensures c.requires.script c.requires.kind c.entries.ensures.own refl c.in-Some.ensures refl).value
