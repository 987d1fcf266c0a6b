use Rattle.std.proofs.Common.{◌≡◌, ap, subst, sym, ◌∙◌, ◌≤◌, ◌+◌, true}
use Rattle.yard_model.specs.Behaviour.{is_of_kind}
use Rattle.yard_model.specs.Entities.{entries}
use Rattle.yard_model.specs.SlotReads.{last_snapshot}
use Rattle.shard_entities.specs.declared.delivery.Standing.{Standing}
use Rattle.shard_entities.proofs.DeliverLaws.{command_is, next_is}
use Rattle.shard_entities.proofs.shards.Shards.next_record.Goals as goal

pub decide-decision-requires-clause-command : goal.decide-decision-requires-clause-command
decide-decision-requires-clause-command g c = subst (λ k. is_of_kind k c.args.message.now.command ≡ true) (sym c.requires.kind) (command_is c.command_law.ensures c.knows.ensures c.requires.delivery)

pub returns-clause-next : goal.returns-clause-next
returns-clause-next g c = next_is c.command_law.ensures c.decision_law.ensures c.knows.ensures c.requires.delivery (c.requires.next ∙ ap (λ (x : Standing). x.position + 1) c.requires.standing) (subst (λ (x : Standing). last_snapshot c.args.place.now.entity (entries c.args.self.now.state c.args.place.now.entity) ≤ x.count) c.requires.standing c.requires.last)
