use Rattle.std.proofs.Common.{sym, subst}
use Rattle.shard_entities.specs.Delivered.{IsNext}
use Rattle.shard_entities.proofs.shards.Shards.write.Goals as goal

pub tell_wrote-requires-clause-next : goal.tell_wrote-requires-clause-next
tell_wrote-requires-clause-next g c = (subst (IsNext c.args.self.now c.args.place.now c.args.message.now) (sym c.next_record-entry.ensures.record) c.next_record-entry.ensures.next).may

pub write_on-requires-clause-next : goal.write_on-requires-clause-next
write_on-requires-clause-next g c = subst (IsNext c.args.self.now c.args.place.now c.args.message.now) (sym c.next_record-entry.ensures.record) c.next_record-entry.ensures.next

pub tell_wrote-requires-clause-applies : goal.tell_wrote-requires-clause-applies
tell_wrote-requires-clause-applies g c = (subst (IsNext c.args.self.now c.args.place.now c.args.message.now) (sym c.next_record-entry.ensures.record) c.next_record-entry.ensures.next).applies
