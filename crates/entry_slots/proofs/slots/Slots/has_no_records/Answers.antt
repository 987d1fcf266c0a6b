use Rattle.yard_model.specs.Script.{setting}
use Rattle.yard_model.specs.Setting.{shard_of}
use Rattle.entry_slots.proofs.SeenLaws.{no_records_at}
use Rattle.entry_slots.proofs.slots.Slots.has_no_records.Goals as goal

pub returns : goal.returns
returns c =
    let v = c.args.self.now in
    no_records_at v.script v.lists (shard_of (setting v.script) c.args.entity.now) c.store_of.result.now c.args.entity.now c.store_of.ensures c.entries.ensures.own c.requires
