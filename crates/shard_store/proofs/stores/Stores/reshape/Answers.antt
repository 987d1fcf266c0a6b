use Rattle.std.proofs.Common.{◌≤◌, sym, subst}
use Rattle.yard_model.specs.SlotReads.{epoch}
use Rattle.yard_model.specs.SlotLists.{shard_list}
use Rattle.shard_store.specs.Reshaped.{slot_lists}
use Rattle.shard_store.proofs.ReshapeLaws.{most_of}
use Rattle.shard_store.proofs.AfterLaws.{whole}
use Rattle.shard_store.proofs.stores.Stores.reshape.Goals as goal

pub shards_after-requires : goal.shards_after-requires
shards_after-requires c = record {
  script_is = c.requires.charter;
  low = λ s. subst (λ k. epoch (shard_list (slot_lists c.args.self.now) s) ≤ k) (sym c.greatest_epoch-epoch.ensures.greatest) (most_of (slot_lists c.args.self.now).shards 0 s);
  own_are = c.greatest_epoch-epoch.ensures.own;
}

pub returns-clause-lists : goal.returns-clause-lists
returns-clause-lists c =
    whole c.args.self.now c.args.charter.now c.in_ok-places-2.places.items c.from_parts.result.places c.greatest_epoch-epoch.result
    c.greatest_epoch-epoch.ensures.greatest c.requires.charter c.in_ok-places-2.ensures.homes c.in_ok-places-2.ensures.all c.from_parts.ensures.places
