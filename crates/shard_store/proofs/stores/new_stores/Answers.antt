use Rattle.std.proofs.Common.{List, ◌+◌, sym, subst}
use Rattle.std.specs.Prelude.{Option}
use Rattle.shard_store.specs.declared.store.Store.{Store}
use Rattle.shard_store.specs.Stores.{AreNew}
use Rattle.shard_store.proofs.StoresLaws.{new_more}
use Rattle.shard_store.proofs.stores.new_stores.Goals as goal

pub loop-place-preserved : goal.loop-place-preserved
loop-place-preserved c =
    let w = c.args.charter.now in
    let k = c.loop-place.place in
    record {
      new = subst (λ (l : List (Option Store)). AreNew w l (k + 1)) (sym c.in_ok-push.ensures.items) (new_more w c.loop-place.places.items k c.in_ok-store.store c.loop-place.invariant.new c.in_ok-store.ensures);
      count = c.loop-place.invariant.count;
    }
