use Rattle.std.proofs.Common.{◌≡◌, ◌+◌, ◌-◌, ◌<◌, ℕ, List, [], ◌∷◌, ◌++◌, sym, ap, subst, ◌∙◌, refl, arith, length}
use Rattle.std.specs.Prelude.{None, Some, Option}
use Rattle.yard_model.specs.SlotLists.{SlotLists}
use Rattle.yard_model.specs.Words.{at}
use Rattle.shard_store.specs.declared.store.Store.{Store}
use Rattle.yard_model.specs.Lawful.{is_held}
use Rattle.yard_model.specs.Script.{Script, with_shards}
use Rattle.shard_store.specs.Reshaped.{next_lists, AreEach, IsAfterAt, is_of_shards}
use Rattle.shard_store.specs.Stores.{slot_at, entries_in, IsHome}
use Rattle.shard_store.proofs.ReshapeLaws.{each_more}
use Rattle.shard_store.proofs.AfterLaws.{IsOther, other_at, home_of, other_after}
use Rattle.shard_store.proofs.reshape.others_after.Goals as goal

pub at_place-requires : goal.at_place-requires
at_place-requires c = omega (arith, c.loop-place-test.true, c.len-place-end.ensures)

pub store_after-requires-clause-charter : goal.store_after-requires-clause-charter
store_after-requires-clause-charter c =
    let d : Script = c.args.stores.now.script in
    let j : ℕ = c.loop-place.place in
    let within : j < length c.args.stores.now.places = omega (arith, c.loop-place-test.true, c.len-place-end.ensures) in
    let home : IsHome d (slot_at d.config j) c.at_place.result.now = home_of d (slot_at d.config j) (at c.args.stores.now.places j) c.at_place.result.now (c.shards-first.ensures.homes.each j within) c.at_place.ensures in
    c.requires.charter ∙ ap (λ s. with_shards c.args.charter.now.config.shards s) (sym home.script_is)

pub store_after-requires-clause-other : goal.store_after-requires-clause-other
store_after-requires-clause-other c =
    let d : Script = c.args.stores.now.script in
    let old : List (Option Store) = c.args.stores.now.places in
    let j : ℕ = c.loop-place.place in
    let within : j < length old = omega (arith, c.loop-place-test.true, c.len-place-end.ensures) in
    let home : IsHome d (slot_at d.config j) c.at_place.result.now = home_of d (slot_at d.config j) (at old j) c.at_place.result.now (c.shards-first.ensures.homes.each j within) c.at_place.ensures in
    let it : IsOther d c.args.charter.now.config.shards c.args.epoch old j = other_at d c.args.charter.now.config.shards c.args.epoch old j c.shards-first.ensures.homes c.loop-place.invariant.from in
    ap is_of_shards home.slot_is ∙ it.other

pub store_after-requires-clause-free : goal.store_after-requires-clause-free
store_after-requires-clause-free c =
    let within : c.loop-place.place < length c.args.stores.now.places = omega (arith, c.loop-place-test.true, c.len-place-end.ensures) in
    ap (λ (o : Option Store). is_held (entries_in o)) (sym c.at_place.ensures) ∙ c.requires.free c.loop-place.place within

pub loop-place-preserved : goal.loop-place-preserved
loop-place-preserved c =
    let d : Script = c.args.stores.now.script in
    let old : List (Option Store) = c.args.stores.now.places in
    let new : Script = c.args.charter.now in
    let n : ℕ = new.config.shards in
    let j : ℕ = c.loop-place.place in
    let m : ℕ = d.config.shards in
    let lists : SlotLists = next_lists c.args.stores.now n c.args.epoch in
    let here : at old j ≡ Some c.at_place.result.now = c.at_place.ensures in
    let within : j < length old = omega (arith, c.loop-place-test.true, c.len-place-end.ensures) in
    let home : IsHome d (slot_at d.config j) c.at_place.result.now = home_of d (slot_at d.config j) (at old j) c.at_place.result.now (c.shards-first.ensures.homes.each j within) here in
    let it : IsOther d n c.args.epoch old j = other_at d n c.args.epoch old j c.shards-first.ensures.homes c.loop-place.invariant.from in
    let placed : IsAfterAt new lists (slot_at new.config (n + (j - m))) (Some c.in_ok-store.store) =
    other_after d new n c.args.epoch old j (n + (j - m)) c.at_place.result.now c.in_ok-store.store c.requires.charter it home.slot_is (ap entries_in (sym here)) refl c.in_ok-store.ensures in
    let next : (n + (j - m)) + 1 ≡ n + ((j + 1) - m) = omega (arith, c.loop-place.invariant.from) in
    record {
      done = subst (λ (l : List (Option Store)). AreEach None (λ k. IsAfterAt new lists (slot_at new.config k)) l (n + ((j + 1) - m))) (sym c.in_ok-push.ensures.items)
          (subst (λ (i : ℕ). AreEach None (λ k. IsAfterAt new lists (slot_at new.config k)) (c.loop-place.places.items ++ Some c.in_ok-store.store ∷ []) i) next
          (each_more None (λ k. IsAfterAt new lists (slot_at new.config k)) c.loop-place.places.items (n + (j - m)) (Some c.in_ok-store.store) c.loop-place.invariant.done placed));
      from = omega (arith, c.loop-place.invariant.from);
    }
