use Rattle.std.proofs.Common.{◌≡◌, ◌≤◌, ◌++◌, ◌∙◌, ap, subst, sym}
use Rattle.std.proofs.lemmas.Result.{err_from_is_err_and}
use Rattle.yard_model.specs.Lawful.{lawful}
use Rattle.yard_model.specs.World.{given_world, wire_limit}
use Rattle.shard_store.specs.Stores.{lists_at}
use Rattle.settle_laws.specs.Settles.{most_deliveries}
use Rattle.apply_laws.specs.Applied.{frees, is_done, lists_in}
use Rattle.apply_run.proofs.CarryLaws.{done_is, lists_is, told_is}
use Rattle.apply_run.proofs.carry.carry_within.Goals as goal

pub returns-in_err-restored-clause-foreign : goal.returns-in_err-restored-clause-foreign
returns-in_err-restored-clause-foreign g c k is =
    let p = err_from_is_err_and c.from_residual.result c.from_residual.ensures.1 in
    let one = p.1 in
    let two = p.2 in
    c.in_err-restored.ensures.foreign k (cc)

pub returns-clause-lists : goal.returns-clause-lists
returns-clause-lists g c =
    let done : c.in_ok-restored.restored.is_done ≡ is_done c.args.charter.now c.args.batches.now =
    done_is c.confirmed_is_done.ensures c.restored_is_done.ensures c.args.charter.now c.args.batches.now c.in_ok-restored.restored.is_done
    (ap (lawful c.args.charter.now) (sym c.in_ok-restored.ensures.restored) ∙ c.in_ok-restored.ensures.go_on.lawful_is) c.in_ok-restored.ensures.taken c.in_ok-restored.ensures.done in
    lists_is c.args.charter.now c.args.batches.now c.in_ok-restored.restored.is_done (lists_at c.args.charter.now.config c.in_ok-restored.restored.stores.places)
    (lists_at c.args.charter.now.config c.in_ok-stores.stores.places) done c.in_ok-restored.ensures.restored c.in_ok-stores.ensures.lists

pub returns-clause-told : goal.returns-clause-told
returns-clause-told g c =
    let done : c.in_ok-restored.restored.is_done ≡ is_done c.args.charter.now c.args.batches.now =
    done_is c.confirmed_is_done.ensures c.restored_is_done.ensures c.args.charter.now c.args.batches.now c.in_ok-restored.restored.is_done
    (ap (lawful c.args.charter.now) (sym c.in_ok-restored.ensures.restored) ∙ c.in_ok-restored.ensures.go_on.lawful_is) c.in_ok-restored.ensures.taken c.in_ok-restored.ensures.done in
    told_is c.args.charter.now c.args.batches.now c.in_ok-restored.restored.is_done (lists_at c.args.charter.now.config c.in_ok-restored.restored.stores.places) c.as_slice.result.now c.args.out.now c.finish.new.out
    done c.in_ok-restored.ensures.restored
    (c.as_slice.ensures ∙ (c.in_ok-restored.ensures.freed ∙ ap (λ l. l ++ frees c.args.charter.now (lists_in c.args.charter.now c.args.batches.now)) c.new-freed.ensures)) c.in_ok-stores.ensures.told

pub finish-requires-clause-fits : goal.finish-requires-clause-fits
finish-requires-clause-fits g c = subst (λ l. most_deliveries (given_world c.args.charter.now 1 l) ≤ wire_limit) (sym c.in_ok-restored.ensures.restored) c.requires
