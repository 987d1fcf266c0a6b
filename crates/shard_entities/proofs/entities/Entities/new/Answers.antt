use Rattle.std.proofs.Common.{ap, replicate, subst, sym, ◌∙◌}
use Rattle.std.proofs.lemmas.Result.{IfOk-from_err}
use Rattle.yard_model.specs.declared.charter.Config.{Config}
use Rattle.shard_entities.specs.Lodged.{Lodged}
use Rattle.shard_entities.specs.Settled.{IsSettled}
use Rattle.shard_entities.proofs.SettleLaws.{new_settled}
use Rattle.shard_entities.proofs.entities.Entities.new.Goals as goal

pub new-requires-2-clause-version : goal.new-requires-2-clause-version
new-requires-2-clause-version c = c.requires.version

pub new-requires-2-clause-places : goal.new-requires-2-clause-places
new-requires-2-clause-places c = c.requires.places

pub returns-in_err-pending : goal.returns-in_err-pending
returns-in_err-pending c = IfOk-from_err c.from_residual.result _ c.from_residual.ensures.0

pub returns-in_err-shards : goal.returns-in_err-shards
returns-in_err-shards c = IfOk-from_err c.from_residual-in_err-shards.result _ c.from_residual-in_err-shards.ensures.0

pub invariant_of-result : goal.invariant_of-result
invariant_of-result c = record {
  settled = subst IsSettled (sym c.in_ok-shards.ensures) (new_settled c.args.charter.now c.args.version c.args.who (replicate c.args.charter.now.config.shards 0));
  window_is = c.in_ok-pending.ensures.window ∙ (ap (λ (k : Config). k.window) c.config.ensures.value ∙ sym (ap (λ (v : Lodged). v.script.config.window) c.in_ok-shards.ensures));
  empty = c.in_ok-pending.ensures.empty;
}

pub returns : goal.returns
returns c = c.in_ok-shards.ensures
