use Rattle.std.proofs.Common.{◌≡◌, ◌<◌, ◌∙◌, ℕ, [], ap, length, refl, subst, sym}
use Rattle.std.specs.Prelude.{true, map, slice_index_or}
use Rattle.std.proofs.lemmas.List.{length-map}
use Rattle.std.proofs.lemmas.Result.{err_from_is_err_and}
use Rattle.yard_model.specs.Lawful.{lawful}
use Rattle.yard_model.specs.Script.{Script, setting}
use Rattle.yard_model.specs.Setting.{names_of}
use Rattle.shard_store.specs.Stores.{lists_at}
use Rattle.live_run.proofs.LiveLaws.{live_folds, live_text}
use Rattle.live_run.proofs.live.write_run.Goals as goal

pub look_at_lists-requires : goal.look_at_lists-requires
look_at_lists-requires g c =
    subst (λ (d : Script). lawful c.args.charter.now (lists_at d.config c.in_ok-stores.stores.places) ≡ true) (sym c.in_ok-stores.ensures.script) c.in_ok-stores.ensures.live.lawful_is

pub write_text-requires-clause-names : goal.write_text-requires-clause-names
write_text-requires-clause-names g c = record {
  own = subst (λ l. (s : ℕ) → s < c.args.charter.now.config.shards → slice_index_or (map (λ v. v.items) l) s [] ≡ names_of (setting c.args.charter.now) s) (sym c.as_slice.ensures.value) c.in_ok-names.ensures.names;
  count = ap (λ l. length (map (λ v. v.items) l)) c.as_slice.ensures.value ∙ (length-map c.in_ok-names.names.items (λ v. v.items) ∙ c.in_ok-names.ensures.length);
}

pub write_text-requires-clause-foldable : goal.write_text-requires-clause-foldable
write_text-requires-clause-foldable g c =
    live_folds c.args.charter.now c.args.turns c.in_ok-stores.stores c.in_ok-stores.ensures.script
    (record { commands = c.command_law.ensures; decisions = c.decision_law.ensures; applies = c.decided_law.ensures }) c.config.ensures.script c.in_ok-stores.ensures.live

pub returns-in_err-stores : goal.returns-in_err-stores
returns-in_err-stores g c =
    let p = err_from_is_err_and c.from_residual.result c.from_residual.ensures.1 in
    rw (p.1, p.2) refl

pub returns-in_err-names : goal.returns-in_err-names
returns-in_err-names g c =
    let p = err_from_is_err_and c.from_residual-in_err-names.result c.from_residual-in_err-names.ensures.1 in
    rw (p.1, p.2) refl

pub returns-in_err-write_text : goal.returns-in_err-write_text
returns-in_err-write_text g c =
    let p = err_from_is_err_and c.from_residual-in_err-write_text.result c.from_residual-in_err-write_text.ensures.1 in
    rw (p.1, p.2) (record {
      text = _;
      is_text = live_text c.args.charter.now c.args.turns c.in_ok-stores.stores _ c.in_ok-stores.ensures.script c.in_ok-stores.ensures.live refl c.look_at_lists.ensures;
      front = c.in_err-write_text.ensures;
    })

pub returns : goal.returns
returns g c = record {
  text = _;
  is_text = live_text c.args.charter.now c.args.turns c.in_ok-stores.stores _ c.in_ok-stores.ensures.script c.in_ok-stores.ensures.live refl c.look_at_lists.ensures;
  took = c.in_ok-write_text.ensures;
}
