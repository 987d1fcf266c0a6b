use Rattle.std.proofs.Common.{◌≡◌, ◌==◌, ◌∙◌, false, true, ap, sym, refl, subst}
use Rattle.std.specs.Prelude.{None, is_some}
use Rattle.std.specs.List.{list_any}
use Rattle.yard_model.specs.declared.incarnation.Slot.{Slot}
use Rattle.yard_model.specs.Genuine.{is_slot_of}
use Rattle.yard_model.specs.Script.{Script, with_shards}
use Rattle.yard_model.specs.Words.{at}
use Rattle.shard_store.specs.Stores.{lists_at, place_of}
use Rattle.world_sim.specs.Steps.{resharded}
use Rattle.world_sim.specs.Yard.{Yard, IsBacked}
use Rattle.world_sim.proofs.ReshardLaws.{nobody_holds, relisted, played_as, reshaped_played}
use Rattle.world_sim.proofs.StepLaws.{cut_none, plays_err}
use Rattle.world_sim.proofs.UpLaws.{node_within}
use Rattle.world_sim.proofs.yard.Yard.reshape.Goals as goal

pub with_shards-requires-clause-low : goal.with_shards-requires-clause-low
with_shards-requires-clause-low g c = (node_within c.args.shards 128 c.requires.shards).0

pub with_shards-requires-clause-high : goal.with_shards-requires-clause-high
with_shards-requires-clause-high g c = (node_within c.args.shards 128 c.requires.shards).1

pub reshape-requires-clause-free : goal.reshape-requires-clause-free
reshape-requires-clause-free g c =
    subst (λ (v : Yard). (t : Slot) → is_slot_of v.book.script t ≡ true → at v.book.holders (place_of v.book.script.config t) ≡ None) (sym c.self.view_is) (nobody_holds c.args.self.now c.requires.world.0 c.requires.world.1.sound c.requires.quiet)

pub returns-in_err-charter : goal.returns-in_err-charter
returns-in_err-charter g c = plays_err 0 (resharded c.args.shards) c.from_residual.result _ _ _ _ c.from_residual.ensures.0 (cut_none IsBacked (resharded c.args.shards) _ _ _ _ refl refl)

pub returns-in-Err : goal.returns-in-Err
returns-in-Err g c = cut_none IsBacked (resharded c.args.shards) _ _ _ _ (ap (λ (v : Yard). v.script) c.self.view_is) refl

pub returns-in_err-scene : goal.returns-in_err-scene
returns-in_err-scene g c = plays_err 0 (resharded c.args.shards) c.from_residual-in_err-scene.result _ _ _ _ c.from_residual-in_err-scene.ensures.0 (cut_none IsBacked (resharded c.args.shards) _ _ _ _ (ap (λ (v : Yard). v.script) c.self.view_is) refl)

pub returns-in-Err-push : goal.returns-in-Err-push
returns-in-Err-push g c = cut_none IsBacked (resharded c.args.shards) _ _ _ _ (ap (λ (v : Yard). v.script) c.self.view_is) c.in-Err-push.ensures.err

pub returns : goal.returns
returns g c =
    played_as 0 (resharded c.args.shards) _ c.args.self.now _ c.args.facts.now c.push.new.self c.self.view_is
    (reshaped_played c.standing_is_kept.ensures c.args.shards c.greatest_epoch-epoch.result _ _ c.args.facts.now c.push.new.self (subst (λ (v : Yard). list_any is_some v.nodes ≡ false) (sym c.self.view_is) c.requires.quiet) c.requires.shards
    (subst (λ (v : Yard). (c.args.shards == v.script.config.shards) ≡ false) (sym c.self.view_is) c.requires.other) c.greatest_epoch-epoch.ensures
    (record {
      script_is = c.in_ok-scene.ensures ∙ (c.in_ok-charter.ensures ∙ ap (with_shards c.args.shards) c.charter.ensures);
      kind_is = refl;
      version_kept = refl;
      past_is = c.len-self-inside.ensures.len;
      nodes_are = refl;
      members_are = refl;
      version_is = refl;
      ups_are = refl;
      ordered_are = refl;
      mail_is = refl;
      book_is = c.in-Ok.ensures.script ∙ sym c.in_ok-scene.ensures;
      holders_none = c.in-Ok.ensures.holders;
      lists_are = ap (λ (s : Script). lists_at s.config c.reshape.new.self.places) c.in_ok-scene.ensures ∙ relisted c.self.inside.book c.self.inside.scene c.in_ok-charter.charter c.args.shards _ (c.in_ok-charter.ensures ∙ ap (with_shards c.args.shards) c.charter.ensures) c.in-Ok.ensures.lists;
    })
    c.in-Ok-push.ensures.ok)
