use Rattle.std.proofs.Common.{◌∙◌, ◌++◌, ap, sym, subst}
use Rattle.yard_model.specs.Script.{Script}
use Rattle.yard_model.specs.World.{trace_of}
use Rattle.world_sim.specs.Played.{Played}
use Rattle.replay_run.specs.Replays.{IsDone, replay_json}
use Rattle.replay_run.proofs.json.tell_json.Goals as goal

pub push_end-requires : goal.push_end-requires
push_end-requires g c =
    let done = c.in-Ok.ensures.done in
    subst (λ s. IsDone s c.follow.new.world) (sym done.script_is) done

pub returns-clause-told : goal.returns-clause-told
returns-clause-told g c = c.in-Ok.ensures.told ∙ ap (λ (w : Played). trace_of w.script) c.in_ok-world.ensures

pub returns-clause-text : goal.returns-clause-text
returns-clause-text g c =
    let script = c.in-Ok.ensures.done.script_is ∙ ap (λ (w : Played). w.script) c.in_ok-world.ensures in
    c.in_ok-push_end.ensures ∙ ap (λ (s : Script). c.args.text.now.items ++ replay_json s) script
