use Rattle.std.proofs.Common.{ap, ◌∙◌}
use Rattle.yard_model.specs.Script.{Script}
use Rattle.yard_model.specs.Text.{report}
use Rattle.yard_model.specs.World.{played, wire_limit}
use Rattle.shard_store.specs.Stores.{lists_at}
use Rattle.trace_text.specs.Json.{json_text}
use Rattle.foldable_laws.proofs.Foldable.{lists_fold}
use Rattle.replay_run.proofs.FreedLaws.{freed_report, freed_json, freed_of, set_of}
use Rattle.replay_run.proofs.replay.stores_of.Goals as goal

pub returns-clause-report : goal.returns-clause-report
returns-clause-report g c =
    let s : Script = c.args.world.script in
    let d : Script = c.in_ok-last.last in
    let x = c.in_ok-last.stores in
    let e = c.in_ok-last.ensures in
    freed_report d (played s wire_limit).world.lists (lists_at x.script.config x.places) (freed_of s d c.args.world x c.requires e.script e.lists) ∙ ap (λ set. report set (played s wire_limit).world.lists) (set_of s d c.args.world c.requires e.set)

pub returns-clause-json : goal.returns-clause-json
returns-clause-json g c =
    let s : Script = c.args.world.script in
    let d : Script = c.in_ok-last.last in
    let x = c.in_ok-last.stores in
    let e = c.in_ok-last.ensures in
    freed_json d (played s wire_limit).world.lists (lists_at x.script.config x.places) (freed_of s d c.args.world x c.requires e.script e.lists) ∙ ap (λ set. json_text set (played s wire_limit).world.lists) (set_of s d c.args.world c.requires e.set)

pub returns-clause-foldable : goal.returns-clause-foldable
returns-clause-foldable g c =
    let s : Script = c.args.world.script in
    let d : Script = c.in_ok-last.last in
    let x = c.in_ok-last.stores in
    let e = c.in_ok-last.ensures in
    lists_fold d (lists_at x.script.config x.places) (record { commands = c.command_law.ensures; decisions = c.decision_law.ensures; applies = c.decided_law.ensures }) c.config.ensures.script (freed_of s d c.args.world x c.requires e.script e.lists).own_are
