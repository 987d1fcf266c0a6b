-- What a replay prints is judged safe.
use Rattle.std.proofs.Common.{◌≡◌, ◌<◌, ℕ, sym, ◌∙◌, refl, arith}
use Rattle.std.specs.Prelude.{true, ◌&&◌, nat_le, not, List, map, ◌++◌}
use Rattle.std.specs.List.{flat_map}
use Rattle.plain_laws.proofs.Booleans.{all_filter, all_map, and_both, at_most}
use Rattle.yard_model.specs.declared.charter.Config.{Config}
use Rattle.yard_model.specs.declared.fact.Fact.{Fact}
use Rattle.yard_model.specs.Behaviour.{is_in}
use Rattle.yard_model.specs.Script.{Script, IsScript, is_config}
use Rattle.yard_model.specs.Text.{fact_line, report}
use Rattle.yard_model.specs.World.{World, played}
use Rattle.judge_laws.specs.Broken.{QuietSaysNothing, is_loud, loud}
use Rattle.judge_laws.specs.Judged.{is_reshard}
use Rattle.play_laws.specs.Played.{PlayedIsSafe}
use Rattle.verdict_laws.specs.Lines.{lines_of}
use Rattle.verdict_laws.specs.Meaning.{HasTrace, SafeIsAnswered, Tells}
use Rattle.judged_replays.specs.Replayed.{AreHeard, ReplayIsJudgedSafe}
use Rattle.judged_replays.proofs.LineLaws.{all_told, lines_split, lines_tell}
use Rattle.judged_replays.proofs.PlainLaws.{AreOfReplay, is_of_replay, played_plain, replay_is_plain}

some_shards : (c : Script) → IsScript c → 0 < c.config.shards
some_shards c s = from s.config
  where
    at_least : (n : ℕ) → is_in 1 128 n ≡ true → 0 < n
    at_least n h = omega (arith, at_most 1 n (and_both (nat_le 1 n) (nat_le n 128) h).0)

    from : is_config c.config ≡ true → 0 < c.config.shards
    from h =
        let k : Config = c.config in
        let f = (and_both (is_in 1 16 k.nodes && is_in 1 128 k.shards && is_in 1 32 k.producers && is_in 1 1000 k.buffer && is_in 1 64 k.window && is_in 1 10000 k.snapshot) (is_in 1 10 k.keep) h).0 in
        let e = (and_both (is_in 1 16 k.nodes && is_in 1 128 k.shards && is_in 1 32 k.producers && is_in 1 1000 k.buffer && is_in 1 64 k.window) (is_in 1 10000 k.snapshot) f).0 in
        let d = (and_both (is_in 1 16 k.nodes && is_in 1 128 k.shards && is_in 1 32 k.producers && is_in 1 1000 k.buffer) (is_in 1 64 k.window) e).0 in
        let b = (and_both (is_in 1 16 k.nodes && is_in 1 128 k.shards && is_in 1 32 k.producers) (is_in 1 1000 k.buffer) d).0 in
        let a = (and_both (is_in 1 16 k.nodes && is_in 1 128 k.shards) (is_in 1 32 k.producers) b).0 in
        at_least k.shards (and_both (is_in 1 16 k.nodes) (is_in 1 128 k.shards) a).1

abbrev replay_lines : List Fact → World → List ℕ
replay_lines facts w = flat_map fact_line facts ++ report w.set w.lists

-- the lines of these facts, and a report behind them, tell the loud ones
tells : (facts : List Fact) (w : World) → AreHeard facts → AreOfReplay facts → Tells (replay_lines facts w) (loud facts)
tells facts w heard plain = record {
  lines = map fact_line facts;
  behind = lines_of (report w.set w.lists);
  split = lines_split facts (report w.set w.lists) heard;
  tell = lines_tell facts heard plain;
  ended = refl;
}

has_trace : PlayedIsSafe → QuietSaysNothing → (c : Script) (limit : ℕ) → IsScript c → AreHeard (played c limit).facts → AreOfReplay (played c limit).facts → HasTrace c (loud (played c limit).facts)
has_trace safes quiet c limit script heard plain =
    let facts : List Fact = (played c limit).facts in
    record {
      told = all_told facts heard plain;
      plain = all_filter (λ f. not (is_reshard f)) is_loud facts (all_map is_of_replay (λ f. not (is_reshard f)) replay_is_plain facts plain);
      is_safe = sym (quiet c facts) ∙ safes c limit script;
    }

pub replay_is_judged_safe : PlayedIsSafe → QuietSaysNothing → SafeIsAnswered → ReplayIsJudgedSafe
replay_is_judged_safe safes quiet answered c limit script keeps heard =
    let plain : AreOfReplay (played c limit).facts = played_plain c limit keeps in
    answered c (replay_lines (played c limit).facts (played c limit).world) (loud (played c limit).facts) (some_shards c script) (has_trace safes quiet c limit script heard plain) (tells (played c limit).facts (played c limit).world heard plain)
