-- What a replay prints, as a judge reads it.
use Rattle.std.specs.Prelude.{◌≡◌, ◌≤◌, ℕ, Bool, true, false, not, List, [], ◌∷◌, length}
use Rattle.std.specs.List.{list_all}
use Rattle.yard_model.specs.declared.charter.Line.{Line}
use Rattle.yard_model.specs.declared.charter.Order.{Order}
use Rattle.yard_model.specs.declared.charter.Order.TheVariants as order
use Rattle.yard_model.specs.declared.fact.Fact.{Fact}
use Rattle.yard_model.specs.declared.fact.Fact.TheVariants as fact
use Rattle.yard_model.specs.declared.packet.Body.{Body}
use Rattle.yard_model.specs.declared.packet.Body.TheVariants as body
use Rattle.yard_model.specs.Replay.{replay_within}
use Rattle.yard_model.specs.Script.{Script, IsScript}
use Rattle.yard_model.specs.World.{played}
use Rattle.fact_lines.specs.Readable.{IsEntity}
use Rattle.state_lines.specs.Told.{IsTold}
use Rattle.judge_laws.specs.Broken.{loud}
use Rattle.verdict_laws.specs.declared.answer.Answer.TheVariants as answer
use Rattle.verdict_laws.specs.Verdict.{counts_of, verdict}

-- the order changes the number of shards
abbrev pub is_resharding : Order → Bool
is_resharding (order.Reshard n) = true
is_resharding o = false

-- a script in one number of shards
abbrev pub keeps_shards : Script → Bool
keeps_shards c = list_all (λ (l : Line). not (is_resharding l.order)) c.orders

-- the names in a packet are names, and it tells of at most 16 members
abbrev pub FitsBody : Body → Type 0
FitsBody (body.View v xs) = length xs ≤ 16
FitsBody (body.StopEntity e) = IsEntity e
FitsBody (body.Recovered e) = IsEntity e
FitsBody (body.Passivate e) = IsEntity e
FitsBody (body.Sequenced m) = IsEntity m.entity
FitsBody (body.Request p e n u) = IsEntity e
FitsBody (body.Resend p e n) = IsEntity e
FitsBody (body.Ack p e n) = IsEntity e
FitsBody b = Unit {0}

-- the names in a fact are names; and where safety says something of the fact, but of an upgrade, its numbers fit
abbrev pub IsHeard : Fact → Type 0
IsHeard (fact.At n) = Unit {0}
IsHeard fact.Nothing = Unit {0}
IsHeard fact.WireFull = Unit {0}
IsHeard fact.Settled = Unit {0}
IsHeard (fact.Up x) = Unit {0}
IsHeard (fact.View x v) = Unit {0}
IsHeard (fact.Sent k p) = FitsBody p.body
IsHeard (fact.Got k) = Unit {0}
IsHeard (fact.Held s x n) = Unit {0}
IsHeard (fact.Moving s st) = Unit {0}
IsHeard (fact.Home x s h) = Unit {0}
IsHeard (fact.Forget x s) = Unit {0}
IsHeard (fact.Kept x m) = IsEntity m.entity
IsHeard (fact.Dropped x m) = IsEntity m.entity
IsHeard (fact.Stashed x m) = IsEntity m.entity
IsHeard (fact.Armed e k) = IsEntity e
IsHeard (fact.Waits p e k) = IsEntity e
IsHeard (fact.Upgrade v) = Unit {0}
IsHeard f = IsTold f

abbrev pub AreHeard : List Fact → Type 0
AreHeard [] = Unit {0}
AreHeard (f ∷ fs) = IsHeard f × AreHeard fs

-- with any limit of packets
abbrev pub ReplayIsJudgedSafe : Type 0
ReplayIsJudgedSafe = (c : Script) (limit : ℕ) → IsScript c → keeps_shards c ≡ true → AreHeard (played c limit).facts
    → verdict c (replay_within limit c) ≡ answer.Safe (counts_of (loud (played c limit).facts))
