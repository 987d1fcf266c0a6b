-- The world of a script after some of its lines, and what one line more does.
use Rattle.std.specs.Prelude.{◌≡◌, ℕ, ◌+◌, Bool, true, false, List, ◌++◌, Option, Some, None, Result, Ok, Err}
use Rattle.yard_model.specs.declared.fact.Fact.{Fact}
use Rattle.yard_model.specs.Script.{Script}
use Rattle.yard_model.specs.World.{wire_limit}
use Rattle.pull_laws.specs.Pulling.{Pulling, pulled}
use Rattle.pull_laws.specs.PullSafe.{IsPulled}
use Rattle.pull_cluster.specs.Cluster.{Cluster}
use Rattle.work_pulling.specs.declared.fault.PullFault.{PullFault}
use Rattle.work_pulling.specs.declared.fault.PullFault.TheVariants as fault

pub record Played : Type 0 where
  pub script : Script
  pub count : ℕ  -- how many lines were played
  pub fault : Option PullFault  -- what ended it, if it is spent

-- the facts told so far
abbrev pub told_by : Played → Pulling
told_by w = pulled w.script wire_limit w.count

-- one line more was played: its facts stand behind those told before
pub record Went (old new : Played) (before after : List Fact) (full : Bool) : Type 0 where
  pub fresh_is : old.fault ≡ None
  pub script_is : new.script ≡ old.script
  pub count_is : new.count ≡ old.count + 1
  pub facts : List Fact
  pub told_is : (told_by new).told ≡ (told_by old).told ++ facts
  pub out_is : after ≡ before ++ facts
  pub full_is : (told_by new).full ≡ full

-- memory ran out: what was told of the line is not said
pub record CutShort (old new : Played) : Type 0 where
  pub fresh_is : old.fault ≡ None
  pub script_is : new.script ≡ old.script

-- what an answer says where the world wasn't spent: the trace stops with this line exactly where the answer is WireFull
abbrev pub Answers : Played → List Fact → Result (Unit {0}) PullFault → Played → List Fact → Type 0
Answers old before (Ok u) new after = Went old new before after false × (new.fault ≡ None)
Answers old before (Err fault.WireFull) new after = Went old new before after true × (new.fault ≡ Some fault.WireFull)
Answers old before (Err fault.OutOfMemory) new after = CutShort old new × (new.fault ≡ Some fault.OutOfMemory)

-- a spent world answers what ended it, and nothing changes
pub record Spent (old : Played) (f : PullFault) (before : List Fact) (result : Result (Unit {0}) PullFault) (new : Played) (after : List Fact) : Type 0 where
  pub answer_is : result ≡ Err f
  pub new_is : new ≡ old
  pub out_is : after ≡ before

abbrev pub StepsBy : Option PullFault → Played → List Fact → Result (Unit {0}) PullFault → Played → List Fact → Type 0
StepsBy None old before result new after = Answers old before result new after
StepsBy (Some f) old before result new after = Spent old f before result new after

abbrev pub Steps : Played → List Fact → Result (Unit {0}) PullFault → Played → List Fact → Type 0
Steps old before result new after = StepsBy old.fault old before result new after

-- memory didn't run out
abbrev pub NotCut : Option PullFault → Type 0
NotCut (Some fault.OutOfMemory) = ⊥
NotCut f = Unit {0}

abbrev pub is_wire_full : Option PullFault → Bool
is_wire_full (Some fault.WireFull) = true
is_wire_full f = false

-- the cluster is after so many lines, unless memory ran out
pub record IsPlayed (c : Script) (k : Cluster) (count : ℕ) (f : Option PullFault) : Type 0 where
  pub pulled_is : IsPulled c
  pub script_is : NotCut f → k.script ≡ c
  pub told_is : NotCut f → k.pulling ≡ pulled c wire_limit count
  pub full_is : NotCut f → (pulled c wire_limit count).full ≡ is_wire_full f
