-- What the next fact must be for a safe trace to stay safe, within one number of shards.
use Rattle.std.specs.Prelude.{◌≡◌, ◌<◌, Bool, true, false, not, ◌&&◌, List, [], ◌∷◌, ◌++◌}
use Rattle.std.specs.List.{list_all}
use Rattle.yard_model.specs.declared.fact.Fact.{Fact}
use Rattle.yard_model.specs.declared.fact.Fact.TheVariants as fact
use Rattle.yard_model.specs.Follow.{each_follows}
use Rattle.yard_model.specs.Genuine.{is_brought}
use Rattle.yard_model.specs.Guards.{own_guard, cross_guard}
use Rattle.yard_model.specs.Safe.{is_safe_now, live_at, safe, shard_list_of, shows}
use Rattle.yard_model.specs.Script.{Script, setting}
use Rattle.yard_model.specs.SlotReads.{holder}
use Rattle.yard_model.specs.Trace.{slot_of}
use Rattle.yard_model.specs.Words.{is_at, is_empty, without}

abbrev pub is_reshard : Fact → Bool
is_reshard (fact.Reshard n k) = true
is_reshard f = false

-- what other lists and live entities have to say: the holder of its shard starts an entity that isn't live at another; the rest as it is guarded
abbrev pub crossed : Script → List Fact → Fact → Bool
crossed c trace (fact.Upgrade v) = true
crossed c trace (fact.Start x e) = is_brought c e && is_at x (holder (shard_list_of c e trace)) && is_empty (without x (live_at e trace))
crossed c trace f = cross_guard c trace f

-- the test of a fact after these
abbrev pub judged : Script → List Fact → Fact → Bool
judged c trace f = own_guard c trace f (slot_of (setting c) f) && crossed c trace f

abbrev pub StepIsExact : Type 0
StepIsExact = (c : Script) (trace : List Fact) (f : Fact) → 0 < c.config.shards → is_reshard f ≡ false → is_safe_now c trace ≡ true → (shows c trace f && is_safe_now c (trace ++ f ∷ [])) ≡ judged c trace f

abbrev pub is_plain : List Fact → Bool
is_plain trace = list_all (λ f. not (is_reshard f)) trace

abbrev pub SafeIsJudged : Type 0
SafeIsJudged = (c : Script) (trace : List Fact) → 0 < c.config.shards → is_plain trace ≡ true → safe c trace ≡ each_follows (judged c) [] trace
