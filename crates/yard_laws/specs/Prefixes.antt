-- What holds of a trace, or of a slot's list, holds of what came before.
use Rattle.std.specs.Prelude.{◌≡◌, false, not, List, [], ◌∷◌, ◌++◌, IsTrue}
use Rattle.std.specs.List.{list_all}
use Rattle.yard_model.specs.declared.fact.Fact.{Fact}
use Rattle.yard_model.specs.declared.incarnation.Slot.{Slot}
use Rattle.yard_model.specs.Script.{Script}
use Rattle.yard_model.specs.Opening.{begins}
use Rattle.yard_model.specs.Lawful.{own}
use Rattle.yard_model.specs.Era.{Era, era_of}
use Rattle.yard_model.specs.Safe.{is_safe_now, safe}
use Rattle.yard_model.specs.Guards.{opens, guarded}

-- a list that is lawful by itself was so before its last entry, where that doesn't begin it anew
abbrev pub OwnBefore : Type 0
OwnBefore = (c : Script) (s : Slot) (list : List Fact) (f : Fact) → begins f ≡ false → IsTrue (own c s (list ++ f ∷ [])) → IsTrue (own c s list)

-- facts that are guarded were so before, with no other version in between
abbrev pub GuardedBefore : Type 0
GuardedBefore = (c : Script) (trace more : List Fact) → IsTrue (list_all (λ f. not (opens f)) more) → IsTrue (guarded c (trace ++ more)) → IsTrue (guarded c trace)

-- a safe trace was safe before
abbrev pub SafeBefore : Type 0
SafeBefore = (c : Script) (trace more : List Fact) → IsTrue (safe c (trace ++ more)) → IsTrue (safe c trace)

-- of a safe trace what is to hold at each prefix holds at its end, in the era where it ends
abbrev pub SafeNow : Type 0
SafeNow = (c : Script) (trace : List Fact) → IsTrue (safe c trace) → let era : Era = era_of c trace in IsTrue (is_safe_now era.script era.trace)
