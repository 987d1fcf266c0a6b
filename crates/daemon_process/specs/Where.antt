-- Where each instance is live, searched in the facts; and how one fact more changes that.
use Rattle.std.specs.Prelude.{ℕ, Bool, true, false, List, [], ◌∷◌, map, Option, Some, None, if◌then◌else◌}
use Rattle.std.specs.List.{list_all}
use Rattle.yard_model.specs.declared.fact.Fact.{Fact}
use Rattle.yard_model.specs.declared.fact.Fact.TheVariants as fact
use Rattle.yard_model.specs.declared.incarnation.Incarnation.{Incarnation}
use Rattle.yard_model.specs.Script.{is_name}
use Rattle.yard_model.specs.Words.{is_at}
use Rattle.yard_model.specs.Safe.{live_at}
use Rattle.daemon_process.specs.Daemon.{daemons}

-- the one of these, if there is one and no other
abbrev pub only : List Incarnation → Option Incarnation
only [] = None
only (x ∷ []) = Some x
only (x ∷ y ∷ xs) = None

-- where the entity is live
abbrev pub at_of : List Fact → List ℕ → Option Incarnation
at_of trace e = only (live_at e trace)

-- where each of n instances is live
abbrev pub instances_at : ℕ → List Fact → List (Option Incarnation)
instances_at n trace = map (at_of trace) (daemons n)

abbrev pub is_at_most_one : List Incarnation → Bool
is_at_most_one [] = true
is_at_most_one (x ∷ []) = true
is_at_most_one (x ∷ y ∷ xs) = false

-- each of these entities is live at one incarnation at most
abbrev pub are_single : List (List ℕ) → List Fact → Bool
are_single names trace = list_all (λ e. is_at_most_one (live_at e trace)) names

-- One fact more.

abbrev pub without_it : Incarnation → Option Incarnation → Option Incarnation
without_it x old = if is_at x old then None else old

-- where e is live, if it was there before this fact
abbrev pub seen_of : List ℕ → Option Incarnation → Fact → Option Incarnation
seen_of e old (fact.Start x y) = if is_name y e then Some x else old
seen_of e old (fact.Stop x y) = if is_name y e then without_it x old else old
seen_of e old (fact.WriteFailed x y) = if is_name y e then without_it x old else old
seen_of e old (fact.Gone x) = without_it x old
seen_of e old f = old

abbrev pub seen_each : List (List ℕ) → List (Option Incarnation) → Fact → List (Option Incarnation)
seen_each [] xs f = []
seen_each (e ∷ es) [] f = []
seen_each (e ∷ es) (x ∷ xs) f = seen_of e x f ∷ seen_each es xs f

-- a fact that may change where something is live
abbrev pub is_of_life : Fact → Bool
is_of_life (fact.Start x y) = true
is_of_life (fact.Stop x y) = true
is_of_life (fact.WriteFailed x y) = true
is_of_life (fact.Gone x) = true
is_of_life f = false
