-- The node that is looked for.
use Rattle.std.specs.Prelude.{◌≡◌, ℕ, ◌-◌, ◌≤◌, ◌<◌, Bool, true, false, List, Option, Some, None, is_some, MatchOption}
use Rattle.yard_model.specs.declared.incarnation.Incarnation.{Incarnation}
use Rattle.yard_model.specs.declared.input.Phase.TheVariants as phase
use Rattle.yard_model.specs.Entities.{is_in_phase}
use Rattle.yard_model.specs.Genuine.{is_brought}
use Rattle.yard_model.specs.Node.{Node}
use Rattle.yard_model.specs.Script.{Script}
use Rattle.yard_model.specs.Words.{at, is_same}
use Rattle.node_core.specs.Standing.{Standing}
use Rattle.world_sim.specs.declared.seek.Sought.{Sought}
use Rattle.world_sim.specs.declared.seek.Sought.TheVariants as sought

abbrev pub is_sought : Sought → Node → Bool
is_sought sought.Coordinator st = is_some st.coordinator
is_sought (sought.Queue p) st = is_some (at st.producers (p - 1))
is_sought (sought.Active e) st = is_in_phase phase.Active st.entities e

-- a node of this script can be asked for it
abbrev pub MaySeek : Script → Sought → Type 0
MaySeek c (sought.Active e) = is_brought c e ≡ true
MaySeek c s = Unit {0}

-- it is up, and has it
abbrev pub is_it : Sought → Option Standing → Bool
is_it s None = false
is_it s (Some v) = is_sought s v.state

-- it is up, and is this incarnation
abbrev pub is_who : Incarnation → Option Standing → Bool
is_who x None = false
is_who x (Some v) = is_same x v.state.who

-- the node of its number is up, and is it
abbrev pub is_up_in : Incarnation → List (Option Standing) → Bool
is_up_in x nodes = is_who x (at nodes (x.node - 1))

-- of the first m nodes the last that has it, by its number, from 1
pub record IsLast (s : Sought) (nodes : List (Option Standing)) (m n : ℕ) : Type 0 where
  pub some : 1 ≤ n
  pub inside : n ≤ m
  pub is : is_it s (at nodes (n - 1)) ≡ true
  pub none_later : (k : ℕ) → n ≤ k → k < m → is_it s (at nodes k) ≡ false

abbrev pub IsFound : Sought → List (Option Standing) → ℕ → Option ℕ → Type 0
IsFound s nodes m r = MatchOption r ((k : ℕ) → k < m → is_it s (at nodes k) ≡ false) (IsLast s nodes m)
