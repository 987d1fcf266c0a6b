-- The workers of a run, and what they leave.
use Rattle.std.specs.Prelude.{◌≡◌, ℕ, ◌+◌, ◌<◌, true, List, [], ◌∷◌, length, Result, IfOk, slice_index_or, ⊤}
use Rattle.atomic_table.specs.Seated.{TableId}
use Rattle.yard_model.specs.Behaviour.{is_in}
use Rattle.yard_model.specs.Script.{Script}
use Rattle.lease_table.specs.Leasing.{Pass, Idle}
use Rattle.post_box.specs.Holding.{Holder}
use Rattle.node_runner.specs.declared.run.Job.{Job}
use Rattle.node_runner.specs.Progress.{SawAll}

-- the passes of the nodes from this one on, in order, hold nothing
abbrev pub AreIdle : TableId → Script → ℕ → List Pass → Type 0
AreIdle z c n [] = ⊤
AreIdle z c n (p ∷ ps) = Idle z c n p × AreIdle z c (n + 1) ps

-- a pass of each node, in order
pub record IsDealt (z : TableId) (c : Script) (ps : List Pass) : Type 0 where
  pub all : length ps ≡ c.config.nodes
  pub idle : AreIdle z c 1 ps

module _ {P : Type 0} where
  -- passes at these boxes, of the nodes from this one on, in order
  abbrev pub AreHolders : List TableId → ℕ → List (Holder P) → Type 0
  AreHolders ts n [] = ⊤
  AreHolders ts n (h ∷ hs) = (h.tables ≡ ts) × (h.node ≡ n) × AreHolders ts (n + 1) hs

  -- a job of one of the script's nodes: its pass holds nothing, and the other is that node's at these boxes
  pub record IsJob (z : TableId) (c : Script) (ts : List TableId) (j : Job P) : Type 0 where
    pub inside : is_in 1 c.config.nodes j.node ≡ true
    pub idle : Idle z c j.node j.pass
    pub boxes : j.box_pass.tables ≡ ts
    pub own : j.box_pass.node ≡ j.node

  -- the job at place i is of node i + 1
  abbrev pub AreJobs : TableId → Script → List TableId → List (Job P) → Type 0
  AreJobs z c ts js = (i : ℕ) (x : Job P) → i < length js → x ≡ slice_index_or js i x → (x.node ≡ i + 1) × IsJob z c ts x

-- the pass that the worker of node n left
pub record IsLeft (z : TableId) (c : Script) (turns n : ℕ) (p : Pass) : Type 0 where
  pub idle : Idle z c n p
  pub saw : SawAll c turns n p

-- what the workers left, that of node i + 1 at place i
abbrev pub AreLeft : {E : Type 0} → TableId → Script → ℕ → List (Result Pass E) → Type 0
AreLeft {E} z c turns rs = (i : ℕ) (r : Result Pass E) → i < length rs → r ≡ slice_index_or rs i r → IfOk r (IsLeft z c turns (i + 1))
