-- A test that the machine's words and the answers of the queries are the same at the end of each order: both are written as numbers.
use Rattle.std.specs.Prelude.{ℕ, Bool, true, false, ◌&&◌, List, [], ◌∷◌, ◌++◌, length, fold, Option, Some, None}
use Rattle.std.specs.List.{flat_map}
use Rattle.yard_model.specs.declared.fact.Fact.{Fact}
use Rattle.yard_model.specs.declared.packet.Message.{Message}
use Rattle.yard_model.specs.declared.charter.Line.{Line}
use Rattle.yard_model.specs.declared.incarnation.Incarnation.{Incarnation}
use Rattle.yard_model.specs.declared.incarnation.Stamp.{Stamp}
use Rattle.yard_model.specs.declared.incarnation.Keep.{Keep}
use Rattle.yard_model.specs.declared.incarnation.Keep.TheVariants as keep
use Rattle.yard_model.specs.declared.input.Phase.{Phase}
use Rattle.yard_model.specs.declared.input.Phase.TheVariants as phase
use Rattle.yard_model.specs.Script.{Script, is_name}
use Rattle.yard_model.specs.Region.{Region}
use Rattle.yard_model.specs.Entities.{Cell, Hosted, Stopping}
use Rattle.yard_model.specs.Producer.{Producer, Progress}
use Rattle.yard_model.specs.Coordinator.{Coordinator, Moving}
use Rattle.yard_model.specs.Node.{Node}
use Rattle.yard_model.specs.World.{World, Made, new_world, play_line, wire_limit}
use Rattle.yard_model.specs.Queries.{Known, nothing_known, know}

abbrev pub of_bool : Bool → ℕ
of_bool true = 1
of_bool false = 0

abbrev pub of_option : {A : Type 0} → (A → List ℕ) → Option A → List ℕ
of_option f None = 0 ∷ []
of_option f (Some x) = 1 ∷ f x

abbrev pub of_list : {A : Type 0} → (A → List ℕ) → List A → List ℕ
of_list f xs = length xs ∷ flat_map f xs

abbrev pub of_number : ℕ → List ℕ
of_number n = n ∷ []

abbrev pub of_incarnation : Incarnation → List ℕ
of_incarnation x = x.node ∷ x.number ∷ []

abbrev pub of_stamp : Stamp → List ℕ
of_stamp s = s.epoch ∷ s.round ∷ []

abbrev pub of_message : Message → List ℕ
of_message m = m.producer ∷ m.number ∷ of_incarnation m.origin ++ of_list of_number m.entity

abbrev pub of_region : Region → List ℕ
of_region r = r.version ∷ of_list of_incarnation r.view ++ of_option of_incarnation r.registered ++ of_bool r.leaving ∷ of_list (of_option of_incarnation) r.homes
    ++ of_list of_stamp r.marks ++ of_list (λ b. of_bool b ∷ []) r.asked ++ of_list (of_list of_message) r.kept

abbrev pub of_phase : Phase → ℕ
of_phase phase.Absent = 0
of_phase phase.Loading = 1
of_phase phase.Active = 2
of_phase phase.Stopping = 3

abbrev pub of_keep : Keep → List ℕ
of_keep keep.Kept = 1 ∷ []
of_keep keep.Lost = 2 ∷ []

abbrev pub of_cell : Cell → List ℕ
of_cell x = of_phase x.phase ∷ of_bool x.passivating ∷ of_list of_message x.stash ++ of_option of_keep x.armed ++ of_list of_number x.reach

abbrev pub of_hosted : Hosted → List ℕ
of_hosted h = length h.entries ∷ of_option (λ (s : Stopping). of_stamp s.stamp ++ of_incarnation s.to) h.stopping

abbrev pub of_producer : Producer → List ℕ
of_producer p = p.number ∷ length p.entries ∷ of_list (λ (x : Progress). x.demand ∷ x.sent ∷ []) p.pairs

abbrev pub of_moving : Moving → List ℕ
of_moving x = x.shard ∷ of_option of_incarnation x.owner ++ of_list of_incarnation x.awaited

abbrev pub of_coordinator : Coordinator → List ℕ
of_coordinator k = length k.entries ∷ k.begun ∷ of_list of_incarnation k.quitting ++ of_list (λ b. of_bool b ∷ []) k.started ++ of_list of_moving k.moving

abbrev pub of_node : Node → List ℕ
of_node st = of_incarnation st.who ++ of_region st.region ++ st.entities.version ∷ of_list (of_option of_hosted) st.entities.hosted ++ of_list of_cell st.entities.cells
    ++ of_list (of_option of_producer) st.producers ++ of_option of_coordinator st.coordinator

abbrev pub of_world : World → List ℕ
of_world w = w.set.config.shards ∷ w.behaviour ∷ w.version ∷ length w.wire ∷ w.past ∷ of_bool w.full ∷ of_list of_incarnation w.members ++ of_list of_number w.ups ++ of_list of_number w.fresh
    ++ of_list (λ (l : List Fact). length l ∷ []) w.lists.shards ++ length w.lists.coordinator ∷ of_list (λ (l : List Fact). length l ∷ []) w.lists.queues
    ++ of_list of_number w.ordered ++ of_list (of_option of_node) w.nodes

abbrev pub is_agreed : World → Known → Bool
is_agreed w k = is_name (of_world w) (of_world k.world)

-- after each order the world and what is known of its facts are the same
abbrev pub agree_from : List Line → World → Known → Bool
agree_from [] w k = is_agreed w k
agree_from (l ∷ ls) w k = let m : Made = play_line l w in is_agreed w k && agree_from ls m.world (fold know k m.facts)

abbrev pub agree : Script → Bool
agree c = let w : World = new_world c wire_limit in agree_from c.orders w (nothing_known c.orders w)
