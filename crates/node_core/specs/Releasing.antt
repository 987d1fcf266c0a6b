-- The messages that were kept of a shard, routed one after another.
use Rattle.std.specs.Prelude.{◌≡◌, ◌≢◌, ℕ, ◌+◌, ◌*◌, ◌≤◌, true, List, [], ◌∷◌, ◌++◌, length, drop, None, slice_index_or, sum_by, IsTrue}
use Rattle.yard_model.specs.declared.input.Phase.TheVariants as phase
use Rattle.yard_model.specs.declared.out.Item.{Item}
use Rattle.yard_model.specs.declared.packet.Message.{Message}
use Rattle.yard_model.specs.Entities.{hosted, is_in_phase}
use Rattle.yard_model.specs.Genuine.{is_brought, is_genuine}
use Rattle.yard_model.specs.Move.{released}
use Rattle.yard_model.specs.Node.{Act, Rule, by_region, after, route, is_running}
use Rattle.yard_model.specs.Region.{kept_of, is_routable}
use Rattle.yard_model.specs.Setting.{shard_of}
use Rattle.yard_model.specs.Spared.{Spared}
use Rattle.yard_model.specs.Turns.{in_turn, for_each}
use Rattle.node_core.specs.Standing.{Standing}
use Rattle.node_core.specs.Went.{Went}

-- the oldest message that is kept of a shard is taken out and routed
abbrev pub release_first : ℕ → List Message → Rule
release_first s [] st = []
release_first s (m ∷ ms) st = in_turn after (λ st. by_region (released s) ∷ []) (route m) st

abbrev pub release_one : ℕ → Rule
release_one s st = release_first s (kept_of st.region.kept s) st

-- so each of these
abbrev pub release_each : ℕ → List Message → Rule
release_each s ms = for_each after (λ m. in_turn after (λ st. by_region (released s) ∷ []) (route m)) ms

-- a step took at most n of the room of a shard
abbrev pub TookRoom : ℕ → ℕ → Standing → Standing → Type 0
TookRoom s n old new = slice_index_or old.rooms s 0 ≤ slice_index_or new.rooms s 0 + n

-- where the shard is hosted there is room for two entries, and for n where an entity of it takes commands
pub record HasReleaseRoom (n : ℕ) (v : Standing) (s : ℕ) : Type 0 where
  pub some : (hosted v.state.entities s ≡ None → ⊥) → 2 ≤ slice_index_or v.rooms s 0
  pub active : (e : List ℕ) → is_brought v.script e ≡ true → shard_of v.state.set e ≡ s → is_in_phase phase.Active v.state.entities e ≡ true → n ≤ slice_index_or v.rooms s 0

-- after k messages of a shard: what room there is in it is for k less, and in every other for as many as before
pub record LeavesRoom (s k : ℕ) (old new : Standing) : Type 0 where
  pub here : (n : ℕ) → HasReleaseRoom (2 + (n + 2 * k)) old s → HasReleaseRoom (2 + n) new s
  pub others : (t n : ℕ) → t ≢ s → HasReleaseRoom n old t → HasReleaseRoom n new t

-- how many messages a node keeps
abbrev pub kept_all : Standing → ℕ
kept_all v = sum_by length v.state.region.kept

-- the oldest message that is kept of a shard, and that it was taken out
pub record IsNext (s : ℕ) (m : Message) (old new : Standing) : Type 0 where
  pub kept_is : kept_of old.state.region.kept s ≡ m ∷ drop 1 (kept_of old.state.region.kept s)
  pub goes : new ≡ record old { state = after old.state (by_region (released s)) }
  pub genuine : IsTrue (is_genuine old.script m)
  pub shard_is : shard_of old.state.set m.entity ≡ s

-- after one of them: the others are kept, they can be routed still, and there is room for them
pub record IsOneLess (s : ℕ) (old new : Standing) : Type 0 where
  pub kept_is : kept_of new.state.region.kept s ≡ drop 1 (kept_of old.state.region.kept s)
  pub routable : is_routable new.state.region s (is_running new.state s) ≡ true
  pub leaves : LeavesRoom s 1 old new
  pub fewer : kept_all new + 1 ≡ kept_all old

-- between them, after i: what is kept is still to be routed
pub record Releasing (s i : ℕ) (old now : Standing) (before late : Spared Item) : Type 0 where
  pub acts : List Act
  pub went : Went old now before late acts
  pub rest : acts ++ release_each s (kept_of now.state.region.kept s) now.state ≡ release_each s (kept_of old.state.region.kept s) old.state
  pub count : length (kept_of now.state.region.kept s) + i ≡ length (kept_of old.state.region.kept s)
  pub routable : is_routable now.state.region s (is_running now.state s) ≡ true
  pub rooms : HasReleaseRoom (2 + 2 * length (kept_of now.state.region.kept s)) now s
  pub room : 4 * length (kept_of now.state.region.kept s) ≤ late.spare
  pub leaves : LeavesRoom s i old now
  pub spent : before.spare + 4 * kept_all now ≤ late.spare + 4 * kept_all old
