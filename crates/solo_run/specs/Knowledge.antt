-- What the engine of `solo` keeps of all entities, and what it stands for.
use Rattle.std.specs.Prelude.{◌≡◌, ℕ, ◌<◌, ◌≤◌, List, [], length, slice_index_or, cond, Option, Some, None, IsTrue}
use Rattle.std.specs.List.{list_all}
use Rattle.std.specs.Ordering.{nat_cmp}
use Rattle.std.specs.Cmp.Lexicographic.{slice_cmp}
use Rattle.std.specs.BTreeMap.{get}
use Rattle.yard_model.specs.declared.event.Kind.{Kind}
use Rattle.yard_model.specs.declared.fact.Fact.{Fact}
use Rattle.yard_model.specs.declared.packet.Message.{Message}
use Rattle.yard_model.specs.declared.packet.Record.{Record}
use Rattle.yard_model.specs.declared.charter.Config.{Config}
use Rattle.yard_model.specs.Behaviour.{folded, is_of_kind}
use Rattle.yard_model.specs.Shard.{shard}
use Rattle.yard_model.specs.SlotReads.{journal, position}
use Rattle.yard_model.specs.Script.{is_name}
use Rattle.yard_model.specs.Solo.{count_of_pair}
use Rattle.solo_run.specs.declared.entities.Entities.{Entities}
use Rattle.solo_run.specs.Known.{Known, unknown, sent_at}

-- what is known of the entity at a place, if there is one
abbrev pub known_in : Kind → List Known → Option ℕ → Known
known_in kind kept None = unknown kind
known_in kind kept (Some i) = slice_index_or kept i (unknown kind)

-- what is known of e
abbrev pub known_at : Kind → Entities → List ℕ → Known
known_at kind es e = known_in kind es.kept.items (get (slice_cmp nat_cmp) es.places e)

-- each name has a place of its own, and the one at hand is its name's
pub record AreKept (es : Entities) : Type 0 where
  pub within : (e : List ℕ) (i : ℕ) → get (slice_cmp nat_cmp) es.places e ≡ Some i → i < length es.kept.items
  pub apart : (e f : List ℕ) (i : ℕ) → get (slice_cmp nat_cmp) es.places e ≡ Some i → get (slice_cmp nat_cmp) es.places f ≡ Some i → e ≡ f
  pub last : (e : List ℕ) (i : ℕ) → es.last ≡ Some (e, i) → get (slice_cmp nat_cmp) es.places e ≡ Some i

-- of all entities the same is known, but of e now this
pub record AreChanged (kind : Kind) (old new : Entities) (e : List ℕ) (now : Known) : Type 0 where
  pub each : (q : List ℕ) → known_at kind new q ≡ cond (is_name e q) now (known_at kind old q)
  pub kept : AreKept new

-- what is known of e is what was posted to it and what is recorded of it
pub record Knows (kind : Kind) (e : List ℕ) (posted : List Message) (records : List Record) (k : Known) : Type 0 where
  pub kind_is : k.kind ≡ kind
  pub sent_is : (p : ℕ) → 0 < p → p ≤ 32 → sent_at k.sent p ≡ count_of_pair p e posted
  pub places : length k.taken ≡ 32
  pub taken_is : (p : ℕ) → 0 < p → p ≤ 32 → sent_at k.taken p ≡ position p records
  pub count_is : k.count ≡ length records
  pub state_is : k.state ≡ folded kind records

-- of each entity
pub record KnowsAll (config : Config) (posted : List Message) (lists : List (List Fact)) (entities : Entities) : Type 0 where
  pub each : (e : List ℕ) → Knows config.kind e posted (journal e (slice_index_or lists (shard config.shards e) [])) (known_at config.kind entities e)
  pub kept : AreKept entities
  pub wide : length lists ≡ config.shards
  pub some : 1 ≤ config.shards
  pub most : config.shards ≤ 128
  pub commands : IsTrue (list_all (λ (m : Message). is_of_kind config.kind m.command) posted)
