-- What a write asks of the store of the shard at a place, which is hosted: it is what the state says there.
use Rattle.std.proofs.Common.{◌≡◌, ℕ, ◌<◌, List, [], sym, ap, subst, ◌∙◌, refl, true}
use Rattle.std.specs.Prelude.{Option, None, Some, is_some, slice_index_or}
use Rattle.yard_model.specs.declared.charter.Config.{Config}
use Rattle.yard_model.specs.declared.fact.Fact.{Fact}
use Rattle.yard_model.specs.declared.incarnation.Incarnation.{Incarnation}
use Rattle.yard_model.specs.declared.incarnation.Slot.TheVariants as slot
use Rattle.yard_model.specs.Entities.{hosted, entries, entries_in}
use Rattle.yard_model.specs.Lawful.{is_held, may_follow}
use Rattle.yard_model.specs.Script.{Script, Setting, setting}
use Rattle.yard_model.specs.Setting.{shard_of, names_of}
use Rattle.shard_store.specs.Shelf.{Shelf, may}
use Rattle.shard_store.specs.Shelved.{IsThere, IsNamed}
use Rattle.entity_cells.specs.Celled.{Celled}
use Rattle.shard_entities.specs.Placed.{IsPlace}
use Rattle.shard_entities.specs.Written.{WithStore}
use Rattle.shard_entities.specs.declared.place.Place.{Place}
use Rattle.shard_entities.specs.declared.hosting.Hosting.{Hosting}
use Rattle.shard_entities.specs.Lodged.{Lodged, lodged, IsLodged, IsStore, HasRoom}
use Rattle.shard_entities.proofs.TakenLaws.{none_at, store_at}

-- what holds of each store that is the one of the state
with_store : {c : Script} {version : ℕ} {who : Incarnation} {config : Config} {places : Script} {cells : List Celled} {items : List (Option Hosting)} {running : ℕ} {v : Lodged} {p : Place} {i : ℕ} {o : Option Hosting} (P : Shelf → Type 0)
    → IsLodged c version who config places cells items running → lodged c version who items cells ≡ v → IsPlace v.script p → i ≡ p.shard → o ≡ slice_index_or items i o → (hosted v.state p.shard ≡ None → ⊥) → ((s : Shelf) → IsStore v p.shard s → P s) → WithStore o P
with_store {c} {version} {who} {config} {places} {cells} {items} {running} {v} {p} {i} {o} P t seen is same read there f = by o refl
  where
    by : (a : Option Hosting) → o ≡ a → WithStore a P
    by None none = absurd (there (none_at t seen is.shard_in same read none))
    by (Some h) some = f h.store (store_at h t seen is.shard_in same read some)

-- the name is at its place
pub store_place : {c : Script} {version : ℕ} {who : Incarnation} {config : Config} {places : Script} {cells : List Celled} {items : List (Option Hosting)} {running : ℕ} {v : Lodged} {p : Place} {i : ℕ} {o : Option Hosting}
    → IsLodged c version who config places cells items running → lodged c version who items cells ≡ v → IsPlace v.script p → i ≡ p.shard → o ≡ slice_index_or items i o → (hosted v.state p.shard ≡ None → ⊥) → WithStore o (λ (s : Shelf). IsThere s p.inner p.entity)
store_place {c} {version} {who} {config} {places} {cells} {items} {running} {v} {p} {i} {o} t seen is same read there = with_store (λ (s : Shelf). IsThere s p.inner p.entity) t seen is same read there (λ s k.
    subst (λ (x : Script). IsNamed (names_of (setting x) s.shard) p.inner p.entity) (sym k.script_is) (subst (λ n. IsNamed (names_of (setting v.script) n) p.inner p.entity) (sym k.shard_is) is.there))

-- there is room
pub store_room : {c : Script} {version : ℕ} {who : Incarnation} {config : Config} {places : Script} {cells : List Celled} {items : List (Option Hosting)} {running : ℕ} {v : Lodged} {p : Place} {i : ℕ} {o : Option Hosting}
    → IsLodged c version who config places cells items running → lodged c version who items cells ≡ v → IsPlace v.script p → i ≡ p.shard → o ≡ slice_index_or items i o → (hosted v.state p.shard ≡ None → ⊥) → HasRoom v p.shard 0 → WithStore o (λ (s : Shelf). 0 < s.spare)
store_room {c} {version} {who} {config} {places} {cells} {items} {running} {v} {p} {i} {o} t seen is same read there room = with_store (λ (s : Shelf). 0 < s.spare) t seen is same read there (λ s k. subst (λ n. 0 < n) (sym k.room_is) room.room)

-- it is leased
pub store_held : {c : Script} {version : ℕ} {who : Incarnation} {config : Config} {places : Script} {cells : List Celled} {items : List (Option Hosting)} {running : ℕ} {v : Lodged} {p : Place} {i : ℕ} {o : Option Hosting}
    → IsLodged c version who config places cells items running → lodged c version who items cells ≡ v → IsPlace v.script p → i ≡ p.shard → o ≡ slice_index_or items i o → (hosted v.state p.shard ≡ None → ⊥) → WithStore o (λ (s : Shelf). is_held s.entries ≡ true)
store_held {c} {version} {who} {config} {places} {cells} {items} {running} {v} {p} {i} {o} t seen is same read there = with_store (λ (s : Shelf). is_held s.entries ≡ true) t seen is same read there (λ s k. ap is_some k.leased)

-- what holds of the entries of the name's shard
pub store_reads : {c : Script} {version : ℕ} {who : Incarnation} {config : Config} {places : Script} {cells : List Celled} {items : List (Option Hosting)} {running : ℕ} {v : Lodged} {p : Place} {i : ℕ} {o : Option Hosting} (P : List Fact → Type 0)
    → IsLodged c version who config places cells items running → lodged c version who items cells ≡ v → IsPlace v.script p → i ≡ p.shard → o ≡ slice_index_or items i o → (hosted v.state p.shard ≡ None → ⊥) → P (entries v.state p.entity) → WithStore o (λ (s : Shelf). P s.entries)
store_reads {c} {version} {who} {config} {places} {cells} {items} {running} {v} {p} {i} {o} P t seen is same read there holds = with_store (λ (s : Shelf). P s.entries) t seen is same read there (λ s k.
    subst P (ap (λ n. entries_in (hosted v.state n)) shard_is ∙ sym k.entries_are) holds)
  where
    shard_is : shard_of v.state.set p.entity ≡ p.shard
    shard_is = ap (λ (x : Setting). shard_of x p.entity) (subst (λ (x : Lodged). x.state.set ≡ setting x.script) seen refl) ∙ sym is.shard_is

-- this entry may come next
pub store_may : {c : Script} {version : ℕ} {who : Incarnation} {config : Config} {places : Script} {cells : List Celled} {items : List (Option Hosting)} {running : ℕ} {v : Lodged} {p : Place} {i : ℕ} {o : Option Hosting} (f : Fact)
    → IsLodged c version who config places cells items running → lodged c version who items cells ≡ v → IsPlace v.script p → i ≡ p.shard → o ≡ slice_index_or items i o → (hosted v.state p.shard ≡ None → ⊥) → may_follow v.script (slot.Shard p.shard) (entries v.state p.entity) f ≡ true → WithStore o (λ (s : Shelf). may s f ≡ true)
store_may {c} {version} {who} {config} {places} {cells} {items} {running} {v} {p} {i} {o} f t seen is same read there holds = with_store (λ (s : Shelf). may s f ≡ true) t seen is same read there (λ s k.
    subst (λ (x : Script). may_follow x (slot.Shard s.shard) s.entries f ≡ true) (sym k.script_is)
    (subst (λ n. may_follow v.script (slot.Shard n) s.entries f ≡ true) (sym k.shard_is)
    (subst (λ l. may_follow v.script (slot.Shard p.shard) l f ≡ true) (ap (λ n. entries_in (hosted v.state n)) shard_is ∙ sym k.entries_are) holds)))
  where
    shard_is : shard_of v.state.set p.entity ≡ p.shard
    shard_is = ap (λ (x : Setting). shard_of x p.entity) (subst (λ (x : Lodged). x.state.set ≡ setting x.script) seen refl) ∙ sym is.shard_is

-- what is read at a place: the entries are those of its entity
shard_here : (items : List (Option Hosting)) (cells : List Celled) {c : Script} {version : ℕ} {who : Incarnation} {v : Lodged} {p : Place} → lodged c version who items cells ≡ v → IsPlace v.script p → shard_of v.state.set p.entity ≡ p.shard
shard_here items cells {c} {version} {who} {v} {p} seen is = ap (λ (x : Setting). shard_of x p.entity) (subst (λ (x : Lodged). x.state.set ≡ setting x.script) seen refl) ∙ sym is.shard_is

pub own_entries : {c : Script} {version : ℕ} {who : Incarnation} {config : Config} {places : Script} {cells : List Celled} {items : List (Option Hosting)} {running : ℕ} {v : Lodged} {p : Place} {i : ℕ} {o : Option Hosting} (h : Hosting)
    → IsLodged c version who config places cells items running → lodged c version who items cells ≡ v → IsPlace v.script p → i ≡ p.shard → o ≡ slice_index_or items i o → o ≡ Some h → h.store.entries ≡ entries v.state p.entity
own_entries {c} {version} {who} {config} {places} {cells} {items} {running} {v} {p} {i} {o} h t seen is same read some = (store_at h t seen is.shard_in same read some).entries_are ∙ sym (ap (λ n. entries_in (hosted v.state n)) (shard_here items cells seen is))

pub none_here : {c : Script} {version : ℕ} {who : Incarnation} {config : Config} {places : Script} {cells : List Celled} {items : List (Option Hosting)} {running : ℕ} {v : Lodged} {p : Place} {i : ℕ} {o : Option Hosting}
    → IsLodged c version who config places cells items running → lodged c version who items cells ≡ v → IsPlace v.script p → i ≡ p.shard → o ≡ slice_index_or items i o → o ≡ None → entries v.state p.entity ≡ []
none_here {c} {version} {who} {config} {places} {cells} {items} {running} {v} {p} {i} {o} t seen is same read none = ap entries_in (ap (hosted v.state) (shard_here items cells seen is) ∙ none_at t seen is.shard_in same read none)

pub own_place : {c : Script} {version : ℕ} {who : Incarnation} {config : Config} {places : Script} {cells : List Celled} {items : List (Option Hosting)} {running : ℕ} {v : Lodged} {p : Place} {i : ℕ} {o : Option Hosting} (h : Hosting)
    → IsLodged c version who config places cells items running → lodged c version who items cells ≡ v → IsPlace v.script p → i ≡ p.shard → o ≡ slice_index_or items i o → o ≡ Some h → IsThere h.store p.inner p.entity
own_place {c} {version} {who} {config} {places} {cells} {items} {running} {v} {p} {i} {o} h t seen is same read some =
    let k : IsStore v p.shard h.store = store_at h t seen is.shard_in same read some in
    subst (λ (x : Script). IsNamed (names_of (setting x) h.store.shard) p.inner p.entity) (sym k.script_is) (subst (λ n. IsNamed (names_of (setting v.script) n) p.inner p.entity) (sym k.shard_is) is.there)
