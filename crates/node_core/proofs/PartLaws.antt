-- A store that leaves the entities, and what the node owes the leases for it.
use Rattle.std.proofs.Common.{◌≡◌, ◌≢◌, ℕ, zero, suc, ◌+◌, ◌-◌, ◌*◌, ◌≤◌, List, [], ◌∷◌, length, sym, ap, subst, ◌∙◌, refl, true, arith}
use Rattle.std.specs.Prelude.{slice_index_or, slice_set, Option, Some, None, is_some, IfSome}
use Rattle.std.specs.Option.{option_map}
use Rattle.std.proofs.lemmas.List.{length-set}
use Rattle.yard_model.specs.declared.event.Kind.{Kind}
use Rattle.yard_model.specs.declared.fact.Fact.{Fact}
use Rattle.yard_model.specs.declared.incarnation.Slot.{Slot}
use Rattle.yard_model.specs.declared.incarnation.Slot.TheVariants as slot
use Rattle.yard_model.specs.Entities.{Entities, Hosted, hosted, entries_in}
use Rattle.yard_model.specs.Genuine.{is_node, is_producer, is_slot_of}
use Rattle.yard_model.specs.Move.{Move}
use Rattle.yard_model.specs.Node.{Node, producer_by}
use Rattle.yard_model.specs.Producer.{Producer}
use Rattle.yard_model.specs.Region.{Region}
use Rattle.yard_model.specs.Script.{Script, IsScript, setting}
use Rattle.yard_model.specs.SlotReads.{holder}
use Rattle.yard_model.specs.Words.{at}
use Rattle.plain_laws.proofs.Booleans.{true_is_not_false}
use Rattle.plain_laws.proofs.Lists.{placed_beside}
use Rattle.actor_laws.specs.Hands.{held_list}
use Rattle.region_actor.specs.Made.{Made}
use Rattle.coordinator_actor.specs.Held.{Held}
use Rattle.shard_entities.specs.Lodged.{Lodged, IsStore, moved, without}
use Rattle.shard_entities.specs.Roomy.{room_wanted}
use Rattle.shard_store.specs.Shelf.{Shelf}
use Rattle.shard_lease.specs.Meaning.{Meaning, Serves}
use Rattle.producer_ctl.specs.Producing.{Producing, Routing, held, moved_by, producing_after, routing}
use Rattle.node_core.specs.Leased.{Rests, IsHandOf, MayGiveBack}
use Rattle.node_core.specs.Standing.{AreParts, IsReady, IsSameOffice, node_of, standing_of, spare_in, places_in}
use Rattle.node_core.proofs.LetGoLaws.{Frees}
use Rattle.room_laws.proofs.Limits.{few_pairs}
use Rattle.node_core.proofs.StepLaws.{moved_of, moved_who, moved_set, moved_version}

-- the leases serve the node at each slot but a queue, and at a queue that it is admitted to
pub serves_at : (c : Script) (m : Meaning) (st : Node) (s : Slot) → is_node c st.who ≡ true → is_slot_of c s ≡ true → m.admits st.who.node s ≡ true → Rests m c st → Serves m st.who s
serves_at c m st s who here admitted rests = record {
  who_is = rests.serves_is;
  node_is = subst (λ d. is_node d st.who ≡ true) (sym rests.script_is) who;
  number_is = rests.number_is;
  slot_is = subst (λ d. is_slot_of d s ≡ true) (sym rests.script_is) here;
  admitted = admitted;
}

-- A store of the entities is that of a hosted shard.

pub record IsOfHosted (st : Entities) (s : ℕ) (entries : List Fact) : Type 0 where
  pub host : Hosted
  pub hosted_is : hosted st s ≡ Some host
  pub entries_are : host.entries ≡ entries

pub store_hosted : (v : Lodged) (s : ℕ) (x : Shelf) → IsStore v s x → IsOfHosted v.state s x.entries
store_hosted v s x is = by (hosted v.state s) refl
  where
    by : (o : Option Hosted) → hosted v.state s ≡ o → IsOfHosted v.state s x.entries
    by None e = absurd (true_is_not_false (sym (ap is_some (sym (ap holder (is.entries_are ∙ ap entries_in e)) ∙ is.leased))))
    by (Some h) e = record { host = h; hosted_is = e; entries_are = sym (is.entries_are ∙ ap entries_in e) }

pub held_is : (st : Node) (s : ℕ) (entries : List Fact) → IsOfHosted st.entities s entries → held_list (slot.Shard s) st ≡ Some entries
held_is st s entries h = ap (option_map (λ (x : Hosted). x.entries)) h.hosted_is ∙ ap (λ l. Some l) h.entries_are

pub holds_it : (c : Script) (m : Meaning) (st : Node) (s : Slot) (entries : List Fact) → is_slot_of c s ≡ true → held_list s st ≡ Some entries → Rests m c st → m.holds st.who.node s ≡ true
holds_it c m st s entries here held rests = rests.held_is s here ∙ ap is_some held

pub hand_of : (c : Script) (m : Meaning) (st : Node) (s : Slot) (entries : List Fact) → is_slot_of c s ≡ true → held_list s st ≡ Some entries → Rests m c st → IsHandOf m s entries
hand_of c m st s entries here held rests = subst (λ o. IfSome o (IsHandOf m s)) held (rests.lists_are s here)

pub leased_of : (c : Script) (m : Meaning) (st : Node) (s : Slot) (entries : List Fact) → is_slot_of c s ≡ true → held_list s st ≡ Some entries → Rests m c st → holder entries ≡ Some st.who
leased_of c m st s entries here held rests = subst (λ o. IfSome o (λ l. holder l ≡ Some st.who)) held (rests.leased_are s here)

-- A shard that is taken out.

pub none_there : {A : Type 0} (xs : List (Option A)) (i : ℕ) → at (slice_set xs i None) i ≡ None
none_there [] i = refl
none_there (x ∷ xs) zero = refl
none_there (x ∷ xs) (suc i) = none_there xs i

pub without_frees : (c : Script) (r : Region) (e : Lodged) (ps : Producing) (k : Option Held) (s : ℕ) → Frees c (slot.Shard s) (node_of c r e ps k) (node_of c r (without e s) ps k)
without_frees c r e ps k s = record {
  who_is = refl;
  held_is = ap (option_map (λ (x : Hosted). x.entries)) (none_there e.state.hosted s);
  else_is = others;
}
  where
    others : (t : Slot) → is_slot_of c t ≡ true → t ≢ slot.Shard s → held_list t (node_of c r (without e s) ps k) ≡ held_list t (node_of c r e ps k)
    others (slot.Shard t) valid other = ap (option_map (λ (x : Hosted). x.entries)) (placed_beside e.state.hosted s t None (λ same. other (ap (λ n. slot.Shard n) same)))
    others slot.Coordinator valid other = refl
    others (slot.Queue p) valid other = refl

-- The parts after moves of the entities.

pub parts_moved : {c : Script} {kind : Kind} {version : ℕ} {region : Made} {e now : Lodged} {queues : Producing} {office : Option Held} (ms : List Move) → now ≡ moved e ms → AreParts c kind version region e queues office → AreParts c kind version region now queues office
parts_moved {e = e} ms goes parts = record {
  script_is = parts.script_is;
  kind_is = parts.kind_is;
  who_is = parts.who_is;
  region_script = parts.region_script;
  region_set = parts.region_set;
  entities_script = ap (λ (v : Lodged). v.script) goes ∙ (moved_of e ms ∙ parts.entities_script);
  entities_who = ap (λ (v : Lodged). v.state.who) goes ∙ (moved_who e ms ∙ parts.entities_who);
  entities_set = ap (λ (v : Lodged). v.state.set) goes ∙ (moved_set e ms ∙ parts.entities_set);
  entities_version = parts.entities_version ∙ sym (ap (λ (v : Lodged). v.state.version) goes ∙ moved_version e ms);
  queues_script = parts.queues_script;
  queues_who = parts.queues_who;
  queues_there = parts.queues_there;
  coordinator = parts.coordinator;
}

-- What is given back of a hosted shard.

pub may_give_back : (c : Script) (m : Meaning) (st : Node) (s : ℕ) (x : Shelf) → is_node c st.who ≡ true → is_slot_of c (slot.Shard s) ≡ true → x.script ≡ c → x.shard ≡ s → holder x.entries ≡ Some st.who → 101 ≤ x.spare
    → Rests m c st → m.holds st.who.node (slot.Shard s) ≡ true → IsHandOf m (slot.Shard s) x.entries → MayGiveBack m st.who s x
may_give_back c m st s x who here script shard leased room rests holds hand = record {
  serves = serves_at c m st (slot.Shard s) who here (rests.admits_is (slot.Shard s) here tt) rests;
  holds = holds;
  script_is = script ∙ sym rests.script_is;
  shard_is = shard;
  leased = leased;
  hand = hand;
  room = room;
}

-- the room of a hosted shard's store
pub store_room : (v : Lodged) (s n : ℕ) (x : Shelf) → IsStore v s x → ((hosted v.state s ≡ None → ⊥) → n ≤ slice_index_or v.rooms s 0) → n ≤ x.spare
store_room v s n x is room = subst (λ z. n ≤ z) (sym is.room_is) (room (λ none. true_is_not_false (sym (ap is_some (sym none ∙ (store_hosted v s x is).hosted_is)))))

-- The parts after moves of a producer.

moved_parts : (p : ℕ) (ps : Producing) (ms : List Move) → ((moved_by p ps ms).script ≡ ps.script) × ((moved_by p ps ms).who ≡ ps.who) × (length (moved_by p ps ms).producers ≡ length ps.producers)
moved_parts p ps [] = (refl, refl, refl)
moved_parts p ps (m ∷ ms) =
    let rest = moved_parts p (producing_after p ps m) ms in
    (rest.0, rest.1, rest.2 ∙ length-set ps.producers (p - 1) (producer_by (setting ps.script) ps.who p (at ps.producers (p - 1)) m))

pub parts_produced : {c : Script} {kind : Kind} {version : ℕ} {region : Made} {e : Lodged} {queues now : Producing} {office : Option Held} (p : ℕ) (ms : List Move) (r : Routing) → now ≡ routing r (moved_by p queues ms)
    → AreParts c kind version region e queues office → AreParts c kind version region e now office
parts_produced {queues = queues} p ms r goes parts =
    let same = moved_parts p queues ms in
    record {
      script_is = parts.script_is;
      kind_is = parts.kind_is;
      who_is = parts.who_is;
      region_script = parts.region_script;
      region_set = parts.region_set;
      entities_script = parts.entities_script;
      entities_who = parts.entities_who;
      entities_set = parts.entities_set;
      entities_version = parts.entities_version;
      queues_script = ap (λ (v : Producing). v.script) goes ∙ (same.0 ∙ parts.queues_script);
      queues_who = ap (λ (v : Producing). v.who) goes ∙ (same.1 ∙ parts.queues_who);
      queues_there = ap (λ (v : Producing). length v.producers) goes ∙ (same.2 ∙ parts.queues_there);
      coordinator = parts.coordinator;
    }

-- The parts with more room.

pub parts_reserved : {c : Script} {kind : Kind} {version : ℕ} {region : Made} {e later : Lodged} {queues more : Producing} {office now : Option Held} → later ≡ record e { rooms = later.rooms } → more ≡ record queues { rooms = more.rooms } → IsSameOffice office now
    → AreParts c kind version region e queues office → AreParts c kind version region later more now
parts_reserved {c = c} {region = region} {e = e} {later = later} goes more same parts = record {
  script_is = parts.script_is;
  kind_is = parts.kind_is;
  who_is = parts.who_is;
  region_script = parts.region_script;
  region_set = parts.region_set;
  entities_script = ap (λ (v : Lodged). v.script) goes ∙ parts.entities_script;
  entities_who = ap (λ (v : Lodged). v.state.who) goes ∙ parts.entities_who;
  entities_set = ap (λ (v : Lodged). v.state.set) goes ∙ parts.entities_set;
  entities_version = parts.entities_version ∙ sym (ap (λ (v : Lodged). v.state.version) goes);
  queues_script = ap (λ (v : Producing). v.script) more ∙ parts.queues_script;
  queues_who = ap (λ (v : Producing). v.who) more ∙ parts.queues_who;
  queues_there = ap (λ (v : Producing). length v.producers) more ∙ parts.queues_there;
  coordinator = same.stays_of c region.state.who parts.coordinator;
}

office_ready : (k : Option Held) → IfSome k (λ x. (300 ≤ x.spare) × (1 ≤ x.places)) → IfSome (option_map (λ (x : Held). x.state) k) (λ x. 300 ≤ spare_in k) × IfSome (option_map (λ (x : Held). x.state) k) (λ x. 1 ≤ places_in k)
office_ready None h = (tt, tt)
office_ready (Some x) h = h

pub parts_ready : {c : Script} {r : Region} (e later : Lodged) (queues more : Producing) (now : Option Held) (buffer spare : ℕ) → IsScript c → buffer ≡ c.config.buffer → later ≡ record e { rooms = later.rooms } → more ≡ record queues { rooms = more.rooms } → e.script ≡ c → queues.script ≡ c
    → 28000 + 5 * buffer ≤ spare → ((s : ℕ) → (hosted e.state s ≡ None → ⊥) → room_wanted e.script s ≤ slice_index_or later.rooms s 0)
    → ((p : ℕ) → is_producer queues.script p ≡ true → (held p queues ≡ None → ⊥) → 300 ≤ slice_index_or more.rooms (p - 1) 0) → IfSome now (λ x. (300 ≤ x.spare) × (1 ≤ x.places)) → IsReady (standing_of c r later more now) spare
parts_ready {c} {r} e later queues more now buffer spare script same goes wider its theirs room shards queued office = record {
  room = let few = few_pairs c script in omega (arith, few, room, same);
  rooms = λ s there. subst (λ (d : Script). room_wanted d s ≤ slice_index_or later.rooms s 0) its (shards s (λ none. there (ap (λ (v : Lodged). hosted v.state s) goes ∙ none)));
  queues = λ p valid there. queued p (subst (λ (d : Script). is_producer d p ≡ true) (sym theirs) valid) (λ none. there (ap (λ (v : Producing). at v.producers (p - 1)) wider ∙ none));
  entries = (office_ready now office).0;
  places = (office_ready now office).1;
}
