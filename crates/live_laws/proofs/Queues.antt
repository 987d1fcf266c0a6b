-- What a turn does to a queue that the node has in hand.
use Rattle.std.proofs.Common.{◌≡◌, ◌≢◌, ◌<◌, ◌≤◌, ℕ, zero, suc, ◌+◌, ◌-◌, ◌⊎◌, inl, inr, sym, ap, ◌∙◌, refl, subst, arith}
use Rattle.std.specs.Prelude.{Bool, true, false, ◌==◌, ◌&&◌, not, nat_lt, nat_le, List, [], ◌∷◌, ◌++◌, length, map, fold, is_none, Option, Some, None, slice_index_or, slice_set, if◌then◌else◌}
use Rattle.std.specs.List.{list_all, slice_get}
use Rattle.std.proofs.lemmas.List.{get_or-set_same, get_or-set_other, length-set}
use Rattle.std.proofs.lemmas.List.Sums.{fold-append}
use Rattle.plain_laws.proofs.Booleans.{and_both, both, at_most, same_number, number_itself, true_is_not_false}
use Rattle.yard_model.specs.declared.charter.Sending.{Sending}
use Rattle.yard_model.specs.declared.fact.Fact.{Fact}
use Rattle.yard_model.specs.declared.fact.Fact.TheVariants as fact
use Rattle.yard_model.specs.declared.incarnation.Incarnation.{Incarnation}
use Rattle.yard_model.specs.declared.incarnation.Slot.TheVariants as slot
use Rattle.yard_model.specs.declared.input.Input.TheVariants as input
use Rattle.yard_model.specs.declared.out.Item.TheVariants as item
use Rattle.yard_model.specs.declared.packet.Body.{Body}
use Rattle.yard_model.specs.declared.packet.Body.TheVariants as body
use Rattle.yard_model.specs.declared.packet.Message.{Message}
use Rattle.yard_model.specs.Coordinator as coordinator
use Rattle.yard_model.specs.Coordinator.{Coordinator}
use Rattle.yard_model.specs.Entities as entities
use Rattle.yard_model.specs.Genuine.{is_producer}
use Rattle.yard_model.specs.Move.{Move, made, took, released, demanded, pushed, told, post}
use Rattle.yard_model.specs.Node.{Node, Act, Rule, by_region, by_entities, by_producer, by_coordinator, producer_by, after, route, release, start, lead, route_numbers, push, send_by, send, produce, acquire, acquire_by, tick, start_again, send_again, packet, turn, all_in_turn, of_region, of_entities, of_producer, of_coordinator}
use Rattle.yard_model.specs.Producer as producer
use Rattle.yard_model.specs.Producer.{Producer, producer_after, queue_step}
use Rattle.yard_model.specs.Region as region
use Rattle.yard_model.specs.Script.{Script, Setting, sends}
use Rattle.yard_model.specs.Setting.{shards, producers, shard_of}
use Rattle.yard_model.specs.SlotLists.{SlotLists, shard_list, queue_list}
use Rattle.yard_model.specs.SlotReads.{epoch, confirmed, queued_in_all, queued_in_all_step}
use Rattle.yard_model.specs.Turns.{in_turn, for_each, where_some}
use Rattle.yard_model.specs.Words.{at, is_at}
use Rattle.shard_lease.specs.Meaning.{Begins}
use Rattle.yard_model.specs.World.{all_sends}
use Rattle.yard_model.specs.Words.{numbers}
use Rattle.plain_laws.proofs.Lists.{inside, all_join, all_if, all_some}
use Rattle.lease_table.proofs.Places.{same_or_not, begins_here, begins_on}
use Rattle.live_laws.specs.Live.{HasQueue, TurnKeepsQueue, SendQueues, ProduceTakes}
use Rattle.live_laws.proofs.Steadies.{queued_grows}

-- An act that takes no queue and frees none.

abbrev pub is_keeping : Act → Bool
is_keeping (by_producer p (took s l)) = false
is_keeping (by_producer p (made (item.Fact (fact.Freed s n why)))) = false
is_keeping a = true

abbrev pub Keeps : List Act → Type 0
Keeps acts = list_all is_keeping acts ≡ true

by_keeps : (set : Setting) (who : Incarnation) (p : ℕ) (k : Producer) (m : Move) → is_keeping (by_producer p m) ≡ true → producer_by set who p (Some k) m ≡ Some (producer_after k m)
by_keeps set who p k (took s l) e = cc
by_keeps set who p k (made (item.Fact (fact.Freed s n why))) e = cc
by_keeps set who p k m e = refl

entries_begin : (old : List Fact) (m : Move) → Begins old (queue_step old m)
entries_begin old (made (item.Fact (fact.Queued p e n k))) = record { rest = fact.Queued p e n k ∷ []; is = refl }
entries_begin old (made (item.Fact (fact.Confirmed p e n))) = record { rest = fact.Confirmed p e n ∷ []; is = refl }
entries_begin old m = begins_here old

-- the producer after it
record Goes (st : Node) (a : Act) (p : ℕ) (k : Producer) : Type 0 where
  pub now : Producer
  pub there : at (after st a).producers (p - 1) ≡ Some now
  pub begins : Begins k.entries now.entries

stays_there : (st : Node) (a : Act) (p : ℕ) (k : Producer) → (after st a).producers ≡ st.producers → at st.producers (p - 1) ≡ Some k → Goes st a p k
stays_there st a p k same here = record { now = k; there = ap (λ l. at l (p - 1)) same ∙ here; begins = begins_here k.entries }

-- a producer's own move
pub own_step : (st : Node) (p : ℕ) (k : Producer) (m : Move) → at st.producers (p - 1) ≡ Some k → is_keeping (by_producer p m) ≡ true → at (after st (by_producer p m)).producers (p - 1) ≡ Some (producer_after k m)
own_step st p k m here e =
    get_or-set_same st.producers (p - 1) (producer_by st.set st.who p (at st.producers (p - 1)) m) None (inside st.producers (p - 1) k here)
    ∙ ap (λ o. producer_by st.set st.who p o m) here ∙ by_keeps st.set st.who p k m e

one_keeps : (st : Node) (a : Act) (p : ℕ) (k : Producer) → at st.producers (p - 1) ≡ Some k → is_keeping a ≡ true → Goes st a p k
one_keeps st (by_region m) p k here e = stays_there st (by_region m) p k refl here
one_keeps st (by_entities m) p k here e = stays_there st (by_entities m) p k refl here
one_keeps st (by_coordinator m) p k here e = stays_there st (by_coordinator m) p k refl here
one_keeps st (by_producer q m) p k here e = by (same_or_not (p - 1) (q - 1))
  where
    new : Option Producer
    new = producer_by st.set st.who q (at st.producers (q - 1)) m

    by : (p - 1 ≡ q - 1) ⊎ (p - 1 ≢ q - 1) → Goes st (by_producer q m) p k
    by (inl same) = record {
      now = producer_after k m;
      there = ap (λ i. at (slice_set st.producers (q - 1) new) i) same
          ∙ get_or-set_same st.producers (q - 1) new None (subst (λ i. i < length st.producers) same (inside st.producers (p - 1) k here))
          ∙ ap (λ o. producer_by st.set st.who q o m) (ap (at st.producers) (sym same) ∙ here) ∙ by_keeps st.set st.who q k m e;
      begins = entries_begin k.entries m;
    }
    by (inr other) = record { now = k; there = get_or-set_other st.producers (q - 1) (p - 1) new None other ∙ here; begins = begins_here k.entries }

pub all_keep : (st : Node) (acts : List Act) (p : ℕ) (k : Producer) → at st.producers (p - 1) ≡ Some k → Keeps acts → HasQueue (fold after st acts) p k.entries (queued_in_all k.entries)
all_keep st [] p k here e = record { producer = k; there = here; begins = begins_here k.entries; count = omega arith }
all_keep st (a ∷ acts) p k here e =
    let t : (is_keeping a ≡ true) × Keeps acts = and_both (is_keeping a) (list_all is_keeping acts) e in
    let g = one_keeps st a p k here t.0 in
    let r = all_keep (after st a) acts p g.now g.there t.1 in
    let b : Begins k.entries r.producer.entries = begins_on k.entries g.now.entries r.producer.entries g.begins r.begins in
    record { producer = r.producer; there = r.there; begins = b; count = queued_grows k.entries r.producer.entries b }

-- Rules whose acts are all so.

keep_region : (ms : List Move) → Keeps (map by_region ms)
keep_region [] = refl
keep_region (m ∷ ms) = keep_region ms

keep_entities : (ms : List Move) → Keeps (map by_entities ms)
keep_entities [] = refl
keep_entities (m ∷ ms) = keep_entities ms

keep_coordinator : (ms : List Move) → Keeps (map by_coordinator ms)
keep_coordinator [] = refl
keep_coordinator (m ∷ ms) = keep_coordinator ms

keep_each : {X : Type 0} (f : X → Rule) (xs : List X) (st : Node) → ((x : X) (st : Node) → Keeps (f x st)) → Keeps (for_each after f xs st)
keep_each f [] st h = refl
keep_each f (x ∷ xs) st h = all_join is_keeping (f x st) (for_each after f xs (fold after st (f x st))) (h x st) (keep_each f xs (fold after st (f x st)) h)

keep_turn : (f g : Rule) (st : Node) → ((st : Node) → Keeps (f st)) → ((st : Node) → Keeps (g st)) → Keeps (in_turn after f g st)
keep_turn f g st h k = all_join is_keeping (f st) (g (fold after st (f st))) (h st) (k (fold after st (f st)))

abbrev AllKeep : List Rule → Type 0
AllKeep [] = Unit {0}
AllKeep (r ∷ rs) = ((st : Node) → Keeps (r st)) × AllKeep rs

keep_all : (rs : List Rule) (st : Node) → AllKeep rs → Keeps (all_in_turn rs st)
keep_all [] st h = refl
keep_all (r ∷ rs) st h = all_join is_keeping (r st) (all_in_turn rs (fold after st (r st))) (h.0 st) (keep_all rs (fold after st (r st)) h.1)

keep_of_coordinator : (f : Coordinator → List Move) (st : Node) → Keeps (of_coordinator f st)
keep_of_coordinator f st = all_some is_keeping (λ k. map by_coordinator (f k)) st.coordinator (λ k. keep_coordinator (f k))

keep_of_producer : (p : ℕ) (f : Producer → List Move) (st : Node) → ((k : Producer) → Keeps (map (by_producer p) (f k))) → Keeps (of_producer p f st)
keep_of_producer p f st h = all_some is_keeping (λ k. map (by_producer p) (f k)) (at st.producers (p - 1)) h

keep_pushed : (p : ℕ) (e : List ℕ) (ns : List ℕ) → Keeps (map (by_producer p) (map (pushed e) ns))
keep_pushed p e [] = refl
keep_pushed p e (n ∷ ns) = keep_pushed p e ns

keep_route : (m : Message) (st : Node) → Keeps (route m st)
keep_route m st =
    let s : ℕ = shard_of st.set m.entity in
    all_if is_keeping (region.is_home st.region s && entities.is_running st.entities s) (of_entities (entities.deliver m) st) (of_region (region.route_away m) st) (keep_entities (entities.deliver m st.entities)) (keep_region (region.route_away m st.region))

abbrev take_one : ℕ → Message → Rule
take_one s m = in_turn after (λ st. by_region (released s) ∷ []) (route m)

keep_release : (s : ℕ) (st : Node) → Keeps (release s st)
keep_release s st = all_if is_keeping (region.is_routable st.region s (entities.is_running st.entities s)) (for_each after (take_one s) (region.kept_of st.region.kept s) st) []
    (keep_each (take_one s) (region.kept_of st.region.kept s) st (λ m u. keep_turn (λ st. by_region (released s) ∷ []) (route m) u (λ w. refl) (keep_route m))) refl

abbrev ask_shard : SlotLists → ℕ → Rule
ask_shard lists s st = map by_entities (acquire (slot.Shard s) st.who (shard_list lists s))

keep_start : (lists : SlotLists) (s : ℕ) (st : Node) → Keeps (start lists s st)
keep_start lists s st = all_if is_keeping (entities.is_hosted st.entities s) [] (in_turn after (ask_shard lists s) (of_entities (entities.start_remembered s)) st) refl
    (keep_turn (ask_shard lists s) (of_entities (entities.start_remembered s)) st (λ u. keep_entities (acquire (slot.Shard s) u.who (shard_list lists s))) (λ u. keep_entities (entities.start_remembered s u.entities)))

abbrev ask_lead : SlotLists → Rule
ask_lead lists st = if is_at st.who (region.oldest st.region) && is_none st.coordinator then map by_coordinator (acquire slot.Coordinator st.who lists.coordinator) else []

abbrev drop_lost : Rule
drop_lost st = of_coordinator (coordinator.terminate_lost st.region.view) st

keep_lead : (lists : SlotLists) (st : Node) → Keeps (lead lists st)
keep_lead lists st = keep_turn (ask_lead lists) drop_lost st
    (λ u. all_if is_keeping (is_at u.who (region.oldest u.region) && is_none u.coordinator) (map by_coordinator (acquire slot.Coordinator u.who lists.coordinator)) [] (keep_coordinator (acquire slot.Coordinator u.who lists.coordinator)) refl)
    (λ u. keep_of_coordinator (coordinator.terminate_lost u.region.view) u)

abbrev routed : ℕ → List ℕ → (Producer → List ℕ) → Node → Producer → List Act
routed p e f st k = for_each after (λ n. route (producer.message_of e k n)) (f k) st

keep_numbers : (p : ℕ) (e : List ℕ) (f : Producer → List ℕ) (st : Node) → Keeps (route_numbers p e f st)
keep_numbers p e f st = all_some is_keeping (routed p e f st) (at st.producers (p - 1)) (λ k. keep_each (λ n. route (producer.message_of e k n)) (f k) st (λ n u. keep_route (producer.message_of e k n) u))

abbrev pushes : ℕ → List ℕ → Node → Producer → List Act
pushes p e st k = all_in_turn (of_producer p (producer.push_marks e) ∷ route_numbers p e (λ j. producer.to_push e k) ∷ []) st

keep_push : (p : ℕ) (e : List ℕ) (st : Node) → Keeps (push p e st)
keep_push p e st = all_some is_keeping (pushes p e st) (at st.producers (p - 1)) (λ k. keep_all (of_producer p (producer.push_marks e) ∷ route_numbers p e (λ j. producer.to_push e k) ∷ []) st
    ((λ u. keep_of_producer p (producer.push_marks e) u (λ k. refl)), (keep_numbers p e (λ j. producer.to_push e k), tt)))

keep_send_by : (p : ℕ) (o : Option Sending) (st : Node) → Keeps (send_by p o st)
keep_send_by p None st = refl
keep_send_by p (Some x) st = keep_all (of_producer p (producer.queue x) ∷ push p x.entity ∷ []) st ((λ u. keep_of_producer p (producer.queue x) u (λ k. refl)), (keep_push p x.entity, tt))

keep_confirm : (p : ℕ) (e : List ℕ) (n : ℕ) (st : Node) → Keeps (of_producer p (producer.confirm e n) st)
keep_confirm p e n st = keep_of_producer p (producer.confirm e n) st (λ k. by k (nat_lt (confirmed e k.entries) n))
  where
    by : (k : Producer) (b : Bool) → Keeps (map (by_producer p) (if b then told (fact.Confirmed k.number e n) ∷ [] else []))
    by k true = refl
    by k false = refl

keep_start_again : (lists : SlotLists) (s : ℕ) (st : Node) → Keeps (start_again lists s st)
keep_start_again lists s st = all_if is_keeping (region.is_home st.region s && not (entities.is_hosted st.entities s)) (all_in_turn (start lists s ∷ release s ∷ []) st) [] (keep_all (start lists s ∷ release s ∷ []) st (keep_start lists s, (keep_release s, tt))) refl

keep_send_again : (p : ℕ) (e : List ℕ) (st : Node) → Keeps (send_again p e st)
keep_send_again p e st = keep_all (of_producer p (λ k. map (pushed e) (producer.to_repeat e k)) ∷ route_numbers p e (producer.to_repeat e) ∷ []) st
    ((λ u. keep_of_producer p (λ k. map (pushed e) (producer.to_repeat e k)) u (λ k. keep_pushed p e (producer.to_repeat e k))), (keep_numbers p e (producer.to_repeat e), tt))

keep_tick : (lists : SlotLists) (st : Node) → Keeps (tick lists st)
keep_tick lists st =
    let names : List (List ℕ) = st.set.names in let all : List ℕ = shards st.set in let ps : List ℕ = producers st.set in
    keep_all (lead lists ∷ of_coordinator coordinator.tick_coordinator ∷ of_region region.tick_region ∷ for_each after (start_again lists) all ∷ of_entities entities.tick_entities ∷ for_each after (λ p. for_each after (send_again p) names) ps ∷ []) st (
      keep_lead lists,
      (
        keep_of_coordinator coordinator.tick_coordinator,
        (
          (λ u. keep_region (region.tick_region u.region)),
          (
            (λ u. keep_each (start_again lists) all u (keep_start_again lists)),
            (
              (λ u. keep_entities (entities.tick_entities u.entities)),
              ((λ u. keep_each (λ p. for_each after (send_again p) names) ps u (λ p w. keep_each (send_again p) names w (keep_send_again p))), tt),
            ),
          ),
        ),
      ),
    )

abbrev start_if_home : SlotLists → ℕ → Rule
start_if_home lists s st = if region.is_home st.region s then start lists s st else []

keep_packet : (lists : SlotLists) (from : Incarnation) (b : Body) (st : Node) → Keeps (packet lists from b st)
keep_packet lists from (body.View v xs) st = all_if is_keeping (nat_le v st.region.version) [] (all_in_turn (of_region (region.take_view v xs) ∷ lead lists ∷ of_region region.register ∷ []) st) refl
    (keep_all (of_region (region.take_view v xs) ∷ lead lists ∷ of_region region.register ∷ []) st ((λ u. keep_region (region.take_view v xs u.region)), (keep_lead lists, ((λ u. keep_region (region.register u.region)), tt))))
keep_packet lists from body.RegisterAck st = keep_region (region.registered_by from st.region)
keep_packet lists from (body.ShardHome s h stamp) st = all_if is_keeping (region.takes_home s h stamp st.region) (all_in_turn (of_region (region.learn s h stamp) ∷ start_if_home lists s ∷ release s ∷ []) st) []
    (keep_all (of_region (region.learn s h stamp) ∷ start_if_home lists s ∷ release s ∷ []) st ((λ u. keep_region (region.learn s h stamp u.region)), ((λ u. all_if is_keeping (region.is_home u.region s) (start lists s u) [] (keep_start lists s u) refl), (keep_release s, tt)))) refl
keep_packet lists from (body.HostShard s stamp) st = all_if is_keeping (region.takes_host s stamp st.region) (all_in_turn (of_region (region.learn s st.who stamp) ∷ start lists s ∷ of_region (λ r. post r.who from (body.ShardStarted s) ∷ []) ∷ release s ∷ []) st) []
    (keep_all (of_region (region.learn s st.who stamp) ∷ start lists s ∷ of_region (λ r. post r.who from (body.ShardStarted s) ∷ []) ∷ release s ∷ []) st ((λ u. keep_region (region.learn s st.who stamp u.region)), (keep_start lists s, ((λ u. refl), (keep_release s, tt))))) refl
keep_packet lists from (body.BeginHandOff s stamp) st = keep_region (region.begin_hand_off s stamp from st.region)
keep_packet lists from (body.HandOff s stamp) st = all_if is_keeping (region.takes_hand_off s stamp st.region) (if entities.is_hosted st.entities s then of_entities (entities.hand_off s stamp from) st else by_region (post st.who from (body.ShardStopped s stamp)) ∷ []) []
    (all_if is_keeping (entities.is_hosted st.entities s) (of_entities (entities.hand_off s stamp from) st) (by_region (post st.who from (body.ShardStopped s stamp)) ∷ []) (keep_entities (entities.hand_off s stamp from st.entities)) refl) refl
keep_packet lists from (body.Recovered e) st = keep_entities (entities.recovered e st.entities)
keep_packet lists from (body.Passivate e) st = keep_entities (entities.passivate e st.entities)
keep_packet lists from (body.StopEntity e) st = keep_entities (entities.stop e st.entities)
keep_packet lists from (body.Sequenced m) st = keep_route m st
keep_packet lists from (body.Request p e n u) st = keep_all (of_producer p (producer.confirm e n) ∷ of_producer p (λ k. demanded e u ∷ []) ∷ push p e ∷ []) st (keep_confirm p e n, ((λ w. keep_of_producer p (λ k. demanded e u ∷ []) w (λ k. refl)), (keep_push p e, tt)))
keep_packet lists from (body.Ack p e n) st = keep_all (of_producer p (producer.confirm e n) ∷ push p e ∷ []) st (keep_confirm p e n, (keep_push p e, tt))
keep_packet lists from (body.Resend p e f) st = keep_numbers p e (producer.to_resend e f) st
keep_packet lists from b st = keep_of_coordinator (coordinator.coordinate from b st.region.view) st

-- A produce and a rest of another producer.

-- acts of another producer leave this one
abbrev is_apart : ℕ → Act → Bool
is_apart p (by_producer q m) = not (q - 1 == p - 1)
is_apart p a = true

one_apart : (st : Node) (a : Act) (p : ℕ) → is_apart p a ≡ true → at (after st a).producers (p - 1) ≡ at st.producers (p - 1)
one_apart st (by_region m) p e = refl
one_apart st (by_entities m) p e = refl
one_apart st (by_coordinator m) p e = refl
one_apart st (by_producer q m) p e = get_or-set_other st.producers (q - 1) (p - 1) (producer_by st.set st.who q (at st.producers (q - 1)) m) None (λ same. true_is_not_false (sym e ∙ ap not (number_itself (q - 1) (p - 1) (sym same))))

pub all_apart : (st : Node) (acts : List Act) (p : ℕ) → list_all (is_apart p) acts ≡ true → at (fold after st acts).producers (p - 1) ≡ at st.producers (p - 1)
all_apart st [] p e = refl
all_apart st (a ∷ acts) p e =
    let t : (is_apart p a ≡ true) × (list_all (is_apart p) acts ≡ true) = and_both (is_apart p a) (list_all (is_apart p) acts) e in
    all_apart (after st a) acts p t.1 ∙ one_apart st a p t.0

apart_moves : (p q : ℕ) (ms : List Move) → not (q - 1 == p - 1) ≡ true → list_all (is_apart p) (map (by_producer q) ms) ≡ true
apart_moves p q [] e = refl
apart_moves p q (m ∷ ms) e = both (not (q - 1 == p - 1)) (list_all (is_apart p) (map (by_producer q) ms)) e (apart_moves p q ms e)

other_place : (p q : ℕ) → 0 < p → nat_le 1 q ≡ true → q ≢ p → not (q - 1 == p - 1) ≡ true
other_place p q some low other = by (q - 1 == p - 1) refl
  where
    by : (b : Bool) → (q - 1 == p - 1) ≡ b → not b ≡ true
    by true e = let same : q - 1 ≡ p - 1 = same_number (q - 1) (p - 1) e in let l : 1 ≤ q = at_most 1 q low in absurd (other (omega arith))
    by false e = refl

has_same : (st : Node) (acts : List Act) (p : ℕ) (k : Producer) → at st.producers (p - 1) ≡ Some k → list_all (is_apart p) acts ≡ true → HasQueue (fold after st acts) p k.entries (queued_in_all k.entries)
has_same st acts p k here e = record { producer = k; there = all_apart st acts p e ∙ here; begins = begins_here k.entries; count = omega arith }

produce_keeps : (lists : SlotLists) (st : Node) (p q : ℕ) (k : Producer) → 0 < p → nat_le 1 q ≡ true → at st.producers (p - 1) ≡ Some k → HasQueue (fold after st (produce lists q st)) p k.entries (queued_in_all k.entries)
produce_keeps lists st p q k some low here = by (same_or_not q p)
  where
    acts : List Act
    acts = map (by_producer q) (acquire (slot.Queue q) st.who (queue_list lists q))

    none : (o : Option Producer) → o ≡ Some k → is_none o ≡ false
    none None e = cc
    none (Some x) e = refl

    if_apart : (b : Bool) → list_all (is_apart p) acts ≡ true → list_all (is_apart p) (if b then acts else []) ≡ true
    if_apart true h = h
    if_apart false h = refl

    by : (q ≡ p) ⊎ (q ≢ p) → HasQueue (fold after st (produce lists q st)) p k.entries (queued_in_all k.entries)
    by (inl same) = has_same st (produce lists q st) p k here
        (ap (λ b. list_all (is_apart p) (if b then acts else [])) (none (at st.producers (q - 1)) (ap (λ i. at st.producers (i - 1)) same ∙ here)))
    by (inr other) = has_same st (produce lists q st) p k here (if_apart (is_none (at st.producers (q - 1))) (apart_moves p q (acquire (slot.Queue q) st.who (queue_list lists q)) (other_place p q some low other)))

rest_keeps : (st : Node) (p q : ℕ) (k : Producer) → 0 < p → nat_le 1 q ≡ true → (q == p) ≡ false → at st.producers (p - 1) ≡ Some k → HasQueue (fold after st (of_producer q producer.give_back st)) p k.entries (queued_in_all k.entries)
rest_keeps st p q k some low other here = has_same st (of_producer q producer.give_back st) p k here
    (all_some (is_apart p) (λ k. map (by_producer q) (producer.give_back k)) (at st.producers (q - 1)) (λ x. apart_moves p q (producer.give_back x) (other_place p q some low (λ same. true_is_not_false (sym (number_itself q p same) ∙ other)))))

pub turn_keeps_queue : TurnKeepsQueue
turn_keeps_queue sends lists st (input.Packet x) p k some rest own here = all_keep st (packet lists x.from x.body st) p k here (keep_packet lists x.from x.body st)
turn_keeps_queue sends lists st input.Tick p k some rest own here = all_keep st (tick lists st) p k here (keep_tick lists st)
turn_keeps_queue sends lists st input.Leave p k some rest own here = all_keep st (turn sends lists input.Leave st) p k here (keep_region (region.leave st.region))
turn_keeps_queue sends lists st (input.Rebalance n) p k some rest own here = all_keep st (turn sends lists (input.Rebalance n) st) p k here (keep_of_coordinator (coordinator.rebalance n) st)
turn_keeps_queue sends lists st (input.Produce q) p k some rest own here = produce_keeps lists st p q k some own here
turn_keeps_queue sends lists st (input.Rest q) p k some rest own here = rest_keeps st p q k some own rest here
turn_keeps_queue sends lists st (input.Send q) p k some rest own here = all_keep st (send sends q st) p k here (all_some is_keeping (λ j. send_by q (producer.next_sending (slice_index_or sends (q - 1) []) j) st) (at st.producers (q - 1)) (λ j. keep_send_by q (producer.next_sending (slice_index_or sends (q - 1) []) j) st))
turn_keeps_queue sends lists st (input.Passivate e) p k some rest own here = all_keep st (turn sends lists (input.Passivate e) st) p k here (keep_entities (entities.ask_to_passivate e st.entities))
turn_keeps_queue sends lists st (input.FailWrite e w) p k some rest own here = all_keep st (turn sends lists (input.FailWrite e w) st) p k here (keep_entities (entities.arm e w st.entities))

-- A send.

at_numbers : (f : ℕ → List Sending) (a n i : ℕ) → i < n → slice_index_or (map f (numbers a n)) i [] ≡ f (a + i)
at_numbers f a zero i h = absurd (omega arith)
at_numbers f a (suc n) zero h = ap f (let e : a ≡ a + 0 = omega arith in e)
at_numbers f a (suc n) (suc i) h = at_numbers f (a + 1) n i (omega arith) ∙ ap f (let e : a + 1 + i ≡ a + suc i = omega arith in e)

sends_of : (c : Script) (p : ℕ) → is_producer c p ≡ true → slice_index_or (all_sends c) (p - 1) [] ≡ sends c p
sends_of c p h =
    let t = and_both (nat_le 1 p) (nat_le p c.config.producers) h in let low : 1 ≤ p = at_most 1 p t.0 in let high : p ≤ c.config.producers = at_most p c.config.producers t.1 in
    at_numbers (sends c) 1 c.config.producers (p - 1) (omega arith) ∙ ap (sends c) (let e : 1 + (p - 1) ≡ p = omega arith in e)

record Got {A : Type 0} (xs : List A) (i : ℕ) : Type 0 where
  pub item : A
  pub is : slice_get xs i ≡ Some item

got : {A : Type 0} (xs : List A) (i : ℕ) → i < length xs → Got xs i
got [] i h = absurd (omega arith)
got (x ∷ xs) zero h = record { item = x; is = refl }
got (x ∷ xs) (suc i) h = let g = got xs i (omega arith) in record { item = g.item; is = g.is }

pub send_queues : SendQueues
send_queues c lists st p k ours here number more =
    let g = got (sends c p) (queued_in_all k.entries) more in
    let x : Sending = g.item in
    let next : producer.next_sending (slice_index_or (all_sends c) (p - 1) []) k ≡ Some x = ap (λ l. slice_get l (queued_in_all k.entries)) (sends_of c p ours) ∙ g.is in
    let acts_are : turn (all_sends c) lists (input.Send p) st ≡ send_by p (Some x) st = ap (where_some (λ j. send_by p (producer.next_sending (slice_index_or (all_sends c) (p - 1) []) j) st)) here ∙ ap (λ o. send_by p o st) next in
    let m : Move = told (fact.Queued k.number x.entity x.number x.command) in
    let first : of_producer p (producer.queue x) st ≡ by_producer p m ∷ [] = ap (where_some (λ j. map (by_producer p) (producer.queue x j))) here in
    let j : Producer = producer_after k m in
    let there : at (after st (by_producer p m)).producers (p - 1) ≡ Some j = own_step st p k m here refl in
    let u : Node = after st (by_producer p m) in
    let r = all_keep u (all_in_turn (push p x.entity ∷ []) u) p j there (keep_all (push p x.entity ∷ []) u (keep_push p x.entity, tt)) in
    let one : queued_in_all j.entries ≡ queued_in_all k.entries + 1 = fold-append queued_in_all_step 0 k.entries (fact.Queued k.number x.entity x.number x.command ∷ []) in
    let least : queued_in_all j.entries ≤ queued_in_all r.producer.entries = r.count in
    subst (λ (acts : List Act). HasQueue (fold after st acts) p k.entries (queued_in_all k.entries + 1)) (sym acts_are)
    (subst (λ (acts : List Act). HasQueue (fold after st (acts ++ all_in_turn (push p x.entity ∷ []) (fold after st acts))) p k.entries (queued_in_all k.entries + 1)) (sym first) record {
      producer = r.producer;
      there = r.there;
      begins = begins_on k.entries j.entries r.producer.entries (record { rest = fact.Queued k.number x.entity x.number x.command ∷ []; is = refl }) r.begins;
      count = omega (arith, one, least);
    })

-- A produce.

pub produce_takes : ProduceTakes
produce_takes sends lists st p some inside none free =
    let list : List Fact = queue_list lists p in
    let f : Fact = fact.Granted (slot.Queue p) (epoch list + 1) st.who in
    let acts : List Act = by_producer p (told f) ∷ by_producer p (took (slot.Queue p) (list ++ f ∷ [])) ∷ [] in
    let is : produce lists p st ≡ acts = ap (λ b. if b then map (by_producer p) (acquire (slot.Queue p) st.who list) else []) (ap is_none none) ∙ ap (λ h. map (by_producer p) (acquire_by (slot.Queue p) st.who list h)) free in
    let u : Node = after st (by_producer p (told f)) in
    let k : Producer = producer.new_producer st.set st.who p (list ++ f ∷ []) in
    let wide : p - 1 < length u.producers = subst (λ n. p - 1 < n) (sym (length-set st.producers (p - 1) (producer_by st.set st.who p (at st.producers (p - 1)) (told f)))) inside in
    let grown : Begins list k.entries = record { rest = f ∷ []; is = refl } in
    subst (λ (acts : List Act). HasQueue (fold after st acts) p list (queued_in_all list)) (sym is) record {
      producer = k;
      there = get_or-set_same u.producers (p - 1) (Some k) None wide;
      begins = grown;
      count = queued_grows list k.entries grown;
    }
