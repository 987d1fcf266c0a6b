-- What routing and pushing tell: no entry of a queue. So sending is an entry of the producer's own queue alone.
use Rattle.std.proofs.Common.{◌≡◌, ℕ, ◌+◌, ◌-◌, List, [], ◌∷◌, map, refl, true, false}
use Rattle.std.specs.Prelude.{Bool, nat_le, nat_lt, fold, Option, Some, None, slice_index_or}
use Rattle.std.specs.List.{list_all}
use Rattle.yard_model.specs.declared.fact.Fact.{Fact}
use Rattle.yard_model.specs.declared.fact.Fact.TheVariants as fact
use Rattle.yard_model.specs.declared.out.Item.{Item}
use Rattle.yard_model.specs.declared.out.Item.TheVariants as item
use Rattle.yard_model.specs.declared.input.Phase.{Phase}
use Rattle.yard_model.specs.declared.input.Phase.TheVariants as phase
use Rattle.yard_model.specs.declared.packet.Body.{Body}
use Rattle.yard_model.specs.declared.packet.Body.TheVariants as body
use Rattle.yard_model.specs.declared.packet.Message.{Message}
use Rattle.yard_model.specs.declared.packet.Record.{Record}
use Rattle.yard_model.specs.declared.incarnation.Incarnation.{Incarnation}
use Rattle.yard_model.specs.declared.incarnation.Slot.TheVariants as slot
use Rattle.yard_model.specs.declared.incarnation.Keep.{Keep}
use Rattle.yard_model.specs.declared.incarnation.Keep.TheVariants as keep
use Rattle.yard_model.specs.Setting.{shard_of}
use Rattle.yard_model.specs.Turns.{in_turn, for_each}
use Rattle.yard_model.specs.Words.{is_same, at}
use Rattle.yard_model.specs.Move.{Move, made, told, post, item_of}
use Rattle.yard_model.specs.Region as region
use Rattle.yard_model.specs.Region.{Region}
use Rattle.yard_model.specs.Entities as entities
use Rattle.yard_model.specs.Entities.{Entities, Hosted, Stopping, entities_after}
use Rattle.yard_model.specs.Producer as producer
use Rattle.yard_model.specs.Producer.{Producer}
use Rattle.yard_model.specs.Node as node
use Rattle.yard_model.specs.Node.{Node, Act, Rule, by_region, by_entities, by_producer, by_coordinator, move_of, after, items_of, of_region, of_entities, of_producer, of_coordinator, all_in_turn}
use Rattle.plain_laws.proofs.Booleans.{and_both, both}
use Rattle.plain_laws.proofs.Lists.{all_join, all_if, all_some}

-- no entry of a queue
abbrev pub is_beside : Fact → Bool
is_beside (fact.Queued p e n k) = false
is_beside (fact.Confirmed p e n) = false
is_beside (fact.Granted (slot.Queue p) n x) = false
is_beside (fact.Freed (slot.Queue p) n why) = false
is_beside f = true

abbrev pub is_beside_item : Item → Bool
is_beside_item (item.Fact f) = is_beside f
is_beside_item (item.Post p) = true

abbrev is_beside_move : Move → Bool
is_beside_move (made i) = is_beside_item i
is_beside_move m = true

abbrev Tell : List Move → Type 0
Tell ms = list_all is_beside_move ms ≡ true

abbrev pub is_beside_act : Act → Bool
is_beside_act a = is_beside_move (move_of a)

abbrev Act_ : List Act → Type 0
Act_ acts = list_all is_beside_act acts ≡ true

all_mapped : {X Y : Type 0} (q : X → Bool) (p : Y → X) (ys : List Y) → ((y : Y) → q (p y) ≡ true) → list_all q (map p ys) ≡ true
all_mapped q p [] h = refl
all_mapped q p (y ∷ ys) h = both (q (p y)) (list_all q (map p ys)) (h y) (all_mapped q p ys h)

all_turn : {S X : Type 0} (q : X → Bool) (step : S → X → S) (a b : S → List X) (st : S) → ((st : S) → list_all q (a st) ≡ true) → ((st : S) → list_all q (b st) ≡ true) → list_all q (in_turn step a b st) ≡ true
all_turn q step a b st f g = all_join q (a st) (b (fold step st (a st))) (f st) (g (fold step st (a st)))

all_for : {S X Y : Type 0} (q : X → Bool) (step : S → X → S) (p : Y → S → List X) (ys : List Y) (st : S) → ((y : Y) (st : S) → list_all q (p y st) ≡ true) → list_all q (for_each step p ys st) ≡ true
all_for q step p [] st h = refl
all_for q step p (y ∷ ys) st h = all_join q (p y st) (for_each step p ys (fold step st (p y st))) (h y st) (all_for q step p ys (fold step st (p y st)) h)

oldest_tells : (b : Body) (st : Region) → Tell (region.post_oldest b st)
oldest_tells b st = all_some is_beside_move (λ x. post st.who x b ∷ []) (region.oldest st) (λ x. refl)

keep_tells : (m : Message) (st : Region) → Tell (region.keep m st)
keep_tells m st = all_if is_beside_move _ (told (fact.Kept st.who m) ∷ []) (told (fact.Dropped st.who m) ∷ []) refl refl

ask_tells : (s : ℕ) (st : Region) → Tell (region.ask s st)
ask_tells s st = all_if is_beside_move (slice_index_or st.asked s false) [] (region.post_oldest (body.GetShardHome s) st) refl (oldest_tells (body.GetShardHome s) st)

away_tells : (m : Message) (st : Region) → Tell (region.route_away m st)
away_tells m st = by (region.home st (shard_of st.set m.entity))
  where
    by : (o : Option Incarnation) → Tell (region.route_by m st o)
    by None = all_join is_beside_move (region.keep m st) (region.ask (shard_of st.set m.entity) st) (keep_tells m st) (ask_tells (shard_of st.set m.entity) st)
    by (Some h) = all_if is_beside_move (is_same h st.who) (region.keep m st) (post st.who h (body.Sequenced m) ∷ []) (keep_tells m st) refl

stash_tells : (m : Message) (st : Entities) → Tell (entities.stash_message m st)
stash_tells m st = all_if is_beside_move _ (told (fact.Stashed st.who m) ∷ []) (told (fact.Dropped st.who m) ∷ []) refl refl

snapshot_tells : (e : List ℕ) (n : ℕ) (st : Entities) → Tell (entities.snapshot_at e n st)
snapshot_tells e n st = all_if is_beside_move _ (told (fact.Snapshot e n) ∷ []) [] refl refl

write_tells : (m : Message) (r : Record) (pos : ℕ) (st : Entities) (o : Option Keep) → Tell (entities.write m r pos st o)
write_tells m r pos st (Some keep.Lost) = refl
write_tells m r pos st (Some keep.Kept) = refl
write_tells m r pos st None = all_join is_beside_move (entities.snapshot_at m.entity r.number st) (post st.who m.origin (body.Ack m.producer m.entity pos) ∷ entities.ask_more m pos st) (snapshot_tells m.entity r.number st)
    (all_if is_beside_move _ (post st.who m.origin (body.Request m.producer m.entity pos (pos + st.set.config.window)) ∷ []) [] refl refl)

deliver_at_tells : (m : Message) (pos : ℕ) (records : List Record) (st : Entities) → Tell (entities.deliver_at m pos records st)
deliver_at_tells m pos records st = all_if is_beside_move (nat_le m.number pos) (post st.who m.origin (body.Ack m.producer m.entity pos) ∷ []) _ refl
    (all_if is_beside_move (nat_lt (pos + 1) m.number) (post st.who m.origin (body.Resend m.producer m.entity (pos + 1)) ∷ []) (entities.write m (entities.record_of m st records) (pos + 1) st (entities.cell st m.entity).armed) refl
    (write_tells m (entities.record_of m st records) (pos + 1) st (entities.cell st m.entity).armed))

deliver_tells : (m : Message) (st : Entities) → Tell (entities.deliver m st)
deliver_tells m st = by (entities.cell st m.entity).phase
  where
    by : (p : Phase) → Tell (entities.deliver_by m st p)
    by phase.Absent = refl
    by phase.Loading = stash_tells m st
    by phase.Active = deliver_at_tells m _ _ st
    by phase.Stopping = stash_tells m st

region_acts : (ms : List Move) → Tell ms → Act_ (map by_region ms)
region_acts [] h = refl
region_acts (m ∷ ms) h = let n : (is_beside_move m ≡ true) × Tell ms = and_both (is_beside_move m) (list_all is_beside_move ms) h in both (is_beside_move m) (list_all is_beside_act (map by_region ms)) n.0 (region_acts ms n.1)

entities_acts : (ms : List Move) → Tell ms → Act_ (map by_entities ms)
entities_acts [] h = refl
entities_acts (m ∷ ms) h = let n : (is_beside_move m ≡ true) × Tell ms = and_both (is_beside_move m) (list_all is_beside_move ms) h in both (is_beside_move m) (list_all is_beside_act (map by_entities ms)) n.0 (entities_acts ms n.1)

producer_acts : (p : ℕ) (ms : List Move) → Tell ms → Act_ (map (by_producer p) ms)
producer_acts p [] h = refl
producer_acts p (m ∷ ms) h = let n : (is_beside_move m ≡ true) × Tell ms = and_both (is_beside_move m) (list_all is_beside_move ms) h in both (is_beside_move m) (list_all is_beside_act (map (by_producer p) ms)) n.0 (producer_acts p ms n.1)

of_producer_acts : (p : ℕ) (f : Producer → List Move) (st : Node) → ((k : Producer) → Tell (f k)) → Act_ (of_producer p f st)
of_producer_acts p f st h = all_some is_beside_act (λ k. map (by_producer p) (f k)) (at st.producers (p - 1)) (λ k. producer_acts p (f k) (h k))

route_acts : (m : Message) (st : Node) → Act_ (node.route m st)
route_acts m st = all_if is_beside_act _ (of_entities (entities.deliver m) st) (of_region (region.route_away m) st) (entities_acts (entities.deliver m st.entities) (deliver_tells m st.entities)) (region_acts (region.route_away m st.region) (away_tells m st.region))

numbers_acts : (p : ℕ) (e : List ℕ) (f : Producer → List ℕ) (st : Node) → Act_ (node.route_numbers p e f st)
numbers_acts p e f st = all_some is_beside_act (λ k. for_each after (λ n. node.route (producer.message_of e k n)) (f k) st) (at st.producers (p - 1)) (λ k. all_for is_beside_act after (λ n. node.route (producer.message_of e k n)) (f k) st (λ n st. route_acts (producer.message_of e k n) st))

-- each of the rules
abbrev AllAct : List Rule → Type 0
AllAct [] = Unit {0}
AllAct (r ∷ rs) = ((st : Node) → Act_ (r st)) × AllAct rs

rules_act : (rs : List Rule) (st : Node) → AllAct rs → Act_ (all_in_turn rs st)
rules_act [] st h = refl
rules_act (r ∷ rs) st h = all_join is_beside_act (r st) (all_in_turn rs (fold after st (r st))) (h.0 st) (rules_act rs (fold after st (r st)) h.1)

pub push_acts : (p : ℕ) (e : List ℕ) (st : Node) → Act_ (node.push p e st)
push_acts p e st = all_some is_beside_act _ (at st.producers (p - 1)) (λ k. rules_act (of_producer p (producer.push_marks e) ∷ node.route_numbers p e (λ j. producer.to_push e k) ∷ []) st
    ((λ st. of_producer_acts p (producer.push_marks e) st (λ k. refl)), ((λ st. numbers_acts p e (λ j. producer.to_push e k) st), tt)))

pub items_beside : (acts : List Act) → Act_ acts → list_all is_beside_item (items_of acts) ≡ true
items_beside [] h = refl
items_beside (a ∷ acts) h =
    let m : (is_beside_move (move_of a) ≡ true) × Act_ acts = and_both (is_beside_move (move_of a)) (list_all is_beside_act acts) h in
    all_join is_beside_item (item_of (move_of a)) (items_of acts) (by (move_of a) m.0) (items_beside acts m.1)
  where
    by : (m : Move) → is_beside_move m ≡ true → list_all is_beside_item (item_of m) ≡ true
    by (made i) e = both (is_beside_item i) true e refl
    by m e = refl
