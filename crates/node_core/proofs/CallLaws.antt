-- A call of a producer: what its moves make of the node, and that with what is routed after them they are the node's rule.
use Rattle.std.proofs.Common.{◌≡◌, ℕ, suc, ◌+◌, ◌-◌, ◌*◌, ◌<◌, ◌≤◌, List, [], ◌∷◌, ◌++◌, length, map, sym, ap, subst, ◌∙◌, refl, append-nil, append_assoc, true, false, arith}
use Rattle.std.specs.Prelude.{Bool, ◌&&◌, ◌==◌, fold, max, nat_lt, Option, Some, None, is_none, IfSome, slice_index_or, slice_set, if◌then◌else◌}
use Rattle.std.specs.List.{list_all, flat_map}
use Rattle.std.specs.Option.{option_and_then, option_map}
use Rattle.std.proofs.lemmas.List.{length-append, length-set, set-set, set-get_or}
use Rattle.std.proofs.lemmas.List.Sums.{fold-append}
use Rattle.yard_model.specs.declared.charter.Sending.{Sending}
use Rattle.yard_model.specs.declared.incarnation.Incarnation.{Incarnation}
use Rattle.yard_model.specs.declared.input.Phase.TheVariants as phase
use Rattle.yard_model.specs.declared.out.Item.{Item}
use Rattle.yard_model.specs.declared.packet.Message.{Message}
use Rattle.yard_model.specs.Entities as entities
use Rattle.yard_model.specs.Entities.{hosted}
use Rattle.yard_model.specs.Genuine.{is_brought, is_genuine, is_producer}
use Rattle.yard_model.specs.Move.{Move, made, item_of}
use Rattle.yard_model.specs.Node.{Node, Act, by_producer, after, items_of, of_entities, of_region, is_running, producers_part, route, route_numbers, send, send_by}
use Rattle.yard_model.specs.Producer.{Producer, producer_after, message_of, next_sending}
use Rattle.yard_model.specs.Region.{Region, is_home, route_away}
use Rattle.yard_model.specs.Script.{Script, IsScript, Setting, setting, sends}
use Rattle.yard_model.specs.Setting.{shard_of}
use Rattle.yard_model.specs.Spared.{Spared}
use Rattle.yard_model.specs.Turns.{for_each, where_some}
use Rattle.yard_model.specs.Words.{at, is_empty}
use Rattle.yard_model.specs.World.{all_sends}
use Rattle.yard_laws.proofs.PartsLaws.{producer_alone, producer_items, region_alone, entities_alone}
use Rattle.plain_laws.proofs.Booleans.{and_both, other_number, same_number}
use Rattle.plain_laws.proofs.Lists.{inside, placed_at}
use Rattle.actor_laws.specs.ProducerStands.{is_sent_well}
use Rattle.node_laws.specs.NodeStands.{IsSoundNode}
use Rattle.node_laws.proofs.NodePackets.{sends_are}
use Rattle.node_laws.proofs.NodeProducers.{is_producing, put, producer_move}
use Rattle.coordinator_actor.specs.Held.{Held}
use Rattle.shard_entities.specs.Lodged.{Lodged}
use Rattle.producer_ctl.specs.Produced.{Gives, given, given_step, queueing, resending}
use Rattle.producer_ctl.specs.Producing.{Producing, Routing, no_routing, moved_by, moves_of, producing_after, rest_of, routing_by, sending, stepped, first_of}
use Rattle.producer_ctl.specs.Routed.{calls, calls_of, given_by}
use Rattle.node_core.specs.Calling.{called, Called, given_of, next_pending, without_first, pending_acts, are_sent_well, is_pending_well, Sends}
use Rattle.node_core.specs.Releasing.{HasReleaseRoom, LeavesRoom, TookRoom}
use Rattle.node_core.specs.Standing.{Standing, IsReady, standing_of, node_of}
use Rattle.node_core.specs.Went.{Went, rooms_after, queues_after}
use Rattle.node_core.proofs.ReleaseLaws.{went_both, room_stays, routed_room, routed_rooms, leaves_nothing, leaves_next}
use Rattle.room_laws.proofs.Limits.{small_window}
use Rattle.node_core.proofs.StartLaws.{active_hosted, fewer_room}
use Rattle.node_core.proofs.StepLaws.{went_nothing}

-- Moves of one producer.

moved_producers : (p : ℕ) (v : Producing) (ms : List Move) → (moved_by p v ms).producers ≡ fold (producers_part (setting v.script) v.who) v.producers (map (by_producer p) ms)
moved_producers p v [] = refl
moved_producers p v (m ∷ ms) = moved_producers p (producing_after p v m) ms

moved_queues : (p : ℕ) (v : Producing) (ms : List Move) → (moved_by p v ms).rooms ≡ fold queues_after v.rooms (map (by_producer p) ms)
moved_queues p v [] = refl
moved_queues p v (m ∷ ms) = moved_queues p (producing_after p v m) ms

producer_rooms : (set : Setting) (rooms : List ℕ) (p : ℕ) (ms : List Move) → rooms ≡ fold (rooms_after set) rooms (map (by_producer p) ms)
producer_rooms set rooms p [] = refl
producer_rooms set rooms p (m ∷ ms) = producer_rooms set rooms p ms

one_given : (old : Spared Item) (m : Move) → (given_step old m).items ≡ old.items ++ item_of m
one_given old (made i) = refl
one_given old m = sym (append-nil old.items)

given_items : (old : Spared Item) (ms : List Move) → (given old ms).items ≡ old.items ++ flat_map item_of ms
given_items old [] = sym (append-nil old.items)
given_items old (m ∷ ms) = given_items (given_step old m) ms ∙ (ap (λ is. is ++ flat_map item_of ms) (one_given old m) ∙ append_assoc old.items (item_of m) (flat_map item_of ms))

one_less : (old : Spared Item) (m : Move) → (given_step old m).spare ≡ old.spare - length (item_of m)
one_less old (made i) = refl
one_less old m = omega arith

given_spare : (old : Spared Item) (ms : List Move) → (given old ms).spare ≡ old.spare - length (flat_map item_of ms)
given_spare old [] = omega arith
given_spare old (m ∷ ms) =
    let first : (given_step old m).spare ≡ old.spare - length (item_of m) = one_less old m in
    let rest : (given (given_step old m) ms).spare ≡ (given_step old m).spare - length (flat_map item_of ms) = given_spare (given_step old m) ms in
    let all : length (item_of m ++ flat_map item_of ms) ≡ length (item_of m) + length (flat_map item_of ms) = length-append (item_of m) (flat_map item_of ms) in
    omega (arith, first, rest, all)

pub queue_went : (c : Script) (r : Region) (e : Lodged) (ps now : Producing) (k : Option Held) (p : ℕ) (ms : List Move) (before late : Spared Item) → ps.script ≡ c → ps.who ≡ r.who → now.producers ≡ (moved_by p ps ms).producers → now.rooms ≡ (moved_by p ps ms).rooms
    → late ≡ given before ms → Went (standing_of c r e ps k) (standing_of c r e now k) before late (map (by_producer p) ms)
queue_went c r e ps now k p ms before late script who producers rooms told = record {
  script_is = refl;
  node_is = ap (λ l. record (node_of c r e ps k) { producers = l }) (producers ∙ (moved_producers p ps ms
      ∙ (ap (λ (d : Script). fold (producers_part (setting d) ps.who) ps.producers (map (by_producer p) ms)) script ∙ ap (λ (w : Incarnation). fold (producers_part (setting c) w) ps.producers (map (by_producer p) ms)) who)))
      ∙ sym (producer_alone (node_of c r e ps k) p ms);
  items_are = ap (λ (x : Spared Item). x.items) told ∙ (given_items before ms ∙ ap (λ is. before.items ++ is) (sym (producer_items p ms)));
  spare_is = ap (λ (x : Spared Item). x.spare) told ∙ (given_spare before ms ∙ ap (λ is. before.spare - length is) (sym (producer_items p ms)));
  rooms_are = producer_rooms (setting c) e.rooms p ms;
  queues_are = rooms ∙ moved_queues p ps ms;
  office_is = refl;
}

-- what a call says
pub called_of : (c : Script) (r : Region) (e : Lodged) (ps now : Producing) (k : Option Held) (p : ℕ) (g h : Option Gives) (before late : Spared Item) → ps.script ≡ c → ps.who ≡ r.who → g ≡ h → now ≡ stepped p ps g → late ≡ given before (moves_of g)
    → Called p h (standing_of c r e ps k) (standing_of c r e now k) before late
called_of c r e ps now k p g h before late script who same goes told = subst (λ o. Called p o (standing_of c r e ps k) (standing_of c r e now k) before late) same (record {
  went = queue_went c r e ps now k p (moves_of g) before late script who (ap (λ (v : Producing). v.producers) goes) (ap (λ (v : Producing). v.rooms) goes) told;
  pending_is = ap (λ (v : Producing). v.pending) goes;
})

pub then_is : {A B : Type 0} (f : A → B) (o : Option A) → option_map f o ≡ option_and_then (λ k. Some (f k)) o
then_is f None = refl
then_is f (Some k) = refl

-- a Resend tells nothing
pub resend_told : (e : List ℕ) (f : ℕ) (o : Option Producer) → moves_of (option_map (resending e f) o) ≡ []
resend_told e f None = refl
resend_told e f (Some k) = refl

-- where the queue is held it has room for an entry
pub queue_room : (o : Option Producer) (n : ℕ) → ((o ≡ None → ⊥) → 1 ≤ n) → IfSome o (λ k. 0 < n)
queue_room None n room = tt
queue_room (Some k) n room = let some = room (λ e. some_is_not_none e) in omega (arith, some)
  where
    some_is_not_none : Some k ≡ None → ⊥
    some_is_not_none e = cc

-- The producer after moves of its own, by which it is neither taken nor freed.

pub moved_is : (st : Node) (p : ℕ) (k : Producer) (ms : List Move) → at st.producers (p - 1) ≡ Some k → list_all is_producing ms ≡ true → fold after st (map (by_producer p) ms) ≡ put st p (Some (fold producer_after k ms))
moved_is st p k [] found plain = ap (λ ps. record st { producers = ps }) (sym (set-get_or st.producers (p - 1) None) ∙ ap (slice_set st.producers (p - 1)) found)
moved_is st p k (m ∷ ms) found plain =
    let parts : (is_producing m ≡ true) × (list_all is_producing ms ≡ true) = and_both (is_producing m) (list_all is_producing ms) plain in
    let one : Option Producer = Some (producer_after k m) in
    ap (λ n. fold after n (map (by_producer p) ms)) (producer_move st p k m found parts.0)
    ∙ (moved_is (put st p one) p (producer_after k m) ms (placed_at st.producers (p - 1) one (inside st.producers (p - 1) k found)) parts.1
    ∙ ap (λ ps. record st { producers = ps }) (set-set st.producers (p - 1) one (Some (fold producer_after k (m ∷ ms)))))

pub moved_at : (st : Node) (p : ℕ) (k : Producer) (ms : List Move) → at st.producers (p - 1) ≡ Some k → list_all is_producing ms ≡ true → at (fold after st (map (by_producer p) ms)).producers (p - 1) ≡ Some (fold producer_after k ms)
moved_at st p k ms found plain = ap (λ (n : Node). at n.producers (p - 1)) (moved_is st p k ms found plain) ∙ placed_at st.producers (p - 1) (Some (fold producer_after k ms)) (inside st.producers (p - 1) k found)

-- What a call gives of a producer that fits: it is neither taken nor freed, and its messages are genuine.
pub record IsFit (c : Script) (k : Producer) (g : Gives) : Type 0 where
  pub plain : list_all is_producing g.moves ≡ true
  pub told : length (flat_map item_of g.moves) ≤ 1
  pub well : list_all (is_sent_well c g.entity (fold producer_after k g.moves)) g.numbers ≡ true

abbrev pub AreFit : Script → ℕ → (Producer → Option Gives) → Node → Type 0
AreFit c p F st = (k : Producer) → at st.producers (p - 1) ≡ Some k → IfSome (F k) (IsFit c k)

-- and they are few
abbrev pub AreFew : ℕ → ℕ → (Producer → Option Gives) → Node → Type 0
AreFew w p F st = (k : Producer) → at st.producers (p - 1) ≡ Some k → IfSome (F k) (λ g. length g.numbers ≤ w)

-- What is to be routed after a call.

no_numbers : (e : List ℕ) (st : Node) (o : Option Producer) → where_some (λ k. for_each after (λ n. route (message_of e k n)) [] st) o ≡ []
no_numbers e st None = refl
no_numbers e st (Some k) = refl

none_well : (c : Script) (o : Option Producer) → are_sent_well c no_routing o ≡ true
none_well c None = refl
none_well c (Some k) = refl

-- nothing
module _ (p : ℕ) (v mid : Standing) (before late : Spared Item) (call : Called p None v mid before late) where
  pub nothing_acts : pending_acts mid ≡ []
  nothing_acts = ap (λ (r : Routing). route_numbers r.producer r.entity (λ k. r.numbers) mid.state) call.pending_is ∙ no_numbers [] mid.state (at mid.state.producers (0 - 1))

  pub nothing_well : is_pending_well mid ≡ true
  nothing_well = ap (λ (r : Routing). are_sent_well mid.script r (at mid.state.producers (r.producer - 1))) call.pending_is ∙ none_well mid.script (at mid.state.producers (0 - 1))

  pub nothing_few : length mid.pending.numbers ≡ 0
  nothing_few = ap (λ (r : Routing). length r.numbers) call.pending_is

-- or what the call gave
module _ (p : ℕ) (k : Producer) (g : Gives) (v mid : Standing) (before late : Spared Item) (found : at v.state.producers (p - 1) ≡ Some k) (plain : list_all is_producing g.moves ≡ true) (call : Called p (Some g) v mid before late) where
  now_at : at mid.state.producers (p - 1) ≡ Some (fold producer_after k g.moves)
  now_at = ap (λ (n : Node). at n.producers (p - 1)) call.went.node_is ∙ moved_at v.state p k g.moves found plain

  pub given_acts : map (by_producer p) g.moves ++ pending_acts mid ≡ given_by p g k v.state
  given_acts = ap (λ acts. map (by_producer p) g.moves ++ acts)
      (ap (λ (r : Routing). route_numbers r.producer r.entity (λ k. r.numbers) mid.state) call.pending_is
      ∙ (ap (where_some (λ j. for_each after (λ n. route (message_of g.entity j n)) g.numbers mid.state)) now_at
      ∙ ap (for_each after (λ n. route (message_of g.entity (fold producer_after k g.moves) n)) g.numbers) call.went.node_is))

  pub given_well : list_all (is_sent_well v.script g.entity (fold producer_after k g.moves)) g.numbers ≡ true → is_pending_well mid ≡ true
  given_well well = ap (λ (r : Routing). are_sent_well mid.script r (at mid.state.producers (r.producer - 1))) call.pending_is
      ∙ (ap (are_sent_well mid.script (routing_by p (Some g))) now_at ∙ (ap (λ (c : Script). list_all (is_sent_well c g.entity (fold producer_after k g.moves)) g.numbers) call.went.script_is ∙ well))

  pub given_numbers : mid.pending.numbers ≡ g.numbers
  given_numbers = ap (λ (r : Routing). r.numbers) call.pending_is

  pub given_entity : mid.pending.entity ≡ g.entity
  given_entity = ap (λ (r : Routing). r.entity) call.pending_is

-- The call, and what is routed after it.

pub called_went : (p : ℕ) (F : Producer → Option Gives) (v mid x : Standing) (before late last : Spared Item) → AreFit v.script p F v.state → Called p (given_of F p v.state) v mid before late → Went mid x late last (pending_acts mid)
    → Went v x before last (called p F v.state)
called_went p F v mid x before late last fit call went = by (at v.state.producers (p - 1)) refl call
  where
    nothing : Called p None v mid before late → Went v x before last []
    nothing call = went_both [] [] call.went (subst (λ acts. Went mid x late last acts) (nothing_acts p v mid before late call) went)

    by_given : (k : Producer) → at v.state.producers (p - 1) ≡ Some k → (o : Option Gives) → IfSome o (IsFit v.script k) → Called p o v mid before late → Went v x before last (where_some (λ g. given_by p g k v.state) o)
    by_given k found None fits call = nothing call
    by_given k found (Some g) fits call = subst (λ acts. Went v x before last acts) (given_acts p k g v mid before late found fits.plain call) (went_both (map (by_producer p) g.moves) (pending_acts mid) call.went went)

    by : (o : Option Producer) → at v.state.producers (p - 1) ≡ o → Called p (option_and_then F o) v mid before late → Went v x before last (where_some (λ k. where_some (λ g. given_by p g k v.state) (F k)) o)
    by None found call = nothing call
    by (Some k) found call = by_given k found (F k) (fit k found) call

-- What the call leaves for what is routed.

pub record IsLeft (w : ℕ) (v mid : Standing) (before late : Spared Item) : Type 0 where
  pub well : is_pending_well mid ≡ true
  pub few : length mid.pending.numbers ≤ w
  pub spent : before.spare ≤ late.spare + 1
  pub rooms : (t n : ℕ) → HasReleaseRoom n v t → HasReleaseRoom n mid t
  pub set_is : mid.state.set ≡ v.state.set

rooms_kept : {v mid : Standing} {before late : Spared Item} (p : ℕ) (ms : List Move) → Went v mid before late (map (by_producer p) ms) → (t n : ℕ) → HasReleaseRoom n v t → HasReleaseRoom n mid t
rooms_kept {v} {mid} {before} {late} p ms went t n room =
    let goes : mid.state ≡ record v.state { producers = fold (producers_part v.state.set v.state.who) v.state.producers (map (by_producer p) ms) } = went.node_is ∙ producer_alone v.state p ms in
    room_stays n
    (record {
      script_is = went.script_is;
      set_is = ap (λ (x : Node). x.set) goes;
      ending_is = ap (λ (x : Node). option_map (λ (h : entities.Hosted). h.stopping) (hosted x.entities t)) goes;
      active = λ e k. subst (λ (x : Node). entities.is_in_phase phase.Active x.entities e ≡ true) goes k;
    })
    (ap (λ rs. slice_index_or rs t 0) (went.rooms_are ∙ sym (producer_rooms (setting v.script) v.rooms p ms))) room

set_kept : {v mid : Standing} {before late : Spared Item} (p : ℕ) (ms : List Move) → Went v mid before late (map (by_producer p) ms) → mid.state.set ≡ v.state.set
set_kept {v} {mid} p ms went = ap (λ (x : Node). x.set) (went.node_is ∙ producer_alone v.state p ms)

pub called_left : (p w : ℕ) (F : Producer → Option Gives) (v mid : Standing) (before late : Spared Item) → AreFit v.script p F v.state → AreFew w p F v.state → Called p (given_of F p v.state) v mid before late → IsLeft w v mid before late
called_left p w F v mid before late fit few call = by (at v.state.producers (p - 1)) refl call
  where
    spent : (ms : List Move) → length (flat_map item_of ms) ≤ 1 → Went v mid before late (map (by_producer p) ms) → before.spare ≤ late.spare + 1
    spent ms told went =
        let less : late.spare ≡ before.spare - length (items_of (map (by_producer p) ms)) = went.spare_is in
        let same : length (items_of (map (by_producer p) ms)) ≡ length (flat_map item_of ms) = ap length (producer_items p ms) in
        omega (arith, told, less, same)

    nothing : Called p None v mid before late → IsLeft w v mid before late
    nothing call = record {
      well = nothing_well p v mid before late call;
      few = let none = nothing_few p v mid before late call in omega (arith, none);
      spent = spent [] (omega arith) call.went;
      rooms = rooms_kept p [] call.went;
      set_is = set_kept p [] call.went;
    }

    by_given : (k : Producer) → at v.state.producers (p - 1) ≡ Some k → (o : Option Gives) → IfSome o (IsFit v.script k) → IfSome o (λ g. length g.numbers ≤ w) → Called p o v mid before late → IsLeft w v mid before late
    by_given k found None fits least call = nothing call
    by_given k found (Some g) fits least call = record {
      well = given_well p k g v mid before late found fits.plain call fits.well;
      few = let same : length mid.pending.numbers ≡ length g.numbers = ap length (given_numbers p k g v mid before late found fits.plain call) in omega (arith, same, least);
      spent = spent g.moves fits.told call.went;
      rooms = rooms_kept p g.moves call.went;
      set_is = set_kept p g.moves call.went;
    }

    by : (o : Option Producer) → at v.state.producers (p - 1) ≡ o → Called p (option_and_then F o) v mid before late → IsLeft w v mid before late
    by None found call = nothing call
    by (Some k) found call = by_given k found (F k) (fit k found) (few k found) call

-- One number after another.

-- the first of them
record IsFirst (v : Standing) (m : Message) : Type 0 where
  number : ℕ
  more : List ℕ
  sender : Producer
  numbers_are : v.pending.numbers ≡ number ∷ more
  found : at v.state.producers (v.pending.producer - 1) ≡ Some sender
  message_is : message_of v.pending.entity sender number ≡ m

first_is : (v : Standing) (m : Message) → next_pending v ≡ Some m → IsFirst v m
first_is v m e = by v.pending.numbers (at v.state.producers (v.pending.producer - 1)) refl refl e
  where
    none_is : None ≡ Some m → ⊥
    none_is k = cc

    some_is : (x : Message) → Some x ≡ Some m → x ≡ m
    some_is x k = cc

    by : (ns : List ℕ) (o : Option Producer) → v.pending.numbers ≡ ns → at v.state.producers (v.pending.producer - 1) ≡ o → option_and_then (λ n. option_map (λ k. message_of v.pending.entity k n) o) (first_of ns) ≡ Some m → IsFirst v m
    by [] o numbers found k = absurd (none_is k)
    by (n ∷ ns) None numbers found k = absurd (none_is k)
    by (n ∷ ns) (Some j) numbers found k = record { number = n; more = ns; sender = j; numbers_are = numbers; found = found; message_is = some_is (message_of v.pending.entity j n) k }

-- and that none is left
none_left : (v : Standing) → is_pending_well v ≡ true → next_pending v ≡ None → v.pending.numbers ≡ []
none_left v well e = by v.pending.numbers (at v.state.producers (v.pending.producer - 1)) well e
  where
    empty_is : (ns : List ℕ) → is_empty ns ≡ true → ns ≡ []
    empty_is [] h = refl
    empty_is (n ∷ ns) h = absurd (false_is h)
      where
        false_is : false ≡ true → ⊥
        false_is k = cc

    some_is : (x : Message) → Some x ≡ None → ⊥
    some_is x k = cc

    by : (ns : List ℕ) (o : Option Producer) → are_sent_well v.script (record { producer = v.pending.producer; entity = v.pending.entity; numbers = ns }) o ≡ true → option_and_then (λ n. option_map (λ k. message_of v.pending.entity k n) o) (first_of ns) ≡ None → ns ≡ []
    by [] o h k = refl
    by (n ∷ ns) None h k = empty_is (n ∷ ns) h
    by (n ∷ ns) (Some j) h k = absurd (some_is (message_of v.pending.entity j n) k)

routed_producers : (st : Node) (m : Message) → (fold after st (route m st)).producers ≡ st.producers
routed_producers st m = by (is_home st.region (shard_of st.set m.entity) && is_running st (shard_of st.set m.entity))
  where
    by : (b : Bool) → (fold after st (if b then of_entities (entities.deliver m) st else of_region (route_away m) st)).producers ≡ st.producers
    by true = ap (λ (n : Node). n.producers) (entities_alone st (entities.deliver m st.entities))
    by false = ap (λ (n : Node). n.producers) (region_alone st (route_away m st.region))

routed_set : (st : Node) (m : Message) → (fold after st (route m st)).set ≡ st.set
routed_set st m = by (is_home st.region (shard_of st.set m.entity) && is_running st (shard_of st.set m.entity))
  where
    by : (b : Bool) → (fold after st (if b then of_entities (entities.deliver m) st else of_region (route_away m) st)).set ≡ st.set
    by true = ap (λ (n : Node). n.set) (entities_alone st (entities.deliver m st.entities))
    by false = ap (λ (n : Node). n.set) (region_alone st (route_away m st.region))

pub sends_first : {v : Standing} (before : Spared Item) → is_pending_well v ≡ true → (0 < length v.pending.numbers → HasReleaseRoom (2 + 2 * length v.pending.numbers) v (shard_of v.state.set v.pending.entity))
    → 4 * length v.pending.numbers ≤ before.spare → Sends v v before before
sends_first {v} before well rooms room = record {
  acts = [];
  passed = 0;
  went = went_nothing v before;
  rest = refl;
  count = omega arith;
  entity_is = refl;
  set_is = refl;
  well = well;
  rooms = rooms;
  room = room;
  leaves = λ s its. leaves_nothing v s;
}

-- what is so of the first while some are left
pub record IsSendable (v mid : Standing) (spare : ℕ) (m : Message) : Type 0 where
  pub genuine : is_genuine mid.script m ≡ true
  pub rooms : HasReleaseRoom 4 mid (shard_of mid.state.set m.entity)
  pub room : 4 ≤ spare

-- the same but for what is pending
same_room : (v mid : Standing) (r : Routing) (n s : ℕ) → mid ≡ record v { pending = r } → HasReleaseRoom n v s → HasReleaseRoom n mid s
same_room v mid r n s goes room = subst (λ (x : Standing). HasReleaseRoom n x s) (sym goes) (record { some = room.some; active = room.active })

well_first : (v : Standing) (m : Message) (f : IsFirst v m) → is_pending_well v ≡ true → (is_genuine v.script m ≡ true) × (list_all (is_sent_well v.script v.pending.entity f.sender) f.more ≡ true)
well_first v m f well =
    let parts : (is_sent_well v.script v.pending.entity f.sender f.number ≡ true) × (list_all (is_sent_well v.script v.pending.entity f.sender) f.more ≡ true)
    = and_both (is_sent_well v.script v.pending.entity f.sender f.number) (list_all (is_sent_well v.script v.pending.entity f.sender) f.more)
    (ap (list_all (is_sent_well v.script v.pending.entity f.sender)) (sym f.numbers_are) ∙ (ap (are_sent_well v.script v.pending) (sym f.found) ∙ well)) in
    (subst (λ x. is_genuine v.script x ≡ true) f.message_is parts.0, parts.1)

pub sendable : {v now mid : Standing} {before late : Spared Item} (r : Routing) (m : Message) → Sends v now before late → next_pending now ≡ Some m → mid ≡ record now { pending = r } → IsSendable v mid late.spare m
sendable {v} {now} {mid} {before} {late} r m k next goes =
    let f : IsFirst now m = first_is now m next in
    let count : length now.pending.numbers ≡ suc (length f.more) = ap length f.numbers_are in
    let room = k.room in
    let wide : HasReleaseRoom (2 + 2 * length now.pending.numbers) now (shard_of now.state.set now.pending.entity) = k.rooms (omega (arith, count)) in
    let its : now.pending.entity ≡ m.entity = ap (λ (x : Message). x.entity) f.message_is in
    record {
      genuine = ap (λ (x : Standing). is_genuine x.script m) goes ∙ (well_first now m f k.well).0;
      rooms = subst (λ t. HasReleaseRoom 4 mid t) (ap (λ x. shard_of now.state.set x) its ∙ ap (λ (x : Standing). shard_of x.state.set m.entity) (sym goes))
          (same_room now mid r 4 (shard_of now.state.set now.pending.entity) goes (record { some = wide.some; active = λ e named here active. let w = wide.active e named here active in omega (arith, w, count) }));
      room = omega (arith, room, count);
    }

pub sends_next : {v now mid x : Standing} {before late last : Spared Item} (m : Message) → is_brought now.script m.entity ≡ true → now.state.set ≡ setting now.script → Sends v now before late → next_pending now ≡ Some m
    → mid ≡ record now { pending = without_first now.pending } → Went mid x late last (route m mid.state)
    → TookRoom (shard_of mid.state.set m.entity) (if entities.is_in_phase phase.Active mid.state.entities m.entity then 2 else 0) mid x → x.pending ≡ mid.pending
    → Sends v x before last
sends_next {v} {now} {mid} {x} {before} {late} {last} m brought set k next goes went taken same = record {
  acts = k.acts ++ route m now.state;
  passed = k.passed + 1;
  went = went_both k.acts (route m now.state) k.went went_now;
  rest = append_assoc k.acts (route m now.state) (pending_acts x) ∙ (ap (λ acts. k.acts ++ acts) rest_is ∙ k.rest);
  count = let count = k.count in omega (arith, count, longer, fewer);
  entity_is = ap (λ (r : Routing). r.entity) pending ∙ k.entity_is;
  set_is = set_now ∙ k.set_is;
  well = well;
  rooms = λ some. subst (λ t. HasReleaseRoom (2 + 2 * length x.pending.numbers) x t) (sym shard_is) (subst (λ i. HasReleaseRoom (2 + 2 * i) x (shard_of now.state.set now.pending.entity)) (sym fewer)
      (one.here (2 * length f.more) (subst (λ i. HasReleaseRoom i now (shard_of now.state.set now.pending.entity)) (let e : 2 + 2 * length now.pending.numbers ≡ 2 + (2 * length f.more + 2 * 1) = omega (arith, longer) in e) (k.rooms (omega (arith, longer))))));
  room = let room = k.room in omega (arith, room, longer, fewer, spent);
  leaves = λ s its. leaves_next (k.leaves s its) (subst (λ t. LeavesRoom t 1 now x) (shard_was ∙ its (let count = k.count in omega (arith, count, longer))) one);
}
  where
    f : IsFirst now m
    f = first_is now m next

    longer : length now.pending.numbers ≡ suc (length f.more)
    longer = ap length f.numbers_are

    pending : x.pending ≡ without_first now.pending
    pending = same ∙ ap (λ (z : Standing). z.pending) goes

    numbers_are : x.pending.numbers ≡ f.more
    numbers_are = ap (λ (r : Routing). r.numbers) pending ∙ ap rest_of f.numbers_are

    fewer : length x.pending.numbers ≡ length f.more
    fewer = ap length numbers_are

    from_now : {y z : Standing} {b l : Spared Item} {r : Routing} (acts : Node → List Act) → y ≡ record now { pending = r } → Went y z b l (acts y.state) → Went now z b l (acts now.state)
    from_now {y} {z} {b} {l} {r} acts e w =
        let w2 : Went (record now { pending = r }) z b l (acts now.state) = subst (λ (u : Standing). Went u z b l (acts u.state)) e w in
        record { script_is = w2.script_is; node_is = w2.node_is; items_are = w2.items_are; spare_is = w2.spare_is; rooms_are = w2.rooms_are; queues_are = w2.queues_are; office_is = w2.office_is }

    went_now : Went now x late last (route m now.state)
    went_now = from_now (route m) goes went

    spent : late.spare ≤ last.spare + 4
    spent = let less : last.spare ≡ late.spare - length (items_of (route m now.state)) = went_now.spare_is in let few = routed_room m now.state in omega (arith, less, few)

    taken_now : TookRoom (shard_of now.state.set m.entity) (if entities.is_in_phase phase.Active now.state.entities m.entity then 2 else 0) now x
    taken_now = subst (λ (u : Standing). TookRoom (shard_of u.state.set m.entity) (if entities.is_in_phase phase.Active u.state.entities m.entity then 2 else 0) u x) goes taken

    its : now.pending.entity ≡ m.entity
    its = ap (λ (z : Message). z.entity) f.message_is

    one : LeavesRoom (shard_of now.state.set now.pending.entity) 1 now x
    one = subst (λ e. LeavesRoom (shard_of now.state.set e) 1 now x) (sym its) (routed_rooms m brought set went_now taken_now)

    set_now : x.state.set ≡ now.state.set
    set_now = ap (λ (n : Node). n.set) went_now.node_is ∙ routed_set now.state m

    shard_is : shard_of x.state.set x.pending.entity ≡ shard_of now.state.set now.pending.entity
    shard_is = ap (λ (z : Setting). shard_of z x.pending.entity) set_now ∙ ap (λ (r : Routing). shard_of now.state.set r.entity) pending

    shard_was : shard_of now.state.set now.pending.entity ≡ shard_of v.state.set v.pending.entity
    shard_was = ap (λ (z : Setting). shard_of z now.pending.entity) k.set_is ∙ ap (λ e. shard_of v.state.set e) k.entity_is

    found : at x.state.producers (now.pending.producer - 1) ≡ Some f.sender
    found = ap (λ (n : Node). at n.producers (now.pending.producer - 1)) went_now.node_is ∙ (ap (λ ps. at ps (now.pending.producer - 1)) (routed_producers now.state m) ∙ f.found)

    rest_is : route m now.state ++ pending_acts x ≡ pending_acts now
    rest_is =
        ap (λ acts. route m now.state ++ acts)
        (ap (λ (r : Routing). route_numbers r.producer r.entity (λ j. r.numbers) x.state) pending
        ∙ (ap (where_some (λ j. for_each after (λ n. route (message_of now.pending.entity j n)) (rest_of now.pending.numbers) x.state)) found
        ∙ (ap (λ ns. for_each after (λ n. route (message_of now.pending.entity f.sender n)) ns x.state) (ap rest_of f.numbers_are)
        ∙ ap (for_each after (λ n. route (message_of now.pending.entity f.sender n)) f.more) went_now.node_is)))
        ∙ (ap (λ y. route y now.state ++ for_each after (λ n. route (message_of now.pending.entity f.sender n)) f.more (fold after now.state (route y now.state))) (sym f.message_is)
        ∙ (ap (λ ns. for_each after (λ n. route (message_of now.pending.entity f.sender n)) ns now.state) (sym f.numbers_are)
        ∙ ap (where_some (λ j. for_each after (λ n. route (message_of now.pending.entity j n)) now.pending.numbers now.state)) (sym f.found)))

    well : is_pending_well x ≡ true
    well = ap (λ (r : Routing). are_sent_well x.script r (at x.state.producers (r.producer - 1))) pending
        ∙ (ap (are_sent_well x.script (without_first now.pending)) found
        ∙ (ap (λ ns. list_all (is_sent_well x.script now.pending.entity f.sender) ns) (ap rest_of f.numbers_are)
        ∙ (ap (λ (c : Script). list_all (is_sent_well c now.pending.entity f.sender) f.more) went_now.script_is ∙ (well_first now m f k.well).1)))

-- one less is left
pub sends_fewer : (now x : Standing) (m : Message) → next_pending now ≡ Some m → x.pending ≡ without_first now.pending → length x.pending.numbers < length now.pending.numbers
sends_fewer now x m next same =
    let f : IsFirst now m = first_is now m next in
    let longer : length now.pending.numbers ≡ suc (length f.more) = ap length f.numbers_are in
    let fewer : length x.pending.numbers ≡ length f.more = ap (λ (r : Routing). length r.numbers) same ∙ ap (λ ns. length (rest_of ns)) f.numbers_are in
    omega (arith, longer, fewer)

-- All of them.

-- where no number is left, there is no next message
pub nothing_next : (v : Standing) → v.pending.numbers ≡ [] → next_pending v ≡ None
nothing_next v none = ap (λ ns. option_and_then (λ n. option_map (λ k. message_of v.pending.entity k n) (at v.state.producers (v.pending.producer - 1))) (first_of ns)) none

pub sends_all : {v now x : Standing} {before late : Spared Item} (r : Routing) → Sends v now before late → next_pending now ≡ None → x ≡ record now { pending = r } → Went v x before late (pending_acts v)
sends_all {v} {now} {x} {before} {late} r k none goes =
    subst (λ (u : Standing). Went v u before late (pending_acts v)) (sym goes)
    (subst (λ acts. Went v (record now { pending = r }) before late acts)
    (sym (append-nil k.acts)
    ∙ (ap (λ acts. k.acts ++ acts) (sym (ap (λ ns. where_some (λ j. for_each after (λ n. route (message_of now.pending.entity j n)) ns now.state) (at now.state.producers (now.pending.producer - 1))) (none_left now k.well none)
    ∙ no_numbers now.pending.entity now.state (at now.state.producers (now.pending.producer - 1))))
    ∙ k.rest))
    (record { script_is = k.went.script_is; node_is = k.went.node_is; items_are = k.went.items_are; spare_is = k.went.spare_is; rooms_are = k.went.rooms_are; queues_are = k.went.queues_are; office_is = k.went.office_is }))

pub sends_leave : {v now x : Standing} {before late : Spared Item} (r : Routing) → Sends v now before late → next_pending now ≡ None → x ≡ record now { pending = r } → (s : ℕ) → (0 < length v.pending.numbers → shard_of v.state.set v.pending.entity ≡ s) → LeavesRoom s (length v.pending.numbers) v x
sends_leave {v} {now} {x} {before} {late} r k none goes s its =
    let empty : length now.pending.numbers ≡ 0 = ap length (none_left now k.well none) in
    let count = k.count in
    let left : LeavesRoom s (length v.pending.numbers) v now = subst (λ i. LeavesRoom s i v now) (let e : k.passed ≡ length v.pending.numbers = omega (arith, empty, count) in e) (k.leaves s its) in
    record { here = λ n room. same_room now x r (2 + n) s goes (left.here n room); others = λ t n other room. same_room now x r n t goes (left.others t n other room) }

-- A call in an input, between whose steps there is room for a window of messages.

pub ready_window : {v : Standing} {spare : ℕ} (s : ℕ) → IsSoundNode v.script v.state → IsReady v spare → HasReleaseRoom (2 + 2 * v.script.config.window) v s
ready_window {v} {spare} s sound ready = record {
  some = λ there. let wide = ready.rooms s there in omega (arith, wide);
  active = λ e named its active. let wide = ready.rooms s (active_hosted e sound named its active) in omega (arith, wide);
}

pub left_rooms : {v mid : Standing} {before late : Spared Item} (s : ℕ) → IsLeft v.script.config.window v mid before late → IsSoundNode v.script v.state → IsReady v before.spare → HasReleaseRoom (2 + 2 * length mid.pending.numbers) mid s
left_rooms {v} {mid} {before} {late} s left sound ready =
    let few = left.few in
    left.rooms s (2 + 2 * length mid.pending.numbers) (fewer_room (2 + 2 * v.script.config.window) (2 + 2 * length mid.pending.numbers) (omega (arith, few)) (ready_window s sound ready))

pub left_room : {v mid : Standing} {before late : Spared Item} → IsScript v.script → IsLeft v.script.config.window v mid before late → IsReady v before.spare → 4 * length mid.pending.numbers ≤ late.spare
left_room {v} {mid} {before} {late} script left ready =
    let few = left.few in
    let spent = left.spent in
    let wide = ready.room in
    let small : v.script.config.window ≤ 64 = small_window v.script script in
    omega (arith, few, spent, wide, small)

-- Send, where something is left to queue.
pub sends_called : ((p : ℕ) (x : Sending) (st : Node) → send_by p (Some x) st ≡ calls p (queueing x) st) → (c : Script) (p : ℕ) (st : Node) → is_producer c p ≡ true → called p (sending (sends c p)) st ≡ send (all_sends c) p st
sends_called law c p st valid = ap (λ l. called p (sending l) st) (sym (sends_are c p valid)) ∙ by (at st.producers (p - 1)) refl
  where
    list : List Sending
    list = slice_index_or (all_sends c) (p - 1) []

    by_next : (k : Producer) → at st.producers (p - 1) ≡ Some k → (o : Option Sending) → where_some (λ g. given_by p g k st) (option_map (λ x. queueing x k) o) ≡ send_by p o st
    by_next k found None = refl
    by_next k found (Some x) = sym (law p x st ∙ ap (calls_of p (queueing x) st) found)

    by : (o : Option Producer) → at st.producers (p - 1) ≡ o → where_some (λ k. where_some (λ g. given_by p g k st) (sending list k)) o ≡ where_some (λ k. send_by p (next_sending list k) st) o
    by None found = refl
    by (Some k) found = by_next k found (next_sending list k)

-- The tick's part of a pair.

-- what is to be routed after a call is to this entity
pub pending_entity : (p w : ℕ) (e : List ℕ) (F : Producer → Option Gives) (v mid : Standing) (before late : Spared Item) → ((k : Producer) → IfSome (F k) (λ g. g.entity ≡ e)) → Called p (given_of F p v.state) v mid before late → 0 < length mid.pending.numbers → mid.pending.entity ≡ e
pending_entity p w e F v mid before late its call some = by (at v.state.producers (p - 1)) call
  where
    nothing : Called p None v mid before late → mid.pending.entity ≡ e
    nothing call = let none = nothing_few p v mid before late call in absurd (let k : 0 < 0 = omega (arith, some, none) in omega (arith, k))

    by_given : (o : Option Gives) → IfSome o (λ g. g.entity ≡ e) → Called p o v mid before late → mid.pending.entity ≡ e
    by_given None h call = nothing call
    by_given (Some g) h call = ap (λ (r : Routing). r.entity) call.pending_is ∙ h

    by : (o : Option Producer) → Called p (option_and_then F o) v mid before late → mid.pending.entity ≡ e
    by None call = nothing call
    by (Some k) call = by_given (F k) (its k) call

pub again_rooms : {v mid : Standing} {before late : Spared Item} (s : ℕ) → IsLeft 1 v mid before late → (0 < length mid.pending.numbers → shard_of mid.state.set mid.pending.entity ≡ s) → 0 < length mid.pending.numbers → HasReleaseRoom 4 v s
    → HasReleaseRoom (2 + 2 * length mid.pending.numbers) mid (shard_of mid.state.set mid.pending.entity)
again_rooms {v} {mid} s left its some room =
    let few = left.few in
    subst (λ t. HasReleaseRoom (2 + 2 * length mid.pending.numbers) mid t) (sym (its some)) (left.rooms s (2 + 2 * length mid.pending.numbers) (fewer_room 4 (2 + 2 * length mid.pending.numbers) (omega (arith, few)) room))

pub again_leaves : {v mid x : Standing} {before late : Spared Item} (s : ℕ) → IsLeft 1 v mid before late → LeavesRoom s (length mid.pending.numbers) mid x → (t n : ℕ) → HasReleaseRoom (2 + (n + (if t == s then 2 else 0))) v t → HasReleaseRoom (2 + n) x t
again_leaves {v} {mid} {x} s left leaves t n = by (t == s) refl
  where
    by : (b : Bool) → (t == s) ≡ b → HasReleaseRoom (2 + (n + (if b then 2 else 0))) v t → HasReleaseRoom (2 + n) x t
    by true e room =
        let same : t ≡ s = same_number t s e in
        let few = left.few in
        subst (λ u. HasReleaseRoom (2 + n) x u) (sym same)
        (leaves.here n (left.rooms s (2 + (n + 2 * length mid.pending.numbers)) (fewer_room (2 + (n + 2)) (2 + (n + 2 * length mid.pending.numbers)) (omega (arith, few)) (subst (λ u. HasReleaseRoom (2 + (n + 2)) v u) same room))))
    by false e room = leaves.others t (2 + n) (other_number t s e) (left.rooms t (2 + n) (subst (λ i. HasReleaseRoom i v t) (let k : 2 + (n + 0) ≡ 2 + n = omega arith in k) room))
