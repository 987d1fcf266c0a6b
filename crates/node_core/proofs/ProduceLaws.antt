-- What the producers' steps give: calls, by which no slot changes hands; a queue that is given back; a queue that is asked for.
use Rattle.std.proofs.Common.{◌≡◌, ◌≢◌, ℕ, ◌+◌, ◌-◌, ◌*◌, ◌<◌, ◌≤◌, List, [], ◌∷◌, ◌++◌, length, map, sym, ap, subst, ◌∙◌, refl, append-nil, true, false, arith}
use Rattle.std.specs.Prelude.{Bool, ◌&&◌, ◌==◌, fold, is_none, is_some, nat_le, nat_lt, Option, Some, None, IfSome, MatchOption, slice_set, if◌then◌else◌}
use Rattle.std.specs.List.{list_all}
use Rattle.std.specs.Option.{option_and_then, option_map}
use Rattle.std.proofs.lemmas.List.{length-set, set-set, set-get_or}
use Rattle.std.proofs.lemmas.List.Sums.{fold-append}
use Rattle.yard_model.specs.declared.charter.Sending.{Sending}
use Rattle.yard_model.specs.declared.fact.Fact.{Fact}
use Rattle.yard_model.specs.declared.fact.Fact.TheVariants as fact
use Rattle.yard_model.specs.declared.incarnation.Cause.TheVariants as cause
use Rattle.yard_model.specs.declared.incarnation.Incarnation.{Incarnation}
use Rattle.yard_model.specs.declared.incarnation.Slot.{Slot}
use Rattle.yard_model.specs.declared.incarnation.Slot.TheVariants as slot
use Rattle.yard_model.specs.declared.out.Item.{Item}
use Rattle.yard_model.specs.declared.out.Item.TheVariants as item
use Rattle.yard_model.specs.declared.packet.Body.{Body}
use Rattle.yard_model.specs.declared.packet.Body.TheVariants as body
use Rattle.yard_model.specs.Genuine.{is_brought, is_genuine_body, is_node, is_producer, is_slot_of}
use Rattle.yard_model.specs.Lawful.{own}
use Rattle.yard_model.specs.Move.{Move, demanded, took, told}
use Rattle.yard_model.specs.Node as rules
use Rattle.yard_model.specs.Node.{Node, Act, by_producer, producer_by, after, acquire, of_producer, route, send, send_by}
use Rattle.yard_model.specs.Producer as producer
use Rattle.yard_model.specs.Producer.{Producer, producer_after, new_producer, message_of, next_sending}
use Rattle.yard_model.specs.Region.{Region}
use Rattle.yard_model.specs.Script.{Script, IsScript, setting, sends}
use Rattle.yard_model.specs.SlotLists.{SlotLists, queue_list}
use Rattle.yard_model.specs.SlotReads.{epoch, holder, holder_step, queued, confirmed}
use Rattle.yard_model.specs.Spared.{Spared}
use Rattle.yard_model.specs.Turns.{for_each, where_some}
use Rattle.yard_model.specs.Words.{at}
use Rattle.yard_model.specs.World.{all_sends}
use Rattle.plain_laws.proofs.Booleans.{and_both, both, number_itself, true_is_not_false}
use Rattle.plain_laws.proofs.Lists.{all_join, by_place, inside, placed_at, placed_beside, some_is}
use Rattle.actor_laws.specs.Hands.{held_list}
use Rattle.actor_laws.specs.ProducerStands.{IsProducer, ProducerKeeps, ProducerRoutes, is_sent_well}
use Rattle.actor_laws.specs.RegionStands.{ShardsAreThere}
use Rattle.node_laws.specs.NodeStands.{IsSoundNode, IsProducerAt}
use Rattle.node_laws.specs.NodeTurns.{Promised}
use Rattle.node_laws.proofs.NodeMessages.{RouteLaws}
use Rattle.node_laws.proofs.NodeProducers.{above_zero, put}
use Rattle.coordinator_actor.specs.Held.{Held}
use Rattle.durable_queue.specs.Queue.{Queue}
use Rattle.shard_entities.specs.Lodged.{Lodged}
use Rattle.producer_ctl.specs.Produced.{Gives, and_then, pushing, acking, asking, queueing, resending, given}
use Rattle.producer_ctl.specs.Producing as producing
use Rattle.producer_ctl.specs.Producing.{Producing, no_routing, routing, moved_by, sending}
use Rattle.producer_ctl.specs.Routed.{calls, given_by}
use Rattle.shard_lease.specs.declared.leases.Acquire.{Acquire}
use Rattle.shard_lease.specs.declared.leases.Acquire.TheVariants as acquired
use Rattle.shard_lease.specs.Meaning.{Acquired, Meaning, Stays, Apart, Still, Hands, Refuses}
use Rattle.shard_store.specs.declared.store.Store.TheVariants as store
use Rattle.node_core.specs.Calling.{called, AreQueued, ConfirmsQueued, IsQueueGrant, TookQueue, asks_queue, is_for_producer, producer_rule, with_queue}
use Rattle.node_core.specs.Found.{none, asks}
use Rattle.node_core.specs.Gave.{Moment, moment, Gave}
use Rattle.node_core.specs.Leased.{Rests, GaveQueue, is_for_coordinator}
use Rattle.node_core.specs.Standing.{Standing, node_of, standing_of}
use Rattle.node_core.specs.Still.{is_still, is_still_move, is_held_of}
use Rattle.node_core.specs.Went.{Went}
use Rattle.node_core.proofs.AskLaws.{Takes, asks_is, asks_itself, granted_gave, refused_gave}
use Rattle.node_core.proofs.CallLaws.{AreFit, IsFit, moved_is, queue_went, sends_called}
use Rattle.node_core.proofs.CrashLaws.{places_apart, queue_frees}
use Rattle.node_core.proofs.FitLaws.{ack_fits, request_fits, resend_fits, send_fits}
use Rattle.node_core.proofs.GaveLaws.{gave_asked, gave_nothing, gave_same}
use Rattle.node_core.proofs.GiveLaws.{map_still}
use Rattle.node_core.proofs.LetGoLaws.{freed_gave}
use Rattle.node_core.proofs.StepLaws.{went_gave}
use Rattle.node_core.proofs.StillEntities.{still_more}
use Rattle.node_core.proofs.StillQueue.{queue_within, confirm_within}
use Rattle.node_core.proofs.StillRoutes.{each_still, routed_calm, still_both}

-- Moves of a producer by which its queue stays, and it stands.

pub record IsKept (c : Script) (m : Meaning) (k : Producer) (ms : List Move) : Type 0 where
  pub still : list_all (is_still_move m c (asks (slot.Queue k.number))) ms ≡ true
  pub stands : IsProducer c (fold producer_after k ms)

-- the number stays
number_stays : (k : Producer) (ms : List Move) → (fold producer_after k ms).number ≡ k.number
number_stays k [] = refl
number_stays k (m ∷ ms) = number_stays (producer_after k m) ms

kept_then : (c : Script) (m : Meaning) (f : Producer → List Move) (q : Producer → Gives) (k : Producer) → IsKept c m k (f k) → IsKept c m (fold producer_after k (f k)) (q (fold producer_after k (f k))).moves → IsKept c m k (and_then f q k).moves
kept_then c m f q k one two =
    let ms : List Move = (q (fold producer_after k (f k))).moves in
    record {
      still = all_join (is_still_move m c (asks (slot.Queue k.number))) (f k) ms one.still (subst (λ n. list_all (is_still_move m c (asks (slot.Queue n))) ms ≡ true) (number_stays k (f k)) two.still);
      stands = subst (IsProducer c) (sym (fold-append producer_after k (f k) ms)) two.stands;
    }

module _ (keeps : ProducerKeeps) (c : Script) (m : Meaning) where
  kept_push : (e : List ℕ) (k : Producer) → IsProducer c k → IsKept c m k (pushing e k).moves
  kept_push e k stands = record { still = refl; stands = ((keeps c k stands).pushes e).stands }

  kept_confirm : (e : List ℕ) (n : ℕ) (k : Producer) → IsProducer c k → n ≤ queued e k.entries → m.vouches e k.number n ≡ true → IsKept c m k (producer.confirm e n k)
  kept_confirm e n k stands there vouched = record { still = confirm_within c m (asks (slot.Queue k.number)) e n k (asks_itself (slot.Queue k.number)) vouched; stands = ((keeps c k stands).confirms e n there).stands }

  pub kept_ack : (e : List ℕ) (n : ℕ) (k : Producer) → IsProducer c k → n ≤ queued e k.entries → m.vouches e k.number n ≡ true → IsKept c m k (acking e n k).moves
  kept_ack e n k stands there vouched =
      let one : IsKept c m k (producer.confirm e n k) = kept_confirm e n k stands there vouched in
      kept_then c m (producer.confirm e n) (pushing e) k one (kept_push e (fold producer_after k (producer.confirm e n k)) one.stands)

  pub kept_ask : (e : List ℕ) (n u : ℕ) (k : Producer) → IsProducer c k → n ≤ queued e k.entries → m.vouches e k.number n ≡ true → IsKept c m k (asking e n u k).moves
  kept_ask e n u k stands there vouched =
      let one : IsKept c m k (producer.confirm e n k) = kept_confirm e n k stands there vouched in
      let j : Producer = fold producer_after k (producer.confirm e n k) in
      let two : IsProducer c (producer_after j (demanded e u)) = ((keeps c j one.stands).demands e u).stands in
      kept_then c m (producer.confirm e n) (and_then (λ st. demanded e u ∷ []) (pushing e)) k one
      (kept_then c m (λ st. demanded e u ∷ []) (pushing e) j (record { still = refl; stands = two }) (kept_push e (producer_after j (demanded e u)) two))

  pub kept_queue : (x : Sending) (k : Producer) → IsProducer c k → next_sending (sends c k.number) k ≡ Some x → IsKept c m k (queueing x k).moves
  kept_queue x k stands next =
      let one : IsKept c m k (producer.queue x k) = record { still = queue_within c m (asks (slot.Queue k.number)) x k (asks_itself (slot.Queue k.number)); stands = ((keeps c k stands).queues x next).stands } in
      kept_then c m (producer.queue x) (pushing x.entity) k one (kept_push x.entity (fold producer_after k (producer.queue x k)) one.stands)

-- A call, whole.

-- a producer that stands at its place
put_sound : (c : Script) (st : Node) (p : ℕ) (k : Producer) → IsSoundNode c st → 0 < p → p - 1 < length st.producers → IsProducerAt c st.who p k → IsSoundNode c (put st p (Some k))
put_sound c st p k is above less here = record {
  who_is = is.who_is;
  set_is = is.set_is;
  region = is.region;
  region_who = is.region_who;
  different = is.different;
  entities = is.entities;
  entities_who = is.entities_who;
  producers_full = length-set st.producers (p - 1) (Some k) ∙ is.producers_full;
  producers = λ q j up e. by_place (IsProducerAt c st.who q j) (q - 1) (p - 1)
      (λ same. subst (λ n. IsProducerAt c st.who n j) (let e : p ≡ q = omega (arith, above, up, same) in e)
      (subst (IsProducerAt c st.who p) (some_is k j (sym (placed_at st.producers (p - 1) (Some k) less) ∙ (ap (at (slice_set st.producers (p - 1) (Some k))) (sym same) ∙ e))) here))
      (λ other. is.producers q j up (sym (placed_beside st.producers (p - 1) (q - 1) (Some k) other) ∙ e));
  coordinator = is.coordinator;
}

who_stays : (k : Producer) (ms : List Move) → (fold producer_after k ms).who ≡ k.who
who_stays k [] = refl
who_stays k (m ∷ ms) = who_stays (producer_after k m) ms

-- its queue is one that it may write
queue_may : (c : Script) (st : Node) (p : ℕ) (k : Producer) → is_producer c p ≡ true → at st.producers (p - 1) ≡ Some k → (s : Slot) → asks (slot.Queue p) s ≡ true → is_held_of c st (asks (slot.Queue p)) s ≡ true
queue_may c st p k valid found s h = subst (λ z. is_held_of c st (asks (slot.Queue p)) z ≡ true) (asks_is (slot.Queue p) s h)
    (both (asks (slot.Queue p) (slot.Queue p) && is_producer c p) (is_some (option_map (λ (x : Producer). x.entries) (at st.producers (p - 1)))) (both (asks (slot.Queue p) (slot.Queue p)) (is_producer c p) (asks_itself (slot.Queue p)) valid)
    (ap (λ o. is_some (option_map (λ (x : Producer). x.entries) o)) found))

abbrev pub AreKept : Script → Meaning → ℕ → (Producer → Option Gives) → Node → Type 0
AreKept c m p F st = (k : Producer) → at st.producers (p - 1) ≡ Some k → IfSome (F k) (λ g. IsKept c m k g.moves)

pub called_gave : (m : Meaning) (v x : Standing) (p : ℕ) (F : Producer → Option Gives) (before late : Spared Item) → RouteLaws → ShardsAreThere → IsScript v.script → IsSoundNode v.script v.state → is_producer v.script p ≡ true → AreFit v.script p F v.state → AreKept v.script m p F v.state
    → Rests m v.script v.state → Went v x before late (called p F v.state) → Gave v.script none (λ lists. called p F v.state) (moment m v.state before.items) (moment m x.state late.items)
called_gave m v x p F before late laws there script sound valid fit kept rests went = went_gave m v x (called p F v.state) before late sound.entities.set_is (by (at v.state.producers (p - 1)) refl) rests went
  where
    c : Script
    c = v.script

    st : Node
    st = v.state

    by_given : (k : Producer) → at st.producers (p - 1) ≡ Some k → (o : Option Gives) → IfSome o (IsFit c k) → IfSome o (λ g. IsKept c m k g.moves) → list_all (is_still c m st) (where_some (λ g. given_by p g k st) o) ≡ true
    by_given k found None fits keeps = refl
    by_given k found (Some g) fits keeps =
        let here : IsProducerAt c st.who p k = sound.producers p k (above_zero p c.config.producers valid).0 found in
        let j : Producer = fold producer_after k g.moves in
        let moves : list_all (is_still c m st) (map (by_producer p) g.moves) ≡ true = map_still c m st (by_producer p) (is_held_of c st (asks (slot.Queue p))) (λ y. refl) g.moves
        (still_more c m (asks (slot.Queue p)) (is_held_of c st (asks (slot.Queue p))) (queue_may c st p k valid found) g.moves
        (subst (λ n. list_all (is_still_move m c (asks (slot.Queue n))) g.moves ≡ true) here.number_is keeps.still)) in
        let mid : IsSoundNode c (fold after st (map (by_producer p) g.moves)) = subst (IsSoundNode c) (sym (moved_is st p k g.moves found fits.plain))
        (put_sound c st p j sound (above_zero p c.config.producers valid).0 (inside st.producers (p - 1) k found) (record { stands = keeps.stands; who_is = who_stays k g.moves ∙ here.who_is; number_is = number_stays k g.moves ∙ here.number_is })) in
        still_both c m st (map (by_producer p) g.moves) (for_each after (λ n. route (message_of g.entity j n)) g.numbers (fold after st (map (by_producer p) g.moves))) sound.entities.set_is moves
        (each_still c m (λ n. route (message_of g.entity j n)) (is_sent_well c g.entity j) (λ n good. routed_calm c m (message_of g.entity j n) laws there script good) g.numbers fits.well (fold after st (map (by_producer p) g.moves)) mid)

    by : (o : Option Producer) → at st.producers (p - 1) ≡ o → list_all (is_still c m st) (where_some (λ k. where_some (λ g. given_by p g k st) (F k)) o) ≡ true
    by None found = refl
    by (Some k) found = by_given k found (F k) (fit k found) (kept k found)

-- What packets confirm is queued, and vouched for.

pub confirms_queued : (v : List ℕ → ℕ → ℕ → Bool) (st : Node) (b : Body) → Promised v st b → ConfirmsQueued b st
confirms_queued v st (body.Request p e n u) h = by (at st.producers (p - 1)) refl
  where
    by : (o : Option Producer) → at st.producers (p - 1) ≡ o → IfSome o (λ (k : Producer). n ≤ queued e k.entries)
    by None found = tt
    by (Some k) found = (h k found).0
confirms_queued v st (body.Ack p e n) h = by (at st.producers (p - 1)) refl
  where
    by : (o : Option Producer) → at st.producers (p - 1) ≡ o → IfSome o (λ (k : Producer). n ≤ queued e k.entries)
    by None found = tt
    by (Some k) found = (h k found).0
confirms_queued v st b h = tt

-- A queue that is given back.

pub rest_gave : (c : Script) (old new : Meaning) (r : Region) (e : Lodged) (ps now : Producing) (k : Option Held) (p : ℕ) (before late : Spared Item) → is_producer c p ≡ true → IsSoundNode c (node_of c r e ps k) → ps.script ≡ c → ps.who ≡ r.who → Rests old c (node_of c r e ps k)
    → now ≡ routing no_routing (moved_by p ps (where_some producer.give_back (producing.held p ps))) → late ≡ given before (where_some producer.give_back (producing.held p ps))
    → (o : Option Queue) → MatchOption o (producing.held p ps ≡ None) (producing.IsStore ps p) → MatchOption o (new ≡ old) (λ x. GaveQueue old r.who p x.entries new)
    → Gave c none (λ lists. of_producer p producer.give_back (node_of c r e ps k)) (moment old (node_of c r e ps k) before.items) (moment new (node_of c r e now k) late.items)
rest_gave c old new r e ps now k p before late valid sound script who rests goes tells None free back =
    let st : Node = node_of c r e ps k in
    let same : now.producers ≡ ps.producers = ap (λ (v : Producing). v.producers) goes ∙ ap (λ o. (moved_by p ps (where_some producer.give_back o)).producers) free in
    let items : late.items ≡ before.items = ap (λ (x : Spared Item). x.items) tells ∙ ap (λ o. (given before (where_some producer.give_back o)).items) free in
    subst (λ (n : Meaning). Gave c none (λ lists. of_producer p producer.give_back st) (moment old st before.items) (moment n (node_of c r e now k) late.items)) (sym back)
    (subst (λ ps2. Gave c none (λ lists. of_producer p producer.give_back st) (moment old st before.items) (moment old (record st { producers = ps2 }) late.items)) (sym same)
    (subst (λ is. Gave c none (λ lists. of_producer p producer.give_back st) (moment old st before.items) (moment old st is)) (sym items)
    (gave_same c none (λ lists. []) (λ lists. of_producer p producer.give_back st) (moment old st before.items) (moment old st before.items) (λ lists. ap (where_some (λ j. map (by_producer p) (producer.give_back j))) (sym free)) (gave_nothing c (moment old st before.items) rests))))
rest_gave c old new r e ps now k p before late valid sound script who rests goes tells (Some x) is back = by (at ps.producers (p - 1)) refl
  where
    st : Node
    st = node_of c r e ps k

    end : Fact
    end = fact.Freed (slot.Queue p) (epoch x.entries) cause.Released

    by : (o : Option Producer) → at ps.producers (p - 1) ≡ o → Gave c none (λ lists. of_producer p producer.give_back st) (moment old st before.items) (moment new (node_of c r e now k) late.items)
    by None found = absurd (none_is (sym (ap (option_map (λ (y : Producer). y.entries)) found) ∙ is.entries_are))
      where
        none_is : None ≡ Some x.entries → ⊥
        none_is h = cc
    by (Some j) found =
        let entries : j.entries ≡ x.entries = some_is j.entries x.entries (sym (ap (option_map (λ (y : Producer). y.entries)) found) ∙ is.entries_are) in
        let number : j.number ≡ p = (sound.producers p j (above_zero p c.config.producers valid).0 found).number_is in
        let moves : where_some producer.give_back (at ps.producers (p - 1)) ≡ told end ∷ [] = ap (where_some producer.give_back) found ∙ (ap (λ n. told (fact.Freed (slot.Queue n) (epoch j.entries) cause.Released) ∷ []) number ∙ ap (λ l. told (fact.Freed (slot.Queue p) (epoch l) cause.Released) ∷ []) entries) in
        let acts : by_producer p (told end) ∷ [] ≡ of_producer p producer.give_back st = sym (ap (where_some (λ i. map (by_producer p) (producer.give_back i))) found ∙ (ap (λ n. by_producer p (told (fact.Freed (slot.Queue n) (epoch j.entries) cause.Released)) ∷ []) number ∙ ap (λ l. by_producer p (told (fact.Freed (slot.Queue p) (epoch l) cause.Released)) ∷ []) entries)) in
        let to : now.producers ≡ slice_set ps.producers (p - 1) None = ap (λ (v : Producing). v.producers) goes ∙ ap (λ ms. (moved_by p ps ms).producers) moves in
        let items : late.items ≡ before.items ++ item.Fact end ∷ [] = ap (λ (y : Spared Item). y.items) tells ∙ ap (λ ms. (given before ms).items) moves in
        subst (λ ps2. Gave c none (λ lists. of_producer p producer.give_back st) (moment old st before.items) (moment new (record st { producers = ps2 }) late.items)) (sym to)
        (subst (λ is2. Gave c none (λ lists. of_producer p producer.give_back st) (moment old st before.items) (moment new (node_of c r e (producing.without p ps) k) is2)) (sym items)
        (gave_same c none (λ lists. by_producer p (told end) ∷ []) (λ lists. of_producer p producer.give_back st) (moment old st before.items) (moment new (node_of c r e (producing.without p ps) k) (before.items ++ item.Fact end ∷ [])) (λ lists. acts)
        (freed_gave c (slot.Queue p) cause.Released (by_producer p) old new st (node_of c r e (producing.without p ps) k) x.entries before.items valid is.entries_are (λ m. refl) rests back.stays back.freed (queue_frees c r e ps k p valid) refl)))

-- A queue that is asked for.

module _ (c : Script) (old new : Meaning) (v : Standing) (p : ℕ) (before : List Item) (valid : is_producer c p ≡ true) (free : at v.state.producers (p - 1) ≡ None) (rests : Rests old c v.state) (stays : Stays old new) where
  abbrev asked : SlotLists → List Act
  asked lists = map (by_producer p) (acquire (slot.Queue p) v.state.who (queue_list lists p))

  queue_granted : (x : Queue) → p - 1 < length v.state.producers → Hands old v.state.who (slot.Queue p) (store.Queue x) new → Apart v.state.who.node (slot.Queue p) old new
      → Gave c (asks (slot.Queue p)) asked (moment old v.state before) (moment new (with_queue p x v).state (before ++ item.Fact (fact.Granted (slot.Queue p) (epoch x.entries) v.state.who) ∷ []))
  queue_granted x less h apart =
      granted_gave c (slot.Queue p) (by_producer p) old new v.state (with_queue p x v).state (store.Queue x) before valid (ap (option_map (λ (k : Producer). k.entries)) free) (λ m. refl) rests stays h apart goes
      (record { held_is = ap (option_map (λ (k : Producer). k.entries)) (placed_at v.state.producers (p - 1) taken less); else_is = others })
    where
      taken : Option Producer
      taken = Some (new_producer v.state.set v.state.who p x.entries)

      goes : (n : ℕ) → (with_queue p x v).state ≡ fold after v.state (map (by_producer p) (told (fact.Granted (slot.Queue p) n v.state.who) ∷ took (slot.Queue p) x.entries ∷ []))
      goes n = sym (ap (λ o. put (put v.state p (producer_by v.state.set v.state.who p o (told (fact.Granted (slot.Queue p) n v.state.who)))) p taken) free ∙ ap (λ l. record v.state { producers = l }) (set-set v.state.producers (p - 1) None taken))

      others : (t : Slot) → is_slot_of c t ≡ true → t ≢ slot.Queue p → held_list t (with_queue p x v).state ≡ held_list t v.state
      others (slot.Shard s) here other = refl
      others slot.Coordinator here other = refl
      others (slot.Queue q) here other = ap (option_map (λ (k : Producer). k.entries)) (placed_beside v.state.producers (p - 1) (q - 1) taken (places_apart c p q valid here other))

  queue_refused : (node : ℕ) → Refuses old v.state.who (slot.Queue p) node → Still old new
      → Gave c (asks (slot.Queue p)) asked (moment old v.state before) (moment new v.state (before ++ item.Fact (fact.Held (slot.Queue p) v.state.who node) ∷ []))
  queue_refused node h still =
      refused_gave c (slot.Queue p) (by_producer p) old new v.state node before valid (ap (option_map (λ (k : Producer). k.entries)) free) (λ m. refl) lawful rests stays h still
      (ap (λ l. record v.state { producers = l }) (sym (ap (λ o. slice_set v.state.producers (p - 1) (producer_by v.state.set v.state.who p o (told (fact.Held (slot.Queue p) v.state.who node)))) free ∙ (ap (slice_set v.state.producers (p - 1)) (sym free) ∙ set-get_or v.state.producers (p - 1) None))))
    where
      lawful : own c (slot.Queue p) (fact.Granted (slot.Queue p) 1 (record { node = node; number = 1 }) ∷ []) ≡ true
      lawful = both ((p == p) && is_node c (record { node = node; number = 1 })) true (both (p == p) (is_node c (record { node = node; number = 1 })) (number_itself p p refl) (subst (λ d. is_node d (record { node = node; number = 1 }) ≡ true) rests.script_is h.node_is)) refl

pub took_queue_gave : (c : Script) (old new : Meaning) (v w : Standing) (p : ℕ) (answer : Acquire) (before late : Spared Item) → is_producer c p ≡ true → p - 1 < length v.state.producers → at v.state.producers (p - 1) ≡ None → Rests old c v.state → Stays old new
    → Acquired old v.state.who (slot.Queue p) answer new → TookQueue p answer v w before late → Gave c (asks (slot.Queue p)) (λ lists. rules.produce lists p v.state) (moment old v.state before.items) (moment new w.state late.items)
took_queue_gave c old new v w p (acquired.Granted (store.Queue x)) before late valid less free rests stays a t =
    subst (λ (y : Standing). Gave c (asks (slot.Queue p)) (λ lists. rules.produce lists p v.state) (moment old v.state before.items) (moment new y.state late.items)) (sym t.0)
    (subst (λ (y : Spared Item). Gave c (asks (slot.Queue p)) (λ lists. rules.produce lists p v.state) (moment old v.state before.items) (moment new (with_queue p x v).state y.items)) (sym t.1)
    (gave_same c (asks (slot.Queue p)) (λ lists. map (by_producer p) (acquire (slot.Queue p) v.state.who (queue_list lists p))) (λ lists. rules.produce lists p v.state) (moment old v.state before.items)
    (moment new (with_queue p x v).state (before.items ++ item.Fact (fact.Granted (slot.Queue p) (epoch x.entries) v.state.who) ∷ []))
    (λ lists. ap (λ o. if is_none o then map (by_producer p) (acquire (slot.Queue p) v.state.who (queue_list lists p)) else []) (sym free)) (queue_granted c old new v p before.items valid free rests stays x less a.0 a.1)))
took_queue_gave c old new v w p (acquired.Granted (store.Shard x)) before late valid less free rests stays a t = absurd t
took_queue_gave c old new v w p (acquired.Granted (store.Coordinator x)) before late valid less free rests stays a t = absurd t
took_queue_gave c old new v w p (acquired.Held h) before late valid less free rests stays a t =
    subst (λ (y : Standing). Gave c (asks (slot.Queue p)) (λ lists. rules.produce lists p v.state) (moment old v.state before.items) (moment new y.state late.items)) (sym t.0)
    (subst (λ (y : Spared Item). Gave c (asks (slot.Queue p)) (λ lists. rules.produce lists p v.state) (moment old v.state before.items) (moment new v.state y.items)) (sym t.1)
    (gave_same c (asks (slot.Queue p)) (λ lists. map (by_producer p) (acquire (slot.Queue p) v.state.who (queue_list lists p))) (λ lists. rules.produce lists p v.state) (moment old v.state before.items)
    (moment new v.state (before.items ++ item.Fact (fact.Held (slot.Queue p) v.state.who h) ∷ []))
    (λ lists. ap (λ o. if is_none o then map (by_producer p) (acquire (slot.Queue p) v.state.who (queue_list lists p)) else []) (sym free)) (queue_refused c old new v p before.items valid free rests stays h a.0 a.1)))

-- a store that is handed out is of the queue, and leased
pub queue_granted_is : (c : Script) (old new : Meaning) (who : Incarnation) (p : ℕ) (answer : Acquire) → old.script ≡ c → Acquired old who (slot.Queue p) answer new → IsQueueGrant c who p answer
queue_granted_is c old new who p (acquired.Granted (store.Queue x)) same a = record {
  script_is = a.0.script_is ∙ same;
  producer_is = queue_same x.producer p a.0.slot_is;
  leased = ap holder a.0.list_is ∙ fold-append holder_step None a.0.before (fact.Granted (slot.Queue p) (epoch a.0.before + 1) who ∷ []);
}
  where
    queue_same : (i j : ℕ) → slot.Queue i ≡ slot.Queue j → i ≡ j
    queue_same i j e = cc
queue_granted_is c old new who p (acquired.Granted (store.Coordinator x)) same a = absurd (office_is_no_queue p a.0.slot_is)
  where
    office_is_no_queue : (i : ℕ) → slot.Coordinator ≡ slot.Queue i → ⊥
    office_is_no_queue i e = cc
queue_granted_is c old new who p (acquired.Granted (store.Shard x)) same a = absurd (shard_is_no_queue x.shard p a.0.slot_is)
  where
    shard_is_no_queue : (s i : ℕ) → slot.Shard s ≡ slot.Queue i → ⊥
    shard_is_no_queue s i e = cc
queue_granted_is c old new who p (acquired.Held h) same a = tt

-- Produce, whole.

pub produce_asks : (c : Script) (p : ℕ) (old new : Moment) → is_some (at old.node.producers (p - 1)) ≡ false → Gave c (asks (slot.Queue p)) (λ lists. rules.produce lists p old.node) old new → Gave c (asks_queue p old.node) (λ lists. rules.produce lists p old.node) old new
produce_asks c p old new away g = gave_asked c (asks (slot.Queue p)) (asks_queue p old.node) (λ lists. rules.produce lists p old.node) old new (λ s. by (at old.node.producers (p - 1)) away s) g
  where
    by : (o : Option Producer) → is_some o ≡ false → (s : Slot) → asks (slot.Queue p) s ≡ (is_none o && asks (slot.Queue p) s)
    by None h s = refl
    by (Some k) h s = absurd (true_is_not_false h)

pub produce_there : (c : Script) (p : ℕ) (now : Moment) → is_some (at now.node.producers (p - 1)) ≡ true → Rests now.meaning c now.node → Gave c (asks_queue p now.node) (λ lists. rules.produce lists p now.node) now now
produce_there c p now there rests =
    gave_asked c none (asks_queue p now.node) (λ lists. rules.produce lists p now.node) now now (λ s. sym (by s (at now.node.producers (p - 1)) there))
    (gave_same c none (λ lists. []) (λ lists. rules.produce lists p now.node) now now (λ lists. sym (by_acts (map (by_producer p) (acquire (slot.Queue p) now.node.who (queue_list lists p))) (at now.node.producers (p - 1)) there)) (gave_nothing c now rests))
  where
    by : (s : Slot) (o : Option Producer) → is_some o ≡ true → (is_none o && asks (slot.Queue p) s) ≡ false
    by s None h = absurd (true_is_not_false (sym h))
    by s (Some k) h = refl

    by_acts : (acts : List Act) (o : Option Producer) → is_some o ≡ true → (if is_none o then acts else []) ≡ []
    by_acts acts None h = absurd (true_is_not_false (sym h))
    by_acts acts (Some k) h = refl

pub not_there : {A : Type 0} (o : Option A) → is_some o ≡ false → o ≡ None
not_there None h = refl
not_there (Some x) h = absurd (true_is_not_false h)

-- Packets and inputs of producers.

module _ (keeps : ProducerKeeps) (routes : ProducerRoutes) (laws : RouteLaws) (there : ShardsAreThere) (m : Meaning) (v x : Standing) (script : IsScript v.script) (sound : IsSoundNode v.script v.state) (rests : Rests m v.script v.state) where
  kept_at : (p : ℕ) → is_producer v.script p ≡ true → (k : Producer) → at v.state.producers (p - 1) ≡ Some k → IsProducerAt v.script v.state.who p k
  kept_at p valid k found = sound.producers p k (above_zero p v.script.config.producers valid).0 found

  vouched_at : (p : ℕ) (e : List ℕ) (n : ℕ) (k : Producer) → k.number ≡ p → m.vouches e p n ≡ true → m.vouches e k.number n ≡ true
  vouched_at p e n k same h = subst (λ i. m.vouches e i n ≡ true) (sym same) h

  pub produced_gave : (b : Body) (before late : Spared Item) → ((p : ℕ) (e : List ℕ) (n u : ℕ) (st : Node) → rules.request p e n u st ≡ calls p (asking e n u) st) → ((p : ℕ) (e : List ℕ) (n : ℕ) (st : Node) → rules.ack p e n st ≡ calls p (acking e n) st)
      → ((p : ℕ) (e : List ℕ) (f : ℕ) (st : Node) → rules.route_numbers p e (producer.to_resend e f) st ≡ calls p (resending e f) st)
      → is_genuine_body v.script b ≡ true → Promised m.vouches v.state b → Went v x before late (producer_rule b v.state) → Gave v.script none (λ lists. producer_rule b v.state) (moment m v.state before.items) (moment m x.state late.items)
  produced_gave (body.Request p e n u) before late requests acks resends genuine promised went =
      let valid : is_producer v.script p ≡ true = (and_both (is_producer v.script p) (is_brought v.script e) (and_both (is_producer v.script p && is_brought v.script e) (u == n + v.script.config.window) genuine).0).0 in
      gave_same v.script none (λ lists. calls p (asking e n u) v.state) (λ lists. rules.request p e n u v.state) (moment m v.state before.items) (moment m x.state late.items) (λ lists. sym (requests p e n u v.state))
      (called_gave m v x p (λ k. Some (asking e n u k)) before late laws there script sound valid (request_fits keeps routes v.script v.state p sound valid e n u (confirms_queued m.vouches v.state (body.Request p e n u) promised))
      (λ k found. let here : IsProducerAt v.script v.state.who p k = kept_at p valid k found in kept_ask keeps v.script m e n u k here.stands (promised k found).0 (vouched_at p e n k here.number_is (promised k found).1)) rests
      (subst (λ acts. Went v x before late acts) (requests p e n u v.state) went))
  produced_gave (body.Ack p e n) before late requests acks resends genuine promised went =
      let valid : is_producer v.script p ≡ true = (and_both (is_producer v.script p) (is_brought v.script e) genuine).0 in
      gave_same v.script none (λ lists. calls p (acking e n) v.state) (λ lists. rules.ack p e n v.state) (moment m v.state before.items) (moment m x.state late.items) (λ lists. sym (acks p e n v.state))
      (called_gave m v x p (λ k. Some (acking e n k)) before late laws there script sound valid (ack_fits keeps routes v.script v.state p sound valid e n (confirms_queued m.vouches v.state (body.Ack p e n) promised))
      (λ k found. let here : IsProducerAt v.script v.state.who p k = kept_at p valid k found in kept_ack keeps v.script m e n k here.stands (promised k found).0 (vouched_at p e n k here.number_is (promised k found).1)) rests
      (subst (λ acts. Went v x before late acts) (acks p e n v.state) went))
  produced_gave (body.Resend p e f) before late requests acks resends genuine promised went =
      let valid : is_producer v.script p ≡ true = (and_both (is_producer v.script p) (is_brought v.script e) genuine).0 in
      gave_same v.script none (λ lists. calls p (resending e f) v.state) (λ lists. rules.route_numbers p e (producer.to_resend e f) v.state) (moment m v.state before.items) (moment m x.state late.items) (λ lists. sym (resends p e f v.state))
      (called_gave m v x p (λ k. Some (resending e f k)) before late laws there script sound valid (resend_fits keeps routes v.script v.state p sound valid e f)
      (λ k found. record { still = refl; stands = (kept_at p valid k found).stands }) rests
      (subst (λ acts. Went v x before late acts) (resends p e f v.state) went))
  produced_gave b before late requests acks resends genuine promised went = went_gave m v x [] before late sound.entities.set_is refl rests went

  pub sent_gave : (p : ℕ) (before late : Spared Item) → ((p : ℕ) (y : Sending) (st : Node) → send_by p (Some y) st ≡ calls p (queueing y) st) → is_producer v.script p ≡ true → Went v x before late (send (all_sends v.script) p v.state)
      → Gave v.script none (λ lists. send (all_sends v.script) p v.state) (moment m v.state before.items) (moment m x.state late.items)
  sent_gave p before late law valid went =
      gave_same v.script none (λ lists. called p (sending (sends v.script p)) v.state) (λ lists. send (all_sends v.script) p v.state) (moment m v.state before.items) (moment m x.state late.items) (λ lists. sends_called law v.script p v.state valid)
      (called_gave m v x p (sending (sends v.script p)) before late laws there script sound valid (send_fits keeps routes v.script v.state p sound valid) kept rests
      (subst (λ acts. Went v x before late acts) (sym (sends_called law v.script p v.state valid)) went))
    where
      kept : AreKept v.script m p (sending (sends v.script p)) v.state
      kept k found = by (next_sending (sends v.script p) k) refl
        where
          by : (o : Option Sending) → next_sending (sends v.script p) k ≡ o → IfSome (option_map (λ y. queueing y k) o) (λ g. IsKept v.script m k g.moves)
          by None next = tt
          by (Some y) next =
              let here : IsProducerAt v.script v.state.who p k = kept_at p valid k found in
              kept_queue keeps v.script m y k here.stands (subst (λ n. next_sending (sends v.script n) k ≡ Some y) (sym here.number_is) next)

-- so of the rule of a packet
pub producer_packet : (lists : SlotLists) (from : Incarnation) (b : Body) (st : Node) → is_for_producer b ≡ true → producer_rule b st ≡ rules.packet lists from b st
producer_packet lists from (body.Request p e n u) st h = refl
producer_packet lists from (body.Resend p e f) st h = refl
producer_packet lists from (body.Ack p e n) st h = refl
producer_packet lists from b st h = absurd (true_is_not_false (sym h))

-- every other packet is for the coordinator, or one of these
pub no_other : (b : Body) → is_for_coordinator b ≡ false → is_for_producer b ≡ false → ((version : ℕ) (members : _) → b ≡ body.View version members → ⊥) → (b ≡ body.RegisterAck → ⊥) → ((s : ℕ) (h : Incarnation) (stamp : _) → b ≡ body.ShardHome s h stamp → ⊥)
    → ((s : ℕ) (stamp : _) → b ≡ body.HostShard s stamp → ⊥) → ((s : ℕ) (stamp : _) → b ≡ body.BeginHandOff s stamp → ⊥) → ((s : ℕ) (stamp : _) → b ≡ body.HandOff s stamp → ⊥)
    → ((e : List ℕ) → b ≡ body.StopEntity e → ⊥) → ((e : List ℕ) → b ≡ body.Recovered e → ⊥) → ((e : List ℕ) → b ≡ body.Passivate e → ⊥) → ((m : _) → b ≡ body.Sequenced m → ⊥) → ⊥
no_other (body.View version members) h k a1 a2 a3 a4 a5 a6 a7 a8 a9 a10 = a1 version members refl
no_other body.RegisterAck h k a1 a2 a3 a4 a5 a6 a7 a8 a9 a10 = a2 refl
no_other (body.ShardHome s home stamp) h k a1 a2 a3 a4 a5 a6 a7 a8 a9 a10 = a3 s home stamp refl
no_other (body.HostShard s stamp) h k a1 a2 a3 a4 a5 a6 a7 a8 a9 a10 = a4 s stamp refl
no_other (body.BeginHandOff s stamp) h k a1 a2 a3 a4 a5 a6 a7 a8 a9 a10 = a5 s stamp refl
no_other (body.HandOff s stamp) h k a1 a2 a3 a4 a5 a6 a7 a8 a9 a10 = a6 s stamp refl
no_other (body.StopEntity e) h k a1 a2 a3 a4 a5 a6 a7 a8 a9 a10 = a7 e refl
no_other (body.Recovered e) h k a1 a2 a3 a4 a5 a6 a7 a8 a9 a10 = a8 e refl
no_other (body.Passivate e) h k a1 a2 a3 a4 a5 a6 a7 a8 a9 a10 = a9 e refl
no_other (body.Sequenced m) h k a1 a2 a3 a4 a5 a6 a7 a8 a9 a10 = a10 m refl
no_other (body.Request p e n u) h k a1 a2 a3 a4 a5 a6 a7 a8 a9 a10 = true_is_not_false k
no_other (body.Resend p e f) h k a1 a2 a3 a4 a5 a6 a7 a8 a9 a10 = true_is_not_false k
no_other (body.Ack p e n) h k a1 a2 a3 a4 a5 a6 a7 a8 a9 a10 = true_is_not_false k
no_other b h k a1 a2 a3 a4 a5 a6 a7 a8 a9 a10 = true_is_not_false h
