-- What the items of the producers' rules show of their node is what the acts do to it; and the node stays tidy.
use Rattle.std.proofs.Common.{◌≡◌, ◌<◌, ◌≤◌, ℕ, ◌+◌, ◌-◌, List, [], ◌∷◌, ◌++◌, length, map, sym, ap, ap₂, subst, ◌∙◌, refl, true, false, true≢false, arith}
use Rattle.std.specs.Prelude.{Bool, min, max, nat_lt, fold, Option, Some, None, is_none, slice_index_or, slice_set, if◌then◌else◌}
use Rattle.std.specs.List.{list_all, flat_map}
use Rattle.std.specs.Option.{option_map}
use Rattle.std.proofs.lemmas.Bool.Decides.{nat_tests}
use Rattle.std.proofs.lemmas.Grind.{flat_map-append}
use Rattle.std.proofs.lemmas.List.{append-nil, map-append}
use Rattle.std.proofs.lemmas.List.Sums.{fold-append}
use Rattle.yard_model.specs.declared.fact.Fact.{Fact}
use Rattle.yard_model.specs.declared.fact.Fact.TheVariants as fact
use Rattle.yard_model.specs.declared.out.Item.TheVariants as item
use Rattle.yard_model.specs.declared.input.Input.{Input}
use Rattle.yard_model.specs.declared.input.Input.TheVariants as input
use Rattle.yard_model.specs.declared.packet.Body.TheVariants as body
use Rattle.yard_model.specs.declared.packet.Message.{Message}
use Rattle.yard_model.specs.declared.event.Command.{Command}
use Rattle.yard_model.specs.declared.charter.Sending.{Sending}
use Rattle.yard_model.specs.declared.incarnation.Incarnation.{Incarnation}
use Rattle.yard_model.specs.declared.incarnation.Slot.TheVariants as slot
use Rattle.yard_model.specs.declared.incarnation.Cause.TheVariants as cause
use Rattle.yard_model.specs.Move.{Move, took, demanded, pushed, told, item_of}
use Rattle.yard_model.specs.Node.{Node, Act, by_producer, move_of, producers_part, after, items_of, of_producer, all_in_turn, acquire_by, acquire, route, route_numbers, push, send_by, produce, send_again, request, ack, packet, turn}
use Rattle.yard_model.specs.Producer as producer
use Rattle.yard_model.specs.Producer.{Producer, Progress, producer_after}
use Rattle.yard_model.specs.Queries.{Known, show_item, show_push}
use Rattle.yard_model.specs.Script.{Script, Setting, is_name}
use Rattle.yard_model.specs.Setting.{place, producers}
use Rattle.yard_model.specs.SlotLists.{SlotLists, queue_list}
use Rattle.yard_model.specs.SlotReads.{holder, epoch, commands_step, confirmed, confirmed_step, queued}
use Rattle.yard_model.specs.Turns.{in_turn, for_each, where_some}
use Rattle.yard_model.specs.Words.{at}
use Rattle.plain_laws.proofs.Booleans.{and_both}
use Rattle.plain_laws.proofs.Lists.{none_is_not_some, inside, placed_at, all_join, all_some, all_each, none_of, of_write}
use Rattle.yard_laws.proofs.PartsLaws.{producer_alone, producer_items, parts_are_folds}
use Rattle.node_laws.specs.NodeStands.{IsSoundNode}
use Rattle.node_laws.proofs.NodeParts.{set_stays, who_stays}
use Rattle.node_laws.proofs.NodeProducers.{put, is_producing, producer_move}
use Rattle.query_laws.specs.Shown.{IsTidy, IsShown, known_after, opened, shown}
use Rattle.query_laws.proofs.ShowApart.{is_apart, producers_stay, own_shown, route_apart}
use Rattle.query_laws.proofs.ShowBase.{AreShown, AreShownBeside, with_producers, known_on, beside_both, same_some}
use Rattle.query_laws.proofs.ShowInputs.{packet_for, queues_again}
use Rattle.query_laws.proofs.ShowMoves.{set_itself, set_again, set_made}
use Rattle.query_laws.proofs.ShowRegion.{route_shown, route_tidy, same_sets}
use Rattle.query_laws.proofs.ShowTick.{sound_well}

-- Routing one message after another.

-- what routing asks for
pub record IsReady (st : Node) : Type 0 where
  pub tidy : IsTidy st
  pub set_is : st.region.set ≡ st.set

pub record GoesOn (k : Known) (st : Node) (acts : List Act) : Type 0 where
  pub shows : AreShownBeside k st acts
  pub ready : IsReady (fold after st acts)

pub sound_ready : (c : Script) (st : Node) → IsSoundNode c st → IsTidy st → IsReady st
sound_ready c st is tidy = record { tidy = tidy; set_is = (sound_well c st is).set_is }

goes_none : (k : Known) (st : Node) → IsReady st → GoesOn k st []
goes_none k st r = record { shows = λ ps. refl; ready = r }

goes_both : (k : Known) (st : Node) (xs ys : List Act) → GoesOn k st xs → GoesOn (known_on k (items_of xs)) (fold after st xs) ys → GoesOn k st (xs ++ ys)
goes_both k st xs ys f g = record { shows = beside_both k st xs ys f.shows g.shows; ready = subst IsReady (sym (fold-append after st xs ys)) g.ready }

route_goes : (k : Known) (m : Message) (st : Node) → IsReady st → GoesOn k st (route m st)
route_goes k m st r = record { shows = route_shown k m st r.tidy.started; ready = record { tidy = route_tidy m st r.set_is r.tidy; set_is = same_sets st (route m st) r.set_is } }

routes_go : (k : Known) (message : ℕ → Message) (ns : List ℕ) (st : Node) → IsReady st → GoesOn k st (for_each after (λ n. route (message n)) ns st)
routes_go k message [] st r = goes_none k st r
routes_go k message (n ∷ ns) st r =
    let acts : List Act = route (message n) st in
    let first : GoesOn k st acts = route_goes k (message n) st r in
    goes_both k st acts (for_each after (λ n. route (message n)) ns (fold after st acts)) first (routes_go (known_on k (items_of acts)) message ns (fold after st acts) first.ready)

routes_apart : (message : ℕ → Message) (ns : List ℕ) (st : Node) → list_all is_apart (for_each after (λ n. route (message n)) ns st) ≡ true
routes_apart message [] st = refl
routes_apart message (n ∷ ns) st =
    let acts : List Act = route (message n) st in
    all_join is_apart acts (for_each after (λ n. route (message n)) ns (fold after st acts)) (route_apart (message n) st) (routes_apart message ns (fold after st acts))

pub numbers_go : (k : Known) (p : ℕ) (e : List ℕ) (f : Producer → List ℕ) (st : Node) → IsReady st → GoesOn k st (route_numbers p e f st)
numbers_go k p e f st r = by (at st.producers (p - 1))
  where
    by : (o : Option Producer) → GoesOn k st (where_some (λ j. for_each after (λ n. route (producer.message_of e j n)) (f j) st) o)
    by None = goes_none k st r
    by (Some j) = routes_go k (producer.message_of e j) (f j) st r

pub numbers_apart : (p : ℕ) (e : List ℕ) (f : Producer → List ℕ) (st : Node) → list_all is_apart (route_numbers p e f st) ≡ true
numbers_apart p e f st = all_some is_apart (λ j. for_each after (λ n. route (producer.message_of e j n)) (f j) st) (at st.producers (p - 1)) (λ j. routes_apart (producer.message_of e j) (f j) st)

-- what goes on whatever the producers have been shown, with the node's own
own_goes : (k : Known) (st : Node) (acts : List Act) → GoesOn k st acts → list_all is_apart acts ≡ true → AreShown k st acts
own_goes k st acts g h = own_shown k st st acts g.shows refl h

-- Silent moves of a producer.

silent_rule : (p : ℕ) (f : Producer → List Move) (st : Node) → ((j : Producer) → flat_map item_of (f j) ≡ []) → items_of (of_producer p f st) ≡ []
silent_rule p f st h = by (at st.producers (p - 1))
  where
    by : (o : Option Producer) → items_of (where_some (λ j. map (by_producer p) (f j)) o) ≡ []
    by None = refl
    by (Some j) = producer_items p (f j) ∙ h j

moves_ready : (st : Node) (p : ℕ) (ms : List Move) → IsReady st → IsReady (fold after st (map (by_producer p) ms))
moves_ready st p ms r = subst IsReady (sym (producer_alone st p ms)) (record { tidy = record { routed = r.tidy.routed; started = r.tidy.started }; set_is = r.set_is })

rule_ready : (st now : Node) (p : ℕ) (f : Producer → List Move) → IsReady st → IsReady (fold after st (of_producer p f now))
rule_ready st now p f r = by (at now.producers (p - 1))
  where
    by : (o : Option Producer) → IsReady (fold after st (where_some (λ j. map (by_producer p) (f j)) o))
    by None = r
    by (Some j) = moves_ready st p (f j) r

-- silent acts, and then others, where the silent ones are shown already
after_silent : (k : Known) (st : Node) (xs ys : List Act) → items_of xs ≡ [] → AreShown k (fold after st xs) ys → shown k (fold after st xs) (items_of (xs ++ ys)) ≡ fold after st (xs ++ ys)
after_silent k st xs ys none f =
    ap (shown k (fold after st xs)) (flat_map-append (λ a. item_of (move_of a)) xs ys ∙ ap (λ is. is ++ items_of ys) none) ∙ (f ∙ sym (fold-append after st xs ys))

-- Push: its marks are shown already.

pub push_goes : (k : Known) (p : ℕ) (e : List ℕ) (st : Node) → IsReady st → (shown k (fold after st (show_push p e st)) (items_of (push p e st)) ≡ fold after st (push p e st)) × IsReady (fold after st (push p e st))
push_goes k p e st r = by (at st.producers (p - 1)) refl
  where
    marks : List Act
    marks = show_push p e st

    mid : Node
    mid = fold after st marks

    mid_ready : IsReady mid
    mid_ready = rule_ready st st p (producer.push_marks e) r

    by : (o : Option Producer) → at st.producers (p - 1) ≡ o → let acts : List Act = where_some (λ j. all_in_turn (of_producer p (producer.push_marks e) ∷ route_numbers p e (λ i. producer.to_push e j) ∷ []) st) o in
        (shown k mid (items_of acts) ≡ fold after st acts) × IsReady (fold after st acts)
    by None none = (ap (λ o. fold after st (where_some (λ j. map (by_producer p) (producer.push_marks e j)) o)) none, r)
    by (Some j) found =
        let routes : List Act = route_numbers p e (λ i. producer.to_push e j) mid in
        let goes : GoesOn k mid routes = numbers_go k p e (λ i. producer.to_push e j) mid mid_ready in
        let last : GoesOn k mid (routes ++ []) = goes_both k mid routes [] goes (goes_none (known_on k (items_of routes)) (fold after mid routes) goes.ready) in (
          after_silent k st marks (routes ++ []) (silent_rule p (producer.push_marks e) st (λ i. refl))
              (own_goes k mid (routes ++ []) last (all_join is_apart routes [] (numbers_apart p e (λ i. producer.to_push e j) mid) refl)),
          subst IsReady (sym (fold-append after st marks (routes ++ []))) last.ready,
        )

-- as the last of rules in turn
push_last : (k : Known) (p : ℕ) (e : List ℕ) (st : Node) → IsReady st → (shown k (fold after st (show_push p e st)) (items_of (push p e st ++ [])) ≡ fold after st (push p e st ++ [])) × IsReady (fold after st (push p e st ++ []))
push_last k p e st r = subst (λ acts. (shown k (fold after st (show_push p e st)) (items_of acts) ≡ fold after st acts) × IsReady (fold after st acts)) (sym (append-nil (push p e st))) (push_goes k p e st r)

-- Entries of a queue: each shows Push after it.

item_is : (k : Known) (st : Node) (p : ℕ) (e : List ℕ) (f : Fact) → fold after st (show_item f st) ≡ after st (by_producer p (told f))
    → fold after st (in_turn after (show_item f) (show_push p e) st) ≡ (let now : Node = after st (by_producer p (told f)) in fold after now (show_push p e now))
item_is k st p e f same = fold-append after st (show_item f st) (show_push p e (fold after st (show_item f st))) ∙ ap (λ now. fold after now (show_push p e now)) same

pub queued_item : (k : Known) (st : Node) (p q : ℕ) (e : List ℕ) (n : ℕ) (a : Command) → q ≡ p → let f : Fact = fact.Queued q e n a in
    shown k st (item.Fact f ∷ []) ≡ (let now : Node = after st (by_producer p (told f)) in fold after now (show_push p e now))
queued_item k st p q e n a same = subst (λ q. let f : Fact = fact.Queued q e n a in shown k st (item.Fact f ∷ []) ≡ (let now : Node = after st (by_producer p (told f)) in fold after now (show_push p e now))) (sym same)
    (let f : Fact = fact.Queued p e n a in item_is k st p e f (ap (λ o. record (after st (by_producer p (told f))) { coordinator = o }) (same_some (told f) st.coordinator (λ x. refl))))

pub confirmed_item : (k : Known) (st : Node) (p q : ℕ) (e : List ℕ) (n : ℕ) → q ≡ p → let f : Fact = fact.Confirmed q e n in
    shown k st (item.Fact f ∷ []) ≡ (let now : Node = after st (by_producer p (told f)) in fold after now (show_push p e now))
confirmed_item k st p q e n same = subst (λ q. let f : Fact = fact.Confirmed q e n in shown k st (item.Fact f ∷ []) ≡ (let now : Node = after st (by_producer p (told f)) in fold after now (show_push p e now))) (sym same)
    (let f : Fact = fact.Confirmed p e n in item_is k st p e f (ap (λ o. record (after st (by_producer p (told f))) { coordinator = o }) (same_some (told f) st.coordinator (λ x. refl))))

-- Send.

send_goes : (k : Known) (st : Node) (p : ℕ) (j : Producer) (o : Option Sending) → IsReady st → at st.producers (p - 1) ≡ Some j → j.number ≡ p
    → (shown k st (items_of (send_by p o st)) ≡ fold after st (send_by p o st)) × IsReady (fold after st (send_by p o st))
send_goes k st p j None r found number = (refl, r)
send_goes k st p j (Some x) r found number = subst Shows (sym (ap (where_some (λ i. map (by_producer p) (producer.queue x i))) found)) here
  where
    Shows : List Act → Type 0
    Shows first = let now : Node = fold after st first in let acts : List Act = first ++ (push p x.entity now ++ []) in (shown k st (items_of acts) ≡ fold after st acts) × IsReady (fold after st acts)

    f : Fact
    f = fact.Queued j.number x.entity x.number x.command

    now : Node
    now = after st (by_producer p (told f))

    here : Shows (by_producer p (told f) ∷ [])
    here =
        let last : (shown (known_after k (item.Fact f)) (fold after now (show_push p x.entity now)) (items_of (push p x.entity now ++ [])) ≡ fold after now (push p x.entity now ++ [])) × IsReady (fold after now (push p x.entity now ++ [])) =
        push_last (known_after k (item.Fact f)) p x.entity now (moves_ready st p (told f ∷ []) r) in
        (ap (λ n. shown (known_after k (item.Fact f)) n (items_of (push p x.entity now ++ []))) (queued_item k st p j.number x.entity x.number x.command number) ∙ last.0, last.1)

pub send_whole : (c : Script) (k : Known) (sends : List (List Sending)) (lists : SlotLists) (st : Node) (p : ℕ) → IsSoundNode c st → IsTidy st → 0 < p → IsShown k (input.Send p) st (turn sends lists (input.Send p) st)
send_whole c k sends lists st p is tidy above = by (at st.producers (p - 1)) refl
  where
    by : (o : Option Producer) → at st.producers (p - 1) ≡ o → IsShown k (input.Send p) st (where_some (λ j. send_by p (producer.next_sending (slice_index_or sends (p - 1) []) j) st) o)
    by None none = record { shown_is = refl; tidy = tidy }
    by (Some j) found =
        let next : Option Sending = producer.next_sending (slice_index_or sends (p - 1) []) j in
        let g : (shown k st (items_of (send_by p next st)) ≡ fold after st (send_by p next st)) × IsReady (fold after st (send_by p next st)) = send_goes k st p j next (sound_ready c st is tidy) found (is.producers p j above found).number_is in
        record { shown_is = g.0; tidy = g.1.tidy }

-- Resend.

pub resend_whole : (c : Script) (k : Known) (lists : SlotLists) (st : Node) (from to : Incarnation) (p : ℕ) (e : List ℕ) (f : ℕ) → IsSoundNode c st → IsTidy st → IsShown k (input.Packet (packet_for from to (body.Resend p e f))) st (packet lists from (body.Resend p e f) st)
resend_whole c k lists st from to p e f is tidy =
    let acts : List Act = route_numbers p e (producer.to_resend e f) st in
    let goes : GoesOn k st acts = numbers_go k p e (producer.to_resend e f) st (sound_ready c st is tidy) in
    record { shown_is = own_goes k st acts goes (numbers_apart p e (producer.to_resend e f) st); tidy = goes.ready.tidy }

-- A producer at its place, after one move and then another.

put_again : (st : Node) (p : ℕ) (a b : Option Producer) → put (put st p a) p b ≡ put st p b
put_again st p a b = ap (λ ps. record st { producers = ps }) (set_again st.producers (p - 1) a b)

put_found : (st : Node) (p : ℕ) (j i : Producer) → at st.producers (p - 1) ≡ Some j → at (put st p (Some i)).producers (p - 1) ≡ Some i
put_found st p j i found = placed_at st.producers (p - 1) (Some i) (inside st.producers (p - 1) j found)

-- one move of a rule
rule_at : (st : Node) (p : ℕ) (j : Producer) (f : Producer → List Move) (m : Move) → at st.producers (p - 1) ≡ Some j → f j ≡ m ∷ [] → is_producing m ≡ true → fold after st (of_producer p f st) ≡ put st p (Some (producer_after j m))
rule_at st p j f m found e produces =
    ap (λ o. fold after st (where_some (λ i. map (by_producer p) (f i)) o)) found ∙ (ap (λ ms. fold after st (map (by_producer p) ms)) e ∙ producer_move st p j m found produces)

-- and one where another was put
move_put : (st : Node) (p : ℕ) (j i : Producer) (m : Move) → at st.producers (p - 1) ≡ Some j → is_producing m ≡ true → after (put st p (Some i)) (by_producer p m) ≡ put st p (Some (producer_after i m))
move_put st p j i m found produces = producer_move (put st p (Some i)) p i m (put_found st p j i found) produces ∙ put_again st p (Some i) (Some (producer_after i m))

rule_put : (st : Node) (p : ℕ) (j i : Producer) (f : Producer → List Move) (m : Move) → at st.producers (p - 1) ≡ Some j → f i ≡ m ∷ [] → is_producing m ≡ true
    → fold after (put st p (Some i)) (of_producer p f (put st p (Some i))) ≡ put st p (Some (producer_after i m))
rule_put st p j i f m found e produces = rule_at (put st p (Some i)) p i f m (put_found st p j i found) e produces ∙ put_again st p (Some i) (Some (producer_after i m))

none_rule : (st : Node) (p : ℕ) (f : Producer → List Move) → at st.producers (p - 1) ≡ None → of_producer p f st ≡ []
none_rule st p f none = ap (where_some (λ i. map (by_producer p) (f i))) none

-- Push marks what may be sent, which rises with what is confirmed: what was marked before makes no difference.

abbrev marking : List ℕ → Producer → Move
marking e j = pushed e (max (confirmed e j.entries) (producer.allowed e j))

abbrev marked : List ℕ → Producer → Producer
marked e j = producer_after j (marking e j)

rises : (sent demand queued old new : ℕ) → old ≤ new → max (max sent (max old (min queued (max demand (old + 1))))) (max new (min queued (max demand (new + 1)))) ≡ max sent (max new (min queued (max demand (new + 1))))
rises sent demand queued old new h = grind (arith)

-- what was sent by a pair, where so many are queued and confirmed
abbrev sends_up : ℕ → ℕ → Progress → Progress
sends_up queued confirmed x = record { demand = x.demand; sent = max x.sent (max confirmed (min queued (max x.demand (confirmed + 1)))) }

confirms_up : (e x : List ℕ) (p n old : ℕ) → nat_lt old n ≡ true → old ≤ confirmed_step e old (fact.Confirmed p x n)
confirms_up e x p n old h = by (is_name x e)
  where
    by : (b : Bool) → old ≤ (if b then n else old)
    by true = grind (arith, nat_tests)
    by false = omega (arith)

marked_once : (e : List ℕ) (j : Producer) (p n : ℕ) → nat_lt (confirmed e j.entries) n ≡ true → let f : Move = told (fact.Confirmed p e n) in marked e (producer_after (marked e j) f) ≡ marked e (producer_after j f)
marked_once e j p n h =
    let f : Fact = fact.Confirmed p e n in
    let later : Producer = producer_after j (told f) in
    let i : ℕ = place j.set e in
    let x : Progress = producer.progress j e in
    let old : ℕ = confirmed e j.entries in
    let new : ℕ = confirmed e later.entries in
    let stays : queued e later.entries ≡ queued e j.entries = ap length (fold-append (commands_step e) [] j.entries (f ∷ [])) in
    let up : old ≤ new = subst (λ (m : ℕ). old ≤ m) (sym (fold-append (confirmed_step e) 0 j.entries (f ∷ []))) (confirms_up e e p n old h) in
    let cells : sends_up (queued e later.entries) new (sends_up (queued e j.entries) old x) ≡ sends_up (queued e later.entries) new x =
    ap (λ (q : ℕ). sends_up q new (sends_up (queued e j.entries) old x)) stays
    ∙ (ap (λ (m : ℕ). record { demand = x.demand; sent = m }) (rises x.sent x.demand (queued e j.entries) old new up) ∙ ap (λ (q : ℕ). sends_up q new x) (sym stays)) in
    ap (λ ps. record later { pairs = ps })
    (set_made (sends_up (queued e later.entries) new) j.pairs i (sends_up (queued e j.entries) old x) producer.no_progress ∙ ap (slice_set j.pairs i) cells)

-- Request and Ack: the delivery shows what is demanded, and Push; a confirmed number shows Push again.

abbrev AreShownThen : Known → Node → Node → List Act → Type 0
AreShownThen k now st acts = (shown k now (items_of acts) ≡ fold after st acts) × IsReady (fold after st acts)

-- silent acts, and then Push
silent_push : (k : Known) (st : Node) (p : ℕ) (e : List ℕ) (xs : List Act) → IsReady (fold after st xs) → items_of xs ≡ []
    → let mid : Node = fold after st xs in AreShownThen k (fold after mid (show_push p e mid)) st (xs ++ (push p e mid ++ []))
silent_push k st p e xs r none =
    let mid : Node = fold after st xs in
    let ys : List Act = push p e mid ++ [] in
    let last : AreShownThen k (fold after mid (show_push p e mid)) mid ys = push_last k p e mid r in (
      ap (shown k (fold after mid (show_push p e mid))) (flat_map-append (λ a. item_of (move_of a)) xs ys ∙ ap (λ is. is ++ items_of ys) none) ∙ (last.0 ∙ sym (fold-append after st xs ys)),
      subst IsReady (sym (fold-append after st xs ys)) last.1,
    )

-- a number that is confirmed, silent acts, and then Push, where the item shows what these come to
confirmed_push : (k : Known) (now st : Node) (p q : ℕ) (e : List ℕ) (n : ℕ) (xs : List Act) → q ≡ p → items_of xs ≡ [] → let f : Fact = fact.Confirmed q e n in let mid : Node = fold after (after st (by_producer p (told f))) xs in IsReady mid
    → (let pushed : Node = after now (by_producer p (told f)) in fold after pushed (show_push p e pushed) ≡ fold after mid (show_push p e mid))
    → AreShownThen k now st (by_producer p (told f) ∷ (xs ++ (push p e mid ++ [])))
confirmed_push k now st p q e n xs number none r same =
    let f : Fact = fact.Confirmed q e n in
    let next : Node = after st (by_producer p (told f)) in
    let mid : Node = fold after next xs in
    let acts : List Act = xs ++ (push p e mid ++ []) in
    let last : AreShownThen (known_after k (item.Fact f)) (fold after mid (show_push p e mid)) next acts = silent_push (known_after k (item.Fact f)) next p e xs r none in
    (ap (λ x. shown (known_after k (item.Fact f)) x (items_of acts)) (confirmed_item k now p q e n number ∙ same) ∙ last.0, last.1)

ack_goes : (k : Known) (st : Node) (p : ℕ) (e : List ℕ) (n : ℕ) (j : Producer) → IsReady st → at st.producers (p - 1) ≡ Some j → j.number ≡ p → AreShownThen k (fold after st (show_push p e st)) st (ack p e n st)
ack_goes k st p e n j r found number = subst Shows (sym (ap (where_some (λ i. map (by_producer p) (producer.confirm e n i))) found)) (by (nat_lt (confirmed e j.entries) n) refl)
  where
    now : Node
    now = fold after st (show_push p e st)

    Shows : List Act → Type 0
    Shows first = let mid : Node = fold after st first in AreShownThen k now st (first ++ (push p e mid ++ []))

    m : Move
    m = told (fact.Confirmed j.number e n)

    now_is : now ≡ put st p (Some (marked e j))
    now_is = rule_at st p j (producer.push_marks e) (marking e j) found refl refl

    by : (b : Bool) → nat_lt (confirmed e j.entries) n ≡ b → Shows (map (by_producer p) (if b then m ∷ [] else []))
    by false low = push_last k p e st r
    by true low =
        let i : Producer = producer_after j m in
        let next : Node = after st (by_producer p m) in
        let shows : Node = after now (by_producer p m) in
        let next_is : next ≡ put st p (Some i) = producer_move st p j m found refl in
        let shows_is : shows ≡ put st p (Some (producer_after (marked e j) m)) = ap (λ x. after x (by_producer p m)) now_is ∙ move_put st p j (marked e j) m found refl in
        confirmed_push k now st p j.number e n [] number refl (moves_ready st p (m ∷ []) r)
        (ap (λ x. fold after x (show_push p e x)) shows_is
        ∙ (rule_put st p j (producer_after (marked e j) m) (producer.push_marks e) (marking e (producer_after (marked e j) m)) found refl refl
        ∙ (ap (λ x. put st p (Some x)) (marked_once e j j.number n low)
        ∙ (sym (rule_put st p j i (producer.push_marks e) (marking e i) found refl refl) ∙ ap (λ x. fold after x (show_push p e x)) (sym next_is)))))

request_goes : (k : Known) (st : Node) (p : ℕ) (e : List ℕ) (n u : ℕ) (j : Producer) → IsReady st → at st.producers (p - 1) ≡ Some j → j.number ≡ p
    → AreShownThen k (fold after st (in_turn after (of_producer p (λ i. demanded e u ∷ [])) (show_push p e) st)) st (request p e n u st)
request_goes k st p e n u j r found number = subst Shows (sym (ap (where_some (λ i. map (by_producer p) (producer.confirm e n i))) found)) (by (nat_lt (confirmed e j.entries) n) refl)
  where
    demands : Node → List Act
    demands = of_producer p (λ i. demanded e u ∷ [])

    now : Node
    now = fold after st (in_turn after demands (show_push p e) st)

    Shows : List Act → Type 0
    Shows first = let next : Node = fold after st first in let mid : Node = fold after next (demands next) in AreShownThen k now st (first ++ (demands next ++ (push p e mid ++ [])))

    m : Move
    m = told (fact.Confirmed j.number e n)

    asked : Producer
    asked = producer_after j (demanded e u)

    split : now ≡ (let mid : Node = fold after st (demands st) in fold after mid (show_push p e mid))
    split = fold-append after st (demands st) (show_push p e (fold after st (demands st)))

    silent : (x : Node) → items_of (demands x) ≡ []
    silent x = silent_rule p (λ i. demanded e u ∷ []) x (λ i. refl)

    now_is : now ≡ put st p (Some (marked e asked))
    now_is = split ∙ (ap (λ x. fold after x (show_push p e x)) (rule_at st p j (λ i. demanded e u ∷ []) (demanded e u) found refl refl) ∙ rule_put st p j asked (producer.push_marks e) (marking e asked) found refl refl)

    by : (b : Bool) → nat_lt (confirmed e j.entries) n ≡ b → Shows (map (by_producer p) (if b then m ∷ [] else []))
    by false low = subst (λ x. AreShownThen k x st (demands st ++ (push p e (fold after st (demands st)) ++ []))) (sym split) (silent_push k st p e (demands st) (rule_ready st st p (λ i. demanded e u ∷ []) r) (silent st))
    by true low =
        let i : Producer = producer_after asked m in
        let next : Node = after st (by_producer p m) in
        let mid : Node = fold after next (demands next) in
        let shows : Node = after now (by_producer p m) in
        let next_is : next ≡ put st p (Some (producer_after j m)) = producer_move st p j m found refl in
        let mid_is : mid ≡ put st p (Some i) = ap (λ x. fold after x (demands x)) next_is ∙ rule_put st p j (producer_after j m) (λ i. demanded e u ∷ []) (demanded e u) found refl refl in
        let shows_is : shows ≡ put st p (Some (producer_after (marked e asked) m)) = ap (λ x. after x (by_producer p m)) now_is ∙ move_put st p j (marked e asked) m found refl in
        confirmed_push k now st p j.number e n (demands next) number (silent next) (rule_ready next next p (λ i. demanded e u ∷ []) (moves_ready st p (m ∷ []) r))
        (ap (λ x. fold after x (show_push p e x)) shows_is
        ∙ (rule_put st p j (producer_after (marked e asked) m) (producer.push_marks e) (marking e (producer_after (marked e asked) m)) found refl refl
        ∙ (ap (λ x. put st p (Some x)) (marked_once e asked j.number n low)
        ∙ (sym (rule_put st p j i (producer.push_marks e) (marking e i) found refl refl) ∙ ap (λ x. fold after x (show_push p e x)) (sym mid_is)))))

pub ack_whole : (c : Script) (k : Known) (lists : SlotLists) (st : Node) (from to : Incarnation) (p : ℕ) (e : List ℕ) (n : ℕ) → IsSoundNode c st → IsTidy st → 0 < p → IsShown k (input.Packet (packet_for from to (body.Ack p e n))) st (packet lists from (body.Ack p e n) st)
ack_whole c k lists st from to p e n is tidy above = by (at st.producers (p - 1)) refl
  where
    by : (o : Option Producer) → at st.producers (p - 1) ≡ o → IsShown k (input.Packet (packet_for from to (body.Ack p e n))) st (ack p e n st)
    by None none = subst (λ first. let mid : Node = fold after st first in IsShown k (input.Packet (packet_for from to (body.Ack p e n))) st (first ++ (push p e mid ++ []))) (sym (none_rule st p (producer.confirm e n) none))
        (let last : AreShownThen k (fold after st (show_push p e st)) st (push p e st ++ []) = push_last k p e st (sound_ready c st is tidy) in record { shown_is = last.0; tidy = last.1.tidy })
    by (Some j) found =
        let g : AreShownThen k (fold after st (show_push p e st)) st (ack p e n st) = ack_goes k st p e n j (sound_ready c st is tidy) found (is.producers p j above found).number_is in
        record { shown_is = g.0; tidy = g.1.tidy }

pub request_whole : (c : Script) (k : Known) (lists : SlotLists) (st : Node) (from to : Incarnation) (p : ℕ) (e : List ℕ) (n u : ℕ) → IsSoundNode c st → IsTidy st → 0 < p
    → IsShown k (input.Packet (packet_for from to (body.Request p e n u))) st (packet lists from (body.Request p e n u) st)
request_whole c k lists st from to p e n u is tidy above = by (at st.producers (p - 1)) refl
  where
    i : Input
    i = input.Packet (packet_for from to (body.Request p e n u))

    demands : Node → List Act
    demands = of_producer p (λ i. demanded e u ∷ [])

    by : (o : Option Producer) → at st.producers (p - 1) ≡ o → IsShown k i st (request p e n u st)
    by None none = subst (λ first. let next : Node = fold after st first in let mid : Node = fold after next (demands next) in IsShown k i st (first ++ (demands next ++ (push p e mid ++ [])))) (sym (none_rule st p (producer.confirm e n) none))
        (let split : opened i st ≡ (let mid : Node = fold after st (demands st) in fold after mid (show_push p e mid)) = fold-append after st (demands st) (show_push p e (fold after st (demands st))) in
        let acts : List Act = demands st ++ (push p e (fold after st (demands st)) ++ []) in
        let last : AreShownThen k (opened i st) st acts = subst (λ x. AreShownThen k x st acts) (sym split)
        (silent_push k st p e (demands st) (rule_ready st st p (λ i. demanded e u ∷ []) (sound_ready c st is tidy)) (silent_rule p (λ i. demanded e u ∷ []) st (λ i. refl))) in
        record { shown_is = last.0; tidy = last.1.tidy })
    by (Some j) found =
        let g : AreShownThen k (opened i st) st (request p e n u st) = request_goes k st p e n u j (sound_ready c st is tidy) found (is.producers p j above found).number_is in
        record { shown_is = g.0; tidy = g.1.tidy }

-- Produce: the grant shows that the queue is taken, with the list that the queries know.

moves_tidy : (st : Node) (p : ℕ) (ms : List Move) → IsTidy st → IsTidy (fold after st (map (by_producer p) ms))
moves_tidy st p ms tidy = subst IsTidy (sym (producer_alone st p ms)) (record { routed = tidy.routed; started = tidy.started })

no_producer : (m : Move) (o : Option Producer) → o ≡ None → option_map (λ j. producer_after j m) o ≡ o
no_producer m None none = refl
no_producer m (Some j) none = absurd (none_is_not_some j (sym none))

takes_shown : (k : Known) (st : Node) (p : ℕ) (list : List Fact) (o : Option Incarnation) → at st.producers (p - 1) ≡ None → queue_list k.world.lists p ≡ list → AreShown k st (map (by_producer p) (acquire_by (slot.Queue p) st.who list o))
takes_shown k st p list None none known =
    let f : Fact = fact.Granted (slot.Queue p) (epoch list + 1) st.who in
    let told_it : Node = after st (by_producer p (told f)) in
    ap₂ (λ l o. record (after told_it (by_producer p (took (slot.Queue p) (l ++ f ∷ [])))) { coordinator = o }) known (same_some (told f) st.coordinator (λ x. refl))
takes_shown k st p list (Some h) none known =
    let m : Move = told (fact.Held (slot.Queue p) st.who h.node) in
    ap₂ (λ ps o. record st { producers = ps; coordinator = o })
    (sym (ap (slice_set st.producers (p - 1)) (no_producer m (at st.producers (p - 1)) none) ∙ set_itself st.producers (p - 1) None)) (same_some m st.coordinator (λ x. refl))

pub produce_shown : (k : Known) (lists : SlotLists) (st : Node) (p : ℕ) → queue_list k.world.lists p ≡ queue_list lists p → AreShown k st (produce lists p st)
produce_shown k lists st p known = by (is_none (at st.producers (p - 1))) refl
  where
    by : (b : Bool) → is_none (at st.producers (p - 1)) ≡ b → AreShown k st (if b then map (by_producer p) (acquire (slot.Queue p) st.who (queue_list lists p)) else [])
    by true e = takes_shown k st p (queue_list lists p) (holder (queue_list lists p)) (none_of (at st.producers (p - 1)) e) known
    by false e = refl

pub produce_tidy : (lists : SlotLists) (st : Node) (p : ℕ) → IsTidy st → IsTidy (fold after st (produce lists p st))
produce_tidy lists st p tidy = by (is_none (at st.producers (p - 1)))
  where
    by : (b : Bool) → IsTidy (fold after st (if b then map (by_producer p) (acquire (slot.Queue p) st.who (queue_list lists p)) else []))
    by true = moves_tidy st p (acquire (slot.Queue p) st.who (queue_list lists p)) tidy
    by false = tidy

pub produce_whole : (k : Known) (sends : List (List Sending)) (lists : SlotLists) (st : Node) (p : ℕ) → IsTidy st → k.world.lists ≡ lists → IsShown k (input.Produce p) st (turn sends lists (input.Produce p) st)
produce_whole k sends lists st p tidy known = record { shown_is = produce_shown k lists st p (ap (λ l. queue_list l p) known); tidy = produce_tidy lists st p tidy }

-- Rest.

freed_item : (k : Known) (st : Node) (p q n : ℕ) → q ≡ p → AreShown k st (by_producer p (told (fact.Freed (slot.Queue q) n cause.Released)) ∷ [])
freed_item k st p q n same = subst (λ q. AreShown k st (by_producer p (told (fact.Freed (slot.Queue q) n cause.Released)) ∷ [])) (sym same)
    (let m : Move = told (fact.Freed (slot.Queue p) n cause.Released) in ap (λ o. record (after st (by_producer p m)) { coordinator = o }) (same_some m st.coordinator (λ x. refl)))

pub rest_whole : (c : Script) (k : Known) (sends : List (List Sending)) (lists : SlotLists) (st : Node) (p : ℕ) → IsSoundNode c st → IsTidy st → 0 < p → IsShown k (input.Rest p) st (turn sends lists (input.Rest p) st)
rest_whole c k sends lists st p is tidy above = by (at st.producers (p - 1)) refl
  where
    by : (o : Option Producer) → at st.producers (p - 1) ≡ o → IsShown k (input.Rest p) st (where_some (λ j. map (by_producer p) (producer.give_back j)) o)
    by None none = record { shown_is = refl; tidy = tidy }
    by (Some j) found = record { shown_is = freed_item k st p j.number (epoch j.entries) (is.producers p j above found).number_is; tidy = moves_tidy st p (producer.give_back j) tidy }

-- The tick: the order shows what every producer sends again, and the tick does so one pair after another, with messages routed in between. What is sent again is read off the entries, which stay.

abbrev entries_at : List (Option Producer) → ℕ → Option (List Fact)
entries_at ps p = option_map (λ (j : Producer). j.entries) (at ps (p - 1))

-- the number that is sent again, by these entries
abbrev repeats : List ℕ → List Fact → List ℕ
repeats e l = if nat_lt (confirmed e l) (queued e l) then (confirmed e l + 1) ∷ [] else []

abbrev pair_marks : ℕ → List ℕ → Option (List Fact) → List Act
pair_marks p e o = where_some (λ l. map (by_producer p) (map (pushed e) (repeats e l))) o

abbrev queue_marks : ℕ → List (List ℕ) → Option (List Fact) → List Act
queue_marks p es o = where_some (λ l. map (by_producer p) (flat_map (λ e. map (pushed e) (repeats e l)) es)) o

pair_is : (p : ℕ) (e : List ℕ) (o : Option Producer) → where_some (λ j. map (by_producer p) (map (pushed e) (producer.to_repeat e j))) o ≡ pair_marks p e (option_map (λ (j : Producer). j.entries) o)
pair_is p e None = refl
pair_is p e (Some j) = refl

queue_is : (p : ℕ) (es : List (List ℕ)) (o : Option Producer) → where_some (λ j. map (by_producer p) (flat_map (λ e. map (pushed e) (producer.to_repeat e j)) es)) o ≡ queue_marks p es (option_map (λ (j : Producer). j.entries) o)
queue_is p es None = refl
queue_is p es (Some j) = refl

-- marks leave the entries

abbrev is_pushed : Move → Bool
is_pushed (pushed e n) = true
is_pushed m = false

all_pushed : (e ns : List ℕ) → list_all is_pushed (map (pushed e) ns) ≡ true
all_pushed e [] = refl
all_pushed e (n ∷ ns) = all_pushed e ns

entries_kept : (e : List ℕ) (n : ℕ) (o : Option Producer) → option_map (λ (j : Producer). j.entries) (option_map (λ j. producer_after j (pushed e n)) o) ≡ option_map (λ (j : Producer). j.entries) o
entries_kept e n None = refl
entries_kept e n (Some j) = refl

entries_stay : (set : Setting) (who : Incarnation) (p q : ℕ) (ms : List Move) (ps : List (Option Producer)) → list_all is_pushed ms ≡ true → entries_at (fold (producers_part set who) ps (map (by_producer p) ms)) q ≡ entries_at ps q
entries_stay set who p q [] ps h = refl
entries_stay set who p q (pushed e n ∷ ms) ps h =
    let o : Option Producer = option_map (λ j. producer_after j (pushed e n)) (at ps (p - 1)) in
    entries_stay set who p q ms (slice_set ps (p - 1) o) h
    ∙ of_write (λ x. option_map (λ (j : Producer). j.entries) x ≡ entries_at ps q) ps (p - 1) (q - 1) o None
    (λ same. entries_kept e n (at ps (p - 1)) ∙ ap (λ i. option_map (λ (j : Producer). j.entries) (at ps i)) (sym same)) refl
entries_stay set who p q (m ∷ ms) ps h = absurd (true≢false (sym (and_both (is_pushed m) (list_all is_pushed ms) h).0))

queue_stays : (set : Setting) (who : Incarnation) (p q : ℕ) (es : List (List ℕ)) (o : Option (List Fact)) (ps : List (Option Producer)) → entries_at (fold (producers_part set who) ps (queue_marks p es o)) q ≡ entries_at ps q
queue_stays set who p q es None ps = refl
queue_stays set who p q es (Some l) ps = entries_stay set who p q (flat_map (λ e. map (pushed e) (repeats e l)) es) ps (all_each is_pushed (λ e. map (pushed e) (repeats e l)) es (λ e. all_pushed e (repeats e l)))

pair_stays : (set : Setting) (who : Incarnation) (p q : ℕ) (e : List ℕ) (o : Option (List Fact)) (ps : List (Option Producer)) → entries_at (fold (producers_part set who) ps (pair_marks p e o)) q ≡ entries_at ps q
pair_stays set who p q e None ps = refl
pair_stays set who p q e (Some l) ps = entries_stay set who p q (map (pushed e) (repeats e l)) ps (all_pushed e (repeats e l))

-- the producers after acts are the fold of their own step
producers_are : (set : Setting) (who : Incarnation) (st : Node) (acts : List Act) → st.set ≡ set → st.who ≡ who → (fold after st acts).producers ≡ fold (producers_part set who) st.producers acts
producers_are set who st acts es ew = ap (λ (n : Node). n.producers) (parts_are_folds st acts) ∙ ap₂ (λ s w. fold (producers_part s w) st.producers acts) es ew

-- one pair
pair_after : (set : Setting) (who : Incarnation) (p : ℕ) (e : List ℕ) (st : Node) (o : Option (List Fact)) → st.set ≡ set → st.who ≡ who → entries_at st.producers p ≡ o
    → (fold after st (send_again p e st)).producers ≡ fold (producers_part set who) st.producers (pair_marks p e o)
pair_after set who p e st o es ew reads =
    let marks : List Act = of_producer p (λ j. map (pushed e) (producer.to_repeat e j)) st in
    let mid : Node = fold after st marks in
    let routes : List Act = route_numbers p e (producer.to_repeat e) mid in
    ap (λ (n : Node). n.producers) (fold-append after st marks (routes ++ []))
    ∙ (producers_stay mid (routes ++ []) (all_join is_apart routes [] (numbers_apart p e (producer.to_repeat e) mid) refl)
    ∙ (producers_are set who st marks es ew ∙ ap (fold (producers_part set who) st.producers) (pair_is p e (at st.producers (p - 1)) ∙ ap (pair_marks p e) reads)))

marks_join : (set : Setting) (who : Incarnation) (p : ℕ) (e : List ℕ) (es : List (List ℕ)) (o : Option (List Fact)) (ps : List (Option Producer))
    → fold (producers_part set who) (fold (producers_part set who) ps (pair_marks p e o)) (queue_marks p es o) ≡ fold (producers_part set who) ps (queue_marks p (e ∷ es) o)
marks_join set who p e es None ps = refl
marks_join set who p e es (Some l) ps =
    let xs : List Move = map (pushed e) (repeats e l) in
    let ys : List Move = flat_map (λ e. map (pushed e) (repeats e l)) es in
    sym (fold-append (producers_part set who) ps (map (by_producer p) xs) (map (by_producer p) ys)) ∙ ap (fold (producers_part set who) ps) (sym (map-append (by_producer p) xs ys))

no_marks : (set : Setting) (who : Incarnation) (p : ℕ) (o : Option (List Fact)) (ps : List (Option Producer)) → ps ≡ fold (producers_part set who) ps (queue_marks p [] o)
no_marks set who p None ps = refl
no_marks set who p (Some l) ps = refl

-- one queue
queue_after : (set : Setting) (who : Incarnation) (p : ℕ) (es : List (List ℕ)) (st : Node) (o : Option (List Fact)) → st.set ≡ set → st.who ≡ who → entries_at st.producers p ≡ o
    → (fold after st (for_each after (send_again p) es st)).producers ≡ fold (producers_part set who) st.producers (queue_marks p es o)
queue_after set who p [] st o is iw reads = no_marks set who p o st.producers
queue_after set who p (e ∷ es) st o is iw reads =
    let acts : List Act = send_again p e st in
    let next : Node = fold after st acts in
    let one : next.producers ≡ fold (producers_part set who) st.producers (pair_marks p e o) = pair_after set who p e st o is iw reads in
    ap (λ (n : Node). n.producers) (fold-append after st acts (for_each after (send_again p) es next))
    ∙ (queue_after set who p es next o (set_stays st acts ∙ is) (who_stays st acts ∙ iw) (ap (λ ps. entries_at ps p) one ∙ (pair_stays set who p p e o st.producers ∙ reads))
    ∙ (ap (λ ps. fold (producers_part set who) ps (queue_marks p es o)) one ∙ marks_join set who p e es o st.producers))

-- all queues, where the order was given at this node
queues_after : (set : Setting) (who : Incarnation) (es : List (List ℕ)) (first : Node) (qs : List ℕ) (st : Node) → st.set ≡ set → st.who ≡ who → ((q : ℕ) → entries_at st.producers q ≡ entries_at first.producers q)
    → (fold after st (for_each after (λ p. for_each after (send_again p) es) qs st)).producers ≡ fold (producers_part set who) st.producers (flat_map (λ p. of_producer p (λ j. flat_map (λ e. map (pushed e) (producer.to_repeat e j)) es) first) qs)
queues_after set who es first [] st is iw reads = refl
queues_after set who es first (q ∷ qs) st is iw reads =
    let acts : List Act = for_each after (send_again q) es st in
    let next : Node = fold after st acts in
    let o : Option (List Fact) = entries_at first.producers q in
    let marks : List Act = of_producer q (λ j. flat_map (λ e. map (pushed e) (producer.to_repeat e j)) es) first in
    let rest : List Act = flat_map (λ p. of_producer p (λ j. flat_map (λ e. map (pushed e) (producer.to_repeat e j)) es) first) qs in
    let one : next.producers ≡ fold (producers_part set who) st.producers (queue_marks q es o) = queue_after set who q es st o is iw (reads q) in
    ap (λ (n : Node). n.producers) (fold-append after st acts (for_each after (λ p. for_each after (send_again p) es) qs next))
    ∙ (queues_after set who es first qs next (set_stays st acts ∙ is) (who_stays st acts ∙ iw) (λ p. ap (λ ps. entries_at ps p) one ∙ (queue_stays set who q p es o st.producers ∙ reads p))
    ∙ (ap (λ ps. fold (producers_part set who) ps rest) (one ∙ ap (fold (producers_part set who) st.producers) (sym (queue_is q es (at first.producers (q - 1)))))
    ∙ sym (fold-append (producers_part set who) st.producers marks rest)))

-- What is routed is shown, whatever the producers have been shown.

marks_go : (k : Known) (p : ℕ) (f : Producer → List Move) (st : Node) → ((j : Producer) → flat_map item_of (f j) ≡ []) → IsReady st → GoesOn k st (of_producer p f st)
marks_go k p f st h r = record {
  shows = λ ps. ap (shown k (with_producers ps st)) (silent_rule p f st h) ∙ by ps (at st.producers (p - 1));
  ready = rule_ready st st p f r;
}
  where
    by : (ps : List (Option Producer)) (o : Option Producer) → with_producers ps st ≡ with_producers ps (fold after st (where_some (λ j. map (by_producer p) (f j)) o))
    by ps None = refl
    by ps (Some j) = ap (with_producers ps) (sym (producer_alone st p (f j)))

no_items : (e ns : List ℕ) → flat_map item_of (map (pushed e) ns) ≡ []
no_items e [] = refl
no_items e (n ∷ ns) = no_items e ns

pair_goes : (k : Known) (p : ℕ) (e : List ℕ) (st : Node) → IsReady st → GoesOn k st (send_again p e st)
pair_goes k p e st r =
    let marks : List Act = of_producer p (λ j. map (pushed e) (producer.to_repeat e j)) st in
    let first : GoesOn k st marks = marks_go k p (λ j. map (pushed e) (producer.to_repeat e j)) st (λ j. no_items e (producer.to_repeat e j)) r in
    let mid : Node = fold after st marks in
    let routes : List Act = route_numbers p e (producer.to_repeat e) mid in
    let second : GoesOn (known_on k (items_of marks)) mid routes = numbers_go (known_on k (items_of marks)) p e (producer.to_repeat e) mid first.ready in
    goes_both k st marks (routes ++ []) first
    (goes_both (known_on k (items_of marks)) mid routes [] second (goes_none (known_on (known_on k (items_of marks)) (items_of routes)) (fold after mid routes) second.ready))

queue_goes : (k : Known) (p : ℕ) (es : List (List ℕ)) (st : Node) → IsReady st → GoesOn k st (for_each after (send_again p) es st)
queue_goes k p [] st r = goes_none k st r
queue_goes k p (e ∷ es) st r =
    let acts : List Act = send_again p e st in
    let first : GoesOn k st acts = pair_goes k p e st r in
    goes_both k st acts (for_each after (send_again p) es (fold after st acts)) first (queue_goes (known_on k (items_of acts)) p es (fold after st acts) first.ready)

queues_go : (k : Known) (es : List (List ℕ)) (qs : List ℕ) (st : Node) → IsReady st → GoesOn k st (for_each after (λ p. for_each after (send_again p) es) qs st)
queues_go k es [] st r = goes_none k st r
queues_go k es (q ∷ qs) st r =
    let acts : List Act = for_each after (send_again q) es st in
    let first : GoesOn k st acts = queue_goes k q es st r in
    goes_both k st acts (for_each after (λ p. for_each after (send_again p) es) qs (fold after st acts)) first (queues_go (known_on k (items_of acts)) es qs (fold after st acts) first.ready)

-- the tick's last part, from a node whose producers are those of the node that was told to tick
pub queues_shown : (k : Known) (st now : Node) → IsReady now → now.set ≡ st.set → now.who ≡ st.who → now.producers ≡ st.producers
    → (shown k (with_producers (opened input.Tick st).producers now) (items_of (queues_again st.set now)) ≡ fold after now (queues_again st.set now)) × IsTidy (fold after now (queues_again st.set now))
queues_shown k st now r set who same =
    let acts : List Act = queues_again st.set now in
    let goes : GoesOn k now acts = queues_go k st.set.names (producers st.set) now r in
    let marks : List Act = flat_map (λ p. of_producer p (λ j. flat_map (λ e. map (pushed e) (producer.to_repeat e j)) st.set.names) st) (producers st.set) in
    let ends : (fold after now acts).producers ≡ (opened input.Tick st).producers =
    queues_after st.set st.who st.set.names st (producers st.set) now set who (λ q. ap (λ ps. entries_at ps q) same)
    ∙ (ap (λ ps. fold (producers_part st.set st.who) ps marks) same ∙ sym (producers_are st.set st.who st marks refl refl)) in
    (goes.shows (opened input.Tick st).producers ∙ ap (λ ps. with_producers ps (fold after now acts)) (sym ends), goes.ready.tidy)
