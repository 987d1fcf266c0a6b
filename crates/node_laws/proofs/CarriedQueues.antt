-- What the rules of a node's producers tell and post is carried by what is in hand.
use Rattle.std.proofs.Common.{◌≡◌, ℕ, zero, suc, ◌+◌, ◌-◌, ◌<◌, List, [], ◌∷◌, ◌++◌, map, sym, ap, subst, ◌∙◌, refl, true, arith}
use Rattle.std.specs.Prelude.{Bool, nat_lt, slice_index_or, fold, Option, Some, None}
use Rattle.std.specs.List.{list_all}
use Rattle.yard_model.specs.declared.charter.Sending.{Sending}
use Rattle.yard_model.specs.declared.fact.Fact.TheVariants as fact
use Rattle.yard_model.specs.Genuine.{is_producer}
use Rattle.yard_model.specs.Move.{Move, demanded, pushed, told}
use Rattle.yard_model.specs.Node.{Node, Act, by_producer, after, of_producer, route_numbers, all_in_turn, push, request, ack, send, send_by, send_again}
use Rattle.yard_model.specs.Producer as producer
use Rattle.yard_model.specs.Producer.{Producer, producer_after}
use Rattle.yard_model.specs.Script.{Script, IsScript}
use Rattle.yard_model.specs.SlotReads.{confirmed}
use Rattle.yard_model.specs.Turns.{for_each, where_some}
use Rattle.yard_model.specs.Words.{at, numbers}
use Rattle.yard_model.specs.World.{all_sends}
use Rattle.plain_laws.proofs.Lists.{inside, some_is, placed_at, all_if}
use Rattle.node_laws.specs.NodeStands.{IsSoundNode}
use Rattle.node_laws.specs.NodeTurns.{MayConfirm}
use Rattle.actor_laws.specs.ProducerStands.{is_queued_number, is_sent_well}
use Rattle.node_laws.proofs.CarriedRoutes.{Carrying, Any, carry_then, carry_none, carry_end, carry_quiet, produced_quiet, route_numbers_carry}
use Rattle.node_laws.proofs.NodeKeeps.{NodeKeeps}
use Rattle.node_laws.proofs.NodeLeases.{plain_if}
use Rattle.node_laws.proofs.NodePackets.{TurnLaws, producer_node, confirms_node, sends_are}
use Rattle.node_laws.proofs.NodeProducers.{above_zero, producer_move, push_node, demand_node, queue_node, repeat_node}
use Rattle.node_laws.proofs.NodeTicks.{sends_again, names_again}
use Rattle.node_laws.proofs.Quiet.{is_quiet}

-- Push: what is routed was queued, and stays so while what was sent is marked
push_carry : (c : Script) (v : List ℕ → ℕ → ℕ → Bool) (p : ℕ) (e : List ℕ) (st : Node) → TurnLaws → IsScript c → IsSoundNode c st → 0 < p → Carrying Any c st (push p e st)
push_carry c v p e st laws script is above = by (at st.producers (p - 1)) refl
  where
    by : (o : Option Producer) → at st.producers (p - 1) ≡ o → Carrying Any c st (where_some (λ k. all_in_turn (of_producer p (producer.push_marks e) ∷ route_numbers p e (λ j. producer.to_push e k) ∷ []) st) o)
    by None found = carry_none Any c st
    by (Some k) found =
        let marks : List Act = of_producer p (producer.push_marks e) st in
        let mid : Node = fold after st marks in
        let first : NodeKeeps c v st marks = producer_node c v st p (producer.push_marks e) is (λ j g. push_node c v st p j e is above g) in
        let well : list_all (is_sent_well c e k) (producer.to_push e k) ≡ true = (laws.sends c k (is.producers p k above found).stands).pushed_well e in
        let queued_are : list_all (is_queued_number e k) (producer.to_push e k) ≡ true = (laws.sends c k (is.producers p k above found).stands).push_numbers e in
        let new : Producer = fold producer_after k (producer.push_marks e k) in
        let there : at mid.producers (p - 1) ≡ Some new = ap (λ (x : Node). at x.producers (p - 1)) (ap (λ o. fold after st (where_some (λ k. map (by_producer p) (producer.push_marks e k)) o)) found ∙ producer_move st p k (head_of k) found refl) ∙ placed_at st.producers (p - 1) (Some new) (inside st.producers (p - 1) k found) in
        let routes : List Act = route_numbers p e (λ j. producer.to_push e k) mid in
        carry_then Any c v st marks (routes ++ []) (plain_if Any c v st marks first) (carry_quiet Any c st marks (produced_quiet p (producer.push_marks e) st (λ j. refl)))
        (carry_end Any c mid routes
        (route_numbers_carry c v p e (λ j. producer.to_push e k) mid laws.routes script first.stands above
        (λ j g. subst (λ x. list_all (is_sent_well c e x) (producer.to_push e k) ≡ true) (some_is new j (sym there ∙ g)) well)
        (λ j g. subst (λ x. list_all (is_queued_number e x) (producer.to_push e k) ≡ true) (some_is new j (sym there ∙ g)) queued_are)))
      where
        head_of : Producer → Move
        head_of k = slice_index_or (producer.push_marks e k) 0 (demanded e 0)

-- quiet acts, and then Push
then_push : (c : Script) (v : List ℕ → ℕ → ℕ → Bool) (p : ℕ) (e : List ℕ) (st : Node) (acts : List Act) → TurnLaws → IsScript c → 0 < p → NodeKeeps c v st acts → Carrying Any c st acts → Carrying Any c st (acts ++ all_in_turn (push p e ∷ []) (fold after st acts))
then_push c v p e st acts laws script above first carried =
    let mid : Node = fold after st acts in
    carry_then Any c v st acts (push p e mid ++ []) (plain_if Any c v st acts first) carried (carry_end Any c mid (push p e mid) (push_carry c v p e mid laws script first.stands above))

confirms_carry : (c : Script) (p : ℕ) (e : List ℕ) (n : ℕ) (st : Node) → Carrying Any c st (of_producer p (producer.confirm e n) st)
confirms_carry c p e n st = carry_quiet Any c st (of_producer p (producer.confirm e n) st)
    (produced_quiet p (producer.confirm e n) st (λ k. all_if is_quiet (nat_lt (confirmed e k.entries) n) (told (fact.Confirmed k.number e n) ∷ []) [] refl refl))

pub ack_carry : (c : Script) (v : List ℕ → ℕ → ℕ → Bool) (p : ℕ) (e : List ℕ) (n : ℕ) (st : Node) → TurnLaws → IsScript c → IsSoundNode c st → 0 < p → MayConfirm v st p e n → Carrying Any c st (ack p e n st)
ack_carry c v p e n st laws script is above may = then_push c v p e st (of_producer p (producer.confirm e n) st) laws script above (confirms_node c v p e n st laws is above may) (confirms_carry c p e n st)

pub request_carry : (c : Script) (v : List ℕ → ℕ → ℕ → Bool) (p : ℕ) (e : List ℕ) (n u : ℕ) (st : Node) → TurnLaws → IsScript c → IsSoundNode c st → 0 < p → MayConfirm v st p e n → Carrying Any c st (request p e n u st)
request_carry c v p e n u st laws script is above may =
    let acts : List Act = of_producer p (producer.confirm e n) st in
    let mid : Node = fold after st acts in
    let first : NodeKeeps c v st acts = confirms_node c v p e n st laws is above may in
    let wants : List Act = of_producer p (λ k. demanded e u ∷ []) mid in
    let second : NodeKeeps c v mid wants = producer_node c v mid p (λ k. demanded e u ∷ []) first.stands (λ k g. demand_node c v mid p k e u first.stands above g) in
    carry_then Any c v st acts (wants ++ all_in_turn (push p e ∷ []) (fold after mid wants)) (plain_if Any c v st acts first) (confirms_carry c p e n st)
    (then_push c v p e mid wants laws script above second (carry_quiet Any c mid wants (produced_quiet p (λ k. demanded e u ∷ []) mid (λ k. refl))))

pub resend_carry : (c : Script) (v : List ℕ → ℕ → ℕ → Bool) (p : ℕ) (e : List ℕ) (f : ℕ) (st : Node) → TurnLaws → IsScript c → IsSoundNode c st → 0 < p → Carrying Any c st (route_numbers p e (producer.to_resend e f) st)
resend_carry c v p e f st laws script is above = route_numbers_carry c v p e (producer.to_resend e f) st laws.routes script is above
    (λ k g. (laws.sends c k (is.producers p k above g).stands).resent_well e f) (λ k g. (laws.sends c k (is.producers p k above g).stands).resend_numbers e f)

-- Send: the command is queued first, and then its message is routed
pub send_carry : (c : Script) (v : List ℕ → ℕ → ℕ → Bool) (p : ℕ) (st : Node) → TurnLaws → IsScript c → IsSoundNode c st → is_producer c p ≡ true → Carrying Any c st (send (all_sends c) p st)
send_carry c v p st laws script is number = by (at st.producers (p - 1)) refl
  where
    above : 0 < p
    above = (above_zero p c.config.producers number).0

    by_next : (k : Producer) → at st.producers (p - 1) ≡ Some k → (o : Option Sending) → producer.next_sending (slice_index_or (all_sends c) (p - 1) []) k ≡ o → Carrying Any c st (send_by p o st)
    by_next k found None next = carry_none Any c st
    by_next k found (Some x) next =
        let acts : List Act = of_producer p (producer.queue x) st in
        let first : NodeKeeps c v st acts = subst (λ o. NodeKeeps c v st (where_some (λ k. map (by_producer p) (producer.queue x k)) o)) (sym found)
        (queue_node laws.produces c v st p k x is above found (ap (λ l. producer.next_sending l k) (sym (sends_are c p number)) ∙ next)) in
        then_push c v p x.entity st acts laws script above first (carry_quiet Any c st acts (produced_quiet p (producer.queue x) st (λ j. refl)))

    by : (o : Option Producer) → at st.producers (p - 1) ≡ o → Carrying Any c st (where_some (λ k. send_by p (producer.next_sending (slice_index_or (all_sends c) (p - 1) []) k) st) o)
    by None found = carry_none Any c st
    by (Some k) found = by_next k found (producer.next_sending (slice_index_or (all_sends c) (p - 1) []) k) refl

-- The queues, one pair after another.

pushes_quiet : (e ns : List ℕ) → list_all is_quiet (map (pushed e) ns) ≡ true
pushes_quiet e [] = refl
pushes_quiet e (n ∷ ns) = pushes_quiet e ns

again_carry : (c : Script) (v : List ℕ → ℕ → ℕ → Bool) (p : ℕ) (e : List ℕ) (st : Node) → TurnLaws → IsScript c → IsSoundNode c st → 0 < p → Carrying Any c st (send_again p e st)
again_carry c v p e st laws script is above =
    let marks : List Act = of_producer p (λ k. map (pushed e) (producer.to_repeat e k)) st in
    let first : NodeKeeps c v st marks = producer_node c v st p (λ k. map (pushed e) (producer.to_repeat e k)) is (λ k g. repeat_node c v st p k e is above g) in
    let mid : Node = fold after st marks in
    let routes : List Act = route_numbers p e (producer.to_repeat e) mid in
    carry_then Any c v st marks (routes ++ []) (plain_if Any c v st marks first) (carry_quiet Any c st marks (produced_quiet p (λ k. map (pushed e) (producer.to_repeat e k)) st (λ k. pushes_quiet e (producer.to_repeat e k))))
    (carry_end Any c mid routes (route_numbers_carry c v p e (producer.to_repeat e) mid laws.routes script first.stands above
    (λ k g. well c mid p e k laws first.stands above g) (λ k g. queued_are c mid p e k laws first.stands above g)))
  where
    well : (c : Script) (st : Node) (p : ℕ) (e : List ℕ) (k : Producer) → TurnLaws → IsSoundNode c st → 0 < p → at st.producers (p - 1) ≡ Some k → list_all (is_sent_well c e k) (producer.to_repeat e k) ≡ true
    well c st p e k laws is above g = (laws.sends c k (is.producers p k above g).stands).repeated_well e

    queued_are : (c : Script) (st : Node) (p : ℕ) (e : List ℕ) (k : Producer) → TurnLaws → IsSoundNode c st → 0 < p → at st.producers (p - 1) ≡ Some k → list_all (is_queued_number e k) (producer.to_repeat e k) ≡ true
    queued_are c st p e k laws is above g = (laws.sends c k (is.producers p k above g).stands).repeat_numbers e

names_carry : (c : Script) (v : List ℕ → ℕ → ℕ → Bool) (p : ℕ) (es : List (List ℕ)) (st : Node) → TurnLaws → IsScript c → IsSoundNode c st → 0 < p → Carrying Any c st (for_each after (send_again p) es st)
names_carry c v p [] st laws script is above = carry_none Any c st
names_carry c v p (e ∷ es) st laws script is above =
    let acts : List Act = send_again p e st in
    let first : NodeKeeps c v st acts = sends_again c v p e st laws script is above in
    let mid : Node = fold after st acts in
    carry_then Any c v st acts (for_each after (send_again p) es mid) (plain_if Any c v st acts first) (again_carry c v p e st laws script is above) (names_carry c v p es mid laws script first.stands above)

pub queues_carry : (c : Script) (v : List ℕ → ℕ → ℕ → Bool) (es : List (List ℕ)) (a n : ℕ) (st : Node) → TurnLaws → IsScript c → IsSoundNode c st → 0 < a → Carrying Any c st (for_each after (λ p. for_each after (send_again p) es) (numbers a n) st)
queues_carry c v es a zero st laws script is above = carry_none Any c st
queues_carry c v es a (suc n) st laws script is above =
    let acts : List Act = for_each after (send_again a) es st in
    let first : NodeKeeps c v st acts = names_again c v a es st laws script is above in
    let mid : Node = fold after st acts in
    carry_then Any c v st acts (for_each after (λ p. for_each after (send_again p) es) (numbers (a + 1) n) mid) (plain_if Any c v st acts first) (names_carry c v a es st laws script is above)
    (queues_carry c v es (a + 1) n mid laws script first.stands (omega (arith, above)))
