-- The node's rules about a producer are the calls: the moves of one producer, and then each of its numbers routed.
use Rattle.std.proofs.Common.{◌≡◌, ℕ, ◌-◌, List, [], ◌∷◌, ◌++◌, map, sym, ap, ◌∙◌, refl, true}
use Rattle.std.specs.Prelude.{Option, None, Some, fold}
use Rattle.std.specs.List.{list_all}
use Rattle.std.proofs.lemmas.List.{append-nil, append_assoc, map-append}
use Rattle.std.proofs.lemmas.List.Sums.{fold-append}
use Rattle.yard_model.specs.declared.charter.Sending.{Sending}
use Rattle.yard_model.specs.Move.{Move, demanded, pushed}
use Rattle.yard_model.specs.Node.{Node, Rule, by_producer, after, route, route_numbers, of_producer, producer_by, push, send_by, send_again, request, ack}
use Rattle.yard_model.specs.Producer.{Producer, producer_after, message_of, queue, confirm, push_marks, to_push, to_resend, to_repeat}
use Rattle.yard_model.specs.Turns.{for_each, where_some}
use Rattle.yard_model.specs.Words.{at}
use Rattle.plain_laws.proofs.Booleans.{and_both}
use Rattle.plain_laws.proofs.Lists.{inside, placed_at}
use Rattle.producer_ctl.specs.Produced.{Gives, and_then, pushing, queueing, asking, acking, resending, repeating}
use Rattle.producer_ctl.specs.Routed.{calls, calls_of}
use Rattle.producer_ctl.proofs.ProducingLaws.{is_plain, by_plain}
use Rattle.producer_ctl.proofs.PlainLaws.{plain_confirm, plain_repeating}

-- the producer after plain moves of its own
pub after_moves : (p : ℕ) (st : Node) (k : Producer) (ms : List Move) → at st.producers (p - 1) ≡ Some k → list_all is_plain ms ≡ true → at (fold after st (map (by_producer p) ms)).producers (p - 1) ≡ Some (fold producer_after k ms)
after_moves p st k [] here plain = here
after_moves p st k (m ∷ ms) here plain =
    let both : _ × _ = and_both (is_plain m) (list_all is_plain ms) plain in
    after_moves p (after st (by_producer p m)) (producer_after k m) ms
    (placed_at st.producers (p - 1) _ (inside st.producers (p - 1) k here) ∙ (ap (λ o. producer_by st.set st.who p o m) here ∙ by_plain st.set st.who p k m both.0)) both.1

-- a rule that is these moves, and then a rule that is a call
then_calls : (p : ℕ) (f : Producer → List Move) (q : Producer → Gives) (r : Rule) (st : Node) → ((k : Producer) → list_all is_plain (f k) ≡ true) → ((st : Node) → r st ≡ calls p q st) → of_producer p f st ++ r (fold after st (of_producer p f st)) ≡ calls p (and_then f q) st
then_calls p f q r st plain is = by (at st.producers (p - 1)) refl
  where
    by : (o : Option Producer) → at st.producers (p - 1) ≡ o → where_some (λ k. map (by_producer p) (f k)) o ++ r (fold after st (where_some (λ k. map (by_producer p) (f k)) o)) ≡ calls_of p (and_then f q) st o
    by None e = is st ∙ ap (calls_of p q st) e
    by (Some k) e =
        let next : Producer = fold producer_after k (f k) in
        let st1 : Node = fold after st (map (by_producer p) (f k)) in
        let ms : List Move = (q next).moves in
        ap (λ l. map (by_producer p) (f k) ++ l) (is st1 ∙ ap (calls_of p q st1) (after_moves p st k (f k) e (plain k)))
        ∙ (sym (append_assoc (map (by_producer p) (f k)) (map (by_producer p) ms) _)
        ∙ (ap (λ l. l ++ for_each after (λ n. route (message_of (q next).entity (fold producer_after next ms) n)) (q next).numbers (fold after st1 (map (by_producer p) ms))) (sym (map-append (by_producer p) (f k) ms))
        ∙ (ap (λ w. map (by_producer p) (f k ++ ms) ++ for_each after (λ n. route (message_of (q next).entity (fold producer_after next ms) n)) (q next).numbers w) (sym (ap (fold after st) (map-append (by_producer p) (f k) ms) ∙ fold-append after st (map (by_producer p) (f k)) (map (by_producer p) ms)))
        ∙ ap (λ j. map (by_producer p) (f k ++ ms) ++ for_each after (λ n. route (message_of (q next).entity j n)) (q next).numbers (fold after st (map (by_producer p) (f k ++ ms)))) (sym (fold-append producer_after k (f k) ms)))))

-- moves of a producer, and then the numbers that f tells routed, where it tells the same before them
routed_calls : (p : ℕ) (e : List ℕ) (st : Node) (k : Producer) (ms : List Move) (ns : List ℕ) (f : Producer → List ℕ) → at st.producers (p - 1) ≡ Some k → list_all is_plain ms ≡ true → f (fold producer_after k ms) ≡ ns
    → map (by_producer p) ms ++ (route_numbers p e f (fold after st (map (by_producer p) ms)) ++ [])
    ≡ map (by_producer p) ms ++ for_each after (λ n. route (message_of e (fold producer_after k ms) n)) ns (fold after st (map (by_producer p) ms))
routed_calls p e st k ms ns f here plain tells =
    let st1 : Node = fold after st (map (by_producer p) ms) in
    let j : Producer = fold producer_after k ms in
    ap (λ l. map (by_producer p) ms ++ l)
    (append-nil (route_numbers p e f st1)
    ∙ (ap (where_some (λ i. for_each after (λ n. route (message_of e i n)) (f i) st1)) (after_moves p st k ms here plain)
    ∙ ap (λ l. for_each after (λ n. route (message_of e j n)) l st1) tells))

pub push_calls : (p : ℕ) (e : List ℕ) (st : Node) → push p e st ≡ calls p (pushing e) st
push_calls p e st = by (at st.producers (p - 1)) refl
  where
    by : (o : Option Producer) → at st.producers (p - 1) ≡ o
        → where_some (λ k. of_producer p (push_marks e) st ++ (route_numbers p e (λ j. to_push e k) (fold after st (of_producer p (push_marks e) st)) ++ [])) o ≡ calls_of p (pushing e) st o
    by None e = refl
    by (Some k) here =
        ap (λ o. where_some (λ k. map (by_producer p) (push_marks e k)) o ++ (route_numbers p e (λ j. to_push e k) (fold after st (where_some (λ k. map (by_producer p) (push_marks e k)) o)) ++ [])) here
        ∙ routed_calls p e st k (push_marks e k) (to_push e k) (λ j. to_push e k) here refl refl

pub ack_calls : (p : ℕ) (e : List ℕ) (n : ℕ) (st : Node) → ack p e n st ≡ calls p (acking e n) st
ack_calls p e n st = ap (λ l. of_producer p (confirm e n) st ++ l) (append-nil (push p e (fold after st (of_producer p (confirm e n) st)))) ∙ then_calls p (confirm e n) (pushing e) (push p e) st (plain_confirm e n) (push_calls p e)

pub request_calls : (p : ℕ) (e : List ℕ) (n u : ℕ) (st : Node) → request p e n u st ≡ calls p (asking e n u) st
request_calls p e n u st = then_calls p (confirm e n) (and_then (λ k. demanded e u ∷ []) (pushing e)) (λ st. of_producer p (λ k. demanded e u ∷ []) st ++ (push p e (fold after st (of_producer p (λ k. demanded e u ∷ []) st)) ++ [])) st (plain_confirm e n)
    (λ w. ap (λ l. of_producer p (λ k. demanded e u ∷ []) w ++ l) (append-nil (push p e (fold after w (of_producer p (λ k. demanded e u ∷ []) w)))) ∙ then_calls p (λ k. demanded e u ∷ []) (pushing e) (push p e) w (λ k. refl) (push_calls p e))

pub send_calls : (p : ℕ) (x : Sending) (st : Node) → send_by p (Some x) st ≡ calls p (queueing x) st
send_calls p x st = ap (λ l. of_producer p (queue x) st ++ l) (append-nil (push p x.entity (fold after st (of_producer p (queue x) st)))) ∙ then_calls p (queue x) (pushing x.entity) (push p x.entity) st (λ k. refl) (push_calls p x.entity)

pub resend_calls : (p : ℕ) (e : List ℕ) (f : ℕ) (st : Node) → route_numbers p e (to_resend e f) st ≡ calls p (resending e f) st
resend_calls p e f st = by (at st.producers (p - 1))
  where
    by : (o : Option Producer) → where_some (λ k. for_each after (λ n. route (message_of e k n)) (to_resend e f k) st) o ≡ calls_of p (resending e f) st o
    by None = refl
    by (Some k) = refl

pub repeat_calls : (p : ℕ) (e : List ℕ) (st : Node) → send_again p e st ≡ calls p (repeating e) st
repeat_calls p e st = by (at st.producers (p - 1)) refl
  where
    -- marks leave what is queued and confirmed
    same : (k : Producer) (ns : List ℕ) → to_repeat e (fold producer_after k (map (pushed e) ns)) ≡ to_repeat e k
    same k [] = refl
    same k (n ∷ ns) = same (producer_after k (pushed e n)) ns

    by : (o : Option Producer) → at st.producers (p - 1) ≡ o
        → where_some (λ k. map (by_producer p) (map (pushed e) (to_repeat e k))) o ++ (route_numbers p e (to_repeat e) (fold after st (where_some (λ k. map (by_producer p) (map (pushed e) (to_repeat e k))) o)) ++ []) ≡ calls_of p (repeating e) st o
    by None here = append-nil (route_numbers p e (to_repeat e) st) ∙ ap (where_some (λ k. for_each after (λ n. route (message_of e k n)) (to_repeat e k) st)) here
    by (Some k) here = routed_calls p e st k (map (pushed e) (to_repeat e k)) (to_repeat e k) (to_repeat e) here (plain_repeating e k) (same k (to_repeat e k))
