-- What each call of a producer gives fits, where the producer stands; its moves are still, and leave it standing.
use Rattle.std.proofs.Common.{◌≡◌, ℕ, ◌+◌, ◌-◌, ◌<◌, ◌≤◌, List, [], ◌∷◌, ◌++◌, length, map, sym, ap, subst, ◌∙◌, refl, true, false, arith}
use Rattle.std.specs.Prelude.{Bool, ◌&&◌, fold, not, nat_le, nat_lt, Option, Some, None, IfSome, slice_index_or}
use Rattle.std.specs.List.{list_all, flat_map}
use Rattle.std.specs.Option.{option_and_then, option_map}
use Rattle.std.proofs.lemmas.Grind.{flat_map-append}
use Rattle.std.proofs.lemmas.List.{length-append, get_or_past}
use Rattle.std.proofs.lemmas.List.Sums.{fold-append, passes_at_first}
use Rattle.yard_model.specs.declared.charter.Sending.{Sending}
use Rattle.yard_model.specs.declared.fact.Fact.TheVariants as fact
use Rattle.yard_model.specs.declared.incarnation.Incarnation.{Incarnation}
use Rattle.yard_model.specs.declared.incarnation.Slot.{Slot}
use Rattle.yard_model.specs.declared.incarnation.Slot.TheVariants as slot
use Rattle.yard_model.specs.Genuine.{is_genuine, is_producer}
use Rattle.yard_model.specs.Move.{Move, demanded, pushed, told, item_of}
use Rattle.yard_model.specs.Node.{Node, by_producer, after}
use Rattle.yard_model.specs.Producer as producer
use Rattle.yard_model.specs.Producer.{Producer, producer_after, message_of, progress, next_sending, no_progress}
use Rattle.yard_model.specs.Script.{Script, IsScript, setting, sends, is_name}
use Rattle.yard_model.specs.Setting.{place}
use Rattle.yard_model.specs.SlotReads.{queued, confirmed}
use Rattle.yard_model.specs.Words.{at}
use Rattle.plain_laws.proofs.Booleans.{and_both, both, below, not_below, same_name}
use Rattle.plain_laws.proofs.Lists.{all_join, all_if}
use Rattle.actor_laws.specs.ProducerStands.{IsProducer, ProducerKeeps, ProducerRoutes, Routes, is_sent_well}
use Rattle.node_laws.specs.NodeStands.{IsSoundNode, IsProducerAt}
use Rattle.node_laws.proofs.NodeProducers.{is_producing, above_zero}
use Rattle.producer_ctl.specs.Paired.{name_at}
use Rattle.producer_ctl.specs.Produced.{Gives, and_then, pushing, acking, asking, queueing, repeating, resending}
use Rattle.producer_ctl.specs.Producing.{Producing, IsBounded, Stands, sending}
use Rattle.shard_lease.specs.Meaning.{Meaning}
use Rattle.node_core.specs.Calling.{AreDemanded, AreQueued}
use Rattle.node_core.specs.Found.{asks}
use Rattle.node_core.specs.Still.{is_still_move}
use Rattle.node_core.proofs.CallLaws.{IsFit, AreFit, AreFew}
use Rattle.room_laws.proofs.ProducerRoom.{push_few, resend_few, repeat_few, demanded_confirm, demanded_more, demanded_queue, confirmed_reaches, confirm_room, repeat_marks_room}
use Rattle.room_laws.proofs.Limits.{some_window}
use Rattle.node_core.proofs.StillQueue.{queue_within, confirm_within, pushed_still}

-- No producer demands more than the window above what is confirmed.

demanded_at : (c : Script) (k : Producer) → k.set ≡ setting c → length k.pairs ≡ length (setting c).names
    → ((i : ℕ) → i < length (setting c).names → (slice_index_or k.pairs i no_progress).demand ≤ confirmed (name_at (setting c).names i) k.entries + c.config.window) → AreDemanded c.config.window k
demanded_at c k set full bounded e = subst (λ z. (slice_index_or k.pairs (place z e) no_progress).demand ≤ confirmed e k.entries + c.config.window) (sym set) (by (nat_lt (place (setting c) e) (length (setting c).names)) refl)
  where
    by : (b : Bool) → nat_lt (place (setting c) e) (length (setting c).names) ≡ b → (slice_index_or k.pairs (place (setting c) e) no_progress).demand ≤ confirmed e k.entries + c.config.window
    by true h =
        let inside : place (setting c) e < length (setting c).names = below (place (setting c) e) (length (setting c).names) h in
        let name : e ≡ name_at (setting c).names (place (setting c) e) = same_name e (name_at (setting c).names (place (setting c) e)) (passes_at_first (is_name e) (setting c).names [] inside) in
        subst (λ x. (slice_index_or k.pairs (place (setting c) e) no_progress).demand ≤ confirmed x k.entries + c.config.window) (sym name) (bounded (place (setting c) e) inside)
    by false h =
        let past : length (setting c).names ≤ place (setting c) e = not_below (place (setting c) e) (length (setting c).names) h in
        let none : (slice_index_or k.pairs (place (setting c) e) no_progress).demand ≡ 0 = ap (λ (x : producer.Progress). x.demand) (get_or_past k.pairs (place (setting c) e) no_progress (omega (arith, past, full))) in
        omega (arith, none)

pub demanded_of : (c : Script) (v : Producing) (p : ℕ) → v.script ≡ c → Stands p v → IfSome (at v.producers (p - 1)) (AreDemanded c.config.window)
demanded_of c v p script stands = by (at v.producers (p - 1)) stands.each
  where
    by : (o : Option Producer) → IfSome o (IsBounded v p) → IfSome o (AreDemanded c.config.window)
    by None h = tt
    by (Some k) h = subst (λ (d : Script). AreDemanded d.config.window k) script (demanded_at v.script k h.set_is h.pairs_full h.bounded)

-- Moves, and then what is given.

fit_then : (c : Script) (f : Producer → List Move) (q : Producer → Gives) (k : Producer) → list_all is_producing (f k) ≡ true → IsFit c (fold producer_after k (f k)) (q (fold producer_after k (f k)))
    → length (flat_map item_of (f k)) + length (flat_map item_of (q (fold producer_after k (f k))).moves) ≤ 1 → IsFit c k (and_then f q k)
fit_then c f q k plain fits told =
    let g : Gives = q (fold producer_after k (f k)) in
    record {
      plain = all_join is_producing (f k) g.moves plain fits.plain;
      told = let all : length (flat_map item_of (f k ++ g.moves)) ≡ length (flat_map item_of (f k)) + length (flat_map item_of g.moves) = ap length (flat_map-append item_of (f k) g.moves) ∙ length-append (flat_map item_of (f k)) (flat_map item_of g.moves) in omega (arith, all, told);
      well = subst (λ j. list_all (is_sent_well c g.entity j) g.numbers ≡ true) (sym (fold-append producer_after k (f k) g.moves)) fits.well;
    }

confirm_plain : (e : List ℕ) (n : ℕ) (k : Producer) → list_all is_producing (producer.confirm e n k) ≡ true
confirm_plain e n k = all_if is_producing (nat_lt (confirmed e k.entries) n) (told (fact.Confirmed k.number e n) ∷ []) [] refl refl

repeat_plain : (e ns : List ℕ) → list_all is_producing (map (pushed e) ns) ≡ true
repeat_plain e [] = refl
repeat_plain e (n ∷ ns) = repeat_plain e ns

-- what is pushed changes no message
pushed_message : (e x : List ℕ) (n : ℕ) (k : Producer) (ns : List ℕ) → message_of x (fold producer_after k (map (pushed e) ns)) n ≡ message_of x k n
pushed_message e x n k [] = refl
pushed_message e x n k (m ∷ ns) = pushed_message e x n (producer_after k (pushed e m)) ns

well_pushed : (c : Script) (e : List ℕ) (k : Producer) (ms ns : List ℕ) → list_all (is_sent_well c e k) ns ≡ true → list_all (is_sent_well c e (fold producer_after k (map (pushed e) ms))) ns ≡ true
well_pushed c e k ms [] h = refl
well_pushed c e k ms (n ∷ ns) h =
    let parts : (is_sent_well c e k n ≡ true) × (list_all (is_sent_well c e k) ns ≡ true) = and_both (is_sent_well c e k n) (list_all (is_sent_well c e k) ns) h in
    both (is_sent_well c e (fold producer_after k (map (pushed e) ms)) n) (list_all (is_sent_well c e (fold producer_after k (map (pushed e) ms))) ns) (ap (is_genuine c) (pushed_message e e n k ms) ∙ parts.0) (well_pushed c e k ms ns parts.1)

pub fit_push : ProducerRoutes → (c : Script) (e : List ℕ) (k : Producer) → IsProducer c k → IsFit c k (pushing e k)
fit_push law c e k stands = record { plain = refl; told = omega arith; well = (law c k stands).pushed_well e }

module _ (keeps : ProducerKeeps) (law : ProducerRoutes) (c : Script) (k : Producer) (stands : IsProducer c k) where
  pub fit_ack : (e : List ℕ) (n : ℕ) → n ≤ queued e k.entries → IsFit c k (acking e n k)
  fit_ack e n there = fit_then c (producer.confirm e n) (pushing e) k (confirm_plain e n k) (fit_push law c e (fold producer_after k (producer.confirm e n k)) ((keeps c k stands).confirms e n there).stands) (let one = confirm_room e n k in omega (arith, one))

  pub fit_ask : (e : List ℕ) (n u : ℕ) → n ≤ queued e k.entries → IsFit c k (asking e n u k)
  fit_ask e n u there =
      let j : Producer = fold producer_after k (producer.confirm e n k) in
      let one : IsProducer c j = ((keeps c k stands).confirms e n there).stands in
      fit_then c (producer.confirm e n) (and_then (λ st. demanded e u ∷ []) (pushing e)) k (confirm_plain e n k)
      (fit_then c (λ st. demanded e u ∷ []) (pushing e) j refl (fit_push law c e (producer_after j (demanded e u)) ((keeps c j one).demands e u).stands) (omega arith))
      (let told = confirm_room e n k in omega (arith, told))

  pub fit_queue : (x : Sending) → next_sending (sends c k.number) k ≡ Some x → IsFit c k (queueing x k)
  fit_queue x next = fit_then c (producer.queue x) (pushing x.entity) k refl (fit_push law c x.entity (fold producer_after k (producer.queue x k)) ((keeps c k stands).queues x next).stands) (omega arith)

  pub fit_resend : (e : List ℕ) (f : ℕ) → IsFit c k (resending e f k)
  fit_resend e f = record { plain = refl; told = omega arith; well = (law c k stands).resent_well e f }

  pub fit_repeat : (e : List ℕ) → IsFit c k (repeating e k)
  fit_repeat e = record {
    plain = repeat_plain e (producer.to_repeat e k);
    told = let none = repeat_marks_room e k in omega (arith, none);
    well = well_pushed c e k (producer.to_repeat e k) (producer.to_repeat e k) ((law c k stands).repeated_well e);
  }

-- Of a node that stands.

module _ (keeps : ProducerKeeps) (law : ProducerRoutes) (c : Script) (st : Node) (p : ℕ) (sound : IsSoundNode c st) (valid : is_producer c p ≡ true) where
  stands_at : (k : Producer) → at st.producers (p - 1) ≡ Some k → IsProducerAt c st.who p k
  stands_at k found = sound.producers p k (above_zero p c.config.producers valid).0 found

  queued_at : (e : List ℕ) (n : ℕ) → AreQueued p e n st → (k : Producer) → at st.producers (p - 1) ≡ Some k → n ≤ queued e k.entries
  queued_at e n there k found = subst (λ o. IfSome o (λ (j : Producer). n ≤ queued e j.entries)) found there

  pub request_fits : (e : List ℕ) (n u : ℕ) → AreQueued p e n st → AreFit c p (λ k. Some (asking e n u k)) st
  request_fits e n u there k found = fit_ask keeps law c k (stands_at k found).stands e n u (queued_at e n there k found)

  pub ack_fits : (e : List ℕ) (n : ℕ) → AreQueued p e n st → AreFit c p (λ k. Some (acking e n k)) st
  ack_fits e n there k found = fit_ack keeps law c k (stands_at k found).stands e n (queued_at e n there k found)

  pub resend_fits : (e : List ℕ) (f : ℕ) → AreFit c p (λ k. Some (resending e f k)) st
  resend_fits e f k found = fit_resend keeps law c k (stands_at k found).stands e f

  pub repeat_fits : (e : List ℕ) → AreFit c p (λ k. Some (repeating e k)) st
  repeat_fits e k found = fit_repeat keeps law c k (stands_at k found).stands e

  pub send_fits : AreFit c p (sending (sends c p)) st
  send_fits k found = by (next_sending (sends c p) k) refl
    where
      by : (o : Option Sending) → next_sending (sends c p) k ≡ o → IfSome (option_map (λ x. queueing x k) o) (IsFit c k)
      by None next = tt
      by (Some x) next = fit_queue keeps law c k (stands_at k found).stands x (subst (λ n. next_sending (sends c n) k ≡ Some x) (sym (stands_at k found).number_is) next)

-- The numbers are few, where no more is demanded than the window above what is confirmed.

pub repeat_least : (p : ℕ) (e : List ℕ) (st : Node) → AreFew 1 p (λ k. Some (repeating e k)) st
repeat_least p e st k found = repeat_few e k

module _ (c : Script) (st : Node) (p : ℕ) (script : IsScript c) (sound : IsSoundNode c st) (valid : is_producer c p ≡ true) (demand : IfSome (at st.producers (p - 1)) (AreDemanded c.config.window)) where
  demand_at : (k : Producer) → at st.producers (p - 1) ≡ Some k → AreDemanded c.config.window k
  demand_at k found = subst (λ o. IfSome o (AreDemanded c.config.window)) found demand

  pub ack_few : (e : List ℕ) (n : ℕ) → AreFew c.config.window p (λ k. Some (acking e n k)) st
  ack_few e n k found = push_few c.config.window e (fold producer_after k (producer.confirm e n k)) (some_window c script) (demanded_confirm c.config.window e n k (demand_at k found) e)

  pub request_few : ProducerKeeps → (e : List ℕ) (n u : ℕ) → AreQueued p e n st → u ≤ n + c.config.window → AreFew c.config.window p (λ k. Some (asking e n u k)) st
  request_few keeps e n u there near k found =
      let j : Producer = fold producer_after k (producer.confirm e n k) in
      let here : IsProducerAt c st.who p k = sound.producers p k (above_zero p c.config.producers valid).0 found in
      let one : IsProducer c j = ((keeps c k here.stands).confirms e n (subst (λ o. IfSome o (λ (i : Producer). n ≤ queued e i.entries)) found there)).stands in
      let reaches : n ≤ confirmed e j.entries = confirmed_reaches e n k in
      push_few c.config.window e (producer_after j (demanded e u)) (some_window c script) (demanded_more c.config.window e u j one.pairs_full (omega (arith, near, reaches)) (demanded_confirm c.config.window e n k (demand_at k found)) e)

  pub resend_least : (e : List ℕ) (f : ℕ) → AreFew c.config.window p (λ k. Some (resending e f k)) st
  resend_least e f k found = resend_few c.config.window e f k (some_window c script) (demand_at k found e)

  pub send_few : AreFew c.config.window p (sending (sends c p)) st
  send_few k found = by (next_sending (sends c p) k)
    where
      by : (o : Option Sending) → IfSome (option_map (λ x. queueing x k) o) (λ g. length g.numbers ≤ c.config.window)
      by None = tt
      by (Some x) = push_few c.config.window x.entity (fold producer_after k (producer.queue x k)) (some_window c script) (demanded_queue c.config.window x k (demand_at k found) x.entity)
