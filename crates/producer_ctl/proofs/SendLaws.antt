-- What is routed next; what is queued next; what stands of a producer.
use Rattle.std.proofs.Common.{◌≡◌, ℕ, ◌<◌, ◌≤◌, ◌+◌, ◌-◌, List, [], ◌∷◌, length, map, replicate, sym, ap, subst, ◌∙◌, refl, true, arith, get_or-set_other}
use Rattle.std.specs.Prelude.{zero, suc, Bool, Option, None, Some, IfSome, MatchOption, Result, Ok, Err, OnOk, slice_index_or, slice_set}
use Rattle.std.specs.List.{All}
use Rattle.std.specs.Option.{option_map, option_and_then}
use Rattle.std.proofs.lemmas.List.{length-map, get_or-map, ext_get_or}
use Rattle.yard_model.specs.declared.charter.Sending.{Sending}
use Rattle.yard_model.specs.declared.packet.Message.{Message}
use Rattle.yard_model.specs.declared.incarnation.Incarnation.{Incarnation}
use Rattle.yard_model.specs.Genuine.{is_producer, is_brought}
use Rattle.yard_model.specs.Producer.{Producer, Progress, message_of, next_sending, no_progress}
use Rattle.yard_model.specs.Script.{Script, setting, sends}
use Rattle.yard_model.specs.Setting.{shard_of}
use Rattle.yard_model.specs.SlotReads.{confirmed, queued_in_all}
use Rattle.yard_model.specs.Words.{at, numbers}
use Rattle.durable_queue.specs.Queue.{Queue}
use Rattle.plain_laws.proofs.Lists.{by_place, none_is_not_some, some_is}
use Rattle.send_window.specs.declared.pair.Pair.{Pair}
use Rattle.send_window.specs.declared.pair.Sends.{Sends}
use Rattle.producer_ctl.specs.declared.producers.Pending.{Pending}
use Rattle.producer_ctl.specs.Paired.{IsPair, IsPlace, name_at, no_pair, progress_of}
use Rattle.send_window.specs.Window.{numbers_of}
use Rattle.producer_ctl.specs.Produced.{Produced, IsProduced, StandsAs, produced, queueing}
use Rattle.producer_ctl.specs.Producing.{Producing, producing, IsProducing, IsHeld, IsPending, IsQueued, MaySend, MayGo, IsReserved, IsBounded, Stands, AreMore, AreReady, IsRoomy, after_message, first_of, held, next_message, no_routing, place_at, rest_of, room_of, sending, state_of, with_room}
use Rattle.producer_ctl.proofs.NamedLaws.{none_at}
use Rattle.producer_ctl.proofs.ProducingLaws.{item_read, held_is, numbered}
use Rattle.producer_ctl.proofs.SentLaws.{sent_is_brought}
use Rattle.producer_ctl.proofs.StoreLaws.{no_room}
use Rattle.producer_ctl.proofs.WithinLaws.{first_of_all, rest_of_all}
use Rattle.producer_ctl.specs.Within.{IsWithin}

-- What is routed next.

pub numbers_step : (after last : ℕ) → after < last → numbers_of (record { after = after; last = last }) ≡ (after + 1) ∷ numbers_of (record { after = after + 1; last = last })
numbers_step after last some = ap (numbers (after + 1)) (less after last some)
  where
    less : (a b : ℕ) → a < b → b + 1 - (a + 1) ≡ suc (b + 1 - (a + 1 + 1))
    less a b h = omega (arith, h)

-- the one that is read, where something is to be routed
pub pending_read : {c : Script} {who : Incarnation} {names : List (List ℕ)} {items : List (Option Produced)} {tables : List (Option ℕ)} {pending : Option Pending} {x : Pending} {i : ℕ} {o : Option Produced}
    → IsProducing c who names items tables pending → pending ≡ Some x → i ≡ x.producer - 1 → o ≡ slice_index_or items i o → (at items i ≡ o) × MaySend (name_at (setting c).names x.at) (numbers_of x.sends) o
pending_read {c} {who} {names} {items} {tables} {pending} {x} {i} {o} k some same read =
    let here : at items i ≡ o = in_items items i o there_at read in
    (here, subst (MaySend (name_at (setting c).names x.at) (numbers_of x.sends)) here there_at)
  where
    p : IsPending c items x
    p = subst (λ y. IfSome y (IsPending c items)) some k.pending_is

    there_at : MaySend (name_at (setting c).names x.at) (numbers_of x.sends) (at items i)
    there_at = subst (λ n. MaySend (name_at (setting c).names x.at) (numbers_of x.sends) (at items n)) (sym same) p.there

    in_items : (items : List (Option Produced)) (i : ℕ) (o : Option Produced) → MaySend (name_at (setting c).names x.at) (numbers_of x.sends) (at items i) → o ≡ slice_index_or items i o → at items i ≡ o
    in_items [] i o q read = absurd q
    in_items (y ∷ items) zero o q read = sym read
    in_items (y ∷ items) (suc i) o q read = in_items items i o q read

-- the first of them may be sent, and so may those after it
first_within : (e : List ℕ) (s : Sends) (st : Producer) → s.after < s.last → All (IsWithin e st) (numbers_of s) → IsWithin e st (s.after + 1)
first_within e s st below all =
    first_of_all (IsWithin e st) (s.after + 1) (numbers_of (record { after = s.after + 1; last = s.last })) (subst (All (IsWithin e st)) (numbers_step s.after s.last below) all)

rest_may : (e : List ℕ) (s : Sends) (o : Option Produced) → s.after < s.last → MaySend e (numbers_of s) o → MaySend e (numbers_of (record { after = s.after + 1; last = s.last })) o
rest_may e s None below may = may
rest_may e s (Some k) below all =
    rest_of_all (IsWithin e k.state) (s.after + 1) (numbers_of (record { after = s.after + 1; last = s.last })) (subst (All (IsWithin e k.state)) (numbers_step s.after s.last below) all)

-- once the first is routed
pub pending_passed : {c : Script} {who : Incarnation} {names : List (List ℕ)} {items : List (Option Produced)} {tables : List (Option ℕ)} {pending : Option Pending} {x : Pending}
    → IsProducing c who names items tables pending → pending ≡ Some x → x.sends.after < x.sends.last → IsProducing c who names items tables (Some (record { producer = x.producer; at = x.at; sends = record { after = x.sends.after + 1; last = x.sends.last } }))
pending_passed {c} {who} {names} {items} {tables} {pending} {x} k some below = record {
  names_are = k.names_are;
  sorted = k.sorted;
  there = k.there;
  tables_there = k.tables_there;
  each = k.each;
  free = k.free;
  pending_is = record { stands = p.stands; there = rest_may (name_at (setting c).names x.at) x.sends (at items (x.producer - 1)) below p.there };
}
  where
    p : IsPending c items x
    p = subst (λ y. IfSome y (IsPending c items)) some k.pending_is

-- the name that is lent is the one that is to be routed to
pub pending_named : (e : List ℕ) (n : ℕ) {c : Script} {who : Incarnation} {names : List (List ℕ)} {items : List (Option Produced)} {tables : List (Option ℕ)} {pending : Option Pending}
    → IsProducing c who names items tables pending → e ≡ name_at names n → e ≡ name_at (setting c).names n
pending_named e n k is = is ∙ ap (λ l. name_at l n) k.names_are

pub pending_within : {c : Script} {who : Incarnation} {names : List (List ℕ)} {items : List (Option Produced)} {tables : List (Option ℕ)} {pending : Option Pending} {x : Pending}
    → IsProducing c who names items tables pending → pending ≡ Some x → x.at < length names
pending_within {c} {who} {names} {items} {tables} {pending} {x} k some = subst (λ (l : List (List ℕ)). x.at < length l) (sym k.names_are) p.stands.within
  where
    p : IsPending c items x
    p = subst (λ y. IfSome y (IsPending c items)) some k.pending_is

pub pending_queued : (e : List ℕ) {c : Script} {who : Incarnation} {names : List (List ℕ)} {items : List (Option Produced)} {tables : List (Option ℕ)} {pending : Option Pending} {x : Pending} {i : ℕ} {o : Option Produced}
    → IsProducing c who names items tables pending → pending ≡ Some x → x.sends.after < x.sends.last → i ≡ x.producer - 1 → o ≡ slice_index_or items i o → e ≡ name_at names x.at → IsQueued e (x.sends.after + 1) o
pending_queued e {c} {who} {names} {items} {tables} {pending} {x} {i} {o} k some below same read is =
    subst (λ f. IsQueued f (x.sends.after + 1) o) (sym (pending_named e x.at k is)) (weaker o (pending_read k some same read).1)
  where
    weaker : (o : Option Produced) → MaySend (name_at (setting c).names x.at) (numbers_of x.sends) o → IsQueued (name_at (setting c).names x.at) (x.sends.after + 1) o
    weaker None q = q
    weaker (Some k) q = (first_within (name_at (setting c).names x.at) x.sends k.state below q).is_queued

-- its place is one of the script of the producer that is read
pub pending_placed : (e : List ℕ) {c : Script} {who : Incarnation} {names : List (List ℕ)} {items : List (Option Produced)} {tables : List (Option ℕ)} {pending : Option Pending} {x : Pending} {i : ℕ} {o : Option Produced}
    → IsProducing c who names items tables pending → pending ≡ Some x → x.sends.after < x.sends.last → i ≡ x.producer - 1 → o ≡ slice_index_or items i o → e ≡ name_at names x.at → IfSome o (λ k. IsPlace k.script (record { entity = e; at = x.at }))
pending_placed e {c} {who} {names} {items} {tables} {pending} {x} {i} {o} k some below same read is =
    subst (λ f. IfSome o (λ k. IsPlace k.script (record { entity = f; at = x.at }))) (sym (pending_named e x.at k is))
    (by o (subst (λ y. IfSome y (IsHeld c who (i + 1))) (pending_read k some same read).0 (k.each i)))
  where
    p : IsPending c items x
    p = subst (λ y. IfSome y (IsPending c items)) some k.pending_is

    by : (o : Option Produced) → IfSome o (IsHeld c who (i + 1)) → IfSome o (λ k. IsPlace k.script (place_at c x.at))
    by None h = tt
    by (Some k) h = subst (λ (s : Script). IsPlace s (place_at c x.at)) (sym h.script_is) p.stands

at_map : (items : List (Option Produced)) (i : ℕ) → at (map (option_map state_of) items) i ≡ option_map state_of (at items i)
at_map [] i = refl
at_map (y ∷ items) zero = refl
at_map (y ∷ items) (suc i) = at_map items i

pub after_is : (items : List (Option Produced)) (pending : Option Pending) {c : Script} {who : Incarnation} {v : Producing} {x : Pending} → producing c who items pending ≡ v → pending ≡ Some x → x.sends.after < x.sends.last
    → producing c who items (Some (record { producer = x.producer; at = x.at; sends = record { after = x.sends.after + 1; last = x.sends.last } })) ≡ after_message v
after_is items pending {c} {who} {v} {x} seen some below =
    subst (λ (v : Producing). producing c who items (Some (record { producer = x.producer; at = x.at; sends = record { after = x.sends.after + 1; last = x.sends.last } })) ≡ after_message v) seen
    (subst (λ y. producing c who items (Some (record { producer = x.producer; at = x.at; sends = record { after = x.sends.after + 1; last = x.sends.last } })) ≡ after_message (producing c who items y)) (sym some)
    (ap (λ l. record { script = c; who = who; producers = map (option_map state_of) items; rooms = map room_of items; pending = record { producer = x.producer; entity = (name_at (setting c).names x.at); numbers = l } }) (sym (ap rest_of (numbers_step x.sends.after x.sends.last below)))))

pub message_is : (e : List ℕ) {c : Script} {who : Incarnation} {names : List (List ℕ)} {items : List (Option Produced)} {tables : List (Option ℕ)} {pending : Option Pending} {v : Producing} {x : Pending} {i : ℕ} {o : Option Produced} {m : Message}
    → IsProducing c who names items tables pending → producing c who items pending ≡ v → pending ≡ Some x → x.sends.after < x.sends.last → i ≡ x.producer - 1 → o ≡ slice_index_or items i o → e ≡ name_at names x.at → option_map (λ k. message_of e k.state (x.sends.after + 1)) o ≡ Some m → Some m ≡ next_message v
message_is e {c} {who} {names} {items} {tables} {pending} {v} {x} {i} {o} {m} k seen some below same read is made =
    subst (λ (v : Producing). Some m ≡ next_message v) seen
    (subst (λ y. Some m ≡ next_message (producing c who items y)) (sym some)
    (sym (ap (λ l. option_and_then (λ n. option_map (λ st. message_of (name_at (setting c).names x.at) st n) (at (map (option_map state_of) items) (x.producer - 1))) (first_of l)) (numbers_step x.sends.after x.sends.last below)
    ∙ (ap (λ n. option_map (λ st. message_of (name_at (setting c).names x.at) st (x.sends.after + 1)) (at (map (option_map state_of) items) n)) (sym same)
    ∙ (ap (option_map (λ st. message_of (name_at (setting c).names x.at) st (x.sends.after + 1))) (at_map items i ∙ ap (option_map state_of) (pending_read k some same read).0)
    ∙ (both o ∙ (ap (λ f. option_map (λ k. message_of f k.state (x.sends.after + 1)) o) (sym (pending_named e x.at k is)) ∙ made)))))))
  where
    both : (o : Option Produced) → option_map (λ st. message_of (name_at (setting c).names x.at) st (x.sends.after + 1)) (option_map state_of o) ≡ option_map (λ k. message_of (name_at (setting c).names x.at) k.state (x.sends.after + 1)) o
    both None = refl
    both (Some k) = refl

-- and its number may be sent
pub message_may_go : (e : List ℕ) {c : Script} {who : Incarnation} {names : List (List ℕ)} {items : List (Option Produced)} {tables : List (Option ℕ)} {pending : Option Pending} {v : Producing} {x : Pending} {i : ℕ} {o : Option Produced} {m : Message}
    → IsProducing c who names items tables pending → producing c who items pending ≡ v → pending ≡ Some x → x.sends.after < x.sends.last → i ≡ x.producer - 1 → o ≡ slice_index_or items i o → e ≡ name_at names x.at → option_map (λ k. message_of e k.state (x.sends.after + 1)) o ≡ Some m → MayGo v m
message_may_go e {c} {who} {names} {items} {tables} {pending} {v} {x} {i} {o} {m} k seen some below same read is made =
    subst (λ (v : Producing). MayGo v m) seen
    (subst (λ y. MayGo (producing c who items y) m) (sym some)
    (subst (λ y. MatchOption y ⊥ (λ st. IsWithin m.entity st m.number)) (sym held_here) (by o (pending_read k some same read).1 made)))
  where
    held_here : at (map (option_map state_of) items) (x.producer - 1) ≡ option_map state_of o
    held_here = ap (at (map (option_map state_of) items)) (sym same) ∙ (at_map items i ∙ ap (option_map state_of) (pending_read k some same read).0)

    by : (o : Option Produced) → MaySend (name_at (setting c).names x.at) (numbers_of x.sends) o → option_map (λ k. message_of e k.state (x.sends.after + 1)) o ≡ Some m → MatchOption (option_map state_of o) ⊥ (λ st. IsWithin m.entity st m.number)
    by None q made = absurd q
    by (Some k2) q made =
        subst (λ (m : Message). IsWithin m.entity k2.state m.number) (some_is (message_of e k2.state (x.sends.after + 1)) m made)
        (subst (λ f. IsWithin f k2.state (x.sends.after + 1)) (sym (pending_named e x.at k is)) (first_within (name_at (setting c).names x.at) x.sends k2.state below q))

-- What is left.

-- none, where the last was sent
pub none_left : (items : List (Option Produced)) (pending : Option Pending) {c : Script} {who : Incarnation} {v : Producing} {x : Pending} → producing c who items pending ≡ v → pending ≡ Some x → x.sends.last ≤ x.sends.after → v.pending.numbers ≡ []
none_left items pending {c} {who} {v} {x} seen some past =
    subst (λ (v : Producing). v.pending.numbers ≡ []) seen (subst (λ y. (producing c who items y).pending.numbers ≡ []) (sym some) (ap (numbers (x.sends.after + 1)) (no_more x.sends.after x.sends.last past)))
  where
    no_more : (a b : ℕ) → b ≤ a → b + 1 - (a + 1) ≡ 0
    no_more a b h = omega (arith, h)

-- or where there is nothing
pub nothing_left : (items : List (Option Produced)) (pending : Option Pending) {c : Script} {who : Incarnation} {v : Producing} → producing c who items pending ≡ v → pending ≡ None → v.pending.numbers ≡ []
nothing_left items pending {c} {who} {v} seen none = subst (λ (v : Producing). v.pending.numbers ≡ []) seen (subst (λ y. (producing c who items y).pending.numbers ≡ []) (sym none) refl)

-- some, where one wasn't
pub some_left : (items : List (Option Produced)) (pending : Option Pending) {c : Script} {who : Incarnation} {v : Producing} {x : Pending} → producing c who items pending ≡ v → pending ≡ Some x → x.sends.after < x.sends.last → 0 < length v.pending.numbers
some_left items pending {c} {who} {v} {x} seen some below =
    subst (λ (v : Producing). 0 < length v.pending.numbers) seen (subst (λ y. 0 < length (producing c who items y).pending.numbers) (sym some)
    (subst (λ l. 0 < length l) (sym (numbers_step x.sends.after x.sends.last below)) (first (length (numbers_of (record { after = x.sends.after + 1; last = x.sends.last }))))))
  where
    first : (n : ℕ) → 0 < suc n
    first n = omega arith

pub left_below : (items : List (Option Produced)) (pending : Option Pending) {c : Script} {who : Incarnation} {v : Producing} {x : Pending} → producing c who items pending ≡ v → pending ≡ Some x → 0 < length v.pending.numbers → x.sends.after < x.sends.last
left_below items pending {c} {who} {v} {x} seen some left =
    by (x.sends.last + 1 - (x.sends.after + 1)) refl (subst (λ y. 0 < length (producing c who items y).pending.numbers) some (subst (λ (v : Producing). 0 < length v.pending.numbers) (sym seen) left))
  where
    by : (n : ℕ) → x.sends.last + 1 - (x.sends.after + 1) ≡ n → 0 < length (numbers (x.sends.after + 1) n) → x.sends.after < x.sends.last
    by zero e h = omega (arith, h)
    by (suc n) e h = omega (arith, e)

-- to whom it goes
pub left_entity : (items : List (Option Produced)) (pending : Option Pending) {c : Script} {who : Incarnation} {v : Producing} {x : Pending} → producing c who items pending ≡ v → pending ≡ Some x → v.pending.entity ≡ name_at (setting c).names x.at
left_entity items pending {c} {who} {v} {x} seen some = subst (λ (v : Producing). v.pending.entity ≡ name_at (setting c).names x.at) seen (subst (λ y. (producing c who items y).pending.entity ≡ name_at (setting c).names x.at) (sym some) refl)

pub left_shard : (items : List (Option Produced)) (pending : Option Pending) (s : ℕ) {c : Script} {who : Incarnation} {v : Producing} {x : Pending} → producing c who items pending ≡ v → pending ≡ Some x → s ≡ shard_of (setting c) (name_at (setting c).names x.at) → s ≡ shard_of (setting v.script) v.pending.entity
left_shard items pending s {c} {who} {v} {x} seen some is =
    is ∙ (ap (shard_of (setting c)) (sym (left_entity items pending seen some)) ∙ ap (λ (c : Script). shard_of (setting c) v.pending.entity) (ap (λ (v : Producing). v.script) seen))

-- a message goes to whom they go
pub message_to : (v : Producing) (m : Message) → next_message v ≡ Some m → m.entity ≡ v.pending.entity
message_to v m is = by (first_of v.pending.numbers) (held v.pending.producer v) is
  where
    by : (n : Option ℕ) (o : Option Producer) → option_and_then (λ n. option_map (λ st. message_of v.pending.entity st n) o) n ≡ Some m → m.entity ≡ v.pending.entity
    by None o e = absurd (none_is_not_some m e)
    by (Some n) None e = absurd (none_is_not_some m e)
    by (Some n) (Some st) e = ap (λ (m : Message). m.entity) (sym (some_is (message_of v.pending.entity st n) m e))

-- where nothing is to be routed, nothing changes
pub none_after : {c : Script} {who : Incarnation} {v : Producing} (items : List (Option Produced)) (pending : Option Pending) → producing c who items pending ≡ v → pending ≡ None → producing c who items pending ≡ after_message v
none_after {c} {who} {v} items pending seen none = subst (λ (x : Producing). producing c who items pending ≡ after_message x) seen (subst (λ y. producing c who items y ≡ after_message (producing c who items y)) (sym none) refl)

pub none_message : {c : Script} {who : Incarnation} {v : Producing} (items : List (Option Produced)) (pending : Option Pending) → producing c who items pending ≡ v → pending ≡ None → None ≡ next_message v
none_message {c} {who} {v} items pending seen none = subst (λ (x : Producing). None ≡ next_message x) seen (subst (λ y. None ≡ next_message (producing c who items y)) (sym none) refl)

-- What is queued next.

pub next_is : (p : ℕ) {c : Script} {who : Incarnation} {names : List (List ℕ)} {items : List (Option Produced)} {tables : List (Option ℕ)} {pending : Option Pending} {v : Producing} {i : ℕ} {o : Option Produced}
    → IsProducing c who names items tables pending → producing c who items pending ≡ v → is_producer v.script p ≡ true → i ≡ p - 1 → o ≡ slice_index_or items i o
    → option_and_then (λ k. next_sending (sends k.script k.state.number) k.state) o ≡ option_and_then (next_sending (sends v.script p)) (held p v)
next_is p {c} {who} {names} {items} {tables} {pending} {v} {i} {o} k seen its same read =
    by o (subst (λ y. IfSome y (IsHeld c who (i + 1))) here.1 (k.each i))
    ∙ (ap (option_and_then (next_sending (sends c p))) (sym (held_is p k seen its same read)) ∙ ap (λ (s : Script). option_and_then (next_sending (sends s p)) (held p v)) (ap (λ (v : Producing). v.script) seen))
  where
    here : (i < length items) × (at items i ≡ o)
    here = item_read p k seen its same read

    number : i + 1 ≡ p
    number = ap (λ n. n + 1) same ∙ (numbered c p (subst (λ (v : Producing). is_producer v.script p ≡ true) (sym seen) its)).0

    by : (o : Option Produced) → IfSome o (IsHeld c who (i + 1)) → option_and_then (λ k. next_sending (sends k.script k.state.number) k.state) o ≡ option_and_then (next_sending (sends c p)) (option_map state_of o)
    by None h = refl
    by (Some x) h = ap (λ (s : Script). next_sending (sends s x.state.number) x.state) h.script_is ∙ ap (λ q. next_sending (sends c q) x.state) (h.number_is ∙ number)

-- and what it is
pub queued_next : (c : Script) (p : ℕ) (o : Option Producer) {x : Sending} → option_and_then (next_sending (sends c p)) o ≡ Some x → option_and_then (sending (sends c p)) o ≡ option_map (queueing x) o
queued_next c p None {x} is = absurd (none_is_not_some x is)
queued_next c p (Some st) {x} is = ap (option_map (λ y. queueing y st)) is

pub queued_none : (c : Script) (p : ℕ) (o : Option Producer) → option_and_then (next_sending (sends c p)) o ≡ None → option_and_then (sending (sends c p)) o ≡ None
queued_none c p None is = refl
queued_none c p (Some st) is = ap (option_map (λ y. queueing y st)) is

pub next_brought : (c : Script) (p : ℕ) (o : Option Producer) {x : Sending} → option_and_then (next_sending (sends c p)) o ≡ Some x → is_brought c x.entity ≡ true
next_brought c p None {x} is = absurd (none_is_not_some x is)
next_brought c p (Some st) {x} is = sent_is_brought c p (queued_in_all st.entries) x is

-- What stands.

pub stands_as : {who : Incarnation} {number : ℕ} {store : Queue} {pairs : List Pair} {v : Produced} → IsProduced who number store pairs → produced who number store pairs ≡ v → StandsAs v
stands_as {who} {number} {store} {pairs} {v} k seen = subst StandsAs seen record {
  set_is = refl;
  leased = k.leased;
  pairs_full = length-map pairs progress_of ∙ k.there;
  bounded = λ i inside. one i (k.each i inside) (subst (λ n. i < n) (sym k.there) inside);
}
  where
    one : (i : ℕ) → IsPair store.script.config.window (name_at (setting store.script).names i) store.entries (slice_index_or pairs i no_pair) → i < length pairs
        → (slice_index_or (map progress_of pairs) i no_progress).demand ≤ confirmed (name_at (setting store.script).names i) store.entries + store.script.config.window
    one i h inside = subst (λ (x : Progress). x.demand ≤ confirmed (name_at (setting store.script).names i) store.entries + store.script.config.window) (sym (get_or-map progress_of pairs i no_pair no_progress inside))
        (subst (λ n. (slice_index_or pairs i no_pair).demand ≤ n + store.script.config.window) h.confirmed_is h.bounded)

pub stands_at : (p : ℕ) {c : Script} {who : Incarnation} {names : List (List ℕ)} {items : List (Option Produced)} {tables : List (Option ℕ)} {pending : Option Pending} {v : Producing} {i : ℕ} {o : Option Produced}
    → IsProducing c who names items tables pending → producing c who items pending ≡ v → is_producer v.script p ≡ true → i ≡ p - 1 → o ≡ slice_index_or items i o → IfSome o StandsAs → Stands p v
stands_at p {c} {who} {names} {items} {tables} {pending} {v} {i} {o} k seen its same read as_it = record {
  empty = no_room p items pending seen;
  each = subst (λ y. IfSome y (IsBounded v p)) (sym (held_is p k seen its same read)) (by o (subst (λ y. IfSome y (IsHeld c who (i + 1))) here.1 (k.each i)) as_it);
}
  where
    here : (i < length items) × (at items i ≡ o)
    here = item_read p k seen its same read

    number : i + 1 ≡ p
    number = ap (λ n. n + 1) same ∙ (numbered c p (subst (λ (v : Producing). is_producer v.script p ≡ true) (sym seen) its)).0

    script_is : c ≡ v.script
    script_is = ap (λ (v : Producing). v.script) seen

    by : (o : Option Produced) → IfSome o (IsHeld c who (i + 1)) → IfSome o StandsAs → IfSome (option_map state_of o) (IsBounded v p)
    by None h s = tt
    by (Some x) h s = record {
      who_is = h.who_is ∙ ap (λ (v : Producing). v.who) seen;
      set_is = h.set_is ∙ ap setting script_is;
      number_is = h.number_is ∙ number;
      leased = s.leased ∙ ap Some (h.who_is ∙ ap (λ (v : Producing). v.who) seen);
      pairs_full = s.pairs_full ∙ ap (λ (s : Script). length (setting s).names) (h.script_is ∙ script_is);
      bounded = subst (λ (s : Script). (i : ℕ) → i < length (setting s).names → (slice_index_or x.state.pairs i no_progress).demand ≤ confirmed (name_at (setting s).names i) x.state.entries + s.config.window) (h.script_is ∙ script_is) s.bounded;
    }

-- Room.

reserved_state : (o n : Option Produced) → IsReserved o n → option_map state_of n ≡ option_map state_of o
reserved_state None n r = ap (option_map state_of) r.same
reserved_state (Some k) n r = ap (option_map state_of) r.same

reserved_held : (c : Script) (who : Incarnation) (p : ℕ) (o n : Option Produced) → IsReserved o n → IfSome o (IsHeld c who p) → IfSome n (IsHeld c who p)
reserved_held c who p None n r h = subst (λ y. IfSome y (IsHeld c who p)) (sym r.same) tt
reserved_held c who p (Some k) n r h = subst (λ y. IfSome y (IsHeld c who p)) (sym r.same) (record { script_is = h.script_is; who_is = h.who_is; set_is = h.set_is; number_is = h.number_is })

reserved_none : (o n : Option Produced) → IsReserved o n → n ≡ None → o ≡ None
reserved_none None n r e = refl
reserved_none (Some k) n r e = absurd (none_is_not_some (with_room (room_of n) k) (sym e ∙ r.same))

reserved_may : (e ns : List ℕ) (o n : Option Produced) → IsReserved o n → MaySend e ns o → MaySend e ns n
reserved_may e ns None n r q = absurd q
reserved_may e ns (Some k) n r q = subst (MaySend e ns) (sym r.same) q

abbrev pub AllReserved : List (Option Produced) → List (Option Produced) → Type 0
AllReserved old new = (i : ℕ) → IsReserved (at old i) (at new i)

pub reserved_stands : {c : Script} {who : Incarnation} {names : List (List ℕ)} {items new : List (Option Produced)} {tables : List (Option ℕ)} {pending : Option Pending}
    → IsProducing c who names items tables pending → length new ≡ length items → AllReserved items new → IsProducing c who names new tables pending
reserved_stands {c} {who} {names} {items} {new} {tables} {pending} k size all = record {
  names_are = k.names_are;
  sorted = k.sorted;
  there = size ∙ k.there;
  tables_there = k.tables_there;
  each = λ i. reserved_held c who (i + 1) (at items i) (at new i) (all i) (k.each i);
  free = λ i below none. k.free i below (reserved_none (at items i) (at new i) (all i) none);
  pending_is = pend pending k.pending_is;
}
  where
    pend : (y : Option Pending) → IfSome y (IsPending c items) → IfSome y (IsPending c new)
    pend None h = tt
    pend (Some x) h = record { stands = h.stands; there = reserved_may (name_at (setting c).names x.at) (numbers_of x.sends) (at items (x.producer - 1)) (at new (x.producer - 1)) (all (x.producer - 1)) h.there }

pub reserved_seen : (items new : List (Option Produced)) (pending : Option Pending) {c : Script} {who : Incarnation} {v : Producing} → producing c who items pending ≡ v → length new ≡ length items → AllReserved items new
    → producing c who new pending ≡ record { script = v.script; who = v.who; producers = v.producers; rooms = map room_of new; pending = v.pending }
reserved_seen items new pending {c} {who} {v} seen size all =
    subst (λ (v : Producing). producing c who new pending ≡ record { script = v.script; who = v.who; producers = v.producers; rooms = map room_of new; pending = v.pending }) seen
    (ap (λ l. record { script = c; who = who; producers = l; rooms = map room_of new; pending = (producing c who items pending).pending }) same)
  where
    size_is : length (map (option_map state_of) new) ≡ length (map (option_map state_of) items)
    size_is = length-map new (option_map state_of) ∙ (size ∙ sym (length-map items (option_map state_of)))

    same : map (option_map state_of) new ≡ map (option_map state_of) items
    same = ext_get_or None (map (option_map state_of) new) (map (option_map state_of) items) size_is (λ i below. at_map new i ∙ (reserved_state (at items i) (at new i) (all i) ∙ sym (at_map items i)))

room_at : (items : List (Option Produced)) (i : ℕ) → slice_index_or (map room_of items) i 0 ≡ room_of (at items i)
room_at [] i = refl
room_at (y ∷ items) zero = refl
room_at (y ∷ items) (suc i) = room_at items i

pub reserved_more : (items new : List (Option Produced)) (pending : Option Pending) {c : Script} {who : Incarnation} {v : Producing} → producing c who items pending ≡ v → length new ≡ length items → AllReserved items new → AreMore v.rooms (map room_of new)
reserved_more items new pending {c} {who} {v} seen size all = subst (λ (v : Producing). AreMore v.rooms (map room_of new)) seen record {
  there = length-map new room_of ∙ (size ∙ sym (length-map items room_of));
  each = λ i. subst (λ n. n ≤ slice_index_or (map room_of new) i 0) (sym (room_at items i)) (subst (λ n. room_of (at items i) ≤ n) (sym (room_at new i)) (all i).more);
}

pub reserved_room : (wanted : ℕ) (items new : List (Option Produced)) (pending : Option Pending) {c : Script} {who : Incarnation} {v : Producing} → producing c who items pending ≡ v → ((i : ℕ) → (at items i ≡ None → ⊥) → wanted ≤ room_of (at new i))
    → (p : ℕ) → is_producer v.script p ≡ true → (held p v ≡ None → ⊥) → wanted ≤ slice_index_or (map room_of new) (p - 1) 0
reserved_room wanted items new pending {c} {who} {v} seen room p its there =
    subst (λ n. wanted ≤ n) (sym (room_at new (p - 1))) (room (p - 1) (λ none. there (subst (λ (v : Producing). held p v ≡ None) seen (at_map items (p - 1) ∙ ap (option_map state_of) none))))

-- The beginning.

map_none : (n : ℕ) → map (option_map state_of) (replicate n None) ≡ replicate n None
map_none zero = refl
map_none (suc n) = ap (λ l. None ∷ l) (map_none n)

map_room : (n : ℕ) → map room_of (replicate n None) ≡ replicate n 0
map_room zero = refl
map_room (suc n) = ap (λ l. 0 ∷ l) (map_room n)

pub new_seen : (c d : Script) (who : Incarnation) (items : List (Option Produced)) (n : ℕ) → c ≡ d → items ≡ replicate n None → n ≡ d.config.producers
    → producing c who items None ≡ record { script = d; who = who; producers = replicate d.config.producers None; rooms = replicate d.config.producers 0; pending = no_routing }
new_seen c d who items n script none size =
    ap (λ s. producing s who items None) script ∙ (ap (λ l. producing d who l None) (none ∙ ap (λ m. replicate m None) size)
    ∙ (ap (λ l. record { script = d; who = who; producers = l; rooms = map room_of (replicate d.config.producers None); pending = no_routing }) (map_none d.config.producers)
    ∙ ap (λ l. record { script = d; who = who; producers = replicate d.config.producers None; rooms = l; pending = no_routing }) (map_room d.config.producers)))

pub on_ok : {A E : Type 0} (r : Result A E) (P Q : Type 0) → (P → Q) → OnOk r P → OnOk r Q
on_ok (Ok x) P Q f h = f h
on_ok (Err e) P Q f h = tt

-- no queue is held, so each that is has room
pub none_ready : (n : ℕ) {items : List (Option Produced)} → items ≡ replicate n None → AreReady items
none_ready n {items} none i some = absurd (some (ap (λ l. at l i) none ∙ none_at n i))

-- What queueing asks.

pub next_there : (p : ℕ) {c : Script} {who : Incarnation} {names : List (List ℕ)} {items : List (Option Produced)} {tables : List (Option ℕ)} {pending : Option Pending} {v : Producing} {i : ℕ} {o : Option Produced} {x : Sending}
    → IsProducing c who names items tables pending → producing c who items pending ≡ v → is_producer v.script p ≡ true → i ≡ p - 1 → o ≡ slice_index_or items i o → option_and_then (next_sending (sends v.script p)) (held p v) ≡ Some x
    → IfSome o (λ k. next_sending (sends k.script k.state.number) k.state ≡ Some x)
next_there p {c} {who} {names} {items} {tables} {pending} {v} {i} {o} {x} k seen its same read is = by o (next_is p k seen its same read ∙ is)
  where
    by : (o : Option Produced) → option_and_then (λ k. next_sending (sends k.script k.state.number) k.state) o ≡ Some x → IfSome o (λ k. next_sending (sends k.script k.state.number) k.state ≡ Some x)
    by None e = tt
    by (Some k) e = e

pub room_there : (p : ℕ) {c : Script} {who : Incarnation} {names : List (List ℕ)} {items : List (Option Produced)} {tables : List (Option ℕ)} {pending : Option Pending} {v : Producing} {i : ℕ} {o : Option Produced}
    → IsProducing c who names items tables pending → producing c who items pending ≡ v → is_producer v.script p ≡ true → i ≡ p - 1 → o ≡ slice_index_or items i o → IfSome (held p v) (λ st. 0 < slice_index_or v.rooms (p - 1) 0) → IfSome o (λ k. 0 < k.room)
room_there p {c} {who} {names} {items} {tables} {pending} {v} {i} {o} k seen its same read room =
    by o (subst (λ y. IfSome y (λ st. 0 < slice_index_or v.rooms (p - 1) 0)) (held_is p k seen its same read) room)
    (subst (λ (v : Producing). slice_index_or v.rooms (p - 1) 0 ≡ room_of o) seen (room_at items (p - 1) ∙ ap room_of (ap (at items) (sym same) ∙ (item_read p k seen its same read).1)))
  where
    by : (o : Option Produced) → IfSome (option_map state_of o) (λ st. 0 < slice_index_or v.rooms (p - 1) 0) → slice_index_or v.rooms (p - 1) 0 ≡ room_of o → IfSome o (λ k. 0 < k.room)
    by None h e = tt
    by (Some k) h e = subst (λ n. 0 < n) e h

-- each was ready, and the one that was written to has room still
pub written_ready : (i : ℕ) (items : List (Option Produced)) (new : Option Produced) {before after : Bool} → (before ≡ true → AreReady items) → (after ≡ true → before ≡ true) → (after ≡ true → IsRoomy (at (slice_set items i new) i)) → after ≡ true → AreReady (slice_set items i new)
written_ready i items new were still its e j = by_place (IsRoomy (at (slice_set items i new) j)) j i
    (λ same. subst (λ n. IsRoomy (at (slice_set items i new) n)) (sym same) (its e))
    (λ apart. subst IsRoomy (sym (get_or-set_other items i j new None apart)) (were (still e) j))
