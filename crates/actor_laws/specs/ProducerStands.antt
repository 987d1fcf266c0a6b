-- What stands of a producer between its rules, that each rule keeps it, and that what it routes is genuine.
use Rattle.std.specs.Prelude.{◌≡◌, ℕ, ◌<◌, ◌≤◌, ◌+◌, Bool, true, ◌&&◌, nat_lt, nat_le, List, [], ◌∷◌, ◌++◌, length, map, fold, Some, None, IsTrue}
use Rattle.std.specs.List.{list_all}
use Rattle.yard_model.specs.declared.charter.Sending.{Sending}
use Rattle.yard_model.specs.declared.fact.Fact.{Fact}
use Rattle.yard_model.specs.declared.fact.Fact.TheVariants as fact
use Rattle.yard_model.specs.declared.incarnation.Cause.{Cause}
use Rattle.yard_model.specs.declared.incarnation.Incarnation.{Incarnation}
use Rattle.yard_model.specs.declared.incarnation.Slot.TheVariants as slot
use Rattle.yard_model.specs.Genuine.{is_node, is_producer, is_genuine}
use Rattle.yard_model.specs.Lawful.{own, may_follow}
use Rattle.yard_model.specs.Move.{Move, demanded, pushed}
use Rattle.yard_model.specs.Producer as producer
use Rattle.yard_model.specs.Producer.{Producer, producer_after}
use Rattle.yard_model.specs.Script.{Script, setting, sends}
use Rattle.yard_model.specs.SlotReads.{holder, epoch, queued, confirmed}
use Rattle.actor_laws.specs.Moves.{is_own_move}

-- what stands of a producer between its rules
pub record IsProducer (c : Script) (st : Producer) : Type 0 where
  pub who_is : is_node c st.who ≡ true
  pub set_is : st.set ≡ setting c
  pub number_is : is_producer c st.number ≡ true
  pub own_is : IsTrue (own c (slot.Queue st.number) st.entries)
  pub held_is : holder st.entries ≡ Some st.who
  pub pairs_full : length st.pairs ≡ length st.set.names

-- after these moves it stands, and they post only what is its own
pub record KeepsProducer (c : Script) (st : Producer) (ms : List Move) : Type 0 where
  pub stands : IsProducer c (fold producer_after st ms)
  pub posts_are : IsTrue (list_all (is_own_move c st.who) ms)

-- a command with this number is queued
abbrev pub is_queued_number : List ℕ → Producer → ℕ → Bool
is_queued_number e st n = nat_lt 0 n && nat_le n (queued e st.entries)

-- the message of this number is genuine
abbrev pub is_sent_well : Script → List ℕ → Producer → ℕ → Bool
is_sent_well c e st n = is_genuine c (producer.message_of e st n)

-- its rules, each under what its input promises
pub record Rules (c : Script) (st : Producer) : Type 0 where
  pub queues : (x : Sending) → producer.next_sending (sends c st.number) st ≡ Some x → KeepsProducer c st (producer.queue x st)
  pub confirms : (e : List ℕ) (n : ℕ) → n ≤ queued e st.entries → KeepsProducer c st (producer.confirm e n st)
  pub pushes : (e : List ℕ) → KeepsProducer c st (producer.push_marks e st)
  pub demands : (e : List ℕ) (u : ℕ) → KeepsProducer c st (demanded e u ∷ [])
  pub repeats : (e : List ℕ) → KeepsProducer c st (map (pushed e) (producer.to_repeat e st))
  -- the entries that it tells may follow in its list
  pub queued_follows : (x : Sending) → producer.next_sending (sends c st.number) st ≡ Some x → IsTrue (may_follow c (slot.Queue st.number) st.entries (fact.Queued st.number x.entity x.number x.command))
  pub confirmed_follows : (e : List ℕ) (n : ℕ) → confirmed e st.entries < n → n ≤ queued e st.entries → IsTrue (may_follow c (slot.Queue st.number) st.entries (fact.Confirmed st.number e n))
  pub freed_follows : (why : Cause) → IsTrue (may_follow c (slot.Queue st.number) st.entries (fact.Freed (slot.Queue st.number) (epoch st.entries) why))

-- what it routes
pub record Routes (c : Script) (st : Producer) : Type 0 where
  -- a queued command is that of its number in the plan
  pub messages : (e : List ℕ) (n : ℕ) → 0 < n → n ≤ queued e st.entries → is_genuine c (producer.message_of e st n) ≡ true
  -- the numbers that are routed are queued
  pub push_numbers : (e : List ℕ) → IsTrue (list_all (is_queued_number e st) (producer.to_push e st))
  pub resend_numbers : (e : List ℕ) (f : ℕ) → IsTrue (list_all (is_queued_number e st) (producer.to_resend e f st))
  pub repeat_numbers : (e : List ℕ) → IsTrue (list_all (is_queued_number e st) (producer.to_repeat e st))
  -- so their messages are genuine
  pub pushed_well : (e : List ℕ) → IsTrue (list_all (is_sent_well c e st) (producer.to_push e st))
  pub resent_well : (e : List ℕ) (f : ℕ) → IsTrue (list_all (is_sent_well c e st) (producer.to_resend e f st))
  pub repeated_well : (e : List ℕ) → IsTrue (list_all (is_sent_well c e st) (producer.to_repeat e st))

abbrev pub ProducerKeeps : Type 0
ProducerKeeps = (c : Script) (st : Producer) → IsProducer c st → Rules c st

abbrev pub ProducerRoutes : Type 0
ProducerRoutes = (c : Script) (st : Producer) → IsProducer c st → Routes c st

-- moves that are kept one list after another are kept together
abbrev pub ProducerJoins : Type 0
ProducerJoins = (c : Script) (st : Producer) (xs ys : List Move) → KeepsProducer c st xs → KeepsProducer c (fold producer_after st xs) ys → KeepsProducer c st (xs ++ ys)

-- once the queue is granted, its list being lawful
abbrev pub ProducerBegins : Type 0
ProducerBegins = (c : Script) (who : Incarnation) (p : ℕ) (list : List Fact) → is_node c who ≡ true → is_producer c p ≡ true → IsTrue (own c (slot.Queue p) list) → holder list ≡ Some who
    → IsProducer c (producer.new_producer (setting c) who p list)

-- a grant of a lawful list that nobody holds may follow, and the producer then stands
pub record IsGranted (c : Script) (who : Incarnation) (p : ℕ) (list : List Fact) : Type 0 where
  pub follows : IsTrue (may_follow c (slot.Queue p) list (fact.Granted (slot.Queue p) (epoch list + 1) who))
  pub stands : IsProducer c (producer.new_producer (setting c) who p (list ++ fact.Granted (slot.Queue p) (epoch list + 1) who ∷ []))

abbrev pub ProducerIsGranted : Type 0
ProducerIsGranted = (c : Script) (who : Incarnation) (p : ℕ) (list : List Fact) → is_node c who ≡ true → is_producer c p ≡ true → IsTrue (own c (slot.Queue p) list) → holder list ≡ None
    → IsGranted c who p list
