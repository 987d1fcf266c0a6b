-- The rules of a producer keep its queue's list lawful.
use Rattle.std.specs.Prelude.{◌≡◌, ℕ, ◌≤◌, List, [], ◌∷◌, ◌++◌, fold, Some, IsTrue}
use Rattle.yard_model.specs.declared.fact.Fact.TheVariants as fact
use Rattle.yard_model.specs.declared.charter.Sending.{Sending}
use Rattle.yard_model.specs.declared.incarnation.Slot.TheVariants as slot
use Rattle.yard_model.specs.declared.incarnation.Cause.TheVariants as cause
use Rattle.yard_model.specs.Script.{Script, sends}
use Rattle.yard_model.specs.Lawful.{own, is_held}
use Rattle.yard_model.specs.SlotReads.{epoch, queued}
use Rattle.yard_model.specs.Producer.{Producer, queue_step, next_sending, queue, confirm, push_marks}

-- a producer that holds its queue, and whose list is lawful by itself
pub record IsQueueHeld (c : Script) (st : Producer) : Type 0 where
  pub own_is : IsTrue (own c (slot.Queue st.number) st.entries)
  pub held_is : IsTrue (is_held st.entries)

-- it keeps that, whether it queues its next send, confirms a queued number or pushes; and what frees the queue may follow
pub record KeepsQueue (c : Script) (st : Producer) : Type 0 where
  pub queues : (x : Sending) → next_sending (sends c st.number) st ≡ Some x → IsTrue (own c (slot.Queue st.number) (fold queue_step st.entries (queue x st)))
  pub confirms : (e : List ℕ) (n : ℕ) → n ≤ queued e st.entries → IsTrue (own c (slot.Queue st.number) (fold queue_step st.entries (confirm e n st)))
  pub pushes : (e : List ℕ) → IsTrue (own c (slot.Queue st.number) (fold queue_step st.entries (push_marks e st)))
  pub gives_back : IsTrue (own c (slot.Queue st.number) (st.entries ++ fact.Freed (slot.Queue st.number) (epoch st.entries) cause.Released ∷ []))

abbrev pub ProducerKeepsQueue : Type 0
ProducerKeepsQueue = (c : Script) (st : Producer) → IsQueueHeld c st → KeepsQueue c st
