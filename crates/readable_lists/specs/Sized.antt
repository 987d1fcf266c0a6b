-- What is known of lists by the types of their entries.
use Rattle.std.specs.Prelude.{ℕ, ◌<◌, ◌≤◌, map}
use Rattle.yard_model.specs.declared.event.Reply.TheVariants as reply
use Rattle.yard_model.specs.declared.fact.Fact.{Fact}
use Rattle.yard_model.specs.declared.fact.Fact.TheVariants as fact
use Rattle.yard_model.specs.declared.incarnation.Slot.TheVariants as slot
use Rattle.yard_model.specs.declared.packet.Record.{Record}
use Rattle.yard_model.specs.Script.{Script}
use Rattle.yard_model.specs.SlotLists.{SlotLists, queue_list, shard_list}
use Rattle.readable_lists.specs.Readable.{IsReadableList}

-- a record without its reply, whose number the type leaves larger than a line may tell
abbrev pub unanswered : Record → Record
unanswered r = record r { reply = reply.Rejected 0 }

abbrev pub without_reply : Fact → Fact
without_reply (fact.Wrote e r) = fact.Wrote e (unanswered r)
without_reply f = f

-- all but the replies is read off the text
pub record AreSized (c : Script) (lists : SlotLists) : Type 0 where
  pub shards : (s : ℕ) → s < c.config.shards → IsReadableList (slot.Shard s) (map without_reply (shard_list lists s))
  pub coordinator : IsReadableList slot.Coordinator lists.coordinator
  pub queues : (p : ℕ) → 1 ≤ p → p ≤ c.config.producers → IsReadableList (slot.Queue p) (queue_list lists p)
