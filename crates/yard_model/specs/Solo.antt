-- What `solo` does: one incarnation numbers the sends and posts them in script order, and records what is delivered to it.
use Rattle.std.specs.Prelude.{ℕ, ◌+◌, ◌-◌, ◌==◌, ◌&&◌, List, [], ◌∷◌, ◌++◌, length, count_by, fold, map, slice_set, Option, Some, None, if◌then◌else◌}
use Rattle.std.specs.List.{slice_get}
use Rattle.yard_model.specs.declared.fact.Fact.{Fact}
use Rattle.yard_model.specs.declared.fact.Fact.TheVariants as fact
use Rattle.yard_model.specs.declared.packet.Record.{Record}
use Rattle.yard_model.specs.declared.packet.Message.{Message}
use Rattle.yard_model.specs.declared.event.Kind.{Kind}
use Rattle.yard_model.specs.declared.event.Command.{Command}
use Rattle.yard_model.specs.declared.event.Decision.{Decision}
use Rattle.yard_model.specs.declared.incarnation.Incarnation.{Incarnation}
use Rattle.yard_model.specs.declared.incarnation.Slot.TheVariants as slot
use Rattle.yard_model.specs.declared.charter.Line.{Line}
use Rattle.yard_model.specs.declared.charter.Order.{Order}
use Rattle.yard_model.specs.declared.charter.Order.TheVariants as order
use Rattle.yard_model.specs.Script.{Script, Setting, setting, is_name}
use Rattle.yard_model.specs.Setting.{shards, producers, shard_of}
use Rattle.yard_model.specs.Behaviour.{decide, folded}
use Rattle.yard_model.specs.SlotLists.{SlotLists, shard_list}
use Rattle.yard_model.specs.SlotReads.{journal, position}
use Rattle.yard_model.specs.Text.{Bytes, report}

-- the messages that were posted, and the lists of all slots
pub record Solo : Type 0 where
  pub posted : List Message
  pub lists : SlotLists

-- the one incarnation
abbrev pub alone : Incarnation
alone = record { node = 1; number = 1 }

-- it holds every shard in epoch 1; nothing is posted or recorded, and nothing is ever queued
abbrev pub start : Setting → Solo
start set = record {
  posted = [];
  lists = record {
    shards = map (λ s. fact.Granted (slot.Shard s) 1 alone ∷ []) (shards set);
    coordinator = [];
    queues = map (λ p. []) (producers set);
  };
}

-- how many of the messages are of this pair
abbrev pub count_of_pair : ℕ → List ℕ → List Message → ℕ
count_of_pair p e posted = count_by (λ (m : Message). (m.producer == p) && is_name m.entity e) posted

-- the message of a send: it has the next number of its pair
abbrev pub next_message : List Message → ℕ → List ℕ → Command → Message
next_message posted p e k = record { producer = p; entity = e; number = count_of_pair p e posted + 1; command = k; origin = alone }

-- the record of a message after the records of its entity
abbrev pub next_record : Kind → List Record → Message → Record
next_record kind before m =
    let d : Decision = decide 1 (folded kind before) m.command in
    record { number = length before + 1; epoch = 1; producer = m.producer; place = m.number; command = m.command; events = d.events; reply = d.reply }

-- one entry more in the list of a shard
abbrev pub with_entry : ℕ → Fact → SlotLists → SlotLists
with_entry s f lists = record { shards = slice_set lists.shards s (shard_list lists s ++ f ∷ []); coordinator = lists.coordinator; queues = lists.queues }

-- a message that is delivered is recorded exactly where its number is its pair's records plus one
abbrev pub with_delivered : Setting → SlotLists → Message → SlotLists
with_delivered set lists m =
    let before : List Record = journal m.entity (shard_list lists (shard_of set m.entity)) in
    if m.number == position m.producer before + 1 then with_entry (shard_of set m.entity) (fact.Wrote m.entity (next_record set.config.kind before m)) lists else lists

abbrev pub with_delivery : Setting → SlotLists → Option Message → SlotLists
with_delivery set lists None = lists
with_delivery set lists (Some m) = with_delivered set lists m

-- after one order: a send is posted, and the posted message of a number, from 1, is delivered
abbrev pub after_order : Setting → Solo → Order → Solo
after_order set st (order.Send p e k) = record { posted = st.posted ++ next_message st.posted p e k ∷ []; lists = st.lists }
after_order set st (order.Deliver n) = record { posted = st.posted; lists = with_delivery set st.lists (slice_get st.posted (n - 1)) }
after_order set st o = st

abbrev pub after_line : Setting → Solo → Line → Solo
after_line set st l = after_order set st l.order

-- after the orders of a script
abbrev pub solo : Script → Solo
solo c = fold (after_line (setting c)) (start (setting c)) c.orders

-- SoloText: the report of the lists
abbrev pub solo_text : Script → Bytes
solo_text c = report (setting c) (solo c).lists
