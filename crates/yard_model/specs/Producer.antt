-- A producer whose queue the node holds (Akka 2.6, Reliable Delivery: the producer controller with its durable queue and its demand). The queue's list, and of each entity what was demanded and what was sent. That one queue serves all entities is own.
use Rattle.std.specs.Prelude.{ℕ, ◌+◌, ◌-◌, nat_lt, List, [], ◌∷◌, ◌++◌, length, min, max, replicate, Option, slice_index_or, slice_set, if◌then◌else◌}
use Rattle.std.specs.List.{slice_get}
use Rattle.yard_model.specs.declared.fact.Fact.{Fact}
use Rattle.yard_model.specs.declared.fact.Fact.TheVariants as fact
use Rattle.yard_model.specs.declared.out.Item.TheVariants as item
use Rattle.yard_model.specs.declared.packet.Message.{Message}
use Rattle.yard_model.specs.declared.event.Command.TheVariants as command
use Rattle.yard_model.specs.declared.incarnation.Incarnation.{Incarnation}
use Rattle.yard_model.specs.declared.incarnation.Slot.TheVariants as slot
use Rattle.yard_model.specs.declared.incarnation.Cause.TheVariants as cause
use Rattle.yard_model.specs.declared.charter.Sending.{Sending}
use Rattle.yard_model.specs.Script.{Setting}
use Rattle.yard_model.specs.Setting.{place}
use Rattle.yard_model.specs.Words.{from_to}
use Rattle.yard_model.specs.SlotReads.{epoch, commands, queued, confirmed, queued_in_all}
use Rattle.yard_model.specs.Move.{Move, made, demanded, pushed, told}

-- of a pair of producer and entity
pub record Progress : Type 0 where
  pub demand : ℕ  -- the number that was demanded up to
  pub sent : ℕ  -- the number that was sent up to

pub record Producer : Type 0 where
  pub who : Incarnation
  pub set : Setting
  pub number : ℕ
  pub entries : List Fact
  pub pairs : List Progress  -- per name

abbrev pub no_progress : Progress
no_progress = record { demand = 0; sent = 0 }

-- once the queue is granted
abbrev pub new_producer : Setting → Incarnation → ℕ → List Fact → Producer
new_producer set who p list = record { who = who; set = set; number = p; entries = list; pairs = replicate (length set.names) no_progress }

-- What a move changes, word by word.

abbrev pub queue_step : List Fact → Move → List Fact
queue_step old (made (item.Fact (fact.Queued p e n k))) = old ++ fact.Queued p e n k ∷ []
queue_step old (made (item.Fact (fact.Confirmed p e n))) = old ++ fact.Confirmed p e n ∷ []
queue_step old m = old

abbrev pub progress_in : Setting → List Progress → List ℕ → Progress
progress_in set pairs e = slice_index_or pairs (place set e) no_progress

abbrev pub pairs_step : Setting → List Progress → Move → List Progress
pairs_step set old (demanded e u) = let k : Progress = progress_in set old e in slice_set old (place set e) (record { demand = max k.demand u; sent = k.sent })
pairs_step set old (pushed e n) = let k : Progress = progress_in set old e in slice_set old (place set e) (record { demand = k.demand; sent = max k.sent n })
pairs_step set old m = old

abbrev pub producer_after : Producer → Move → Producer
producer_after st m = record { who = st.who; set = st.set; number = st.number; entries = queue_step st.entries m; pairs = pairs_step st.set st.pairs m }

-- What is read.

abbrev pub progress : Producer → List ℕ → Progress
progress st e = progress_in st.set st.pairs e

-- the number that may be sent up to: what is queued, up to what was demanded, or to the first that isn't confirmed
abbrev pub allowed : List ℕ → Producer → ℕ
allowed e st = min (queued e st.entries) (max (progress st e).demand (confirmed e st.entries + 1))

-- the numbers that Push routes: those allowed that are above what was sent and what is confirmed
abbrev pub to_push : List ℕ → Producer → List ℕ
to_push e st = from_to (max (progress st e).sent (confirmed e st.entries) + 1) (allowed e st)

-- the numbers that Resend from f routes: those allowed that are at least f and not confirmed
abbrev pub to_resend : List ℕ → ℕ → Producer → List ℕ
to_resend e f st = from_to (max f (confirmed e st.entries + 1)) (allowed e st)

-- the number that the tick routes: the first queued one that isn't confirmed
abbrev pub to_repeat : List ℕ → Producer → List ℕ
to_repeat e st = if nat_lt (confirmed e st.entries) (queued e st.entries) then (confirmed e st.entries + 1) ∷ [] else []

-- the next of the producer's sends that isn't queued
abbrev pub next_sending : List Sending → Producer → Option Sending
next_sending sends st = slice_get sends (queued_in_all st.entries)

-- the message of a queued number; its origin is this node
abbrev pub message_of : List ℕ → Producer → ℕ → Message
message_of e st n = record { producer = st.number; entity = e; number = n; command = slice_index_or (commands e st.entries) (n - 1) command.Read; origin = st.who }

-- Rules. What they route is routed by the node.

-- a send is queued
abbrev pub queue : Sending → Producer → List Move
queue x st = told (fact.Queued st.number x.entity x.number x.command) ∷ []

-- Confirm: where the number is above the confirmed one: `confirmed`
abbrev pub confirm : List ℕ → ℕ → Producer → List Move
confirm e n st = if nat_lt (confirmed e st.entries) n then told (fact.Confirmed st.number e n) ∷ [] else []

-- the part of Push that isn't routing: what was sent is at least the last number that it routes, and at least the confirmed one
abbrev pub push_marks : List ℕ → Producer → List Move
push_marks e st = pushed e (max (confirmed e st.entries) (allowed e st)) ∷ []

-- Rest: `freed`
abbrev pub give_back : Producer → List Move
give_back st = told (fact.Freed (slot.Queue st.number) (epoch st.entries) cause.Released) ∷ []
