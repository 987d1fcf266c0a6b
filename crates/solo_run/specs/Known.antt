-- What the engine of `solo` keeps of one entity.
use Rattle.std.specs.Prelude.{◌≡◌, ℕ, ◌+◌, ◌-◌, ◌==◌, List, length, replicate, slice_index_or, slice_set, Option, Some, None, if◌then◌else◌, IsTrue}
use Rattle.yard_model.specs.declared.event.Kind.{Kind}
use Rattle.yard_model.specs.declared.event.Decision.{Decision}
use Rattle.yard_model.specs.declared.packet.Message.{Message}
use Rattle.yard_model.specs.declared.packet.Record.{Record}
use Rattle.yard_model.specs.declared.state.State.{State}
use Rattle.yard_model.specs.Behaviour.{after_record, empty_state, decide, is_valid}

-- of an entity: how many commands each producer has sent to it, how many of them are recorded, how many records there
-- are, and the state that they lead to
pub record Known : Type 0 where
  pub kind : Kind
  pub sent : List ℕ
  pub taken : List ℕ
  pub count : ℕ
  pub state : State

-- how it is kept
pub record IsKept (k : Known) : Type 0 where
  pub width : length k.sent ≡ 32
  pub places : length k.taken ≡ 32
  pub valid : IsTrue (is_valid k.kind k.state)

-- what stands at the place of producer p
abbrev pub sent_at : List ℕ → ℕ → ℕ
sent_at sent p = slice_index_or sent (p - 1) 0

-- nothing sent, nothing recorded
abbrev pub unknown : Kind → Known
unknown kind = record { kind = kind; sent = replicate 32 0; taken = replicate 32 0; count = 0; state = empty_state kind }

-- the record of a message after what is known of its entity
abbrev pub record_after : Known → Message → Record
record_after k m =
    let d : Decision = decide 1 k.state m.command in
    record { number = k.count + 1; epoch = 1; producer = m.producer; place = m.number; command = m.command; events = d.events; reply = d.reply }

-- the record of a message that is the next of its pair
abbrev pub taken_by : Known → Message → Option Record
taken_by k m = if m.number == sent_at k.taken m.producer + 1 then Some (record_after k m) else None

-- with one record more, if there is one
abbrev pub after_taken : Known → Option Record → Known
after_taken k None = k
after_taken k (Some r) = record { kind = k.kind; sent = k.sent; taken = slice_set k.taken (r.producer - 1) r.place; count = k.count + 1; state = after_record k.state r }
