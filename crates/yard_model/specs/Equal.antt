-- The same value, as Rust's derived `==` tells.
use Rattle.std.specs.Prelude.{Bool}
use Rattle.yard_model.specs.declared.charter.Sending.{Sending}
use Rattle.yard_model.specs.declared.event.Command.{Command}
use Rattle.yard_model.specs.declared.event.Decision.{Decision}
use Rattle.yard_model.specs.declared.incarnation.Slot.{Slot}
use Rattle.yard_model.specs.declared.state.State.{State}
use Rattle.yard_model.specs.contracts.charter.SendingPartialEq.TheImpl as sending
use Rattle.yard_model.specs.contracts.event.CommandPartialEq.TheImpl as command
use Rattle.yard_model.specs.contracts.event.DecisionPartialEq.TheImpl as decision
use Rattle.yard_model.specs.contracts.incarnation.SlotPartialEq.TheImpl as slot
use Rattle.yard_model.specs.contracts.state.StatePartialEq.TheImpl as state

abbrev pub is_sending : Sending → Sending → Bool
is_sending x y = sending.ghosts.eq x y

abbrev pub is_command : Command → Command → Bool
is_command x y = command.ghosts.eq x y

abbrev pub is_decision : Decision → Decision → Bool
is_decision x y = decision.ghosts.eq x y

abbrev pub is_slot : Slot → Slot → Bool
is_slot x y = slot.ghosts.eq x y

abbrev pub is_state : State → State → Bool
is_state x y = state.ghosts.eq x y
