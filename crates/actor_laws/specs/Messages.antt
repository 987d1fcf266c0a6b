-- What genuine messages are.
use Rattle.std.specs.Prelude.{◌≡◌, true}
use Rattle.yard_model.specs.declared.packet.Message.{Message}
use Rattle.yard_model.specs.Genuine.{is_genuine}
use Rattle.yard_model.specs.Script.{Script, IsScript}
use Rattle.actor_laws.specs.EntitiesStand.{IsMessage}

-- a genuine message comes from one of the script's producers, and is for one of its names
abbrev pub GenuineIsMessage : Type 0
GenuineIsMessage = (c : Script) (m : Message) → IsScript c → is_genuine c m ≡ true → IsMessage c m
