-- What a contract sees of a stash.
use Rattle.std.specs.Prelude.{ℕ, List}
use Rattle.yard_model.specs.declared.packet.Message.{Message}

-- the messages, oldest first, and how many there may be
pub record Held : Type 0 where
  pub messages : List Message
  pub window : ℕ
