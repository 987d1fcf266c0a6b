-- The rooms of a turn, beside the limits of numbers (`yard_model`).
use Rattle.std.specs.Prelude.{◌≡◌, ◌<◌, ◌≤◌, ◌+◌, ◌*◌, ℕ}
use Rattle.yard_model.specs.Limits.{turn_room}
use Rattle.turn_rooms.specs.declared.rooms.TheConstants.{AMPLE_ROOM, MOST_PAIRS, MOST_POSTED, TURN_ROOM}

-- what a turn may write is the limit's; room that is made anew has that and more; what it posts has five items for each pair, and 8,000 besides
pub record RoomsFit : Type 0 where
  pub turn : TURN_ROOM ≡ turn_room
  pub ample : TURN_ROOM ≤ AMPLE_ROOM
  pub posted : 8000 + 5 * MOST_PAIRS ≤ MOST_POSTED
  pub fits : MOST_POSTED < 4294967296
