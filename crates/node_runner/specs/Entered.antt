-- The roster of a run.
use Rattle.std.specs.Prelude.{ℕ, ◌+◌, Bool, ◌&&◌, ◌||◌, nat_lt, nat_le, List, [], ◌∷◌, ◌++◌, length, if◌then◌else◌}
use Rattle.std.specs.List.{list_all}
use Rattle.yard_model.specs.declared.incarnation.Incarnation.{Incarnation}
use Rattle.yard_model.specs.declared.packet.Body.TheVariants as body
use Rattle.yard_model.specs.declared.packet.Packet.{Packet}
use Rattle.yard_model.specs.Genuine.{is_node}
use Rattle.yard_model.specs.Members.{has_node}
use Rattle.yard_model.specs.Script.{Script}
use Rattle.lease_table.specs.Fits.{is_within}

-- it is of one of the script's nodes, with a number within the limit
abbrev pub is_member : Script → Incarnation → Bool
is_member c x = is_node c x && is_within x.number

abbrev pub are_members : Script → List Incarnation → Bool
are_members c xs = list_all (is_member c) xs

-- the members once one has come up
abbrev pub entered : List Incarnation → Incarnation → List Incarnation
entered xs x = if has_node x.node xs || nat_le 16 (length xs) then xs else xs ++ x ∷ []

abbrev pub next_version : ℕ → ℕ
next_version v = if nat_lt v 4294967295 then v + 1 else v

-- a view of these members, to one of them
abbrev pub view_to : ℕ → List Incarnation → Incarnation → Packet
view_to version members x = record { from = x; to = x; body = body.View version members }
