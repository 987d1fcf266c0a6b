-- What a parcel keeps.
use Rattle.std.specs.Prelude.{ℕ, Bool, true, false, ◌&&◌, List, [], Option, None, Some}
use Rattle.std.specs.List.{list_all}
use Rattle.atomic_table.specs.Seated.{TableId}
use Rattle.yard_model.specs.declared.incarnation.Incarnation.{Incarnation}
use Rattle.yard_model.specs.declared.packet.Body.{Body}
use Rattle.yard_model.specs.declared.packet.Body.TheVariants as body
use Rattle.yard_model.specs.declared.packet.Packet.{Packet}
use Rattle.yard_model.specs.Script.{Script}
use Rattle.lease_table.specs.Fits.{is_within, recorded, home_of}
use Rattle.lease_table.specs.Leasing.{Pass}
use Rattle.lease_table.specs.Lists.{seen_at}

abbrev pub no_table : TableId
no_table = record { words = 0; slots = 0; views_name = 0; atom = 0; block = 0; offset = 0; slot_names = [] }

-- the table of the note, and z where there is none
abbrev pub table_of_note : Option Pass → TableId → TableId
table_of_note None z = z
table_of_note (Some w) z = w.table

-- so many commands of the producer to the entity are recorded in what the note has seen
abbrev pub has_seen : Script → List ℕ → ℕ → ℕ → Option Pass → Bool
has_seen c e p n None = false
has_seen c e p n (Some w) = recorded e p n (seen_at w.view.seen (home_of c e))

-- the note has seen what the body confirms
abbrev pub is_shown : Script → Body → Option Pass → Bool
is_shown c (body.Request p e n u) seer = has_seen c e p n seer
is_shown c (body.Ack p e n) seer = has_seen c e p n seer
is_shown c b seer = true

-- it confirms something
abbrev pub is_confirming : Body → Bool
is_confirming (body.Request p e n u) = true
is_confirming (body.Ack p e n) = true
is_confirming b = false

-- none of these incarnations has a number above the limit
abbrev pub are_within_limit : List Incarnation → Bool
are_within_limit xs = list_all (λ (x : Incarnation). is_within x.number) xs

abbrev pub is_within_body : Body → Bool
is_within_body (body.View v xs) = are_within_limit xs
is_within_body (body.ShardHome s h stamp) = is_within h.number
is_within_body (body.Sequenced m) = is_within m.origin.number
is_within_body b = true

abbrev pub is_within_packet : Packet → Bool
is_within_packet p = is_within p.from.number && is_within p.to.number && is_within_body p.body
