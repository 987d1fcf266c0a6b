-- What the settles of a script come to.
use Rattle.std.specs.Prelude.{◌≡◌, ℕ, false, map, take}
use Rattle.yard_model.specs.declared.charter.Order.TheVariants as order
use Rattle.yard_model.specs.Era.{era_of}
use Rattle.yard_model.specs.Script.{Script}
use Rattle.yard_model.specs.World.{Made, in_order, new_world, play_line, wire_limit}
use Rattle.settle_laws.specs.Settles.{Settles}

-- a settle after any number of the orders, where the wire isn't full then: it ends with `settled`, within so many deliveries, and every send so far is queued, recorded and confirmed; or the wire had no room for them
abbrev pub EachSettles : Script → Type 0
EachSettles c = (n number : ℕ) → let m : Made = in_order (map play_line (take n c.orders)) (new_world c wire_limit) in
    m.world.full ≡ false → Settles (era_of c m.facts).script m.world (play_line (record { number = number; order = order.Settle }) m.world)
