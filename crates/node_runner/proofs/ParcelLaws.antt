-- The note of a parcel.
use Rattle.std.proofs.Common.{◌≡◌, refl}
use Rattle.std.specs.Prelude.{Option, None, Some, IfSome}
use Rattle.atomic_table.specs.Seated.{TableId}
use Rattle.lease_table.specs.Leasing.{Pass}
use Rattle.node_runner.specs.Parcels.{table_of_note}

pub belongs : (note : Option Pass) (z : TableId) → IfSome note (λ w. w.table ≡ z) → table_of_note note z ≡ z
belongs None z h = refl
belongs (Some w) z h = h

pub of_table : (note : Option Pass) (z : TableId) → table_of_note note z ≡ z → IfSome note (λ w. w.table ≡ z)
of_table None z h = tt
of_table (Some w) z h = h
