-- Which queue it is, and how many parcels it has room for.
use Rattle.std.specs.Prelude.{ℕ, Option}
use Rattle.atomic_table.specs.Seated.{TableId}
use Rattle.crossbeam_queue.specs.Passes.{ruled_capacity}
use Rattle.crossbeam_queue.specs.declared.array_queue.Doing.{Doing}
use Rattle.crossbeam_queue.specs.declared.array_queue.Slotted.{Slotted}
use Rattle.post_box.specs.declared.queue.Envelope.{Envelope}
use Rattle.post_box.specs.declared.queue.View.{View}

module _ {P Q A : Type 0} where
  abbrev pub queue_table : Slotted (Option (Envelope P)) (Doing (Envelope P) (View P)) Q A → TableId
  queue_table q = q.table.shared.table_id

  abbrev pub queue_room : Slotted (Option (Envelope P)) (Doing (Envelope P) (View P)) Q A → ℕ
  queue_room q = ruled_capacity q
