-- A store of any slot may go to another thread.
use denote.Enum.Declared as enum
use denote.Param.Send.{IsSend, enum_send, recorded_send, sendable}
use Rattle.std.proofs.Crossing as heap
use Rattle.std.proofs.MapsCrossing as maps
use Rattle.entity_journal.specs.contracts.past.Past as past
use Rattle.entity_journal.proofs.SendLaws.{past_send}
use Rattle.shard_store.specs.contracts.shelf.ShardStore as shelf
use Rattle.shard_store.specs.contracts.store.Store as store
use Rattle.coordinator_state.specs.contracts.store.CoordStore as coordinator
use Rattle.durable_queue.specs.contracts.store.QueueStore as queue

shelf_send : IsSend shelf.the_field.row
shelf_send = let p : IsSend past.the_row = past_send in search (heap.crosses, maps.crosses, sendable) depth 100 fits 100000

coordinator_send : IsSend coordinator.the_field.row
coordinator_send = search (heap.crosses, maps.crosses, sendable) depth 100 fits 100000

queue_send : IsSend queue.the_field.row
queue_send = search (heap.crosses, maps.crosses, sendable) depth 100 fits 100000

pub store_send : IsSend store.the_row
store_send = recorded_send store.the_field.row _ _ store.the_type.to_one (enum_send (enum.shape store.the_type) ((shelf_send, tt), ((coordinator_send, tt), ((queue_send, tt), tt))))
