-- A parcel may go to another thread.
use denote.RattleType.{RattleType}
use denote.Enum.Declared as enum
use denote.Struct.Declared as struct
use denote.Param.Send.{IsSend, sendable, enum_send, struct_send, recorded_send}
use Rattle.std.proofs.Crossing as heap
use Rattle.std.proofs.MapsCrossing as maps
use Rattle.lease_table.specs.contracts.pass.Note as note
use Rattle.lease_table.proofs.SendLaws.{note_send}
use Rattle.yard_model.specs.contracts.packet.Body as body
use Rattle.yard_model.specs.contracts.packet.Message as message
use Rattle.yard_model.specs.contracts.packet.Packet as packet
use Rattle.yard_model.specs.contracts.members.Members as members
use Rattle.node_runner.specs.declared.parcel.Run.{Ghosts}
use Rattle.node_runner.specs.contracts.parcel.Parcel as parcel

-- a value with no pointers, variant by variant
body_send : IsSend body.the_field.row
body_send = enum_send (enum.shape body.the_type) ((search (heap.crosses, maps.crosses, sendable) depth 100 fits 100000, (search (heap.crosses, maps.crosses, sendable) depth 100 fits 100000, tt)), (tt, (tt, ((search (heap.crosses, maps.crosses, sendable) depth 100 fits 100000, tt), ((search (heap.crosses, maps.crosses, sendable) depth 100 fits 100000, (search (heap.crosses, maps.crosses, sendable) depth 100 fits 100000, (search (heap.crosses, maps.crosses, sendable) depth 100 fits 100000, tt))), ((search (heap.crosses, maps.crosses, sendable) depth 100 fits 100000, (search (heap.crosses, maps.crosses, sendable) depth 100 fits 100000, tt)), ((search (heap.crosses, maps.crosses, sendable) depth 100 fits 100000, tt), ((search (heap.crosses, maps.crosses, sendable) depth 100 fits 100000, (search (heap.crosses, maps.crosses, sendable) depth 100 fits 100000, tt)), ((search (heap.crosses, maps.crosses, sendable) depth 100 fits 100000, (search (heap.crosses, maps.crosses, sendable) depth 100 fits 100000, tt)), ((search (heap.crosses, maps.crosses, sendable) depth 100 fits 100000, (search (heap.crosses, maps.crosses, sendable) depth 100 fits 100000, tt)), ((search (heap.crosses, maps.crosses, sendable) depth 100 fits 100000, (search (heap.crosses, maps.crosses, sendable) depth 100 fits 100000, tt)), (tt, ((search (heap.crosses, maps.crosses, sendable) depth 100 fits 100000, tt), ((search (heap.crosses, maps.crosses, sendable) depth 100 fits 100000, tt), ((search (heap.crosses, maps.crosses, sendable) depth 100 fits 100000, tt), ((search (heap.crosses, maps.crosses, sendable) depth 100 fits 100000, tt), ((search (heap.crosses, maps.crosses, sendable) depth 100 fits 100000, (search (heap.crosses, maps.crosses, sendable) depth 100 fits 100000, (search (heap.crosses, maps.crosses, sendable) depth 100 fits 100000, (search (heap.crosses, maps.crosses, sendable) depth 100 fits 100000, tt)))), ((search (heap.crosses, maps.crosses, sendable) depth 100 fits 100000, (search (heap.crosses, maps.crosses, sendable) depth 100 fits 100000, (search (heap.crosses, maps.crosses, sendable) depth 100 fits 100000, tt))), ((search (heap.crosses, maps.crosses, sendable) depth 100 fits 100000, (search (heap.crosses, maps.crosses, sendable) depth 100 fits 100000, (search (heap.crosses, maps.crosses, sendable) depth 100 fits 100000, tt))), tt)))))))))))))))))))

packet_send : IsSend packet.the_field.row
packet_send = struct_send (struct.shape packet.the_type) (search (heap.crosses, maps.crosses, sendable) depth 100 fits 100000, (search (heap.crosses, maps.crosses, sendable) depth 100 fits 100000, (body_send, tt)))

pub parcel_send : (T : RattleType) (g : Ghosts T.Denot) → IsSend T → IsSend (parcel.the_row T g)
parcel_send T g s =
    let n : IsSend note.the_row = note_send in
    recorded_send (parcel.the_field T g).row _ _ (parcel.the_type T g).to_one (struct_send (struct.shape (parcel.the_type T g)) (packet_send, (search (heap.crosses, maps.crosses, sendable) depth 100 fits 100000, (search (heap.crosses, maps.crosses, sendable) depth 100 fits 100000, tt))))
