use Rattle.trace_text.proofs.bodies.put_body.Goals as goal

pub returns-in-GetShardHome-clause-items : goal.returns-in-GetShardHome-clause-items
returns-in-GetShardHome-clause-items c = rw c.in-GetShardHome.is c.put_with_shard.ensures.items

pub returns-in-ShardStarted-clause-items : goal.returns-in-ShardStarted-clause-items
returns-in-ShardStarted-clause-items c = rw c.in-ShardStarted.is c.put_with_shard-in-ShardStarted.ensures.items

pub returns-in-BeginHandOff-clause-items : goal.returns-in-BeginHandOff-clause-items
returns-in-BeginHandOff-clause-items c = rw c.in-BeginHandOff.is c.put_with_stamp-in-BeginHandOff.ensures.items

pub returns-in-BeginHandOffAck-clause-items : goal.returns-in-BeginHandOffAck-clause-items
returns-in-BeginHandOffAck-clause-items c = rw c.in-BeginHandOffAck.is c.put_with_stamp-in-BeginHandOffAck.ensures.items

pub returns-in-ShardStopped-clause-items : goal.returns-in-ShardStopped-clause-items
returns-in-ShardStopped-clause-items c = rw c.in-ShardStopped.is c.put_with_stamp-in-ShardStopped.ensures.items

pub returns-in-GracefulShutdownReq-clause-items : goal.returns-in-GracefulShutdownReq-clause-items
returns-in-GracefulShutdownReq-clause-items c = rw c.in-GracefulShutdownReq.is c.put_word-in-GracefulShutdownReq.ensures.items

pub returns-in-StopEntity-clause-items : goal.returns-in-StopEntity-clause-items
returns-in-StopEntity-clause-items c = rw c.in-StopEntity.is c.put_with_name.ensures.items
