use Rattle.std.proofs.Common.{◌∙◌, sym}
use Rattle.shard_entities.proofs.FreedLaws.{ended_freed}
use Rattle.shard_entities.proofs.LoopLaws.{tell_ended, stop_answers}
use Rattle.shard_entities.proofs.WalkLaws.{on_of, but_after, but_settled}
use Rattle.shard_entities.proofs.shards.Shards.stop.Goals as goal

pub after_stop-requires-clause-settled : goal.after_stop-requires-clause-settled
after_stop-requires-clause-settled c = but_after (but_settled c.args.self.now c.args.place.now.at c.requires.settled) (tell_ended (on_of c.knows.ensures c.requires.place) c.tell_stopped.ensures.state).walk

pub returns-in-Stopping-clause-stopped : goal.returns-in-Stopping-clause-stopped
returns-in-Stopping-clause-stopped c = stop_answers c.after_stop.result c.args.place.now (on_of c.knows.ensures c.requires.place) (sym c.phase.ensures ∙ c.in-Stopping.is) c.tell_stopped.ensures.state c.after_stop.ensures.stopped

pub returns-in-Stopping-clause-freed : goal.returns-in-Stopping-clause-freed
returns-in-Stopping-clause-freed c = ended_freed c.after_stop.result c.args.place.now (on_of c.knows.ensures c.requires.place) (sym c.phase.ensures ∙ c.in-Stopping.is) c.tell_stopped.ensures.state c.after_stop.ensures.freed
