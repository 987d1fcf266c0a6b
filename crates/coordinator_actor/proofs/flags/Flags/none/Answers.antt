use Rattle.std.proofs.Common.{false}
use Rattle.std.proofs.lemmas.List.{take-replicate}
use Rattle.coordinator_actor.proofs.flags.Flags.none.Goals as goal

pub returns : goal.returns
returns c = take-replicate c.args.shards 128 false c.requires
