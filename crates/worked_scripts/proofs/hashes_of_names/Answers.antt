use Rattle.std.proofs.Common.{refl}
use Rattle.worked_scripts.proofs.hashes_of_names.Goals as goal

pub returns-clause-hashes : goal.returns-clause-hashes
returns-clause-hashes c = refl

pub returns-clause-shards : goal.returns-clause-shards
returns-clause-shards c = refl
