use Rattle.std.proofs.Common.{[]}
use Rattle.std.proofs.lemmas.Map.Lookups.{exact_bytes}
use Rattle.std.specs.Prelude.{slice_index_or}
use Rattle.name_index.proofs.NameLaws.{is_missing}
use Rattle.name_index.proofs.index.look_in.Goals as goal

pub returns-in-Ok : goal.returns-in-Ok
returns-in-Ok c = (c.in-Ok.ensures.bound, exact_bytes (slice_index_or c.args.names.now c.in-Ok.place []) c.args.name.now (c.in-Ok.ensures.ok []))

pub returns-in-Err : goal.returns-in-Err
returns-in-Err c = is_missing c.args.names.now c.args.name.now c.in-Err.field-0 c.requires c.in-Err.ensures.position
