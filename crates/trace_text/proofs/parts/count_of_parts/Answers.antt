use Rattle.std.proofs.Common.{◌≡◌, ◌+◌, ap, length, arith}
use Rattle.yard_model.specs.declared.charter.Config.{Config}
use Rattle.yard_model.specs.Script.{setting}
use Rattle.trace_text.specs.Parts.{report_parts}
use Rattle.trace_text.proofs.PartLaws.{parts_count}
use Rattle.trace_text.proofs.parts.count_of_parts.Goals as goal

pub returns : goal.returns
returns c = λ lists.
    let shards : c.config-config.result.now.shards ≡ c.args.charter.now.config.shards = ap (λ (k : Config). k.shards) c.config-config.ensures.value in
    let producers : c.config-config.result.now.producers ≡ c.args.charter.now.config.producers = ap (λ (k : Config). k.producers) c.config-config.ensures.value in
    let count : length (report_parts (setting c.args.charter.now) lists) ≡ c.args.charter.now.config.shards + c.args.charter.now.config.producers + 2 = parts_count (setting c.args.charter.now) lists in
    omega arith
