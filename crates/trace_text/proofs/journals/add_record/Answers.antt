use Rattle.std.proofs.Common.{◌++◌, ◌∷◌, [], ap, ◌∙◌}
use Rattle.std.specs.Borrow.{Bor}
use Rattle.std.proofs.lemmas.List.{map-append}
use Rattle.yard_model.specs.declared.packet.Record.{Record}
use Rattle.trace_text.specs.Places.{lent, lent_all}
use Rattle.trace_text.proofs.PlaceLaws.{row_set}
use Rattle.trace_text.proofs.journals.add_record.Goals as goal

pub returns-clause-journals : goal.returns-clause-journals
returns-clause-journals c =
    row_set lent_all c.args.journals.now.items c.args.place c.push.new.self c.index_mut.result.now c.args.written.now c.requires
    (ap lent c.in_ok-push.ensures.items ∙ (map-append (λ (r : Bor Record). r.now) c.index_mut.result.now.items (c.args.written ∷ [])
    ∙ ap (λ v. lent_all v ++ c.args.written.now ∷ []) c.index_mut.ensures.value))
