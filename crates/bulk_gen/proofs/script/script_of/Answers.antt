use Rattle.std.proofs.Common.{◌∙◌, ap, sym, subst, List}
use Rattle.yard_model.specs.declared.charter.Line.{Line}
use Rattle.yard_model.specs.Script.{IsScript}
use Rattle.bulk_gen.specs.Bulk.{bulk_config}
use Rattle.bulk_gen.proofs.BulkLaws.{is_bulk}
use Rattle.bulk_gen.proofs.script.script_of.Goals as goal

pub new-requires : goal.new-requires
new-requires c =
    subst IsScript (sym (ap (λ k. record { config = k; orders = c.in_ok-lines.lines.items }) c.config.ensures
    ∙ ap (λ (ls : List Line). record { config = bulk_config; orders = ls }) c.in_ok-lines.ensures))
    (is_bulk c.args.number c.requires.high)
