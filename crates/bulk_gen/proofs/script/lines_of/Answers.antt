use Rattle.std.proofs.Common.{◌∙◌, ◌*◌, ap}
use Rattle.bulk_gen.specs.Bulk.{drawn, with_lines}
use Rattle.bulk_gen.proofs.BulkLaws.{bulk_parts, bulk_room}
use Rattle.bulk_gen.proofs.script.lines_of.Goals as goal

pub push_lines-requires-2 : goal.push_lines-requires-2
push_lines-requires-2 c =
    bulk_room c.in_ok-lines.lines.items c.push_lines.new.lines.items c.push_drawn.new.lines.items c.args.number c.requires c.in_ok-lines.ensures.items
    (c.in_ok-push_lines.ensures ∙ ap (with_lines c.in_ok-lines.lines.items) c.opening.ensures)
    (c.in_ok-push_drawn.ensures ∙ ap (λ g. with_lines c.push_lines.new.lines.items (drawn (6 * c.args.number) g)) c.seeded-rng.ensures)

pub returns : goal.returns
returns c =
    bulk_parts c.in_ok-lines.lines.items c.push_lines.new.lines.items c.push_drawn.new.lines.items c.push_lines-2.new.lines.items c.args.number c.in_ok-lines.ensures.items
    (c.in_ok-push_lines.ensures ∙ ap (with_lines c.in_ok-lines.lines.items) c.opening.ensures)
    (c.in_ok-push_drawn.ensures ∙ ap (λ g. with_lines c.push_lines.new.lines.items (drawn (6 * c.args.number) g)) c.seeded-rng.ensures) c.in_ok-push_lines-2.ensures
