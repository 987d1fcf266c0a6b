use Rattle.std.proofs.Common.{◌+◌, ◌∙◌, ap, sym, length}
use Rattle.plain_laws.proofs.Booleans.{at_most}
use Rattle.serve_desk.proofs.DeskLaws.{done_told, full_told, heard_more, not_full, over_told, with_command}
use Rattle.serve_desk.proofs.desk.Desk.accept.Goals as goal

pub returns-then-is_over_with-clause-heard : goal.returns-then-is_over_with-clause-heard
returns-then-is_over_with-clause-heard c = λ n.
    over_told c.args.self.now c.args.producer c.args.entity.now n c.args.command.now (sym (c.is_over_with.ensures (length c.args.self.now.orders + 1) c.args.command.now) ∙ c.if-is_over_with.true)

pub returns-then-is_full-clause-heard : goal.returns-then-is_full-clause-heard
returns-then-is_full-clause-heard c = λ n.
    full_told c.args.self.now c.args.producer c.args.entity.now n c.args.command.now (sym (c.is_over_with.ensures (length c.args.self.now.orders + 1) c.args.command.now) ∙ c.if-is_over_with.false)
    (at_most 20000 (length c.args.self.now.orders) (sym c.is_full.ensures.value ∙ c.if-is_full.true))

pub add-requires : goal.add-requires
add-requires c =
    heard_more c.args.self.now c.next_line-line.result c.args.producer c.args.entity.now c.args.command.now c.is_full.ensures.heard c.requires.fits
    (sym (c.is_over_with.ensures c.next_line-line.result c.args.command.now) ∙ c.if-is_over_with.false) (not_full (length c.args.self.now.orders) (sym c.is_full.ensures.value ∙ c.if-is_full.false))

pub returns-clause-heard : goal.returns-clause-heard
returns-clause-heard c = λ n.
    done_told c.args.self.now c.add.new.self c.args.producer c.args.entity.now n c.args.command.now (sym (c.is_over_with.ensures (length c.args.self.now.orders + 1) c.args.command.now) ∙ c.if-is_over_with.false)
    (not_full (length c.args.self.now.orders) (sym c.is_full.ensures.value ∙ c.if-is_full.false))
    (c.in_ok-add.ensures.added ∙ ap (λ m. with_command c.args.self.now m c.args.producer c.args.entity.now c.args.command.now) c.next_line-line.ensures)
