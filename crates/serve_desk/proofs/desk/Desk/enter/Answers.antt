use Rattle.std.proofs.Common.{◌∙◌, sym}
use Rattle.serve_desk.proofs.DeskLaws.{entered_heard, refused_not_heard}
use Rattle.serve_desk.proofs.desk.Desk.enter.Goals as goal

pub returns-then-not-may_enter-clause-refused : goal.returns-then-not-may_enter-clause-refused
returns-then-not-may_enter-clause-refused c = λ is h.
    refused_not_heard c.args.self.now c.args.line c.args.producer c.args.entity.now c.args.command.now (sym (c.may_enter.ensures.value c.args.line) ∙ c.if-not-may_enter.true) h

pub add-requires : goal.add-requires
add-requires c =
    entered_heard c.args.self.now c.args.line c.args.producer c.args.entity.now c.args.command.now c.may_enter.ensures.heard (sym (c.may_enter.ensures.value c.args.line) ∙ c.if-not-may_enter.false)
