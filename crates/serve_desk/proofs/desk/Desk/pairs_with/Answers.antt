use Rattle.std.proofs.Common.{◌+◌, ◌∙◌, length, arith, ap, List}
use Rattle.std.specs.Prelude.{◌==◌, if◌then◌else◌}
use Rattle.yard_model.specs.declared.event.Command.{Command}
use Rattle.yard_model.specs.Script.{Script, pairs_in}
use Rattle.serve_desk.proofs.DeskLaws.{pairs_more}
use Rattle.serve_desk.proofs.desk.Desk.pairs_with.Goals as goal

pub pairs_after-requires : goal.pairs_after-requires
pairs_after-requires c = omega (arith, c.self.invariant.pairs, c.self.invariant.heard.script.pairs)

pub returns : goal.returns
returns c = λ n k.
    c.pairs_after.ensures
    ∙ (ap (λ (l : List Command). if length l == 0 then c.self.inside.pairs + 1 else c.self.inside.pairs) c.commands-before.ensures.value
    ∙ pairs_more c.args.self.now c.self.inside.pairs n c.args.producer c.args.entity.now k (c.self.invariant.pairs ∙ ap (λ (v : Script). length (pairs_in v.orders)) c.self.view_is))
