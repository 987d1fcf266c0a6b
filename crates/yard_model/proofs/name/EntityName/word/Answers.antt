use Rattle.std.proofs.Common.{ap, ◌∙◌, ◌*◌, drop}
use Rattle.yard_model.specs.Front.{front}
use Rattle.yard_model.proofs.FrontLaws.{word_kept, front_of_word}
use Rattle.yard_model.proofs.name.EntityName.word.Goals as goal

pub returns-clause-number : goal.returns-clause-number
returns-clause-number c =
    c.from_be_bytes.ensures ∙ (front_of_word c.self.inside.cells (8 * c.args.word)
    ∙ (word_kept (8 * c.args.word) c.self.inside.cells c.self.inside.len c.self.invariant ∙ ap (λ l. front 8 (drop (8 * c.args.word) l)) c.self.view_is))
