use Rattle.std.proofs.Common.{◌∙◌, List, ◌++◌, ◌∷◌, [], ap, length}
use Rattle.yard_model.specs.declared.fact.Fact.{Fact}
use Rattle.disk_log.proofs.KeptLaws.{kept_with, with_is}
use Rattle.disk_log.proofs.batches.Batches.with.Goals as goal

pub of-requires : goal.of-requires
of-requires c =
    kept_with c.self.inside.ends.items c.note_end.new.ends.items c.self.inside.facts c.push_all.new.all c.args.facts.now c.self.invariant c.in_ok-push_all.ensures
    (c.in_ok-note_end.ensures.noted ∙ ap (λ (l : List Fact). c.self.inside.ends.items ++ length l ∷ []) c.as_slice.ensures) c.requires c.in_ok-note_end.ensures.few

pub returns : goal.returns
returns c =
    c.of.ensures
    ∙ (with_is c.self.inside.ends.items c.note_end.new.ends.items c.self.inside.facts c.push_all.new.all c.args.facts.now c.self.invariant c.in_ok-push_all.ensures
    (c.in_ok-note_end.ensures.noted ∙ ap (λ (l : List Fact). c.self.inside.ends.items ++ length l ∷ []) c.as_slice.ensures)
    ∙ ap (λ (v : List (List Fact)). v ++ c.args.facts.now ∷ []) c.self.view_is)
