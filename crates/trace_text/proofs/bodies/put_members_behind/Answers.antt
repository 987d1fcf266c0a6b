use Rattle.std.proofs.Common.{◌∷◌, [], ◌++◌, ◌+◌, drop, take, sym, ap, ◌∙◌, arith, append_assoc}
use Rattle.yard_model.specs.Text.{incarnation_text}
use Rattle.trace_text.specs.Behind.{behind}
use Rattle.trace_text.proofs.Joined.{next_behind}
use Rattle.trace_text.proofs.bodies.put_members_behind.Goals as goal

pub loop-place-preserved : goal.loop-place-preserved
loop-place-preserved c =
    let i = c.loop-place.invariant in
    let left = i.1 in
    let rest = behind (44 ∷ []) incarnation_text (drop (c.loop-place.place + 1) c.args.members.now) in (
      ap (λ l. l ++ rest) c.put_next_member-end.ensures.items
          ∙ (append_assoc (take c.loop-place.end c.loop-place.cells) (44 ∷ [] ++ incarnation_text c.in-Some.member) rest
          ∙ (ap (λ l. take c.loop-place.end c.loop-place.cells ++ l) (sym (next_behind c.args.members.now c.loop-place.place c.in-Some.member (sym c.get.ensures ∙ c.in-Some.is))) ∙ i.0)),
      omega (arith, c.put_next_member-end.ensures.end, left),
      c.spell_next-known.ensures.digits,
      c.spell_next-known.ensures.len,
    )
