use Rattle.std.proofs.Common.{◌≡◌, replicate, ap, ap₂, sym, subst, ◌∙◌}
use Rattle.entity_cells.specs.Celled.{celled, all_made, all_stashing, AreStashed}
use Rattle.entity_cells.proofs.MadeLaws.{fresh_made, fresh_stashed, none_made}
use Rattle.entity_cells.proofs.StashLaws.{none_all}
use Rattle.entity_cells.proofs.cells.Cells.new.Goals as goal

none : (c : goal.In_ok-stashes) → all_made c.in_ok-slots.slots.items c.in_ok-made.made.items ≡ replicate c.args.count (celled c.args.producers 0)
none c = ap (λ l. all_made l c.in_ok-made.made.items) c.in_ok-slots.ensures ∙ none_made c.args.count c.in_ok-made.made.items (celled c.args.producers 0) c.in_ok-made.ensures.items

pub invariant_of-result : goal.invariant_of-result
invariant_of-result c = (
  fresh_made c.args.count c.args.producers c.in_ok-slots.ensures c.in_ok-made.ensures.items c.in_ok-made.ensures.room,
  subst (λ l. AreStashed c.args.window l c.in_ok-stashes.stashes) (sym (none c)) (fresh_stashed c.args.window c.args.count (celled c.args.producers 0) c.requires.few c.in_ok-stashes.ensures.lists (c.in_ok-stashes.ensures.cells ∙ c.room_for-room.ensures)),
)

pub returns : goal.returns
returns c = ap₂ (λ a b. all_stashing c.args.window a b) (none c) c.in_ok-stashes.ensures.lists ∙ none_all c.args.window c.args.count (celled c.args.producers 0)
