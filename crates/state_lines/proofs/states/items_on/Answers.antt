use Rattle.std.proofs.Common.{◌≡◌, ◌≤◌, ◌+◌, ◌-◌, ◌∙◌, length, sym, subst, ap, arith}
use Rattle.std.specs.Prelude.{List, [], ◌∷◌, ◌++◌}
use Rattle.yard_model.specs.declared.state.CartItem.{CartItem}
use Rattle.state_lines.specs.States.{items_on}
use Rattle.state_lines.proofs.StateLaws.{items_step}
use Rattle.state_lines.proofs.states.items_on.Goals as goal

pub loop-init : goal.loop-init
loop-init c =
    let one : c.with-items.result ≡ c.args.first ∷ [] = c.with-items.ensures ∙ ap (λ (xs : List CartItem). xs ++ c.args.first ∷ []) c.empty.ensures in
    record { few = subst (λ (xs : List CartItem). length xs ≤ 1) (sym one) (omega arith); rest = ap (λ (xs : List CartItem). items_on 15 (xs, c.args.line.now)) one }

pub loop-preserved : goal.loop-preserved
loop-preserved c = record {
  few = omega (arith, c.item_more-more.ensures.fits, c.loop.invariant.few);
  rest =
      ap (items_on (15 - (c.loop.counter + 1))) c.item_more-more.ensures.more
      ∙ (sym (items_step c.loop.counter (c.loop.items, c.loop.rest.now) c.loop-test.true) ∙ c.loop.invariant.rest);
}
