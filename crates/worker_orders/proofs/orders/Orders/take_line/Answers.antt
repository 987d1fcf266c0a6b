use Rattle.std.proofs.Common.{◌≡◌, ◌-◌, ◌<◌, length, take, ap, sym, ◌∙◌, subst, arith, true, Some, None, List, get_or}
use Rattle.std.specs.Prelude.{IfSome, Option}
use Rattle.yard_model.specs.declared.charter.Line.{Line}
use Rattle.yard_model.specs.declared.charter.Order.{Order}
use Rattle.yard_model.specs.Workers.{is_for}
use Rattle.worker_orders.specs.Waiting.{IsDue, Waiting, orders_in}
use Rattle.worker_orders.proofs.Cursors.{due_of}
use Rattle.worker_orders.proofs.orders.Orders.take_line.Goals.{then-is_mine, else-is_mine}
use Rattle.worker_orders.proofs.orders.Orders.take_line.Goals as goal

pub returns-clause-due : goal.returns-clause-due
returns-clause-due c = elim c.if-is_mine.branch [
  | then-is_mine w ↦
      let s = c.self.inside in
      let d : Line = c.index-orders-self.result in
      let line : Line = get_or c.orders.result.now s.at d in
      let few : c.args.self.now.lines ≡ length s.charter.now.orders - s.at = sym (ap (λ (x : Waiting). x.lines) c.self.view_is) in
      let less : s.at < length s.charter.now.orders = omega (arith, few, c.requires) in
      let before : List Order = orders_in (take s.at s.charter.now.orders) in
      let hit : c.is_mine-is_mine.result ≡ true = w.if-is_mine.true in
      let same : c.is_mine-is_mine.result ≡ is_for s.node before line.order = c.is_mine-is_mine.ensures before c.self.invariant.knows in
      let mine : is_for s.node before line.order ≡ true = sym same ∙ hit in
      subst (λ (x : Waiting). IfSome c.if-is_mine.result (IsDue x.script x.node)) c.self.view_is
      (subst (λ (o : Option Order). IfSome o (IsDue s.charter.now s.node)) (sym w.result-is)
      (due_of s.charter.now s.node s.at line d before less (ap (λ (ls : List Line). get_or ls s.at d) c.orders.ensures.value) mine))
  | else-is_mine w ↦ subst (λ (o : Option Order). IfSome o (IsDue c.args.self.now.script c.args.self.now.node)) (sym w.result-is) tt
]
