use Rattle.std.proofs.Common.{◌≤◌, length, subst, sym, List, ℕ}
use Rattle.yard_model.specs.Script.{Script}
use Rattle.serve_desk.proofs.DeskLaws.{names_counted, over_by_names, over_by_pairs}
use Rattle.serve_desk.proofs.desk.Desk.is_over_with.Goals as goal

pub names_with-names-requires : goal.names_with-names-requires
names_with-names-requires c = subst (λ (l : List (List ℕ)). length l ≤ 1000) (sym c.self.invariant.names) c.self.invariant.heard.script.names

pub returns-then-names-gt1000 : goal.returns-then-names-gt1000
returns-then-names-gt1000 c = λ n k.
    let s : Script = record { config = c.self.inside.config; orders = c.self.inside.orders.items } in
    over_by_names c.args.self.now n c.args.producer c.args.entity.now k c.names_with-names.result
    (names_counted s c.args.self.now c.self.inside.plans.entries c.self.inside.pairs n c.args.producer c.args.entity.now k c.names_with-names.result c.self.invariant c.self.view_is c.names_with-names.ensures)
    c.if-names-gt1000.true

pub returns-else-names-gt1000 : goal.returns-else-names-gt1000
returns-else-names-gt1000 c = λ n k.
    let s : Script = record { config = c.self.inside.config; orders = c.self.inside.orders.items } in
    over_by_pairs c.args.self.now n c.args.producer c.args.entity.now k c.names_with-names.result c.pairs_with-pairs.result
    (names_counted s c.args.self.now c.self.inside.plans.entries c.self.inside.pairs n c.args.producer c.args.entity.now k c.names_with-names.result c.self.invariant c.self.view_is c.names_with-names.ensures)
    c.if-names-gt1000.false (c.pairs_with-pairs.ensures n k)
