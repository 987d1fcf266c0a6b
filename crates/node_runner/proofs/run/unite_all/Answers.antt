use Rattle.std.proofs.Common.{sym, ap, ◌∙◌, ◌++◌, ◌∷◌, [], List}
use Rattle.std.specs.Prelude.{Result, Ok}
use Rattle.lease_table.specs.Belongs.{id_of, charter_of}
use Rattle.node_runner.proofs.Working.{left_last, unites_last, unites_one, unites_all}
use Rattle.node_runner.proofs.run.unite_all.Goals as goal

pub loop-next-init : goal.loop-next-init
loop-next-init c =
    unites_last (id_of c.args.table.now) (charter_of c.args.table.now) c.args.turns c.args.left.items c.pop.new.self.items c.in_ok-all.all c.requires.each c.requires.all
    (c.in-Some.ensures.items ∙ ap (λ r. c.pop.new.self.items ++ r ∷ []) c.in_ok-all.was)

pub unite-all-requires-clause-table : goal.unite-all-requires-clause-table
unite-all-requires-clause-table c = (
  (left_last (id_of c.args.table.now) (charter_of c.args.table.now) c.args.turns c.loop-next.left.items c.pop-in-loop-next.new.self.items c.in_ok-next.next c.loop-next.invariant.left
      (c.in-Some-pop.ensures.items ∙ ap (λ r. c.pop-in-loop-next.new.self.items ++ r ∷ []) c.in_ok-next.was)).idle.table,
  c.loop-next.invariant.ran.table,
)

pub loop-next-preserved : goal.loop-next-preserved
loop-next-preserved c =
    unites_one (id_of c.args.table.now) (charter_of c.args.table.now) c.args.turns c.loop-next.left.items c.pop-in-loop-next.new.self.items c.in_ok-next.next c.loop-next.all c.unite-all.result c.loop-next.invariant
    (c.in-Some-pop.ensures.items ∙ ap (λ r. c.pop-in-loop-next.new.self.items ++ r ∷ []) c.in_ok-next.was) c.stands.ensures c.unite-all.ensures.table c.unite-all.ensures.view

pub returns : goal.returns
returns c = unites_all (id_of c.args.table.now) (charter_of c.args.table.now) c.args.turns c.loop-next.left.items c.loop-next.all c.loop-next.invariant (sym c.loop-next.left.ok.0 ∙ c.in_default-pop.ensures.cases.0)
