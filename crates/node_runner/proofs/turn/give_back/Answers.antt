use Rattle.std.proofs.Common.{◌≡◌, ℕ, List, [], ◌∷◌, false, sym, ap, subst, ◌∙◌}
use Rattle.yard_model.specs.declared.out.Item.{Item}
use Rattle.yard_model.specs.Node.{Node}
use Rattle.yard_model.specs.Script.{Script}
use Rattle.node_core.specs.Gave.{moment}
use Rattle.node_core.specs.Turned.{Ended}
use Rattle.lease_table.specs.Belongs.{charter_of}
use Rattle.lease_table.specs.Leasing.{Pass}
use Rattle.lease_table.proofs.Meant.{same_pass}
use Rattle.node_runner.specs.Rested.{means}
use Rattle.node_runner.proofs.turn.give_back.Goals as goal

pub returns-clause-ended : goal.returns-clause-ended
returns-clause-ended g c =
    let st : Node = c.args.node.state in
    let old : List Item = c.args.out.now.items in
    let new : List Item = c.crash.new.out.items in
    let me : ℕ = c.args.me in
    let y : Script = c.args.node.script in
    let first = c.crash.ensures in
    let is_me : c.crash.new.leases.node ≡ me = (same_pass c.new-leases.result.pass.table c.crash.new.leases.pass.table c.new-leases.result.pass.view c.crash.new.leases.pass.view c.new-leases.result.node c.crash.new.leases.node first.stays).2 ∙ c.new-leases.ensures.1 in
    subst (λ (z : Script). Ended z (moment (means me c.args.pass) st old) (means me c.into_pass.result) new) c.requires.rested.script
    (subst (λ (q : Pass). Ended y (moment (means me c.args.pass) st old) (means me q) new) (sym c.into_pass.ensures)
    (subst (λ (n : ℕ). Ended y (moment (means me c.args.pass) st old) (means n c.crash.new.leases.pass) new) is_me
    (subst (λ (q : Pass). Ended y (moment (means me q) st old) (means c.crash.new.leases.node c.crash.new.leases.pass) new) c.new-leases.ensures.0
    (subst (λ (n : ℕ). Ended y (moment (means n c.new-leases.result.pass) st old) (means c.crash.new.leases.node c.crash.new.leases.pass) new) c.new-leases.ensures.1 first))))

pub returns-clause-free : goal.returns-clause-free
returns-clause-free g c = λ s here. subst (λ (n : ℕ). (means c.args.me c.into_pass.result).holds n s ≡ false) c.requires.rested.who ((returns-clause-ended g c).free s here)

pub returns-clause-numbers : goal.returns-clause-numbers
returns-clause-numbers g c =
    let first = c.crash.ensures in
    let is_me : c.crash.new.leases.node ≡ c.args.me = (same_pass c.new-leases.result.pass.table c.crash.new.leases.pass.table c.new-leases.result.pass.view c.crash.new.leases.pass.view c.new-leases.result.node c.crash.new.leases.node first.stays).2 ∙ c.new-leases.ensures.1 in
    ap (λ (q : Pass). q.view.numbers) c.into_pass.ensures ∙ (c.crash.new.leases.one ∙ ap (λ (n : ℕ). n ∷ []) is_me)
