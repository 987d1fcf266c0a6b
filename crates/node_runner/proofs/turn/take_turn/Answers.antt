use Rattle.std.proofs.Common.{◌≡◌, ℕ, List, sym, subst, ap, ◌∙◌}
use Rattle.yard_model.specs.declared.out.Item.{Item}
use Rattle.yard_model.specs.Node.{Act, Node, turn}
use Rattle.yard_model.specs.Script.{Script}
use Rattle.yard_model.specs.SlotLists.{SlotLists}
use Rattle.yard_model.specs.World.{all_sends}
use Rattle.node_core.specs.Gave.{moment}
use Rattle.node_core.specs.Turned.{Turned}
use Rattle.lease_table.specs.Belongs.{id_of, charter_of}
use Rattle.lease_table.specs.Leasing.{Pass}
use Rattle.node_runner.specs.Rested.{Rested, means}
use Rattle.node_runner.proofs.Posted.{turned_posts}
use Rattle.node_runner.proofs.ToldLaws.{turned_rested, turned_me}
use Rattle.node_runner.proofs.turn.take_turn.Goals as goal

pub returns-clause-turned : goal.returns-clause-turned
returns-clause-turned g c =
    let y : Script = charter_of c.args.table.now in
    let st : Node = c.args.node.now.state in
    let w : Node = c.turn.new.self.state in
    let old : List Item = c.args.out.now.items in
    let new : List Item = c.turn.new.out.items in
    let me : ℕ = c.args.me in
    let n : ℕ = c.turn.new.leases.node in
    let q : Pass = c.turn.new.leases.pass in
    let moved : Turned y (λ lists. turn (all_sends y) lists c.args.input.now st) (moment (means me c.args.pass) st old) (moment (means n q) w new) =
    subst (λ (x : Script). Turned x (λ lists. turn (all_sends x) lists c.args.input.now st) (moment (means me c.args.pass) st old) (moment (means n q) w new)) c.requires.rested.script
    (subst (λ (p : Pass). Turned c.args.node.now.script (λ lists. turn (all_sends c.args.node.now.script) lists c.args.input.now st) (moment (means me p) st old) (moment (means n q) w new)) c.new-leases.ensures.0
    (subst (λ (i : ℕ). Turned c.args.node.now.script (λ lists. turn (all_sends c.args.node.now.script) lists c.args.input.now st) (moment (means i c.new-leases.result.pass) st old) (moment (means n q) w new)) c.new-leases.ensures.1 c.turn.ensures.turned)) in
    subst (λ (p : Pass). Turned y (λ lists. turn (all_sends y) lists c.args.input.now st) (moment (means me c.args.pass) st old) (moment (means me p) w new)) (sym c.into_pass.ensures)
    (turned_me y (λ lists. turn (all_sends y) lists c.args.input.now st) me n c.args.pass q st w old new moved)

pub returns-clause-rested : goal.returns-clause-rested
returns-clause-rested g c =
    let y : Script = charter_of c.args.table.now in
    let st : Node = c.args.node.now.state in
    let w : Node = c.turn.new.self.state in
    let old : List Item = c.args.out.now.items in
    let new : List Item = c.turn.new.out.items in
    let me : ℕ = c.args.me in
    let n : ℕ = c.turn.new.leases.node in
    let q : Pass = c.turn.new.leases.pass in
    let moved : Turned y (λ lists. turn (all_sends y) lists c.args.input.now st) (moment (means me c.args.pass) st old) (moment (means n q) w new) =
    subst (λ (x : Script). Turned x (λ lists. turn (all_sends x) lists c.args.input.now st) (moment (means me c.args.pass) st old) (moment (means n q) w new)) c.requires.rested.script
    (subst (λ (p : Pass). Turned c.args.node.now.script (λ lists. turn (all_sends c.args.node.now.script) lists c.args.input.now st) (moment (means me p) st old) (moment (means n q) w new)) c.new-leases.ensures.0
    (subst (λ (i : ℕ). Turned c.args.node.now.script (λ lists. turn (all_sends c.args.node.now.script) lists c.args.input.now st) (moment (means i c.new-leases.result.pass) st old) (moment (means n q) w new)) c.new-leases.ensures.1 c.turn.ensures.turned)) in
    subst (λ (p : Pass). Rested (id_of c.args.table.now) y me p c.turn.new.self) (sym c.into_pass.ensures)
    (turned_rested (id_of c.args.table.now) y (λ lists. turn (all_sends y) lists c.args.input.now st) me n c.args.pass q c.args.node.now c.turn.new.self old new c.requires.rested c.turn.ensures.script c.turn.ensures.who moved c.turn.new.leases.one c.turn.new.leases.whole)

pub returns-clause-posts : goal.returns-clause-posts
returns-clause-posts g c = turned_posts (charter_of c.args.table.now) (λ lists. turn (all_sends (charter_of c.args.table.now)) lists c.args.input.now c.args.node.now.state) (moment (means c.args.me c.args.pass) c.args.node.now.state c.args.out.now.items) (moment (means c.args.me c.into_pass.result) c.turn.new.self.state c.turn.new.out.items) (returns-clause-turned g c)
