use Rattle.std.proofs.Common.{◌≡◌, ◌∙◌, refl, sym, subst, ap}
use Rattle.yard_model.specs.Node.{Node, turn}
use Rattle.yard_model.specs.Script.{Script}
use Rattle.yard_model.specs.World.{all_sends}
use Rattle.node_laws.specs.NodeStands.{IsSoundNode}
use Rattle.lease_table.specs.Belongs.{id_of, charter_of}
use Rattle.node_core.specs.Standing.{Standing}
use Rattle.node_runner.specs.Posts.{AreGenuine}
use Rattle.node_runner.specs.Rested.{Rested, ArePublished}
use Rattle.node_runner.proofs.Published.{turned_on}
use Rattle.node_runner.proofs.Stepping.{room_goes_on, room_takes, of_shown}
use Rattle.node_runner.proofs.ToldLaws.{turned_but, rested_same}
use Rattle.node_runner.proofs.steps.give.Goals as goal

pub publish_told-requires-clause-shown : goal.publish_told-requires-clause-shown
publish_told-requires-clause-shown g c =
    let y : Script = charter_of c.args.table.now in
    let u : Standing = c.reserve.new.self in
    let sound : IsSoundNode y u.state = subst (IsSoundNode y) (sym c.reserve.ensures.state) (subst (λ (x : Script). IsSoundNode x c.args.node.state) c.requires.rested.script c.stands.ensures.sound) in
    turned_but (id_of c.args.table.now) y (λ lists. turn (all_sends y) lists c.args.input.now u.state) c.args.me c.args.pass c.take_turn-pass.result u c.take_turn-pass.new.node c.reserve.new.out.items c.take_turn-pass.new.out.items
    (rested_same (id_of c.args.table.now) y c.args.me c.args.pass c.args.node u c.reserve.ensures.script c.reserve.ensures.state c.requires.rested) sound
    (subst (λ (st : Node). ArePublished y c.args.pass st) (sym c.reserve.ensures.state) c.requires.published) c.take_turn-pass.ensures.rested c.take_turn-pass.ensures.turned

pub returns-clause-goes_on : goal.returns-clause-goes_on
returns-clause-goes_on g c = λ quiet.
    let y : Script = charter_of c.args.table.now in
    let u : Standing = c.reserve.new.self in
    let w : Standing = c.take_turn-pass.new.node in
    room_goes_on (id_of c.args.table.now) y c.args.me c.args.input.now c.args.pass c.publish_told.new.pass c.args.node u w c.reserve.new.out.items c.take_turn-pass.new.out.items c.reserve.ensures.state
    c.requires.rested c.stands.ensures.sound (of_shown y c.args.pass c.args.node.state c.requires.published) c.requires.given.may c.in_ok-publish_told.ensures.rested c.in_ok-publish_told.ensures.published
    (turned_on y (λ lists. turn (all_sends y) lists c.args.input.now u.state) c.args.me c.args.pass c.take_turn-pass.result c.publish_told.new.pass u.state w.state c.reserve.new.out.items c.take_turn-pass.new.out.items
    (ap (λ (st : Node). st.who.node) c.reserve.ensures.state ∙ c.requires.rested.who) c.take_turn-pass.ensures.turned c.in_ok-publish_told.ensures.sees c.in_ok-publish_told.ensures.rested.rests) quiet

pub returns-clause-takes : goal.returns-clause-takes
returns-clause-takes g c = λ o is.
    let y : Script = charter_of c.args.table.now in
    let u : Standing = c.reserve.new.self in
    let w : Standing = c.take_turn-pass.new.node in
    room_takes (id_of c.args.table.now) y c.args.me c.args.input.now o c.args.pass c.publish_told.new.pass c.args.node u w c.reserve.new.out.items c.take_turn-pass.new.out.items c.reserve.ensures.state
    c.requires.rested c.stands.ensures.sound (of_shown y c.args.pass c.args.node.state c.requires.published) c.requires.given.may c.in_ok-publish_told.ensures.rested c.in_ok-publish_told.ensures.published
    (turned_on y (λ lists. turn (all_sends y) lists c.args.input.now u.state) c.args.me c.args.pass c.take_turn-pass.result c.publish_told.new.pass u.state w.state c.reserve.new.out.items c.take_turn-pass.new.out.items
    (ap (λ (st : Node). st.who.node) c.reserve.ensures.state ∙ c.requires.rested.who) c.take_turn-pass.ensures.turned c.in_ok-publish_told.ensures.sees c.in_ok-publish_told.ensures.rested.rests) is

pub returns-clause-posts : goal.returns-clause-posts
returns-clause-posts g c = λ before.
    let y : Script = charter_of c.args.table.now in
    (subst (AreGenuine y) (sym c.in_ok-publish_told.ensures.emptied) refl, c.in_ok-publish_told.ensures.posts (c.take_turn-pass.ensures.posts (subst (AreGenuine y) (sym c.reserve.ensures.items) before.0)) before.1)

pub take_turn-pass-requires-clause-rested : goal.take_turn-pass-requires-clause-rested
take_turn-pass-requires-clause-rested g c = rested_same (id_of c.args.table.now) (charter_of c.args.table.now) c.args.me c.args.pass c.args.node c.reserve.new.self c.reserve.ensures.script c.reserve.ensures.state c.requires.rested
