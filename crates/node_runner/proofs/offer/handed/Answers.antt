use Rattle.std.proofs.Common.{rules, ◌≡◌, true, sym, ap, ◌∙◌}
use Rattle.std.specs.Prelude.{Some, Option, ◌&&◌}
use Rattle.plain_laws.proofs.Booleans.{and_both}
use Rattle.yard_model.specs.Genuine.{is_node, is_producer, is_genuine_body}
use Rattle.yard_model.specs.Script.{Script}
use Rattle.lease_table.specs.Belongs.{id_of, charter_of}
use Rattle.node_runner.specs.declared.offer.Confirmed.{Confirmed}
use Rattle.node_runner.specs.Parcels.{is_shown}
use Rattle.node_runner.specs.Shown.{confirmed_of}
use Rattle.node_runner.proofs.Confirming.{producer_of}
use Rattle.node_runner.proofs.Shown.{shown_handed}
use Rattle.node_runner.proofs.offer.handed.Goals as goal

pub see_record-pass-requires-clause-confirms : goal.see_record-pass-requires-clause-confirms
see_record-pass-requires-clause-confirms g c = sym c.confirmed_of.ensures ∙ c.in-Some.is

pub see_record-pass-requires-clause-shown : goal.see_record-pass-requires-clause-shown
see_record-pass-requires-clause-shown g c = ap (is_shown (charter_of c.args.table.now) c.args.packet.now.body) (sym c.in-Some-note.is) ∙ c.requires.shown

pub is_queued-is_there-requires : goal.is_queued-is_there-requires
is_queued-is_there-requires g c =
    let y : Script = charter_of c.args.table.now in
    let r : Confirmed = c.in-Some.confirmed in
    let is : confirmed_of c.args.packet.now.body ≡ Some r = sym c.confirmed_of.ensures ∙ c.in-Some.is in
    let genuine : is_genuine_body y c.args.packet.now.body ≡ true = (and_both (is_node y c.args.packet.now.from && is_node y c.args.packet.now.to) (is_genuine_body y c.args.packet.now.body) c.requires.genuine).1 in
    ap (λ (z : Script). is_producer z r.producer) c.requires.rested.script ∙ producer_of y c.args.packet.now.body r genuine is

pub returns-clause-may : goal.returns-clause-may
returns-clause-may g c = λ may.
    let y : Script = charter_of c.args.table.now in
    let r : Confirmed = c.in-Some.confirmed in
    let is : confirmed_of c.args.packet.now.body ≡ Some r = sym c.confirmed_of.ensures ∙ c.in-Some.is in
    let to : c.args.packet.now.to ≡ c.args.node.now.state.who = search rules in
    let seen : c.see_record-pass.result.1 ≡ true = search rules in
    shown_handed y c.args.me c.see_record-pass.result.0 c.args.node.now c.args.packet.now r c.requires.genuine c.requires.within to c.are_apart.ensures is (c.see_record-pass.ensures.seen seen) (c.is_queued-is_there.ensures may)
