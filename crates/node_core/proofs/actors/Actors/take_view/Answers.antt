use Rattle.std.proofs.Common.{◌≡◌, ◌≤◌, ◌+◌, ◌∙◌, ℕ, sym, ap, subst, arith}
use Rattle.std.specs.Prelude.{Option, Some, None, IfSome}
use Rattle.yard_model.specs.declared.packet.Body.{Body}
use Rattle.yard_model.specs.Node as rules
use Rattle.yard_model.specs.Node.{Node}
use Rattle.yard_model.specs.Script.{Script, setting}
use Rattle.shard_lease.specs.Meaning.{Meaning}
use Rattle.node_core.specs.Found.{none}
use Rattle.node_core.specs.Gave.{Gave, Moment, moment}
use Rattle.node_core.specs.Leased.{Rests}
use Rattle.node_core.specs.Standing.{Standing}
use Rattle.yard_model.specs.Region.{register}
use Rattle.region_actor.specs.Handled.{handled}
use Rattle.node_core.specs.Gave.{asks_lead}
use Rattle.node_core.proofs.GiveLaws.{region_gave}
use Rattle.node_core.proofs.PacketLaws.{handled_free, old_packet_gave, registers_free, view_gave}
use Rattle.node_core.proofs.StepLaws.{region_leaves, set_stays}
use Rattle.node_core.proofs.actors.Actors.take_view.Goals as goal

pub lead-requires-clause-rests : goal.lead-requires-clause-rests
lead-requires-clause-rests g c =
    let old : Meaning = g.L.Leases.meaning c.args.leases.now in
    let from = c.args.packet.now.from in
    let b : Body = c.args.packet.now.body in
    subst (λ (s : Script). Rests old s c.hear.new.self.state) (sym c.hear.ensures.went.script_is)
    (region_gave old c.args.self.now c.hear.new.self (handled from b c.args.self.now.state.region) c.args.out.now c.hear.new.out c.knows.ensures.entities (handled_free from b c.args.self.now.state.region) c.requires.rests c.hear.ensures.went).rests

pub lead-requires-clause-entries : goal.lead-requires-clause-entries
lead-requires-clause-entries g c =
    let leaves = region_leaves c.args.self.now c.hear.new.self c.args.out.now c.hear.new.out (handled c.args.packet.now.from c.args.packet.now.body c.args.self.now.state.region) c.hear.ensures.went in
    subst (λ o. IfSome o (λ k. 16 ≤ c.hear.new.self.spare)) (sym leaves.0) (subst (λ n. IfSome c.args.self.now.state.coordinator (λ k. 16 ≤ n)) (sym leaves.1) (enough c.args.self.now.spare c.args.self.now.state.coordinator c.requires.ready.entries))
  where
    enough : {A : Type 0} (n : ℕ) (o : Option A) → IfSome o (λ k. 300 ≤ n) → IfSome o (λ k. 16 ≤ n)
    enough n None h = tt
    enough n (Some k) h = omega (arith, h)

pub lead-requires-clause-room : goal.lead-requires-clause-room
lead-requires-clause-room g c =
    let all = c.requires.ready.room in
    let less : c.args.out.now.spare ≤ c.hear.new.out.spare + 130 = c.hear.ensures.room in
    omega (arith, all, less)

pub ask_to_register-requires : goal.ask_to_register-requires
ask_to_register-requires g c =
    let all = c.requires.ready.room in
    let less : c.args.out.now.spare ≤ c.hear.new.out.spare + 130 = c.hear.ensures.room in
    let then_less : c.hear.new.out.spare ≤ c.lead.new.out.spare + 2065 = c.lead.ensures.room in
    record { room = omega (arith, all, less, then_less) }

pub returns-then-is_newer-clause-gave : goal.returns-then-is_newer-clause-gave
returns-then-is_newer-clause-gave g c =
    let old : Meaning = g.L.Leases.meaning c.args.leases.now in
    let script : Script = c.args.self.now.script in
    let st : Node = c.args.self.now.state in
    let new : Meaning = g.L.Leases.meaning c.lead.new.leases in
    let from = c.args.packet.now.from in
    let b : Body = c.args.packet.now.body in
    let one : Standing = c.hear.new.self in
    let two : Standing = c.lead.new.self in
    let heard : Moment = moment old one.state c.hear.new.out.items in
    let led : Moment = moment new two.state c.lead.new.out.items in
    let to : Moment = moment new c.ask_to_register.new.self.state c.ask_to_register.new.out.items in
    let first_is : one.script ≡ script = c.hear.ensures.went.script_is in
    let second_is : two.script ≡ script = c.lead.ensures.script ∙ first_is in
    let first : Gave script none (λ lists. rules.of_region (handled from b) st) (moment old st c.args.out.now.items) heard =
    region_gave old c.args.self.now one (handled from b st.region) c.args.out.now c.hear.new.out c.knows.ensures.entities (handled_free from b st.region) c.requires.rests c.hear.ensures.went in
    let second : Gave script (asks_lead one.state) (λ lists. rules.lead lists one.state) heard led = subst (λ (s : Script). Gave s (asks_lead one.state) (λ lists. rules.lead lists one.state) heard led) first_is c.lead.ensures.gave in
    let last : Gave script none (λ lists. rules.of_region register two.state) led to =
    subst (λ (s : Script). Gave s none (λ lists. rules.of_region register two.state) led to) second_is
    (region_gave new two c.ask_to_register.new.self (register two.state.region) c.lead.new.out c.ask_to_register.new.out
    (set_stays script st one.state two.state first.told second.told c.knows.ensures.entities first.node_is second.node_is ∙ ap setting (sym second_is)) (registers_free two.state.region) (subst (λ (s : Script). Rests new s two.state) (sym second_is) second.rests) c.ask_to_register.ensures) in
    (asks_lead one.state, view_gave script from b (moment old st c.args.out.now.items) heard led to (sym c.is_newer.ensures ∙ c.if-is_newer.true) first second last)

pub returns-else-is_newer-clause-gave : goal.returns-else-is_newer-clause-gave
returns-else-is_newer-clause-gave g c =
    let old : Meaning = g.L.Leases.meaning c.args.leases.now in
    let script : Script = c.args.self.now.script in
    let st : Node = c.args.self.now.state in
    (none, old_packet_gave script c.args.packet.now.from c.args.packet.now.body (moment old st c.args.out.now.items) c.requires.view (sym c.is_newer.ensures ∙ c.if-is_newer.false) c.requires.rests)
