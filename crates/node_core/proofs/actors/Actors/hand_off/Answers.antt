use Rattle.std.proofs.Common.{◌≡◌, ◌∙◌, [], ◌∷◌, sym, ap, subst, true, false, refl}
use Rattle.yard_model.specs.declared.packet.Body.TheVariants as body
use Rattle.yard_model.specs.Move.{post}
use Rattle.yard_model.specs.Node as rules
use Rattle.yard_model.specs.Node.{Node}
use Rattle.yard_model.specs.Region.{takes_hand_off}
use Rattle.shard_lease.specs.Meaning.{Meaning}
use Rattle.node_core.specs.Found.{none}
use Rattle.node_core.specs.Gave.{Gave, moment}
use Rattle.node_core.specs.Standing.{Standing}
use Rattle.node_core.proofs.GaveLaws.{gave_nothing, gave_same}
use Rattle.node_core.proofs.GiveLaws.{region_gave}
use Rattle.node_core.proofs.PacketLaws.{hand_off_elsewhere, hand_off_hosted, hand_off_refused}
use Rattle.node_core.proofs.actors.Actors.hand_off.Goals as goal

pub returns-then-not-takes_hand_off-clause-gave : goal.returns-then-not-takes_hand_off-clause-gave
returns-then-not-takes_hand_off-clause-gave g c =
    let old : Meaning = g.L.Leases.meaning c.args.leases.now in
    let st : Node = c.args.self.now.state in
    let refused : takes_hand_off c.args.s c.args.stamp st.region ≡ false = ap (λ (v : Standing). takes_hand_off c.args.s c.args.stamp v.state.region) (sym c.self.view_is) ∙ (sym c.takes_hand_off.ensures ∙ c.if-not-takes_hand_off.true) in
    gave_same c.args.self.now.script none (λ lists. []) (λ lists. rules.hand_off c.args.s c.args.stamp c.args.from st) (moment old st c.args.out.now.items) (moment old st c.args.out.now.items) (λ lists. hand_off_refused c.args.s c.args.stamp c.args.from st refused)
    (gave_nothing c.args.self.now.script (moment old st c.args.out.now.items) c.requires.rests)

pub returns-then-is_hosted-clause-gave : goal.returns-then-is_hosted-clause-gave
returns-then-is_hosted-clause-gave g c =
    let old : Meaning = g.L.Leases.meaning c.args.leases.now in
    let new : Meaning = g.L.Leases.meaning c.hand_off_hosted.new.leases in
    let st : Node = c.args.self.now.state in
    let taken : takes_hand_off c.args.s c.args.stamp st.region ≡ true = ap (λ (v : Standing). takes_hand_off c.args.s c.args.stamp v.state.region) (sym c.self.view_is) ∙ (sym c.takes_hand_off.ensures ∙ c.if-not-takes_hand_off.false) in
    subst (λ acts. Gave c.args.self.now.script none (λ lists. acts) (moment old st c.args.out.now.items) (moment new c.hand_off_hosted.new.self.state c.hand_off_hosted.new.out.items)) (hand_off_hosted c.args.s c.args.stamp c.args.from st taken (sym c.is_hosted.ensures ∙ c.if-is_hosted.true)) c.hand_off_hosted.ensures.gave

pub returns-else-is_hosted-clause-gave : goal.returns-else-is_hosted-clause-gave
returns-else-is_hosted-clause-gave g c =
    let old : Meaning = g.L.Leases.meaning c.args.leases.now in
    let st : Node = c.args.self.now.state in
    let taken : takes_hand_off c.args.s c.args.stamp st.region ≡ true = ap (λ (v : Standing). takes_hand_off c.args.s c.args.stamp v.state.region) (sym c.self.view_is) ∙ (sym c.takes_hand_off.ensures ∙ c.if-not-takes_hand_off.false) in
    subst (λ acts. Gave c.args.self.now.script none (λ lists. acts) (moment old st c.args.out.now.items) (moment old c.post_stopped.new.self.state c.post_stopped.new.out.items)) (hand_off_elsewhere c.args.s c.args.stamp c.args.from st taken (sym c.is_hosted.ensures ∙ c.if-is_hosted.false))
    (region_gave old c.args.self.now c.post_stopped.new.self (post st.who c.args.from (body.ShardStopped c.args.s c.args.stamp) ∷ []) c.args.out.now c.post_stopped.new.out c.knows.ensures.entities refl c.requires.rests c.post_stopped.ensures)
