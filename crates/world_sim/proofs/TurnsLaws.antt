-- A node that takes an input, or ends, once there is room for it.
use Rattle.std.proofs.Common.{◌≡◌, List, ap, ◌∙◌, subst}
use Rattle.std.specs.Prelude.{Result, Ok, Err, IfOk}
use Rattle.yard_model.specs.declared.incarnation.Incarnation.{Incarnation}
use Rattle.yard_model.specs.declared.out.Item.{Item}
use Rattle.yard_model.specs.declared.input.Input.{Input}
use Rattle.yard_model.specs.Node.{Node, turn}
use Rattle.yard_model.specs.Script.{Script}
use Rattle.yard_model.specs.World.{all_sends}
use Rattle.shard_lease.specs.Book.{Book, meaning_of}
use Rattle.node_core.specs.Gave.{moment}
use Rattle.node_core.specs.Standing.{Standing}
use Rattle.node_core.specs.Turned.{Turned, Ended}
use Rattle.world_sim.specs.Mail.{Mails}
use Rattle.world_sim.specs.Turns.{Handled, Ends}

-- so it did before room was made
pub handled_first : (i : Input) (book later : Book) (mail mid next : Mails) (node roomy new : Standing) → roomy.script ≡ node.script → roomy.state ≡ node.state → mid.items ≡ mail.items → mid.packets ≡ mail.packets → mid.fresh ≡ mail.fresh → mid.full ≡ mail.full
    → Handled i book later mid next roomy new → Handled i book later mail next node new
handled_first i book later mail mid next node roomy new script state items packets fresh full h = record {
  script_is = h.script_is ∙ script;
  turned = subst (λ is. T node.script node.state is) items (subst (λ st. T node.script st mid.items) state (subst (λ c. T c roomy.state mid.items) script h.turned));
  beside = record { packets_are = h.beside.packets_are ∙ packets; fresh_are = h.beside.fresh_are ∙ fresh; full_is = h.beside.full_is ∙ full };
}
  where
    T : Script → Node → List Item → Type 0
    T c st is = Turned c (λ lists. turn (all_sends c) lists i st) (moment (meaning_of book) st is) (moment (meaning_of later) new.state next.items)

pub ended_first : (book later : Book) (mail mid next : Mails) (node roomy : Standing) → roomy.script ≡ node.script → roomy.state ≡ node.state → mid.items ≡ mail.items → mid.packets ≡ mail.packets → mid.fresh ≡ mail.fresh → mid.full ≡ mail.full
    → Ends book later mid next roomy → Ends book later mail next node
ended_first book later mail mid next node roomy script state items packets fresh full h = record {
  ended = subst (λ is. T node.script node.state is) items (subst (λ st. T node.script st mid.items) state (subst (λ c. T c roomy.state mid.items) script h.ended));
  beside = record { packets_are = h.beside.packets_are ∙ packets; fresh_are = h.beside.fresh_are ∙ fresh; full_is = h.beside.full_is ∙ full };
}
  where
    T : Script → Node → List Item → Type 0
    T c st is = Ended c (moment (meaning_of book) st is) (meaning_of later) next.items

-- where it did come to its end
pub ended_if : {E : Type 0} (r : Result Incarnation E) (book later : Book) (mail mid next : Mails) (node roomy : Standing) → roomy.script ≡ node.script → roomy.state ≡ node.state → mid.items ≡ mail.items → mid.packets ≡ mail.packets → mid.fresh ≡ mail.fresh → mid.full ≡ mail.full
    → IfOk r (λ who. (who ≡ roomy.state.who) × Ends book later mid next roomy) → IfOk r (λ who. (who ≡ node.state.who) × Ends book later mail next node)
ended_if (Ok who) book later mail mid next node roomy script state items packets fresh full h =
    (h.0 ∙ ap (λ (st : Node). st.who) state, ended_first book later mail mid next node roomy script state items packets fresh full h.1)
ended_if (Err e) book later mail mid next node roomy script state items packets fresh full h = tt
