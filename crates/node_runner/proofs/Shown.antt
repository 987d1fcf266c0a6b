-- A packet that may be taken.
use Rattle.std.proofs.Common.{◌≡◌, ℕ, ◌-◌, ◌≤◌, ◌&&◌, true, false, List, refl, sym, ap, ◌∙◌, subst}
use Rattle.std.specs.Prelude.{Bool, Option, None, Some, IfSome, is_some}
use Rattle.std.specs.Option.{option_map}
use Rattle.plain_laws.proofs.Booleans.{true_is_not_false, and_both}
use Rattle.plain_laws.proofs.Lists.{none_is_not_some, some_is}
use Rattle.yard_model.specs.declared.fact.Fact.{Fact}
use Rattle.yard_model.specs.declared.incarnation.Slot.TheVariants as slot
use Rattle.yard_model.specs.declared.packet.Body.{Body}
use Rattle.yard_model.specs.declared.packet.Body.TheVariants as body
use Rattle.yard_model.specs.declared.packet.Packet.{Packet}
use Rattle.yard_model.specs.Genuine.{is_node, is_genuine_body, is_genuine_packet}
use Rattle.yard_model.specs.Node.{Node}
use Rattle.yard_model.specs.Producer.{Producer}
use Rattle.yard_model.specs.Script.{Script}
use Rattle.yard_model.specs.SlotReads.{queued}
use Rattle.yard_model.specs.Words.{at}
use Rattle.actor_laws.specs.Hands.{held_list}
use Rattle.node_laws.specs.NodeTurns.{IsPromised, Promised, MayConfirm}
use Rattle.node_core.specs.Standing.{Standing}
use Rattle.lease_table.specs.Fits.{is_within, recorded, home_of}
use Rattle.lease_table.specs.Leasing.{Pass, Met}
use Rattle.lease_table.specs.Lists.{seen_at}
use Rattle.node_runner.specs.declared.offer.Confirmed.{Confirmed}
use Rattle.node_runner.specs.Rested.{Rested, means}
use Rattle.node_runner.specs.Parcels.{is_shown, has_seen}
use Rattle.node_runner.specs.Shown.{confirmed_of, AreApart, IsHanded}

-- the record that is confirmed may be, if there is one
abbrev pub MayConfirmIt : (List ℕ → ℕ → ℕ → Bool) → Node → Option Confirmed → Type 0
MayConfirmIt vouches st o = IfSome o (λ r. MayConfirm vouches st r.producer r.entity r.number)

promised_of : (vouches : List ℕ → ℕ → ℕ → Bool) (st : Node) (b : Body) → AreApart b → MayConfirmIt vouches st (confirmed_of b) → Promised vouches st b
promised_of vouches st (body.View v xs) apart may = apart
promised_of vouches st (body.Request p e n u) apart may = may
promised_of vouches st (body.Ack p e n) apart may = may
promised_of vouches st b apart may = tt

pub handed_of : (c : Script) (me : ℕ) (p : Pass) (v : Standing) (x : Packet) → is_genuine_packet c x ≡ true → is_within x.from.number ≡ true → x.to ≡ v.state.who → AreApart x.body → MayConfirmIt (means me p).vouches v.state (confirmed_of x.body) → IsHanded c me p v x
handed_of c me p v x genuine within to apart may =
    let t : ((is_node c x.from && is_node c x.to) ≡ true) × (is_genuine_body c x.body ≡ true) = and_both (is_node c x.from && is_node c x.to) (is_genuine_body c x.body) genuine in record {
      addressed = record { to_is = to; within_is = within };
      promised = record {
        from_is = (and_both (is_node c x.from) (is_node c x.to) t.0).0;
        genuine = t.1;
        promised = promised_of (means me p).vouches v.state x.body apart may;
      };
    }

-- it confirms nothing
pub plain_handed : (c : Script) (me : ℕ) (p : Pass) (v : Standing) (x : Packet) → is_genuine_packet c x ≡ true → is_within x.from.number ≡ true → x.to ≡ v.state.who → AreApart x.body → confirmed_of x.body ≡ None → IsHanded c me p v x
plain_handed c me p v x genuine within to apart none = handed_of c me p v x genuine within to apart (subst (MayConfirmIt (means me p).vouches v.state) (sym none) tt)

-- where it confirms a record, its note has seen that
pub shown_of : (c : Script) (b : Body) (r : Confirmed) (seer : Option Pass) → confirmed_of b ≡ Some r → is_shown c b seer ≡ true → has_seen c r.entity r.producer r.number seer ≡ true
shown_of c (body.Ack p e n) r seer is h = ap (λ (x : Confirmed). has_seen c x.entity x.producer x.number seer) (sym (some_is (record { producer = p; entity = e; number = n }) r is)) ∙ h
shown_of c (body.Request p e n u) r seer is h = ap (λ (x : Confirmed). has_seen c x.entity x.producer x.number seer) (sym (some_is (record { producer = p; entity = e; number = n }) r is)) ∙ h
shown_of c b r seer is h = absurd (none_is_not_some r is)

-- it confirms a record that the pass has seen
pub shown_handed : (c : Script) (me : ℕ) (q : Pass) (v : Standing) (x : Packet) (r : Confirmed) → is_genuine_packet c x ≡ true → is_within x.from.number ≡ true → x.to ≡ v.state.who → AreApart x.body → confirmed_of x.body ≡ Some r
    → (means me q).vouches r.entity r.producer r.number ≡ true → ((k : Producer) → at v.state.producers (r.producer - 1) ≡ Some k → r.number ≤ queued r.entity k.entries) → IsHanded c me q v x
shown_handed c me q v x r genuine within to apart is vouched there = handed_of c me q v x genuine within to apart (subst (MayConfirmIt (means me q).vouches v.state) (sym is) (λ k e. (there k e, vouched)))

-- What is queued at a node.

-- the list of a producer that it has in hand
pub queue_is : (st : Node) (p : ℕ) (list : List Fact) (k : Producer) → held_list (slot.Queue p) st ≡ Some list → at st.producers (p - 1) ≡ Some k → k.entries ≡ list
queue_is st p list k held there = some_is k.entries list (ap (option_map (λ (x : Producer). x.entries)) (sym there) ∙ held)

pub queued_there : (st : Node) (p n : ℕ) (e : List ℕ) (list : List Fact) → held_list (slot.Queue p) st ≡ Some list → n ≤ queued e list → (k : Producer) → at st.producers (p - 1) ≡ Some k → n ≤ queued e k.entries
queued_there st p n e list held few k there = subst (λ l. n ≤ queued e l) (sym (queue_is st p list k held there)) few
