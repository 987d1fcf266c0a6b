-- A node that comes up rests on a pass that holds nothing.
use Rattle.std.proofs.Common.{◌≡◌, ℕ, ◌-◌, sym, ap, ◌∙◌, refl, subst}
use Rattle.std.specs.Prelude.{Bool, true, false, ◌==◌, ◌&&◌, List, Option, Some, None, IfSome, is_some}
use Rattle.std.specs.Option.{option_map}
use Rattle.plain_laws.proofs.Booleans.{both, get_replicate, number_itself}
use Rattle.plain_laws.proofs.Lists.{none_is_not_some}
use Rattle.yard_model.specs.declared.fact.Fact.{Fact}
use Rattle.yard_model.specs.declared.incarnation.Incarnation.{Incarnation}
use Rattle.yard_model.specs.declared.incarnation.Slot.{Slot}
use Rattle.yard_model.specs.declared.incarnation.Slot.TheVariants as slot
use Rattle.yard_model.specs.Behaviour.{is_in}
use Rattle.yard_model.specs.Genuine.{is_slot_of}
use Rattle.yard_model.specs.Node.{Node, new_node}
use Rattle.yard_model.specs.Script.{Script, setting}
use Rattle.yard_model.specs.SlotReads.{holder}
use Rattle.actor_laws.specs.Hands.{held_list}
use Rattle.node_core.specs.Leased.{IsNoQueue, IsHandOf, Rests}
use Rattle.lease_table.specs.Fits.{admits, is_let}
use Rattle.lease_table.proofs.Meant.{idle_free}
use Rattle.node_core.specs.Standing.{Standing}
use Rattle.lease_table.specs.Leasing.{Pass}
use Rattle.lease_table.specs.Lists.{seen_at}
use Rattle.shard_store.specs.Stores.{place_of}
use Rattle.node_runner.specs.Rested.{NewNodeRests, ArePublished, means}

-- a new node holds nothing
pub none_held : (c : Script) (version : ℕ) (who : Incarnation) (s : Slot) → held_list s (new_node (setting c) version who) ≡ None
none_held c version who (slot.Shard s) = ap (option_map (λ h. h.entries)) (get_replicate c.config.shards s None)
none_held c version who slot.Coordinator = refl
none_held c version who (slot.Queue p) = ap (option_map (λ k. k.entries)) (get_replicate c.config.producers (p - 1) None)

let_there : (c : Script) (n : ℕ) (s : Slot) → IsNoQueue s → is_let c n s ≡ true
let_there c n (slot.Shard s) h = refl
let_there c n slot.Coordinator h = refl
let_there c n (slot.Queue p) h = absurd h

pub new_node_rests : NewNodeRests
new_node_rests z c version who p v idle node within script state = record {
  table = idle.table;
  charter = idle.charter;
  numbers = idle.numbers;
  script = script;
  who = ap (λ (st : Node). st.who.node) state;
  whole = λ k l h. absurd (none_is_not_some l (sym (idle.nothing k) ∙ h));
  rests = subst (Rests (means who.node p) c) (sym state) (record {
    script_is = idle.charter;
    serves_is = number_itself who.node who.node refl;
    number_is = within;
    admits_is = λ s h q. ap (λ (y : Script). admits y who.node s) idle.charter ∙ both (is_in 1 c.config.nodes who.node && is_slot_of c s) (is_let c who.node s) (both (is_in 1 c.config.nodes who.node) (is_slot_of c s) node h) (let_there c who.node s q);
    held_is = λ s h. idle_free z c who.node who.node p s idle ∙ sym (ap (λ (o : Option (List Fact)). is_some o) (none_held c version who s));
    lists_are = λ s h. subst (λ o. IfSome o (IsHandOf (means who.node p) s)) (sym (none_held c version who s)) tt;
    leased_are = λ s h. subst (λ o. IfSome o (λ list. holder list ≡ Some who)) (sym (none_held c version who s)) tt;
  });
}

-- and it has nothing that others are to see
pub new_shown : (c : Script) (version : ℕ) (who : Incarnation) (p : Pass) (v : Standing) → v.state ≡ new_node (setting c) version who → ArePublished c p v.state
new_shown c version who p v state s here = subst (λ (st : Node). IfSome (held_list s st) (λ list. seen_at p.view.seen (place_of c.config s) ≡ list)) (sym state) (subst (λ o. IfSome o (λ list. seen_at p.view.seen (place_of c.config s) ≡ list)) (sym (none_held c version who s)) tt)
