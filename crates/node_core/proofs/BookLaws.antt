-- What a node that comes up rests on of a book in which nobody holds a slot.
use Rattle.std.proofs.Common.{◌≡◌, ℕ, ◌-◌, sym, ap, subst, ◌∙◌, refl, true, false}
use Rattle.std.specs.Prelude.{Bool, ◌&&◌, replicate, Some, None, is_some, IfSome}
use Rattle.std.specs.Option.{option_map}
use Rattle.yard_model.specs.declared.incarnation.Incarnation.{Incarnation}
use Rattle.yard_model.specs.declared.incarnation.Slot.{Slot}
use Rattle.yard_model.specs.declared.incarnation.Slot.TheVariants as slot
use Rattle.yard_model.specs.Genuine.{is_node, is_slot_of}
use Rattle.yard_model.specs.Node.{Node, new_node}
use Rattle.yard_model.specs.Script.{Script, setting}
use Rattle.yard_model.specs.SlotReads.{holder}
use Rattle.yard_model.specs.Words.{at}
use Rattle.plain_laws.proofs.Booleans.{both, get_replicate}
use Rattle.actor_laws.specs.Hands.{held_list}
use Rattle.shard_store.specs.Stores.{place_of}
use Rattle.shard_lease.specs.Book.{Book, is_of_node, meaning_of}
use Rattle.node_core.specs.Leased.{Rests, IsHandOf}

none_held : (c : Script) (version : ℕ) (who : Incarnation) (s : Slot) → held_list s (new_node (setting c) version who) ≡ None
none_held c version who (slot.Shard s) = ap (λ o. option_map (λ h. h.entries) o) (get_replicate c.config.shards s None)
none_held c version who slot.Coordinator = refl
none_held c version who (slot.Queue p) = ap (λ o. option_map (λ h. h.entries) o) (get_replicate c.config.producers (p - 1) None)

and_false : (b : Bool) → (b && false) ≡ false
and_false true = refl
and_false false = refl

pub new_rests : (c : Script) (b : Book) (version : ℕ) (who : Incarnation) (n : ℕ) (st : Node) → b.script ≡ c → b.holders ≡ replicate n None → is_node c who ≡ true → st ≡ new_node (setting c) version who → Rests (meaning_of b) c st
new_rests c b version who n st same none node new = subst (Rests (meaning_of b) c) (sym new) (record {
  script_is = same;
  serves_is = ap (λ s. is_node s who) same ∙ node;
  number_is = refl;
  admits_is = λ s v q. both (is_node b.script who) (is_slot_of b.script s) (ap (λ x. is_node x who) same ∙ node) (ap (λ x. is_slot_of x s) same ∙ v);
  held_is = λ s v. ap (λ o. is_slot_of b.script s && is_of_node who.node o) (ap (λ l. at l (place_of b.script.config s)) none ∙ get_replicate n (place_of b.script.config s) None)
      ∙ (and_false (is_slot_of b.script s) ∙ sym (ap is_some (none_held c version who s)));
  lists_are = λ s v. subst (λ o. IfSome o (IsHandOf (meaning_of b) s)) (sym (none_held c version who s)) tt;
  leased_are = λ s v. subst (λ o. IfSome o (λ l. holder l ≡ Some who)) (sym (none_held c version who s)) tt;
})
