-- The lists of shards that the node doesn't host stay.
use Rattle.std.proofs.Common.{◌≡◌, ℕ, List, [], ◌∷◌, ◌++◌, sym, ap, ◌∙◌, refl, true, false, true≢false}
use Rattle.std.specs.Prelude.{Bool, not, fold, Option, Some, None, is_none}
use Rattle.std.specs.List.{list_all}
use Rattle.std.proofs.lemmas.List.{get_or-set_other}
use Rattle.yard_model.specs.declared.fact.Fact.{Fact}
use Rattle.yard_model.specs.declared.out.Item.TheVariants as item
use Rattle.yard_model.specs.declared.incarnation.Slot.{Slot}
use Rattle.yard_model.specs.declared.incarnation.Slot.TheVariants as slot
use Rattle.yard_model.specs.Entities.{Hosted}
use Rattle.yard_model.specs.Move.{Move, made, item_of}
use Rattle.yard_model.specs.Node.{Act, items_of, move_of}
use Rattle.yard_model.specs.SlotLists.{SlotLists, shard_list}
use Rattle.yard_model.specs.Trace.{slot_of, with_entry, lists_step}
use Rattle.yard_model.specs.Words.{at}
use Rattle.plain_laws.proofs.Booleans.{and_both}
use Rattle.actor_laws.specs.Owes.{facts_in}
use Rattle.settle_laws.specs.Alone.{Base, is_of_hosted, is_entered_by, is_entered}
use Rattle.settle_laws.specs.Steps.{ListsAgree}

-- an entry of a hosted shard leaves the others
entry_beside : (f : Fact) (lists : SlotLists) (hosted : List (Option Hosted)) (s : ℕ) (o : Option Slot) → is_of_hosted hosted o ≡ true → is_none (at hosted s) ≡ true → shard_list (with_entry f lists o) s ≡ shard_list lists s
entry_beside f lists hosted s None h k = refl
entry_beside f lists hosted s (Some (slot.Shard t)) h k = get_or-set_other lists.shards t s (shard_list lists t ++ f ∷ []) [] (λ same. true≢false (sym h ∙ ap not (ap (λ n. is_none (at hosted n)) (sym same) ∙ k)))
entry_beside f lists hosted s (Some slot.Coordinator) h k = refl
entry_beside f lists hosted s (Some (slot.Queue p)) h k = refl

acts_beside : (b : Base) (hosted : List (Option Hosted)) (s : ℕ) (acts : List Act) (lists : SlotLists) → list_all (is_entered b hosted) acts ≡ true → is_none (at hosted s) ≡ true → shard_list (fold (lists_step b.set) lists (facts_in (items_of acts))) s ≡ shard_list lists s
acts_beside b hosted s [] lists h k = refl
acts_beside b hosted s (a ∷ acts) lists h k = by (move_of a) m.0 (λ l. acts_beside b hosted s acts l m.1 k)
  where
    m : (is_entered b hosted a ≡ true) × (list_all (is_entered b hosted) acts ≡ true)
    m = and_both (is_entered b hosted a) (list_all (is_entered b hosted) acts) h

    by : (v : Move) → is_entered_by b hosted v ≡ true → ((l : SlotLists) → shard_list (fold (lists_step b.set) l (facts_in (items_of acts))) s ≡ shard_list l s)
        → shard_list (fold (lists_step b.set) lists (facts_in (item_of v ++ items_of acts))) s ≡ shard_list lists s
    by (made (item.Fact f)) e rest = rest (lists_step b.set lists f) ∙ entry_beside f lists hosted s (slot_of b.set f) e k
    by (made (item.Post p)) e rest = rest lists
    by v e rest = rest lists

pub lists_agree : ListsAgree
lists_agree b z to lists acts agree on entered s none = acts_beside b to.hosted s acts lists entered none ∙ agree s (before (is_none (at z.hosted s)) refl)
  where
    before : (t : Bool) → is_none (at z.hosted s) ≡ t → is_none (at z.hosted s) ≡ true
    before true e = e
    before false e = absurd (true≢false (sym none ∙ on s e))
