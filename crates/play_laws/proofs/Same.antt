-- Traces that differ by free facts alone say the same of slots and of who is live.
use Rattle.plain_laws.proofs.Booleans.{and_both, of_not}
use Rattle.yard_model.specs.Era.{upgrade_step, version_in}
use Rattle.yard_laws.proofs.Guarding.{guarded_more, guard_opens}
use Rattle.std.proofs.Common.{◌≡◌, ℕ, ◌+◌, List, [], ◌∷◌, ◌++◌, sym, ap, ap₂, subst, ◌∙◌, refl, true, false}
use Rattle.std.specs.Prelude.{Bool, ◌&&◌, nat_lt, nat_le, not, length, fold, Option, Some, None, if◌then◌else◌}
use Rattle.std.specs.List.{list_all}
use Rattle.std.proofs.lemmas.List.{append-nil, append_assoc}
use Rattle.std.proofs.lemmas.List.Sums.{fold-append}
use Rattle.yard_model.specs.declared.fact.Fact.{Fact}
use Rattle.yard_model.specs.declared.fact.Fact.TheVariants as fact
use Rattle.yard_model.specs.declared.out.Item.{Item}
use Rattle.yard_model.specs.declared.out.Item.TheVariants as item
use Rattle.yard_model.specs.declared.incarnation.Incarnation.{Incarnation}
use Rattle.yard_model.specs.declared.incarnation.Slot.{Slot}
use Rattle.yard_model.specs.declared.incarnation.Slot.TheVariants as slot
use Rattle.yard_model.specs.Genuine.{is_slot_of, is_brought}
use Rattle.yard_model.specs.Lawful.{may_follow, is_decided}
use Rattle.yard_model.specs.Node.{Node}
use Rattle.yard_model.specs.Safe.{live_step, live_at, is_journal_state}
use Rattle.yard_model.specs.Guards.{own_guard, cross_guard, guard, guarded, opens}
use Rattle.yard_model.specs.Script.{Script, setting}
use Rattle.yard_model.specs.Setting.{shard_of, names_of}
use Rattle.yard_model.specs.SlotLists.{SlotLists, shard_list}
use Rattle.yard_model.specs.SlotReads.{holder, journal, position}
use Rattle.yard_model.specs.Trace.{slot_of, list_at, lists_step, lists_of}
use Rattle.yard_model.specs.Words.{is_at, is_among, is_empty}
use Rattle.yard_model.specs.World.{World, numbered, count_posts, input_facts}
use Rattle.yard_laws.specs.Free.{is_free}
use Rattle.yard_laws.proofs.FreeLaws.{free_is_guarded, free_leaves_lists, free_leaves_live, free_leaves_version}
use Rattle.yard_laws.proofs.Owns.{lists_more}
use Rattle.actor_laws.specs.Owes.{facts_in}
use Rattle.node_laws.specs.Cluster.{IsMember, IsCluster, AreHeld}

pub record IsSameTrace (c : Script) (t u : List Fact) : Type 0 where
  pub guarded_are : guarded c t ≡ guarded c u
  pub lists_are : lists_of (setting c) t ≡ lists_of (setting c) u
  pub live_are : (e : List ℕ) → live_at e t ≡ live_at e u
  pub version_are : version_in t ≡ version_in u

and_true : (b : Bool) → (b && true) ≡ b
and_true true = refl
and_true false = refl

-- a free fact more
pub same_free : (c : Script) (t u : List Fact) (f : Fact) → is_free f ≡ true → IsSameTrace c t u → IsSameTrace c (t ++ f ∷ []) u
same_free c t u f free s = record {
  guarded_are = guarded_more c t f (guard_opens c t f (free_is_guarded c t f free)) ∙ (ap (λ b. guarded c t && b) (free_is_guarded c t f free) ∙ (and_true (guarded c t) ∙ s.guarded_are));
  lists_are = free_leaves_lists c t f free ∙ s.lists_are;
  live_are = λ e. free_leaves_live e t f free ∙ s.live_are e;
  version_are = free_leaves_version t f free ∙ s.version_are;
}

-- A fact more.

all_same : {X : Type 0} (p q : X → Bool) (xs : List X) → ((x : X) → p x ≡ q x) → list_all p xs ≡ list_all q xs
all_same p q [] h = refl
all_same p q (x ∷ xs) h = ap₂ (λ a b. a && b) (h x) (all_same p q xs h)

cross_same : (c : Script) (t u : List Fact) (f : Fact) → IsSameTrace c t u → cross_guard c t f ≡ cross_guard c u f
cross_same c t u (fact.Start x e) s =
    ap₂ (λ (l : SlotLists) (live : List Incarnation). is_brought c e && is_at x (holder (shard_list l (shard_of (setting c) e))) && is_empty live) s.lists_are (s.live_are e)
cross_same c t u (fact.Wrote e r) s =
    ap₂ (λ a b. a && b) (ap (λ (live : List Incarnation). not (is_empty live)) (s.live_are e))
    (ap₂ (λ v (l : SlotLists). is_decided v c (journal e (shard_list l (shard_of (setting c) e))) r) s.version_are s.lists_are)
cross_same c t u (fact.Freed (slot.Shard k) n why) s = all_same (λ e. is_empty (live_at e t)) (λ e. is_empty (live_at e u)) (names_of (setting c) k) (λ e. ap is_empty (s.live_are e))
cross_same c t u (fact.Active x e m st) s = ap (λ (l : SlotLists). is_journal_state c m st (journal e (shard_list l (shard_of (setting c) e)))) s.lists_are
cross_same c t u (fact.Confirmed p e n) s = ap (λ (l : SlotLists). nat_le n (position p (journal e (shard_list l (shard_of (setting c) e))))) s.lists_are
cross_same c t u f s = refl

own_same : (c : Script) (t u : List Fact) (f : Fact) (o : Option Slot) → IsSameTrace c t u → own_guard c t f o ≡ own_guard c u f o
own_same c t u f None s = refl
own_same c t u f (Some k) s = ap (λ (l : SlotLists). is_slot_of c k && may_follow c k (list_at l k) f) s.lists_are

pub guard_same : (c : Script) (t u : List Fact) (f : Fact) → IsSameTrace c t u → guard c t f ≡ guard c u f
guard_same c t u f s = ap₂ (λ a b. a && b) (own_same c t u f (slot_of (setting c) f) s) (cross_same c t u f s)

pub same_more : (c : Script) (t u : List Fact) (f : Fact) → opens f ≡ false → IsSameTrace c t u → IsSameTrace c (t ++ f ∷ []) (u ++ f ∷ [])
same_more c t u f within s = record {
  guarded_are = guarded_more c t f within ∙ (ap₂ (λ a b. a && b) s.guarded_are (guard_same c t u f s) ∙ sym (guarded_more c u f within));
  lists_are = lists_more c t f ∙ (ap (λ l. lists_step (setting c) l f) s.lists_are ∙ sym (lists_more c u f));
  live_are = λ e. fold-append (live_step e) [] t (f ∷ []) ∙ (ap (λ l. live_step e l f) (s.live_are e) ∙ sym (fold-append (live_step e) [] u (f ∷ [])));
  version_are = fold-append upgrade_step 1 t (f ∷ []) ∙ (ap (λ v. upgrade_step v f) s.version_are ∙ sym (fold-append upgrade_step 1 u (f ∷ [])));
}

-- The facts of an input, and those among its items.

items_same : (c : Script) (limit k : ℕ) (is : List Item) (t u : List Fact) → list_all (λ f. not (opens f)) (facts_in is) ≡ true → IsSameTrace c t u → IsSameTrace c (t ++ numbered limit k is) (u ++ facts_in is)
items_same c limit k [] t u within s = subst (λ x. IsSameTrace c x (u ++ [])) (sym (append-nil t)) (subst (IsSameTrace c t) (sym (append-nil u)) s)
items_same c limit k (item.Fact f ∷ is) t u within s =
    let m : (not (opens f) ≡ true) × (list_all (λ f. not (opens f)) (facts_in is) ≡ true) = and_both (not (opens f)) (list_all (λ f. not (opens f)) (facts_in is)) within in
    subst (λ x. IsSameTrace c x (u ++ (f ∷ facts_in is))) (append_assoc t (f ∷ []) (numbered limit k is))
    (subst (IsSameTrace c ((t ++ f ∷ []) ++ numbered limit k is)) (append_assoc u (f ∷ []) (facts_in is))
    (items_same c limit k is (t ++ f ∷ []) (u ++ f ∷ []) m.1 (same_more c t u f (of_not (opens f) m.0) s)))
items_same c limit k (item.Post p ∷ is) t u within s = by (nat_lt k limit) (λ x r. items_same c limit (k + 1) is x u within r)
  where
    more : List Fact
    more = numbered limit (k + 1) is

    by : (b : Bool) → ((x : List Fact) → IsSameTrace c x u → IsSameTrace c (x ++ more) (u ++ facts_in is)) → IsSameTrace c (t ++ ((if b then fact.Sent (k + 1) p ∷ [] else []) ++ more)) (u ++ facts_in is)
    by true rest = subst (λ x. IsSameTrace c x (u ++ facts_in is)) (append_assoc t (fact.Sent (k + 1) p ∷ []) more) (rest (t ++ fact.Sent (k + 1) p ∷ []) (same_free c t u (fact.Sent (k + 1) p) refl s))
    by false rest = rest t s

pub input_same : (c : Script) (w : World) (is : List Item) (t u : List Fact) → list_all (λ f. not (opens f)) (facts_in is) ≡ true → IsSameTrace c t u → IsSameTrace c (t ++ input_facts w is) (u ++ facts_in is)
input_same c w is t u within s = subst (λ x. IsSameTrace c x (u ++ facts_in is)) (append_assoc t fs (full b)) (last b)
  where
    fs : List Fact
    fs = numbered w.limit (length w.wire) is

    b : Bool
    b = nat_lt w.limit (fold count_posts (length w.wire) is)

    full : Bool → List Fact
    full b = if b then fact.WireFull ∷ [] else []

    last : (b : Bool) → IsSameTrace c ((t ++ fs) ++ full b) (u ++ facts_in is)
    last true = same_free c (t ++ fs) (u ++ facts_in is) fact.WireFull refl (items_same c w.limit (length w.wire) is t u within s)
    last false = subst (λ x. IsSameTrace c x (u ++ facts_in is)) (sym (append-nil (t ++ fs))) (items_same c w.limit (length w.wire) is t u within s)

pub cluster_same : (c : Script) (t u : List Fact) (nodes : List (Option Node)) → IsSameTrace c t u → IsCluster c u nodes → IsCluster c t nodes
cluster_same c t u nodes s is = record {
  guarded_are = s.guarded_are ∙ is.guarded_are;
  members = λ k st e. still k st (is.members k st e);
  held = subst (λ l. AreHeld c l nodes) (sym s.lists_are) is.held;
}
  where
    still : (k : ℕ) (st : Node) → IsMember c u k st → IsMember c t k st
    still k st m = record {
      node_is = m.node_is;
      sound = m.sound;
      viewed = m.viewed;
      hand = m.hand;
      has = record {
        of_trace = record {
          lists_are = m.has.of_trace.lists_are ∙ sym s.lists_are;
          version_is = m.has.of_trace.version_is ∙ sym s.version_are;
          live_are = λ e. m.has.of_trace.live_are e ∙ sym (ap (is_among st.who) (s.live_are e));
        };
        holds = m.has.holds;
      };
    }
