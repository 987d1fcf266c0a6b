-- A cluster hears free facts, and gains nodes.
use Rattle.yard_model.specs.Era.{version_in}
use Rattle.yard_laws.proofs.Guarding.{guarded_next, guarded_rest, guarded_opens, upgraded_safe}
use Rattle.std.proofs.Common.{◌≡◌, ℕ, List, [], ◌∷◌, ◌++◌, sym, ap, subst, ◌∙◌, refl, true}
use Rattle.std.specs.Prelude.{Option, Some, slice_set}
use Rattle.std.specs.List.{list_all}
use Rattle.std.proofs.lemmas.List.{append-nil, append_assoc}
use Rattle.yard_model.specs.declared.fact.Fact.{Fact}
use Rattle.yard_model.specs.declared.fact.Fact.TheVariants as fact
use Rattle.yard_model.specs.Node.{Node, new_node}
use Rattle.yard_model.specs.Script.{Script, setting}
use Rattle.yard_model.specs.SlotLists.{SlotLists}
use Rattle.yard_model.specs.Trace.{lists_of}
use Rattle.yard_model.specs.Words.{is_among, at}
use Rattle.yard_laws.specs.Free.{is_free}
use Rattle.yard_laws.specs.Guarded.{Owns, GuardedIsOwn, GuardedIsSafe, GuardedIsSafeNow}
use Rattle.yard_laws.proofs.FreeLaws.{free_is_guarded, free_leaves_lists, free_leaves_live, free_leaves_version}
use Rattle.plain_laws.proofs.Booleans.{and_both}
use Rattle.plain_laws.proofs.Lists.{none_is_not_some, some_is, by_place, placed_at, placed_beside}
use Rattle.node_laws.specs.NodeTurns.{NodeBegins, IsNew}
use Rattle.node_laws.specs.Cluster.{IsMember, AreHeld, IsCluster, ClusterHears, ClusterGains, ClusterBegins, ClusterIsSafe, ClusterUpgrades}
use Rattle.node_laws.proofs.ClusterHolds.{lists_more, held_with}

-- One fact.

one_heard : (c : Script) (trace : List Fact) (f : Fact) (nodes : List (Option Node)) → is_free f ≡ true → IsCluster c trace nodes → IsCluster c (trace ++ f ∷ []) nodes
one_heard c trace f nodes free is = record {
  guarded_are = guarded_next c trace f is.guarded_are (free_is_guarded c trace f free);
  members = λ k st e. still k st (is.members k st e);
  held = subst (λ l. AreHeld c l nodes) (sym same) is.held;
}
  where
    same : lists_of (setting c) (trace ++ f ∷ []) ≡ lists_of (setting c) trace
    same = free_leaves_lists c trace f free

    still : (k : ℕ) (st : Node) → IsMember c trace k st → IsMember c (trace ++ f ∷ []) k st
    still k st m = record {
      node_is = m.node_is;
      sound = m.sound;
      viewed = m.viewed;
      hand = m.hand;
      has = record {
        of_trace = record {
          lists_are = m.has.of_trace.lists_are ∙ sym same;
          version_is = m.has.of_trace.version_is ∙ sym (free_leaves_version trace f free);
          live_are = λ e. m.has.of_trace.live_are e ∙ sym (ap (is_among st.who) (free_leaves_live e trace f free));
        };
        holds = m.has.holds;
      };
    }

pub cluster_hears : ClusterHears
cluster_hears c trace nodes [] free is = subst (λ t. IsCluster c t nodes) (sym (append-nil trace)) is
cluster_hears c trace nodes (f ∷ fs) free is =
    let m : (is_free f ≡ true) × (list_all is_free fs ≡ true) = and_both (is_free f) (list_all is_free fs) free in
    subst (λ t. IsCluster c t nodes) (append_assoc trace (f ∷ []) fs) (cluster_hears c (trace ++ f ∷ []) nodes fs m.1 (one_heard c trace f nodes m.0 is))

-- A node more.

pub cluster_gains : GuardedIsOwn → NodeBegins → ClusterGains
cluster_gains owns begins c trace nodes k who node at_k less free fresh admitted is = record {
  guarded_are = is.guarded_are;
  members = λ j y e. by_place (IsMember c trace j y) j k
      (λ same. subst (λ n. IsMember c trace n y) (sym same) (subst (IsMember c trace k) (some_is (new_node (setting c) (version_in trace) who) y (sym (placed_at nodes k (Some (new_node (setting c) (version_in trace) who)) less) ∙ (ap (at (slice_set nodes k (Some (new_node (setting c) (version_in trace) who)))) (sym same) ∙ e))) member))
      (λ other. is.members j y (sym (placed_beside nodes k j (Some (new_node (setting c) (version_in trace) who)) other) ∙ e));
  held = λ s x slot e. held_with nodes k (Some (new_node (setting c) (version_in trace) who)) s x free (is.held s x slot e);
}
  where
    lists : SlotLists
    lists = lists_of (setting c) trace

    owned : Owns c lists
    owned = owns c trace is.guarded_are

    new : IsNew c (version_in trace) who
    new = begins c (version_in trace) who node admitted

    member : IsMember c trace k (new_node (setting c) (version_in trace) who)
    member = record {
      node_is = at_k;
      sound = new.stands;
      viewed = new.viewed;
      hand = record { lists = lists; live = []; version = version_in trace };
      has = record { of_trace = record { lists_are = refl; version_is = refl; live_are = λ e. sym (fresh e) }; holds = new.in_hand (record { lists = lists; live = []; version = version_in trace }) owned.shards owned.queues refl refl };
    }

-- None yet.

pub cluster_begins : ClusterBegins
cluster_begins c trace nodes g free none = record { guarded_are = g; members = λ k st e. absurd (none k st e); held = λ s x slot e. absurd (none_is_not_some x (sym (free s slot) ∙ e)) }

pub cluster_is_safe : GuardedIsSafeNow → GuardedIsSafe → ClusterIsSafe
cluster_is_safe now safes c trace fs nodes g within is = safes c trace fs (now c trace g) (guarded_rest c trace fs within is.guarded_are)

-- Another version, while no node is up.

pub cluster_upgrades : GuardedIsSafeNow → ClusterUpgrades
cluster_upgrades now c trace nodes v none is = record {
  guarded_are = guarded_opens c trace v (upgraded_safe c trace v (now c trace is.guarded_are));
  members = λ k st e. absurd (none k st e);
  held = subst (λ l. AreHeld c l nodes) (sym (lists_more c trace (fact.Upgrade v ∷ []))) is.held;
}
