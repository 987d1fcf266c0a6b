-- What a coordinator's lawful list says: its registered regions and its homes are the script's nodes.
use Rattle.yard_model.specs.Opening.{begins}
use Rattle.std.proofs.Common.{◌≡◌, ℕ, ap, ◌∙◌, refl}
use Rattle.std.specs.Prelude.{Bool, true, false, ◌==◌, ◌&&◌, not, nat_lt, List, [], ◌∷◌, ◌++◌, length, Option, Some, None, is_none, if◌then◌else◌, ◌||◌}
use Rattle.std.specs.List.{list_all}
use Rattle.std.proofs.lemmas.List.Sums.{fold-append}
use Rattle.yard_model.specs.declared.fact.Fact.{Fact}
use Rattle.yard_model.specs.declared.fact.Fact.TheVariants as fact
use Rattle.yard_model.specs.declared.incarnation.Incarnation.{Incarnation}
use Rattle.yard_model.specs.declared.incarnation.Slot.TheVariants as slot
use Rattle.yard_model.specs.Script.{Script, with_shards}
use Rattle.yard_model.specs.Genuine.{is_node, is_shard}
use Rattle.yard_model.specs.Lawful.{own, is_leased, is_entry, is_coordinator_entry, may_follow}
use Rattle.yard_model.specs.SlotReads.{regions, regions_step, allocation, allocation_step}
use Rattle.yard_model.specs.Words.{is_at, is_among, is_same}
use Rattle.plain_laws.proofs.Booleans.{and_both, both, all_filter}
use Rattle.plain_laws.proofs.Members.{of_among}
use Rattle.plain_laws.proofs.Lists.{all_join}
use Rattle.plain_laws.proofs.Read.{regions_more}
use Rattle.yard_laws.proofs.Owned.{coordinator_to}

pub allocation_more : (s : ℕ) (list : List Fact) (f : Fact) → allocation s (list ++ f ∷ []) ≡ allocation_step s (allocation s list) f
allocation_more s list f = fold-append (allocation_step s) None list (f ∷ [])

pub entry_of : (c : Script) (list : List Fact) (f : Fact) → may_follow c slot.Coordinator list f ≡ true → is_coordinator_entry c list f ≡ true
entry_of c list f may = (and_both (is_leased list f) (is_entry c slot.Coordinator list f) may).1

-- a shard that is allocated: it is the script's, its region is registered, and it has no home
pub allocated_of : (c : Script) (list : List Fact) (s : ℕ) (r : Incarnation) → may_follow c slot.Coordinator list (fact.Allocated s r) ≡ true → (is_among r (regions list) ≡ true) × (is_none (allocation s list) ≡ true)
allocated_of c list s r may =
    let m : ((is_shard c s && is_among r (regions list)) ≡ true) × (is_none (allocation s list) ≡ true) = and_both (is_shard c s && is_among r (regions list)) (is_none (allocation s list)) (entry_of c list (fact.Allocated s r) may) in
    ((and_both (is_shard c s) (is_among r (regions list)) m.0).1, m.1)

-- Regions.

nodes_step : (c : Script) (n : ℕ) (list : List Fact) (f : Fact) → list_all (is_node c) (regions list) ≡ true → (begins f || is_coordinator_entry (with_shards n c) list f) ≡ true → list_all (is_node c) (regions_step (regions list) f) ≡ true
nodes_step c n list (fact.Registered r) e may =
    let entry : (is_node c r && not (is_among r (regions list)) && nat_lt (length (regions list)) 16) ≡ true = may in
    let node : is_node c r ≡ true = (and_both (is_node c r) (not (is_among r (regions list))) (and_both (is_node c r && not (is_among r (regions list))) (nat_lt (length (regions list)) 16) entry).0).0 in
    all_join (is_node c) (regions list) (r ∷ []) e (both (is_node c r) true node refl)
nodes_step c n list (fact.Terminated r) e may = all_filter (is_node c) (λ y. not (is_same r y)) (regions list) e
nodes_step c n list f e may = e

pub regions_are_nodes : (c : Script) (list : List Fact) → own c slot.Coordinator list ≡ true → list_all (is_node c) (regions list) ≡ true
regions_are_nodes c list o =
    coordinator_to c (λ l. list_all (is_node c) (regions l) ≡ true) refl (λ n l f e may. ap (list_all (is_node c)) (regions_more l f) ∙ nodes_step c n l f e may) list o

pub region_is_node : (c : Script) (list : List Fact) (r : Incarnation) → own c slot.Coordinator list ≡ true → is_among r (regions list) ≡ true → is_node c r ≡ true
region_is_node c list r o among = of_among (is_node c) (regions list) r (regions_are_nodes c list o) among

-- Homes.

-- it is none, or a node of the script
abbrev pub is_node_if : Script → Option Incarnation → Bool
is_node_if c None = true
is_node_if c (Some x) = is_node c x

either_node : (c : Script) (b : Bool) (x y : Option Incarnation) → is_node_if c x ≡ true → is_node_if c y ≡ true → is_node_if c (if b then x else y) ≡ true
either_node c true x y e f = e
either_node c false x y e f = f

home_step : (c : Script) (n s : ℕ) (list : List Fact) (f : Fact) → list_all (is_node c) (regions list) ≡ true → is_node_if c (allocation s list) ≡ true → (begins f || is_coordinator_entry (with_shards n c) list f) ≡ true → is_node_if c (allocation_step s (allocation s list) f) ≡ true
home_step c n s list (fact.Allocated t r) nodes e may =
    let m : ((is_shard (with_shards n c) t && is_among r (regions list)) ≡ true) × (is_none (allocation t list) ≡ true) = and_both (is_shard (with_shards n c) t && is_among r (regions list)) (is_none (allocation t list)) may in
    either_node c (t == s) (Some r) (allocation s list) (of_among (is_node c) (regions list) r nodes (and_both (is_shard (with_shards n c) t) (is_among r (regions list)) m.0).1) e
home_step c n s list (fact.Deallocated t) nodes e may = either_node c (t == s) None (allocation s list) refl e
home_step c n s list (fact.Terminated r) nodes e may = either_node c (is_at r (allocation s list)) None (allocation s list) refl e
home_step c n s list (fact.Reshard m k) nodes e may = refl
home_step c n s list f nodes e may = e

pub homes_are_nodes : (c : Script) (s : ℕ) (list : List Fact) → own c slot.Coordinator list ≡ true → is_node_if c (allocation s list) ≡ true
homes_are_nodes c s list o =
    (coordinator_to c (λ l. (list_all (is_node c) (regions l) ≡ true) × (is_node_if c (allocation s l) ≡ true))
    (refl, refl) (λ n l f e may. (ap (list_all (is_node c)) (regions_more l f) ∙ nodes_step c n l f e.0 may, ap (is_node_if c) (allocation_more s l f) ∙ home_step c n s l f e.0 e.1 may)) list o).1
