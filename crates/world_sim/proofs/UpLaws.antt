-- Nodes that come up and go down: what the code keeps stands for the world after.
use Rattle.std.proofs.Common.{◌≡◌, ℕ, zero, suc, ◌+◌, ◌-◌, ◌<◌, ◌≤◌, Bool, true, false, List, [], ◌∷◌, ◌++◌, length, refl, ap, sym, ◌∙◌, subst, arith, length-append}
use Rattle.std.specs.Prelude.{nat_le, Some, None, IfSome, slice_set, slice_index_or}
use Rattle.std.specs.List.{list_all}
use Rattle.std.proofs.lemmas.List.{map-set, length-map, get_or-set_other}
use Rattle.std.proofs.lemmas.List.Folds.{list_all-append}
use Rattle.yard_model.specs.declared.fact.Fact.{Fact}
use Rattle.yard_model.specs.declared.fact.Fact.TheVariants as fact
use Rattle.yard_model.specs.declared.incarnation.Incarnation.{Incarnation}
use Rattle.yard_model.specs.Behaviour.{is_in}
use Rattle.yard_model.specs.Genuine.{is_node}
use Rattle.yard_model.specs.Members.{has_node, are_of_different_nodes}
use Rattle.yard_model.specs.Node.{new_node}
use Rattle.yard_model.specs.Script.{setting, is_version}
use Rattle.yard_model.specs.Words.{at, is_among}
use Rattle.yard_model.specs.World.{World, node_at}
use Rattle.node_core.specs.Standing.{Standing}
use Rattle.node_laws.specs.Members.{IsThere}
use Rattle.plain_laws.proofs.Members.{all_among, different_last, node_of_some}
use Rattle.plain_laws.proofs.Lists.{none_is_not_some, placed_at, placed_beside, by_place}
use Rattle.actor_laws.proofs.Room.{few_members, few_nodes}
use Rattle.plain_laws.proofs.Booleans.{and_both, both, at_most}
use Rattle.world_sim.proofs.PlaceLaws.{state_at}
use Rattle.node_laws.specs.Cluster.{IsMember}
use Rattle.world_sim.proofs.RestsLaws.{member}
use Rattle.world_sim.specs.Stepped.{Counts, IsWhole}
use Rattle.world_sim.specs.Steps.{entered}
use Rattle.world_sim.specs.Yard.{Yard, IsSeen, IsFirm, IsSound, Goes, state_in}

-- Places.

-- the world's node at a place is the state of the one that is kept there
pub node_kept : (y : Yard) (w : World) (k : ℕ) → IsSeen y w → at w.nodes k ≡ state_in (at y.nodes k)
node_kept y w k s = ap (λ ns. at ns k) (sym s.nodes_are) ∙ state_at y.nodes k

-- whose trace goes on stands
pub firm_of : (y : Yard) (w : World) → IsSound y w → IsFirm y w
firm_of y w s = record { seen_is = s.seen_is; stands_is = s.stands_is }

pub nodes_count : (y : Yard) (w : World) → IsFirm y w → length y.nodes ≡ y.script.config.nodes
nodes_count y w s = sym (length-map y.nodes state_in) ∙ (ap length s.seen_is.nodes_are ∙ s.stands_is.sound.nodes_there)

pub ups_count : (y : Yard) (w : World) → IsSound y w → length y.ups ≡ y.script.config.nodes
ups_count y w s = ap length s.seen_is.ups_are ∙ s.stands_is.sound.ups_there

pub node_within : (n nodes : ℕ) → is_in 1 nodes n ≡ true → (1 ≤ n) × (n ≤ nodes)
node_within n nodes e = let p : (nat_le 1 n ≡ true) × (nat_le n nodes ≡ true) = and_both (nat_le 1 n) (nat_le n nodes) e in (at_most 1 n p.0, at_most n nodes p.1)

pub firm_inside : (y : Yard) (w : World) (n : ℕ) → IsFirm y w → is_in 1 y.script.config.nodes n ≡ true → n ≤ length y.nodes
firm_inside y w n s h =
    let l : length y.nodes ≡ y.script.config.nodes = nodes_count y w s in
    let most : n ≤ y.script.config.nodes = (node_within n y.script.config.nodes h).1 in
    omega (arith, l, most)

-- Coming up.

-- the script admits the version in force
pub admitted : (y : Yard) (w : World) → IsSound y w → is_version y.script y.force.version ≡ true
admitted y w s = ap (is_version y.script) s.seen_is.behaviour_is ∙ s.stands_is.sound.admitted

-- no member is of a node that isn't up
pub none_of_down : (y : Yard) (w : World) (n : ℕ) → IsSound y w → at y.nodes (n - 1) ≡ None → has_node n y.members ≡ false
none_of_down y w n s down = by (has_node n y.members) refl
  where
    none_up : (x : Incarnation) → is_among x y.members ≡ true → x.node ≡ n → ⊥
    none_up x m e =
        let there : IsThere w x = s.stands_is.sound.members_are x (ap (is_among x) (sym s.seen_is.members_are) ∙ m) in
        none_is_not_some there.node (sym (node_kept y w (n - 1) s.seen_is ∙ ap state_in down) ∙ (ap (λ j. node_at w j) (sym e) ∙ there.is_up))

    by : (b : Bool) → has_node n y.members ≡ b → b ≡ false
    by false e = refl
    by true e = absurd (node_of_some n y.members e none_up)

-- the members are of the script's nodes
pub members_nodes : (y : Yard) (w : World) → IsSound y w → list_all (is_node y.script) y.members ≡ true
members_nodes y w s = all_among (is_node y.script) y.members (λ x m.
    let there : IsThere w x = s.stands_is.sound.members_are x (ap (is_among x) (sym s.seen_is.members_are) ∙ m) in
    let me : IsMember y.script s.stands_is.trace (x.node - 1) there.node = member y.script w (x.node - 1) there.node s.stands_is there.is_up in
    ap (is_node y.script) (sym there.who_is) ∙ me.sound.who_is)

-- so there is room for one
pub room_for : (y : Yard) (w : World) (x : Incarnation) → IsSound y w → is_in 1 y.script.config.nodes x.node ≡ true → has_node x.node y.members ≡ false → length y.members < 16
room_for y w x s node other =
    let all : length (y.members ++ x ∷ []) ≤ y.script.config.nodes = few_members y.script (y.members ++ x ∷ [])
    (list_all-append (is_node y.script) y.members (x ∷ []) ∙ both (list_all (is_node y.script) y.members) (list_all (is_node y.script) (x ∷ [])) (members_nodes y w s) (both (is_node y.script x) true node refl))
    (different_last y.members x (ap are_of_different_nodes s.seen_is.members_are ∙ s.stands_is.sound.members_different) other) in
    let most : y.script.config.nodes ≤ 16 = few_nodes y.script s.stands_is.sound.script_is in
    let long : length (y.members ++ x ∷ []) ≡ length y.members + 1 = length-append y.members (x ∷ []) in
    omega (arith, all, most, long)

abbrev came : List ℕ → ℕ → Incarnation
came ups n = record { node = n; number = slice_index_or ups (n - 1) 0 + 1 }

-- what is kept once a node came up
abbrev pub with_node : Yard → ℕ → Standing → Yard
with_node y n node = record y {
  nodes = slice_set y.nodes (n - 1) (Some node);
  members = y.members ++ came y.ups n ∷ [];
  version = y.version + 1;
  ups = slice_set y.ups (n - 1) (slice_index_or y.ups (n - 1) 0 + 1);
}

pub entered_goes : (y : Yard) (w : World) (n : ℕ) (node : Standing) (before after : List Fact) → IsSound y w → is_in 1 y.script.config.nodes n ≡ true → node.script ≡ y.script → node.state ≡ new_node (setting y.script) y.force.version (came y.ups n)
    → after ≡ before ++ fact.Up (came y.ups n) ∷ [] → Goes before after (with_node y n node) (entered n w)
entered_goes y w n node before after s within script state told =
    let u : IsSeen y w = s.seen_is in
    let r : (1 ≤ n) × (n ≤ y.script.config.nodes) = node_within n y.script.config.nodes within in
    let there : n - 1 < length y.nodes = let l : length y.nodes ≡ y.script.config.nodes = nodes_count y w (firm_of y w s) in omega (arith, r.0, r.1, l) in
    let came_is : came y.ups n ≡ came w.ups n = ap (λ us. came us n) u.ups_are in
    record {
      seen_is = record {
        set_is = u.set_is;
        kind_is = u.kind_is;
        behaviour_is = u.behaviour_is;
        past_is = u.past_is;
        limit_is = u.limit_is;
        members_are = ap (λ ms. ms ++ came y.ups n ∷ []) u.members_are ∙ ap (λ x. w.members ++ x ∷ []) came_is;
        version_is = ap (λ v. v + 1) u.version_is;
        ups_are = ap (λ us. slice_set us (n - 1) (slice_index_or us (n - 1) 0 + 1)) u.ups_are;
        ordered_are = u.ordered_are;
        ordered_there = u.ordered_there;
        wire_is = u.wire_is;
        fresh_is = u.fresh_is;
        full_is = u.full_is;
        told_all = u.told_all;
        nodes_are = map-set state_in y.nodes (n - 1) (Some node)
            ∙ (ap (λ ns. slice_set ns (n - 1) (Some node.state)) u.nodes_are
            ∙ ap (λ st. slice_set w.nodes (n - 1) (Some st)) (state ∙ (ap (new_node (setting y.script) y.force.version) came_is ∙ (ap (λ set. new_node set y.force.version (came w.ups n)) (sym u.set_is) ∙ ap (λ v. new_node w.set v (came w.ups n)) u.behaviour_is))));
        scripts_are = λ k. by_place (IfSome (at (slice_set y.nodes (n - 1) (Some node)) k) (λ (v : Standing). v.script ≡ y.script)) k (n - 1)
            (λ e. subst (λ j. IfSome (at (slice_set y.nodes (n - 1) (Some node)) j) (λ (v : Standing). v.script ≡ y.script)) (sym e)
            (subst (λ o. IfSome o (λ (v : Standing). v.script ≡ y.script)) (sym (placed_at y.nodes (n - 1) (Some node) there)) script))
            (λ other. subst (λ o. IfSome o (λ (v : Standing). v.script ≡ y.script)) (sym (placed_beside y.nodes (n - 1) k (Some node) other)) (u.scripts_are k));
        book_is = u.book_is;
        tells_is = u.tells_is;
      };
      facts_are = told ∙ ap (λ x. before ++ fact.Up x ∷ []) came_is;
    }

-- one number is one more
set_itself : (us : List ℕ) (i : ℕ) → slice_index_or (slice_set us i (slice_index_or us i 0 + 1)) i 0 ≤ slice_index_or us i 0 + 1
set_itself [] i = omega arith
set_itself (v ∷ vs) zero = omega arith
set_itself (v ∷ vs) (suc j) = set_itself vs j

set_beside : (us : List ℕ) (i k : ℕ) → (k ≡ i → ⊥) → slice_index_or (slice_set us i (slice_index_or us i 0 + 1)) k 0 ≤ slice_index_or us k 0 + 1
set_beside us i k h = let e : slice_index_or (slice_set us i (slice_index_or us i 0 + 1)) k 0 ≡ slice_index_or us k 0 = get_or-set_other us i k (slice_index_or us i 0 + 1) 0 h in omega (arith, e)

pub one_more : (us : List ℕ) (i k : ℕ) → slice_index_or (slice_set us i (slice_index_or us i 0 + 1)) k 0 ≤ slice_index_or us k 0 + 1
one_more us i k = by_place (slice_index_or (slice_set us i (slice_index_or us i 0 + 1)) k 0 ≤ slice_index_or us k 0 + 1) k i
    (λ e. subst (λ j. slice_index_or (slice_set us i (slice_index_or us i 0 + 1)) j 0 ≤ slice_index_or us j 0 + 1) (sym e) (set_itself us i))
    (set_beside us i k)

-- once a node came up
pub counts_came : (y : Yard) (n : ℕ) (node : Standing) → Counts 1 y (with_node y n node)
counts_came y n node = record { version_is = omega arith; ups_are = one_more y.ups (n - 1) }

-- What is kept once a node came up.

pub entered_whole : (y z : Yard) (n : ℕ) (node : Standing) (before after : List Fact) → z ≡ with_node y n node → is_in 1 y.script.config.nodes n ≡ true → node.script ≡ y.script → node.state ≡ new_node (setting y.script) y.force.version (came y.ups n)
    → after ≡ before ++ fact.Up (came y.ups n) ∷ [] → IsWhole IsSound 1 (entered n) y z before after
entered_whole y z n node before after same within script state told = record {
  script_is = ap (λ (v : Yard). v.script) same;
  counts = subst (Counts 1 y) (sym same) (counts_came y n node);
  goes = λ w s. subst (λ v. Goes before after v (entered n w)) (sym same) (entered_goes y w n node before after s within script state told);
}

pub yard_is : (a b : Yard) → a.script ≡ b.script → a.force ≡ b.force → a.book ≡ b.book → a.nodes ≡ b.nodes → a.members ≡ b.members → a.version ≡ b.version → a.ups ≡ b.ups → a.ordered ≡ b.ordered → a.mail ≡ b.mail → a ≡ b
yard_is a b e d f g h k l o m i = record { script = e i; force = d i; book = f i; nodes = g i; members = h i; version = k i; ups = l i; ordered = o i; mail = m i }

-- of an incarnation whose number was counted
pub came_is : (ups : List ℕ) (n k : ℕ) → k ≡ slice_index_or ups (n - 1) 0 + 1 → record { node = n; number = k } ≡ came ups n
came_is ups n k e = ap (λ j. record { node = n; number = j }) e
