-- A node that goes down, and a node that takes an input: what the code keeps stands for the world after.
use Rattle.std.proofs.Common.{◌≡◌, ℕ, ◌+◌, ◌-◌, ◌<◌, ◌≤◌, Bool, true, false, ◌&&◌, List, [], ◌∷◌, ◌++◌, length, fold, refl, ap, sym, ◌∙◌, subst, arith, append_assoc}
use Rattle.std.specs.Prelude.{map, nat_lt, Option, Some, None, IfSome, is_none, slice_set, if◌then◌else◌}
use Rattle.std.specs.List.{list_all, flat_map}
use Rattle.std.proofs.lemmas.List.{map-set, append-nil}
use Rattle.std.proofs.lemmas.List.Folds.{list_all-append}
use Rattle.yard_model.specs.declared.fact.Fact.{Fact}
use Rattle.yard_model.specs.declared.fact.Fact.TheVariants as fact
use Rattle.yard_model.specs.declared.incarnation.Incarnation.{Incarnation}
use Rattle.yard_model.specs.declared.incarnation.Slot.TheVariants as slot
use Rattle.yard_model.specs.declared.input.Input.{Input}
use Rattle.yard_model.specs.declared.out.Item.{Item}
use Rattle.yard_model.specs.declared.out.Item.TheVariants as item
use Rattle.yard_model.specs.Node.{Node, Act, after, items_of, turn, crash, freed_stopped}
use Rattle.yard_model.specs.Script.{setting}
use Rattle.yard_model.specs.Setting.{shards, producers}
use Rattle.yard_model.specs.SlotLists.{SlotLists}
use Rattle.yard_model.specs.Trace.{lists_step}
use Rattle.yard_model.specs.Turns.{where_some}
use Rattle.yard_model.specs.Words.{at, without}
use Rattle.yard_model.specs.World.{World, world_after, numbered, count_posts, input_facts, all_sends, wire_limit, go_down, go_down_by, handle, tell, full_step, node_at}
use Rattle.shard_lease.specs.Book.{Book, meaning_of}
use Rattle.node_laws.specs.Cluster.{IsMember}
use Rattle.node_core.specs.Found.{AreThere}
use Rattle.node_core.specs.Gave.{ForLists, lists_after, moment}
use Rattle.actor_laws.specs.Hands.{AreInHand}
use Rattle.actor_laws.specs.Owes.{facts_in}
use Rattle.node_core.specs.Leased.{Rests, Tells}
use Rattle.node_core.specs.Standing.{Standing}
use Rattle.plain_laws.proofs.Lists.{inside, placed_at, placed_beside, by_place}
use Rattle.plain_laws.proofs.Booleans.{true_is_not_false, both}
use Rattle.world_sim.specs.Mail.{Mails, ToldSome, facts_of}
use Rattle.world_sim.specs.Yard.{Yard, IsSeen, IsFirm, Goes, state_in}
use Rattle.world_sim.proofs.FreshLaws.{lt_false}
use Rattle.world_sim.proofs.RestsLaws.{member, rests_of, there_of, in_hand_of}
use Rattle.world_sim.proofs.SeenLaws.{IsAllTold, items_told, led_to, seen_told, facts_told, mailed_from}
use Rattle.world_sim.proofs.TellLaws.{words_after, facts_within, input_within, input_nodes}
use Rattle.world_sim.proofs.OwnLaws.{turn_is_own}
use Rattle.world_sim.proofs.PlaceLaws.{taken_out}
use Rattle.world_sim.proofs.StepLaws.{some_rest}
use Rattle.world_sim.specs.Turns.{HandledAt, Ends}
use Rattle.world_sim.specs.Told.{is_own, is_own_item}
use Rattle.world_sim.proofs.UpLaws.{node_kept}

-- A node that is kept, where it is up.

-- it is the world's
pub kept_is : (n : ℕ) (node : Standing) (y : Yard) (w : World) → IsSeen y w → at y.nodes (n - 1) ≡ Some node → at w.nodes (n - 1) ≡ Some node.state
kept_is n node y w s up = node_kept y w (n - 1) s ∙ ap state_in up

-- it is of that number
pub number_is : (n : ℕ) (node : Standing) (y : Yard) (w : World) → IsFirm y w → 1 ≤ n → at y.nodes (n - 1) ≡ Some node → node.state.who.node ≡ n
number_is n node y w s some up =
    let u : IsMember y.script s.stands_is.trace (n - 1) node.state = member y.script w (n - 1) node.state s.stands_is (kept_is n node y w s.seen_is up) in
    let e : node.state.who.node ≡ (n - 1) + 1 = u.node_is in
    omega (arith, e, some)

-- it is of the script
pub script_of_node : (n : ℕ) (node : Standing) (y : Yard) (w : World) → IsSeen y w → at y.nodes (n - 1) ≡ Some node → node.script ≡ y.script
script_of_node n node y w s up = subst (λ o. IfSome o (λ (v : Standing). v.script ≡ y.script)) up (s.scripts_are (n - 1))

-- it may rest on the leases
pub rests_on : (n : ℕ) (node : Standing) (y : Yard) (w : World) → IsFirm y w → at y.nodes (n - 1) ≡ Some node → Rests (meaning_of y.book) node.script node.state
rests_on n node y w s up =
    subst (λ c. Rests (meaning_of y.book) c node.state) (sym (script_of_node n node y w s.seen_is up))
    (rests_of y.book y.script w (n - 1) node.state s.seen_is.book_is s.stands_is s.seen_is.tells_is (kept_is n node y w s.seen_is up))

-- what holds for all lists that the leases tell holds for the world's
for_world : (n : ℕ) (node : Standing) (y : Yard) (w : World) (items : List Item) (P : SlotLists → Type 0) → IsFirm y w → at y.nodes (n - 1) ≡ Some node → ForLists node.script (moment (meaning_of y.book) node.state items) P → P w.lists
for_world n node y w items P s up h =
    let script : node.script ≡ y.script = script_of_node n node y w s.seen_is up in
    h w.lists (subst (λ c. AreThere c w.lists) (sym script) (there_of y.script w s.stands_is)) (subst (λ c. Tells (meaning_of y.book) c w.lists) (sym script) s.seen_is.tells_is)
    (subst (λ c. AreInHand c w.lists node.state) (sym script) (in_hand_of y.script w (n - 1) node.state s.stands_is (kept_is n node y w s.seen_is up)))

-- Items that are facts alone.

pub facts_alone : (fs : List Fact) → facts_in (map item.Fact fs) ≡ fs
facts_alone [] = refl
facts_alone (f ∷ fs) = ap (λ gs. f ∷ gs) (facts_alone fs)

numbered_alone : (limit k : ℕ) (fs : List Fact) → numbered limit k (map item.Fact fs) ≡ fs
numbered_alone limit k [] = refl
numbered_alone limit k (f ∷ fs) = ap (λ gs. f ∷ gs) (numbered_alone limit k fs)

counted_alone : (k : ℕ) (fs : List Fact) → fold count_posts k (map item.Fact fs) ≡ k
counted_alone k [] = refl
counted_alone k (f ∷ fs) = counted_alone k fs

pub input_alone : (w : World) (fs : List Fact) → length w.wire ≤ w.limit → input_facts w (map item.Fact fs) ≡ fs
input_alone w fs h =
    ap (λ gs. gs ++ (if nat_lt w.limit (fold count_posts (length w.wire) (map item.Fact fs)) then fact.WireFull ∷ [] else [])) (numbered_alone w.limit (length w.wire) fs)
    ∙ (ap (λ k. fs ++ (if nat_lt w.limit k then fact.WireFull ∷ [] else [])) (counted_alone (length w.wire) fs)
    ∙ (ap (λ b. fs ++ (if b then fact.WireFull ∷ [] else [])) (lt_false w.limit (length w.wire) h) ∙ append-nil fs))

front : (a b : Bool) → (a && b) ≡ true → a ≡ true
front true b e = refl
front false b e = e

back : (a b : Bool) → (a && b) ≡ true → b ≡ true
back true b e = e
back false b e = absurd (true_is_not_false (sym e))

own_alone : (fs : List Fact) → list_all is_own fs ≡ true → list_all is_own_item (map item.Fact fs) ≡ true
own_alone [] e = refl
own_alone (f ∷ fs) e = both (is_own f) (list_all is_own_item (map item.Fact fs)) (front (is_own f) (list_all is_own fs) e) (own_alone fs (back (is_own f) (list_all is_own fs) e))

-- a crash tells of freed slots alone
join_own : (xs ys : List Fact) → list_all is_own xs ≡ true → list_all is_own ys ≡ true → list_all is_own (xs ++ ys) ≡ true
join_own xs ys e f = list_all-append is_own xs ys ∙ both (list_all is_own xs) (list_all is_own ys) e f

some_own : {X : Type 0} (f : X → List Fact) (o : Option X) → ((x : X) → list_all is_own (f x) ≡ true) → list_all is_own (where_some f o) ≡ true
some_own f None h = refl
some_own f (Some x) h = h x

each_own : {X : Type 0} (f : X → List Fact) (xs : List X) → ((x : X) → list_all is_own (f x) ≡ true) → list_all is_own (flat_map f xs) ≡ true
each_own f [] h = refl
each_own f (x ∷ xs) h = join_own (f x) (flat_map f xs) (h x) (each_own f xs h)

pub crash_own : (st : Node) → list_all is_own (crash st) ≡ true
crash_own st =
    let shards_freed : List Fact = flat_map (λ s. where_some (λ h. freed_stopped (slot.Shard s) h.entries) (at st.entities.hosted s)) (shards st.set) in
    let lead_freed : List Fact = where_some (λ k. freed_stopped slot.Coordinator k.entries) st.coordinator in
    let queues_freed : List Fact = flat_map (λ p. where_some (λ k. freed_stopped (slot.Queue p) k.entries) (at st.producers (p - 1))) (producers st.set) in
    join_own (shards_freed ++ lead_freed) queues_freed
    (join_own shards_freed lead_freed
    (each_own (λ s. where_some (λ h. freed_stopped (slot.Shard s) h.entries) (at st.entities.hosted s)) (shards st.set) (λ s. some_own (λ h. freed_stopped (slot.Shard s) h.entries) (at st.entities.hosted s) (λ h. refl)))
    (some_own (λ k. freed_stopped slot.Coordinator k.entries) st.coordinator (λ k. refl)))
    (each_own (λ p. where_some (λ k. freed_stopped (slot.Queue p) k.entries) (at st.producers (p - 1))) (producers st.set) (λ p. some_own (λ k. freed_stopped (slot.Queue p) k.entries) (at st.producers (p - 1)) (λ k. refl)))

-- Going down.

-- after `gone`, before anything is freed
gone_seen : (y : Yard) (w : World) (n : ℕ) (node : Standing) → IsFirm y w → 1 ≤ n → at y.nodes (n - 1) ≡ Some node
    → IsSeen (record y { nodes = slice_set y.nodes (n - 1) None; members = without node.state.who y.members; version = y.version + 1 }) (world_after w (fact.Gone node.state.who))
gone_seen y w n node s some up =
    let u : IsSeen y w = s.seen_is in
    record {
      set_is = u.set_is;
      kind_is = u.kind_is;
      behaviour_is = u.behaviour_is;
      past_is = u.past_is;
      limit_is = u.limit_is;
      members_are = ap (without node.state.who) u.members_are;
      version_is = ap (λ v. v + 1) u.version_is;
      ups_are = u.ups_are;
      ordered_are = u.ordered_are;
      ordered_there = u.ordered_there;
      wire_is = u.wire_is;
      fresh_is = u.fresh_is;
      full_is = u.full_is;
      told_all = u.told_all;
      nodes_are = map-set state_in y.nodes (n - 1) None ∙ (ap (λ ns. slice_set ns (n - 1) None) u.nodes_are ∙ ap (λ j. slice_set w.nodes (j - 1) None) (sym (number_is n node y w s some up)));
      scripts_are = λ k. by_place (IfSome (at (slice_set y.nodes (n - 1) None) k) (λ (v : Standing). v.script ≡ y.script)) k (n - 1)
          (λ e. subst (λ o. IfSome o (λ (v : Standing). v.script ≡ y.script)) (sym (ap (at (slice_set y.nodes (n - 1) None)) e ∙ taken_out y.nodes (n - 1))) tt)
          (λ other. subst (λ o. IfSome o (λ (v : Standing). v.script ≡ y.script)) (sym (placed_beside y.nodes (n - 1) k None other)) (u.scripts_are k));
      book_is = u.book_is;
      tells_is = u.tells_is;
    }

-- what the end of a node leaves
pub record IsEnded (y z : Yard) (n : ℕ) (node : Standing) : Type 0 where
  pub script_is : z.script ≡ y.script
  pub nodes_are : z.nodes ≡ slice_set y.nodes (n - 1) None
  pub members_are : z.members ≡ without node.state.who y.members
  pub version_is : z.version ≡ y.version + 1
  pub ups_are : z.ups ≡ y.ups
  pub force_is : z.force ≡ y.force
  pub ordered_are : z.ordered ≡ y.ordered

-- the items that wait, where none did
items_there : (old mid : Mails) (is more : List Item) → old.items ≡ [] → mid.items ≡ old.items ++ more → more ≡ is → mid.items ≡ is
items_there old mid is more none e f = e ∙ (ap (λ l. l ++ more) none ∙ f)

ended_items : (y : Yard) (w : World) (node : Standing) (book : Book) (mid : Mails) → IsSeen y w → Ends y.book book y.mail mid node → mid.items ≡ map item.Fact (crash node.state)
ended_items y w node book mid s e = items_there y.mail mid (map item.Fact (crash node.state)) (map item.Fact (crash node.state)) s.told_all e.ended.items_are refl

pub ended_goes : (y z : Yard) (w : World) (n : ℕ) (node : Standing) (mid : Mails) (before after_ : List Fact) → IsFirm y w → 1 ≤ n → at y.nodes (n - 1) ≡ Some node → Ends y.book z.book y.mail mid node → IsEnded y z n node
    → length y.mail.packets ≤ wire_limit → IsAllTold mid z.mail (before ++ fact.Gone node.state.who ∷ []) after_ → Goes before after_ z (go_down n w)
ended_goes y z w n node mid before after_ s some up d e limit t =
    let u : IsSeen y w = s.seen_is in
    let st : Node = node.state in
    let fs : List Fact = crash st in
    let is : List Item = map item.Fact fs in
    let gone : List Fact = before ++ fact.Gone st.who ∷ [] in
    let w1 : World = world_after w (fact.Gone st.who) in
    let y1 : Yard = record y { nodes = slice_set y.nodes (n - 1) None; members = without st.who y.members; version = y.version + 1 } in
    let s1 : IsSeen y1 w1 = gone_seen y w n node s some up in
    let items : mid.items ≡ is = ended_items y w node z.book mid u d in
    let own : list_all is_own_item is ≡ true = own_alone fs (crash_own st) in
    let size : length w.wire ≤ w.limit = subst (λ k. length w.wire ≤ k) (sym u.limit_is) (subst (λ p. length p ≤ wire_limit) u.wire_is limit) in
    let facts : input_facts w1 is ≡ fs = input_alone w1 fs size in
    let script : node.script ≡ y.script = script_of_node n node y w u up in
    let tells : Tells (meaning_of z.book) y.script (fold (lists_step (setting y.script)) w.lists fs) = subst (λ c. Tells (meaning_of z.book) c (fold (lists_step (setting c)) w.lists fs)) script
    (for_world n node y w y.mail.items (λ lists. Tells (meaning_of z.book) node.script (fold (lists_step (setting node.script)) lists fs)) s up d.ended.tells) in
    let led : IsSeen z (led_to w1 is (map state_in z.nodes)) = seen_told y1 z w1 is (map state_in z.nodes) s1 own
    (record { script_is = e.script_is; members_are = e.members_are; version_is = e.version_is; ups_are = e.ups_are; force_is = e.force_is; ordered_are = e.ordered_are })
    (mailed_from y.mail mid z.mail is d.beside.packets_are d.beside.fresh_are d.beside.full_is items t.mail_is)
    (record {
      nodes_are = refl;
      scripts_are = λ k. subst (λ ns. IfSome (at ns k) (λ (v : Standing). v.script ≡ z.script)) (sym e.nodes_are) (subst (λ c. IfSome (at (slice_set y.nodes (n - 1) None) k) (λ (v : Standing). v.script ≡ c)) (sym e.script_is) (s1.scripts_are k));
      book_is = d.ended.stays.script_is ∙ (u.book_is ∙ sym e.script_is);
      tells_is = subst (λ c. Tells (meaning_of z.book) c (fold (lists_step (setting c)) w.lists (facts_in is))) (sym e.script_is)
          (subst (λ gs. Tells (meaning_of z.book) y.script (fold (lists_step (setting y.script)) w.lists gs)) (sym (facts_alone fs)) tells);
    }) in
    let nodes : map state_in z.nodes ≡ (fold world_after w1 (input_facts w1 is)).nodes =
    ap (map state_in) e.nodes_are ∙ (s1.nodes_are ∙ (sym (input_nodes w1.set w1.behaviour w1 is w1.nodes own) ∙ sym (ap (λ (v : World). v.nodes) (words_after w1 (input_facts w1 is) (input_within w1 is own))))) in
    let world : led_to w1 is (map state_in z.nodes) ≡ fold world_after w1 fs = ap (led_to w1 is) nodes ∙ ap (fold world_after w1) facts in
    let goes : Goes before after_ z (tell (fact.Gone st.who ∷ fs) w) = record {
      seen_is = subst (IsSeen z) world led;
      facts_are = facts_told y1 w1 is gone after_ s1 (t.facts_are ∙ (ap (λ p. gone ++ facts_of wire_limit (length p) mid.items) d.beside.packets_are ∙ ap (λ i. gone ++ facts_of wire_limit (length y.mail.packets) i) items))
          ∙ (ap (λ gs. gone ++ gs) facts ∙ append_assoc before (fact.Gone st.who ∷ []) fs);
    } in
    subst (λ o. Goes before after_ z (go_down_by o w)) (sym (kept_is n node y w u up)) goes

-- where memory runs out
pub cut_ended : (y : Yard) (w : World) (n : ℕ) (node : Standing) (book : Book) (mid : Mails) (before after : List Fact) → IsFirm y w → at y.nodes (n - 1) ≡ Some node → Ends y.book book y.mail mid node → length y.mail.packets ≤ wire_limit
    → ToldSome (before ++ fact.Gone node.state.who ∷ []) after (facts_of wire_limit (length mid.packets) mid.items) → ToldSome before after (go_down n w).facts
cut_ended y w n node book mid before after s up d limit t =
    let u : IsSeen y w = s.seen_is in
    let fs : List Fact = crash node.state in
    let gone : List Fact = fact.Gone node.state.who ∷ [] in
    let size : length w.wire ≤ w.limit = subst (λ k. length w.wire ≤ k) (sym u.limit_is) (subst (λ p. length p ≤ wire_limit) u.wire_is limit) in
    let facts : facts_of wire_limit (length mid.packets) mid.items ≡ fs = items_told y w mid (map item.Fact fs) u d.beside.packets_are (ended_items y w node book mid u d) ∙ input_alone w fs size in
    subst (λ o. ToldSome before after (go_down_by o w).facts) (sym (kept_is n node y w u up))
    (some_rest before (before ++ gone) after gone fs refl (subst (ToldSome (before ++ gone) after) facts t))

-- Taking an input.

who_stays : (st : Node) (acts : List Act) → (fold after st acts).who ≡ st.who
who_stays st [] = refl
who_stays st (a ∷ acts) = who_stays (after st a) acts

-- what a turn leaves beside the node, the book and the mail
pub record IsTurned (y z : Yard) : Type 0 where
  pub script_is : z.script ≡ y.script
  pub members_are : z.members ≡ y.members
  pub version_is : z.version ≡ y.version
  pub ups_are : z.ups ≡ y.ups
  pub force_is : z.force ≡ y.force
  pub ordered_are : z.ordered ≡ y.ordered

-- the acts that it told are the definition's
told_is : (y : Yard) (w : World) (i : Input) (n : ℕ) (node : Standing) (book : Book) (mid : Mails) (nodes : List (Option Standing)) → IsFirm y w → at y.nodes (n - 1) ≡ Some node → (h : HandledAt i n y.book book y.mail mid y.nodes nodes node)
    → h.handled.turned.told ≡ turn w.sends w.lists i node.state
told_is y w i n node book mid nodes s up h =
    sym (for_world n node y w y.mail.items (λ lists. turn (all_sends node.script) lists i node.state ≡ h.handled.turned.told) s up h.handled.turned.acts_are)
    ∙ ap (λ x. turn x w.lists i node.state) (ap all_sends (script_of_node n node y w s.seen_is up) ∙ sym s.stands_is.sound.sends_are)

turned_items : (y : Yard) (w : World) (i : Input) (n : ℕ) (node : Standing) (book : Book) (mid : Mails) (nodes : List (Option Standing)) → IsFirm y w → at y.nodes (n - 1) ≡ Some node → HandledAt i n y.book book y.mail mid y.nodes nodes node
    → mid.items ≡ items_of (turn w.sends w.lists i node.state)
turned_items y w i n node book mid nodes s up h =
    items_there y.mail mid (items_of (turn w.sends w.lists i node.state)) (items_of h.handled.turned.told) s.seen_is.told_all h.handled.turned.items_are (ap items_of (told_is y w i n node book mid nodes s up h))

pub turned_goes : (y z : Yard) (w : World) (i : Input) (n : ℕ) (node : Standing) (mid : Mails) (before after_ : List Fact) → IsFirm y w → 1 ≤ n → at y.nodes (n - 1) ≡ Some node → HandledAt i n y.book z.book y.mail mid y.nodes z.nodes node
    → IsTurned y z → IsAllTold mid z.mail before after_ → Goes before after_ z (handle i node.state w)
turned_goes y z w i n node mid before after_ s some up h e t =
    let u : IsSeen y w = s.seen_is in
    let there : n - 1 < length y.nodes = inside y.nodes (n - 1) node up in
    let later : Standing = h.new in
    let st : Node = node.state in
    let acts : List Act = turn w.sends w.lists i st in
    let to : Node = fold after st acts in
    let is : List Item = items_of acts in
    let told : h.handled.turned.told ≡ acts = told_is y w i n node z.book mid z.nodes s up h in
    let items : mid.items ≡ is = turned_items y w i n node z.book mid z.nodes s up h in
    let script : node.script ≡ y.script = script_of_node n node y w u up in
    let later_is : later.state ≡ to = h.handled.turned.node_is ∙ ap (fold after st) told in
    let tells : Tells (meaning_of z.book) y.script (lists_after y.script w.lists acts) = subst (λ told. Tells (meaning_of z.book) y.script (lists_after y.script w.lists told)) told
    (subst (λ c. Tells (meaning_of z.book) c (lists_after c w.lists h.handled.turned.told)) script
    (for_world n node y w y.mail.items (λ lists. Tells (meaning_of z.book) node.script (lists_after node.script lists h.handled.turned.told)) s up h.handled.turned.tells)) in
    let own : list_all is_own_item is ≡ true = turn_is_own w.sends w.lists i st in
    let v : World = fold world_after w (input_facts w is) in
    let same : v.nodes ≡ w.nodes = ap (λ (x : World). x.nodes) (words_after w (input_facts w is) (input_within w is own)) ∙ input_nodes w.set w.behaviour w is w.nodes own in
    let place : to.who.node ≡ n = ap (λ (x : Incarnation). x.node) (who_stays st acts) ∙ number_is n node y w s some up in
    let nodes : map state_in z.nodes ≡ slice_set v.nodes (to.who.node - 1) (Some to) =
    ap (map state_in) h.nodes_are
    ∙ (map-set state_in y.nodes (n - 1) (Some later)
    ∙ (ap (λ ns. slice_set ns (n - 1) (Some later.state)) (u.nodes_are ∙ sym same)
    ∙ (ap (λ x. slice_set v.nodes (n - 1) (Some x)) later_is ∙ ap (λ j. slice_set v.nodes (j - 1) (Some to)) (sym place)))) in
    record {
      seen_is = seen_told y z w is (slice_set v.nodes (to.who.node - 1) (Some to)) u own
          (record { script_is = e.script_is; members_are = e.members_are; version_is = e.version_is; ups_are = e.ups_are; force_is = e.force_is; ordered_are = e.ordered_are })
          (mailed_from y.mail mid z.mail is h.handled.beside.packets_are h.handled.beside.fresh_are h.handled.beside.full_is items t.mail_is)
          (record {
            nodes_are = nodes;
            scripts_are = λ k. subst (λ ns. IfSome (at ns k) (λ (v : Standing). v.script ≡ z.script)) (sym h.nodes_are) (subst (λ c. IfSome (at (slice_set y.nodes (n - 1) (Some later)) k) (λ (v : Standing). v.script ≡ c)) (sym e.script_is)
                (by_place (IfSome (at (slice_set y.nodes (n - 1) (Some later)) k) (λ (v : Standing). v.script ≡ y.script)) k (n - 1)
                (λ f. subst (λ j. IfSome (at (slice_set y.nodes (n - 1) (Some later)) j) (λ (v : Standing). v.script ≡ y.script)) (sym f)
                (subst (λ o. IfSome o (λ (v : Standing). v.script ≡ y.script)) (sym (placed_at y.nodes (n - 1) (Some later) there)) (h.handled.script_is ∙ script)))
                (λ other. subst (λ o. IfSome o (λ (v : Standing). v.script ≡ y.script)) (sym (placed_beside y.nodes (n - 1) k (Some later) other)) (u.scripts_are k))));
            book_is = h.handled.turned.stays.script_is ∙ (u.book_is ∙ sym e.script_is);
            tells_is = subst (λ c. Tells (meaning_of z.book) c (fold (lists_step (setting c)) w.lists (facts_in is))) (sym e.script_is) tells;
          });
      facts_are = facts_told y w is before after_ u (t.facts_are ∙ (ap (λ p. before ++ facts_of wire_limit (length p) mid.items) h.handled.beside.packets_are ∙ ap (λ l. before ++ facts_of wire_limit (length y.mail.packets) l) items));
    }

-- where memory runs out
pub cut_turned : (y : Yard) (w : World) (i : Input) (n : ℕ) (node : Standing) (book : Book) (mid : Mails) (nodes : List (Option Standing)) (before after : List Fact) → IsFirm y w → at y.nodes (n - 1) ≡ Some node → HandledAt i n y.book book y.mail mid y.nodes nodes node
    → ToldSome before after (facts_of wire_limit (length mid.packets) mid.items) → ToldSome before after (handle i node.state w).facts
cut_turned y w i n node book mid nodes before after s up h t =
    subst (ToldSome before after) (items_told y w mid (items_of (turn w.sends w.lists i node.state)) s.seen_is h.handled.beside.packets_are (turned_items y w i n node book mid nodes s up h)) t

-- A crash.

own_full : (fs : List Fact) (b : Bool) → list_all is_own fs ≡ true → fold full_step b fs ≡ b
own_full [] b e = refl
own_full (f ∷ fs) b e = ap (λ a. fold full_step a fs) (step f (front (is_own f) (list_all is_own fs) e)) ∙ own_full fs b (back (is_own f) (list_all is_own fs) e)
  where
    step : (f : Fact) → is_own f ≡ true → full_step b f ≡ b
    step fact.WireFull g = absurd (true_is_not_false (sym g))
    step f g = refl

down_full : (w : World) (o : Option Node) → (go_down_by o w).world.full ≡ w.full
down_full w None = refl
down_full w (Some st) = ap (λ (v : World). v.full) (words_after (world_after w (fact.Gone st.who)) (crash st) (facts_within (crash st) (crash_own st))) ∙ own_full (crash st) w.full (crash_own st)

-- a node that goes down doesn't fill the wire
pub go_down_full : (w : World) (n : ℕ) → (go_down n w).world.full ≡ w.full
go_down_full w n = down_full w (node_at w n)

none_state : (o : Option Standing) → is_none (state_in o) ≡ is_none o
none_state None = refl
none_state (Some v) = refl

-- a place that is kept empty is so in the world
pub none_kept : (y : Yard) (w : World) (n : ℕ) (b : Bool) → IsSeen y w → is_none (at y.nodes (n - 1)) ≡ b → is_none (node_at w n) ≡ b
none_kept y w n b s e = ap is_none (node_kept y w (n - 1) s) ∙ (none_state (at y.nodes (n - 1)) ∙ e)
