-- Deliveries and orders: from what a callee's step did to what the whole step did.
use Rattle.std.proofs.Common.{◌≡◌, ℕ, zero, suc, ◌-◌, ◌<◌, ◌≤◌, ◌==◌, not, List, [], ◌∷◌, ◌++◌, length, filter, nat_lt, refl, ap, sym, ◌∙◌, subst, arith}
use Rattle.std.specs.Prelude.{◌+◌, Bool, true, false, ◌&&◌, nat_le, Option, Some, None, is_none, Result, Ok, Err, OnOk, OnErr, slice_index_or, slice_set, if◌then◌else◌}
use Rattle.std.specs.List.{slice_get}
use Rattle.std.proofs.lemmas.Bool.Decides.{nat_tests}
use Rattle.std.proofs.lemmas.List.{length-set}
use Rattle.yard_model.specs.declared.event.Command.{Command}
use Rattle.yard_model.specs.declared.fact.Fact.{Fact}
use Rattle.yard_model.specs.declared.fact.Fact.TheVariants as fact
use Rattle.yard_model.specs.declared.charter.Line.{Line}
use Rattle.yard_model.specs.declared.charter.Order.{Order}
use Rattle.yard_model.specs.declared.charter.Order.TheVariants as order
use Rattle.yard_model.specs.declared.incarnation.Incarnation.{Incarnation}
use Rattle.yard_model.specs.declared.input.Input.TheVariants as input
use Rattle.yard_model.specs.declared.packet.Packet.{Packet}
use Rattle.yard_model.specs.Behaviour.{is_in, is_of_kind}
use Rattle.yard_model.specs.Genuine.{is_node, is_genuine_body}
use Rattle.yard_model.specs.Words.{at, is_among, is_empty, is_same}
use Rattle.yard_model.specs.Node.{Node}
use Rattle.yard_model.specs.Script.{Script, is_order, with_shards}
use Rattle.yard_model.specs.SlotLists.{SlotLists}
use Rattle.yard_model.specs.World as world
use Rattle.yard_model.specs.World.{World, Made, Step, tell, then_step, node_at, with_order}
use Rattle.wire_packet.specs.Wire.{packet_at}
use Rattle.node_core.specs.Standing.{Standing}
use Rattle.plain_laws.proofs.Booleans.{and_both, both, at_most, true_is_not_false}
use Rattle.plain_laws.proofs.Lists.{none_is_not_some, some_is}
use Rattle.plain_laws.proofs.Members.{itself_is, same_is}
use Rattle.node_laws.specs.Members.{IsThere}
use Rattle.play_laws.specs.Confirming.{MayHand, MayDeliver, MayNext, MayDrain}
use Rattle.play_laws.specs.Sound.{AreQueued, IsWell}
use Rattle.play_laws.proofs.Orders.{may_deliver}
use Rattle.world_sim.specs.Found.{is_up_in, is_who}
use Rattle.world_sim.specs.Keeps.{Keeps}
use Rattle.world_sim.specs.Mail.{Mails, Heads, ToldSome}
use Rattle.world_sim.specs.Stands.{Stands}
use Rattle.world_sim.specs.Stepped.{Counts, IsWhole, IsCut, Plays, Stepped}
use Rattle.world_sim.specs.Steps.{given, marked}
use Rattle.world_sim.specs.Yard.{Yard, IsSeen, IsSound, IsSoundFor, IsSoundTo, IsBacked, Delivers, Drains, Begins, Settles, MayGive, Goes, noted, state_in}
use Rattle.world_sim.proofs.EndLaws.{kept_is}
use Rattle.world_sim.proofs.KeepLaws.{stands_noted}
use Rattle.world_sim.proofs.PlaceLaws.{state_at}
use Rattle.world_sim.proofs.RestsLaws.{may_of}
use Rattle.world_sim.proofs.UpLaws.{one_more}
use Rattle.world_sim.proofs.StepLaws.{whole_from, goes_then, goes_stop, goes_still, cut_first, cut_next, counts_same, counts_both, step_as, step_then, step_told, plays_of, plays_more, if_true, if_false}

-- A packet is marked.

pub goes_marked : (y : Yard) (mail : Mails) (w : World) (k : ℕ) (before after : List Fact) → IsSeen y w → mail.packets ≡ y.mail.packets → mail.fresh ≡ filter (λ j. not (j == k)) y.mail.fresh → mail.items ≡ y.mail.items → mail.full ≡ y.mail.full
    → after ≡ before ++ fact.Got k ∷ [] → Goes before after (record y { mail = mail }) (marked k w)
goes_marked y mail w k before after s p f i u e = record {
  seen_is = record {
    set_is = s.set_is;
    kind_is = s.kind_is;
    behaviour_is = s.behaviour_is;
    past_is = s.past_is;
    limit_is = s.limit_is;
    members_are = s.members_are;
    version_is = s.version_is;
    ups_are = s.ups_are;
    ordered_are = s.ordered_are;
    ordered_there = s.ordered_there;
    wire_is = p ∙ s.wire_is;
    fresh_is = f ∙ ap (filter (λ j. not (j == k))) s.fresh_is;
    full_is = u ∙ s.full_is;
    told_all = i ∙ s.told_all;
    nodes_are = s.nodes_are;
    scripts_are = s.scripts_are;
    book_is = s.book_is;
    tells_is = s.tells_is;
  };
  facts_are = e;
}

pub marked_whole : (y old : Yard) (mail : Mails) (k : ℕ) (before after : List Fact) → y ≡ old → mail.packets ≡ y.mail.packets → mail.fresh ≡ filter (λ j. not (j == k)) y.mail.fresh → mail.items ≡ y.mail.items → mail.full ≡ y.mail.full
    → after ≡ before ++ fact.Got k ∷ [] → IsWhole IsSound 0 (marked k) old (record y { mail = mail }) before after
marked_whole y old mail k before after same p f i u e = subst (λ o. IsWhole IsSound 0 (marked k) o (record y { mail = mail }) before after) same (record {
  script_is = refl;
  counts = counts_same y (record y { mail = mail }) 0 refl refl;
  goes = λ w s. goes_marked y mail w k before after s.seen_is p f i u e;
})

-- A packet that was posted.

posted_at : {A : Type 0} (ps : List A) (k : ℕ) → 0 < k → (if k == 0 then None else slice_get ps (k - 1)) ≡ slice_get ps (k - 1)
posted_at ps k h = let e : (k == 0) ≡ false = grind (arith, nat_tests) in ap (λ b. if b then None else slice_get ps (k - 1)) e

-- after it is marked it may be on the wire
got_inside : {A : Type 0} (xs : List A) (i : ℕ) (x : A) → slice_get xs i ≡ Some x → i < length xs
got_inside [] i x e = absurd (none_is_not_some x e)
got_inside (y ∷ ys) zero x e = omega arith
got_inside (y ∷ ys) (suc i) x e = let less : i < length ys = got_inside ys i x e in omega (arith, less)

-- it was posted
pub posted_inside : (ps : List Packet) (k : ℕ) (p : Packet) → 0 < k → packet_at ps k ≡ Some p → k ≤ length ps
posted_inside ps k p above e = let less : k - 1 < length ps = got_inside ps (k - 1) p (sym (posted_at ps k above) ∙ e) in omega (arith, above, less)

-- the packet may be handed over
hands : (c : Script) (w : World) (k : ℕ) (p : Packet) → 0 < k → slice_get w.wire (k - 1) ≡ Some p → MayDeliver c w k → w.past < k → MayHand c w.lists p
hands c w zero p above got may past = absurd (omega (arith, above))
hands c w (suc i) p above got may past = let e : suc i - 1 ≡ i = omega arith in may p (sym (ap (slice_get w.wire) e) ∙ got) past

-- what is so of any world is so of one of which more is so
pub weak_to : {E : Type 0} (M : Script → World → Type 0) (n : ℕ) (q : Step) (r : Result (Unit {0}) E) (y new : Yard) (before after : List Fact) → Stepped IsSound n q r y new before after → Stepped (IsSoundTo M) n q r y new before after
weak_to M n q r y new before after s = step_as IsSound (IsSoundTo M) n n q q r y new before after (omega arith) (λ w f. (f.sound, refl)) s

-- where all that is recorded is queued, each packet may be delivered
pub delivers_backed : (k : ℕ) (y : Yard) (w : World) → IsBacked y w → IsSoundTo (Delivers k) y w
delivers_backed k y w s = record { sound = s.sound; may = may_deliver y.script w k s.may }

pub drains_backed : Keeps → (from n : ℕ) (y : Yard) (w : World) → IsBacked y w → IsSoundTo (Drains from n) y w
drains_backed keeps from n y w s = record { sound = s.sound; may = keeps.lets_drain y.script w from n s.sound.stands_is s.may }

pub settles_backed : Keeps → (y : Yard) (w : World) → IsBacked y w → IsSoundTo Settles y w
settles_backed keeps y w s = record { sound = s.sound; may = keeps.lets_settle y.script w (length w.wire) (world.settle_bound w) s.sound.stands_is s.may }

-- a settle begins with a drain
pub drains_first : (from bound : ℕ) (y : Yard) (w : World) → IsSoundTo (Begins from bound) y w → IsSoundTo (Drains from bound) y w
drains_first from bound y w s = record { sound = s.sound; may = s.may.0 }

pub marked_sound : Keeps → (y z : Yard) (w : World) (k : ℕ) (p : Packet) (before after : List Fact) → IsSoundTo (Delivers k) y w → 0 < k → packet_at y.mail.packets k ≡ Some p → z.script ≡ y.script → Goes before after z (marked k w) → IsSoundFor k p z (marked k w).world
marked_sound keeps y z w k p before after t h e script g =
    let s : IsSound y w = t.sound in
    let got : slice_get w.wire (k - 1) ≡ Some p = ap (λ ps. slice_get ps (k - 1)) (sym s.seen_is.wire_is) ∙ (sym (posted_at y.mail.packets k h) ∙ e) in
    record {
      sound = record { seen_is = g.seen_is; stands_is = subst (λ c. Stands c (marked k w).world) (sym script) (keeps.marks y.script w k s.stands_is); going_is = s.going_is };
      well = λ later.
          let well : IsWell y.script w.lists p = s.stands_is.sound.wire_is (k - 1) p (before_it w.past k later) got in
          subst (λ c. IsWell c w.lists p) (sym script) (record { genuine = well.genuine; different = well.different; carried = well.carried });
      may = λ later. subst (λ c. MayHand c w.lists p) (sym script) (hands y.script w k p h got t.may later);
    }
  where
    before_it : (a k : ℕ) → a < k → a ≤ k - 1
    before_it a k h = omega (arith, h)

pub over_stepped : {E : Type 0} (keeps : Keeps) (y z : Yard) (k : ℕ) (p : Packet) (r : Result (Unit {0}) E) (new : Yard) (before between after : List Fact) → 0 < k → packet_at y.mail.packets k ≡ Some p → IsWhole IsSound 0 (marked k) y z before between
    → Stepped (IsSoundFor k p) 0 (world.hand_over k p) r z new between after → Stepped (IsSoundTo (Delivers k)) 0 (world.deliver_by k (Some p)) r y new before after
over_stepped keeps y z k p r new before between after h e m s =
    step_then (IsSoundTo (Delivers k)) (IsSoundFor k p) 0 0 (marked k) (world.hand_over k p) r y z new before between after (whole_from IsSound (IsSoundTo (Delivers k)) 0 (marked k) y z before between (λ w f. f.sound) m)
    (λ w f g. (f.sound.going_is, marked_sound keeps y z w k p before between f h e m.script_is g)) s

-- Delivering a number is by what was posted under it.

delivered : (n : ℕ) (w : World) → world.deliver n w ≡ world.deliver_by n (packet_at w.wire n) w
delivered zero w = refl
delivered (suc k) w =
    let e : suc k - 1 ≡ k = omega arith in
    let above : 0 < suc k = omega arith in
    sym (ap (λ o. world.deliver_by (suc k) o w) (posted_at w.wire (suc k) above ∙ ap (slice_get w.wire) e))

pub deliver_as : (y : Yard) (n : ℕ) (o : Option Packet) (w : World) → packet_at y.mail.packets n ≡ o → IsSound y w → world.deliver_by n o w ≡ world.deliver n w
deliver_as y n o w e s = sym (delivered n w ∙ ap (λ o. world.deliver_by n o w) (ap (λ ps. packet_at ps n) (sym s.seen_is.wire_is) ∙ e))

pub deliver_stepped : {E : Type 0} (y : Yard) (n : ℕ) (o : Option Packet) (r : Result (Unit {0}) E) (new : Yard) (before after : List Fact) → packet_at y.mail.packets n ≡ o → Stepped (IsSoundTo (Delivers n)) 0 (world.deliver_by n o) r y new before after → Stepped (IsSoundTo (Delivers n)) 0 (world.deliver n) r y new before after
deliver_stepped y n o r new before after e s = step_as (IsSoundTo (Delivers n)) (IsSoundTo (Delivers n)) 0 0 (world.deliver_by n o) (world.deliver n) r y new before after (omega arith) (λ w f. (f, deliver_as y n o w e f.sound)) s

pub nothing_stepped : {E : Type 0} (q : Step) (n : ℕ) (r : Result (Unit {0}) E) (y : Yard) (before after : List Fact) → OnOk r (after ≡ before ++ fact.Nothing ∷ []) → OnErr r (after ≡ before) → ((w : World) → IsSound y w → world.nothing w ≡ q w) → Stepped IsSound n q r y y before after
nothing_stepped q n r y before after ok err same =
    step_told IsSound n q r y before after fact.Nothing ok err (λ w s. subst (Goes before (before ++ fact.Nothing ∷ []) y) (same w s) (record { seen_is = s.seen_is; facts_are = refl }))

-- A packet at its node.

-- a member is up, at its place
pub record IsHere (y : Yard) (x : Incarnation) : Type 0 where
  pub node : Standing
  pub is_up : at y.nodes (x.node - 1) ≡ Some node
  pub who_is : node.state.who ≡ x

pub state_some : (o : Option Standing) (st : Node) → state_in o ≡ Some st → (v : Standing) × (o ≡ Some v) × (v.state ≡ st)
state_some None st e = absurd (none_is_not_some st e)
state_some (Some v) st e = (v, refl, some_is v.state st e)

pub here : (y : Yard) (w : World) (x : Incarnation) → IsSound y w → is_among x y.members ≡ true → IsHere y x
here y w x s m =
    let t : IsThere w x = s.stands_is.sound.members_are x (ap (is_among x) (sym s.seen_is.members_are) ∙ m) in
    let k = state_some (at y.nodes (x.node - 1)) t.node (sym (state_at y.nodes (x.node - 1)) ∙ (ap (λ l. at l (x.node - 1)) s.seen_is.nodes_are ∙ t.is_up)) in
    record { node = k.0; is_up = k.1; who_is = ap (λ (st : Node). st.who) k.2 ∙ t.who_is }

up_alone : (y : Yard) (w : World) (x : Incarnation) (o : Option Standing) → IsSound y w → at y.nodes (x.node - 1) ≡ o → is_among x y.members ≡ false → is_who x o ≡ false
up_alone y w x None s e m = refl
up_alone y w x (Some v) s e m = step (is_same x v.state.who) refl
  where
    step : (b : Bool) → is_same x v.state.who ≡ b → b ≡ false
    step false f = refl
    step true f =
        let it : is_among v.state.who w.members ≡ true = s.stands_is.sound.are_members (x.node - 1) v.state (kept_is x.node v y w s.seen_is e) in
        absurd (true_is_not_false (sym (ap (λ z. is_among z w.members) (same_is x v.state.who f) ∙ it) ∙ (ap (is_among x) (sym s.seen_is.members_are) ∙ m)))

-- a member is up, and what is up is a member
pub up_is : (y : Yard) (w : World) (x : Incarnation) → IsSound y w → is_up_in x y.nodes ≡ is_among x y.members
up_is y w x s = step (is_among x y.members) refl
  where
    step : (b : Bool) → is_among x y.members ≡ b → is_up_in x y.nodes ≡ b
    step true m = let h : IsHere y x = here y w x s m in ap (is_who x) h.is_up ∙ itself_is x h.node.state.who (sym h.who_is)
    step false m = up_alone y w x (at y.nodes (x.node - 1)) s refl m

to_some : (c : Script) (lists : SlotLists) (p : Packet) → IsWell c lists p → 1 ≤ p.to.node
to_some c lists p well =
    let nodes : (is_node c p.from && is_node c p.to) ≡ true = (and_both (is_node c p.from && is_node c p.to) (is_genuine_body c p.body) well.genuine).0 in
    let to : is_node c p.to ≡ true = (and_both (is_node c p.from) (is_node c p.to) nodes).1 in
    at_most 1 p.to.node (and_both (nat_le 1 p.to.node) (nat_le p.to.node c.config.nodes) to).0

-- it was posted since the number of shards last changed
pub well_of : (k : ℕ) (y : Yard) (w : World) (p : Packet) → IsSoundFor k p y w → y.force.past < k → IsWell y.script w.lists p
well_of k y w p s later = s.well (subst (λ n. n < k) s.sound.seen_is.past_is later)

pub may_packet : (k : ℕ) (y : Yard) (w : World) (p : Packet) → IsSoundFor k p y w → y.force.past < k → is_among p.to y.members ≡ true → MayGive (input.Packet p) p.to.node y w
may_packet k y w p s later m =
    let well : IsWell y.script w.lists p = well_of k y w p s later in
    let t : IsHere y p.to = here y w p.to s.sound m in
    record {
      stands_at = record { sound = s.sound; some = to_some y.script w.lists p well; up = ap is_none t.is_up };
      offered = λ st e.
          let it : t.node.state ≡ st = some_is t.node.state st (sym (kept_is p.to.node t.node y w s.sound.seen_is t.is_up) ∙ e) in
          record { addressed = sym t.who_is ∙ ap (λ (x : Node). x.who) it; may = may_of y.script w (p.to.node - 1) st p s.sound.stands_is well (s.may (subst (λ n. n < k) s.sound.seen_is.past_is later)) e };
    }

and_none : (a b : Bool) → b ≡ false → (a && b) ≡ false
and_none true b e = e
and_none false b e = refl

pub over_apart : (y : Yard) (k : ℕ) (p : Packet) (before : List Fact) → is_among p.to y.members ≡ false → IsWhole (IsSoundFor k p) 0 (world.hand_over k p) y y before before
over_apart y k p before h = record {
  script_is = refl;
  counts = counts_same y y 0 refl refl;
  goes = λ w s.
      subst (Goes before before y) (if_false (nat_lt w.past k && is_among p.to w.members) (world.give (input.Packet p) (node_at w p.to.node) w) (tell [] w) (and_none (nat_lt w.past k) (is_among p.to w.members) (ap (is_among p.to) (sym s.sound.seen_is.members_are) ∙ h)))
      (goes_still y w before s.sound.seen_is);
}

lt_is : (a b : ℕ) → a < b → nat_lt a b ≡ true
lt_is a b h = grind (arith, nat_tests)

not_less : (a b : ℕ) → b ≤ a → nat_lt a b ≡ false
not_less a b h = grind (arith, nat_tests)

-- one that was posted before goes nowhere
pub over_past : (y : Yard) (k : ℕ) (p : Packet) (before : List Fact) → k ≤ y.force.past → IsWhole (IsSoundFor k p) 0 (world.hand_over k p) y y before before
over_past y k p before h = record {
  script_is = refl;
  counts = counts_same y y 0 refl refl;
  goes = λ w s.
      let past : nat_lt w.past k ≡ false = ap (λ n. nat_lt n k) (sym s.sound.seen_is.past_is) ∙ not_less y.force.past k h in
      subst (Goes before before y) (if_false (nat_lt w.past k && is_among p.to w.members) (world.give (input.Packet p) (node_at w p.to.node) w) (tell [] w) (ap (λ b. b && is_among p.to w.members) past))
      (goes_still y w before s.sound.seen_is);
}

over_is : (y : Yard) (w : World) (k : ℕ) (p : Packet) → y.force.past < k → IsSoundFor k p y w → is_among p.to y.members ≡ true → given p.to.node (input.Packet p) w ≡ world.hand_over k p w
over_is y w k p h s m =
    let past : nat_lt w.past k ≡ true = ap (λ n. nat_lt n k) (sym s.sound.seen_is.past_is) ∙ lt_is y.force.past k h in
    if_true (nat_lt w.past k && is_among p.to w.members) (world.give (input.Packet p) (node_at w p.to.node) w) (tell [] w) (both (nat_lt w.past k) (is_among p.to w.members) past (ap (is_among p.to) (sym s.sound.seen_is.members_are) ∙ m))

pub over_given : {E : Type 0} (y : Yard) (p : Packet) (k : ℕ) (r : Result (Unit {0}) E) (new : Yard) (before after : List Fact) → y.force.past < k → is_among p.to y.members ≡ true
    → Stepped (MayGive (input.Packet p) p.to.node) 0 (given p.to.node (input.Packet p)) r y new before after → Stepped (IsSoundFor k p) 0 (world.hand_over k p) r y new before after
over_given y p k r new before after above m g =
    step_as (MayGive (input.Packet p) p.to.node) (IsSoundFor k p) 0 0 (given p.to.node (input.Packet p)) (world.hand_over k p) r y new before after (omega arith) (λ w s. (may_packet k y w p s above m, over_is y w k p above s m)) g

-- Orders.

-- the order is this one
pub play_to : {E : Type 0} (P : Yard → World → Type 0) (n : ℕ) (o p : Order) (r : Result (Unit {0}) E) (old new : Yard) (before after : List Fact) → o ≡ p → n ≤ 20 → ((w : World) → IsBacked old w → P old w) → Stepped P n (world.play p) r old new before after → Plays 20 (world.play o) r old new before after
play_to P n o p r old new before after e less h s =
    subst (λ x. Plays 20 (world.play x) r old new before after) (sym e) (plays_of n 20 (world.play p) r old new before after less (step_as P IsBacked n n (world.play p) (world.play p) r old new before after (omega arith) (λ w f. (h w f, refl)) s))

pub play_as : {E : Type 0} (n : ℕ) (o p : Order) (r : Result (Unit {0}) E) (old new : Yard) (before after : List Fact) → o ≡ p → n ≤ 20 → Stepped IsSound n (world.play p) r old new before after → Plays 20 (world.play o) r old new before after
play_as n o p r old new before after e less s = play_to IsSound n o p r old new before after e less (λ w f. f.sound) s

pub plays_as : {E : Type 0} (n : ℕ) (o p : Order) (r : Result (Unit {0}) E) (old new : Yard) (before after : List Fact) → o ≡ p → n ≤ 20 → Plays n (world.play p) r old new before after → Plays 20 (world.play o) r old new before after
plays_as n o p r old new before after e less s = subst (λ x. Plays 20 (world.play x) r old new before after) (sym e) (plays_more n 20 (world.play p) r old new before after less s)

pub ping_stepped : {E : Type 0} (o : Order) (p : ℕ) (r : Result (Unit {0}) E) (y : Yard) (before after : List Fact) → o ≡ order.Ping p → OnOk r (after ≡ before ++ fact.Nothing ∷ []) → OnErr r (after ≡ before) → Plays 20 (world.play o) r y y before after
ping_stepped o p r y before after e ok err = play_as 0 o (order.Ping p) r y y before after e (omega arith) (nothing_stepped (world.play (order.Ping p)) 0 r y before after ok err (λ w s. refl))

abbrev begun : Line → Step
begun l w = tell (fact.At l.number ∷ []) w

pub noted_script : (o : Order) (y : Yard) → (noted o y).script ≡ y.script
noted_script (order.Send p e c) y = refl
noted_script o y = refl

noted_counts : (o : Order) (y z : Yard) → Counts 20 (noted o y) z → Counts 20 y z
noted_counts (order.Send p e c) y z k = record { version_is = k.version_is; ups_are = k.ups_are }
noted_counts o y z k = k

noted_seen : (o : Order) (y : Yard) (w : World) → IsSeen y w → IsSeen (noted o y) (with_order (Some o) w)
noted_seen (order.Send p e c) y w s = record {
  set_is = s.set_is;
  kind_is = s.kind_is;
  behaviour_is = s.behaviour_is;
  past_is = s.past_is;
  limit_is = s.limit_is;
  members_are = s.members_are;
  version_is = s.version_is;
  ups_are = s.ups_are;
  ordered_are = ap (λ os. slice_set os (p - 1) (slice_index_or os (p - 1) 0 + 1)) s.ordered_are;
  ordered_there = length-set y.ordered (p - 1) (slice_index_or y.ordered (p - 1) 0 + 1) ∙ s.ordered_there;
  wire_is = s.wire_is;
  fresh_is = s.fresh_is;
  full_is = s.full_is;
  told_all = s.told_all;
  nodes_are = s.nodes_are;
  scripts_are = s.scripts_are;
  book_is = s.book_is;
  tells_is = s.tells_is;
}
noted_seen o y w s = s

noted_full : (o : Order) (w : World) → (with_order (Some o) w).full ≡ w.full
noted_full (order.Send p e c) w = refl
noted_full o w = refl

pub noted_version : (o : Order) (y z : Yard) → z ≡ noted o y → y.version < 3000000000 → z.version < 3000000000
noted_version o y z e h = subst (λ (v : Yard). v.version < 3000000000) (sym e) (by o)
  where
    by : (o : Order) → (noted o y).version < 3000000000
    by (order.Send p e c) = h
    by o = h

pub noted_ups : (o : Order) (y z : Yard) → z ≡ noted o y → ((k : ℕ) → slice_index_or y.ups k 0 < 3000000000) → (k : ℕ) → slice_index_or z.ups k 0 < 3000000000
noted_ups o y z e h = subst (λ (v : Yard). (k : ℕ) → slice_index_or v.ups k 0 < 3000000000) (sym e) (by o)
  where
    by : (o : Order) → (k : ℕ) → slice_index_or (noted o y).ups k 0 < 3000000000
    by (order.Send p e c) = h
    by o = h

pub noted_ordered : (o : Order) (y z : Yard) → z ≡ noted o y → ((k : ℕ) → slice_index_or y.ordered k 0 < 3000000) → (k : ℕ) → slice_index_or z.ordered k 0 ≤ 3000000
noted_ordered o y z e h = subst (λ (v : Yard). (k : ℕ) → slice_index_or v.ordered k 0 ≤ 3000000) (sym e) (by o)
  where
    by : (o : Order) → (k : ℕ) → slice_index_or (noted o y).ordered k 0 ≤ 3000000
    by (order.Send p e c) k = let a : slice_index_or y.ordered k 0 < 3000000 = h k in let b : slice_index_or (noted (order.Send p e c) y).ordered k 0 ≤ slice_index_or y.ordered k 0 + 1 = one_more y.ordered (p - 1) k in omega (arith, a, b)
    by o k = let a : slice_index_or y.ordered k 0 < 3000000 = h k in let same : slice_index_or (noted o y).ordered k 0 ≡ slice_index_or y.ordered k 0 = refl in omega (arith, a, same)

-- the producer of an order has its place
pub count_there : (y : Yard) (w : World) (p : ℕ) (e : List ℕ) (c : Command) → IsSound y w → is_order y.script.config (order.Send p e c) ≡ true → p ≤ length y.ordered
count_there y w p e c s h =
    let producer : is_in 1 y.script.config.producers p ≡ true = (and_both (is_in 1 y.script.config.producers p) (is_of_kind y.script.config.kind c) h).0 in
    let most : p ≤ y.script.config.producers = at_most p y.script.config.producers (and_both (nat_le 1 p) (nat_le p y.script.config.producers) producer).1 in
    let l : length y.ordered ≡ y.script.config.producers = s.seen_is.ordered_there in
    omega (arith, most, l)

noted_lists : (o : Order) (w : World) → (with_order (Some o) w).lists ≡ w.lists
noted_lists (order.Send p e c) w = refl
noted_lists o w = refl

-- a send is noted
pub noted_sound : (o : Order) (y : Yard) (w : World) → IsSound y w → IsSound (noted o y) (with_order (Some o) w)
noted_sound o y w s = record {
  seen_is = noted_seen o y w s.seen_is;
  stands_is = subst (λ c. Stands c (with_order (Some o) w)) (sym (noted_script o y)) (stands_noted y.script o w s.stands_is);
  going_is = noted_full o w ∙ s.going_is;
}

pub noted_backed : (o : Order) (y : Yard) (w : World) → IsBacked y w → IsBacked (noted o y) (with_order (Some o) w)
noted_backed o y w s = record {
  sound = noted_sound o y w s.sound;
  may = subst (λ c. AreQueued c (with_order (Some o) w).lists) (sym (noted_script o y)) (subst (AreQueued y.script) (sym (noted_lists o w)) s.may);
}

pub line_stepped : {E : Type 0} (y : Yard) (l : Line) (r : Result (Unit {0}) E) (new : Yard) (before between after : List Fact) → between ≡ before ++ fact.At l.number ∷ [] → Plays 20 (world.play l.order) r (noted l.order y) new between after
    → Plays 20 (world.play_line l) r y new before after
line_stepped y l (Ok u) new before between after told s = record {
  script_is = s.script_is ∙ ap (with_shards new.script.config.shards) (noted_script l.order y);
  counts = noted_counts l.order y new s.counts;
  goes = λ w f.
      let v : World = with_order (Some l.order) w in
      let k : IsBacked (noted l.order y) v = noted_backed l.order y w f in
      goes_then before between after new (begun l v) (world.play l.order) k.sound.going_is told (s.goes v k);
}
line_stepped y l (Err e) new before between after told s = record {
  script_is = s.script_is ∙ noted_script l.order y;
  told = λ w f.
      let v : World = with_order (Some l.order) w in
      let k : IsBacked (noted l.order y) v = noted_backed l.order y w f in
      cut_next before between after (begun l v) (world.play l.order) k.sound.going_is told (s.told v k);
}

-- Pump.

of_not_empty : (b : Bool) → not b ≡ false → b ≡ true
of_not_empty true e = refl
of_not_empty false e = sym e

of_some_fresh : (b : Bool) → not b ≡ true → b ≡ false
of_some_fresh true e = sym e
of_some_fresh false e = refl

pub pump_none : (y : Yard) (n : ℕ) (w : World) → not (is_empty y.mail.fresh) ≡ false → IsSound y w → world.nothing w ≡ world.pump n w
pump_none y n w h s = if_true (is_empty w.fresh) (world.nothing w) (world.drain 0 n w) (ap is_empty (sym s.seen_is.fresh_is) ∙ of_not_empty (is_empty y.mail.fresh) h)

pub pump_stepped : {E : Type 0} → Keeps → (y : Yard) (n : ℕ) (r : Result (Unit {0}) E) (new : Yard) (before after : List Fact) → not (is_empty y.mail.fresh) ≡ true → Stepped (IsSoundTo (Drains 0 n)) 0 (world.drain 0 n) r y new before after → Stepped IsBacked 0 (world.pump n) r y new before after
pump_stepped keeps y n r new before after h s =
    step_as (IsSoundTo (Drains 0 n)) IsBacked 0 0 (world.drain 0 n) (world.pump n) r y new before after (omega arith)
    (λ w f. (drains_backed keeps 0 n y w f, if_false (is_empty w.fresh) (world.nothing w) (world.drain 0 n w) (ap is_empty (sym f.sound.seen_is.fresh_is) ∙ of_some_fresh (is_empty y.mail.fresh) h))) s

-- Deliveries in turn.

-- what is told from here on, of so many deliveries, is told of all of them
pub record IsDrained (from n : ℕ) (w : World) (start : List Fact) (y : Yard) (facts : List Fact) (left : ℕ) : Type 0 where
  pub now : World
  pub sound : IsSound y now
  pub may : MayDrain y.script from left now
  pub rest : (after : List Fact) (z : Yard) → Goes facts after z (world.drain from left now) → Goes start after z (world.drain from n w)
  pub cut : (after : List Fact) → ToldSome facts after (world.drain from left now).facts → ToldSome start after (world.drain from n w).facts

pub record Draining (old : Yard) (start : List Fact) (from n : ℕ) (y : Yard) (facts : List Fact) (left : ℕ) : Type 0 where
  pub goes_on : (w : World) → IsSoundTo (Drains from n) old w → IsDrained from n w start y facts left
  pub script_is : y.script ≡ old.script
  pub counts : Counts 0 old y

pub drain_first : (y : Yard) (start : List Fact) (from n : ℕ) → Draining y start from n y start n
drain_first y start from n = record { goes_on = λ w s. record { now = w; sound = s.sound; may = s.may; rest = λ after z g. g; cut = λ after t. t }; script_is = refl; counts = counts_same y y 0 refl refl }

-- where none is left to deliver
drain_none : (y : Yard) (w : World) (from n : ℕ) (facts : List Fact) → IsSeen y w → filter (nat_lt from) y.mail.fresh ≡ [] → Goes facts facts y (world.drain from n w)
drain_none y w from zero facts s e = goes_still y w facts s
drain_none y w from (suc n) facts s e = by (filter (nat_lt from) w.fresh) (ap (filter (nat_lt from)) (sym s.fresh_is) ∙ e)
  where
    by : (ks : List ℕ) → ks ≡ [] → Goes facts facts y (elim ks as (λ x. Made) [ [] ↦ tell [] w | k ∷ ks ↦ then_step (world.deliver k w) (world.drain from n) ])
    by ks e = subst (λ (ks : List ℕ). Goes facts facts y (elim ks as (λ x. Made) [ [] ↦ tell [] w | k ∷ ks ↦ then_step (world.deliver k w) (world.drain from n) ])) (sym e) (goes_still y w facts s)

-- one is delivered, then the others
drain_is : (y : Yard) (w : World) (from n k : ℕ) → IsSeen y w → Heads k (filter (nat_lt from) y.mail.fresh) → then_step (world.deliver k w) (world.drain from n) ≡ world.drain from (suc n) w
drain_is y w from n k s h =
    let e : filter (nat_lt from) w.fresh ≡ k ∷ h.rest = ap (filter (nat_lt from)) (sym s.fresh_is) ∙ h.is in
    sym (ap (λ (ks : List ℕ). elim ks as (λ x. Made) [ [] ↦ tell [] w | k ∷ ks ↦ then_step (world.deliver k w) (world.drain from n) ]) e)

-- the next may be delivered, and those after it
may_next : (y : Yard) (w : World) (from left k : ℕ) → IsSeen y w → Heads k (filter (nat_lt from) y.mail.fresh) → MayDrain y.script from (suc left) w → MayDeliver y.script w k × ((world.deliver k w).world.full ≡ false → MayDrain y.script from left (world.deliver k w).world)
may_next y w from left k s h may = subst (MayNext y.script w (MayDrain y.script from left)) (ap (filter (nat_lt from)) (sym s.fresh_is) ∙ h.is) may

pub drain_next : (y : Yard) (from n more left k : ℕ) (w : World) (start facts : List Fact) → more ≡ suc left → (i : IsDrained from n w start y facts more) → Heads k (filter (nat_lt from) y.mail.fresh) → IsSoundTo (Delivers k) y i.now
drain_next y from n more left k w start facts one i h = record { sound = i.sound; may = (may_next y i.now from left k i.sound.seen_is h (subst (λ j. MayDrain y.script from j i.now) one i.may)).0 }

-- after one delivery, where the trace goes on: so many are left, one less than before
pub drain_goes_on : Keeps → (old y z : Yard) (start facts after : List Fact) (from n more left k : ℕ) → more ≡ suc left → Draining old start from n y facts more → Heads k (filter (nat_lt from) y.mail.fresh)
    → IsWhole (IsSoundTo (Delivers k)) 0 (world.deliver k) y z facts after → z.mail.full ≡ false → Draining old start from n z after left
drain_goes_on keeps old y z start facts after from n more left k one d h g full = record {
  goes_on = λ w s.
      let i : IsDrained from n w start y facts (suc left) = subst (IsDrained from n w start y facts) one (d.goes_on w s) in
      let m : Made = world.deliver k i.now in
      let j : Goes facts after z m = g.goes i.now (drain_next y from n (suc left) left k w start facts refl i h) in
      let going : m.world.full ≡ false = sym j.seen_is.full_is ∙ full in
      let next : MayDeliver y.script i.now k × (m.world.full ≡ false → MayDrain y.script from left m.world) = may_next y i.now from left k i.sound.seen_is h i.may in
      record {
        now = m.world;
        sound = record { seen_is = j.seen_is; stands_is = subst (λ c. Stands c m.world) (sym g.script_is) (keeps.delivers y.script i.now k next.0 i.sound.stands_is); going_is = going };
        may = subst (λ c. MayDrain c from left m.world) (sym g.script_is) (next.1 going);
        rest = λ last v e. i.rest last v (subst (Goes facts last v) (drain_is y i.now from left k i.sound.seen_is h) (goes_then facts after last v m (world.drain from left) going j.facts_are e));
        cut = λ last t. i.cut last (subst (λ (x : Made). ToldSome facts last x.facts) (drain_is y i.now from left k i.sound.seen_is h) (cut_next facts after last m (world.drain from left) going j.facts_are t));
      };
  script_is = g.script_is ∙ d.script_is;
  counts = counts_both 0 0 old y z d.counts g.counts;
}

-- after one delivery, where the trace stops
pub drain_stops : (old y z : Yard) (start facts after : List Fact) (from n more left k : ℕ) → more ≡ suc left → Draining old start from n y facts more → Heads k (filter (nat_lt from) y.mail.fresh)
    → IsWhole (IsSoundTo (Delivers k)) 0 (world.deliver k) y z facts after → z.mail.full ≡ true → IsWhole (IsSoundTo (Drains from n)) 0 (world.drain from n) old z start after
drain_stops old y z start facts after from n more left k one d h g full = record {
  script_is = g.script_is ∙ d.script_is;
  counts = counts_both 0 0 old y z d.counts g.counts;
  goes = λ w s.
      let i : IsDrained from n w start y facts (suc left) = subst (IsDrained from n w start y facts) one (d.goes_on w s) in
      let m : Made = world.deliver k i.now in
      let j : Goes facts after z m = g.goes i.now (drain_next y from n (suc left) left k w start facts refl i h) in
      i.rest after z (subst (Goes facts after z) (drain_is y i.now from left k i.sound.seen_is h) (goes_stop facts after z m (world.drain from left) (sym j.seen_is.full_is ∙ full) j));
}

-- where memory runs out in a delivery
pub drain_cut : (old y z : Yard) (start facts after : List Fact) (from n more left k : ℕ) → more ≡ suc left → Draining old start from n y facts more → Heads k (filter (nat_lt from) y.mail.fresh)
    → IsCut (IsSoundTo (Delivers k)) (world.deliver k) y z facts after → IsCut (IsSoundTo (Drains from n)) (world.drain from n) old z start after
drain_cut old y z start facts after from n more left k one d h t = record {
  script_is = t.script_is ∙ d.script_is;
  told = λ w s.
      let i : IsDrained from n w start y facts (suc left) = subst (IsDrained from n w start y facts) one (d.goes_on w s) in
      i.cut after (subst (λ (x : Made). ToldSome facts after x.facts) (drain_is y i.now from left k i.sound.seen_is h) (cut_first facts after (world.deliver k i.now) (world.drain from left) (t.told i.now (drain_next y from n (suc left) left k w start facts refl i h))));
}

-- where none is left
pub drain_ends : (old y : Yard) (start facts : List Fact) (from n left : ℕ) → Draining old start from n y facts left → filter (nat_lt from) y.mail.fresh ≡ [] → IsWhole (IsSoundTo (Drains from n)) 0 (world.drain from n) old y start facts
drain_ends old y start facts from n left d e = record {
  script_is = d.script_is;
  counts = d.counts;
  goes = λ w s. let i : IsDrained from n w start y facts left = d.goes_on w s in i.rest facts y (drain_none y i.now from left facts i.sound.seen_is e);
}

-- after the last
pub drain_done : (old y : Yard) (start facts : List Fact) (from n left : ℕ) → left ≡ 0 → Draining old start from n y facts left → IsWhole (IsSoundTo (Drains from n)) 0 (world.drain from n) old y start facts
drain_done old y start facts from n left none d = record {
  script_is = d.script_is;
  counts = d.counts;
  goes = λ w s. let i : IsDrained from n w start y facts 0 = subst (IsDrained from n w start y facts) none (d.goes_on w s) in i.rest facts y (goes_still y i.now facts i.sound.seen_is);
}
