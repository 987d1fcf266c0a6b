-- An input at one node: what its handling did is what the world's step does.
use Rattle.std.proofs.Common.{◌≡◌, ℕ, ◌-◌, ◌<◌, ◌≤◌, List, [], ◌∷◌, ◌++◌, length, refl, ap, sym, ◌∙◌, subst, arith}
use Rattle.std.specs.Prelude.{true, false, Option, Some, None, is_none, IsSomeAnd, Result, Ok, Err, OnOk, OnErr}
use Rattle.yard_model.specs.declared.fact.Fact.{Fact}
use Rattle.yard_model.specs.declared.fact.Fact.TheVariants as fact
use Rattle.yard_model.specs.declared.incarnation.Incarnation.{Incarnation}
use Rattle.yard_model.specs.declared.incarnation.Slot.TheVariants as slot
use Rattle.yard_model.specs.declared.input.Input.{Input}
use Rattle.yard_model.specs.declared.input.Input.TheVariants as input
use Rattle.yard_model.specs.Behaviour.{is_in}
use Rattle.yard_model.specs.Node.{Node}
use Rattle.yard_model.specs.Script.{Script}
use Rattle.yard_model.specs.Words.{at}
use Rattle.yard_model.specs.World as world
use Rattle.yard_model.specs.World.{World, Made, tell, node_at, wire_limit}
use Rattle.shard_lease.specs.Book.{Book, meaning_of}
use Rattle.node_core.specs.Leased.{IsFor, IfPacket, IfProduce}
use Rattle.node_core.specs.Standing.{Standing}
use Rattle.node_laws.specs.Cluster.{IsMember}
use Rattle.node_laws.specs.NodeTurns.{MayTake}
use Rattle.plain_laws.proofs.Lists.{inside, placed_at}
use Rattle.world_sim.specs.Mail.{Mails, ToldSome, facts_of}
use Rattle.world_sim.specs.Stepped.{Stepped}
use Rattle.world_sim.specs.Steps.{given, asked}
use Rattle.world_sim.specs.Turns.{MayHandle, HandledAt}
use Rattle.world_sim.specs.Yard.{Yard, IsSeen, IsSound, IsOffered, MayGive, MayAsk, Goes}
use Rattle.world_sim.proofs.DownLaws.{is_there}
use Rattle.world_sim.proofs.EndLaws.{kept_is, script_of_node, rests_on, turned_goes, cut_turned}
use Rattle.world_sim.proofs.RestsLaws.{member, admits_of}
use Rattle.world_sim.proofs.SeenLaws.{IsAllTold}
use Rattle.world_sim.proofs.StepLaws.{counts_same, step_as, step_told}
use Rattle.world_sim.proofs.UpLaws.{firm_of}

-- A node that is up may take what it is offered.

pub up_inside : (nodes : List (Option Standing)) (n : ℕ) → is_none (at nodes (n - 1)) ≡ false → n ≤ length nodes
up_inside nodes n h =
    let t : (v : Standing) × (at nodes (n - 1) ≡ Some v) = is_there (at nodes (n - 1)) h in
    let less : n - 1 < length nodes = inside nodes (n - 1) t.0 t.1 in
    omega (arith, less)

is_for : (b : Book) (i : Input) (who : Incarnation) → IfPacket i (λ p. p.to ≡ who) → IfPacket i (IsFor (meaning_of b) who)
is_for b (input.Packet p) who e = record { to_is = e; within_is = refl }
is_for b i who e = tt

admitted : (b : Book) (c : Script) (i : Input) (st : Node) → b.script ≡ c → is_in 1 c.config.nodes st.who.node ≡ true → MayTake c (λ e p n. true) st i → IfProduce i (λ p. (meaning_of b).admits st.who.node (slot.Queue p) ≡ true)
admitted b c (input.Produce p) st e node producer = admits_of b c (slot.Queue p) st.who.node e producer node
admitted b c i st e node may = tt

pub may_handle : (y : Yard) (w : World) (n : ℕ) (i : Input) → MayGive i n y w → IsSomeAnd (at y.nodes (n - 1)) (MayHandle y.script i y.book)
may_handle y w n i g =
    let s : IsSound y w = g.stands_at.sound in
    let t : (v : Standing) × (at y.nodes (n - 1) ≡ Some v) = is_there (at y.nodes (n - 1)) g.stands_at.up in
    let script : t.0.script ≡ y.script = script_of_node n t.0 y w s.seen_is t.1 in
    let here : at w.nodes (n - 1) ≡ Some t.0.state = kept_is n t.0 y w s.seen_is t.1 in
    let me : IsMember y.script s.stands_is.trace (n - 1) t.0.state = member y.script w (n - 1) t.0.state s.stands_is here in
    let o : IsOffered y.script i t.0.state = g.offered t.0.state here in
    subst (λ o. IsSomeAnd o (MayHandle y.script i y.book)) (sym t.1) (record {
      script_is = script;
      addressed = is_for y.book i t.0.state.who o.addressed;
      may = subst (λ c. MayTake c (meaning_of y.book).vouches t.0.state i) (sym script) o.may;
      produces = admitted y.book y.script i t.0.state s.seen_is.book_is me.sound.who_is o.may;
      rests = rests_on n t.0 y w (firm_of y w s) t.1;
    })

-- What its handling left.

record IsAtPlace (i : Input) (n : ℕ) (y : Yard) (book : Book) (mid : Mails) (nodes : List (Option Standing)) : Type 0 where
  node : Standing
  is_up : at y.nodes (n - 1) ≡ Some node
  handled : HandledAt i n y.book book y.mail mid y.nodes nodes node

at_place : (i : Input) (n : ℕ) (y : Yard) (book : Book) (mid : Mails) (nodes : List (Option Standing)) → IsSomeAnd (at y.nodes (n - 1)) (HandledAt i n y.book book y.mail mid y.nodes nodes) → IsAtPlace i n y book mid nodes
at_place i n y book mid nodes h = by (at y.nodes (n - 1)) refl h
  where
    by : (o : Option Standing) → at y.nodes (n - 1) ≡ o → IsSomeAnd o (HandledAt i n y.book book y.mail mid y.nodes nodes) → IsAtPlace i n y book mid nodes
    by None e h = absurd h
    by (Some v) e h = record { node = v; is_up = e; handled = h }

-- it is up still
pub up_still : (i : Input) (n : ℕ) (book later : Book) (mail next : Mails) (nodes after : List (Option Standing)) → IsSomeAnd (at nodes (n - 1)) (HandledAt i n book later mail next nodes after) → is_none (at after (n - 1)) ≡ false
up_still i n book later mail next nodes after h = by (at nodes (n - 1)) refl h
  where
    by : (o : Option Standing) → at nodes (n - 1) ≡ o → IsSomeAnd o (HandledAt i n book later mail next nodes after) → is_none (at after (n - 1)) ≡ false
    by None e h = absurd h
    by (Some v) e h = ap (λ l. is_none (at l (n - 1))) h.nodes_are ∙ ap is_none (placed_at nodes (n - 1) (Some h.new) (inside nodes (n - 1) v e))

abbrev pub with_turn : Yard → List (Option Standing) → Book → Mails → Yard
with_turn y nodes book mail = record y { nodes = nodes; book = book; mail = mail }

given_is : (y : Yard) (w : World) (n : ℕ) (i : Input) (v : Standing) → IsSeen y w → at y.nodes (n - 1) ≡ Some v → world.handle i v.state w ≡ given n i w
given_is y w n i v s up = ap (λ o. world.give i o w) (sym (kept_is n v y w s up))

-- it is told what the input gave
pub given_told : {E : Type 0} (y : Yard) (n : ℕ) (i : Input) (nodes : List (Option Standing)) (book : Book) (mid mail : Mails) (r : Result (Unit {0}) E) (before after : List Fact)
    → IsSomeAnd (at y.nodes (n - 1)) (HandledAt i n y.book book y.mail mid y.nodes nodes) → OnOk r (IsAllTold mid mail before after) → OnErr r (ToldSome before after (facts_of wire_limit (length mid.packets) mid.items))
    → Stepped (MayGive i n) 0 (given n i) r y (with_turn y nodes book mail) before after
given_told y n i nodes book mid mail (Ok u) before after h t none = record {
  script_is = refl;
  counts = counts_same y (with_turn y nodes book mail) 0 refl refl;
  goes = λ w g.
      let s : IsSound y w = g.stands_at.sound in
      let a : IsAtPlace i n y book mid nodes = at_place i n y book mid nodes h in
      subst (Goes before after (with_turn y nodes book mail)) (given_is y w n i a.node s.seen_is a.is_up)
      (turned_goes y (with_turn y nodes book mail) w i n a.node mid before after (firm_of y w s) g.stands_at.some a.is_up a.handled
      (record { script_is = refl; members_are = refl; version_is = refl; ups_are = refl; force_is = refl; ordered_are = refl }) t);
}
given_told y n i nodes book mid mail (Err e) before after h none t = record {
  script_is = refl;
  told = λ w g.
      let s : IsSound y w = g.stands_at.sound in
      let a : IsAtPlace i n y book mid nodes = at_place i n y book mid nodes h in
      subst (λ (x : Made). ToldSome before after x.facts) (given_is y w n i a.node s.seen_is a.is_up) (cut_turned y w i n a.node book mid nodes before after (firm_of y w s) a.is_up a.handled t);
}

-- Asking.

or_same : (y : Yard) (w : World) (n : ℕ) (i : Input) → MayGive i n y w → given n i w ≡ asked (Some n) i w
or_same y w n i g =
    let t : (v : Standing) × (at y.nodes (n - 1) ≡ Some v) = is_there (at y.nodes (n - 1)) g.stands_at.up in
    subst (λ o. world.give i o w ≡ world.give_or i o world.nothing w) (sym (kept_is n t.0 y w g.stands_at.sound.seen_is t.1)) refl

pub asked_some : {E : Type 0} (i : Input) (to : Option ℕ) (n : ℕ) (r : Result (Unit {0}) E) (y new : Yard) (before after : List Fact) → to ≡ Some n → Stepped (MayGive i n) 0 (given n i) r y new before after → Stepped (MayAsk i to) 0 (asked to i) r y new before after
asked_some i to n r y new before after e s = subst (λ to. Stepped (MayAsk i to) 0 (asked to i) r y new before after) (sym e)
    (step_as (MayGive i n) (MayAsk i (Some n)) 0 0 (given n i) (asked (Some n) i) r y new before after (omega arith) (λ w m. (m.may, or_same y w n i m.may)) s)

pub asked_none : {E : Type 0} (i : Input) (to : Option ℕ) (r : Result (Unit {0}) E) (y : Yard) (before after : List Fact) → to ≡ None → OnOk r (after ≡ before ++ fact.Nothing ∷ []) → OnErr r (after ≡ before) → Stepped (MayAsk i to) 0 (asked to i) r y y before after
asked_none i to r y before after e ok err = subst (λ to. Stepped (MayAsk i to) 0 (asked to i) r y y before after) (sym e)
    (step_told (MayAsk i None) 0 (asked None i) r y before after fact.Nothing ok err (λ w m. record { seen_is = m.sound.seen_is; facts_are = refl }))
