-- Along the facts of an input: the queries' world is the machine's, with one node as the facts have shown it so far.
use Rattle.std.proofs.Common.{◌≡◌, ◌≢◌, ℕ, ◌+◌, ◌⊎◌, inl, inr, List, [], length, map, sym, ap, subst, ◌∙◌, refl, true, false, true≢false, arith}
use Rattle.std.specs.Prelude.{Bool, nat_lt, fold, Option, Some, None, slice_index_or, if◌then◌else◌}
use Rattle.std.specs.List.{slice_get}
use Rattle.std.specs.Option.{option_map}
use Rattle.yard_model.specs.declared.fact.Fact.{Fact}
use Rattle.yard_model.specs.declared.fact.Fact.TheVariants as fact
use Rattle.yard_model.specs.declared.charter.Line.{Line}
use Rattle.yard_model.specs.declared.packet.Body.{Body}
use Rattle.yard_model.specs.declared.packet.Body.TheVariants as body
use Rattle.yard_model.specs.declared.packet.Packet.{Packet}
use Rattle.yard_model.specs.declared.incarnation.Incarnation.{Incarnation}
use Rattle.yard_model.specs.Script.{Setting}
use Rattle.yard_model.specs.Words.{at, is_at, is_same}
use Rattle.yard_model.specs.Node.{Node, after}
use Rattle.yard_model.specs.Queries.{Known, know, know_node, know_world, ordered_by, views_step, actor, show}
use Rattle.yard_model.specs.World.{World, world_after, nodes_step}
use Rattle.plain_laws.proofs.Members.{same_is, itself_is}
use Rattle.plain_laws.proofs.Lists.{last_or_before}
use Rattle.query_laws.proofs.Nodes.{at_map, length_map}
use Rattle.node_laws.proofs.NodeParts.{who_stays}

-- What a fact does to what is known.

abbrev pub without_nodes : World → World
without_nodes w = record w { nodes = [] }

-- a fact by which no node comes up or goes down, and that orders no send
pub record IsPlain (k : Known) (f : Fact) : Type 0 where
  pub ordered : (v : World) → ordered_by k f v ≡ v
  pub still : (set : Setting) (version : ℕ) (old : List (Option Node)) → nodes_step set version old f ≡ old
  pub unseen : (w : World) (old : List (List Incarnation)) → views_step w old f ≡ old

pub rest_after : (k : Known) (w : World) (f : Fact) → ((v : World) → ordered_by k f v ≡ v) → without_nodes k.world ≡ without_nodes w → without_nodes (know k f).world ≡ without_nodes (world_after w f)
rest_after k w f ordered rest = ap (λ v. without_nodes (world_after v f)) (ordered (know_world k f)) ∙ ap (λ v. without_nodes (world_after v f)) rest

pub nodes_after : (k : Known) (f : Fact) → IsPlain k f → (know k f).world.nodes ≡ map (option_map (know_node k f (actor k f))) k.world.nodes
nodes_after k f p = ap (λ v. (world_after v f).nodes) (p.ordered (know_world k f)) ∙ p.still k.world.set k.world.behaviour (map (option_map (know_node k f (actor k f))) k.world.nodes)

-- at any place
pub at_after : (k : Known) (f : Fact) → IsPlain k f → (j : ℕ) → at (know k f).world.nodes j ≡ option_map (know_node k f (actor k f)) (at k.world.nodes j)
at_after k f p j = ap (λ l. at l j) (nodes_after k f p) ∙ at_map (know_node k f (actor k f)) k.world.nodes j

pub size_after : (k : Known) (w : World) (f : Fact) → IsPlain k f → length k.world.nodes ≡ length w.nodes → length (know k f).world.nodes ≡ length (world_after w f).nodes
size_after k w f p size = ap length (nodes_after k f p) ∙ (length_map (option_map (know_node k f (actor k f))) k.world.nodes ∙ (size ∙ sym (ap length (p.still w.set w.behaviour w.nodes))))

chosen : {A : Type 0} (b : Bool) (x y : A) → b ≡ true → (if b then x else y) ≡ x
chosen true x y e = refl
chosen false x y e = absurd (true≢false (sym e))

left : {A : Type 0} (b : Bool) (x y : A) → b ≡ false → (if b then x else y) ≡ y
left false x y e = refl
left true x y e = absurd (true≢false e)

-- the node that acts is shown
pub know_actor : (k : Known) (f : Fact) (st : Node) → actor k f ≡ Some st.who → know_node k f (actor k f) st ≡ fold after st (show k f st)
know_actor k f st e = ap (λ o. if is_at st.who o then fold after st (show k f st) else st) e ∙ chosen (is_same st.who st.who) (fold after st (show k f st)) st (itself_is st.who st.who refl)

-- and no other
pub know_other : (k : Known) (f : Fact) (x : Incarnation) (st : Node) → actor k f ≡ Some x → is_same st.who x ≡ false → know_node k f (actor k f) st ≡ st
know_other k f x st e other = ap (λ o. if is_at st.who o then fold after st (show k f st) else st) e ∙ left (is_same st.who x) (fold after st (show k f st)) st other

pub know_none : (k : Known) (f : Fact) (st : Node) → actor k f ≡ None → know_node k f (actor k f) st ≡ st
know_none k f st e = ap (λ o. if is_at st.who o then fold after st (show k f st) else st) e

-- Views.

abbrev pub IsViewOf : List (List Incarnation) → Body → Type 0
IsViewOf views (body.View v xs) = (nat_lt v (length views) ≡ true) × (slice_index_or views v [] ≡ xs)
IsViewOf views b = Unit {0}

-- the members at each version so far, and each view that was posted is one of them
pub record KnowsViews (views : List (List Incarnation)) (w : World) : Type 0 where
  pub count : length views ≡ w.version + 1
  pub now : slice_index_or views w.version [] ≡ w.members
  pub posted : (j : ℕ) (p : Packet) → slice_get w.wire j ≡ Some p → IsViewOf views p.body

pub knows_sent : (views : List (List Incarnation)) (w : World) (n : ℕ) (p : Packet) → KnowsViews views w → IsViewOf views p.body → KnowsViews views (world_after w (fact.Sent n p))
knows_sent views w n p h b = record { count = h.count; now = h.now; posted = λ j q e. by j q (last_or_before w.wire p q j e) }
  where
    by : (j : ℕ) (q : Packet) → (slice_get w.wire j ≡ Some q) ⊎ (p ≡ q) → IsViewOf views q.body
    by j q (inl x) = h.posted j q x
    by j q (inr same) = subst (λ (y : Packet). IsViewOf views y.body) same b

-- Along.

pub record Along (orders : List Line) (views : List (List Incarnation)) (who : Incarnation) (i : ℕ) (k : Known) (w : World) (st : Node) : Type 0 where
  pub orders_are : k.orders ≡ orders
  pub views_are : k.views ≡ views
  pub rest_is : without_nodes k.world ≡ without_nodes w
  pub size : length k.world.nodes ≡ length w.nodes
  pub mine : at k.world.nodes i ≡ Some st
  pub others : (j : ℕ) → j ≢ i → at k.world.nodes j ≡ at w.nodes j
  pub who_is : st.who ≡ who
  pub place : who.node ≡ i + 1
  pub placed : (j : ℕ) (x : Node) → at w.nodes j ≡ Some x → x.who.node ≡ j + 1
  pub knows : KnowsViews views w

pub along_by : (orders : List Line) (views : List (List Incarnation)) (who : Incarnation) (i : ℕ) (k : Known) (w : World) (st later : Node) (f : Fact) → IsPlain k f → Along orders views who i k w st
    → later.who ≡ st.who → know_node k f (actor k f) st ≡ later
    → ((j : ℕ) (x : Node) → j ≢ i → at w.nodes j ≡ Some x → know_node k f (actor k f) x ≡ x)
    → KnowsViews views (world_after w f)
    → Along orders views who i (know k f) (world_after w f) later
along_by orders views who i k w st later f p a same mine others knows = record {
  orders_are = a.orders_are;
  views_are = p.unseen (world_after (ordered_by k f (know_world k f)) f) k.views ∙ a.views_are;
  rest_is = rest_after k w f p.ordered a.rest_is;
  size = size_after k w f p a.size;
  mine = at_after k f p i ∙ (ap (option_map (know_node k f (actor k f))) a.mine ∙ ap Some mine);
  others = λ j ne. at_after k f p j ∙ (ap (option_map (know_node k f (actor k f))) (a.others j ne) ∙ (other j ne (at w.nodes j) refl ∙ sym (ap (λ l. at l j) (p.still w.set w.behaviour w.nodes))));
  who_is = same ∙ a.who_is;
  place = a.place;
  placed = λ j x e. a.placed j x (sym (ap (λ l. at l j) (p.still w.set w.behaviour w.nodes)) ∙ e);
  knows = knows;
}
  where
    other : (j : ℕ) → j ≢ i → (o : Option Node) → at w.nodes j ≡ o → option_map (know_node k f (actor k f)) o ≡ o
    other j ne None e = refl
    other j ne (Some x) e = ap Some (others j x ne e)

-- the node of this incarnation told it
pub along_shown : (orders : List Line) (views : List (List Incarnation)) (who : Incarnation) (i : ℕ) (k : Known) (w : World) (st : Node) (f : Fact) → IsPlain k f → Along orders views who i k w st
    → actor k f ≡ Some who → KnowsViews views (world_after w f)
    → Along orders views who i (know k f) (world_after w f) (fold after st (show k f st))
along_shown orders views who i k w st f p a acts knows =
    along_by orders views who i k w st (fold after st (show k f st)) f p a (who_stays st (show k f st)) (know_actor k f st (acts ∙ ap Some (sym a.who_is)))
    (λ j x ne e. know_other k f who x acts (differs j x ne e (is_same x.who who) refl)) knows
  where
    differs : (j : ℕ) (x : Node) → j ≢ i → at w.nodes j ≡ Some x → (b : Bool) → is_same x.who who ≡ b → is_same x.who who ≡ false
    differs j x ne e false h = h
    differs j x ne e true h = absurd (ne (same_place j (sym (a.placed j x e) ∙ (ap (λ (y : Incarnation). y.node) (same_is x.who who h) ∙ a.place))))
      where
        same_place : (j : ℕ) → j + 1 ≡ i + 1 → j ≡ i
        same_place j e = omega (arith, e)

-- nobody in particular told it
pub along_free : (orders : List Line) (views : List (List Incarnation)) (who : Incarnation) (i : ℕ) (k : Known) (w : World) (st : Node) (f : Fact) → IsPlain k f → Along orders views who i k w st
    → actor k f ≡ None → KnowsViews views (world_after w f)
    → Along orders views who i (know k f) (world_after w f) st
along_free orders views who i k w st f p a none knows = along_by orders views who i k w st st f p a refl (know_none k f st none) (λ j x ne e. know_none k f x none) knows

-- Items.

pub plain : (k : Known) (f : Fact) → ((v : World) → ordered_by k f v ≡ v) → ((set : Setting) (version : ℕ) (old : List (Option Node)) → nodes_step set version old f ≡ old) → ((w : World) (old : List (List Incarnation)) → views_step w old f ≡ old) → IsPlain k f
plain k f a b c = record { ordered = a; still = b; unseen = c }
