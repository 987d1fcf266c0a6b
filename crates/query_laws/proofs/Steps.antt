-- What each step of the world tells, the queries answer.
use Rattle.std.proofs.Common.{◌≡◌, ℕ, zero, suc, ◌+◌, ◌-◌, ◌<◌, List, [], ◌∷◌, ◌++◌, length, map, sym, ap, ap₂, subst, ◌∙◌, refl, true, false, arith}
use Rattle.std.specs.Prelude.{Bool, nat_lt, fold, Option, Some, None, slice_index_or, slice_set, if◌then◌else◌}
use Rattle.std.specs.List.{slice_get}
use Rattle.std.specs.Option.{option_map}
use Rattle.std.proofs.lemmas.Bool.Decides.{nat_tests}
use Rattle.std.proofs.lemmas.List.Sums.{fold-append}
use Rattle.std.proofs.lemmas.List.{length-set}
use Rattle.yard_model.specs.declared.fact.Fact.{Fact}
use Rattle.yard_model.specs.declared.fact.Fact.TheVariants as fact
use Rattle.yard_model.specs.declared.out.Item.{Item}
use Rattle.yard_model.specs.declared.out.Item.TheVariants as item
use Rattle.yard_model.specs.declared.charter.Line.{Line}
use Rattle.yard_model.specs.declared.packet.Body.{Body}
use Rattle.yard_model.specs.declared.packet.Body.TheVariants as body
use Rattle.yard_model.specs.declared.packet.Packet.{Packet}
use Rattle.yard_model.specs.declared.incarnation.Incarnation.{Incarnation}
use Rattle.yard_model.specs.Words.{at, is_same}
use Rattle.yard_model.specs.Move.{made}
use Rattle.yard_model.specs.Node.{Node, after}
use Rattle.yard_model.specs.Queries.{Known, know, know_node, know_world, ordered_by, actor, show, posted}
use Rattle.yard_model.specs.World as world
use Rattle.yard_model.specs.World.{World, Made, world_after, tell, numbered, count_posts, with_node}
use Rattle.plain_laws.proofs.Lists.{inside, placed_at, placed_beside, by_place}
use Rattle.query_laws.proofs.Nodes.{same_table}
use Rattle.query_laws.proofs.ShowBase.{same_some}
use Rattle.query_laws.proofs.Along.{KnowsViews, IsViewOf, Along, know_none, knows_sent}

-- The queries' world is the machine's.

pub record Agree (orders : List Line) (k : Known) (w : World) : Type 0 where
  pub orders_are : k.orders ≡ orders
  pub world_is : k.world ≡ w
  pub knows : KnowsViews k.views w

-- what a step tells keeps it so
abbrev pub IsKnown : List Line → World → Made → Type 0
IsKnown orders w m = (k : Known) → Agree orders k w → Agree orders (fold know k m.facts) m.world

-- A fact that shows nothing of any node.

map_same : (g : Node → Node) (xs : List (Option Node)) → ((j : ℕ) (x : Node) → at xs j ≡ Some x → g x ≡ x) → map (option_map g) xs ≡ xs
map_same g [] h = refl
map_same g (None ∷ xs) h = ap (λ l. None ∷ l) (map_same g xs (λ j. h (suc j)))
map_same g (Some x ∷ xs) h = ap₂ (λ a l. Some a ∷ l) (h 0 x refl) (map_same g xs (λ j. h (suc j)))

pub still_known : (k : Known) (f : Fact) → ((j : ℕ) (x : Node) → at k.world.nodes j ≡ Some x → know_node k f (actor k f) x ≡ x) → know_world k f ≡ k.world
still_known k f h = ap (λ l. record k.world { nodes = l }) (map_same (know_node k f (actor k f)) k.world.nodes h)

pub agree_still : (orders : List Line) (k : Known) (w : World) (f : Fact) → Agree orders k w → know_world k f ≡ k.world → ordered_by k f k.world ≡ k.world
    → KnowsViews (know k f).views (world_after w f) → Agree orders (know k f) (world_after w f)
agree_still orders k w f a still ordered views = record {
  orders_are = a.orders_are;
  world_is = ap (λ v. world_after (ordered_by k f v) f) still ∙ (ap (λ v. world_after v f) ordered ∙ ap (λ v. world_after v f) a.world_is);
  knows = views;
}

pub nobody_acts : (k : Known) (f : Fact) → actor k f ≡ None → know_world k f ≡ k.world
nobody_acts k f e = still_known k f (λ j x h. know_none k f x e)

-- Views.

front : (views : List (List Incarnation)) (m : List Incarnation) (v : ℕ) → nat_lt v (length views) ≡ true → slice_index_or (views ++ m ∷ []) v [] ≡ slice_index_or views v []
front [] m v h = absurd (none_below v h)
  where
    none_below : (v : ℕ) → nat_lt v 0 ≡ true → ⊥
    none_below v h = grind (arith, nat_tests)
front (x ∷ xs) m zero h = refl
front (x ∷ xs) m (suc v) h = front xs m v (less v (length xs) h)
  where
    less : (a b : ℕ) → nat_lt (suc a) (suc b) ≡ true → nat_lt a b ≡ true
    less a b h = grind (arith, nat_tests)

last : (views : List (List Incarnation)) (m : List Incarnation) → slice_index_or (views ++ m ∷ []) (length views) [] ≡ m
last [] m = refl
last (x ∷ xs) m = last xs m

length_more : {A : Type 0} (xs : List A) (x : A) → length (xs ++ x ∷ []) ≡ length xs + 1
length_more [] x = refl
length_more (y ∷ ys) x = let e : length (ys ++ x ∷ []) ≡ length ys + 1 = length_more ys x in omega (arith, e)

pub view_more : (views : List (List Incarnation)) (m : List Incarnation) (b : Body) → IsViewOf views b → IsViewOf (views ++ m ∷ []) b
view_more views m (body.View v xs) h = (below v (length views) (length (views ++ m ∷ [])) h.0 (length_more views m), front views m v h.0 ∙ h.1)
  where
    below : (a b c : ℕ) → nat_lt a b ≡ true → c ≡ b + 1 → nat_lt a c ≡ true
    below a b c h e = grind (arith, nat_tests)
view_more views m b h = tt

-- a version more
pub knows_more : (views : List (List Incarnation)) (w v : World) → KnowsViews views w → v.version ≡ w.version + 1 → v.wire ≡ w.wire → KnowsViews (views ++ v.members ∷ []) v
knows_more views w v h version wire = record {
  count = length_more views v.members ∙ (ap (λ n. n + 1) h.count ∙ ap (λ n. n + 1) (sym version));
  now = ap (λ n. slice_index_or (views ++ v.members ∷ []) n []) (version ∙ sym h.count) ∙ last views v.members;
  posted = λ j p e. view_more views v.members p.body (h.posted j p (ap (λ l. slice_get l j) (sym wire) ∙ e));
}

pub up_known : (orders : List Line) (w : World) (x : Incarnation) → IsKnown orders w (tell (fact.Up x ∷ []) w)
up_known orders w x k a =
    let f : Fact = fact.Up x in
    let same : world_after (know_world k f) f ≡ world_after w f = ap (λ v. world_after v f) (nobody_acts k f refl ∙ a.world_is) in
    agree_still orders k w f a (nobody_acts k f refl) refl
    (subst (λ ms. KnowsViews (k.views ++ ms ∷ []) (world_after w f)) (ap (λ v. v.members) (sym same)) (knows_more k.views w (world_after w f) a.knows refl refl))

pub gone_known : (orders : List Line) (w : World) (x : Incarnation) → IsKnown orders w (tell (fact.Gone x ∷ []) w)
gone_known orders w x k a =
    let f : Fact = fact.Gone x in
    let same : world_after (know_world k f) f ≡ world_after w f = ap (λ v. world_after v f) (nobody_acts k f refl ∙ a.world_is) in
    agree_still orders k w f a (nobody_acts k f refl) refl
    (subst (λ ms. KnowsViews (k.views ++ ms ∷ []) (world_after w f)) (ap (λ v. v.members) (sym same)) (knows_more k.views w (world_after w f) a.knows refl refl))

-- a view that is posted shows nothing of its sender
view_shows : (k : Known) (st : Node) (n v : ℕ) (x y : Incarnation) (xs : List Incarnation) → fold after st (show k (fact.Sent n (record { from = x; to = y; body = body.View v xs })) st) ≡ st
view_shows k st n v x y xs = ap (λ o. record st { coordinator = o }) (same_some (made (item.Post (record { from = x; to = y; body = body.View v xs }))) st.coordinator (λ h. refl))

view_known : (orders : List Line) (w : World) (n v : ℕ) (x y : Incarnation) (xs : List Incarnation) (k : Known) → Agree orders k w → IsViewOf k.views (body.View v xs)
    → Agree orders (know k (fact.Sent n (record { from = x; to = y; body = body.View v xs }))) (world_after w (fact.Sent n (record { from = x; to = y; body = body.View v xs })))
view_known orders w n v x y xs k a of =
    let p : Packet = record { from = x; to = y; body = body.View v xs } in
    let f : Fact = fact.Sent n p in
    agree_still orders k w f a (still_known k f (λ j st h. either st (is_same st.who x) refl)) refl (knows_sent k.views w n p a.knows of)
  where
    either : (st : Node) (b : Bool) → is_same st.who x ≡ b → know_node k (fact.Sent n (record { from = x; to = y; body = body.View v xs })) (Some x) st ≡ st
    either st false e = ap (λ b. if b then fold after st (show k (fact.Sent n (record { from = x; to = y; body = body.View v xs })) st) else st) e
    either st true e = ap (λ b. if b then fold after st (show k (fact.Sent n (record { from = x; to = y; body = body.View v xs })) st) else st) e ∙ view_shows k st n v x y xs

-- views to these members, where so many packets were posted
posts_known : (orders : List Line) (limit v : ℕ) (xs ys : List Incarnation) (n : ℕ) (w : World) (k : Known) → Agree orders k w → IsViewOf k.views (body.View v xs)
    → let fs : List Fact = numbered limit n (map (λ x. item.Post (record { from = x; to = x; body = body.View v xs })) ys) in Agree orders (fold know k fs) (fold world_after w fs)
posts_known orders limit v xs [] n w k a of = a
posts_known orders limit v xs (y ∷ ys) n w k a of = sent (nat_lt n limit) (λ x j b t. posts_known orders limit v xs ys (n + 1) x j b t)
  where
    p : Packet
    p = record { from = y; to = y; body = body.View v xs }

    more : List Fact
    more = numbered limit (n + 1) (map (λ x. item.Post (record { from = x; to = x; body = body.View v xs })) ys)

    sent : (b : Bool) → ((x : World) (j : Known) → Agree orders j x → IsViewOf j.views (body.View v xs) → Agree orders (fold know j more) (fold world_after x more))
        → let fs : List Fact = (if b then fact.Sent (n + 1) p ∷ [] else []) ++ more in Agree orders (fold know k fs) (fold world_after w fs)
    sent true rest = rest (world_after w (fact.Sent (n + 1) p)) (know k (fact.Sent (n + 1) p)) (view_known orders w (n + 1) v y y xs k a of) of
    sent false rest = rest w k a of

full_known : (orders : List Line) (w : World) (b : Bool) (k : Known) → Agree orders k w → let fs : List Fact = if b then fact.WireFull ∷ [] else [] in Agree orders (fold know k fs) (fold world_after w fs)
full_known orders w false k a = a
full_known orders w true k a = agree_still orders k w fact.WireFull a (nobody_acts k fact.WireFull refl) refl (record { count = a.knows.count; now = a.knows.now; posted = a.knows.posted })

pub views_known : (orders : List Line) (w : World) → IsKnown orders w (world.views w)
views_known orders w k a =
    let is : List Item = map (λ x. item.Post (record { from = x; to = x; body = body.View w.version w.members })) w.members in
    let fs : List Fact = numbered w.limit (length w.wire) is in
    let b : Bool = nat_lt w.limit (fold count_posts (length w.wire) is) in
    let of : IsViewOf k.views (body.View w.version w.members) = (below w.version (length k.views) a.knows.count, a.knows.now) in
    subst (λ j. Agree orders j (fold world_after w (fs ++ (if b then fact.WireFull ∷ [] else [])))) (sym (fold-append know k fs (if b then fact.WireFull ∷ [] else [])))
    (subst (λ v. Agree orders (fold know (fold know k fs) (if b then fact.WireFull ∷ [] else [])) v) (sym (fold-append world_after w fs (if b then fact.WireFull ∷ [] else [])))
    (full_known orders (fold world_after w fs) b (fold know k fs) (posts_known orders w.limit w.version w.members w.members (length w.wire) w k a of)))
  where
    below : (a b : ℕ) → b ≡ a + 1 → nat_lt a b ≡ true
    below a b e = grind (arith, nat_tests)

-- Deliveries.

pub posted_is : (orders : List Line) (k : Known) (w : World) (j : ℕ) (p : Packet) → Agree orders k w → nat_lt w.past (suc j) ≡ true → slice_get w.wire j ≡ Some p → posted k.world (suc j) ≡ Some p
posted_is orders k w j p a since e =
    ap (λ (v : World). posted v (suc j)) a.world_is ∙ (ap (λ b. if b then slice_get w.wire (suc j - 1) else None) since ∙ (ap (slice_get w.wire) (before j) ∙ e))
  where
    before : (j : ℕ) → suc j - 1 ≡ j
    before j = omega arith

-- a packet from before the number of shards last changed
pub posted_before : (orders : List Line) (k : Known) (w : World) (j : ℕ) → Agree orders k w → nat_lt w.past (suc j) ≡ false → posted k.world (suc j) ≡ None
posted_before orders k w j a since = ap (λ (v : World). posted v (suc j)) a.world_is ∙ ap (λ b. if b then slice_get w.wire (suc j - 1) else None) since

-- after them
pub along_last : (orders : List Line) (views : List (List Incarnation)) (who : Incarnation) (i : ℕ) (k : Known) (w : World) (st : Node) → Along orders views who i k w st → Agree orders k (with_node st w)
along_last orders views who i k w st a = record {
  orders_are = a.orders_are;
  world_is = ap₂ (λ (v : World) (l : List (Option Node)). record v { nodes = l }) a.rest_is (same_table k.world.nodes (slice_set w.nodes (st.who.node - 1) (Some st)) (a.size ∙ sym (length-set w.nodes (st.who.node - 1) (Some st))) same);
  knows = subst (λ vs. KnowsViews vs (with_node st w)) (sym a.views_are) (record { count = a.knows.count; now = a.knows.now; posted = a.knows.posted });
}
  where
    back : (a b : ℕ) → a ≡ b + 1 → a - 1 ≡ b
    back a b e = omega (arith, e)

    place : st.who.node - 1 ≡ i
    place = back st.who.node i (ap (λ (x : Incarnation). x.node) a.who_is ∙ a.place)

    less : i < length w.nodes
    less = subst (λ n. i < n) a.size (inside k.world.nodes i st a.mine)

    same : (j : ℕ) → at k.world.nodes j ≡ at (slice_set w.nodes (st.who.node - 1) (Some st)) j
    same j = subst (λ m. at k.world.nodes j ≡ at (slice_set w.nodes m (Some st)) j) (sym place)
        (by_place (at k.world.nodes j ≡ at (slice_set w.nodes i (Some st)) j) j i
        (λ e. ap (at k.world.nodes) e ∙ (a.mine ∙ (sym (placed_at w.nodes i (Some st) less) ∙ ap (at (slice_set w.nodes i (Some st))) (sym e))))
        (λ ne. a.others j ne ∙ sym (placed_beside w.nodes i j (Some st) ne)))
