-- A shard that starts: what its grant, or its home, shows of the kept messages at once, the release does one by one.
use Rattle.std.proofs.Common.{◌≡◌, ℕ, ◌+◌, List, [], ◌∷◌, ◌++◌, map, sym, ap, ap₂, subst, ◌∙◌, refl, true, false, true≢false}
use Rattle.std.specs.Prelude.{Bool, ◌==◌, ◌&&◌, ◌||◌, not, drop, filter, fold, Option, Some, None, is_none, slice_set, if◌then◌else◌}
use Rattle.std.specs.List.{list_all, flat_map}
use Rattle.std.specs.Option.{option_map}
use Rattle.std.proofs.lemmas.Grind.{flat_map-append}
use Rattle.std.proofs.lemmas.List.{append-nil}
use Rattle.std.proofs.lemmas.List.Sums.{fold-append}
use Rattle.yard_model.specs.declared.fact.Fact.{Fact}
use Rattle.yard_model.specs.declared.fact.Fact.TheVariants as fact
use Rattle.yard_model.specs.declared.out.Item.TheVariants as item
use Rattle.yard_model.specs.declared.packet.Body.TheVariants as body
use Rattle.yard_model.specs.declared.packet.Message.{Message}
use Rattle.yard_model.specs.declared.incarnation.Incarnation.{Incarnation}
use Rattle.yard_model.specs.declared.incarnation.Slot.TheVariants as slot
use Rattle.yard_model.specs.declared.incarnation.Stamp.{Stamp}
use Rattle.yard_model.specs.Entities as entities
use Rattle.yard_model.specs.Entities.{Entities, Hosted, hosted, entities_after, is_running_in}
use Rattle.yard_model.specs.Move.{Move, took, marked, released, told, post, item_of}
use Rattle.yard_model.specs.Node.{Node, Act, by_region, by_entities, move_of, after, items_of, of_region, all_in_turn, route, release, acquire, acquire_by, start, start_again, shard_home, host_shard}
use Rattle.yard_model.specs.Producer.{Producer}
use Rattle.yard_model.specs.Queries.{Known, show_released, show_got}
use Rattle.yard_model.specs.Region as region
use Rattle.yard_model.specs.Region.{Region, is_routable, is_home, home, kept_of}
use Rattle.yard_model.specs.Script.{Setting}
use Rattle.yard_model.specs.Setting.{shard_of, names_of}
use Rattle.yard_model.specs.Coordinator.{coordinator_after}
use Rattle.yard_model.specs.SlotLists.{SlotLists, shard_list}
use Rattle.yard_model.specs.SlotReads.{holder, epoch, is_remembered}
use Rattle.yard_model.specs.Turns.{in_turn, for_each}
use Rattle.yard_model.specs.Words.{is_at, is_same, at}
use Rattle.plain_laws.proofs.Booleans.{and_both, both, same_number}
use Rattle.plain_laws.proofs.Members.{same_is, same_itself}
use Rattle.plain_laws.proofs.Lists.{by_place, all_if, all_each, of_write}
use Rattle.yard_laws.proofs.PartsLaws.{region_alone, entities_alone}
use Rattle.query_laws.specs.Shown.{AreCalm, IsTidy, shown}
use Rattle.query_laws.proofs.ShowBase.{AreShownBeside, with_producers, known_on, shown_append, same_some}
use Rattle.query_laws.proofs.ShowEntities as showing
use Rattle.query_laws.proofs.ShowEntities.{entities_shown}
use Rattle.query_laws.proofs.ShowRegion.{region_shown}
use Rattle.query_laws.proofs.ShowMoves.{set_itself, set_again, set_reads, calm_all, is_calming, is_staying, runs_same}
use Rattle.node_laws.proofs.NodeStarts.{not_hosted}

-- The node with the kept messages of a shard taken out, where it is routable.

abbrev is_open : ℕ → Node → Bool
is_open s st = is_routable st.region s (entities.is_running st.entities s)

abbrev kept_when : Bool → ℕ → List (List Message) → List (List Message)
kept_when b s kept = if b then slice_set kept s [] else kept

abbrev pub emptied : ℕ → Node → Node
emptied s st = record st { region = record st.region { kept = kept_when (is_open s st) s st.region.kept } }

-- what a fact shows of it
released_each : (s : ℕ) (ms : List Message) (st : Node) → kept_of st.region.kept s ≡ ms → fold after st (map (λ m. by_region (released s)) ms) ≡ record st { region = record st.region { kept = slice_set st.region.kept s [] } }
released_each s [] st e = ap (λ kept. record st { region = record st.region { kept = kept } }) (sym (set_itself st.region.kept s []) ∙ ap (slice_set st.region.kept s) e)
released_each s (m ∷ ms) st e =
    let left : List Message = drop 1 (kept_of st.region.kept s) in
    released_each s ms (after st (by_region (released s))) (set_reads (drop 1) st.region.kept s [] refl ∙ ap (drop 1) e)
    ∙ ap (λ kept. record st { region = record st.region { kept = kept } }) (set_again st.region.kept s left [])

released_shown : (s : ℕ) (st : Node) → fold after st (show_released s st) ≡ emptied s st
released_shown s st = by (is_open s st)
  where
    by : (b : Bool) → fold after st (if b then map (λ m. by_region (released s)) (kept_of st.region.kept s) else []) ≡ record st { region = record st.region { kept = kept_when b s st.region.kept } }
    by true = released_each s (kept_of st.region.kept s) st refl
    by false = refl

-- Acts that lead such a node to such a node.

abbrev IsAhead : Known → ℕ → Node → List Act → Type 0
IsAhead k s st acts = (ps : List (Option Producer)) → shown k (with_producers ps (emptied s st)) (items_of acts) ≡ with_producers ps (emptied s (fold after st acts))

-- a message of this shard
abbrev pub is_of : Setting → ℕ → Message → Bool
is_of set s m = shard_of set m.entity == s

-- tidy but for the kept messages of a shard
pub record IsTidyBeside (s : ℕ) (st : Node) : Type 0 where
  pub set_is : st.region.set ≡ st.set
  pub routed : (t : ℕ) → (t ≡ s → ⊥) → is_open t st ≡ true → kept_of st.region.kept t ≡ []
  pub started : AreCalm st.entities
  pub kept : (t : ℕ) → list_all (is_of st.set t) (kept_of st.region.kept t) ≡ true

pub record Goes (k : Known) (s : ℕ) (st : Node) (acts : List Act) : Type 0 where
  pub ahead : IsAhead k s st acts
  pub tidy : IsTidyBeside s (fold after st acts)

goes_none : (k : Known) (s : ℕ) (st : Node) → IsTidyBeside s st → Goes k s st []
goes_none k s st tidy = record { ahead = λ ps. refl; tidy = tidy }

goes_both : (k : Known) (s : ℕ) (st : Node) (xs ys : List Act) → Goes k s st xs → Goes (known_on k (items_of xs)) s (fold after st xs) ys → Goes k s st (xs ++ ys)
goes_both k s st xs ys f g = record {
  ahead = λ ps. ap (shown k (with_producers ps (emptied s st))) (flat_map-append (λ a. item_of (move_of a)) xs ys)
      ∙ (shown_append k (with_producers ps (emptied s st)) (items_of xs) (items_of ys)
      ∙ (ap (λ n. shown (known_on k (items_of xs)) n (items_of ys)) (f.ahead ps) ∙ (g.ahead ps ∙ ap (λ n. with_producers ps (emptied s n)) (sym (fold-append after st xs ys)))));
  tidy = subst (IsTidyBeside s) (sym (fold-append after st xs ys)) g.tidy;
}

-- the entities' moves that leave which shards are Running
goes_entities : (k : Known) (s : ℕ) (st : Node) (ms : List Move) → IsTidyBeside s st → list_all (showing.is_shown_move k.packet) ms ≡ true → list_all is_staying ms ≡ true → AreCalm (fold entities_after st.entities ms) → Goes k s st (map by_entities ms)
goes_entities k s st ms tidy moves stays calm =
    let later : Entities = fold entities_after st.entities ms in
    record {
      ahead = λ ps. entities_shown k (emptied s st) ms moves ps
          ∙ ap (with_producers ps) (entities_alone (emptied s st) ms
          ∙ (ap (λ b. record st { entities = later; region = record st.region { kept = kept_when (is_routable st.region s b) s st.region.kept } }) (sym (runs_same st.entities ms s stays))
          ∙ sym (ap (emptied s) (entities_alone st ms))));
      tidy = subst (IsTidyBeside s) (sym (entities_alone st ms)) (record {
        set_is = tidy.set_is;
        routed = λ t other now. tidy.routed t other (ap (is_routable st.region t) (sym (runs_same st.entities ms t stays)) ∙ now);
        started = calm;
        kept = tidy.kept;
      });
    }

-- posts that leave the region as it is

goes_answer : (k : Known) (s : ℕ) (st : Node) (from to : Incarnation) → IsTidyBeside s st → Goes k s st (by_region (post from to (body.ShardStarted s)) ∷ [])
goes_answer k s st from to tidy = record {
  ahead = λ ps. region_shown k (emptied s st) (post from to (body.ShardStarted s) ∷ []) tidy.started refl ps;
  tidy = record { set_is = tidy.set_is; routed = tidy.routed; started = tidy.started; kept = tidy.kept };
}

goes_sent : (k : Known) (s : ℕ) (st : Node) (from to : Incarnation) (m : Message) → IsTidyBeside s st → Goes k s st (by_region (post from to (body.Sequenced m)) ∷ [])
goes_sent k s st from to m tidy = record {
  ahead = λ ps. region_shown k (emptied s st) (post from to (body.Sequenced m) ∷ []) tidy.started refl ps;
  tidy = record { set_is = tidy.set_is; routed = tidy.routed; started = tidy.started; kept = tidy.kept };
}

-- The start.

-- the shard is taken by the list that the queries know
abbrev grant_of : ℕ → Incarnation → List Fact → Fact
grant_of s who list = fact.Granted (slot.Shard s) (epoch list + 1) who

taken_others : (s t : ℕ) (old : List (Option Hosted)) (list : List Fact) → (t ≡ s → ⊥) → is_running_in (at (slice_set old s (Some (record { entries = list; stopping = None }))) t) ≡ is_running_in (at old t)
taken_others s t old list other = of_write (λ o. is_running_in o ≡ is_running_in (at old t)) old s t (Some (record { entries = list; stopping = None })) None (λ same. absurd (other same)) refl

-- a shard that is routable while it isn't Running is so once it runs
routable_more : (none at_home now later : Bool) → now ≡ false → (if none then false else not at_home || now) ≡ true → (if none then false else not at_home || later) ≡ true
routable_more true at_home now later e h = absurd (true≢false (sym h))
routable_more false false now later e h = refl
routable_more false true now later e h = absurd (true≢false (sym h ∙ e))

emptied_twice : (a b : Bool) (s : ℕ) (kept : List (List Message)) → (a ≡ true → b ≡ true) → kept_when b s (kept_when a s kept) ≡ kept_when b s kept
emptied_twice false b s kept h = refl
emptied_twice true true s kept h = set_again kept s [] []
emptied_twice true false s kept h = absurd (true≢false (sym (h refl)))

not_running : (o : Option Hosted) → o ≡ None → is_running_in o ≡ false
not_running o e = ap is_running_in e

goes_granted : (k : Known) (s : ℕ) (st : Node) (list : List Fact) → IsTidyBeside s st → hosted st.entities s ≡ None → shard_list k.world.lists s ≡ list → let f : Fact = grant_of s st.who list in Goes k s st (by_entities (told f) ∷ by_entities (took (slot.Shard s) (list ++ f ∷ [])) ∷ [])
goes_granted k s st list tidy none known = record {
  ahead = λ ps.
      released_shown s (given ps (shard_list k.world.lists s))
      ∙ (ap (λ l. emptied s (given ps l)) known
      ∙ ap₂ (λ kept o. record st { producers = ps; entities = taken list; region = record st.region { kept = kept }; coordinator = o })
      (emptied_twice (is_open s st) (is_routable st.region s (entities.is_running (taken list) s)) s st.region.kept (more list))
      (same_some (told f) st.coordinator (λ x. refl)));
  tidy = record {
    set_is = tidy.set_is;
    routed = λ t other now. tidy.routed t other (ap (is_routable st.region t) (sym (taken_others s t st.entities.hosted (list ++ f ∷ []) other)) ∙ now);
    started = calm_all st.entities (told f ∷ took (slot.Shard s) (list ++ f ∷ []) ∷ []) refl tidy.started;
    kept = tidy.kept;
  };
}
  where
    f : Fact
    f = grant_of s st.who list

    taken : List Fact → Entities
    taken l = entities_after (entities_after st.entities (told f)) (took (slot.Shard s) (l ++ f ∷ []))

    -- as the grant shows it
    given : List (Option Producer) → List Fact → Node
    given ps l = record (with_producers ps (emptied s st)) { entities = taken l; coordinator = option_map (λ k. coordinator_after k (told f)) st.coordinator }

    more : (l : List Fact) → is_open s st ≡ true → is_routable st.region s (entities.is_running (taken l) s) ≡ true
    more l h = routable_more (is_none (home st.region s)) (is_home st.region s) (entities.is_running st.entities s) (entities.is_running (taken l) s) (not_running (hosted st.entities s) none) h

goes_acquired : (k : Known) (s : ℕ) (st : Node) (list : List Fact) → IsTidyBeside s st → hosted st.entities s ≡ None → shard_list k.world.lists s ≡ list → Goes k s st (map by_entities (acquire (slot.Shard s) st.who list))
goes_acquired k s st list tidy none known = by (holder list)
  where
    by : (o : Option Incarnation) → Goes k s st (map by_entities (acquire_by (slot.Shard s) st.who list o))
    by None = goes_granted k s st list tidy none known
    by (Some h) = goes_entities k s st (told (fact.Held (slot.Shard s) st.who h.node) ∷ []) tidy refl refl tidy.started

remembered_all : (p : Move → Bool) (s : ℕ) (st : Entities) → ((e : List ℕ) → p (told (fact.Start st.who e)) ≡ true) → ((e : List ℕ) → p (post st.who st.who (body.Recovered e)) ≡ true) → list_all p (entities.start_remembered s st) ≡ true
remembered_all p s st starts recovers =
    let names : List (List ℕ) = filter (λ e. is_remembered e (entities.entries st e)) (names_of st.set s) in
    all_if p st.set.config.remember (flat_map (λ e. entities.start_entity e st) names) []
    (all_each p (λ e. entities.start_entity e st) names (λ e. both (p (told (fact.Start st.who e))) (p (post st.who st.who (body.Recovered e)) && true) (starts e) (both (p (post st.who st.who (body.Recovered e))) true (recovers e) refl))) refl

goes_start : (k : Known) (s : ℕ) (st : Node) (lists : SlotLists) → IsTidyBeside s st → (hosted st.entities s ≡ None → shard_list k.world.lists s ≡ shard_list lists s) → Goes k s st (start lists s st)
goes_start k s st lists tidy known = by (entities.is_hosted st.entities s) refl
  where
    asks : List Move
    asks = acquire (slot.Shard s) st.who (shard_list lists s)

    mid : Node
    mid = fold after st (map by_entities asks)

    rest : List Move
    rest = entities.start_remembered s mid.entities

    began : IsTidyBeside s mid → Goes (known_on k (items_of (map by_entities asks))) s mid (map by_entities rest)
    began now = goes_entities (known_on k (items_of (map by_entities asks))) s mid rest now
        (remembered_all (showing.is_shown_move (known_on k (items_of (map by_entities asks))).packet) s mid.entities (λ e. refl) (λ e. refl))
        (remembered_all is_staying s mid.entities (λ e. refl) (λ e. refl))
        (calm_all mid.entities rest (remembered_all is_calming s mid.entities (λ e. refl) (λ e. refl)) now.started)

    both_of : Goes k s st (map by_entities asks) → Goes k s st (map by_entities asks ++ map by_entities rest)
    both_of g = goes_both k s st (map by_entities asks) (map by_entities rest) g (began g.tidy)

    by : (b : Bool) → entities.is_hosted st.entities s ≡ b → Goes k s st (if b then [] else map by_entities asks ++ map by_entities rest)
    by true e = goes_none k s st tidy
    by false e =
        let none : hosted st.entities s ≡ None = not_hosted (hosted st.entities s) e in
        both_of (goes_acquired k s st (shard_list lists s) tidy none (known none))

-- The release.

goes_released : (k : Known) (s : ℕ) (st : Node) → IsTidyBeside s st → is_open s st ≡ true → Goes k s st (by_region (released s) ∷ [])
goes_released k s st tidy opens =
    let left : List Message = drop 1 (kept_of st.region.kept s) in
    record {
      ahead = λ ps. ap (λ kept. with_producers ps (record st { region = record st.region { kept = kept } })) (twice (is_open s st) opens left);
      tidy = record {
        set_is = tidy.set_is;
        routed = λ t other now. of_write (λ l. l ≡ []) st.region.kept s t left [] (λ same. absurd (other same)) (tidy.routed t other now);
        started = tidy.started;
        kept = λ t. of_write (λ l. list_all (is_of st.set t) l ≡ true) st.region.kept s t left [] (λ same. fewer t (kept_of st.region.kept s) (subst (λ n. list_all (is_of st.set t) (kept_of st.region.kept n) ≡ true) same (tidy.kept t))) (tidy.kept t);
      };
    }
  where
    twice : (b : Bool) → b ≡ true → (left : List Message) → kept_when b s st.region.kept ≡ kept_when b s (slice_set st.region.kept s left)
    twice true e left = sym (set_again st.region.kept s left [])
    twice false e left = absurd (true≢false (sym e))

    fewer : (t : ℕ) (l : List Message) → list_all (is_of st.set t) l ≡ true → list_all (is_of st.set t) (drop 1 l) ≡ true
    fewer t [] h = refl
    fewer t (m ∷ l) h = (and_both (is_of st.set t m) (list_all (is_of st.set t) l) h).1

-- a message of the shard is routed, where the shard is routable: it is delivered here, or sent to another node
record RoutesHere (k : Known) (s : ℕ) (st : Node) (acts : List Act) : Type 0 where
  goes : Goes k s st acts
  region_is : (fold after st acts).region ≡ st.region
  running_is : entities.is_running (fold after st acts).entities s ≡ entities.is_running st.entities s

delivers_stay : (m : Message) (st : Entities) → list_all is_staying (entities.deliver m st) ≡ true
delivers_stay m st = showing.deliver_all is_staying m st (λ r. refl) (λ n. refl) refl (λ n. refl) (λ n. refl) (λ n u. refl) refl refl refl refl

delivered_here : (k : Known) (s : ℕ) (st : Node) (m : Message) → IsTidyBeside s st → RoutesHere k s st (map by_entities (entities.deliver m st.entities))
delivered_here k s st m tidy =
    let ms : List Move = entities.deliver m st.entities in
    record {
      goes = goes_entities k s st ms tidy (showing.deliver_moves k.packet m st.entities) (delivers_stay m st.entities) (showing.deliver_calm m st.entities tidy.started);
      region_is = ap (λ (n : Node). n.region) (entities_alone st ms);
      running_is = ap (λ (n : Node). entities.is_running n.entities s) (entities_alone st ms) ∙ runs_same st.entities ms s (delivers_stay m st.entities);
    }

-- what is known of the home of a routable shard
away_known : (who : Incarnation) (h : Incarnation) (running : Bool) → (not (is_same who h) || running) ≡ true → (is_same who h && running) ≡ false → is_same h who ≡ false
away_known who h running opens away = by (is_same h who) refl
  where
    both_ways : (a b : Bool) → a ≡ true → (not a || b) ≡ true → (a && b) ≡ false → ⊥
    both_ways true true e f g = true≢false g
    both_ways true false e f g = true≢false (sym f)
    both_ways false b e f g = true≢false (sym e)

    by : (b : Bool) → is_same h who ≡ b → is_same h who ≡ false
    by false e = e
    by true e = absurd (both_ways (is_same who h) running (ap (is_same who) (same_is h who e) ∙ same_itself who) opens away)

sent_away : (k : Known) (s : ℕ) (st : Node) (m : Message) → IsTidyBeside s st → shard_of st.set m.entity ≡ s → is_open s st ≡ true → (is_home st.region s && entities.is_running st.entities s) ≡ false → RoutesHere k s st (map by_region (region.route_away m st.region))
sent_away k s st m tidy of opens away =
    subst (λ t. RoutesHere k s st (map by_region (region.route_by m st.region (home st.region t)))) (sym (ap (λ (set : Setting). shard_of set m.entity) tidy.set_is ∙ of)) (by (home st.region s) opens away)
  where
    two : (h : Incarnation) (b : Bool) → b ≡ false → RoutesHere k s st (map by_region (if b then region.keep m st.region else post st.region.who h (body.Sequenced m) ∷ []))
    two h false e = record { goes = goes_sent k s st st.region.who h m tidy; region_is = refl; running_is = refl }
    two h true e = absurd (true≢false e)

    by : (o : Option Incarnation) → (if is_none o then false else not (is_at st.region.who o) || entities.is_running st.entities s) ≡ true → (is_at st.region.who o && entities.is_running st.entities s) ≡ false → RoutesHere k s st (map by_region (region.route_by m st.region o))
    by None f g = absurd (true≢false (sym f))
    by (Some h) f g = two h (is_same h st.region.who) (away_known st.region.who h (entities.is_running st.entities s) f g)

routed_here : (k : Known) (s : ℕ) (st : Node) (m : Message) → IsTidyBeside s st → shard_of st.set m.entity ≡ s → is_open s st ≡ true → RoutesHere k s st (route m st)
routed_here k s st m tidy of opens = subst (λ t. RoutesHere k s st (if is_home st.region t && entities.is_running st.entities t then map by_entities (entities.deliver m st.entities) else map by_region (region.route_away m st.region))) (sym of)
    (by (is_home st.region s && entities.is_running st.entities s) refl)
  where
    by : (b : Bool) → (is_home st.region s && entities.is_running st.entities s) ≡ b → RoutesHere k s st (if b then map by_entities (entities.deliver m st.entities) else map by_region (region.route_away m st.region))
    by true e = delivered_here k s st m tidy
    by false e = sent_away k s st m tidy of opens e

-- the acts end with nothing kept of the shard
record Ends (k : Known) (s : ℕ) (st : Node) (acts : List Act) : Type 0 where
  goes : Goes k s st acts
  empty : is_open s (fold after st acts) ≡ true → kept_of (fold after st acts).region.kept s ≡ []

ends_both : (k : Known) (s : ℕ) (st : Node) (xs ys : List Act) → Goes k s st xs → Ends (known_on k (items_of xs)) s (fold after st xs) ys → Ends k s st (xs ++ ys)
ends_both k s st xs ys f g = record {
  goes = goes_both k s st xs ys f g.goes;
  empty = subst (λ n. is_open s n ≡ true → kept_of n.region.kept s ≡ []) (sym (fold-append after st xs ys)) g.empty;
}

releases : (k : Known) (s : ℕ) (ms : List Message) (st : Node) → IsTidyBeside s st → is_open s st ≡ true → kept_of st.region.kept s ≡ ms → Ends k s st (for_each after (λ m. in_turn after (λ st. by_region (released s) ∷ []) (route m)) ms st)
releases k s [] st tidy opens e = record { goes = goes_none k s st tidy; empty = λ now. e }
releases k s (m ∷ ms) st tidy opens e =
    let mid : Node = after st (by_region (released s)) in
    let good : list_all (is_of st.set s) (m ∷ ms) ≡ true = subst (λ l. list_all (is_of st.set s) l ≡ true) e (tidy.kept s) in
    let of : shard_of st.set m.entity ≡ s = same_number (shard_of st.set m.entity) s (and_both (is_of st.set s m) (list_all (is_of st.set s) ms) good).0 in
    let first : Goes k s st (by_region (released s) ∷ []) = goes_released k s st tidy opens in
    let second : RoutesHere k s mid (route m mid) = routed_here k s mid m first.tidy of opens in
    let acts : List Act = by_region (released s) ∷ route m mid in
    let one : Goes k s st acts = goes_both k s st (by_region (released s) ∷ []) (route m mid) first second.goes in
    let later : Node = fold after mid (route m mid) in
    ends_both k s st acts (for_each after (λ m. in_turn after (λ st. by_region (released s) ∷ []) (route m)) ms later) one
    (releases (known_on k (items_of acts)) s ms later one.tidy
    (ap₂ (λ (r : Region) b. is_routable r s b) second.region_is second.running_is ∙ opens)
    (ap (λ (r : Region). kept_of r.kept s) second.region_is ∙ (set_reads (drop 1) st.region.kept s [] refl ∙ ap (drop 1) e)))

ends_release : (k : Known) (s : ℕ) (st : Node) → IsTidyBeside s st → Ends k s st (release s st ++ [])
ends_release k s st tidy = subst (Ends k s st) (sym (append-nil (release s st))) (by (is_open s st) refl)
  where
    by : (b : Bool) → is_open s st ≡ b → Ends k s st (if b then for_each after (λ m. in_turn after (λ st. by_region (released s) ∷ []) (route m)) (kept_of st.region.kept s) st else [])
    by true e = releases k s (kept_of st.region.kept s) st tidy e refl
    by false e = record { goes = goes_none k s st tidy; empty = λ now. absurd (true≢false (sym now ∙ e)) }

-- From a tidy node to a tidy node.

pub record IsKeptWell (st : Node) : Type 0 where
  pub set_is : st.region.set ≡ st.set
  pub kept : (t : ℕ) → list_all (is_of st.set t) (kept_of st.region.kept t) ≡ true

beside_tidy : (s : ℕ) (st : Node) → IsTidy st → IsKeptWell st → IsTidyBeside s st
beside_tidy s st tidy well = record { set_is = well.set_is; routed = λ t other. tidy.routed t; started = tidy.started; kept = well.kept }

-- where nothing is kept of the shard, nothing is taken out
emptied_none : (s : ℕ) (st : Node) → (is_open s st ≡ true → kept_of st.region.kept s ≡ []) → emptied s st ≡ st
emptied_none s st h = by (is_open s st) h
  where
    by : (b : Bool) → (b ≡ true → kept_of st.region.kept s ≡ []) → record st { region = record st.region { kept = kept_when b s st.region.kept } } ≡ st
    by true f = ap (λ kept. record st { region = record st.region { kept = kept } }) (ap (slice_set st.region.kept s) (sym (f refl)) ∙ set_itself st.region.kept s [])
    by false f = refl

-- what a rule of one shard shows, and that all is tidy after it
pub record ShowsWell (k : Known) (st : Node) (acts : List Act) : Type 0 where
  pub shows : AreShownBeside k st acts
  pub tidy : IsTidy (fold after st acts)
  pub well : IsKeptWell (fold after st acts)

ended : (k : Known) (s : ℕ) (st : Node) (acts : List Act) → emptied s st ≡ st → Ends k s st acts → ShowsWell k st acts
ended k s st acts first e =
    let later : Node = fold after st acts in
    let t : IsTidyBeside s later = e.goes.tidy in
    record {
      shows = λ ps. ap (λ n. shown k (with_producers ps n) (items_of acts)) (sym first) ∙ (e.goes.ahead ps ∙ ap (with_producers ps) (emptied_none s later e.empty));
      tidy = record { routed = λ n now. by_place (kept_of later.region.kept n ≡ []) n s (λ same. ap (kept_of later.region.kept) same ∙ e.empty (ap (λ x. is_open x later) (sym same) ∙ now)) (λ other. t.routed n other now); started = t.started };
      well = record { set_is = t.set_is; kept = t.kept };
    }

-- Start again of one shard.

pub again_shown : (k : Known) (s : ℕ) (lists : SlotLists) (st : Node) → IsTidy st → IsKeptWell st → (hosted st.entities s ≡ None → shard_list k.world.lists s ≡ shard_list lists s) → ShowsWell k st (start_again lists s st)
again_shown k s lists st tidy well known = by (is_home st.region s && not (entities.is_hosted st.entities s))
  where
    start_goes : Goes k s st (start lists s st)
    start_goes = goes_start k s st lists (beside_tidy s st tidy well) known

    by : (b : Bool) → ShowsWell k st (if b then all_in_turn (start lists s ∷ release s ∷ []) st else [])
    by true = ended k s st (all_in_turn (start lists s ∷ release s ∷ []) st) (emptied_none s st (tidy.routed s))
        (ends_both k s st (start lists s st) (release s (fold after st (start lists s st)) ++ []) start_goes (ends_release (known_on k (items_of (start lists s st))) s (fold after st (start lists s st)) start_goes.tidy))
    by false = record { shows = λ ps. refl; tidy = tidy; well = well }

-- A home that is learned: the delivery shows the mark.

-- whether a shard of this home is routable
abbrev routable_at : Incarnation → Bool → Option Incarnation → Bool
routable_at who running o = if is_none o then false else not (is_at who o) || running

goes_home : (k : Known) (s : ℕ) (st : Node) (h : Incarnation) → IsTidy st → IsKeptWell st → Goes k s st (by_region (told (fact.Home st.region.who s h)) ∷ [])
goes_home k s st h tidy well =
    let f : Fact = fact.Home st.region.who s h in
    let mid : Node = after st (by_region (told f)) in
    record {
      ahead = λ ps. ap (λ n. shown k (with_producers ps n) (item.Fact f ∷ [])) (emptied_none s st (tidy.routed s))
          ∙ (released_shown s (record (with_producers ps mid) { coordinator = option_map (λ k. coordinator_after k (told f)) st.coordinator })
          ∙ ap (λ o. record (with_producers ps (emptied s mid)) { coordinator = o }) (same_some (told f) st.coordinator (λ x. refl)));
      tidy = record {
        set_is = well.set_is;
        routed = λ t other. of_write (λ o. routable_at st.region.who (entities.is_running st.entities t) o ≡ true → kept_of st.region.kept t ≡ []) st.region.homes s t (Some h) None (λ same. absurd (other same)) (tidy.routed t);
        started = tidy.started;
        kept = well.kept;
      };
    }

goes_learned : (k : Known) (s : ℕ) (st : Node) (h : Incarnation) (b : Bool) → IsTidy st → IsKeptWell st → Goes k s st (map by_region (if b then [] else told (fact.Home st.region.who s h) ∷ []))
goes_learned k s st h true tidy well = goes_none k s st (beside_tidy s st tidy well)
goes_learned k s st h false tidy well = goes_home k s st h tidy well

-- it changes no list, nor what is hosted
learned_lists : (k : Known) (s : ℕ) (who h : Incarnation) (b : Bool) → (known_on k (items_of (map by_region (if b then [] else told (fact.Home who s h) ∷ [])))).world.lists ≡ k.world.lists
learned_lists k s who h true = refl
learned_lists k s who h false = refl

goes_if : (k : Known) (s : ℕ) (st : Node) (b : Bool) (acts : List Act) → IsTidyBeside s st → Goes k s st acts → Goes k s st (if b then acts else [])
goes_if k s st true acts tidy g = g
goes_if k s st false acts tidy g = goes_none k s st tidy

-- once the mark is shown
learned_shown : (k : Known) (s : ℕ) (lists : SlotLists) (st : Node) (h : Incarnation) (stamp : Stamp) (rest : List Act) → IsTidy st → IsKeptWell st
    → let ms : List Move = if is_at h (home st.region s) then [] else told (fact.Home st.region.who s h) ∷ [] in let first : Node = after st (by_region (marked s stamp)) in
    (IsTidyBeside s (fold after first (map by_region ms)) → Ends (known_on k (items_of (map by_region ms))) s (fold after first (map by_region ms)) rest) → ShowsWell k first (map by_region ms ++ rest)
learned_shown k s lists st h stamp rest tidy well f =
    let ms : List Move = if is_at h (home st.region s) then [] else told (fact.Home st.region.who s h) ∷ [] in
    let first : Node = after st (by_region (marked s stamp)) in
    let first_tidy : IsTidy first = record { routed = tidy.routed; started = tidy.started } in
    let first_well : IsKeptWell first = record { set_is = well.set_is; kept = well.kept } in
    let learns : Goes k s first (map by_region ms) = goes_learned k s first h (is_at h (home st.region s)) first_tidy first_well in
    ended k s first (map by_region ms ++ rest) (emptied_none s first (first_tidy.routed s)) (ends_both k s first (map by_region ms) rest learns (f learns.tidy))

-- ShardHome and HostShard.

-- what a rule shows of a node that its delivery was shown of, and that all is tidy after it
pub record ShowsFrom (k : Known) (now st : Node) (acts : List Act) : Type 0 where
  pub shows : (ps : List (Option Producer)) → shown k (with_producers ps now) (items_of acts) ≡ with_producers ps (fold after st acts)
  pub tidy : IsTidy (fold after st acts)
  pub well : IsKeptWell (fold after st acts)

pub shard_home_shown : (k : Known) (lists : SlotLists) (st : Node) (from : Incarnation) (s : ℕ) (h : Incarnation) (stamp : Stamp) → IsTidy st → IsKeptWell st → (hosted st.entities s ≡ None → shard_list k.world.lists s ≡ shard_list lists s)
    → ShowsFrom k (fold after st (show_got from (body.ShardHome s h stamp) st)) st (shard_home lists s h stamp st)
shard_home_shown k lists st from s h stamp tidy well known = by (region.takes_home s h stamp st.region)
  where
    ms : List Move
    ms = if is_at h (home st.region s) then [] else told (fact.Home st.region.who s h) ∷ []

    first : Node
    first = after st (by_region (marked s stamp))

    mid : Node
    mid = fold after first (map by_region ms)

    begin : List Act
    begin = if is_home mid.region s then start lists s mid else []

    later : Node
    later = fold after mid begin

    next : Known
    next = known_on k (items_of (map by_region ms))

    begins : IsTidyBeside s mid → Goes next s mid begin
    begins now = goes_if next s mid (is_home mid.region s) (start lists s mid) now (goes_start next s mid lists now
        (λ none. ap (λ l. shard_list l s) (learned_lists k s st.region.who h (is_at h (home st.region s))) ∙ known (sym (ap (λ (n : Node). hosted n.entities s) (region_alone first ms)) ∙ none)))

    ends : IsTidyBeside s mid → Ends next s mid (begin ++ (release s later ++ []))
    ends now = let g : Goes next s mid begin = begins now in ends_both next s mid begin (release s later ++ []) g (ends_release (known_on next (items_of begin)) s later g.tidy)

    by : (b : Bool) → ShowsFrom k (fold after st (map by_region (if b then marked s stamp ∷ [] else []))) st
        (if b then all_in_turn (of_region (region.learn s h stamp) ∷ (λ st. if is_home st.region s then start lists s st else []) ∷ release s ∷ []) st else [])
    by true = let w : ShowsWell k first (map by_region ms ++ (begin ++ (release s later ++ []))) = learned_shown k s lists st h stamp (begin ++ (release s later ++ [])) tidy well ends in
        record { shows = w.shows; tidy = w.tidy; well = w.well }
    by false = record { shows = λ ps. refl; tidy = tidy; well = well }

pub host_shard_shown : (k : Known) (lists : SlotLists) (st : Node) (from : Incarnation) (s : ℕ) (stamp : Stamp) → IsTidy st → IsKeptWell st → (hosted st.entities s ≡ None → shard_list k.world.lists s ≡ shard_list lists s)
    → ShowsFrom k (fold after st (show_got from (body.HostShard s stamp) st)) st (host_shard lists s stamp from st)
host_shard_shown k lists st from s stamp tidy well known = by (region.takes_host s stamp st.region)
  where
    ms : List Move
    ms = if is_at st.who (home st.region s) then [] else told (fact.Home st.region.who s st.who) ∷ []

    first : Node
    first = after st (by_region (marked s stamp))

    mid : Node
    mid = fold after first (map by_region ms)

    begin : List Act
    begin = start lists s mid

    later : Node
    later = fold after mid begin

    answers : List Act
    answers = by_region (post later.region.who from (body.ShardStarted s)) ∷ []

    last : Node
    last = fold after later answers

    next : Known
    next = known_on k (items_of (map by_region ms))

    begins : IsTidyBeside s mid → Goes next s mid begin
    begins now = goes_start next s mid lists now
        (λ none. ap (λ l. shard_list l s) (learned_lists k s st.region.who st.who (is_at st.who (home st.region s))) ∙ known (sym (ap (λ (n : Node). hosted n.entities s) (region_alone first ms)) ∙ none))

    after_begin : Known
    after_begin = known_on next (items_of begin)

    ends : IsTidyBeside s mid → Ends next s mid (begin ++ (answers ++ (release s last ++ [])))
    ends now =
        let g : Goes next s mid begin = begins now in
        let a : Goes after_begin s later answers = goes_answer after_begin s later later.region.who from g.tidy in
        ends_both next s mid begin (answers ++ (release s last ++ [])) g (ends_both after_begin s later answers (release s last ++ []) a (ends_release (known_on after_begin (items_of answers)) s last a.tidy))

    by : (b : Bool) → ShowsFrom k (fold after st (map by_region (if b then marked s stamp ∷ [] else []))) st
        (if b then all_in_turn (of_region (region.learn s st.who stamp) ∷ start lists s ∷ of_region (λ r. post r.who from (body.ShardStarted s) ∷ []) ∷ release s ∷ []) st else [])
    by true = let w : ShowsWell k first (map by_region ms ++ (begin ++ (answers ++ (release s last ++ [])))) = learned_shown k s lists st st.who stamp (begin ++ (answers ++ (release s last ++ []))) tidy well ends in
        record { shows = w.shows; tidy = w.tidy; well = w.well }
    by false = record { shows = λ ps. refl; tidy = tidy; well = well }
