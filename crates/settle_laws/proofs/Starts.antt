-- Release, and the start of a shard.
use Rattle.std.proofs.Common.{◌≡◌, ◌<◌, ◌≤◌, ℕ, suc, ◌+◌, ◌*◌, List, [], ◌∷◌, ◌++◌, length, map, sym, ap, subst, ◌∙◌, refl, true, false, true≢false, arith}
use Rattle.std.specs.Prelude.{Bool, ◌==◌, ◌||◌, not, cond, is_none, if◌then◌else◌}
use Rattle.std.specs.List.{list_any}
use Rattle.std.proofs.lemmas.List.{get_or-set_same}
use Rattle.yard_model.specs.declared.fact.Fact.TheVariants as fact
use Rattle.yard_model.specs.declared.packet.Body.TheVariants as body
use Rattle.yard_model.specs.declared.packet.Message.{Message}
use Rattle.yard_model.specs.declared.input.Phase.TheVariants as phase
use Rattle.yard_model.specs.Entities as entities
use Rattle.yard_model.specs.Entities.{Cell, Hosted, cell_in, cell_after, is_phase, new_cell, phase_by_post, reach_by_post, entered, entries_in}
use Rattle.yard_model.specs.Move.{told, post}
use Rattle.yard_model.specs.Node.{by_entities, after}
use Rattle.yard_model.specs.Script.{is_name}
use Rattle.yard_model.specs.Setting.{shard_of}
use Rattle.yard_model.specs.Words.{at}
use Rattle.plain_laws.proofs.Booleans.{and_both, both, same_number}
use Rattle.plain_laws.proofs.Names.{name_itself}
use Rattle.actor_laws.proofs.EntitiesMoves.{by_name}
use Rattle.settle_laws.specs.Alone.{Base, Alone, node_with, entities_at, is_home_at, IsThere, Each, Fits, Stands, load, Goes}
use Rattle.settle_laws.proofs.Records.{le_itself}
use Rattle.settle_laws.proofs.Tools.{each_map, each_drop, goes_none, goes_both, goes_also, goes_if, goes_if_map}
use Rattle.settle_laws.proofs.Cells.{Started, start_goes}
use Rattle.settle_laws.proofs.Deliver.{Delivered}
use Rattle.yard_model.specs.Words.{is_at}
use Rattle.yard_model.specs.Region as region
use Rattle.yard_model.specs.Region.{Region, kept_of, home}
use Rattle.yard_model.specs.Entities.{is_running_in}
use Rattle.yard_model.specs.Node.{by_region, route}
use Rattle.settle_laws.specs.Alone.{region_at}
use Rattle.settle_laws.proofs.Tools.{same_place}
use Rattle.yard_model.specs.Turns.{in_turn, for_each}
use Rattle.settle_laws.proofs.Tools.{goes_turn}
use Rattle.yard_model.specs.Entities.{Entities, entities_after, is_in_phase}
use Rattle.yard_model.specs.SlotReads.{is_remembered}
use Rattle.yard_model.specs.Region.{no_stamp}
use Rattle.settle_laws.proofs.Push.{goes_saved}
use Rattle.settle_laws.proofs.Route.{deliver_goes}
use Rattle.settle_laws.proofs.Routes.{home_runs}
use Rattle.std.specs.Prelude.{drop, filter}
use Rattle.std.specs.List.{flat_map, list_all, position_or_len}
use Rattle.std.proofs.lemmas.List.{append_assoc}
use Rattle.yard_model.specs.Setting.{names_of}
use Rattle.yard_model.specs.Move.{released}
use Rattle.yard_model.specs.Node.{release}
use Rattle.plain_laws.proofs.Booleans.{of_not}
use Rattle.plain_laws.specs.Names.{AllDiffer}
use Rattle.plain_laws.proofs.Names.{left_differ}
use Rattle.settle_laws.proofs.Tools.{goes_turn}
use Rattle.settle_laws.proofs.Deliver.{Delivered}
use Rattle.settle_laws.proofs.Routes.{with_kept, kept_stands, kept_more, kept_costs, home_none}
use Rattle.settle_laws.proofs.Recover.{Steady}

-- Route of a message whose shard is at home here.
pub route_home_goes : (b : Base) (later : ℕ → List ℕ → Type 0) (z : Alone) (m : Message) → Stands b later z → Fits b z.hosted z.producers m → is_home_at b z.homes (shard_of b.set m.entity) ≡ true → Goes b later 2 (Delivered b z m) z (route m (node_with b z))
route_home_goes b later z m s fits home = subst (λ t. Goes b later 2 (Delivered b z m) z (if t then map by_entities (entities.deliver m (entities_at b z)) else map by_region (region.route_away m (region_at b z))))
    (sym (both _ _ home (home_runs b later z (shard_of b.set m.entity) s home))) (deliver_goes b later z m s fits home)

-- Release.

pub releases_goes : (b : Base) (later : ℕ → List ℕ → Type 0) (s : ℕ) (ms : List Message) (z : Alone) → Stands b later z → s < b.set.config.shards → is_home_at b z.homes s ≡ true → kept_of z.kept s ≡ ms
    → Goes b later 0 (Steady z) z (for_each after (λ m. in_turn after (λ st. by_region (released s) ∷ []) (route m)) ms (node_with b z))
releases_goes b later s [] z i less home is = goes_none b later (Steady z) z i (record { homes_are = refl; producers_are = refl; asked_are = refl })
releases_goes b later s (m ∷ ms) z i less home is =
    goes_turn b later later 0 0 (λ to. Steady z to × (kept_of to.kept s ≡ ms)) (Steady z) z (in_turn after (λ st. by_region (released s) ∷ []) (route m)) (for_each after (λ m. in_turn after (λ st. by_region (released s) ∷ []) (route m)) ms)
    (goes_saved b later 2 0 (λ to. Steady z to × (kept_of to.kept s ≡ ms)) z z1 (by_region (released s) ∷ []) (route m (node_with b z1)) refl refl (kept_more b z s (drop 1 (kept_of z.kept s))) saved refl
    (goes_also b later 2 2 (Delivered b z1 m) (λ to. Steady z to × (kept_of to.kept s ≡ ms)) z1 _ (le_itself 2)
    (λ to t more d. (record { homes_are = d.homes_are; producers_are = d.producers_are; asked_are = d.asked_are }, ap (λ l. kept_of l s) d.kept_are ∙ (get_or-set_same z.kept s (drop 1 (kept_of z.kept s)) [] there ∙ ap (drop 1) is)))
    (route_home_goes b later z1 m (kept_stands b later z s (drop 1 (kept_of z.kept s)) less i (each_drop _ (kept_of z.kept s) (i.kept s))) head.1 (subst (λ t. is_home_at b z.homes t ≡ true) (sym head.0) home))))
    (λ mid t more x. goes_also b later 0 0 (Steady mid) (Steady z) mid _ (le_itself 0) (λ to u more2 y. record { homes_are = y.homes_are ∙ x.0.homes_are; producers_are = y.producers_are ∙ x.0.producers_are; asked_are = y.asked_are ∙ x.0.asked_are })
    (releases_goes b later s ms mid t less (more.homes_on s home) x.1))
  where
    z1 : Alone
    z1 = with_kept z s (drop 1 (kept_of z.kept s))

    there : s < length z.kept
    there = subst (λ n. s < n) (sym i.kept_there) less

    all : Each (λ m. (shard_of b.set m.entity ≡ s) × Fits b z.hosted z.producers m) (m ∷ ms)
    all = subst (Each (λ m. (shard_of b.set m.entity ≡ s) × Fits b z.hosted z.producers m)) is (i.kept s)

    head : (shard_of b.set m.entity ≡ s) × Fits b z.hosted z.producers m
    head = all.0

    saved : load b z1 + 2 ≤ load b z + 0
    saved = sums (load b z1) (load b z) (length (kept_of z.kept s)) (length (drop 1 (kept_of z.kept s))) (length ms) (kept_costs b z s (drop 1 (kept_of z.kept s)) there) (ap length is) (ap (λ l. length (drop 1 l)) is)
      where
        sums : (x y k n m : ℕ) → x + 2 * k ≡ y + 2 * n → k ≡ suc m → n ≡ m → x + 2 ≤ y + 0
        sums x y k n m e f g = omega (arith, e, f, g)

pub release_goes : (b : Base) (later : ℕ → List ℕ → Type 0) (z : Alone) (s : ℕ) → Stands b later z → s < b.set.config.shards → Goes b later 0 (Steady z) z (release s (node_with b z))
release_goes b later z s i less = goes_if b later 0 (Steady z) z (region.is_routable (region_at b z) s (is_running_in (at z.hosted s))) _ []
    (λ h. releases_goes b later s (kept_of z.kept s) z i less (by (is_home_at b z.homes s) refl h) refl)
    (λ h. goes_none b later (Steady z) z i (record { homes_are = refl; producers_are = refl; asked_are = refl }))
  where
    by : (home : Bool) → is_home_at b z.homes s ≡ home → region.is_routable (region_at b z) s (is_running_in (at z.hosted s)) ≡ true → is_home_at b z.homes s ≡ true
    by true e h = e
    by false e h = absurd (true≢false (sym h ∙ ap (λ o. if is_none o then false else (not (is_at b.who o) || is_running_in (at z.hosted s))) (home_none b later z s i e)))

-- The remembered entities of a shard start.

-- a name among those of the script is at its place
pub named_there : (e : List ℕ) (xs : List (List ℕ)) → list_any (is_name e) xs ≡ true → position_or_len (is_name e) xs < length xs
named_there e xs h = by xs h
  where
    by : (xs : List (List ℕ)) → list_any (is_name e) xs ≡ true → position_or_len (is_name e) xs < length xs
    by [] h = absurd (true≢false (sym h))
    by (x ∷ xs) h = at_head (is_name e x) h (by xs)
      where
        at_head : (t : Bool) → (t || list_any (is_name e) xs) ≡ true → (list_any (is_name e) xs ≡ true → position_or_len (is_name e) xs < length xs) → cond (not t) (1 + position_or_len (is_name e) xs) 0 < suc (length xs)
        at_head true h f = omega arith
        at_head false h f = let g : position_or_len (is_name e) xs < length xs = f h in omega (arith, g)

-- a name that stands there is found
pub itself_any : (e : List ℕ) (xs ys : List (List ℕ)) → list_any (is_name e) (xs ++ e ∷ ys) ≡ true
itself_any e [] ys = ap (λ t. t || list_any (is_name e) ys) (name_itself e)
itself_any e (x ∷ xs) ys = ap (λ t. is_name e x || t) (itself_any e xs ys) ∙ Rattle.actor_laws.proofs.EntitiesMoves.or_true (is_name e x)

pub all_there : (b : Base) (before names : List (List ℕ)) → before ++ names ≡ b.set.names → Each (IsThere b) names
all_there b before [] e = tt
all_there b before (x ∷ xs) e = (subst (λ l. position_or_len (is_name x) l < length l) e (named_there x (before ++ x ∷ xs) (itself_any x before xs)), all_there b (before ++ x ∷ []) xs (append_assoc before (x ∷ []) xs ∙ e))

pub each_filtered : (P : List ℕ → Type 0) (q : List ℕ → Bool) (xs : List (List ℕ)) → Each P xs → Each (λ x. P x × (q x ≡ true)) (filter q xs)
each_filtered P q [] h = tt
each_filtered P q (x ∷ xs) h = by (q x) refl (each_filtered P q xs h.1)
  where
    by : (t : Bool) → q x ≡ t → Each (λ y. P y × (q y ≡ true)) (filter q xs) → Each (λ y. P y × (q y ≡ true)) (if t then x ∷ filter q xs else filter q xs)
    by true e rest = ((h.0, e), rest)
    by false e rest = rest

-- names of a shard that don't exist
abbrev pub CanStart : Base → Alone → ℕ → List ℕ → Type 0
CanStart b z s e = IsThere b e × (shard_of b.set e ≡ s) × ((cell_in b.set z.cells e).phase ≡ phase.Absent)

pub record Starts (z to : Alone) : Type 0 where
  pub homes_are : to.homes ≡ z.homes
  pub hosted_are : to.hosted ≡ z.hosted
  pub producers_are : to.producers ≡ z.producers
  pub kept_are : to.kept ≡ z.kept
  pub asked_are : to.asked ≡ z.asked

pub starts_goes : (b : Base) (later : ℕ → List ℕ → Type 0) (s : ℕ) (st : Entities) (es : List (List ℕ)) (z : Alone) → st.who ≡ b.who → Stands b later z → is_home_at b z.homes s ≡ true → AllDiffer es → Each (CanStart b z s) es
    → Goes b later 0 (Starts z) z (map by_entities (flat_map (λ e. entities.start_entity e st) es))
starts_goes b later s st [] z who i home differ can = goes_none b later (Starts z) z i (record { homes_are = refl; hosted_are = refl; producers_are = refl; kept_are = refl; asked_are = refl })
starts_goes b later s st (e ∷ es) z who i home differ can =
    let g : Goes b later 0 (Started b z e) z (map by_entities (entities.start_entity e (entities_at b z))) = start_goes b later z e i can.0.0 can.0.2 (subst (λ t. is_home_at b z.homes t ≡ true) (sym can.0.1) home) in
    let a : Started b z e g.to = g.also_is in
    subst (λ w. Goes b later 0 (Starts z) z (map by_entities (told (fact.Start w e) ∷ post w w (body.Recovered e) ∷ flat_map (λ e. entities.start_entity e st) es))) (sym who)
    (goes_both b later later 0 0 (Started b z e) (Starts z) z (map by_entities (entities.start_entity e (entities_at b z))) _ g
    (goes_also b later 0 0 (Starts g.to) (Starts z) g.to _ (le_itself 0)
    (λ to t more x. record { homes_are = x.homes_are ∙ a.homes_are; hosted_are = x.hosted_are ∙ a.hosted_are; producers_are = x.producers_are ∙ a.producers_are; kept_are = x.kept_are ∙ a.kept_are; asked_are = x.asked_are ∙ a.asked_are })
    (starts_goes b later s st es g.to who g.stands (g.more.homes_on s home) differ.1 (others es differ.0 can.1 a))))
  where
    others : (fs : List (List ℕ)) → list_all (λ y. not (is_name e y)) fs ≡ true → Each (CanStart b z s) fs → {to : Alone} → Started b z e to → Each (CanStart b to s) fs
    others [] d h a = tt
    others (f ∷ fs) d h {to = to} a =
        let m : (not (is_name e f) ≡ true) × (list_all (λ y. not (is_name e y)) fs ≡ true) = and_both (not (is_name e f)) (list_all (λ y. not (is_name e y)) fs) d in
        ((h.0.0, h.0.1, ap (λ (x : Cell). x.phase) (a.others_are f (λ same. true≢false (sym (name_itself e) ∙ (ap (is_name e) (sym (same_place b e f can.0.0 same)) ∙ of_not (is_name e f) m.0)))) ∙ h.0.2), others fs m.1 h.1 a)

pub start_remembered_goes : (b : Base) (later : ℕ → List ℕ → Type 0) (z : Alone) (s : ℕ) → Stands b later z → is_home_at b z.homes s ≡ true → ((e : List ℕ) → shard_of b.set e ≡ s → (cell_in b.set z.cells e).phase ≡ phase.Absent)
    → Goes b later 0 (Starts z) z (map by_entities (entities.start_remembered s (entities_at b z)))
start_remembered_goes b later z s i home absent = goes_if_map b later 0 (Starts z) z by_entities b.set.config.remember _ []
    (λ h. starts_goes b later s (entities_at b z) names z refl i home (left_differ is_kept (names_of b.set s) (left_differ (λ e. shard_of b.set e == s) b.set.names i.base_is.differ)) can)
    (λ h. goes_none b later (Starts z) z i (record { homes_are = refl; hosted_are = refl; producers_are = refl; kept_are = refl; asked_are = refl }))
  where
    is_kept : List ℕ → Bool
    is_kept e = is_remembered e (entries_in (at z.hosted (shard_of b.set e)))

    names : List (List ℕ)
    names = filter is_kept (names_of b.set s)

    can : Each (CanStart b z s) names
    can = each_map _ (CanStart b z s) names (λ e h. (h.0.0, same_number (shard_of b.set e) s h.0.1, absent e (same_number (shard_of b.set e) s h.0.1)))
        (each_filtered (λ e. IsThere b e × ((shard_of b.set e == s) ≡ true)) is_kept (names_of b.set s) (each_filtered (IsThere b) (λ e. shard_of b.set e == s) b.set.names (all_there b [] b.set.names refl)))
