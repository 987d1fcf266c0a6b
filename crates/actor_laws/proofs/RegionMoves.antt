-- Moves of a region that keep what stands of it, and that each rule makes only such moves.
use Rattle.std.proofs.Common.{◌≡◌, ◌<◌, ◌≤◌, ℕ, zero, suc, ◌+◌, sym, ap, ◌∙◌, refl, subst, arith, length}
use Rattle.std.specs.Prelude.{Bool, true, false, ◌==◌, ◌&&◌, not, nat_lt, List, [], ◌∷◌, ◌++◌, drop, fold, slice_index_or, slice_set, Option, Some, None, is_none, IfSome, if◌then◌else◌}
use Rattle.std.specs.List.{list_all, flat_map, slice_get, sum_by}
use Rattle.std.proofs.lemmas.Bool.Decides.{nat_tests}
use Rattle.std.proofs.lemmas.List.{length-set}
use Rattle.std.proofs.lemmas.List.Sums.{fold-append}
use Rattle.yard_model.specs.declared.fact.Fact.{Fact}
use Rattle.yard_model.specs.declared.fact.Fact.TheVariants as fact
use Rattle.yard_model.specs.declared.out.Item.TheVariants as item
use Rattle.yard_model.specs.declared.packet.Body.{Body}
use Rattle.yard_model.specs.declared.packet.Body.TheVariants as body
use Rattle.yard_model.specs.declared.packet.Message.{Message}
use Rattle.yard_model.specs.declared.incarnation.Incarnation.{Incarnation}
use Rattle.yard_model.specs.declared.incarnation.Stamp.{Stamp}
use Rattle.yard_model.specs.Genuine.{is_node, is_shard, is_genuine, is_genuine_body}
use Rattle.yard_model.specs.Move.{Move, made, viewed, registered_with, leaves, marked, released, told, post}
use Rattle.yard_model.specs.Region as region
use Rattle.yard_model.specs.Region.{Region, region_after}
use Rattle.yard_model.specs.Script.{Script, Setting}
use Rattle.yard_model.specs.Setting.{shards, shard_of}
use Rattle.yard_model.specs.Words.{numbers, is_same, is_at, is_among, is_empty, is_below}
use Rattle.yard_model.specs.Turns.{where_some}
use Rattle.plain_laws.proofs.Booleans.{true_is_not_false, and_both, both, same_number, number_itself, all_map}
use Rattle.plain_laws.proofs.Members.{itself_is}
use Rattle.plain_laws.proofs.Lists.{none_is_not_some, some_is, all_join, all_if, all_each_of, of_write}
use Rattle.yard_laws.specs.Free.{is_free_move}
use Rattle.actor_laws.specs.Owes.{is_own_post}
use Rattle.actor_laws.specs.Moves.{is_own_move, facts_of}
use Rattle.actor_laws.proofs.EntitiesMoves.{facts_both}
use Rattle.actor_laws.specs.RegionStands.{is_kept_well, is_region_fact, IsRegion, KeepsRegion, RegionKeeps, RegionJoins, ShardsAreThere}
use Rattle.actor_laws.proofs.Rules.{region_who}
use Rattle.actor_laws.proofs.CoordinatorRules.{all_shards}

-- Tables.

-- what a test that each of a list passes tells of a part of it
pub all_drop : {X : Type 0} (p : X → Bool) (n : ℕ) (xs : List X) → list_all p xs ≡ true → list_all p (drop n xs) ≡ true
all_drop p zero xs e = e
all_drop p (suc n) [] e = e
all_drop p (suc n) (x ∷ xs) e = all_drop p n xs (and_both (p x) (list_all p xs) e).1

pub all_where_some : {A X : Type 0} (p : A → Bool) (f : X → List A) (o : Option X) → ((x : X) → o ≡ Some x → list_all p (f x) ≡ true) → list_all p (where_some f o) ≡ true
all_where_some p f None h = refl
all_where_some p f (Some x) h = h x refl

is_less : (a b : ℕ) → a < b → nat_lt a b ≡ true
is_less a b h = grind (arith, nat_tests)

pub all_numbers : (a n b : ℕ) → a + n ≤ b → list_all (λ s. nat_lt s b) (numbers a n) ≡ true
all_numbers a zero b h = refl
all_numbers a (suc n) b h =
    let first : a < b = grind (arith) in
    let rest : (a + 1) + n ≤ b = grind (arith) in
    both (nat_lt a b) (list_all (λ s. nat_lt s b) (numbers (a + 1) n)) (is_less a b first) (all_numbers (a + 1) n b rest)

-- what holds of all of a list holds of its first
pub of_first : {X : Type 0} (p : X → Bool) (xs : List X) (x : X) → list_all p xs ≡ true → slice_get xs 0 ≡ Some x → p x ≡ true
of_first p [] x all e = absurd (none_is_not_some x e)
of_first p (y ∷ ys) x all e = ap p (sym (some_is y x e)) ∙ (and_both (p y) (list_all p ys) all).0

-- One move.

-- a move that keeps what stands of a region, and that posts and tells what it may
abbrev pub is_fit : Script → Incarnation → Move → Bool
is_fit c who (made (item.Fact (fact.View x v))) = is_same x who
is_fit c who (made (item.Fact (fact.Home x s h))) = is_same x who && is_node c h
is_fit c who (made (item.Fact (fact.Forget x s))) = is_same x who
is_fit c who (made (item.Fact (fact.Kept x m))) = is_same x who && is_genuine c m
is_fit c who (made (item.Fact (fact.Dropped x m))) = is_same x who
is_fit c who (made (item.Post p)) = is_own_post c who (item.Post p)
is_fit c who (viewed xs) = list_all (is_node c) xs
is_fit c who (registered_with x) = is_node c x
is_fit c who leaves = true
is_fit c who (marked s stamp) = true
is_fit c who (released s) = true
is_fit c who m = false

fit_own : (c : Script) (who : Incarnation) (m : Move) → is_fit c who m ≡ true → is_own_move c who m ≡ true
fit_own c who (made (item.Post p)) h = both (is_own_post c who (item.Post p)) true h refl
fit_own c who (made (item.Fact f)) h = refl
fit_own c who m h = refl

fit_free : (c : Script) (who : Incarnation) (m : Move) → is_fit c who m ≡ true → is_free_move m ≡ true
fit_free c who (made (item.Fact (fact.View x v))) h = refl
fit_free c who (made (item.Fact (fact.Home x s t))) h = refl
fit_free c who (made (item.Fact (fact.Forget x s))) h = refl
fit_free c who (made (item.Fact (fact.Kept x m))) h = refl
fit_free c who (made (item.Fact (fact.Dropped x m))) h = refl
fit_free c who (made (item.Fact f)) h = absurd (true_is_not_false (sym h))
fit_free c who m h = refl

fit_fact : (c : Script) (who : Incarnation) (f : Fact) → is_fit c who (made (item.Fact f)) ≡ true → is_region_fact who f ≡ true
fit_fact c who (fact.View x v) h = h
fit_fact c who (fact.Home x s y) h = (and_both (is_same x who) (is_node c y) h).0
fit_fact c who (fact.Forget x s) h = h
fit_fact c who (fact.Kept x m) h = (and_both (is_same x who) (is_genuine c m) h).0
fit_fact c who (fact.Dropped x m) h = h
fit_fact c who f h = absurd (true_is_not_false (sym h))

fit_facts : (c : Script) (who : Incarnation) (ms : List Move) → list_all (is_fit c who) ms ≡ true → list_all (is_region_fact who) (facts_of ms) ≡ true
fit_facts c who [] h = refl
fit_facts c who (made (item.Fact f) ∷ ms) h =
    let n : (is_fit c who (made (item.Fact f)) ≡ true) × (list_all (is_fit c who) ms ≡ true) = and_both (is_fit c who (made (item.Fact f))) (list_all (is_fit c who) ms) h in
    both (is_region_fact who f) (list_all (is_region_fact who) (facts_of ms)) (fit_fact c who f n.0) (fit_facts c who ms n.1)
fit_facts c who (made (item.Post p) ∷ ms) h = fit_facts c who ms (and_both (is_own_post c who (item.Post p)) (list_all (is_fit c who) ms) h).1
fit_facts c who (m ∷ ms) h = fit_facts c who ms (and_both (is_fit c who m) (list_all (is_fit c who) ms) h).1

homes_written : (c : Script) (homes : List (Option Incarnation)) (t : ℕ) (v : Option Incarnation) → ((h : Incarnation) → v ≡ Some h → is_node c h ≡ true)
    → ((s : ℕ) (h : Incarnation) → slice_index_or homes s None ≡ Some h → is_node c h ≡ true)
    → (s : ℕ) (h : Incarnation) → slice_index_or (slice_set homes t v) s None ≡ Some h → is_node c h ≡ true
homes_written c homes t v new old s = of_write (λ (o : Option Incarnation). (h : Incarnation) → o ≡ Some h → is_node c h ≡ true) homes t s v None (λ e. new) (old s)

abbrev AreKept : Script → Setting → List (List Message) → Type 0
AreKept c set kept = (s : ℕ) → list_all (is_kept_well c set s) (region.kept_of kept s) ≡ true

kept_more : (c : Script) (set : Setting) (kept : List (List Message)) (m : Message) → is_genuine c m ≡ true → AreKept c set kept
    → AreKept c set (slice_set kept (shard_of set m.entity) (region.kept_of kept (shard_of set m.entity) ++ m ∷ []))
kept_more c set kept m genuine old s =
    let t : ℕ = shard_of set m.entity in
    of_write (λ ms. list_all (is_kept_well c set s) ms ≡ true) kept t s (region.kept_of kept t ++ m ∷ []) []
    (λ e. all_join (is_kept_well c set s) (region.kept_of kept t) (m ∷ [])
    (subst (λ k. list_all (is_kept_well c set s) (region.kept_of kept k) ≡ true) e (old s))
    (both (is_kept_well c set s m) true (both (is_genuine c m) (t == s) genuine (number_itself t s (sym e))) refl))
    (old s)

kept_fewer : (c : Script) (set : Setting) (kept : List (List Message)) (t : ℕ) → AreKept c set kept → AreKept c set (slice_set kept t (drop 1 (region.kept_of kept t)))
kept_fewer c set kept t old s =
    of_write (λ ms. list_all (is_kept_well c set s) ms ≡ true) kept t s (drop 1 (region.kept_of kept t)) []
    (λ e. all_drop (is_kept_well c set s) 1 (region.kept_of kept t) (subst (λ k. list_all (is_kept_well c set s) (region.kept_of kept k) ≡ true) e (old s)))
    (old s)

asked_length : (asked : List Bool) (b : Body) → length (region.asked_by_post asked b) ≡ length asked
asked_length asked (body.GetShardHome s) = length-set asked s true
asked_length asked b = refl

one_stands : (c : Script) (st : Region) (m : Move) → is_fit c st.who m ≡ true → IsRegion c st → IsRegion c (region_after st m)
one_stands c st (made (item.Fact (fact.View x v))) h r = record {
  who_is = r.who_is;
  set_is = r.set_is;
  view_is = r.view_is;
  registered_is = r.registered_is;
  homes_are = r.homes_are;
  kept_are = r.kept_are;
  homes_full = r.homes_full;
  marks_full = r.marks_full;
  asked_full = r.asked_full;
  kept_full = r.kept_full;
}
one_stands c st (made (item.Fact (fact.Home x t y))) h r = record {
  who_is = r.who_is;
  set_is = r.set_is;
  view_is = r.view_is;
  registered_is = r.registered_is;
  homes_are = homes_written c st.homes t (Some y) (λ z e. ap (is_node c) (sym (some_is y z e)) ∙ (and_both (is_same x st.who) (is_node c y) h).1) r.homes_are;
  kept_are = r.kept_are;
  homes_full = length-set st.homes t (Some y) ∙ r.homes_full;
  marks_full = r.marks_full;
  asked_full = r.asked_full;
  kept_full = r.kept_full;
}
one_stands c st (made (item.Fact (fact.Forget x t))) h r = record {
  who_is = r.who_is;
  set_is = r.set_is;
  view_is = r.view_is;
  registered_is = r.registered_is;
  homes_are = homes_written c st.homes t None (λ z e. absurd (none_is_not_some z e)) r.homes_are;
  kept_are = r.kept_are;
  homes_full = length-set st.homes t None ∙ r.homes_full;
  marks_full = r.marks_full;
  asked_full = r.asked_full;
  kept_full = r.kept_full;
}
one_stands c st (made (item.Fact (fact.Kept x m))) h r = record {
  who_is = r.who_is;
  set_is = r.set_is;
  view_is = r.view_is;
  registered_is = r.registered_is;
  homes_are = r.homes_are;
  kept_are = kept_more c st.set st.kept m (and_both (is_same x st.who) (is_genuine c m) h).1 r.kept_are;
  homes_full = r.homes_full;
  marks_full = r.marks_full;
  asked_full = r.asked_full;
  kept_full = length-set st.kept (shard_of st.set m.entity) (region.kept_of st.kept (shard_of st.set m.entity) ++ m ∷ []) ∙ r.kept_full;
}
one_stands c st (made (item.Fact (fact.Dropped x m))) h r = record {
  who_is = r.who_is;
  set_is = r.set_is;
  view_is = r.view_is;
  registered_is = r.registered_is;
  homes_are = r.homes_are;
  kept_are = r.kept_are;
  homes_full = r.homes_full;
  marks_full = r.marks_full;
  asked_full = r.asked_full;
  kept_full = r.kept_full;
}
one_stands c st (made (item.Post p)) h r = record {
  who_is = r.who_is;
  set_is = r.set_is;
  view_is = r.view_is;
  registered_is = r.registered_is;
  homes_are = r.homes_are;
  kept_are = r.kept_are;
  homes_full = r.homes_full;
  marks_full = r.marks_full;
  asked_full = asked_length st.asked p.body ∙ r.asked_full;
  kept_full = r.kept_full;
}
one_stands c st (viewed xs) h r = record {
  who_is = r.who_is;
  set_is = r.set_is;
  view_is = h;
  registered_is = r.registered_is;
  homes_are = r.homes_are;
  kept_are = r.kept_are;
  homes_full = r.homes_full;
  marks_full = r.marks_full;
  asked_full = r.asked_full;
  kept_full = r.kept_full;
}
one_stands c st (registered_with x) h r = record {
  who_is = r.who_is;
  set_is = r.set_is;
  view_is = r.view_is;
  registered_is = h;
  homes_are = r.homes_are;
  kept_are = r.kept_are;
  homes_full = r.homes_full;
  marks_full = r.marks_full;
  asked_full = r.asked_full;
  kept_full = r.kept_full;
}
one_stands c st leaves h r = record {
  who_is = r.who_is;
  set_is = r.set_is;
  view_is = r.view_is;
  registered_is = r.registered_is;
  homes_are = r.homes_are;
  kept_are = r.kept_are;
  homes_full = r.homes_full;
  marks_full = r.marks_full;
  asked_full = r.asked_full;
  kept_full = r.kept_full;
}
one_stands c st (marked s stamp) h r = record {
  who_is = r.who_is;
  set_is = r.set_is;
  view_is = r.view_is;
  registered_is = r.registered_is;
  homes_are = r.homes_are;
  kept_are = r.kept_are;
  homes_full = r.homes_full;
  marks_full = length-set st.marks s stamp ∙ r.marks_full;
  asked_full = length-set st.asked s false ∙ r.asked_full;
  kept_full = r.kept_full;
}
one_stands c st (released s) h r = record {
  who_is = r.who_is;
  set_is = r.set_is;
  view_is = r.view_is;
  registered_is = r.registered_is;
  homes_are = r.homes_are;
  kept_are = kept_fewer c st.set st.kept s r.kept_are;
  homes_full = r.homes_full;
  marks_full = r.marks_full;
  asked_full = r.asked_full;
  kept_full = length-set st.kept s (drop 1 (region.kept_of st.kept s)) ∙ r.kept_full;
}
one_stands c st m h r = absurd (true_is_not_false (sym h))

-- Moves.

abbrev pub AreFit : Script → Incarnation → List Move → Type 0
AreFit c who ms = list_all (is_fit c who) ms ≡ true

all_stand : (c : Script) (st : Region) (ms : List Move) → AreFit c st.who ms → IsRegion c st → IsRegion c (fold region_after st ms)
all_stand c st [] h r = r
all_stand c st (m ∷ ms) h r =
    let n : (is_fit c st.who m ≡ true) × (list_all (is_fit c st.who) ms ≡ true) = and_both (is_fit c st.who m) (list_all (is_fit c st.who) ms) h in
    all_stand c (region_after st m) ms n.1 (one_stands c st m n.0 r)

pub kept_by_fit : (c : Script) (st : Region) (ms : List Move) → IsRegion c st → AreFit c st.who ms → KeepsRegion c st ms
kept_by_fit c st ms r h = record {
  stands = all_stand c st ms h r;
  posts_are = all_map (is_fit c st.who) (is_own_move c st.who) (fit_own c st.who) ms h;
  free_are = all_map (is_fit c st.who) is_free_move (fit_free c st.who) ms h;
  facts_are = fit_facts c st.who ms h;
}

pub region_joins : RegionJoins
region_joins c st xs ys f g = record {
  stands = subst (IsRegion c) (sym (fold-append region_after st xs ys)) g.stands;
  posts_are = all_join (is_own_move c st.who) xs ys f.posts_are (subst (λ w. list_all (is_own_move c w) ys ≡ true) (region_who st xs) g.posts_are);
  free_are = all_join is_free_move xs ys f.free_are g.free_are;
  facts_are = ap (list_all (is_region_fact st.who)) (facts_both xs ys) ∙ all_join (is_region_fact st.who) (facts_of xs) (facts_of ys) f.facts_are (subst (λ w. list_all (is_region_fact w) (facts_of ys) ≡ true) (region_who st xs) g.facts_are);
}

-- Rules.

fit_post : (c : Script) (who to : Incarnation) (b : Body) → is_node c who ≡ true → is_node c to ≡ true → is_genuine_body c b ≡ true → AreFit c who (post who to b ∷ [])
fit_post c who to b here there genuine =
    both (is_same who who && (is_node c who && is_node c to && is_genuine_body c b)) true
    (both (is_same who who) (is_node c who && is_node c to && is_genuine_body c b) (itself_is who who refl)
    (both (is_node c who && is_node c to) (is_genuine_body c b) (both (is_node c who) (is_node c to) here there) genuine)) refl

fit_oldest : (c : Script) (st : Region) (b : Body) → IsRegion c st → is_genuine_body c b ≡ true → AreFit c st.who (region.post_oldest b st)
fit_oldest c st b r genuine = all_where_some (is_fit c st.who) (λ x. post st.who x b ∷ []) (region.oldest st)
    (λ x e. fit_post c st.who x b r.who_is (of_first (is_node c) st.view x r.view_is e) genuine)

fit_register : (c : Script) (st : Region) → IsRegion c st → AreFit c st.who (region.register st)
fit_register c st r = all_where_some (is_fit c st.who) (λ x. if is_at x st.registered then [] else post st.who x body.Register ∷ []) (region.oldest st)
    (λ x e. all_if (is_fit c st.who) (is_at x st.registered) [] (post st.who x body.Register ∷ []) refl
    (fit_post c st.who x body.Register r.who_is (of_first (is_node c) st.view x r.view_is e) refl))

fit_forget : (c : Script) (s : ℕ) (st : Region) → AreFit c st.who (region.forget s st)
fit_forget c s st = all_if (is_fit c st.who) (is_none (region.home st s)) [] (told (fact.Forget st.who s) ∷ []) refl (both (is_same st.who st.who) true (itself_is st.who st.who refl) refl)

fit_lost : (c : Script) (xs : List Incarnation) (st : Region) (s : ℕ) → AreFit c st.who (region.forget_lost xs st s)
fit_lost c xs st s = all_where_some (is_fit c st.who) (λ h. if is_among h xs then [] else region.forget s st) (region.home st s)
    (λ h e. all_if (is_fit c st.who) (is_among h xs) [] (region.forget s st) refl (fit_forget c s st))

all_none_wrong : (xs : List ℕ) → list_all (λ s. true) xs ≡ true
all_none_wrong [] = refl
all_none_wrong (x ∷ xs) = all_none_wrong xs

fit_view : (c : Script) (v : ℕ) (xs : List Incarnation) (st : Region) → list_all (is_node c) xs ≡ true → AreFit c st.who (region.take_view v xs st)
fit_view c v xs st nodes =
    let lost : List Move = flat_map (region.forget_lost xs st) (shards st.set) in
    both (list_all (is_node c) xs) (is_same st.who st.who && list_all (is_fit c st.who) lost) nodes
    (both (is_same st.who st.who) (list_all (is_fit c st.who) lost) (itself_is st.who st.who refl)
    (all_each_of (is_fit c st.who) (λ s. true) (region.forget_lost xs st) (shards st.set) (all_none_wrong (shards st.set)) (λ s e. fit_lost c xs st s)))

fit_learn : (c : Script) (s : ℕ) (h : Incarnation) (stamp : Stamp) (st : Region) → is_node c h ≡ true → AreFit c st.who (region.learn s h stamp st)
fit_learn c s h stamp st node = all_if (is_fit c st.who) (is_at h (region.home st s)) [] (told (fact.Home st.who s h) ∷ []) refl
    (both (is_same st.who st.who && is_node c h) true (both (is_same st.who st.who) (is_node c h) (itself_is st.who st.who refl) node) refl)

fit_hand_off : (c : Script) (s : ℕ) (stamp : Stamp) (from : Incarnation) (st : Region) → IsRegion c st → is_shard c s ≡ true → is_node c from ≡ true → AreFit c st.who (region.begin_hand_off s stamp from st)
fit_hand_off c s stamp from st r shard node =
    let drops : List Move = if is_below (region.mark st s) stamp then marked s stamp ∷ region.forget s st else [] in
    let answer : List Move = post st.who from (body.BeginHandOffAck s stamp) ∷ [] in
    all_if (is_fit c st.who) (is_below stamp (region.mark st s)) [] (drops ++ answer) refl
    (all_join (is_fit c st.who) drops answer
    (all_if (is_fit c st.who) (is_below (region.mark st s) stamp) (marked s stamp ∷ region.forget s st) [] (fit_forget c s st) refl)
    (fit_post c st.who from (body.BeginHandOffAck s stamp) r.who_is node shard))

fit_keep : (c : Script) (m : Message) (st : Region) → is_genuine c m ≡ true → AreFit c st.who (region.keep m st)
fit_keep c m st genuine = all_if (is_fit c st.who) (nat_lt (sum_by length st.kept) st.set.config.buffer) (told (fact.Kept st.who m) ∷ []) (told (fact.Dropped st.who m) ∷ [])
    (both (is_same st.who st.who && is_genuine c m) true (both (is_same st.who st.who) (is_genuine c m) (itself_is st.who st.who refl) genuine) refl)
    (both (is_same st.who st.who) true (itself_is st.who st.who refl) refl)

fit_ask : (c : Script) (s : ℕ) (st : Region) → IsRegion c st → is_shard c s ≡ true → AreFit c st.who (region.ask s st)
fit_ask c s st r shard = all_if (is_fit c st.who) (slice_index_or st.asked s false) [] (region.post_oldest (body.GetShardHome s) st) refl (fit_oldest c st (body.GetShardHome s) r shard)

fit_route : (c : Script) (m : Message) (st : Region) → IsRegion c st → is_genuine c m ≡ true → is_shard c (shard_of st.set m.entity) ≡ true
    → (o : Option Incarnation) → ((h : Incarnation) → o ≡ Some h → is_node c h ≡ true) → AreFit c st.who (region.route_by m st o)
fit_route c m st r genuine shard None known = all_join (is_fit c st.who) (region.keep m st) (region.ask (shard_of st.set m.entity) st) (fit_keep c m st genuine) (fit_ask c (shard_of st.set m.entity) st r shard)
fit_route c m st r genuine shard (Some h) known = all_if (is_fit c st.who) (is_same h st.who) (region.keep m st) (post st.who h (body.Sequenced m) ∷ []) (fit_keep c m st genuine)
    (fit_post c st.who h (body.Sequenced m) r.who_is (known h refl) genuine)

fit_again : (c : Script) (st : Region) (s : ℕ) → IsRegion c st → is_shard c s ≡ true → AreFit c st.who (region.ask_again st s)
fit_again c st s r shard = all_if (is_fit c st.who) (is_none (region.home st s) && not (is_empty (region.kept_of st.kept s))) (region.post_oldest (body.GetShardHome s) st) []
    (fit_oldest c st (body.GetShardHome s) r shard) refl

fit_tick : (c : Script) (st : Region) → IsRegion c st → AreFit c st.who (region.tick_region st)
fit_tick c st r =
    let goes : List Move = if st.leaving && region.is_some_home st then region.post_oldest body.GracefulShutdownReq st else [] in
    all_join (is_fit c st.who) (region.register st ++ goes) (flat_map (region.ask_again st) (shards st.set))
    (all_join (is_fit c st.who) (region.register st) goes (fit_register c st r)
    (all_if (is_fit c st.who) (st.leaving && region.is_some_home st) (region.post_oldest body.GracefulShutdownReq st) [] (fit_oldest c st body.GracefulShutdownReq r refl) refl))
    (all_each_of (is_fit c st.who) (is_shard c) (region.ask_again st) (shards st.set) (all_shards c st.set r.set_is) (λ s e. fit_again c st s r e))

oldest_well : (c : Script) (set : Setting) (s : ℕ) (ms : List Message) → list_all (is_kept_well c set s) ms ≡ true → IfSome (slice_get ms 0) (λ m. (is_genuine c m ≡ true) × (shard_of set m.entity ≡ s))
oldest_well c set s [] e = tt
oldest_well c set s (m ∷ ms) e =
    let n : (is_genuine c m ≡ true) × ((shard_of set m.entity == s) ≡ true) = and_both (is_genuine c m) (shard_of set m.entity == s) (and_both (is_kept_well c set s m) (list_all (is_kept_well c set s) ms) e).0 in
    (n.0, same_number (shard_of set m.entity) s n.1)

pub region_keeps : ShardsAreThere → RegionKeeps
region_keeps there c st script r = record {
  views = λ v xs nodes. kept_by_fit c st (region.take_view v xs st) r (fit_view c v xs st nodes);
  registers = kept_by_fit c st (region.register st) r (fit_register c st r);
  registered = λ from node. kept_by_fit c st (region.registered_by from st) r (both (is_node c from) true node refl);
  learns = λ s h stamp shard node. kept_by_fit c st (region.learn s h stamp st) r (fit_learn c s h stamp st node);
  hands_off = λ s stamp from shard node. kept_by_fit c st (region.begin_hand_off s stamp from st) r (fit_hand_off c s stamp from st r shard node);
  leaves = kept_by_fit c st (region.leave st) r (fit_oldest c st body.GracefulShutdownReq r refl);
  ticks = kept_by_fit c st (region.tick_region st) r (fit_tick c st r);
  routes = λ m genuine. kept_by_fit c st (region.route_away m st) r (fit_route c m st r genuine (shard_there m.entity) (region.home st (shard_of st.set m.entity)) (r.homes_are (shard_of st.set m.entity)));
  releases = λ s. kept_by_fit c st (released s ∷ []) r refl;
  oldest_kept = λ s. oldest_well c st.set s (region.kept_of st.kept s) (r.kept_are s);
  answers = λ to b node genuine. kept_by_fit c st (post st.who to b ∷ []) r (fit_post c st.who to b r.who_is node genuine);
}
  where
    shard_there : (e : List ℕ) → is_shard c (shard_of st.set e) ≡ true
    shard_there e = ap (λ (s : Setting). is_shard c (shard_of s e)) r.set_is ∙ there c e script
