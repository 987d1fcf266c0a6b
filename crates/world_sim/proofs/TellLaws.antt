-- What the facts of an input do to the words of a world.
use Rattle.std.proofs.Common.{◌≡◌, ℕ, ◌+◌, sym, ap, ◌∙◌, refl}
use Rattle.std.specs.Prelude.{Bool, true, false, nat_lt, List, [], ◌∷◌, ◌++◌, length, fold, Option, if◌then◌else◌}
use Rattle.std.specs.List.{list_all}
use Rattle.std.proofs.lemmas.List.Sums.{fold-append}
use Rattle.yard_model.specs.declared.fact.Fact.{Fact}
use Rattle.yard_model.specs.declared.fact.Fact.TheVariants as fact
use Rattle.yard_model.specs.declared.out.Item.{Item}
use Rattle.yard_model.specs.declared.out.Item.TheVariants as item
use Rattle.yard_model.specs.declared.packet.Packet.{Packet}
use Rattle.yard_model.specs.declared.incarnation.Incarnation.{Incarnation}
use Rattle.yard_model.specs.Script.{Setting}
use Rattle.yard_model.specs.SlotLists.{SlotLists}
use Rattle.yard_model.specs.Trace.{lists_step}
use Rattle.yard_model.specs.Node.{Node}
use Rattle.yard_model.specs.World.{World, world_after, members_step, version_step, ups_step, wire_step, fresh_step, full_step, nodes_step, numbered, count_posts, input_facts}
use Rattle.actor_laws.specs.Owes.{facts_in}
use Rattle.plain_laws.proofs.Booleans.{true_is_not_false, and_both, both, all_map}
use Rattle.plain_laws.proofs.Lists.{all_join, all_if}
use Rattle.world_sim.specs.Told.{is_own, is_own_item}

-- it changes neither the number of shards nor the version of behaviours
abbrev pub is_within : Fact → Bool
is_within (fact.Reshard n k) = false
is_within (fact.Upgrade v) = false
is_within f = true

abbrev pub AreWithin : List Fact → Type 0
AreWithin fs = list_all is_within fs ≡ true

-- the words after such a fact
abbrev words_next : World → Fact → World
words_next w f = record w {
  members = members_step w.members f;
  version = version_step w.version f;
  ups = ups_step w.ups f;
  wire = wire_step w.wire f;
  fresh = fresh_step w.fresh f;
  lists = lists_step w.set w.lists f;
  full = full_step w.full f;
  nodes = nodes_step w.set w.behaviour w.nodes f;
}

next_is : (w : World) (f : Fact) → is_within f ≡ true → world_after w f ≡ words_next w f
next_is w (fact.Reshard n k) h = absurd (true_is_not_false (sym h))
next_is w (fact.Upgrade v) h = absurd (true_is_not_false (sym h))
next_is w f h = refl

-- each word after such facts is the fold of its own step
pub words_after : (w : World) (fs : List Fact) → AreWithin fs → fold world_after w fs ≡ record w {
  members = fold members_step w.members fs;
  version = fold version_step w.version fs;
  ups = fold ups_step w.ups fs;
  wire = fold wire_step w.wire fs;
  fresh = fold fresh_step w.fresh fs;
  lists = fold (lists_step w.set) w.lists fs;
  full = fold full_step w.full fs;
  nodes = fold (nodes_step w.set w.behaviour) w.nodes fs;
}
words_after w [] h = refl
words_after w (f ∷ fs) h =
    let m : (is_within f ≡ true) × AreWithin fs = and_both (is_within f) (list_all is_within fs) h in
    ap (λ v. fold world_after v fs) (next_is w f m.0) ∙ words_after (words_next w f) fs m.1

-- a fact that a node may tell is such a one
own_within : (f : Fact) → is_own f ≡ true → is_within f ≡ true
own_within (fact.Reshard n k) h = h
own_within (fact.Upgrade v) h = h
own_within f h = refl

pub facts_within : (fs : List Fact) → list_all is_own fs ≡ true → AreWithin fs
facts_within fs h = all_map is_own is_within own_within fs h

numbered_within : (limit k : ℕ) (is : List Item) → list_all is_own_item is ≡ true → AreWithin (numbered limit k is)
numbered_within limit k [] h = refl
numbered_within limit k (item.Fact f ∷ is) h =
    let s : (is_own f ≡ true) × (list_all is_own_item is ≡ true) = and_both (is_own f) (list_all is_own_item is) h in
    both (is_within f) (list_all is_within (numbered limit k is)) (own_within f s.0) (numbered_within limit k is s.1)
numbered_within limit k (item.Post p ∷ is) h =
    all_join is_within (if nat_lt k limit then fact.Sent (k + 1) p ∷ [] else []) (numbered limit (k + 1) is)
    (all_if is_within (nat_lt k limit) (fact.Sent (k + 1) p ∷ []) [] refl refl) (numbered_within limit (k + 1) is h)

pub input_within : (w : World) (is : List Item) → list_all is_own_item is ≡ true → AreWithin (input_facts w is)
input_within w is h =
    all_join is_within (numbered w.limit (length w.wire) is) (if nat_lt w.limit (fold count_posts (length w.wire) is) then fact.WireFull ∷ [] else [])
    (numbered_within w.limit (length w.wire) is h) (all_if is_within (nat_lt w.limit (fold count_posts (length w.wire) is)) (fact.WireFull ∷ []) [] refl refl)

-- A word that no post changes.

record IsApart {A : Type 0} (step : A → Fact → A) : Type 0 where
  sent : (a : A) (k : ℕ) (p : Packet) → step a (fact.Sent k p) ≡ a
  filled : (a : A) → step a fact.WireFull ≡ a

post_apart : {A : Type 0} (step : A → Fact → A) → IsApart step → (b : Bool) (k : ℕ) (p : Packet) (fs : List Fact) (a : A) → fold step a ((if b then fact.Sent k p ∷ [] else []) ++ fs) ≡ fold step a fs
post_apart step h true k p fs a = ap (λ x. fold step x fs) (h.sent a k p)
post_apart step h false k p fs a = refl

numbered_apart : {A : Type 0} (step : A → Fact → A) → IsApart step → (limit k : ℕ) (is : List Item) (a : A) → fold step a (numbered limit k is) ≡ fold step a (facts_in is)
numbered_apart step h limit k [] a = refl
numbered_apart step h limit k (item.Fact f ∷ is) a = numbered_apart step h limit k is (step a f)
numbered_apart step h limit k (item.Post p ∷ is) a = post_apart step h (nat_lt k limit) (k + 1) p (numbered limit (k + 1) is) a ∙ numbered_apart step h limit (k + 1) is a

filled_apart : {A : Type 0} (step : A → Fact → A) → IsApart step → (b : Bool) (a : A) → fold step a (if b then fact.WireFull ∷ [] else []) ≡ a
filled_apart step h true a = h.filled a
filled_apart step h false a = refl

input_apart : {A : Type 0} (step : A → Fact → A) → IsApart step → (w : World) (is : List Item) (a : A) → fold step a (input_facts w is) ≡ fold step a (facts_in is)
input_apart step h w is a =
    fold-append step a (numbered w.limit (length w.wire) is) (if nat_lt w.limit (fold count_posts (length w.wire) is) then fact.WireFull ∷ [] else [])
    ∙ (filled_apart step h (nat_lt w.limit (fold count_posts (length w.wire) is)) (fold step a (numbered w.limit (length w.wire) is))
    ∙ numbered_apart step h w.limit (length w.wire) is a)

lists_apart : (set : Setting) → IsApart (lists_step set)
lists_apart set = record { sent = λ a k p. refl; filled = λ a. refl }

pub input_lists : (set : Setting) (w : World) (is : List Item) (lists : SlotLists) → fold (lists_step set) lists (input_facts w is) ≡ fold (lists_step set) lists (facts_in is)
input_lists set w is lists = input_apart (lists_step set) (lists_apart set) w is lists

-- A word that no fact of a node changes.

stays : {A : Type 0} (step : A → Fact → A) → ((a : A) (f : Fact) → is_own f ≡ true → step a f ≡ a) → (is : List Item) (a : A) → list_all is_own_item is ≡ true → fold step a (facts_in is) ≡ a
stays step h [] a e = refl
stays step h (item.Fact f ∷ is) a e = let s : (is_own f ≡ true) × (list_all is_own_item is ≡ true) = and_both (is_own f) (list_all is_own_item is) e in ap (λ x. fold step x (facts_in is)) (h a f s.0) ∙ stays step h is a s.1
stays step h (item.Post p ∷ is) a e = stays step h is a e

members_stay : (a : List Incarnation) (f : Fact) → is_own f ≡ true → members_step a f ≡ a
members_stay a (fact.Up x) e = absurd (true_is_not_false (sym e))
members_stay a (fact.Gone x) e = absurd (true_is_not_false (sym e))
members_stay a f e = refl

version_stays : (a : ℕ) (f : Fact) → is_own f ≡ true → version_step a f ≡ a
version_stays a (fact.Up x) e = absurd (true_is_not_false (sym e))
version_stays a (fact.Gone x) e = absurd (true_is_not_false (sym e))
version_stays a f e = refl

ups_stay : (a : List ℕ) (f : Fact) → is_own f ≡ true → ups_step a f ≡ a
ups_stay a (fact.Up x) e = absurd (true_is_not_false (sym e))
ups_stay a f e = refl

nodes_stay : (set : Setting) (version : ℕ) (a : List (Option Node)) (f : Fact) → is_own f ≡ true → nodes_step set version a f ≡ a
nodes_stay set version a (fact.Up x) e = absurd (true_is_not_false (sym e))
nodes_stay set version a (fact.Gone x) e = absurd (true_is_not_false (sym e))
nodes_stay set version a f e = refl

pub input_members : (w : World) (is : List Item) (a : List Incarnation) → list_all is_own_item is ≡ true → fold members_step a (input_facts w is) ≡ a
input_members w is a e = input_apart members_step (record { sent = λ a k p. refl; filled = λ a. refl }) w is a ∙ stays members_step members_stay is a e

pub input_version : (w : World) (is : List Item) (a : ℕ) → list_all is_own_item is ≡ true → fold version_step a (input_facts w is) ≡ a
input_version w is a e = input_apart version_step (record { sent = λ a k p. refl; filled = λ a. refl }) w is a ∙ stays version_step version_stays is a e

pub input_ups : (w : World) (is : List Item) (a : List ℕ) → list_all is_own_item is ≡ true → fold ups_step a (input_facts w is) ≡ a
input_ups w is a e = input_apart ups_step (record { sent = λ a k p. refl; filled = λ a. refl }) w is a ∙ stays ups_step ups_stay is a e

pub input_nodes : (set : Setting) (version : ℕ) (w : World) (is : List Item) (a : List (Option Node)) → list_all is_own_item is ≡ true → fold (nodes_step set version) a (input_facts w is) ≡ a
input_nodes set version w is a e = input_apart (nodes_step set version) (record { sent = λ a k p. refl; filled = λ a. refl }) w is a ∙ stays (nodes_step set version) (nodes_stay set version) is a e
