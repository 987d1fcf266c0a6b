-- What is kept beside a list, after one entry more.
use Rattle.std.proofs.Common.{◌≡◌, ◌<◌, ◌≤◌, ℕ, ◌+◌, sym, ap, subst, ◌∙◌, refl, arith, length, length-append}
use Rattle.std.specs.Prelude.{Bool, true, false, ◌==◌, ◌&&◌, not, nat_lt, List, [], ◌∷◌, ◌++◌, map, Option, Some, None, is_some, is_none, slice_set, if◌then◌else◌}
use Rattle.std.proofs.lemmas.List.{map-append, get_or-set_same, get_or-set_other}
use Rattle.std.proofs.lemmas.List.Sums.{fold-append}
use Rattle.std.proofs.lemmas.Bool.Decides.{Decides-eqb, nat_tests}
use Rattle.yard_model.specs.declared.fact.Fact.{Fact}
use Rattle.yard_model.specs.declared.fact.Fact.TheVariants as fact
use Rattle.yard_model.specs.declared.entry.CoordEntry.{CoordEntry}
use Rattle.yard_model.specs.declared.incarnation.Incarnation.{Incarnation}
use Rattle.yard_model.specs.declared.incarnation.Cause.{Cause}
use Rattle.yard_model.specs.declared.incarnation.Slot.TheVariants as slot
use Rattle.yard_model.specs.Script.{Script, IsScript, with_shards}
use Rattle.yard_model.specs.Behaviour.{is_in}
use Rattle.yard_model.specs.Words.{is_among, without, at}
use Rattle.yard_model.specs.Entry.{coord_fact}
use Rattle.yard_model.specs.Genuine.{is_node, is_shard}
use Rattle.yard_model.specs.Lawful.{own, is_held, is_coordinator_entry, may_follow}
use Rattle.yard_model.specs.SlotReads.{holder, holder_step, epoch, epoch_step, regions, regions_step, allocation, allocation_step}
use Rattle.yard_model.proofs.FollowLaws.{own_more}
use Rattle.era_laws.proofs.ReshapeLaws.{coordinator_begun}
use Rattle.coordinator_state.specs.Homes.{Placed, home_without}
use Rattle.coordinator_state.specs.Kept.{IsKept}
use Rattle.coordinator_state.proofs.Same.{true_is_not_false, both}

-- One entry more.

regions_more : (xs : List Fact) (f : Fact) → regions (xs ++ f ∷ []) ≡ regions_step (regions xs) f
regions_more xs f = fold-append regions_step [] xs (f ∷ [])

allocation_more : (s : ℕ) (xs : List Fact) (f : Fact) → allocation s (xs ++ f ∷ []) ≡ allocation_step s (allocation s xs) f
allocation_more s xs f = fold-append (allocation_step s) None xs (f ∷ [])

epoch_more : (xs : List Fact) (f : Fact) → epoch (xs ++ f ∷ []) ≡ epoch_step (epoch xs) f
epoch_more xs f = fold-append epoch_step 0 xs (f ∷ [])

holder_more : (xs : List Fact) (f : Fact) → holder (xs ++ f ∷ []) ≡ holder_step (holder xs) f
holder_more xs f = fold-append holder_step None xs (f ∷ [])

kept_more : (c : Script) (xs : List Fact) (p q : Placed) (n m : ℕ) (b d : Bool) (f : Fact) → IsKept c xs p n b
    → may_follow c slot.Coordinator xs f ≡ true
    → q.regions ≡ regions_step p.regions f
    → ((s : ℕ) → s < 128 → at q.homes s ≡ allocation_step s (at p.homes s) f)
    → m ≡ epoch_step n f
    → m ≤ length xs + 1
    → d ≡ is_some (holder_step (holder xs) f)
    → IsKept c (xs ++ f ∷ []) q m d
kept_more c xs p q n m b d f k may regions homes epoch few held = record {
  lawful = own_more c slot.Coordinator xs f k.lawful may;
  registered = regions ∙ (ap (λ rs. regions_step rs f) k.registered ∙ sym (regions_more xs f));
  homes = λ s h. homes s h ∙ (ap (λ o. allocation_step s o f) (k.homes s h) ∙ sym (allocation_more s xs f));
  epoch = epoch ∙ (ap (λ e. epoch_step e f) k.epoch ∙ sym (epoch_more xs f));
  few = omega (arith, few, length-append xs (f ∷ []));
  held = held ∙ ap is_some (sym (holder_more xs f));
}

-- the facts of one entry more
pub facts_more : (items after : List CoordEntry) (e : CoordEntry) → after ≡ items ++ e ∷ [] → map coord_fact after ≡ map coord_fact items ++ coord_fact e ∷ []
facts_more items after e k = ap (map coord_fact) k ∙ map-append coord_fact items (e ∷ [])

at_same : (a : ℕ) → (a == a) ≡ true
at_same a = (Decides-eqb a a).1 refl

below : (a b : ℕ) → a < b → nat_lt a b ≡ true
below a b h = grind (arith, nat_tests)

-- nothing is kept of no list
pub none_kept : (c : Script) (p : Placed) → p.regions ≡ [] → ((s : ℕ) → s < 128 → at p.homes s ≡ None) → IsKept c [] p 0 false
none_kept c p regions homes = record { lawful = refl; registered = regions; homes = homes; epoch = refl; few = omega arith; held = refl }

-- Each kind of entry.

pub registered_kept : (c : Script) (xs : List Fact) (p q : Placed) (n : ℕ) (b : Bool) (r : Incarnation) → IsKept c xs p n b → is_held xs ≡ true → is_node c r ≡ true → is_among r (regions xs) ≡ false → length (regions xs) < 16
    → q.regions ≡ p.regions ++ r ∷ [] → q.homes ≡ p.homes → IsKept c (xs ++ fact.Registered r ∷ []) q n b
registered_kept c xs p q n b r k held node fresh room regions_are homes_are =
    kept_more c xs p q n n b b (fact.Registered r) k
    (both (is_held xs) (is_coordinator_entry c xs (fact.Registered r)) held (both (is_node c r && not (is_among r (regions xs))) (nat_lt (length (regions xs)) 16) (both (is_node c r) (not (is_among r (regions xs))) node (ap not fresh)) (below (length (regions xs)) 16 room)))
    regions_are (λ s h. ap (λ hs. at hs s) homes_are) refl (omega (arith, k.few)) k.held

pub terminated_kept : (c : Script) (xs : List Fact) (p q : Placed) (n : ℕ) (b : Bool) (r : Incarnation) → IsKept c xs p n b → is_held xs ≡ true → is_among r (regions xs) ≡ true
    → q.regions ≡ without r p.regions → ((s : ℕ) → at q.homes s ≡ home_without r (at p.homes s)) → IsKept c (xs ++ fact.Terminated r ∷ []) q n b
terminated_kept c xs p q n b r k held among regions_are homes_are =
    kept_more c xs p q n n b b (fact.Terminated r) k
    (both (is_held xs) (is_coordinator_entry c xs (fact.Terminated r)) held among)
    regions_are (λ s h. homes_are s) refl (omega (arith, k.few)) k.held

-- the homes after another home of s
placed_at : (homes : List (Option Incarnation)) (s : ℕ) (home : Option Incarnation) → s < length homes → (t : ℕ) → at (slice_set homes s home) t ≡ (if s == t then home else at homes t)
placed_at homes s home within t = step (s == t) refl
  where
    step : (b : Bool) → (s == t) ≡ b → at (slice_set homes s home) t ≡ (if b then home else at homes t)
    step true e = ap (at (slice_set homes s home)) (sym ((Decides-eqb s t).0 e)) ∙ get_or-set_same homes s home None within
    step false e = get_or-set_other homes s t home None (λ same. true_is_not_false (sym ((Decides-eqb s t).1 (sym same)) ∙ e))

pub allocated_kept : (c : Script) (xs : List Fact) (p q : Placed) (n : ℕ) (b : Bool) (s : ℕ) (r : Incarnation) → IsKept c xs p n b → is_held xs ≡ true → is_shard c s ≡ true → is_among r (regions xs) ≡ true → is_none (allocation s xs) ≡ true
    → s < length p.homes → q.regions ≡ p.regions → q.homes ≡ slice_set p.homes s (Some r) → IsKept c (xs ++ fact.Allocated s r ∷ []) q n b
allocated_kept c xs p q n b s r k held shard among free within regions_are homes_are =
    kept_more c xs p q n n b b (fact.Allocated s r) k
    (both (is_held xs) (is_coordinator_entry c xs (fact.Allocated s r)) held (both (is_shard c s && is_among r (regions xs)) (is_none (allocation s xs)) (both (is_shard c s) (is_among r (regions xs)) shard among) free))
    regions_are (λ t h. ap (λ hs. at hs t) homes_are ∙ placed_at p.homes s (Some r) within t) refl (omega (arith, k.few)) k.held

pub deallocated_kept : (c : Script) (xs : List Fact) (p q : Placed) (n : ℕ) (b : Bool) (s : ℕ) → IsKept c xs p n b → is_held xs ≡ true → is_shard c s ≡ true → is_some (allocation s xs) ≡ true
    → s < length p.homes → q.regions ≡ p.regions → q.homes ≡ slice_set p.homes s None → IsKept c (xs ++ fact.Deallocated s ∷ []) q n b
deallocated_kept c xs p q n b s k held shard home within regions_are homes_are =
    kept_more c xs p q n n b b (fact.Deallocated s) k
    (both (is_held xs) (is_coordinator_entry c xs (fact.Deallocated s)) held (both (is_shard c s) (is_some (allocation s xs)) shard home))
    regions_are (λ t h. ap (λ hs. at hs t) homes_are ∙ placed_at p.homes s None within t) refl (omega (arith, k.few)) k.held

pub granted_kept : (c : Script) (xs : List Fact) (p : Placed) (n : ℕ) (b : Bool) (who : Incarnation) → IsKept c xs p n b → is_held xs ≡ false → is_node c who ≡ true
    → IsKept c (xs ++ fact.Granted slot.Coordinator (n + 1) who ∷ []) p (n + 1) true
granted_kept c xs p n b who k free node =
    kept_more c xs p p n (n + 1) b true (fact.Granted slot.Coordinator (n + 1) who) k
    (both (not (is_held xs) && (n + 1 == epoch xs + 1)) (is_node c who) (both (not (is_held xs)) (n + 1 == epoch xs + 1) (ap not free) ((Decides-eqb (n + 1) (epoch xs + 1)).1 (ap (λ m. m + 1) k.epoch))) node)
    refl (λ s h. refl) refl (omega (arith, k.few)) refl

pub freed_kept : (c : Script) (xs : List Fact) (p : Placed) (n : ℕ) (b : Bool) (why : Cause) → IsKept c xs p n b → is_held xs ≡ true
    → IsKept c (xs ++ fact.Freed slot.Coordinator n why ∷ []) p n false
freed_kept c xs p n b why k held =
    kept_more c xs p p n n b false (fact.Freed slot.Coordinator n why) k
    (both (is_held xs && (n == epoch xs)) true (both (is_held xs) (n == epoch xs) held ((Decides-eqb n (epoch xs)).1 k.epoch)) refl)
    refl (λ s h. refl) refl (omega (arith, k.few)) refl

-- The number of shards.

pub resharded_kept : (c new : Script) (xs : List Fact) (p q : Placed) (n k : ℕ) (b : Bool) → IsKept c xs p n b → c.config.shards ≤ 128 → is_in 1 128 new.config.shards ≡ true → is_held xs ≡ false → new ≡ with_shards new.config.shards c
    → q.regions ≡ p.regions → ((s : ℕ) → at q.homes s ≡ None) → IsKept new (xs ++ fact.Reshard new.config.shards k ∷ []) q n b
resharded_kept c new xs p q n k b kept most range free same regions homes =
    let f : Fact = fact.Reshard new.config.shards k in
    record {
      lawful = subst (λ x. own x slot.Coordinator (xs ++ f ∷ []) ≡ true) (sym same) (coordinator_begun c new.config.shards k xs most range free kept.lawful);
      registered = regions ∙ (kept.registered ∙ sym (regions_more xs f));
      homes = λ s h. homes s ∙ sym (allocation_more s xs f);
      epoch = kept.epoch ∙ sym (epoch_more xs f);
      few = omega (arith, kept.few, length-append xs (f ∷ []));
      held = kept.held ∙ ap is_some (sym (holder_more xs f));
    }

pub shards_range : (c : Script) → IsScript c → is_in 1 128 c.config.shards ≡ true
shards_range c k = second (is_in 1 16 c.config.nodes) (is_in 1 128 c.config.shards) (is_in 1 32 c.config.producers) (is_in 1 1000 c.config.buffer) (is_in 1 64 c.config.window) (is_in 1 10000 c.config.snapshot) (is_in 1 10 c.config.keep) k.config
  where
    second : (a b d e f g i : Bool) → (a && b && d && e && f && g && i) ≡ true → b ≡ true
    second true true d e f g i h = refl
    second true false d e f g i h = h
    second false true d e f g i h = refl
    second false false d e f g i h = h
