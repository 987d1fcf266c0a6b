-- What a producer does: confirms, is asked for more, marks what it sends.
use Rattle.std.proofs.Common.{◌≡◌, ◌<◌, ◌≤◌, ◌⊎◌, inl, inr, ℕ, zero, suc, ◌+◌, ◌-◌, ◌*◌, List, [], ◌∷◌, length, sym, ap, subst, ◌∙◌, refl, true, false, arith}
use Rattle.std.specs.Prelude.{is_none, Option, Some, None, slice_index_or, slice_set}
use Rattle.std.specs.List.{list_any}
use Rattle.std.proofs.lemmas.List.Sums.{sum_by-set}
use Rattle.yard_model.specs.declared.packet.Message.{Message}
use Rattle.yard_model.specs.Entities.{cell_in}
use Rattle.yard_model.specs.Producer.{Producer}
use Rattle.yard_model.specs.Script.{is_name}
use Rattle.yard_model.specs.Setting.{place}
use Rattle.yard_model.specs.Words.{at}
use Rattle.plain_laws.proofs.Booleans.{same_name}
use Rattle.plain_laws.proofs.Lists.{by_place}
use Rattle.settle_laws.specs.Alone.{Base, Alone, recorded, confirmed_by, queued_by, sent_by, producer_at, IsThere, is_active, Fits, is_requesting, Stands, cells_load, wire_load, lefts, kept_load, total, load, More}
use Rattle.settle_laws.proofs.Records.{le_itself, le_of}
use Rattle.settle_laws.proofs.Tools.{each_map, IsPaced}
use Rattle.yard_model.specs.Region.{kept_of}
use Rattle.std.specs.Prelude.{sum_by}
use Rattle.yard_model.specs.Producer.{progress}
use Rattle.yard_model.specs.SlotReads.{queued, confirmed}
use Rattle.std.specs.List.{sum_by}
use Rattle.std.proofs.lemmas.List.Sums.{sum_by-cons, passes_at_first}
use Rattle.plain_laws.proofs.Lists.{inside, placed_at, placed_beside}
use Rattle.settle_laws.specs.Alone.{demand_by, left_by, left_of}
use Rattle.settle_laws.proofs.Write.{fits_more}

-- Sums.

pub sum_less : (f g : List ℕ → ℕ) (names : List (List ℕ)) → ((x : List ℕ) → g x ≤ f x) → sum_by g names ≤ sum_by f names
sum_less f g [] less = le_itself 0
sum_less f g (x ∷ xs) less = subst (λ n. n ≤ sum_by f (x ∷ xs)) (sym (sum_by-cons g x xs)) (subst (λ n. g x + sum_by g xs ≤ n) (sym (sum_by-cons f x xs)) (sums (g x) (f x) (sum_by g xs) (sum_by f xs) (less x) (sum_less f g xs less)))
  where
    sums : (a b c d : ℕ) → a ≤ b → c ≤ d → a + c ≤ b + d
    sums a b c d h k = omega (arith, h, k)

-- lower by d at one name, and nowhere higher
pub sum_lower : (f g : List ℕ → ℕ) (names : List (List ℕ)) (e : List ℕ) (d : ℕ) → ((x : List ℕ) → g x ≤ f x) → g e + d ≤ f e → (i : ℕ) → i < length names → slice_index_or names i [] ≡ e → sum_by g names + d ≤ sum_by f names
sum_lower f g [] e d less low i inside is = absurd (none i inside)
  where
    none : (i : ℕ) → i < 0 → ⊥
    none i h = omega (arith, h)
sum_lower f g (x ∷ xs) e d less low zero inside is = subst (λ n. n + d ≤ sum_by f (x ∷ xs)) (sym (sum_by-cons g x xs)) (subst (λ n. g x + sum_by g xs + d ≤ n) (sym (sum_by-cons f x xs))
    (sums (g x) (f x) (sum_by g xs) (sum_by f xs) d (subst (λ y. g y + d ≤ f y) (sym is) low) (sum_less f g xs less)))
  where
    sums : (a b c k d : ℕ) → a + d ≤ b → c ≤ k → a + c + d ≤ b + k
    sums a b c k d h j = omega (arith, h, j)
sum_lower f g (x ∷ xs) e d less low (suc i) inside is = subst (λ n. n + d ≤ sum_by f (x ∷ xs)) (sym (sum_by-cons g x xs)) (subst (λ n. g x + sum_by g xs + d ≤ n) (sym (sum_by-cons f x xs))
    (sums (g x) (f x) (sum_by g xs) (sum_by f xs) d (less x) (sum_lower f g xs e d less low i (below i (length xs) inside) is)))
  where
    sums : (a b c k d : ℕ) → a ≤ b → c + d ≤ k → a + c + d ≤ b + k
    sums a b c k d h j = omega (arith, h, j)

    below : (i n : ℕ) → suc i < suc n → i < n
    below i n h = omega (arith, h)

-- A producer is put.

abbrev pub with_producer : Alone → ℕ → Producer → Alone
with_producer z p k = record z { producers = slice_set z.producers (p - 1) (Some k) }

-- what is asked of it
pub record Takes (b : Base) (later later' : ℕ → List ℕ → Type 0) (z : Alone) (p : ℕ) (k new : Producer) : Type 0 where
  pub above : 0 < p
  pub found : producer_at z.producers p ≡ Some k
  pub is : (new.who ≡ b.who) × (new.set ≡ b.set) × (new.number ≡ p) × (length new.pairs ≡ length b.set.names)
  pub queued_is : (f : List ℕ) → queued f new.entries ≡ queued f k.entries
  pub confirmed_on : (f : List ℕ) → confirmed f k.entries ≤ confirmed f new.entries
  pub confirmed_recorded : (f : List ℕ) → confirmed f new.entries ≤ recorded b z.hosted p f
  pub confirmed_queued : (f : List ℕ) → confirmed f new.entries ≤ queued f new.entries
  pub paced : (f : List ℕ) → ((((progress new f).demand ≡ 0) × ((progress new f).sent ≤ confirmed f new.entries + 1) × (list_any (is_requesting p f) z.wire ≡ false)) ⊎ ((is_active b z.cells f ≡ true) × (((progress new f).sent ≤ recorded b z.hosted p f) ⊎ later' p f)))
  pub later_on : (q : ℕ) (f : List ℕ) → later q f → later' q f

-- one producer, or another
pub by_producers : (P : Type 0) (q p : ℕ) → 0 < q → 0 < p → (q ≡ p → P) → ((q - 1 ≡ p - 1 → ⊥) → P) → P
by_producers P q p h k same other = by_place P (q - 1) (p - 1) (λ e. same (back q p h k e)) other
  where
    back : (q p : ℕ) → 0 < q → 0 < p → q - 1 ≡ p - 1 → q ≡ p
    back q p h k e = omega (arith, h, k, e)

-- where each word of each producer is so, it is so after
pub each_producer : (Q : ℕ → Option Producer → Type 0) (producers : List (Option Producer)) (p : ℕ) (new : Producer) → 0 < p → p - 1 < length producers → Q p (Some new) → ((q : ℕ) → 0 < q → Q q (producer_at producers q)) → (q : ℕ) → 0 < q → Q q (producer_at (slice_set producers (p - 1) (Some new)) q)
each_producer Q producers p new above less now was q is = by_producers (Q q (producer_at (slice_set producers (p - 1) (Some new)) q)) q p is above
    (λ same. subst (λ r. Q r (producer_at (slice_set producers (p - 1) (Some new)) r)) (sym same) (subst (Q p) (sym (placed_at producers (p - 1) (Some new) less)) now))
    (λ other. subst (Q q) (sym (placed_beside producers (p - 1) (q - 1) (Some new) other)) (was q is))

-- and a word that stays at p stays everywhere
pub word_producer : (w : Option Producer → ℕ) (producers : List (Option Producer)) (p : ℕ) (new : Producer) → p - 1 < length producers → w (Some new) ≡ w (producer_at producers p) → (q : ℕ) → w (producer_at (slice_set producers (p - 1) (Some new)) q) ≡ w (producer_at producers q)
word_producer w producers p new less same q = by_place (w (producer_at (slice_set producers (p - 1) (Some new)) q) ≡ w (producer_at producers q)) (q - 1) (p - 1)
    (λ e. subst (λ i. w (at (slice_set producers (p - 1) (Some new)) i) ≡ w (at producers i)) (sym e) (ap w (placed_at producers (p - 1) (Some new) less) ∙ same))
    (λ other. ap w (placed_beside producers (p - 1) (q - 1) (Some new) other))

pub word_more : (w : Option Producer → ℕ) (producers : List (Option Producer)) (p : ℕ) (new : Producer) → p - 1 < length producers → w (producer_at producers p) ≤ w (Some new) → (q : ℕ) → w (producer_at producers q) ≤ w (producer_at (slice_set producers (p - 1) (Some new)) q)
word_more w producers p new less same q = by_place (w (producer_at producers q) ≤ w (producer_at (slice_set producers (p - 1) (Some new)) q)) (q - 1) (p - 1)
    (λ e. subst (λ i. w (at producers i) ≤ w (at (slice_set producers (p - 1) (Some new)) i)) (sym e) (subst (λ o. w (at producers (p - 1)) ≤ w o) (sym (placed_at producers (p - 1) (Some new) less)) same))
    (λ other. le_of _ _ (ap w (sym (placed_beside producers (p - 1) (q - 1) (Some new) other))))

pub some_producer : (x y : Producer) → Some x ≡ Some y → x ≡ y
some_producer x y e = Rattle.plain_laws.proofs.Lists.some_is x y e

pub put_producer : (b : Base) (later later' : ℕ → List ℕ → Type 0) (z : Alone) (p : ℕ) (k new : Producer) → Stands b later z → Takes b later later' z p k new → Stands b later' (with_producer z p new)
put_producer b later later' z p k new s t = record {
  base_is = s.base_is;
  homes_there = s.homes_there;
  asked_there = s.asked_there;
  kept_there = s.kept_there;
  hosted_there = s.hosted_there;
  cells_there = s.cells_there;
  homes = s.homes;
  marks = s.marks;
  running = s.running;
  free = s.free;
  hosts = s.hosts;
  regions_are = s.regions_are;
  lease_is = s.lease_is;
  allocated = s.allocated;
  asking = s.asking;
  settled = s.settled;
  live = s.live;
  loading = s.loading;
  kept = λ u. each_map _ _ (kept_of z.kept u) (λ x h. (h.0, fits_on x h.1)) (s.kept u);
  stashed = λ f. each_map _ _ (cell_in b.set z.cells f).stash (λ x h. (h.0, fits_on x h.1)) (s.stashed f);
  posted = s.posted;
  producing = λ q j is. each_producer (λ q o. (j : Producer) → o ≡ Some j → (j.who ≡ b.who) × (j.set ≡ b.set) × (j.number ≡ q) × (length j.pairs ≡ length b.set.names)) z.producers p new t.above less
      (λ j e. subst (λ (x : Producer). (x.who ≡ b.who) × (x.set ≡ b.set) × (x.number ≡ p) × (length x.pairs ≡ length b.set.names)) (some_producer new j e) t.is) (λ q is j. s.producing q j is) q is j;
  bounded = λ q f is. each_producer (λ q o. (confirmed_by f o ≤ recorded b z.hosted q f) × (confirmed_by f o ≤ queued_by f o) × (queued_by f o ≤ b.made q f) × (recorded b z.hosted q f ≤ b.made q f)) z.producers p new t.above less
      (t.confirmed_recorded f, t.confirmed_queued f, subst (λ n. n ≤ b.made p f) (sym (t.queued_is f)) (queued_made f), (s.bounded p f t.above).3) (λ q is. s.bounded q f is) q is;
  paced = λ q f is. each_producer (λ q o. ((demand_by f o ≡ 0) × (sent_by f o ≤ confirmed_by f o + 1) × (list_any (is_requesting q f) z.wire ≡ false)) ⊎ ((is_active b z.cells f ≡ true) × ((sent_by f o ≤ recorded b z.hosted q f) ⊎ later' q f))) z.producers p new t.above less
      (t.paced f) (λ q is. weaker q f (s.paced q f is)) q is;
}
  where
    less : p - 1 < length z.producers
    less = inside z.producers (p - 1) k t.found

    queued_made : (f : List ℕ) → queued f k.entries ≤ b.made p f
    queued_made f = subst (λ o. queued_by f o ≤ b.made p f) t.found (s.bounded p f t.above).2

    queued_on : (q : ℕ) (f : List ℕ) → queued_by f (producer_at z.producers q) ≤ queued_by f (producer_at (slice_set z.producers (p - 1) (Some new)) q)
    queued_on q f = le_of _ _ (sym (word_producer (queued_by f) z.producers p new less (t.queued_is f ∙ ap (queued_by f) (sym t.found)) q))

    fits_on : (x : Message) → Fits b z.hosted z.producers x → Fits b z.hosted (slice_set z.producers (p - 1) (Some new)) x
    fits_on x = fits_more b z.hosted z.hosted z.producers (slice_set z.producers (p - 1) (Some new)) x (λ q f. le_itself (recorded b z.hosted q f)) queued_on

    weaker : (q : ℕ) (f : List ℕ) → IsPaced b (later q f) z.hosted z.cells z.producers z.wire q f → IsPaced b (later' q f) z.hosted z.cells z.producers z.wire q f
    weaker q f (inl h) = inl h
    weaker q f (inr h) = inr (h.0, by h.1)
      where
        by : (sent_by f (producer_at z.producers q) ≤ recorded b z.hosted q f) ⊎ later q f → (sent_by f (producer_at z.producers q) ≤ recorded b z.hosted q f) ⊎ later' q f
        by (inl k) = inl k
        by (inr k) = inr (t.later_on q f k)

pub producer_more : (b : Base) (later later' : ℕ → List ℕ → Type 0) (z : Alone) (p : ℕ) (k new : Producer) → Takes b later later' z p k new → More b z (with_producer z p new)
producer_more b later later' z p k new t = record {
  homes_on = λ t h. h;
  live_on = λ e h. h;
  active_on = λ e h. h;
  recorded_on = λ q f. le_itself (recorded b z.hosted q f);
  confirmed_on = λ q f. word_more (confirmed_by f) z.producers p new less (subst (λ o. confirmed_by f o ≤ confirmed f new.entries) (sym t.found) (t.confirmed_on f)) q;
  queued_on = λ q f. word_producer (queued_by f) z.producers p new less (t.queued_is f ∙ ap (queued_by f) (sym t.found)) q;
  holds_on = λ q h. by_place (is_none (at (slice_set z.producers (p - 1) (Some new)) (q - 1)) ≡ false) (q - 1) (p - 1)
      (λ same. subst (λ n. is_none (at (slice_set z.producers (p - 1) (Some new)) n) ≡ false) (sym same) (ap is_none (placed_at z.producers (p - 1) (Some new) less)))
      (λ other. ap is_none (placed_beside z.producers (p - 1) (q - 1) (Some new) other) ∙ h);
  posted_on = λ q h. h;
  hosts_on = λ t h. h;
  answered = λ q f. inl refl;
}
  where
    less : p - 1 < length z.producers
    less = inside z.producers (p - 1) k t.found

-- what is left is lower by d at e, and nowhere higher
pub producer_costs : (b : Base) (z : Alone) (p : ℕ) (k new : Producer) (e : List ℕ) (d : ℕ) → producer_at z.producers p ≡ Some k → IsThere b e → ((f : List ℕ) → left_by f (Some new) ≤ left_by f (Some k)) → left_by e (Some new) + d ≤ left_by e (Some k)
    → load b (with_producer z p new) + 6 * d ≤ load b z
producer_costs b z p k new e d found there less low =
    sums (lefts b z.producers) (lefts b (slice_set z.producers (p - 1) (Some new))) (cells_load z.cells) (kept_load z.kept) (wire_load z.wire) (left_of b.set.names (Some new)) (left_of b.set.names (Some k)) d
    (ap (λ o. lefts b (slice_set z.producers (p - 1) (Some new)) + left_of b.set.names o) (sym found) ∙ sum_by-set (left_of b.set.names) z.producers (p - 1) (Some new) None (inside z.producers (p - 1) k found))
    (sum_lower (λ f. left_by f (Some k)) (λ f. left_by f (Some new)) b.set.names e d less low (place b.set e) there (sym (same_name e _ (passes_at_first (is_name e) b.set.names [] there))))
  where
    sums : (l l' v x w m n d : ℕ) → l' + n ≡ l + m → m + d ≤ n → total l' v x w + 6 * d ≤ total l v x w
    sums l l' v x w m n d e h = omega (arith, e, h)
