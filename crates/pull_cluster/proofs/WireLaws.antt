-- The packets.
use Rattle.std.proofs.Common.{◌≡◌, ℕ, zero, suc, ◌+◌, ◌-◌, ◌<◌, ◌≤◌, sym, ap, ◌∙◌, refl, subst, arith, length}
use Rattle.std.specs.Prelude.{Bool, true, false, ◌==◌, nat_lt, not, List, [], ◌∷◌, ◌++◌, filter, Option, Some, None, IfSome, if◌then◌else◌}
use Rattle.std.specs.List.{list_all, slice_get}
use Rattle.std.specs.Option.{option_map}
use Rattle.std.proofs.lemmas.List.{append-nil}
use Rattle.std.proofs.lemmas.List.Sums.{fold_push}
use Rattle.yard_model.specs.declared.fact.Fact.{Fact}
use Rattle.yard_model.specs.declared.fact.Fact.TheVariants as fact
use Rattle.yard_model.specs.declared.incarnation.Incarnation.{Incarnation}
use Rattle.yard_model.specs.Script.{Script}
use Rattle.plain_laws.proofs.Booleans.{all_filter, is_below, below, and_both}
use Rattle.plain_laws.proofs.Lists.{none_is_not_some, some_is}
use Rattle.pull_laws.specs.Pulled.{last_number, number_step, wire, is_sent, packet, packet_in, fresh, fresh_step, jobs, jobs_step}
use Rattle.pull_laws.proofs.Small.{all_more}
use Rattle.pull_laws.proofs.Sound.{jobs_more}
use Rattle.job_board.specs.Parcels.{Parcels, lowest}
use Rattle.job_board.specs.declared.parcel.Parcel.{Parcel}
use Rattle.job_board.specs.declared.parcel.Parcel.TheVariants as parcel
use Rattle.pull_cluster.specs.Cluster.{IsOfJobs, parcel_fact}
use Rattle.pull_cluster.specs.Kept.{ArePosted, IsKnown, HasCome, facts_from}
use Rattle.pull_cluster.proofs.NameLaws.{got_below, got_more}
use Rattle.pull_cluster.proofs.SeatLaws.{last_more}

-- Facts and parcels.

facts_long : (c : Script) (k : ℕ) (ps : List Parcel) → length (facts_from c k ps) ≡ length ps
facts_long c k [] = refl
facts_long c k (p ∷ ps) = ap suc (facts_long c (k + 1) ps)

facts_push : (c : Script) (k : ℕ) (ps : List Parcel) (p : Parcel) → facts_from c k (ps ++ p ∷ []) ≡ facts_from c k ps ++ parcel_fact c (k + length ps) p ∷ []
facts_push c k [] p = ap (λ n. parcel_fact c n p ∷ []) (omega arith)
facts_push c k (q ∷ ps) p = ap (λ l. parcel_fact c k q ∷ l) (facts_push c (k + 1) ps p ∙ ap (λ n. facts_from c (k + 1) ps ++ parcel_fact c n p ∷ []) (omega arith))

facts_got : (c : Script) (k : ℕ) (ps : List Parcel) (i : ℕ) → slice_get (facts_from c k ps) i ≡ option_map (parcel_fact c (k + i)) (slice_get ps i)
facts_got c k [] i = refl
facts_got c k (p ∷ ps) zero = ap (λ n. Some (parcel_fact c n p)) (omega arith)
facts_got c k (p ∷ ps) (suc i) = facts_got c (k + 1) ps i ∙ ap (λ n. option_map (parcel_fact c n) (slice_get ps i)) (omega arith)

-- packet k
packet_got : (c : Script) (t : List Fact) (p : Parcels) (k : ℕ) → 0 < k → ArePosted c t p → packet k t ≡ option_map (parcel_fact c k) (slice_get p.posted (k - 1))
packet_got c t p zero above h = absurd (none_below above)
  where
    none_below : 0 < 0 → ⊥
    none_below lt = omega (arith, lt)
packet_got c t p (suc k) above h =
    let back : suc k - 1 ≡ k = omega arith in
    let one : 1 + k ≡ suc k = omega arith in
    ap (λ w. packet_in w (suc k)) h.wire_is ∙ (facts_got c 1 p.posted k ∙ (ap (λ n. option_map (parcel_fact c n) (slice_get p.posted k)) one ∙ ap (λ n. option_map (parcel_fact c (suc k)) (slice_get p.posted n)) (sym back)))

pub packet_is : (c : Script) (t : List Fact) (p : Parcels) (k : ℕ) (r : Option Parcel) → 0 < k → r ≡ slice_get p.posted (k - 1) → ArePosted c t p → packet k t ≡ option_map (parcel_fact c k) r
packet_is c t p k r above e h = packet_got c t p k above h ∙ ap (option_map (parcel_fact c k)) (sym e)

of_known : (t : List Fact) (q : Parcel) → IsKnown t q → IsOfJobs t q
of_known t (parcel.Ask x) h = tt
of_known t (parcel.Job x i) h = h
of_known t (parcel.Done x i) h = h

pub packet_of_jobs : (c : Script) (t : List Fact) (p : Parcels) (k : ℕ) (r : Option Parcel) → r ≡ slice_get p.posted (k - 1) → ArePosted c t p → IfSome r (IsOfJobs t)
packet_of_jobs c t p k None e h = tt
packet_of_jobs c t p k (Some q) e h = of_known t q (h.known (k - 1) q (sym e))

-- of a packet that is there
pub posted_there : (c : Script) (t : List Fact) (p : Parcels) (k : ℕ) (f : Fact) → 0 < k → packet k t ≡ Some f → ArePosted c t p → k ≤ length p.posted
posted_there c t p k f above e h = by (slice_get p.posted (k - 1)) refl
  where
    up_to : (k n : ℕ) → 0 < k → k - 1 < n → k ≤ n
    up_to k n a b = omega (arith, a, b)

    by : (o : Option Parcel) → slice_get p.posted (k - 1) ≡ o → k ≤ length p.posted
    by None g = absurd (none_is_not_some f (sym (ap (option_map (parcel_fact c k)) g) ∙ (sym (packet_got c t p k above h) ∙ e)))
    by (Some q) g = up_to k (length p.posted) above (got_below p.posted (k - 1) q g)

abbrev asker_of : Fact → Option Incarnation
asker_of (fact.SentAsk k x) = Some x
asker_of f = None

-- what the packet is known of
pub known_there : (c : Script) (t : List Fact) (p : Parcels) (k : ℕ) (q : Parcel) → 0 < k → packet k t ≡ Some (parcel_fact c k q) → ArePosted c t p → (x : Incarnation) → q ≡ parcel.Ask x → HasCome t x
known_there c t p k q above e h x is = by (slice_get p.posted (k - 1)) refl
  where
    same : (r : Parcel) → slice_get p.posted (k - 1) ≡ Some r → parcel_fact c k r ≡ fact.SentAsk k x
    same r g = some_is (parcel_fact c k r) (fact.SentAsk k x) (sym (ap (option_map (parcel_fact c k)) g) ∙ (sym (packet_got c t p k above h) ∙ (e ∙ ap (λ s. Some (parcel_fact c k s)) is)))

    asks : (r : Parcel) → IsKnown t r → asker_of (parcel_fact c k r) ≡ Some x → HasCome t x
    asks (parcel.Ask y) known f = subst (HasCome t) (some_is y x f) known
    asks (parcel.Job y i) known f = absurd (none_is_not_some x f)
    asks (parcel.Done y i) known f = absurd (none_is_not_some x f)

    by : (o : Option Parcel) → slice_get p.posted (k - 1) ≡ o → HasCome t x
    by None g = absurd (none_is_not_some (parcel_fact c k q) (sym (ap (option_map (parcel_fact c k)) g) ∙ (sym (packet_got c t p k above h) ∙ e)))
    by (Some r) g = asks r (h.known (k - 1) r g) (ap asker_of (same r g))

-- One fact more.

wire_join : (t : List Fact) (f : Fact) → wire (t ++ f ∷ []) ≡ wire t ++ (if is_sent f then f ∷ [] else [])
wire_join [] f = refl
wire_join (g ∷ t) f = by (is_sent g) (wire_join t f)
  where
    last : List Fact
    last = if is_sent f then f ∷ [] else []

    by : (b : Bool) → wire (t ++ f ∷ []) ≡ wire t ++ last → (if b then g ∷ wire (t ++ f ∷ []) else wire (t ++ f ∷ [])) ≡ (if b then g ∷ wire t else wire t) ++ last
    by true h = ap (λ l. g ∷ l) h
    by false h = h

fresh_more : (t : List Fact) (f : Fact) → fresh (t ++ f ∷ []) ≡ fresh_step (fresh t) f
fresh_more t f = fold_push fresh_step [] t f

-- what is known stays known
pub known_more : (t new : List Fact) (q : Parcel) → ((n : ℕ) → last_number n t ≤ last_number n new) → length (jobs t) ≤ length (jobs new) → IsKnown t q → IsKnown new q
known_more t new (parcel.Ask x) ns js h = on x.number (last_number x.node t) (last_number x.node new) h (ns x.node)
  where
    on : (a b c : ℕ) → a ≤ b → b ≤ c → a ≤ c
    on a b c f g = omega (arith, f, g)
known_more t new (parcel.Job x i) ns js h = on i (length (jobs t)) (length (jobs new)) h js
  where
    on : (a b c : ℕ) → a < b → b ≤ c → a < c
    on a b c f g = omega (arith, f, g)
known_more t new (parcel.Done x i) ns js h = on i (length (jobs t)) (length (jobs new)) h js
  where
    on : (a b c : ℕ) → a < b → b ≤ c → a < c
    on a b c f g = omega (arith, f, g)

known_step : (t : List Fact) (f : Fact) (q : Parcel) → ((n : ℕ) → last_number n t ≤ number_step n (last_number n t) f) → length (jobs t) ≤ length (jobs_step (jobs t) f) → IsKnown t q → IsKnown (t ++ f ∷ []) q
known_step t f q ns js h = known_more t (t ++ f ∷ []) q (λ n. subst (λ m. last_number n t ≤ m) (sym (last_more n t f)) (ns n)) (subst (λ l. length (jobs t) ≤ length l) (sym (jobs_more t f)) js) h

pub itself : (n : ℕ) → n ≤ n
itself n = omega arith

pub pushed : {A : Type 0} (xs : List A) (x : A) → length xs ≤ length (xs ++ x ∷ [])
pushed [] x = omega arith
pushed (y ∷ ys) x = more (length ys) (length (ys ++ x ∷ [])) (pushed ys x)
  where
    more : (n m : ℕ) → n ≤ m → suc n ≤ suc m
    more n m h = omega (arith, h)

-- a fact that no packet is about
pub posted_same : (c : Script) (t : List Fact) (p : Parcels) (f : Fact) → is_sent f ≡ false → fresh_step (fresh t) f ≡ fresh t → ((n : ℕ) → last_number n t ≤ number_step n (last_number n t) f) → length (jobs t) ≤ length (jobs_step (jobs t) f) → ArePosted c t p → ArePosted c (t ++ f ∷ []) p
posted_same c t p f lacks fe ns js k = record {
  wire_is = wire_join t f ∙ (ap (λ b. wire t ++ (if b then f ∷ [] else [])) lacks ∙ (append-nil (wire t) ∙ k.wire_is));
  fresh_is = fresh_more t f ∙ (fe ∙ k.fresh_is);
  above = k.above;
  known = λ i q g. known_step t f q ns js (k.known i q g);
}

-- a packet is delivered
pub posted_got : (c : Script) (t : List Fact) (p new : Parcels) (n : ℕ) → new.posted ≡ p.posted → new.fresh ≡ filter (λ j. not (j == n)) p.fresh → ArePosted c t p → ArePosted c (t ++ fact.Got n ∷ []) new
posted_got c t p new n pe fe k = record {
  wire_is = wire_join t (fact.Got n) ∙ (append-nil (wire t) ∙ (k.wire_is ∙ ap (facts_from c 1) (sym pe)));
  fresh_is = fresh_more t (fact.Got n) ∙ (ap (filter (λ j. not (j == n))) k.fresh_is ∙ sym fe);
  above = ap (list_all (nat_lt 0)) fe ∙ all_filter (nat_lt 0) (λ j. not (j == n)) p.fresh k.above;
  known = λ i q g. known_step t (fact.Got n) q (λ m. itself (last_number m t)) (itself (length (jobs t))) (k.known i q (sym (ap (λ l. slice_get l i) pe) ∙ g));
}

wire_long : (c : Script) (t : List Fact) (p : Parcels) → ArePosted c t p → length (wire t) ≡ length p.posted
wire_long c t p k = ap length k.wire_is ∙ facts_long c 1 p.posted

-- a packet is posted
pub posted_more : (c : Script) (t : List Fact) (p new : Parcels) (q : Parcel) → new.posted ≡ p.posted ++ q ∷ [] → new.fresh ≡ p.fresh ++ (length p.posted + 1) ∷ [] → IsKnown t q → ArePosted c t p → ArePosted c (t ++ parcel_fact c (length p.posted + 1) q ∷ []) new
posted_more c t p new q pe fe known k = by q refl
  where
    n : ℕ
    n = length p.posted + 1

    positive_next : (m : ℕ) → nat_lt 0 (m + 1) ≡ true
    positive_next m = is_below 0 (m + 1) (omega arith)

    last_is : 1 + length p.posted ≡ length p.posted + 1
    last_is = omega arith

    all_known : (f : Fact) → ((m : ℕ) → number_step m (last_number m t) f ≡ last_number m t) → jobs_step (jobs t) f ≡ jobs t → (i : ℕ) (r : Parcel) → slice_get new.posted i ≡ Some r → IsKnown (t ++ f ∷ []) r
    all_known f ne je i r g =
        let stays : (s : Parcel) → IsKnown t s → IsKnown (t ++ f ∷ []) s = λ s h. known_step t f s (λ m. subst (λ a. last_number m t ≤ a) (sym (ne m)) (itself (last_number m t))) (subst (λ l. length (jobs t) ≤ length l) (sym je) (itself (length (jobs t)))) h in
        got_more (IsKnown (t ++ f ∷ []) r) p.posted q i r (sym (ap (λ l. slice_get l i) pe) ∙ g) (λ old. stays r (k.known i r old)) (λ at is. stays r (subst (IsKnown t) is known))

    whole : (f : Fact) → is_sent f ≡ true → fresh_step (fresh t) f ≡ fresh t ++ n ∷ [] → parcel_fact c (length p.posted + 1) q ≡ f → ((m : ℕ) → number_step m (last_number m t) f ≡ last_number m t) → jobs_step (jobs t) f ≡ jobs t → ArePosted c (t ++ f ∷ []) new
    whole f holds fresh_same fact_same ne je = record {
      wire_is = wire_join t f ∙ (ap (λ b. wire t ++ (if b then f ∷ [] else [])) holds ∙ (ap (λ l. l ++ f ∷ []) k.wire_is ∙ (ap (λ g. facts_from c 1 p.posted ++ g ∷ []) (sym fact_same ∙ ap (λ m. parcel_fact c m q) (sym last_is)) ∙ (sym (facts_push c 1 p.posted q) ∙ ap (facts_from c 1) (sym pe)))));
      fresh_is = fresh_more t f ∙ (fresh_same ∙ (ap (λ l. l ++ n ∷ []) k.fresh_is ∙ sym fe));
      above = ap (list_all (nat_lt 0)) fe ∙ all_more (nat_lt 0) p.fresh n k.above (positive_next (length p.posted));
      known = all_known f ne je;
    }

    by : (r : Parcel) → q ≡ r → ArePosted c (t ++ parcel_fact c (length p.posted + 1) q ∷ []) new
    by (parcel.Ask x) e = let P : Fact → Type 0 = λ f. ArePosted c (t ++ f ∷ []) new in let is : parcel_fact c n q ≡ fact.SentAsk n x = ap (parcel_fact c n) e in subst P (sym is) (whole (fact.SentAsk n x) refl refl is (λ m. refl) refl)
    by (parcel.Job x i) e = let P : Fact → Type 0 = λ f. ArePosted c (t ++ f ∷ []) new in let is : parcel_fact c n q ≡ parcel_fact c n (parcel.Job x i) = ap (parcel_fact c n) e in subst P (sym is) (whole (parcel_fact c n (parcel.Job x i)) refl refl is (λ m. refl) refl)
    by (parcel.Done x i) e = let P : Fact → Type 0 = λ f. ArePosted c (t ++ f ∷ []) new in let is : parcel_fact c n q ≡ parcel_fact c n (parcel.Done x i) = ap (parcel_fact c n) e in subst P (sym is) (whole (parcel_fact c n (parcel.Done x i)) refl refl is (λ m. refl) refl)

-- the number of the next packet
pub next_number : (c : Script) (t : List Fact) (p : Parcels) → ArePosted c t p → length (wire t) + 1 ≡ length p.posted + 1
next_number c t p k = ap (λ n. n + 1) (wire_long c t p k)

-- the lowest number is above 0
pub lowest_above : (ks : List ℕ) (r : Option ℕ) → list_all (nat_lt 0) ks ≡ true → r ≡ lowest ks → IfSome r (λ k. 0 < k)
lowest_above ks None all e = tt
lowest_above [] (Some k) all e = absurd (none_is_not_some k (sym e))
lowest_above (j ∷ ks) (Some k) all e = below 0 k (ap (nat_lt 0) (some_is k j e) ∙ (and_both (nat_lt 0 j) (list_all (nat_lt 0) ks) all).0)

-- before the first fact
pub posted_none : (c : Script) (p : Parcels) → p.posted ≡ [] → p.fresh ≡ [] → ArePosted c [] p
posted_none c p pe fe = record { wire_is = ap (facts_from c 1) (sym pe); fresh_is = sym fe; above = ap (list_all (nat_lt 0)) fe; known = λ i q g. absurd (none_is_not_some q (sym (ap (λ l. slice_get l i) pe) ∙ g)) }
