-- What a pass has seen of the slots that it holds, after a claim, a release, a publish and a meet.
use Rattle.std.proofs.Common.{◌≡◌, ◌≢◌, ℕ, ◌<◌, ◌⊎◌, ⊎_elim, List, [], length, refl, sym, ap, ◌∙◌, subst, get_or-set_same, get_or-set_other}
use Rattle.std.proofs.lemmas.List.{length-set}
use Rattle.std.specs.Prelude.{Option, None, Some, slice_set}
use Rattle.plain_laws.proofs.Lists.{none_is_not_some, some_is, inside, placed_at, placed_beside}
use Rattle.yard_model.specs.declared.fact.Fact.{Fact}
use Rattle.yard_model.specs.declared.incarnation.Incarnation.{Incarnation}
use Rattle.yard_model.specs.Words.{at}
use Rattle.shard_lease.specs.declared.leases.Acquire.{Acquire}
use Rattle.shard_lease.specs.declared.leases.Acquire.TheVariants as answer
use Rattle.lease_table.specs.declared.View.{View}
use Rattle.lease_table.specs.Leasing.{Answers, Spans, Met}
use Rattle.lease_table.specs.Lists.{seen_at}
use Rattle.lease_table.specs.Tells.{published, freed, united, longest}
use Rattle.lease_table.proofs.Places.{same_or_not}
use Rattle.lease_table.specs.Whole.{SeesHeld}

-- the slot is held with a list that was seen
put_whole : (held : List (Option (List Fact))) (seen : List (List Fact)) (k : ℕ) (x : List Fact) → length held ≡ length seen → ((j : ℕ) (l : List Fact) → at held j ≡ Some l → seen_at seen j ≡ l)
    → (j : ℕ) (l : List Fact) → at (slice_set held k (Some x)) j ≡ Some l → seen_at (slice_set seen k x) j ≡ l
put_whole held seen k x same whole j l h = ⊎_elim here there (same_or_not j k)
  where
    here : j ≡ k → seen_at (slice_set seen k x) j ≡ l
    here e =
        let h_k : at (slice_set held k (Some x)) k ≡ Some l = ap (λ i. at (slice_set held k (Some x)) i) (sym e) ∙ h in
        let low : k < length held = subst (λ n. k < n) (length-set held k (Some x)) (inside (slice_set held k (Some x)) k l h_k) in
        ap (λ i. seen_at (slice_set seen k x) i) e ∙ get_or-set_same seen k x [] (subst (λ n. k < n) same low) ∙ some_is x l (sym (placed_at held k (Some x) low) ∙ h_k)

    there : j ≢ k → seen_at (slice_set seen k x) j ≡ l
    there ne = get_or-set_other seen k j x [] ne ∙ whole j l (sym (placed_beside held k j (Some x) ne) ∙ h)

pub acquired_whole : (v w : View) (who : Incarnation) (k : ℕ) (r : Acquire) → Spans v → Answers v who k r w → SeesHeld v → SeesHeld w
acquired_whole v w who k (answer.Granted x) wide a whole = subst SeesHeld (sym a.now) (put_whole v.held v.seen k a.hist (wide.helds ∙ sym wide.seens) whole)
acquired_whole v w who k (answer.Held n) wide a whole = subst SeesHeld (sym a.now) whole

pub acquired_same : (v w : View) (who : Incarnation) (k : ℕ) (r : Acquire) → Answers v who k r w → (w.charter ≡ v.charter) × (w.numbers ≡ v.numbers)
acquired_same v w who k (answer.Granted x) a = (ap (λ (u : View). u.charter) a.now, ap (λ (u : View). u.numbers) a.now)
acquired_same v w who k (answer.Held n) a = (ap (λ (u : View). u.charter) a.now, ap (λ (u : View). u.numbers) a.now)

pub published_whole : (v w : View) (k : ℕ) (list : List Fact) → Spans v → w ≡ published v k list → SeesHeld v → SeesHeld w
published_whole v w k list wide now whole = subst SeesHeld (sym now) (put_whole v.held v.seen k list (wide.helds ∙ sym wide.seens) whole)

-- the slot isn't held any more
pub released_whole : (v w : View) (k : ℕ) (list : List Fact) → w ≡ freed (published v k list) k → SeesHeld v → SeesHeld w
released_whole v w k list now whole = subst SeesHeld (sym now) each
  where
    each : (j : ℕ) (l : List Fact) → at (slice_set (slice_set v.held k (Some list)) k None) j ≡ Some l → seen_at (slice_set v.seen k list) j ≡ l
    each j l h = ⊎_elim here there (same_or_not j k)
      where
        here : j ≡ k → seen_at (slice_set v.seen k list) j ≡ l
        here e =
            let xs : List (Option (List Fact)) = slice_set v.held k (Some list) in
            let h_k : at (slice_set xs k None) k ≡ Some l = ap (λ i. at (slice_set xs k None) i) (sym e) ∙ h in
            let low : k < length xs = subst (λ n. k < n) (length-set xs k None) (inside (slice_set xs k None) k l h_k) in
            absurd (none_is_not_some l (sym (placed_at xs k None low) ∙ h_k))

        there : j ≢ k → seen_at (slice_set v.seen k list) j ≡ l
        there ne = get_or-set_other v.seen k j list [] ne ∙ whole j l (sym (placed_beside v.held k j (Some list) ne) ∙ (sym (placed_beside (slice_set v.held k (Some list)) k j None ne) ∙ h))

-- it has met a note at a slot that it doesn't hold
pub met_whole : (v w u : View) (k : ℕ) → Met v w k u → at v.held k ≡ None → SeesHeld v → SeesHeld u
met_whole v w u k m free whole = subst SeesHeld (sym m.now) each
  where
    each : (j : ℕ) (l : List Fact) → at v.held j ≡ Some l → seen_at (slice_set v.seen k (longest (seen_at v.seen k) (seen_at (united v w).olds k))) j ≡ l
    each j l h = ⊎_elim
        (λ (e : j ≡ k). absurd (none_is_not_some l (sym free ∙ ap (λ i. at v.held i) (sym e) ∙ h)))
        (λ (ne : j ≢ k). get_or-set_other v.seen k j (longest (seen_at v.seen k) (seen_at (united v w).olds k)) [] ne ∙ whole j l h)
        (same_or_not j k)
