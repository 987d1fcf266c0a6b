-- Entities at their places: a new one, and one that is changed.
use Rattle.std.proofs.Common.{◌≡◌, ◌≢◌, ◌<◌, ℕ, ◌+◌, sym, ap, ◌∙◌, refl, subst, arith, length-append}
use Rattle.std.specs.Prelude.{Bool, true, false, cond, List, [], ◌∷◌, ◌++◌, length, slice_index_or, slice_set, Option, Some, None}
use Rattle.std.specs.Ordering.{nat_cmp}
use Rattle.std.specs.Cmp.Lexicographic.{slice_cmp, texts_ties}
use Rattle.std.specs.BTreeMap.{get, Updates}
use Rattle.std.specs.Vec.{with_item}
use Rattle.std.proofs.lemmas.Bool.Decides.{Decides-eqb}
use Rattle.std.proofs.lemmas.Slice.Eq.{slice_eq-Decides}
use Rattle.std.proofs.lemmas.List.{get_or-set_same, get_or-set_other, length-set, get_or_append_left, get_or_at, get_or_default}
use Rattle.yard_model.specs.declared.event.Kind.{Kind}
use Rattle.yard_model.specs.Script.{is_name}
use Rattle.solo_run.specs.declared.entities.Entities.{Entities}
use Rattle.solo_run.specs.Knowledge.{AreKept, AreChanged, known_at, known_in}
use Rattle.solo_run.specs.Known.{Known, unknown}
use Rattle.solo_run.proofs.KnownLaws.{same_name, true_is_not_false}

itself : (a b : List ℕ) → a ≡ b → is_name a b ≡ true
itself a b e = (slice_eq-Decides Decides-eqb a b (is_name a b) refl).1 e

-- what is known of the entity that stands at a name's place
pub known_here : (kind : Kind) (es : Entities) (e : List ℕ) (i : ℕ) (x : Known) → AreKept es → get (slice_cmp nat_cmp) es.places e ≡ Some i → x ≡ slice_index_or es.kept.items i x → x ≡ known_at kind es e
known_here kind es e i x k found is =
    is ∙ (get_or_default es.kept.items i x (unknown kind) (k.within e i found) ∙ ap (known_in kind es.kept.items) (sym found))

-- the entity at a place is this now
abbrev pub put_at : Entities → ℕ → Known → Entities
put_at es i now = record { places = es.places; kept = with_item es.kept i now; last = es.last }

-- the entity at a name's place is changed
pub changed : (kind : Kind) (old es : Entities) (e : List ℕ) (i : ℕ) (now : Known) → ((q : List ℕ) → known_at kind es q ≡ known_at kind old q) → AreKept es → get (slice_cmp nat_cmp) es.places e ≡ Some i
    → AreChanged kind old (put_at es i now) e now
changed kind old es e i now same k found = record {
  each = λ q. step q (get (slice_cmp nat_cmp) es.places q) refl (is_name e q) refl ∙ ap (cond (is_name e q) now) (same q);
  kept = record {
    within = λ f j h. subst (λ n. j < n) (sym (length-set es.kept.items i now)) (k.within f j h);
    apart = k.apart;
    last = k.last;
  };
}
  where
    step : (q : List ℕ) (o : Option ℕ) → get (slice_cmp nat_cmp) es.places q ≡ o → (b : Bool) → is_name e q ≡ b → known_in kind (slice_set es.kept.items i now) o ≡ cond b now (known_in kind es.kept.items o)
    step q None h true t =
        let there : Some i ≡ None = sym found ∙ (ap (get (slice_cmp nat_cmp) es.places) (same_name e q t) ∙ h) in
        cc
    step q None h false t = refl
    step q (Some j) h true t =
        let there : Some i ≡ Some j = sym found ∙ (ap (get (slice_cmp nat_cmp) es.places) (same_name e q t) ∙ h) in
        let here : i ≡ j = cc in
        ap (λ n. slice_index_or (slice_set es.kept.items i now) n (unknown kind)) (sym here) ∙ get_or-set_same es.kept.items i now (unknown kind) (k.within e i found)
    step q (Some j) h false t =
        let far : j ≢ i = λ here. true_is_not_false (sym (itself e q (k.apart e q i found (h ∙ ap Some here))) ∙ t) in
        get_or-set_other es.kept.items i j now (unknown kind) far

-- a name that has no place gets the next one
pub begun : (kind : Kind) (old new : Entities) (e : List ℕ) → AreKept old → get (slice_cmp nat_cmp) old.places e ≡ None → Updates (slice_cmp nat_cmp) old.places new.places e (Some (length old.kept.items))
    → new.kept.items ≡ old.kept.items ++ unknown kind ∷ [] → new.last ≡ old.last → ((q : List ℕ) → known_at kind new q ≡ known_at kind old q) × AreKept new
begun kind old new e k absent put items last = (each, record { within = within; apart = apart; last = at_last })
  where
    is : (q : List ℕ) (b : Bool) → is_name e q ≡ b → get (slice_cmp nat_cmp) new.places q ≡ cond b (Some (length old.kept.items)) (get (slice_cmp nat_cmp) old.places q)
    is q b t = put.0 q ∙ ap (λ x. cond x (Some (length old.kept.items)) (get (slice_cmp nat_cmp) old.places q)) (sym (texts_ties e q) ∙ t)

    longer : length new.kept.items ≡ length old.kept.items + 1
    longer = ap length items ∙ length-append old.kept.items (unknown kind ∷ [])

    here : (l : List Known) (x : Known) → slice_index_or (l ++ x ∷ []) (length l) x ≡ x
    here l x = get_or_at l x [] x (length l) refl

    at_old : (o : Option ℕ) → ((i : ℕ) → o ≡ Some i → i < length old.kept.items) → known_in kind (old.kept.items ++ unknown kind ∷ []) o ≡ known_in kind old.kept.items o
    at_old None h = refl
    at_old (Some i) h = get_or_append_left old.kept.items (unknown kind ∷ []) (unknown kind) i (h i refl)

    each_at : (q : List ℕ) (b : Bool) → is_name e q ≡ b → known_in kind (old.kept.items ++ unknown kind ∷ []) (cond b (Some (length old.kept.items)) (get (slice_cmp nat_cmp) old.places q)) ≡ known_at kind old q
    each_at q true t =
        let gone : get (slice_cmp nat_cmp) old.places q ≡ None = ap (get (slice_cmp nat_cmp) old.places) (sym (same_name e q t)) ∙ absent in
        here old.kept.items (unknown kind) ∙ ap (known_in kind old.kept.items) (sym gone)
    each_at q false t = at_old (get (slice_cmp nat_cmp) old.places q) (k.within q)

    each : (q : List ℕ) → known_at kind new q ≡ known_at kind old q
    each q = ap (λ l. known_in kind l (get (slice_cmp nat_cmp) new.places q)) items
        ∙ (ap (known_in kind (old.kept.items ++ unknown kind ∷ [])) (is q (is_name e q) refl) ∙ each_at q (is_name e q) refl)

    within_at : (q : List ℕ) (i : ℕ) (b : Bool) → is_name e q ≡ b → cond b (Some (length old.kept.items)) (get (slice_cmp nat_cmp) old.places q) ≡ Some i → i < length old.kept.items + 1
    within_at q i true t h = let same : length old.kept.items ≡ i = cc in omega arith
    within_at q i false t h = let less : i < length old.kept.items = k.within q i h in omega arith

    within : (q : List ℕ) (i : ℕ) → get (slice_cmp nat_cmp) new.places q ≡ Some i → i < length new.kept.items
    within q i h = subst (λ m. i < m) (sym longer) (within_at q i (is_name e q) refl (sym (is q (is_name e q) refl) ∙ h))

    apart_at : (q r : List ℕ) (i : ℕ) (b : Bool) → is_name e q ≡ b → (d : Bool) → is_name e r ≡ d → cond b (Some (length old.kept.items)) (get (slice_cmp nat_cmp) old.places q) ≡ Some i
        → cond d (Some (length old.kept.items)) (get (slice_cmp nat_cmp) old.places r) ≡ Some i → q ≡ r
    apart_at q r i true t true u h l = sym (same_name e q t) ∙ same_name e r u
    apart_at q r i true t false u h l = let same : length old.kept.items ≡ i = cc in let less : i < length old.kept.items = k.within r i l in absurd (omega arith)
    apart_at q r i false t true u h l = let same : length old.kept.items ≡ i = cc in let less : i < length old.kept.items = k.within q i h in absurd (omega arith)
    apart_at q r i false t false u h l = k.apart q r i h l

    apart : (q r : List ℕ) (i : ℕ) → get (slice_cmp nat_cmp) new.places q ≡ Some i → get (slice_cmp nat_cmp) new.places r ≡ Some i → q ≡ r
    apart q r i h l = apart_at q r i (is_name e q) refl (is_name e r) refl (sym (is q (is_name e q) refl) ∙ h) (sym (is r (is_name e r) refl) ∙ l)

    last_at : (q : List ℕ) (i : ℕ) (b : Bool) → is_name e q ≡ b → get (slice_cmp nat_cmp) old.places q ≡ Some i → cond b (Some (length old.kept.items)) (get (slice_cmp nat_cmp) old.places q) ≡ Some i
    last_at q i true t h =
        let gone : None ≡ Some i = sym absent ∙ (ap (get (slice_cmp nat_cmp) old.places) (same_name e q t) ∙ h) in
        cc
    last_at q i false t h = h

    at_last : (q : List ℕ) (i : ℕ) → new.last ≡ Some (q, i) → get (slice_cmp nat_cmp) new.places q ≡ Some i
    at_last q i h = is q (is_name e q) refl ∙ last_at q i (is_name e q) refl (k.last q i (sym last ∙ h))
