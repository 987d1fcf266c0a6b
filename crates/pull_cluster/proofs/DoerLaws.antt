-- Who has done each job.
use Rattle.std.proofs.Common.{◌≡◌, ℕ, suc, ◌+◌, ◌<◌, sym, ap, ◌∙◌, refl, subst, arith, length, get_or, set}
use Rattle.std.specs.Prelude.{Bool, true, false, ◌&&◌, ◌||◌, List, [], ◌∷◌, ◌++◌, map, if◌then◌else◌}
use Rattle.std.proofs.lemmas.Grind.{flat_map-append}
use Rattle.std.proofs.lemmas.List.{append-nil, get_or-map, length-map}
use Rattle.std.proofs.lemmas.List.Sums.{sum_by-cons}
use Rattle.yard_model.specs.declared.fact.Fact.{Fact}
use Rattle.yard_model.specs.declared.fact.Fact.TheVariants as fact
use Rattle.yard_model.specs.declared.incarnation.Incarnation.{Incarnation}
use Rattle.yard_model.specs.Script.{Script, is_name, sends}
use Rattle.yard_model.specs.Words.{is_same, is_among}
use Rattle.plain_laws.proofs.Members.{same_is, itself_is, turned}
use Rattle.plain_laws.proofs.Names.{name_itself}
use Rattle.pull_laws.specs.Pulled.{has_done, is_did_of}
use Rattle.pull_laws.specs.PullSafe.{IsPulled}
use Rattle.pull_laws.specs.PullText.{dids}
use Rattle.pull_cluster.specs.Cluster.{names_of, name_at}
use Rattle.pull_cluster.specs.Kept.{doer_of, doers_of}
use Rattle.pull_cluster.proofs.NameLaws.{names_long, names_differ}
use Rattle.pull_cluster.proofs.StateLaws.{map_same, map_set}

doers_more : (e : List ℕ) (t : List Fact) (f : Fact) → doers_of (t ++ f ∷ []) e ≡ doers_of t e ++ doer_of e f
doers_more e t f = flat_map-append (doer_of e) t (f ∷ []) ∙ ap (λ l. doers_of t e ++ l) (append-nil (doer_of e f))

pub doers_same : (c : Script) (t : List Fact) (doers : List (List Incarnation)) (f : Fact) → ((e : List ℕ) → doer_of e f ≡ []) → doers ≡ map (doers_of t) (names_of c) → doers ≡ map (doers_of (t ++ f ∷ [])) (names_of c)
doers_same c t doers f none k = k ∙ map_same (doers_of t) (doers_of (t ++ f ∷ [])) (λ e. sym (doers_more e t f ∙ (ap (λ l. doers_of t e ++ l) (none e) ∙ append-nil (doers_of t e)))) (names_of c)

pub doers_at : (c : Script) (t : List Fact) (doers : List (List Incarnation)) (n : ℕ) → n < length (sends c 1) → doers ≡ map (doers_of t) (names_of c) → get_or doers n [] ≡ doers_of t (name_at c n)
doers_at c t doers n lt k = ap (λ l. get_or l n []) k ∙ get_or-map (doers_of t) (names_of c) n [] [] (subst (λ m. n < m) (sym (names_long c)) lt)

pub doers_long : (c : Script) (t : List Fact) (doers : List (List Incarnation)) → doers ≡ map (doers_of t) (names_of c) → length doers ≡ length (sends c 1)
doers_long c t doers k = ap length k ∙ (length-map (names_of c) (doers_of t) ∙ names_long c)

pub doers_did : (c : Script) (t : List Fact) (doers : List (List Incarnation)) (n : ℕ) (x : Incarnation) → IsPulled c → n < length (sends c 1) → doers ≡ map (doers_of t) (names_of c)
    → set doers n (get_or doers n [] ++ x ∷ []) ≡ map (doers_of (t ++ fact.Did x (name_at c n) ∷ [])) (names_of c)
doers_did c t doers n x is lt k =
    ap (λ l. set l n (get_or doers n [] ++ x ∷ [])) k
    ∙ map_set (doers_of t) (doers_of (t ++ f ∷ [])) (names_of c) n (get_or doers n [] ++ x ∷ []) (subst (λ m. n < m) (sym (names_long c)) lt)
    (doers_more y t f ∙ (ap (λ b. doers_of t y ++ (if b then x ∷ [] else [])) (name_itself y) ∙ ap (λ l. l ++ x ∷ []) (sym (doers_at c t doers n lt k))))
    (λ i l far. let e : List ℕ = get_or (names_of c) i [] in
    doers_more e t f ∙ (ap (λ b. doers_of t e ++ (if b then x ∷ [] else [])) (names_differ c is n i lt (subst (λ m. i < m) (names_long c) l) (λ same. far (sym same))) ∙ append-nil (doers_of t e)))
  where
    y : List ℕ
    y = name_at c n

    f : Fact
    f = fact.Did x y

same_turned : (x y : Incarnation) → is_same x y ≡ is_same y x
same_turned x y = by (is_same x y) refl
  where
    by : (b : Bool) → is_same x y ≡ b → b ≡ is_same y x
    by true e = sym (itself_is y x (sym (same_is x y e)))
    by false e = sym (turned x y e)

pub has_is : (x : Incarnation) (e : List ℕ) (t : List Fact) → has_done x e t ≡ is_among x (doers_of t e)
has_is x e [] = refl
has_is x e (fact.Did z y ∷ t) = by (is_name y e) (has_is x e t)
  where
    turned_first : (a b c : Bool) → a ≡ b → ((a && true) || c) ≡ (b || c)
    turned_first true b c e = ap (λ d. d || c) e
    turned_first false b c e = ap (λ d. d || c) e

    no : (a c : Bool) → ((a && false) || c) ≡ c
    no true c = refl
    no false c = refl

    by : (b : Bool) → has_done x e t ≡ is_among x (doers_of t e) → ((is_same z x && b) || has_done x e t) ≡ is_among x ((if b then z ∷ [] else []) ++ doers_of t e)
    by true h = turned_first (is_same z x) (is_same x z) (has_done x e t) (same_turned z x) ∙ ap (λ c. is_same x z || c) h
    by false h = no (is_same z x) (has_done x e t) ∙ h
has_is x e (f ∷ t) = has_is x e t

pub dids_is : (e : List ℕ) (t : List Fact) → dids e t ≡ length (doers_of t e)
dids_is e [] = refl
dids_is e (fact.Did z y ∷ t) = sum_by-cons (λ f. if is_did_of e f then 1 else 0) (fact.Did z y) t ∙ by (is_name y e) (dids_is e t)
  where
    one_more : (n m : ℕ) → n ≡ m → 1 + n ≡ suc m
    one_more n m h = omega (arith, h)

    none_more : (n m : ℕ) → n ≡ m → 0 + n ≡ m
    none_more n m h = omega (arith, h)

    by : (b : Bool) → dids e t ≡ length (doers_of t e) → (if b then 1 else 0) + dids e t ≡ length ((if b then z ∷ [] else []) ++ doers_of t e)
    by true h = one_more (dids e t) (length (doers_of t e)) h
    by false h = none_more (dids e t) (length (doers_of t e)) h
dids_is e (f ∷ t) = sum_by-cons (λ g. if is_did_of e g then 1 else 0) f t ∙ none_more (dids e t) (length (doers_of t e)) (dids_is e t)
  where
    none_more : (n m : ℕ) → n ≡ m → 0 + n ≡ m
    none_more n m h = omega (arith, h)
