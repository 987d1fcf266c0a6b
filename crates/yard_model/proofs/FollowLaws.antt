-- Each item may follow those before it: one item more.
use Rattle.std.proofs.Common.{◌≡◌, ℕ, sym, ap, ◌∙◌, refl}
use Rattle.std.specs.Prelude.{Bool, true, false, ◌&&◌, List, [], ◌∷◌, ◌++◌, fold, if◌then◌else◌}
use Rattle.std.proofs.Math.Bool.{and-true, and_assoc}
use Rattle.std.proofs.lemmas.List.{append-nil, append_assoc}
use Rattle.std.proofs.lemmas.List.Sums.{fold_push}
use Rattle.yard_model.specs.declared.fact.Fact.{Fact}
use Rattle.yard_model.specs.declared.fact.Fact.TheVariants as fact
use Rattle.yard_model.specs.declared.incarnation.Slot.{Slot}
use Rattle.yard_model.specs.declared.incarnation.Slot.TheVariants as slot
use Rattle.yard_model.specs.Script.{Script}
use Rattle.yard_model.specs.Follow.{each_follows}
use Rattle.yard_model.specs.Opening.{begins, Parts, parts_step, parts_of}
use Rattle.yard_model.specs.Lawful.{own, is_leased, is_opening, may_follow}

pub follows_more : {A : Type 0} (may : List A → A → Bool) (before xs : List A) (x : A) →
    each_follows may before (xs ++ x ∷ []) ≡ (each_follows may before xs && may (before ++ xs) x)
follows_more may before [] x = and-true (may before x) ∙ ap (λ b. may b x) (sym (append-nil before))
follows_more may before (y ∷ ys) x =
    ap (λ b. may before y && b) (follows_more may (before ++ y ∷ []) ys x)
    ∙ (ap (λ l. may before y && (each_follows may (before ++ y ∷ []) ys && may l x)) (append_assoc before (y ∷ []) ys)
    ∙ sym (and_assoc (may before y) (each_follows may (before ++ y ∷ []) ys) (may (before ++ y ∷ ys) x)))

-- one entry more
pub parts_more : (list : List Fact) (f : Fact) → parts_of (list ++ f ∷ []) ≡ parts_step (parts_of list) f
parts_more list f = fold_push parts_step (record { opening = []; since = [] }) list f

-- the two parts are the list
pub parts_whole : (list : List Fact) → (parts_of list).opening ++ (parts_of list).since ≡ list
parts_whole list = from [] list (record { opening = []; since = [] }) refl
  where
    step : (old : Parts) (f : Fact) (b : Bool) → let new : Parts = if b then record { opening = (old.opening ++ old.since) ++ f ∷ []; since = [] } else record { opening = old.opening; since = old.since ++ f ∷ [] } in
        new.opening ++ new.since ≡ (old.opening ++ old.since) ++ f ∷ []
    step old f true = append-nil ((old.opening ++ old.since) ++ f ∷ [])
    step old f false = sym (append_assoc old.opening old.since (f ∷ []))

    from : (done rest : List Fact) (old : Parts) → old.opening ++ old.since ≡ done → let new : Parts = fold parts_step old rest in new.opening ++ new.since ≡ done ++ rest
    from done [] old e = e ∙ sym (append-nil done)
    from done (f ∷ rest) old e = from (done ++ f ∷ []) rest (parts_step old f) (step old f (begins f) ∙ ap (λ l. l ++ f ∷ []) e) ∙ append_assoc done (f ∷ []) rest

-- what may follow under a lease doesn't begin a list anew
pub follows_within : (c : Script) (s : Slot) (list : List Fact) (f : Fact) → may_follow c s list f ≡ true → begins f ≡ false
follows_within c s list f m = by f m
  where
    no : (b : Bool) → (b && false) ≡ true → true ≡ false
    no true m = sym m
    no false m = sym m

    of : (s : Slot) (n k : ℕ) → may_follow c s list (fact.Reshard n k) ≡ true → true ≡ false
    of (slot.Shard t) n k m = no (is_leased list (fact.Reshard n k)) m
    of slot.Coordinator n k m = no (is_leased list (fact.Reshard n k)) m
    of (slot.Queue p) n k m = no (is_leased list (fact.Reshard n k)) m

    of_shard : (s : Slot) (t n k : ℕ) → may_follow c s list (fact.Resharded t n k) ≡ true → true ≡ false
    of_shard (slot.Shard r) t n k m = no (is_leased list (fact.Resharded t n k)) m
    of_shard slot.Coordinator t n k m = no (is_leased list (fact.Resharded t n k)) m
    of_shard (slot.Queue p) t n k m = no (is_leased list (fact.Resharded t n k)) m

    by : (f : Fact) → may_follow c s list f ≡ true → begins f ≡ false
    by (fact.Reshard n k) m = of s n k m
    by (fact.Resharded t n k) m = of_shard s t n k m
    by f m = refl

abbrev own_parts : Script → Slot → Parts → Bool
own_parts c s p = is_opening c s p.opening && each_follows (may_follow c s) p.opening p.since

-- a list with an entry more is lawful exactly where it was, and the entry may follow
pub own_grows : (c : Script) (s : Slot) (list : List Fact) (f : Fact) → begins f ≡ false → own c s (list ++ f ∷ []) ≡ (own c s list && may_follow c s list f)
own_grows c s list f within =
    let p : Parts = parts_of list in
    let next : parts_of (list ++ f ∷ []) ≡ record { opening = p.opening; since = p.since ++ f ∷ [] } =
    parts_more list f ∙ ap (λ b. if b then record { opening = (p.opening ++ p.since) ++ f ∷ []; since = [] } else record { opening = p.opening; since = p.since ++ f ∷ [] }) within in
    ap (own_parts c s) next
    ∙ (ap (λ b. is_opening c s p.opening && b) (follows_more (may_follow c s) p.opening p.since f ∙ ap (λ l. each_follows (may_follow c s) p.opening p.since && may_follow c s l f) (parts_whole list))
    ∙ sym (and_assoc (is_opening c s p.opening) (each_follows (may_follow c s) p.opening p.since) (may_follow c s list f)))

-- a lawful list, and an entry that may follow it
pub own_more : (c : Script) (s : Slot) (list : List Fact) (f : Fact) → own c s list ≡ true → may_follow c s list f ≡ true → own c s (list ++ f ∷ []) ≡ true
own_more c s list f e m = own_grows c s list f (follows_within c s list f m) ∙ (ap (λ b. b && may_follow c s list f) e ∙ m)
