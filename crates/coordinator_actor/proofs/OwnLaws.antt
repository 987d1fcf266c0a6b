-- What holds of every lawful list: of no entries, and then entry by entry.
use Rattle.std.proofs.Common.{◌≡◌, ◌⊎◌, inl, inr, ℕ, sym, subst, refl}
use Rattle.std.specs.Prelude.{Bool, true, false, List, [], ◌∷◌, ◌++◌, fold, if◌then◌else◌}
use Rattle.std.proofs.lemmas.List.{append-nil, append_assoc}
use Rattle.yard_model.specs.declared.fact.Fact.{Fact}
use Rattle.yard_model.specs.declared.incarnation.Slot.{Slot}
use Rattle.yard_model.specs.Follow.{each_follows}
use Rattle.yard_model.specs.Lawful.{own, is_opening, may_open, may_follow}
use Rattle.yard_model.specs.Opening.{begins, Parts, parts_step, parts_of}
use Rattle.yard_model.specs.Script.{Script}
use Rattle.yard_model.specs.SlotReads.{epoch}
use Rattle.yard_model.proofs.FollowLaws.{follows_more, parts_whole}
use Rattle.coordinator_actor.proofs.Same.{and_both}

pub follows_to : {A : Type 0} (may : List A → A → Bool) (P : List A → Type 0) → ((before : List A) (x : A) → P before → may before x ≡ true → P (before ++ x ∷ []))
    → (before xs : List A) → P before → each_follows may before xs ≡ true → P (before ++ xs)
follows_to may P step before [] p e = subst P (sym (append-nil before)) p
follows_to may P step before (x ∷ xs) p e =
    let m : (may before x ≡ true) × (each_follows may (before ++ x ∷ []) xs ≡ true) = and_both (may before x) (each_follows may (before ++ x ∷ []) xs) e in
    subst P (append_assoc before (x ∷ []) xs) (follows_to may P step (before ++ x ∷ []) xs (step before x p m.0) m.1)

own_parts : (c : Script) (s : Slot) (list : List Fact) → own c s list ≡ true → (is_opening c s (parts_of list).opening ≡ true) × (each_follows (may_follow c s) (parts_of list).opening (parts_of list).since ≡ true)
own_parts c s list o = and_both (is_opening c s (parts_of list).opening) (each_follows (may_follow c s) (parts_of list).opening (parts_of list).since) o

-- what each entry keeps, also of the opening
pub own_steps : (c : Script) (s : Slot) (P : List Fact → Type 0) → P [] → ((k : ℕ) (before : List Fact) (f : Fact) → P before → may_open c s k before f ≡ true → P (before ++ f ∷ []))
    → ((before : List Fact) (f : Fact) → P before → may_follow c s before f ≡ true → P (before ++ f ∷ [])) → (list : List Fact) → own c s list ≡ true → P list
own_steps c s P none opens follows list o =
    let p : Parts = parts_of list in
    let m : (is_opening c s p.opening ≡ true) × (each_follows (may_follow c s) p.opening p.since ≡ true) = own_parts c s list o in
    subst P (parts_whole list) (follows_to (may_follow c s) P follows p.opening p.since (follows_to (may_open c s (epoch p.opening)) P (opens (epoch p.opening)) [] p.opening none m.0) m.1)

-- the last of these begins the list anew
record Ends (list : List Fact) : Type 0 where
  before : List Fact
  last : Fact
  anew : begins last ≡ true
  is : list ≡ before ++ last ∷ []

opening_ends : (list : List Fact) → ((parts_of list).opening ≡ []) ⊎ Ends (parts_of list).opening
opening_ends list = from list (record { opening = []; since = [] }) (inl refl)
  where
    step : (old : Parts) (f : Fact) (b : Bool) → begins f ≡ b → (old.opening ≡ []) ⊎ Ends old.opening
        → let new : Parts = if b then record { opening = (old.opening ++ old.since) ++ f ∷ []; since = [] } else record { opening = old.opening; since = old.since ++ f ∷ [] } in (new.opening ≡ []) ⊎ Ends new.opening
    step old f true e h = inr (record { before = old.opening ++ old.since; last = f; anew = e; is = refl })
    step old f false e h = h

    from : (rest : List Fact) (old : Parts) → (old.opening ≡ []) ⊎ Ends old.opening → let new : Parts = fold parts_step old rest in (new.opening ≡ []) ⊎ Ends new.opening
    from [] old h = h
    from (f ∷ rest) old h = from rest (parts_step old f) (step old f (begins f) refl h)

-- what an entry that begins the list anew brings about, and each later one keeps
pub own_anew : (c : Script) (s : Slot) (P : List Fact → Type 0) → P [] → ((k : ℕ) (before : List Fact) (f : Fact) → begins f ≡ true → may_open c s k before f ≡ true → P (before ++ f ∷ []))
    → ((before : List Fact) (f : Fact) → P before → may_follow c s before f ≡ true → P (before ++ f ∷ [])) → (list : List Fact) → own c s list ≡ true → P list
own_anew c s P none brings follows list o =
    let m : (is_opening c s (parts_of list).opening ≡ true) × (each_follows (may_follow c s) (parts_of list).opening (parts_of list).since ≡ true) = own_parts c s list o in
    subst P (parts_whole list) (follows_to (may_follow c s) P follows (parts_of list).opening (parts_of list).since (opened (opening_ends list) m.0) m.1)
  where
    opened : ((parts_of list).opening ≡ []) ⊎ Ends (parts_of list).opening → is_opening c s (parts_of list).opening ≡ true → P (parts_of list).opening
    opened (inl e) h = subst P (sym e) none
    opened (inr x) h =
        let may : List Fact → Fact → Bool = may_open c s (epoch (parts_of list).opening) in
        let all : each_follows may [] (x.before ++ x.last ∷ []) ≡ true = subst (λ l. each_follows may [] l ≡ true) x.is h in
        subst P (sym x.is) (brings (epoch (parts_of list).opening) x.before x.last x.anew
        (and_both (each_follows may [] x.before) (may x.before x.last) (subst (λ b. b ≡ true) (follows_more may [] x.before x.last) all)).1)
