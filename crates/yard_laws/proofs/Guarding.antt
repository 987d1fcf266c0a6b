-- A guarded trace, one fact more.
use Rattle.yard_model.specs.Setting.{shard_of}
use Rattle.yard_model.specs.SlotReads.{holder}
use Rattle.yard_model.specs.SlotLists.{SlotLists, shard_list}
use Rattle.yard_model.specs.Lawful.{lawful}
use Rattle.yard_model.specs.Trace.{lists_of, lists_step, no_lists}
use Rattle.std.proofs.Common.{◌≡◌, ℕ, sym, ap, ◌∙◌, refl, ap₂}
use Rattle.std.specs.Prelude.{Bool, true, false, ◌&&◌, not, List, [], ◌∷◌, ◌++◌, fold, if◌then◌else◌}
use Rattle.std.specs.List.{list_all}
use Rattle.std.proofs.Math.Bool.{and_assoc}
use Rattle.std.proofs.lemmas.List.{append-nil, append_assoc}
use Rattle.std.proofs.lemmas.List.Sums.{fold-append}
use Rattle.yard_model.specs.declared.fact.Fact.{Fact}
use Rattle.yard_model.specs.declared.fact.Fact.TheVariants as fact
use Rattle.yard_model.specs.Script.{Script, setting}
use Rattle.yard_model.specs.Safe.{is_safe_now, live_at, live_step, one_live, at_most_holder}
use Rattle.yard_model.specs.Guards.{guard, guarded_after, opens, Opened, opened_step, opened, guarded}
use Rattle.yard_model.proofs.FollowLaws.{follows_more}
use Rattle.plain_laws.proofs.Booleans.{true_is_not_false, and_both, both, of_not, all_map}

opened_more : (trace : List Fact) (f : Fact) → opened (trace ++ f ∷ []) ≡ opened_step (opened trace) f
opened_more trace f = fold-append opened_step (record { opening = []; since = [] }) trace (f ∷ [])

pub opened_whole : (trace : List Fact) → (opened trace).opening ++ (opened trace).since ≡ trace
opened_whole trace = from [] trace (record { opening = []; since = [] }) refl
  where
    step : (old : Opened) (f : Fact) (b : Bool) → let new : Opened = if b then record { opening = (old.opening ++ old.since) ++ f ∷ []; since = [] } else record { opening = old.opening; since = old.since ++ f ∷ [] } in
        new.opening ++ new.since ≡ (old.opening ++ old.since) ++ f ∷ []
    step old f true = append-nil ((old.opening ++ old.since) ++ f ∷ [])
    step old f false = sym (append_assoc old.opening old.since (f ∷ []))

    from : (done rest : List Fact) (old : Opened) → old.opening ++ old.since ≡ done → let new : Opened = fold opened_step old rest in new.opening ++ new.since ≡ done ++ rest
    from done [] old e = e ∙ sym (append-nil done)
    from done (f ∷ rest) old e = from (done ++ f ∷ []) rest (opened_step old f) (step old f (opens f) ∙ ap (λ l. l ++ f ∷ []) e) ∙ append_assoc done (f ∷ []) rest

abbrev guarded_parts : Script → Opened → Bool
guarded_parts c o = is_safe_now c o.opening && guarded_after c o.opening o.since

-- it is guarded exactly where it was, and the fact is
pub guarded_more : (c : Script) (trace : List Fact) (f : Fact) → opens f ≡ false → guarded c (trace ++ f ∷ []) ≡ (guarded c trace && guard c trace f)
guarded_more c trace f within =
    let o : Opened = opened trace in
    let next : opened (trace ++ f ∷ []) ≡ record { opening = o.opening; since = o.since ++ f ∷ [] } =
    opened_more trace f ∙ ap (λ b. if b then record { opening = (o.opening ++ o.since) ++ f ∷ []; since = [] } else record { opening = o.opening; since = o.since ++ f ∷ [] }) within in
    ap (guarded_parts c) next
    ∙ (ap (λ b. is_safe_now c o.opening && b) (follows_more (guard c) o.opening o.since f ∙ ap (λ l. guarded_after c o.opening o.since && guard c l f) (opened_whole trace))
    ∙ sym (and_assoc (is_safe_now c o.opening) (guarded_after c o.opening o.since) (guard c trace f)))

-- no guarded fact brings another version
pub guard_opens : (c : Script) (trace : List Fact) (f : Fact) → guard c trace f ≡ true → opens f ≡ false
guard_opens c trace (fact.Upgrade v) g = absurd (true_is_not_false (sym g))
guard_opens c trace f g = refl

-- that a trace is safe now rests on its lists and on who is live
pub safe_same : (c : Script) (t u : List Fact) → lists_of (setting c) u ≡ lists_of (setting c) t → ((e : List ℕ) → live_at e u ≡ live_at e t) → is_safe_now c t ≡ true → is_safe_now c u ≡ true
safe_same c t u lists live h =
    let m : (list_all (one_live c t) (setting c).names ≡ true) × (lawful c (lists_of (setting c) t) ≡ true) = and_both (list_all (one_live c t) (setting c).names) (lawful c (lists_of (setting c) t)) h in
    both (list_all (one_live c u) (setting c).names) (lawful c (lists_of (setting c) u))
    (all_map (one_live c t) (one_live c u) (λ e k. ap₂ (λ (l : SlotLists) live. at_most_holder (holder (shard_list l (shard_of (setting c) e))) live) lists (live e) ∙ k) (setting c).names m.0)
    (ap (lawful c) lists ∙ m.1)

-- a guarded trace, and a guarded fact
pub guarded_next : (c : Script) (trace : List Fact) (f : Fact) → guarded c trace ≡ true → guard c trace f ≡ true → guarded c (trace ++ f ∷ []) ≡ true
guarded_next c trace f g h = guarded_more c trace f (guard_opens c trace f h) ∙ both (guarded c trace) (guard c trace f) g h

-- another version, where a trace is safe
pub guarded_opens : (c : Script) (trace : List Fact) (v : ℕ) → is_safe_now c (trace ++ fact.Upgrade v ∷ []) ≡ true → guarded c (trace ++ fact.Upgrade v ∷ []) ≡ true
guarded_opens c trace v h = ap (guarded_parts c) (opened_more trace (fact.Upgrade v)) ∙ both (is_safe_now c (((opened trace).opening ++ (opened trace).since) ++ fact.Upgrade v ∷ [])) true (ap (λ l. is_safe_now c (l ++ fact.Upgrade v ∷ [])) (opened_whole trace) ∙ h) refl

-- it says nothing of slots and of who is live
pub upgraded_safe : (c : Script) (trace : List Fact) (v : ℕ) → is_safe_now c trace ≡ true → is_safe_now c (trace ++ fact.Upgrade v ∷ []) ≡ true
upgraded_safe c trace v h =
    let lists : lists_of (setting c) (trace ++ fact.Upgrade v ∷ []) ≡ lists_of (setting c) trace = fold-append (lists_step (setting c)) (no_lists (setting c)) trace (fact.Upgrade v ∷ []) in
    safe_same c trace (trace ++ fact.Upgrade v ∷ []) lists (λ e. fold-append (live_step e) [] trace (fact.Upgrade v ∷ [])) h

-- what is guarded was so before, with no other version in between
pub guarded_was : (c : Script) (trace more : List Fact) → list_all (λ f. not (opens f)) more ≡ true → guarded c (trace ++ more) ≡ true → guarded c trace ≡ true
guarded_was c trace [] within g = ap (guarded c) (sym (append-nil trace)) ∙ g
guarded_was c trace (f ∷ more) within g =
    let m : (not (opens f) ≡ true) × (list_all (λ f. not (opens f)) more ≡ true) = and_both (not (opens f)) (list_all (λ f. not (opens f)) more) within in
    let longer : guarded c (trace ++ f ∷ []) ≡ true = guarded_was c (trace ++ f ∷ []) more m.1 (ap (guarded c) (append_assoc trace (f ∷ []) more) ∙ g) in
    (and_both (guarded c trace) (guard c trace f) (sym (guarded_more c trace f (of_not (opens f) m.0)) ∙ longer)).0

-- the facts behind a guarded trace are guarded after it
pub guarded_rest : (c : Script) (trace more : List Fact) → list_all (λ f. not (opens f)) more ≡ true → guarded c (trace ++ more) ≡ true → guarded_after c trace more ≡ true
guarded_rest c trace [] within g = refl
guarded_rest c trace (f ∷ more) within g =
    let m : (not (opens f) ≡ true) × (list_all (λ f. not (opens f)) more ≡ true) = and_both (not (opens f)) (list_all (λ f. not (opens f)) more) within in
    let all : guarded c ((trace ++ f ∷ []) ++ more) ≡ true = ap (guarded c) (append_assoc trace (f ∷ []) more) ∙ g in
    let longer : guarded c (trace ++ f ∷ []) ≡ true = guarded_was c (trace ++ f ∷ []) more m.1 all in
    both (guard c trace f) (guarded_after c (trace ++ f ∷ []) more)
    (and_both (guarded c trace) (guard c trace f) (sym (guarded_more c trace f (of_not (opens f) m.0)) ∙ longer)).1
    (guarded_rest c (trace ++ f ∷ []) more m.1 all)
