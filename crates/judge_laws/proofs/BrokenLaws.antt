-- The first fact that is a breach ends a trace's safety.
use Rattle.std.proofs.Common.{◌≡◌, ◌<◌, ℕ, ◌+◌, sym, subst, ap, ap₂, ◌∙◌, refl, arith, length-append}
use Rattle.std.specs.Prelude.{Bool, true, false, ◌&&◌, not, is_none, List, [], ◌∷◌, ◌++◌, length, take, Option, Some, None}
use Rattle.std.specs.List.{slice_get}
use Rattle.std.proofs.Math.Bool.{and-true}
use Rattle.std.proofs.Math.Seq.{take-append_seam}
use Rattle.std.proofs.lemmas.List.{append-nil, append_assoc}
use Rattle.std.proofs.lemmas.List.Folds.{list_all-append}
use Rattle.yard_model.specs.declared.fact.Fact.{Fact}
use Rattle.yard_model.specs.declared.fact.Fact.TheVariants as fact
use Rattle.yard_model.specs.Follow.{each_follows}
use Rattle.yard_model.specs.Safe.{safe}
use Rattle.yard_model.specs.Script.{Script}
use Rattle.yard_model.proofs.FollowLaws.{follows_more}
use Rattle.plain_laws.proofs.Booleans.{true_is_not_false, both}
use Rattle.plain_laws.proofs.Lists.{none_is_not_some, some_is}
use Rattle.yard_laws.proofs.SafetyLaws.{safe_begins}
use Rattle.judge_laws.specs.declared.breach.Breach.{Breach}
use Rattle.judge_laws.specs.Breached.{breach_of}
use Rattle.judge_laws.specs.Broken.{BreachBreaks, Broken, BrokenIsFirst, IsBroken, UnbrokenBegins, UnbrokenGoesOn, UnbrokenIsExact, SafeIsUnbroken, UnbrokenIsSafe, broken_by, broken_from, broken_in}
use Rattle.judge_laws.specs.Judged.{is_plain, is_reshard, judged}
use Rattle.judge_laws.proofs.BackLaws.{now_of, safe_is_judged}
use Rattle.judge_laws.proofs.BreachLaws.{breach_is_judged}

seam_at : (xs ys : List Fact) (f : Fact) → slice_get (xs ++ f ∷ ys) (length xs) ≡ Some f
seam_at [] ys f = refl
seam_at (x ∷ xs) ys f = seam_at xs ys f

-- a fact that is no breach changes no number of shards
within : (c : Script) (before : List Fact) (f : Fact) → breach_of c before f ≡ None → not (is_reshard f) ≡ true
within c before (fact.Reshard n k) h = absurd (none_is_not_some _ (sym h))
within c before f h = refl

unplain : (b : Bool) → b ≡ false → not b ≡ true
unplain true h = absurd (true_is_not_false h)
unplain false h = refl

-- facts that were no breaches, each after those before it
record AreGood (c : Script) (before : List Fact) : Type 0 where
  plain : is_plain before ≡ true
  good : each_follows (judged c) [] before ≡ true

good_more : (c : Script) (before : List Fact) (f : Fact) → 0 < c.config.shards → breach_of c before f ≡ None → AreGood c before → AreGood c (before ++ f ∷ [])
good_more c before f k h g =
    let passes : judged c before f ≡ true = sym (breach_is_judged c before f k) ∙ ap is_none h in record {
      plain = list_all-append (λ x. not (is_reshard x)) before (f ∷ []) ∙ both (is_plain before) (not (is_reshard f) && true) g.plain (and-true (not (is_reshard f)) ∙ within c before f h);
      good = follows_more (judged c) [] before f ∙ both (each_follows (judged c) [] before) (judged c before f) g.good passes;
    }

good_is_safe : (c : Script) (before : List Fact) → 0 < c.config.shards → AreGood c before → safe c before ≡ true
good_is_safe c before k g = safe_is_judged c before k g.plain ∙ g.good

-- with a breach that changes no number of shards it isn't safe
not_with : (c : Script) (before : List Fact) (f : Fact) (b : Breach) → 0 < c.config.shards → AreGood c before → breach_of c before f ≡ Some b → is_reshard f ≡ false → safe c (before ++ f ∷ []) ≡ false
not_with c before f b k g h r =
    let fails : judged c before f ≡ false = sym (breach_is_judged c before f k) ∙ ap is_none h in
    let plain : is_plain (before ++ f ∷ []) ≡ true = list_all-append (λ x. not (is_reshard x)) before (f ∷ []) ∙ both (is_plain before) (not (is_reshard f) && true) g.plain (and-true (not (is_reshard f)) ∙ unplain (is_reshard f) r) in
    safe_is_judged c (before ++ f ∷ []) k plain ∙ (follows_more (judged c) [] before f ∙ ap₂ (λ x y. x && y) g.good fails)

broken_there : (c : Script) (trace before fs : List Fact) (n : ℕ) (x : Broken) → 0 < c.config.shards → trace ≡ before ++ fs → n ≡ length before → AreGood c before → broken_from c n before fs ≡ Some x → IsBroken c trace x
broken_there c trace before [] n x k is at g h = absurd (none_is_not_some x h)
broken_there c trace before (f ∷ fs) n x k is at g h =
    by (breach_of c before f) refl h
    (λ e later. broken_there c trace (before ++ f ∷ []) fs (n + 1) x k (is ∙ sym (append_assoc before (f ∷ []) fs)) (ap (λ m. m + 1) at ∙ sym (length-append before (f ∷ []))) (good_more c before f k e g) later)
  where
    by : (o : Option Breach) → breach_of c before f ≡ o → broken_by n o (broken_from c (n + 1) (before ++ f ∷ []) fs) ≡ Some x
        → (breach_of c before f ≡ None → broken_from c (n + 1) (before ++ f ∷ []) fs ≡ Some x → IsBroken c trace x) → IsBroken c trace x
    by None e h rest = rest e h
    by (Some b) e h rest =
        let same : record { place = n; why = b } ≡ x = some_is (record { place = n; why = b }) x h in
        let front : take n trace ≡ before = ap₂ take at is ∙ take-append_seam before (f ∷ fs) in
        let longer : n + 1 ≡ length (before ++ f ∷ []) = ap (λ m. m + 1) at ∙ sym (length-append before (f ∷ [])) in
        let whole : trace ≡ (before ++ f ∷ []) ++ fs = is ∙ sym (append_assoc before (f ∷ []) fs) in
        let next : take (n + 1) trace ≡ before ++ f ∷ [] = ap₂ take longer whole ∙ take-append_seam (before ++ f ∷ []) fs in
        subst (IsBroken c trace) same (record {
          it = f;
          there = ap₂ slice_get is at ∙ seam_at before fs f;
          why = ap (λ l. breach_of c l f) front ∙ e;
          before = ap (safe c) front ∙ good_is_safe c before k g;
          with_it = λ r. ap (safe c) next ∙ not_with c before f b k g e r;
        })

none_yet : (c : Script) → AreGood c []
none_yet c = record { plain = refl; good = refl }

pub broken_is_first : BrokenIsFirst
broken_is_first c trace x k h = broken_there c trace [] trace 0 x k refl refl (none_yet c) h

unbroken_there : (c : Script) (before fs : List Fact) (n : ℕ) → 0 < c.config.shards → AreGood c before → broken_from c n before fs ≡ None → AreGood c (before ++ fs)
unbroken_there c before [] n k g h = subst (AreGood c) (sym (append-nil before)) g
unbroken_there c before (f ∷ fs) n k g h =
    by (breach_of c before f) refl h (λ e later. unbroken_there c (before ++ f ∷ []) fs (n + 1) k (good_more c before f k e g) later)
  where
    by : (o : Option Breach) → breach_of c before f ≡ o → broken_by n o (broken_from c (n + 1) (before ++ f ∷ []) fs) ≡ None
        → (breach_of c before f ≡ None → broken_from c (n + 1) (before ++ f ∷ []) fs ≡ None → AreGood c ((before ++ f ∷ []) ++ fs)) → AreGood c (before ++ f ∷ fs)
    by None e h rest = subst (AreGood c) (append_assoc before (f ∷ []) fs) (rest e h)
    by (Some b) e h rest = absurd (none_is_not_some (record { place = n; why = b }) (sym h))

pub unbroken_is_safe : UnbrokenIsSafe
unbroken_is_safe c trace k h = good_is_safe c trace k (unbroken_there c [] trace 0 k (none_yet c) h)

-- where each fact passes none is a breach
passed_there : (c : Script) (before fs : List Fact) (n : ℕ) → 0 < c.config.shards → each_follows (judged c) before fs ≡ is_none (broken_from c n before fs)
passed_there c before [] n k = refl
passed_there c before (f ∷ fs) n k =
    ap₂ (λ x y. x && y) (sym (breach_is_judged c before f k)) (passed_there c (before ++ f ∷ []) fs (n + 1) k) ∙ by (breach_of c before f)
  where
    by : (o : Option Breach) → (is_none o && is_none (broken_from c (n + 1) (before ++ f ∷ []) fs)) ≡ is_none (broken_by n o (broken_from c (n + 1) (before ++ f ∷ []) fs))
    by None = refl
    by (Some b) = refl

pub safe_is_unbroken : SafeIsUnbroken
safe_is_unbroken c trace k p = safe_is_judged c trace k p ∙ passed_there c [] trace 0 k

-- Fact by fact.

pub unbroken_begins : UnbrokenBegins
unbroken_begins c = record { now = safe_begins c; unbroken = refl }

-- what is broken of two lists
broken_both : (c : Script) (n : ℕ) (before fs gs : List Fact) → broken_from c n before fs ≡ None → broken_from c n before (fs ++ gs) ≡ broken_from c (n + length fs) (before ++ fs) gs
broken_both c n before [] gs h =
    let same : n ≡ n + 0 = omega arith in
    ap₂ (λ k l. broken_from c k l gs) same (sym (append-nil before))
broken_both c n before (f ∷ fs) gs h = by (breach_of c before f) h (λ later. broken_both c (n + 1) (before ++ f ∷ []) fs gs later)
  where
    by : (o : Option Breach) → broken_by n o (broken_from c (n + 1) (before ++ f ∷ []) fs) ≡ None
        → (broken_from c (n + 1) (before ++ f ∷ []) fs ≡ None → broken_from c (n + 1) (before ++ f ∷ []) (fs ++ gs) ≡ broken_from c (n + 1 + length fs) ((before ++ f ∷ []) ++ fs) gs)
        → broken_by n o (broken_from c (n + 1) (before ++ f ∷ []) (fs ++ gs)) ≡ broken_from c (n + length (f ∷ fs)) (before ++ f ∷ fs) gs
    by None h rest =
        let same : n + 1 + length fs ≡ n + length (f ∷ fs) = omega arith in
        rest h ∙ ap₂ (λ k l. broken_from c k l gs) same (append_assoc before (f ∷ []) fs)
    by (Some b) h rest = absurd (none_is_not_some (record { place = n; why = b }) (sym h))

broken_then : (c : Script) (trace gs : List Fact) → broken_in c trace ≡ None → broken_in c (trace ++ gs) ≡ broken_from c (length trace) trace gs
broken_then c trace gs h =
    let same : 0 + length trace ≡ length trace = omega arith in
    broken_both c 0 [] trace gs h ∙ ap (λ k. broken_from c k trace gs) same

pub unbroken_goes_on : UnbrokenGoesOn
unbroken_goes_on c trace f k u h = record {
  now = now_of c trace f k (within c trace f h) u.now (sym (breach_is_judged c trace f k) ∙ ap is_none h);
  unbroken = broken_then c trace (f ∷ []) u.unbroken ∙ ap (λ o. broken_by (length trace) o None) h;
}

pub breach_breaks : BreachBreaks
breach_breaks c trace f b rest u h = broken_then c trace (f ∷ rest) u.unbroken ∙ ap (λ o. broken_by (length trace) o (broken_from c (length trace + 1) (trace ++ f ∷ []) rest)) h

pub unbroken_is_exact : UnbrokenIsExact
unbroken_is_exact c trace f k u =
    let g : AreGood c trace = unbroken_there c [] trace 0 k (none_yet c) u.unbroken in
    record {
      before = good_is_safe c trace k g;
      with_it = λ r.
          safe_is_judged c (trace ++ f ∷ []) k (list_all-append (λ x. not (is_reshard x)) trace (f ∷ []) ∙ both (is_plain trace) (not (is_reshard f) && true) g.plain (and-true (not (is_reshard f)) ∙ unplain (is_reshard f) r))
          ∙ (follows_more (judged c) [] trace f ∙ ap₂ (λ x y. x && y) g.good (sym (breach_is_judged c trace f k)));
    }
