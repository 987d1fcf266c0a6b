-- Facts of which safety says nothing may be left out.
use Rattle.std.proofs.Common.{◌≡◌, ℕ, sym, subst, ap, ap₂, ◌∙◌, refl}
use Rattle.std.specs.Prelude.{Bool, true, false, ◌==◌, ◌&&◌, not, cond, List, [], ◌∷◌, ◌++◌, Option, None}
use Rattle.std.specs.List.{list_all}
use Rattle.std.proofs.lemmas.List.Sums.{fold-append}
use Rattle.yard_model.specs.declared.fact.Fact.{Fact}
use Rattle.yard_model.specs.declared.fact.Fact.TheVariants as fact
use Rattle.yard_model.specs.declared.incarnation.Incarnation.{Incarnation}
use Rattle.yard_model.specs.declared.incarnation.Slot.{Slot}
use Rattle.yard_model.specs.Era.{Era, era_step, era_with, reshaped, upgrade_step, version_in}
use Rattle.yard_model.specs.Lawful.{is_decided}
use Rattle.yard_model.specs.Safe.{is_journal_state, is_safe_now, live_at, live_step, safe_from, shard_list_of, shows}
use Rattle.yard_model.specs.Script.{Script, setting, with_shards}
use Rattle.yard_model.specs.Setting.{shard_of}
use Rattle.yard_model.specs.SlotLists.{SlotLists, shard_list}
use Rattle.yard_model.specs.SlotReads.{epoch, journal}
use Rattle.yard_model.specs.Trace.{lists_of, lists_step, no_lists, slot_of, with_entry}
use Rattle.yard_model.specs.Words.{is_empty}
use Rattle.plain_laws.proofs.Booleans.{true_is_not_false, all_filter, and_both}
use Rattle.plain_laws.proofs.Lists.{none_of}
use Rattle.yard_laws.proofs.Guarding.{safe_same}
use Rattle.judge_laws.specs.Broken.{LoudIsUnbroken, QuietSaysNothing, broken_in, is_loud, loud}
use Rattle.judge_laws.specs.Judged.{is_plain, is_reshard}
use Rattle.judge_laws.proofs.BackLaws.{same_truth}
use Rattle.judge_laws.proofs.BrokenLaws.{safe_is_unbroken}

-- two traces that say the same of lists, of who is live and of the version
record IsAlike (c : Script) (t u : List Fact) : Type 0 where
  lists : lists_of (setting c) t ≡ lists_of (setting c) u
  live : (e : List ℕ) → live_at e t ≡ live_at e u
  version : version_in t ≡ version_in u

alike_itself : (c : Script) (t : List Fact) → IsAlike c t t
alike_itself c t = record { lists = refl; live = λ e. refl; version = refl }

alike_more : (c : Script) (t u : List Fact) (f : Fact) → IsAlike c t u → IsAlike c (t ++ f ∷ []) (u ++ f ∷ [])
alike_more c t u f a = record {
  lists = fold-append (lists_step (setting c)) (no_lists (setting c)) t (f ∷ []) ∙ (ap (λ l. lists_step (setting c) l f) a.lists ∙ sym (fold-append (lists_step (setting c)) (no_lists (setting c)) u (f ∷ [])));
  live = λ e. fold-append (live_step e) [] t (f ∷ []) ∙ (ap (λ l. live_step e l f) (a.live e) ∙ sym (fold-append (live_step e) [] u (f ∷ [])));
  version = fold-append upgrade_step 1 t (f ∷ []) ∙ (ap (λ v. upgrade_step v f) a.version ∙ sym (fold-append upgrade_step 1 u (f ∷ [])));
}

-- A quiet fact.

quiet_slot : (c : Script) (f : Fact) → is_loud f ≡ false → slot_of (setting c) f ≡ None
quiet_slot c (fact.Granted s n x) h = absurd (true_is_not_false h)
quiet_slot c (fact.Freed s n why) h = absurd (true_is_not_false h)
quiet_slot c (fact.Registered x) h = absurd (true_is_not_false h)
quiet_slot c (fact.Terminated x) h = absurd (true_is_not_false h)
quiet_slot c (fact.Allocated s x) h = absurd (true_is_not_false h)
quiet_slot c (fact.Deallocated s) h = absurd (true_is_not_false h)
quiet_slot c (fact.Wrote e r) h = absurd (true_is_not_false h)
quiet_slot c (fact.Snapshot e n) h = absurd (true_is_not_false h)
quiet_slot c (fact.Remembered e) h = absurd (true_is_not_false h)
quiet_slot c (fact.Forgotten e) h = absurd (true_is_not_false h)
quiet_slot c (fact.Queued p e n k) h = absurd (true_is_not_false h)
quiet_slot c (fact.Confirmed p e n) h = absurd (true_is_not_false h)
quiet_slot c (fact.Reshard n k) h = absurd (true_is_not_false h)
quiet_slot c (fact.Resharded s n k) h = absurd (true_is_not_false h)
quiet_slot c f h = refl

quiet_live : (e : List ℕ) (old : List Incarnation) (f : Fact) → is_loud f ≡ false → live_step e old f ≡ old
quiet_live e old (fact.Start x y) h = absurd (true_is_not_false h)
quiet_live e old (fact.Stop x y) h = absurd (true_is_not_false h)
quiet_live e old (fact.WriteFailed x y) h = absurd (true_is_not_false h)
quiet_live e old (fact.Gone x) h = absurd (true_is_not_false h)
quiet_live e old f h = refl

quiet_version : (v : ℕ) (f : Fact) → is_loud f ≡ false → upgrade_step v f ≡ v
quiet_version v (fact.Upgrade w) h = absurd (true_is_not_false h)
quiet_version v f h = refl

quiet_shows : (c : Script) (t : List Fact) (f : Fact) → is_loud f ≡ false → shows c t f ≡ true
quiet_shows c t (fact.Granted s n x) h = absurd (true_is_not_false h)
quiet_shows c t (fact.Freed s n why) h = absurd (true_is_not_false h)
quiet_shows c t (fact.Registered x) h = absurd (true_is_not_false h)
quiet_shows c t (fact.Terminated x) h = absurd (true_is_not_false h)
quiet_shows c t (fact.Allocated s x) h = absurd (true_is_not_false h)
quiet_shows c t (fact.Deallocated s) h = absurd (true_is_not_false h)
quiet_shows c t (fact.Wrote e r) h = absurd (true_is_not_false h)
quiet_shows c t (fact.Snapshot e n) h = absurd (true_is_not_false h)
quiet_shows c t (fact.Remembered e) h = absurd (true_is_not_false h)
quiet_shows c t (fact.Forgotten e) h = absurd (true_is_not_false h)
quiet_shows c t (fact.Queued p e n k) h = absurd (true_is_not_false h)
quiet_shows c t (fact.Confirmed p e n) h = absurd (true_is_not_false h)
quiet_shows c t (fact.Reshard n k) h = absurd (true_is_not_false h)
quiet_shows c t (fact.Resharded s n k) h = absurd (true_is_not_false h)
quiet_shows c t (fact.Start x e) h = absurd (true_is_not_false h)
quiet_shows c t (fact.Active x e m st) h = absurd (true_is_not_false h)
quiet_shows c t f h = refl

quiet_era : (c : Script) (t : List Fact) (f : Fact) → is_loud f ≡ false → era_step (record { script = c; trace = t }) f ≡ record { script = c; trace = t ++ f ∷ [] }
quiet_era c t (fact.Reshard n k) h = absurd (true_is_not_false h)
quiet_era c t f h = refl

alike_quiet : (c : Script) (t u : List Fact) (f : Fact) → is_loud f ≡ false → IsAlike c t u → IsAlike c (t ++ f ∷ []) u
alike_quiet c t u f h a = record {
  lists = fold-append (lists_step (setting c)) (no_lists (setting c)) t (f ∷ []) ∙ (by (slot_of (setting c) f) (quiet_slot c f h) ∙ a.lists);
  live = λ e. fold-append (live_step e) [] t (f ∷ []) ∙ (quiet_live e (live_at e t) f h ∙ a.live e);
  version = fold-append upgrade_step 1 t (f ∷ []) ∙ (quiet_version (version_in t) f h ∙ a.version);
}
  where
    by : (o : Option Slot) → slot_of (setting c) f ≡ None → lists_step (setting c) (lists_of (setting c) t) f ≡ lists_of (setting c) t
    by o e = ap (with_entry f (lists_of (setting c) t)) e

-- Alike traces are judged alike.

alike_now : (c : Script) (t u : List Fact) → IsAlike c t u → is_safe_now c t ≡ is_safe_now c u
alike_now c t u a = same_truth (is_safe_now c t) (is_safe_now c u) (safe_same c t u (sym a.lists) (λ e. sym (a.live e))) (safe_same c u t a.lists a.live)

all_alike : {X : Type 0} (p q : X → Bool) → ((x : X) → p x ≡ q x) → (xs : List X) → list_all p xs ≡ list_all q xs
all_alike p q h [] = refl
all_alike p q h (x ∷ xs) = ap₂ (λ a b. a && b) (h x) (all_alike p q h xs)

alike_shows : (c : Script) (t u : List Fact) (f : Fact) → IsAlike c t u → shows c t f ≡ shows c u f
alike_shows c t u (fact.Wrote e r) a =
    ap (λ (l : SlotLists). not (is_empty (live_at e t)) && (r.epoch == epoch (shard_list l (shard_of (setting c) e))) && is_decided (version_in t) c (journal e (shard_list l (shard_of (setting c) e))) r) a.lists
    ∙ (ap (λ l. not (is_empty l) && (r.epoch == epoch (shard_list_of c e u)) && is_decided (version_in t) c (journal e (shard_list_of c e u)) r) (a.live e)
    ∙ ap (λ v. not (is_empty (live_at e u)) && (r.epoch == epoch (shard_list_of c e u)) && is_decided v c (journal e (shard_list_of c e u)) r) a.version)
alike_shows c t u (fact.Active x e m st) a = ap (λ (l : SlotLists). is_journal_state c m st (journal e (shard_list l (shard_of (setting c) e)))) a.lists
alike_shows c t u (fact.Reshard n k) a = all_alike (λ e. is_empty (live_at e t)) (λ e. is_empty (live_at e u)) (λ e. ap is_empty (a.live e)) (setting c).names
alike_shows c t u (fact.Start x e) a = refl
alike_shows c t u f a = refl

-- two eras of one script, alike
record AreAlike (a b : Era) : Type 0 where
  script : a.script ≡ b.script
  trace : IsAlike b.script a.trace b.trace

eras_now : (c : Script) (t u : List Fact) (f : Fact) → IsAlike c t u → (y : Era) → era_step (record { script = c; trace = u }) f ≡ y → AreAlike (era_step (record { script = c; trace = t }) f) y
eras_now c t u (fact.Reshard n k) a y e =
    let lists : SlotLists = lists_of (setting c) u in
    let same : era_step (record { script = c; trace = t }) (fact.Reshard n k) ≡ y =
    ap₂ (λ v l. era_with (with_shards n c) v (reshaped (setting c) n k l)) a.version a.lists ∙ e in
    record { script = ap (λ (x : Era). x.script) same; trace = subst (λ (x : Era). IsAlike y.script x.trace y.trace) (sym same) (alike_itself y.script y.trace) }
eras_now c t u f a y e =
    let it : record { script = c; trace = u ++ f ∷ [] } ≡ y = e in
    subst (λ (x : Era). AreAlike (record { script = c; trace = t ++ f ∷ [] }) x) it (record { script = refl; trace = alike_more c t u f a })

from_now : (y : Era) (fs : List Fact) → safe_from y fs ≡ true → is_safe_now y.script y.trace ≡ true
from_now y [] h = h
from_now y (f ∷ fs) h = (and_both (is_safe_now y.script y.trace) (shows y.script y.trace f) (and_both (is_safe_now y.script y.trace && shows y.script y.trace f) (safe_from (era_step y f) fs) h).0).0

-- and a quiet fact more
skipped : (now shown rest : Bool) → shown ≡ true → (rest ≡ true → now ≡ true) → (now && shown && rest) ≡ rest
skipped true true rest s h = refl
skipped true false rest s h = absurd (true_is_not_false (sym s))
skipped false shown true s h = absurd (true_is_not_false (sym (h refl)))
skipped false shown false s h = refl

quiet_from : (fs : List Fact) (c : Script) (t u : List Fact) → IsAlike c t u → safe_from (record { script = c; trace = t }) fs ≡ safe_from (record { script = c; trace = u }) (loud fs)
quiet_from [] c t u a = alike_now c t u a
quiet_from (f ∷ fs) c t u a = by (is_loud f) refl (λ d x y k. quiet_from fs d x y k)
  where
    here : Era
    here = record { script = c; trace = t }

    there : Era
    there = record { script = c; trace = u }

    later : Type 0
    later = (d : Script) (x y : List Fact) → IsAlike d x y → safe_from (record { script = d; trace = x }) fs ≡ safe_from (record { script = d; trace = y }) (loud fs)

    on : later → (x y : Era) → AreAlike x y → safe_from x fs ≡ safe_from y (loud fs)
    on rest x y k = subst (λ d. safe_from (record { script = d; trace = x.trace }) fs ≡ safe_from y (loud fs)) (sym k.script) (rest y.script x.trace y.trace k.trace)

    by : (b : Bool) → is_loud f ≡ b → later → safe_from here (f ∷ fs) ≡ safe_from there (cond b (f ∷ loud fs) (loud fs))
    by true h rest =
        ap₂ (λ x y. x && y && safe_from (era_step here f) fs) (alike_now c t u a) (alike_shows c t u f a)
        ∙ ap (λ x. is_safe_now c u && shows c u f && x) (on rest (era_step here f) (era_step there f) (eras_now c t u f a (era_step there f) refl))
    by false h rest =
        let on_is : safe_from (era_step here f) fs ≡ safe_from there (loud fs) = ap (λ x. safe_from x fs) (quiet_era c t f h) ∙ rest c (t ++ f ∷ []) u (alike_quiet c t u f h a) in
        ap (λ x. is_safe_now c t && shows c t f && x) on_is
        ∙ skipped (is_safe_now c t) (shows c t f) (safe_from there (loud fs)) (quiet_shows c t f h) (λ e. alike_now c t u a ∙ from_now there (loud fs) e)

pub quiet_says_nothing : QuietSaysNothing
quiet_says_nothing c trace = quiet_from trace c [] [] (alike_itself c [])

pub loud_is_unbroken : LoudIsUnbroken
loud_is_unbroken c trace k plain h =
    let still : is_plain (loud trace) ≡ true = all_filter (λ f. not (is_reshard f)) is_loud trace plain in
    none_of (broken_in c (loud trace)) (sym (safe_is_unbroken c (loud trace) k still) ∙ (sym (quiet_says_nothing c trace) ∙ h))
