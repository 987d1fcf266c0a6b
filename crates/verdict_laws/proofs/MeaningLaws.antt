-- All lines: what an answer says, and which texts are answered so.
use Rattle.std.proofs.Common.{◌≡◌, ◌<◌, ◌≤◌, ℕ, ◌+◌, sym, subst, ap, ◌∙◌, refl, arith, inl, inr}
use Rattle.std.specs.Prelude.{Bool, true, false, not, min, List, [], ◌∷◌, ◌++◌, length, Option, Some, None, if◌then◌else◌}
use Rattle.std.proofs.lemmas.List.{append-nil, append_assoc}
use Rattle.plain_laws.proofs.Booleans.{both}
use Rattle.plain_laws.proofs.Lists.{none_is_not_some, none_of}
use Rattle.yard_model.specs.declared.fact.Fact.{Fact}
use Rattle.yard_model.specs.declared.fact.Fact.TheVariants as fact
use Rattle.yard_model.specs.Script.{Script}
use Rattle.state_lines.specs.Told.{AreTold, IsTold}
use Rattle.judge_laws.specs.declared.breach.Breach.{Breach}
use Rattle.judge_laws.specs.declared.breach.Breach.TheVariants as breach
use Rattle.judge_laws.specs.Breached.{breach_of}
use Rattle.judge_laws.specs.Broken.{IsUnbroken, broken_by, broken_from, broken_in}
use Rattle.judge_laws.specs.Judged.{is_plain, is_reshard}
use Rattle.judge_laws.proofs.BrokenLaws.{safe_is_unbroken, unbroken_begins, unbroken_goes_on, unbroken_is_exact}
use Rattle.verdict_laws.specs.declared.answer.Answer.{Answer}
use Rattle.verdict_laws.specs.declared.answer.Answer.TheVariants as answer
use Rattle.verdict_laws.specs.declared.answer.Counts.{Counts}
use Rattle.verdict_laws.specs.declared.answer.Step.{Step}
use Rattle.verdict_laws.specs.declared.answer.Step.TheVariants as step
use Rattle.verdict_laws.specs.Lines.{is_end, lines_of, shown}
use Rattle.verdict_laws.specs.Meaning.{Breaks, BrokenIsAnswered, HasTrace, IsEnded, IsLine, IsNoFact, IsPassed, Means, MeantIsAnswered, SafeIsAnswered, Tell, TellsUpTo, UnreadIsAnswered, VerdictMeans}
use Rattle.verdict_laws.specs.Verdict.{answered, counts_of, judged_from, most, next, seen_step, step_of, verdict}
use Rattle.verdict_laws.proofs.LineLaws.{quiet_goes_on, told_goes_on}
use Rattle.verdict_laws.proofs.StepLaws.{Breaking, Came, Hears, came, step_quiet, step_read, step_unread, unsafe_breaks}

-- Numbers of lines.

-- the number behind these lines, with this greatest one
abbrev numbered_to : ℕ → ℕ → List (List ℕ) → ℕ
numbered_to top n [] = n
numbered_to top n (l ∷ ls) = numbered_to top (min (n + 1) top) ls

numbered_is : (top n : ℕ) (ls : List (List ℕ)) → n ≤ top → numbered_to top n ls ≡ min (n + length ls) top
numbered_is top n [] h = omega (arith, h)
numbered_is top n (l ∷ ls) h =
    let rest : numbered_to top (min (n + 1) top) ls ≡ min (min (n + 1) top + length ls) top = numbered_is top (min (n + 1) top) ls (omega arith) in
    rest ∙ omega arith

last_number : (top : ℕ) (ls : List (List ℕ)) → min (numbered_to top 0 ls + 1) top ≡ min (length ls + 1) top
last_number top ls = omega (arith, numbered_is top 0 ls (omega arith))

abbrev numbered : ℕ → List (List ℕ) → ℕ
numbered n ls = numbered_to most n ls

-- What is said of lines, behind these facts and so many lines.

-- facts that are read, in one number of shards
abbrev AreHeard : List Fact → Type 0
AreHeard facts = AreTold facts × (is_plain facts ≡ true)

record SafeFrom (c : Script) (before : List Fact) (ls : List (List ℕ)) (k : Counts) : Type 0 where
  lines : List (List ℕ)
  behind : List (List ℕ)
  facts : List Fact
  split : ls ≡ lines ++ behind
  tell : Tell lines facts
  ended : IsEnded behind
  heard : AreHeard facts
  unbroken : IsUnbroken c (before ++ facts)
  counts : k ≡ counts_of (before ++ facts)

record StopFrom (c : Script) (before : List Fact) (n : ℕ) (ls : List (List ℕ)) (m : ℕ) (P : List Fact → List ℕ → Type 0) : Type 0 where
  lines : List (List ℕ)
  line : List ℕ
  behind : List (List ℕ)
  facts : List Fact
  split : ls ≡ lines ++ line ∷ behind
  tell : Tell lines facts
  number : m ≡ next (numbered n lines)
  goes_on : is_end line ≡ false
  heard : AreHeard facts
  unbroken : IsUnbroken c (before ++ facts)
  it : P (before ++ facts) line

abbrev BreaksSo : Script → Breach → List ℕ → List Fact → List ℕ → Type 0
BreaksSo c why q trace line = Breaks c trace line why × (q ≡ shown line)

abbrev UnreadSo : List ℕ → List Fact → List ℕ → Type 0
UnreadSo q trace line = IsNoFact line × (q ≡ shown line)

abbrev MeansFrom : Script → List Fact → ℕ → List (List ℕ) → Answer → Type 0
MeansFrom c before n ls (answer.Safe k) = SafeFrom c before ls k
MeansFrom c before n ls (answer.Broken m why q) = StopFrom c before n ls m (BreaksSo c why q)
MeansFrom c before n ls (answer.NoFact m q) = StopFrom c before n ls m (UnreadSo q)

-- one line more at the front, which is passed over
stop_passed : (c : Script) (before : List Fact) (n : ℕ) (l : List ℕ) (ls : List (List ℕ)) (m : ℕ) (P : List Fact → List ℕ → Type 0) → IsPassed l → StopFrom c before (next n) ls m P → StopFrom c before n (l ∷ ls) m P
stop_passed c before n l ls m P p s = record {
  lines = l ∷ s.lines;
  line = s.line;
  behind = s.behind;
  facts = s.facts;
  split = ap (λ t. l ∷ t) s.split;
  tell = inl (p, s.tell);
  number = s.number;
  goes_on = s.goes_on;
  heard = s.heard;
  unbroken = s.unbroken;
  it = s.it;
}

passed_more : (c : Script) (before : List Fact) (n : ℕ) (l : List ℕ) (ls : List (List ℕ)) (a : Answer) → IsPassed l → MeansFrom c before (next n) ls a → MeansFrom c before n (l ∷ ls) a
passed_more c before n l ls (answer.Safe k) p s = record {
  lines = l ∷ s.lines;
  behind = s.behind;
  facts = s.facts;
  split = ap (λ t. l ∷ t) s.split;
  tell = inl (p, s.tell);
  ended = s.ended;
  heard = s.heard;
  unbroken = s.unbroken;
  counts = s.counts;
}
passed_more c before n l ls (answer.Broken m why q) p s = stop_passed c before n l ls m (BreaksSo c why q) p s
passed_more c before n l ls (answer.NoFact m q) p s = stop_passed c before n l ls m (UnreadSo q) p s

-- a fact that is no breach doesn't change the number of shards
heard_plain : (c : Script) (before : List Fact) (f : Fact) → breach_of c before f ≡ None → not (is_reshard f) ≡ true
heard_plain c before (fact.Reshard n k) h = absurd (none_is_not_some breach.NotJudged (sym h))
heard_plain c before f h = refl

heard_first : (c : Script) (before : List Fact) (l : List ℕ) (f : Fact) (facts : List Fact) → Hears c before l f → AreHeard facts → AreHeard (f ∷ facts)
heard_first c before l f facts h k = ((h.told, k.0), both (not (is_reshard f)) (is_plain facts) (heard_plain c before f h.passes) k.1)

-- or which tells a fact
stop_heard : (c : Script) (before : List Fact) (f : Fact) (n : ℕ) (l : List ℕ) (ls : List (List ℕ)) (m : ℕ) (P : List Fact → List ℕ → Type 0) → Hears c before l f → StopFrom c (before ++ f ∷ []) (next n) ls m P → StopFrom c before n (l ∷ ls) m P
stop_heard c before f n l ls m P h s = record {
  lines = l ∷ s.lines;
  line = s.line;
  behind = s.behind;
  facts = f ∷ s.facts;
  split = ap (λ t. l ∷ t) s.split;
  tell = inr (f, s.facts, refl, h.line_is, s.tell);
  number = s.number;
  goes_on = s.goes_on;
  heard = heard_first c before l f s.facts h s.heard;
  unbroken = subst (IsUnbroken c) (append_assoc before (f ∷ []) s.facts) s.unbroken;
  it = subst (λ t. P t s.line) (append_assoc before (f ∷ []) s.facts) s.it;
}

heard_more : (c : Script) (before : List Fact) (f : Fact) (n : ℕ) (l : List ℕ) (ls : List (List ℕ)) (a : Answer) → Hears c before l f → MeansFrom c (before ++ f ∷ []) (next n) ls a → MeansFrom c before n (l ∷ ls) a
heard_more c before f n l ls (answer.Safe k) h s = record {
  lines = l ∷ s.lines;
  behind = s.behind;
  facts = f ∷ s.facts;
  split = ap (λ t. l ∷ t) s.split;
  tell = inr (f, s.facts, refl, h.line_is, s.tell);
  ended = s.ended;
  heard = heard_first c before l f s.facts h s.heard;
  unbroken = subst (IsUnbroken c) (append_assoc before (f ∷ []) s.facts) s.unbroken;
  counts = s.counts ∙ ap counts_of (append_assoc before (f ∷ []) s.facts);
}
heard_more c before f n l ls (answer.Broken m why q) h s = stop_heard c before f n l ls m (BreaksSo c why q) h s
heard_more c before f n l ls (answer.NoFact m q) h s = stop_heard c before f n l ls m (UnreadSo q) h s

-- here it stops
stop_here : (c : Script) (before : List Fact) (n : ℕ) (l : List ℕ) (ls : List (List ℕ)) (P : List Fact → List ℕ → Type 0) → IsUnbroken c before → is_end l ≡ false → P before l → StopFrom c before n (l ∷ ls) (next n) P
stop_here c before n l ls P u e p = record {
  lines = [];
  line = l;
  behind = ls;
  facts = [];
  split = refl;
  tell = refl;
  number = refl;
  goes_on = e;
  heard = (tt, refl);
  unbroken = subst (IsUnbroken c) (sym (append-nil before)) u;
  it = subst (λ t. P t l) (sym (append-nil before)) p;
}

safe_here : (c : Script) (before : List Fact) (ls : List (List ℕ)) → IsUnbroken c before → IsEnded ls → SafeFrom c before ls (counts_of before)
safe_here c before ls u e = record {
  lines = [];
  behind = ls;
  facts = [];
  split = refl;
  tell = refl;
  ended = e;
  heard = (tt, refl);
  unbroken = subst (IsUnbroken c) (sym (append-nil before)) u;
  counts = ap counts_of (sym (append-nil before));
}

means_from : (c : Script) → 0 < c.config.shards → (before : List Fact) (n : ℕ) (ls : List (List ℕ)) → IsUnbroken c before → MeansFrom c before n ls (judged_from c before n ls)
means_from c k before n [] u = safe_here c before [] u tt
means_from c k before n (l ∷ ls) u =
    by_end (is_end l) refl (step_of c before l) (came c before l k u) (means_from c k before (next n) ls u) (λ f h. means_from c k (before ++ f ∷ []) (next n) ls (unbroken_goes_on c before f k u h))
  where
    by_step : is_end l ≡ false → (s : Step) → Came c before l s → MeansFrom c before (next n) ls (judged_from c before (next n) ls)
        → ((f : Fact) → breach_of c before f ≡ None → MeansFrom c (before ++ f ∷ []) (next n) ls (judged_from c (before ++ f ∷ []) (next n) ls))
        → MeansFrom c before n (l ∷ ls) (answered s (next n) l (judged_from c before (next n) ls) (λ f. judged_from c (before ++ f ∷ []) (next n) ls))
    by_step e step.Quiet p quiet heard = passed_more c before n l ls (judged_from c before (next n) ls) p quiet
    by_step e (step.Heard f) h quiet heard = heard_more c before f n l ls (judged_from c (before ++ f ∷ []) (next n) ls) h (heard f h.passes)
    by_step e (step.Broken why) b quiet heard = stop_here c before n l ls (BreaksSo c why (shown l)) u e (b, refl)
    by_step e step.NoFact b quiet heard = stop_here c before n l ls (UnreadSo (shown l)) u e (b, refl)

    by_end : (b : Bool) → is_end l ≡ b → (s : Step) → Came c before l s → MeansFrom c before (next n) ls (judged_from c before (next n) ls)
        → ((f : Fact) → breach_of c before f ≡ None → MeansFrom c (before ++ f ∷ []) (next n) ls (judged_from c (before ++ f ∷ []) (next n) ls))
        → MeansFrom c before n (l ∷ ls) (if b then answer.Safe (counts_of before) else answered s (next n) l (judged_from c before (next n) ls) (λ f. judged_from c (before ++ f ∷ []) (next n) ls))
    by_end true e s cm quiet heard = safe_here c before (l ∷ ls) u e
    by_end false e s cm quiet heard = by_step e s cm quiet heard

has_trace : (c : Script) (trace : List Fact) → 0 < c.config.shards → AreHeard trace → IsUnbroken c trace → HasTrace c trace
has_trace c trace k h u = record { told = h.0; plain = h.1; is_safe = (unbroken_is_exact c trace fact.Nothing k u).before }

tells_stop : (c : Script) (text : List ℕ) (m : ℕ) (P : List Fact → List ℕ → Type 0) → (s : StopFrom c [] 0 (lines_of text) m P) → TellsUpTo text s.facts m s.line
tells_stop c text m P s = record { lines = s.lines; behind = s.behind; split = s.split; tell = s.tell; number = s.number ∙ last_number most s.lines; goes_on = s.goes_on }

means_all : (c : Script) (text : List ℕ) (a : Answer) → 0 < c.config.shards → MeansFrom c [] 0 (lines_of text) a → Means c text a
means_all c text (answer.Safe n) k s = record {
  trace = s.facts;
  tells = record { lines = s.lines; behind = s.behind; split = s.split; tell = s.tell; ended = s.ended };
  has = has_trace c s.facts k s.heard s.unbroken;
  counts = s.counts;
}
means_all c text (answer.Broken m why q) k s = record { trace = s.facts; line = s.line; tells = tells_stop c text m (BreaksSo c why q) s; has = has_trace c s.facts k s.heard s.unbroken; breaks = s.it.0; shows = s.it.1 }
means_all c text (answer.NoFact m q) k s = record { trace = s.facts; line = s.line; tells = tells_stop c text m (UnreadSo q) s; has = has_trace c s.facts k s.heard s.unbroken; no_fact = s.it.0; shows = s.it.1 }

pub verdict_means : VerdictMeans
verdict_means c text k = means_all c text (verdict c text) k (means_from c k [] 0 (lines_of text) (unbroken_begins c))

-- Which texts are answered so.

-- facts that aren't broken leave the trace unbroken
all_unbroken : (c : Script) (before facts : List Fact) (n : ℕ) → 0 < c.config.shards → IsUnbroken c before → broken_from c n before facts ≡ None → IsUnbroken c (before ++ facts)
all_unbroken c before [] n k u h = subst (IsUnbroken c) (sym (append-nil before)) u
all_unbroken c before (f ∷ fs) n k u h =
    by (breach_of c before f) refl h (λ e later. all_unbroken c (before ++ f ∷ []) fs (n + 1) k (unbroken_goes_on c before f k u e) later)
  where
    by : (o : Option Breach) → breach_of c before f ≡ o → broken_by n o (broken_from c (n + 1) (before ++ f ∷ []) fs) ≡ None
        → (breach_of c before f ≡ None → broken_from c (n + 1) (before ++ f ∷ []) fs ≡ None → IsUnbroken c ((before ++ f ∷ []) ++ fs)) → IsUnbroken c (before ++ f ∷ fs)
    by None e later rest = subst (IsUnbroken c) (append_assoc before (f ∷ []) fs) (rest e later)
    by (Some b) e later rest = absurd (none_is_not_some (record { place = n; why = b }) (sym later))

-- by what a line comes to
pub goes_on : (c : Script) (before : List Fact) (n : ℕ) (l : List ℕ) (ls : List (List ℕ)) (s : Step) → is_end l ≡ false → step_of c before l ≡ s
    → judged_from c before n (l ∷ ls) ≡ answered s (next n) l (judged_from c before (next n) ls) (λ f. judged_from c (before ++ f ∷ []) (next n) ls)
goes_on c before n l ls s e h =
    ap (λ b. if b then answer.Safe (counts_of before) else answered (step_of c before l) (next n) l (judged_from c before (next n) ls) (λ f. judged_from c (before ++ f ∷ []) (next n) ls)) e
    ∙ ap (λ t. answered t (next n) l (judged_from c before (next n) ls) (λ f. judged_from c (before ++ f ∷ []) (next n) ls)) h

answered_from : (c : Script) → 0 < c.config.shards → (behind lines : List (List ℕ)) (before facts : List Fact) (n k : ℕ) → AreTold facts → Tell lines facts → broken_from c k before facts ≡ None
    → judged_from c before n (lines ++ behind) ≡ judged_from c (before ++ facts) (numbered n lines) behind
answered_from c s behind [] before facts n k told t h = ap (λ fs. judged_from c fs n behind) (sym (append-nil before) ∙ ap (λ fs. before ++ fs) (sym t))
answered_from c s behind (l ∷ ls) before facts n k told (inl p) h =
    goes_on c before n l (ls ++ behind) step.Quiet (quiet_goes_on l p.0.quiet) (step_quiet c before l p.0) ∙ answered_from c s behind ls before facts (next n) k told p.1 h
answered_from c s behind (l ∷ ls) before facts n k told (inr (f, gs, is, i, t)) h =
    subst (λ fs. AreTold fs → broken_from c k before fs ≡ None → judged_from c before n (l ∷ ls ++ behind) ≡ judged_from c (before ++ fs) (numbered n (l ∷ ls)) behind) (sym is)
    (λ told_f none. by told_f (breach_of c before f) refl none (λ later. answered_from c s behind ls (before ++ f ∷ []) gs (next n) (k + 1) told_f.1 t later)) told h
  where
    by : AreTold (f ∷ gs) → (o : Option Breach) → breach_of c before f ≡ o → broken_by k o (broken_from c (k + 1) (before ++ f ∷ []) gs) ≡ None
        → (broken_from c (k + 1) (before ++ f ∷ []) gs ≡ None → judged_from c (before ++ f ∷ []) (next n) (ls ++ behind) ≡ judged_from c ((before ++ f ∷ []) ++ gs) (numbered (next n) ls) behind)
        → judged_from c before n (l ∷ ls ++ behind) ≡ judged_from c (before ++ f ∷ gs) (numbered n (l ∷ ls)) behind
    by told_f None e none rest =
        goes_on c before n l (ls ++ behind) (step.Heard f) (ap is_end i.line ∙ told_goes_on f told_f.0) ((step_read c before l f told_f.0 i ∙ ap (seen_step f) e))
        ∙ (rest none ∙ ap (λ fs. judged_from c fs (numbered (next n) ls) behind) (append_assoc before (f ∷ []) gs))
    by told_f (Some b) e none rest = absurd (none_is_not_some (record { place = k; why = b }) (sym none))

none_broken : (c : Script) (trace : List Fact) → 0 < c.config.shards → HasTrace c trace → broken_in c trace ≡ None
none_broken c trace k h = none_of (broken_in c trace) (sym (safe_is_unbroken c trace k h.plain) ∙ h.is_safe)

ended_safe : (c : Script) (trace : List Fact) (n : ℕ) (ls : List (List ℕ)) → IsEnded ls → judged_from c trace n ls ≡ answer.Safe (counts_of trace)
ended_safe c trace n [] e = refl
ended_safe c trace n (l ∷ ls) e = ap (λ b. if b then answer.Safe (counts_of trace) else answered (step_of c trace l) (next n) l (judged_from c trace (next n) ls) (λ f. judged_from c (trace ++ f ∷ []) (next n) ls)) e

pub safe_is_answered : SafeIsAnswered
safe_is_answered c text trace k h t =
    ap (judged_from c [] 0) t.split ∙ (answered_from c k t.behind t.lines [] trace 0 0 h.told t.tell (none_broken c trace k h) ∙ ended_safe c trace (numbered 0 t.lines) t.behind t.ended)

-- up to the line that is next
up_to : (c : Script) (text : List ℕ) (trace : List Fact) (n : ℕ) (line : List ℕ) → 0 < c.config.shards → HasTrace c trace → (t : TellsUpTo text trace n line) → (s : Step) → step_of c trace line ≡ s
    → verdict c text ≡ answered s (next (numbered 0 t.lines)) line (judged_from c trace (next (numbered 0 t.lines)) t.behind) (λ f. judged_from c (trace ++ f ∷ []) (next (numbered 0 t.lines)) t.behind)
up_to c text trace n line k h t s e =
    ap (judged_from c [] 0) t.split ∙ (answered_from c k (line ∷ t.behind) t.lines [] trace 0 0 h.told t.tell (none_broken c trace k h) ∙ goes_on c trace (numbered 0 t.lines) line t.behind s t.goes_on e)

its_number : (text : List ℕ) (trace : List Fact) (n : ℕ) (line : List ℕ) (t : TellsUpTo text trace n line) → next (numbered 0 t.lines) ≡ n
its_number text trace n line t = last_number most t.lines ∙ sym t.number

unbroken_trace : (c : Script) (trace : List Fact) → 0 < c.config.shards → HasTrace c trace → IsUnbroken c trace
unbroken_trace c trace k h = all_unbroken c [] trace 0 k (unbroken_begins c) (none_broken c trace k h)

-- by a fact that is a breach
breach_answered : (c : Script) (text : List ℕ) (trace : List Fact) (n : ℕ) (line : List ℕ) (f : Fact) (why : Breach) → 0 < c.config.shards → HasTrace c trace → TellsUpTo text trace n line → IsTold f → IsLine line f → breach_of c trace f ≡ Some why
    → verdict c text ≡ answer.Broken n why (shown line)
breach_answered c text trace n line f why k h t told i b =
    up_to c text trace n line k h t (step.Broken why) (step_read c trace line f told i ∙ ap (seen_step f) b) ∙ ap (λ m. answer.Broken m why (shown line)) (its_number text trace n line t)

pub broken_is_answered : BrokenIsAnswered
broken_is_answered c text trace n line k h t u =
    let b : Breaking c trace u.it = unsafe_breaks c trace u.it k (unbroken_trace c trace k h) u.plain u.with_it in
    record { why = b.why; why_is = b.why_is; answer_is = breach_answered c text trace n line u.it b.why k h t u.told u.line_is b.why_is }

pub unread_is_answered : UnreadIsAnswered
unread_is_answered c text trace n line k h t w =
    up_to c text trace n line k h t step.NoFact (step_unread c trace line w) ∙ ap (λ m. answer.NoFact m (shown line)) (its_number text trace n line t)

pub meant_is_answered : MeantIsAnswered
meant_is_answered c text (answer.Safe n) k m = safe_is_answered c text m.trace k m.has m.tells ∙ ap answer.Safe (sym m.counts)
meant_is_answered c text (answer.Broken n why q) k m =
    breach_answered c text m.trace n m.line m.breaks.it why k m.has m.tells m.breaks.told m.breaks.line_is m.breaks.why_is ∙ ap (λ t. answer.Broken n why t) (sym m.shows)
meant_is_answered c text (answer.NoFact n q) k m = unread_is_answered c text m.trace n m.line k m.has m.tells m.no_fact ∙ ap (λ t. answer.NoFact n t) (sym m.shows)
