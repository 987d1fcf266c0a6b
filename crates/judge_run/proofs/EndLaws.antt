-- How a run ends.
use Rattle.std.proofs.Common.{◌≡◌, ◌<◌, ◌≤◌, ℕ, sym, subst, ap, ◌∙◌, refl, arith, length-append, length-take-le, inl, inr}
use Rattle.std.specs.Prelude.{Bool, true, false, nat_lt, List, [], ◌++◌, length, take, drop, Option, Some, None, IfSome, Result, Ok, Err, IfErr, IfOk, if◌then◌else◌}
use Rattle.std.proofs.lemmas.List.{append-nil, append_assoc, drop_all, take-append-drop}
use Rattle.plain_laws.proofs.Booleans.{below, not_below}
use Rattle.plain_laws.proofs.Lists.{none_is_not_some, some_is}
use Rattle.yard_io.specs.Told.{without_first}
use Rattle.yard_model.specs.Script.{Script}
use Rattle.script_text.specs.Reading.{Reading, Spelled, Refused, reading}
use Rattle.script_text.specs.declared.fault.Mode.TheVariants as mode
use Rattle.script_text.specs.declared.fault.Why.{Why}
use Rattle.script_text.specs.declared.fault.Why.TheVariants as why
use Rattle.script_text.proofs.Steps.{reading_long}
use Rattle.judge_laws.specs.declared.breach.Breach.{Breach}
use Rattle.judge_laws.specs.declared.breach.Breach.TheVariants as breach
use Rattle.verdict_laws.specs.declared.answer.Answer.{Answer}
use Rattle.verdict_laws.specs.declared.answer.Answer.TheVariants as answer
use Rattle.verdict_laws.specs.Meaning.{Means, VerdictMeans}
use Rattle.verdict_laws.specs.Verdict.{verdict}
use Rattle.judge_text.specs.Reads.{ahead, left_of}
use Rattle.judge_text.proofs.ReadLaws.{ahead_both}
use Rattle.judge_run.specs.declared.status.Status.{Status}
use Rattle.judge_run.specs.declared.status.Status.TheVariants as status
use Rattle.judge_run.specs.Ends.{Answers, Behind, HasRun, IfNoTrace, IfReadFault, IfRefused, IsComplete, IsEarly, IsInput, IsUnheard, Began, IfAnswered, IfUnwritten, IfWriteFault, Lacks, Refuses, Sunk, Tells, Wrote, status_by, status_of, wanted, wanted_alone, wanted_of}
use Rattle.judge_run.specs.Input.{IsCut, IsUncut, has_trace, script_in, trace_in}

-- What was read at first: this head, up to this limit.

pub record IsHead (had mid : Option (List ℕ)) (head : List ℕ) (limit : ℕ) : Type 0 where
  pub bytes : IfSome had (λ xs. head ≡ take limit xs)
  pub rest : mid ≡ without_first limit had

head_told : (had mid : Option (List ℕ)) (head : List ℕ) (limit : ℕ) → IsHead had mid head limit → had ≡ ahead head mid
head_told None mid head limit h = sym (ap (ahead head) h.rest)
head_told (Some xs) mid head limit h = sym (ap (ahead head) h.rest ∙ ap (λ t. Some t) (ap (λ t. t ++ drop limit xs) h.bytes ∙ take-append-drop limit xs))

-- where less came, nothing is left
head_ended : (had mid : Option (List ℕ)) (head : List ℕ) (limit : ℕ) → IsHead had mid head limit → length head < limit → left_of mid ≡ []
head_ended None mid head limit h less = ap left_of h.rest
head_ended (Some xs) mid head limit h less = ap left_of h.rest ∙ drop_all limit xs (by (nat_lt limit (length xs)) refl)
  where
    by : (b : Bool) → nat_lt limit (length xs) ≡ b → length xs ≤ limit
    by false e = not_below limit (length xs) e
    by true e = let long : limit < length xs = below limit (length xs) e in absurd (omega (arith, ap length h.bytes, length-take-le limit xs (omega arith)))

-- all that the source had
all_input : (had has : Option (List ℕ)) (bytes input : List ℕ) → had ≡ ahead bytes has → input ≡ bytes ++ left_of has → IfSome had (λ xs. input ≡ xs)
all_input None has bytes input told is = tt
all_input (Some xs) None bytes input told is = absurd (none_is_not_some xs (sym told))
all_input (Some xs) (Some ys) bytes input told is = is ∙ sym (some_is xs (bytes ++ ys) told)

input_of : (had has : Option (List ℕ)) (bytes : List ℕ) → had ≡ ahead bytes has → IsInput had has (bytes ++ left_of has)
input_of had has bytes told = record { bytes = bytes; told = told; input_is = refl; all = all_input had has bytes (bytes ++ left_of has) told refl }

-- A line `trace` came.

pub answers_behind : VerdictMeans → (had mid has : Option (List ℕ)) (head script first : List ℕ) (limit : ℕ) (a : Answer) → IsHead had mid head limit → IsCut head script first → Behind script first mid has a → Answers had has a
answers_behind means had mid has head script first limit a h k b =
    let bytes : List ℕ = head ++ b.judged.bytes in
    let told : had ≡ ahead bytes has = head_told had mid head limit h ∙ (ap (ahead head) b.judged.told ∙ ahead_both head b.judged.bytes has) in
    let input : List ℕ = bytes ++ left_of has in
    let more : input ≡ head ++ (b.judged.bytes ++ left_of has) = append_assoc head b.judged.bytes (left_of has) in
    let script_is : script_in input ≡ script = ap script_in more ∙ k.script_is (b.judged.bytes ++ left_of has) in
    let trace_is : trace_in input ≡ first ++ (b.judged.bytes ++ left_of has) = ap trace_in more ∙ k.trace_is (b.judged.bytes ++ left_of has) in
    let answer_is : verdict b.script (trace_in input) ≡ a = ap (verdict b.script) trace_is ∙ b.judged.answer_is in
    record {
      input = input;
      input_is = input_of had has bytes told;
      there = ap has_trace more ∙ k.there (b.judged.bytes ++ left_of has);
      script = b.script;
      spelled = ap (reading mode.Replay) script_is ∙ b.spelled;
      some = b.some;
      answer_is = answer_is;
      means = subst (Means b.script (trace_in input)) answer_is (means b.script (trace_in input) b.some);
    }

-- what is to be answered where there is such a line
wanted_there : (input : List ℕ) (r : Reading) → has_trace input ≡ true → reading mode.Replay (script_in input) ≡ r → wanted input ≡ wanted_of r (trace_in input)
wanted_there input r there is =
    ap (λ b. if b then wanted_of (reading mode.Replay (script_in input)) (trace_in input) else wanted_alone (length input)) there ∙ ap (λ x. wanted_of x (trace_in input)) is

pub refuses_behind : (had mid has : Option (List ℕ)) (head script first : List ℕ) (limit : ℕ) (line : ℕ) (y : Why) → IsHead had mid head limit → IsCut head script first → reading mode.Replay script ≡ Refused line y → has ≡ mid → Refuses had has line y
refuses_behind had mid has head script first limit line y h k e same =
    subst (λ o. Refuses had o line y) (sym same) (record {
      input = head ++ left_of mid;
      input_is = input_of had mid head (head_told had mid head limit h);
      refused = ap (reading mode.Replay) (k.script_is (left_of mid)) ∙ e;
      exact = wanted_there (head ++ left_of mid) (Refused line y) (k.there (left_of mid)) (ap (reading mode.Replay) (k.script_is (left_of mid)) ∙ e);
    })

-- None came.

-- the whole input, where less came than the limit
whole_head : (had mid : Option (List ℕ)) (head : List ℕ) (limit : ℕ) → IsHead had mid head limit → length head < limit → head ++ left_of mid ≡ head
whole_head had mid head limit h less = ap (λ t. head ++ t) (head_ended had mid head limit h less) ∙ append-nil head

not_less : (n m : ℕ) → n ≤ m → nat_lt m n ≡ false
not_less n m h = by (nat_lt m n) refl
  where
    by : (b : Bool) → nat_lt m n ≡ b → b ≡ false
    by false e = refl
    by true e = absurd (omega (arith, below m n e, h))

-- it is too long for a script
too_long : (had mid : Option (List ℕ)) (head : List ℕ) → IsHead had mid head 4194311 → IsUncut head → 4194311 ≤ length head → Refuses had mid 0 why.TooLong
too_long had mid head h k full = record {
  input = input;
  input_is = input_of had mid head (head_told had mid head 4194311 h);
  refused = refused;
  exact = by (has_trace input) refl;
}
  where
    input : List ℕ
    input = head ++ left_of mid

    refused : reading mode.Replay (script_in (head ++ left_of mid)) ≡ Refused 0 why.TooLong
    refused = reading_long mode.Replay (script_in (head ++ left_of mid)) (omega (arith, k.longer (left_of mid)))

    by : (b : Bool) → has_trace input ≡ b → wanted input ≡ status.Refused 0 why.TooLong
    by true t = wanted_there input (Refused 0 why.TooLong) t refused
    by false t =
        ap (λ b. if b then wanted_of (reading mode.Replay (script_in input)) (trace_in input) else wanted_alone (length input)) t
        ∙ ap (λ b. if b then status.NoTrace else status.Refused 0 why.TooLong) (not_less 4194311 (length input) (omega (arith, full, length-append head (left_of mid))))

pub refuses_alone : (had mid : Option (List ℕ)) (head : List ℕ) (s : Status) → IsHead had mid head 4194311 → IsUncut head → s ≡ wanted_alone (length head) → IfRefused s (Refuses had mid)
refuses_alone had mid head s h k is = subst (λ t. IfRefused t (Refuses had mid)) (sym is) (by (nat_lt (length head) 4194311) refl)
  where
    by : (b : Bool) → nat_lt (length head) 4194311 ≡ b → IfRefused (if b then status.NoTrace else status.Refused 0 why.TooLong) (Refuses had mid)
    by true t = tt
    by false t = too_long had mid head h k (not_below (length head) 4194311 t)

pub lacks_alone : (had mid : Option (List ℕ)) (head : List ℕ) (s : Status) → IsHead had mid head 4194311 → IsUncut head → s ≡ wanted_alone (length head) → IfNoTrace s (Lacks had mid)
lacks_alone had mid head s h k is = subst (λ t. IfNoTrace t (Lacks had mid)) (sym is) (by (nat_lt (length head) 4194311) refl)
  where
    by : (b : Bool) → nat_lt (length head) 4194311 ≡ b → IfNoTrace (if b then status.NoTrace else status.Refused 0 why.TooLong) (Lacks had mid)
    by true t =
        let whole : head ++ left_of mid ≡ head = whole_head had mid head 4194311 h (below (length head) 4194311 t) in
        record {
          input = head ++ left_of mid;
          input_is = input_of had mid head (head_told had mid head 4194311 h);
          none = ap has_trace whole ∙ k.none;
          exact =
              ap wanted whole
              ∙ (ap (λ b. if b then wanted_of (reading mode.Replay (script_in head)) (trace_in head) else wanted_alone (length head)) k.none
              ∙ ap (λ b. if b then status.NoTrace else status.Refused 0 why.TooLong) t);
        }
    by false t = tt

-- Each is complete.

told_is : (had has : Option (List ℕ)) (input : List ℕ) (s : Status) → IsInput had has input → s ≡ wanted input → IsComplete had s
told_is None has input s i e = tt
told_is (Some xs) has input s i e = inl (e ∙ ap wanted i.all)

pub complete_answers : (had has : Option (List ℕ)) (a : Answer) (s : Status) → Answers had has a → s ≡ status_of a → IsComplete had s
complete_answers had has a s x e = told_is had has x.input s x.input_is (e ∙ sym (wanted_there x.input (Spelled x.script) x.there x.spelled ∙ ap status_of x.answer_is))

pub complete_refuses : (had has : Option (List ℕ)) (line : ℕ) (y : Why) → Refuses had has line y → IsComplete had (status.Refused line y)
complete_refuses had has line y x = told_is had has x.input (status.Refused line y) x.input_is (sym x.exact)

pub complete_lacks : (had has : Option (List ℕ)) → Lacks had has → IsComplete had status.NoTrace
complete_lacks had has x = told_is had has x.input status.NoTrace x.input_is (sym x.exact)

pub complete_without : (had : Option (List ℕ)) → IsComplete had status.OutOfMemory
complete_without None = tt
complete_without (Some xs) = inr refl

-- one that ended before there was an answer, with these counts of a source's faults
pub complete_early : (had has : Option (List ℕ)) (s : Status) (before after : ℕ) → IfRefused s (Refuses had has) → IfNoTrace s (Lacks had has) → IfReadFault s (before < after) → IsEarly s → after ≡ before → IsComplete had s
complete_early had has (status.Refused line y) before after r l f e same = complete_refuses had has line y r
complete_early had has status.NoTrace before after r l f e same = complete_lacks had has l
complete_early had has status.ReadFault before after r l f e same = absurd (omega (arith, f, same))
complete_early had has status.OutOfMemory before after r l f e same = complete_without had
complete_early had has s before after r l f e same = absurd e

-- one whose answer was written, or was to be
pub complete_told : (had has : Option (List ℕ)) (a : Answer) (s : Status) (old new : Sunk) → Answers had has a → Tells a s old new → new.faults ≡ old.faults → IsComplete had s
complete_told had has a status.WriteFault old new x t same = absurd (omega (arith, t.1, same))
complete_told had has a status.OutOfMemory old new x t same = complete_without had
complete_told had has a s old new x t same = complete_answers had has a s x t.0

-- Neither ends as one with words.

pub early_runs : (s : Status) → IsEarly s → HasRun s
early_runs status.Usage e = absurd e
early_runs s e = tt

never_usage : (a : Answer) → status.Usage ≡ status_of a → ⊥
never_usage (answer.Safe n) e = cc
never_usage (answer.Broken n y q) e = by y e
  where
    by : (b : Breach) → status.Usage ≡ status_by b → ⊥
    by breach.NotJudged e = cc
    by b e = cc
never_usage (answer.NoFact n q) e = cc

pub told_runs : (a : Answer) (s : Status) (old new : Sunk) → Tells a s old new → HasRun s
told_runs a status.Usage old new t = absurd (never_usage a t.0)
told_runs a s old new t = tt

-- What was told.

abbrev IsTellable : Status → Type 0
IsTellable status.Safe = Unit {0}
IsTellable status.Unsafe = Unit {0}
IsTellable status.NoFact = Unit {0}
IsTellable status.NotJudged = Unit {0}
IsTellable s = ⊥

tellable : (a : Answer) → IsTellable (status_of a)
tellable (answer.Safe n) = tt
tellable (answer.Broken n y q) = by y
  where
    by : (b : Breach) → IsTellable (status_by b)
    by breach.NotJudged = tt
    by b = tt
tellable (answer.NoFact n q) = tt

is_tellable : (a : Answer) (s : Status) → s ≡ status_of a → IsTellable s
is_tellable a s e = subst IsTellable (sym e) (tellable a)

pub told_wrote : (had has : Option (List ℕ)) (a : Answer) (s : Status) (old new : Sunk) → Answers had has a → Tells a s old new → IfAnswered s (Wrote had has s old.taken new.taken)
told_wrote had has a status.Safe old new x t = record { it = a; answers = x; status_is = t.0; written = t.1; flushed = t.2 }
told_wrote had has a status.Unsafe old new x t = record { it = a; answers = x; status_is = t.0; written = t.1; flushed = t.2 }
told_wrote had has a status.NoFact old new x t = record { it = a; answers = x; status_is = t.0; written = t.1; flushed = t.2 }
told_wrote had has a status.NotJudged old new x t = record { it = a; answers = x; status_is = t.0; written = t.1; flushed = t.2 }
told_wrote had has a s old new x t = tt

pub told_refused : (a : Answer) (s : Status) (old new : Sunk) (P : ℕ → Why → Type 0) → Tells a s old new → IfRefused s P
told_refused a (status.Refused line y) old new P t = absurd (is_tellable a (status.Refused line y) t.0)
told_refused a s old new P t = tt

pub told_there : (a : Answer) (s : Status) (old new : Sunk) (P : Type 0) → Tells a s old new → IfNoTrace s P
told_there a status.NoTrace old new P t = absurd (is_tellable a status.NoTrace t.0)
told_there a s old new P t = tt

pub told_read : (a : Answer) (s : Status) (old new : Sunk) (P : Type 0) → Tells a s old new → IfReadFault s P
told_read a status.ReadFault old new P t = absurd (is_tellable a status.ReadFault t.0)
told_read a s old new P t = tt

pub told_began : (had has : Option (List ℕ)) (a : Answer) (s : Status) (old new : Sunk) → Answers had has a → Tells a s old new → IfWriteFault s (Began had has old.taken new.taken)
told_began had has a status.WriteFault old new x t = record { it = a; answers = x; begun = t.0 }
told_began had has a s old new x t = tt

pub told_unwritten : (a : Answer) (s : Status) (old new : Sunk) → Tells a s old new → IfUnwritten s ((new.taken.bytes ≡ old.taken.bytes) × (new.taken.flushed ≡ old.taken.flushed))
told_unwritten a (status.Refused line y) old new t = absurd (is_tellable a (status.Refused line y) t.0)
told_unwritten a status.NoTrace old new t = absurd (is_tellable a status.NoTrace t.0)
told_unwritten a status.ReadFault old new t = absurd (is_tellable a status.ReadFault t.0)
told_unwritten a status.OutOfMemory old new t = (ap (λ (k : Sunk). k.taken.bytes) t, ap (λ (k : Sunk). k.taken.flushed) t)
told_unwritten a s old new t = tt

-- Of what a call answers.

pub unheard_early : {A : Type 0} (r : Result A Status) → IfErr r (λ s. IsUnheard s) → IfErr r (λ s. IsEarly s)
unheard_early (Ok a) h = tt
unheard_early (Err s) h = by s h
  where
    by : (s : Status) → IsUnheard s → IsEarly s
    by (status.Refused line y) h = tt
    by status.ReadFault h = tt
    by status.OutOfMemory h = tt
    by s h = absurd h

pub unheard_there : {A : Type 0} (r : Result A Status) (P : Type 0) → IfErr r (λ s. IsUnheard s) → IfErr r (λ s. IfNoTrace s P)
unheard_there (Ok a) P h = tt
unheard_there (Err s) P h = by s h
  where
    by : (s : Status) → IsUnheard s → IfNoTrace s P
    by status.NoTrace h = absurd h
    by s h = tt

pub on_ok : {A E : Type 0} (r : Result A E) (P Q : A → Type 0) → ((a : A) → P a → Q a) → IfOk r P → IfOk r Q
on_ok (Ok a) P Q f h = f a h
on_ok (Err e) P Q f h = tt

pub on_refused : {A : Type 0} (r : Result A Status) (P Q : ℕ → Why → Type 0) → ((line : ℕ) (y : Why) → P line y → Q line y) → IfErr r (λ s. IfRefused s P) → IfErr r (λ s. IfRefused s Q)
on_refused (Ok a) P Q f h = tt
on_refused (Err (status.Refused line y)) P Q f h = f line y h
on_refused (Err status.Safe) P Q f h = tt
on_refused (Err status.Unsafe) P Q f h = tt
on_refused (Err status.Usage) P Q f h = tt
on_refused (Err status.NoTrace) P Q f h = tt
on_refused (Err status.NoFact) P Q f h = tt
on_refused (Err status.NotJudged) P Q f h = tt
on_refused (Err status.ReadFault) P Q f h = tt
on_refused (Err status.WriteFault) P Q f h = tt
on_refused (Err status.OutOfMemory) P Q f h = tt
