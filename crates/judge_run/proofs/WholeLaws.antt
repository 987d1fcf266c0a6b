-- Of a script, the line between and the text of a trace.
use Rattle.std.proofs.Common.{◌≡◌, ◌<◌, ℕ, sym, subst, ap, ap₂, ◌∙◌, inl, inr}
use Rattle.std.specs.Prelude.{true, ◌⊎◌, List, length, Option, IfSome, if◌then◌else◌}
use Rattle.yard_model.specs.Script.{Script}
use Rattle.script_text.specs.Reading.{Reading, Spelled, reading}
use Rattle.script_text.specs.declared.fault.Mode.TheVariants as mode
use Rattle.judge_laws.specs.declared.breach.Breach.{Breach}
use Rattle.judge_laws.specs.declared.breach.Breach.TheVariants as breach
use Rattle.verdict_laws.specs.declared.answer.Answer.{Answer}
use Rattle.verdict_laws.specs.declared.answer.Answer.TheVariants as answer
use Rattle.verdict_laws.specs.Meaning.{MeantIsAnswered}
use Rattle.verdict_laws.specs.Verdict.{verdict}
use Rattle.judge_run.specs.declared.status.Status.{Status}
use Rattle.judge_run.specs.declared.status.Status.TheVariants as status
use Rattle.judge_run.specs.Ends.{IfAnswered, IsComplete, JudgesWhole, Says, Taken, Wrote, status_by, status_of, wanted, wanted_alone, wanted_of}
use Rattle.judge_run.specs.Input.{is_whole, put_together, script_in, trace_in}
use Rattle.judge_run.proofs.InputLaws.{script_apart, there_together, trace_apart}
use Rattle.judge_run.proofs.ScriptLaws.{whole_script}

-- a run that ends by an answer is answered
was_answered : (v : Answer) (P : Type 0) → IfAnswered (status_of v) P → P
was_answered (answer.Safe n) P h = h
was_answered (answer.Broken n why q) P h = by why h
  where
    by : (b : Breach) → IfAnswered (status_by b) P → P
    by breach.NotJudged k = k
    by b k = k
was_answered (answer.NoFact n q) P h = h

spelled_is : (x y : Script) (r : Reading) → r ≡ Spelled x → r ≡ Spelled y → x ≡ y
spelled_is x y r a b = it (sym a ∙ b)
  where
    it : Spelled x ≡ Spelled y → x ≡ y
    it e = cc

pub judges_whole : MeantIsAnswered → (had has : Option (List ℕ)) (s : Status) (before after : Taken) → IfAnswered s (Wrote had has s before after) → IsComplete had s → JudgesWhole had s before after
judges_whole meant had has s before after wrote complete script text c a told ends spelled means =
    by (subst (λ o. IsComplete o s) told complete)
  where
    input : List ℕ
    input = put_together script text

    whole : is_whole script ≡ true
    whole = whole_script script c ends spelled

    script_is : script_in (put_together script text) ≡ script
    script_is = script_apart script text whole

    trace_is : trace_in (put_together script text) ≡ text
    trace_is = trace_apart script text whole

    says : s ≡ status_of (verdict c (trace_in input)) → Wrote had has s before after → Says a s before after
    says e w =
        let all : w.answers.input ≡ input = subst (λ o. IfSome o (λ xs. w.answers.input ≡ xs)) told w.answers.input_is.all in
        let same : w.answers.script ≡ c = spelled_is w.answers.script c (reading mode.Replay (script_in w.answers.input)) w.answers.spelled (ap (λ t. reading mode.Replay (script_in t)) all ∙ (ap (reading mode.Replay) script_is ∙ spelled)) in
        let some : 0 < c.config.shards = subst (λ (x : Script). 0 < x.config.shards) same w.answers.some in
        let it : w.it ≡ a = sym w.answers.answer_is ∙ (ap₂ verdict same (ap trace_in all ∙ trace_is) ∙ meant c text a some means) in
        subst (λ x. Says x s before after) it (record { status_is = w.status_is; written = w.written; flushed = w.flushed })

    wanted_is : wanted input ≡ status_of (verdict c (trace_in input))
    wanted_is =
        ap (λ b. if b then wanted_of (reading mode.Replay (script_in input)) (trace_in input) else wanted_alone (length input)) (there_together script text whole)
        ∙ ap (λ r. wanted_of r (trace_in input)) (ap (reading mode.Replay) script_is ∙ spelled)

    by : (s ≡ wanted input) ⊎ (s ≡ status.OutOfMemory) → Says a s before after ⊎ (s ≡ status.OutOfMemory)
    by (inl w) = let e = w ∙ wanted_is in inl (says e (was_answered (verdict c (trace_in input)) (Wrote had has s before after) (subst (λ t. IfAnswered t (Wrote had has s before after)) e wrote)))
    by (inr e) = inr e
