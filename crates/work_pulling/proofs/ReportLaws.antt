-- The report of the jobs, line by line.
use Rattle.std.proofs.Common.{◌≡◌, ℕ, zero, suc, ◌+◌, ◌<◌, ◌≤◌, sym, ap, ◌∙◌, refl, length, arith}
use Rattle.std.specs.Prelude.{Bool, true, false, List, [], ◌∷◌, ◌++◌, codes, decimal, drop, Option, Some, None, if◌then◌else◌}
use Rattle.std.specs.List.{flat_map, slice_get}
use Rattle.std.proofs.lemmas.List.{append-nil, append_assoc}
use Rattle.yard_model.specs.declared.charter.Sending.{Sending}
use Rattle.yard_model.specs.declared.event.Command.{Command}
use Rattle.yard_model.specs.declared.fact.Fact.{Fact}
use Rattle.yard_model.specs.declared.incarnation.Incarnation.{Incarnation}
use Rattle.yard_model.specs.Text.{Bytes, line, command_text}
use Rattle.pull_laws.specs.Pulled.{jobs, given, is_confirmed, is_queued}
use Rattle.pull_laws.specs.PullText.{dids, given_words, job_line, pull_report, state_words}
use Rattle.job_board.specs.declared.state.JobState.{JobState}
use Rattle.job_text.specs.JobText.{job_line as line_of, state_words as words_of}
use Rattle.pull_cluster.specs.Kept.{state_by, state_of}

words_by : (c : Bool) (g : Option Incarnation) → words_of (state_by true c g) ≡ (if c then codes "confirmed" ∷ [] else given_words g)
words_by true g = refl
words_by false None = refl
words_by false (Some x) = refl

words_are : (t : List Fact) (e : List ℕ) → is_queued e t ≡ true → words_of (state_of t e) ≡ state_words e t
words_are t e q = ap (λ b. words_of (state_by b (is_confirmed e t) (given e t))) q ∙ words_by (is_confirmed e t) (given e t)

-- the line of a job
pub line_is : (t : List Fact) (j : Sending) (name at : List ℕ) (k : Command) (s : JobState) (d : ℕ) → name ≡ j.entity → name ≡ at → k ≡ j.command → s ≡ state_of t at → is_queued at t ≡ true → d ≡ dids at t → line_of name k s d ≡ job_line t j
line_is t j name at k s d n here command state queued count =
    let same : at ≡ j.entity = sym here ∙ n in
    let words : words_of s ≡ state_words j.entity t = ap words_of state ∙ (words_are t at queued ∙ ap (λ e. state_words e t) same) in
    ap (λ e. line_of e k s d) n
    ∙ (ap (λ m. line_of j.entity m s d) command
    ∙ (ap (λ w. line (codes "job" ∷ j.entity ∷ command_text j.command ∷ (w ++ codes "dids" ∷ decimal d ∷ []))) words
    ∙ ap (λ m. line (codes "job" ∷ j.entity ∷ command_text j.command ∷ (state_words j.entity t ++ codes "dids" ∷ decimal m ∷ []))) (count ∙ ap (λ e. dids e t) same)))

drop_next : (js : List Sending) (k : ℕ) → k < length js → (j : Sending) × (slice_get js k ≡ Some j) × (drop k js ≡ j ∷ drop (suc k) js)
drop_next [] k lt = absurd (below_none k lt)
  where
    below_none : (k : ℕ) → k < 0 → ⊥
    below_none k lt = omega (arith, lt)
drop_next (j ∷ js) zero lt = (j, refl, refl)
drop_next (j ∷ js) (suc k) lt = drop_next js k (omega (arith, lt))

-- one line more
pub lines_next : (t : List Fact) (js : List Sending) (k : ℕ) (old new whole : Bytes) → k < length js → ((j : Sending) → slice_get js k ≡ Some j → new ≡ old ++ job_line t j) → old ++ flat_map (job_line t) (drop k js) ≡ whole → new ++ flat_map (job_line t) (drop (k + 1) js) ≡ whole
lines_next t js k old new whole lt next e =
    let found : (j : Sending) × (slice_get js k ≡ Some j) × (drop k js ≡ j ∷ drop (suc k) js) = drop_next js k lt in
    let one : k + 1 ≡ suc k = omega arith in
    ap (λ l. l ++ flat_map (job_line t) (drop (k + 1) js)) (next found.0 found.1)
    ∙ (append_assoc old (job_line t found.0) (flat_map (job_line t) (drop (k + 1) js))
    ∙ (ap (λ n. old ++ (job_line t found.0 ++ flat_map (job_line t) (drop n js))) one ∙ (ap (λ l. old ++ flat_map (job_line t) l) (sym found.2) ∙ e)))

drop_past : (js : List Sending) (k : ℕ) → length js ≤ k → drop k js ≡ []
drop_past [] zero le = refl
drop_past [] (suc k) le = refl
drop_past (j ∷ js) zero le = absurd (none_below (length js) le)
  where
    none_below : (n : ℕ) → suc n ≤ 0 → ⊥
    none_below n le = omega (arith, le)
drop_past (j ∷ js) (suc k) le = drop_past js k (omega (arith, le))

-- all lines
pub lines_end : (t : List Fact) (js : List Sending) (k : ℕ) (text first now after : Bytes) → js ≡ jobs t → length js ≤ k → first ≡ text ++ codes "report\n" → now ++ flat_map (job_line t) (drop k js) ≡ first ++ flat_map (job_line t) js → after ≡ now ++ codes "end\n" → after ≡ text ++ pull_report t
lines_end t js k text first now after are past begun e ended =
    ended
    ∙ (ap (λ l. l ++ codes "end\n") (sym (append-nil now) ∙ (ap (λ l. now ++ flat_map (job_line t) l) (sym (drop_past js k past)) ∙ (e ∙ (ap (λ l. l ++ flat_map (job_line t) js) begun ∙ append_assoc text (codes "report\n") (flat_map (job_line t) js)))))
    ∙ (append_assoc text (codes "report\n" ++ flat_map (job_line t) js) (codes "end\n")
    ∙ (ap (λ l. text ++ (codes "report\n" ++ (flat_map (job_line t) l ++ codes "end\n"))) are)))
