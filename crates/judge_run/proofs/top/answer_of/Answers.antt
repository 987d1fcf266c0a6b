use Rattle.std.proofs.Common.{◌≡◌, ◌∙◌, ap, subst, rules}
use Rattle.std.specs.Prelude.{List, ℕ, length}
use Rattle.script_text.specs.Reading.{Refused, reading}
use Rattle.script_text.specs.declared.fault.Mode.TheVariants as mode
use Rattle.judge_run.specs.Ends.{Answers, Behind, Lacks, Refuses, wanted_alone}
use Rattle.judge_run.specs.Input.{IsCut, IsUncut}
use Rattle.judge_run.proofs.EndLaws.{IsHead, answers_behind, lacks_alone, on_ok, on_refused, refuses_alone, refuses_behind, unheard_early, unheard_there}
use Rattle.judge_run.proofs.top.answer_of.Goals as goal

pub returns-in-Some-clause-answers : goal.returns-in-Some-clause-answers
returns-in-Some-clause-answers g c =
    let had = g.S.Source.left c.args.source.now in
    let mid = g.S.Source.left c.read_up_to.new.source in
    let has = g.S.Source.left c.answer_behind.new.source in
    let head : List ℕ = c.in-Ok.head.items in
    let h : IsHead had mid head 4194311 = record { bytes = c.in-Ok.ensures.bytes; rest = c.in-Ok.ensures.rest } in
    let seen : IsCut c.deref.result.now c.in-Some.script.now c.in-Some.first.now = search rules in
    let k : IsCut head c.in-Some.script.now c.in-Some.first.now = subst (λ t. IsCut t c.in-Some.script.now c.in-Some.first.now) c.deref.ensures.value seen in
    on_ok c.answer_behind.result (Behind c.in-Some.script.now c.in-Some.first.now mid has) (Answers had has)
    (λ a b. answers_behind c.verdict_means.ensures had mid has head c.in-Some.script.now c.in-Some.first.now 4194311 a h k b) c.answer_behind.ensures.answers

pub returns-in-Some-clause-refused : goal.returns-in-Some-clause-refused
returns-in-Some-clause-refused g c =
    let had = g.S.Source.left c.args.source.now in
    let mid = g.S.Source.left c.read_up_to.new.source in
    let has = g.S.Source.left c.answer_behind.new.source in
    let head : List ℕ = c.in-Ok.head.items in
    let h : IsHead had mid head 4194311 = record { bytes = c.in-Ok.ensures.bytes; rest = c.in-Ok.ensures.rest } in
    let seen : IsCut c.deref.result.now c.in-Some.script.now c.in-Some.first.now = search rules in
    let k : IsCut head c.in-Some.script.now c.in-Some.first.now = subst (λ t. IsCut t c.in-Some.script.now c.in-Some.first.now) c.deref.ensures.value seen in
    on_refused c.answer_behind.result (λ line why. (reading mode.Replay c.in-Some.script.now ≡ Refused line why) × (has ≡ mid)) (Refuses had has)
    (λ line why e. refuses_behind had mid has head c.in-Some.script.now c.in-Some.first.now 4194311 line why h k e.0 e.1) c.answer_behind.ensures.refused

pub returns-clause-refused : goal.returns-clause-refused
returns-clause-refused g c =
    let had = g.S.Source.left c.args.source.now in
    let mid = g.S.Source.left c.read_up_to.new.source in
    let head : List ℕ = c.in-Ok.head.items in
    let h : IsHead had mid head 4194311 = record { bytes = c.in-Ok.ensures.bytes; rest = c.in-Ok.ensures.rest } in
    let k : IsUncut head = subst IsUncut c.deref.ensures.value c.in-None.ensures in
    refuses_alone had mid head c.status_alone.result h k (c.status_alone.ensures ∙ ap (λ (l : List ℕ). wanted_alone (length l)) c.as_slice.ensures.value)

pub returns-clause-no_trace : goal.returns-clause-no_trace
returns-clause-no_trace g c =
    let had = g.S.Source.left c.args.source.now in
    let mid = g.S.Source.left c.read_up_to.new.source in
    let head : List ℕ = c.in-Ok.head.items in
    let h : IsHead had mid head 4194311 = record { bytes = c.in-Ok.ensures.bytes; rest = c.in-Ok.ensures.rest } in
    let k : IsUncut head = subst IsUncut c.deref.ensures.value c.in-None.ensures in
    lacks_alone had mid head c.status_alone.result h k (c.status_alone.ensures ∙ ap (λ (l : List ℕ). wanted_alone (length l)) c.as_slice.ensures.value)

pub returns-in-Some-clause-no_trace : goal.returns-in-Some-clause-no_trace
returns-in-Some-clause-no_trace g c = unheard_there c.answer_behind.result (Lacks (g.S.Source.left c.args.source.now) (g.S.Source.left c.answer_behind.new.source)) c.answer_behind.ensures.early

pub returns-in-Some-clause-early : goal.returns-in-Some-clause-early
returns-in-Some-clause-early g c = unheard_early c.answer_behind.result c.answer_behind.ensures.early
