use Rattle.std.proofs.Common.{◌≡◌, ◌++◌, ◌∙◌, ap, subst, sym}
use Rattle.std.specs.Prelude.{MatchOption, None, Some}
use Rattle.yard_model.specs.Text.{fact_line}
use Rattle.fact_lines.specs.Reads.{text_at}
use Rattle.fact_lines.proofs.TextLaws.{no_fact, other_fact, other_line, took}
use Rattle.fact_lines.proofs.lines.take_printed.Goals as goal

pub returns-in_default : goal.returns-in_default
returns-in_default c = no_fact c.args.bytes.now (sym c.fact.ensures ∙ c.in_default.is)

pub returns-then-not-is_entry : goal.returns-then-not-is_entry
returns-then-not-is_entry c =
    other_fact c.args.bytes.now c.in-Some.fact (sym c.fact.ensures ∙ c.in-Some.is) (sym c.is_entry.ensures ∙ c.if-not-is_entry.true)

pub returns-in_default-text : goal.returns-in_default-text
returns-in_default-text c =
    let bytes = c.args.bytes.now in
    let g = c.in-Some.fact in
    let line : c.deref.result.now ≡ fact_line g = c.deref.ensures.value ∙ (c.in_ok-push_entry.ensures ∙ ap (λ l. l ++ fact_line g) c.clear.ensures.items) in
    let none = subst (λ o. MatchOption o (text_at c.deref.result.now bytes ≡ None) (λ x. text_at c.deref.result.now bytes ≡ Some x.now)) c.in_default-text.is c.text.ensures in
    other_line bytes g (sym c.fact.ensures ∙ c.in-Some.is) (subst (λ l. text_at l bytes ≡ None) line none)

pub returns : goal.returns
returns c =
    let bytes = c.args.bytes.now in
    let g = c.in-Some.fact in
    let line : c.deref.result.now ≡ fact_line g = c.deref.ensures.value ∙ (c.in_ok-push_entry.ensures ∙ ap (λ l. l ++ fact_line g) c.clear.ensures.items) in
    let there = subst (λ o. MatchOption o (text_at c.deref.result.now bytes ≡ None) (λ x. text_at c.deref.result.now bytes ≡ Some x.now)) c.in-Some-text.is c.text.ensures in
    took bytes g c.in-Some-text.rest.now c.args.facts.now c.push_copy.new.self (sym c.is_entry.ensures ∙ c.if-not-is_entry.false)
    (subst (λ l. text_at l bytes ≡ Some c.in-Some-text.rest.now) line there) c.in_ok-push_copy.ensures.ok
