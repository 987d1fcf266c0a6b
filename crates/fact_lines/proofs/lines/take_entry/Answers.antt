use Rattle.std.proofs.Common.{◌∙◌, sym}
use Rattle.fact_lines.proofs.lines.take_entry.Goals as goal

pub returns : goal.returns
returns c = record { fact = c.in-Some.fact; entry = sym c.is_entry.ensures ∙ c.if-not-is_entry.false; facts = c.in_ok-push_copy.ensures.ok; line = c.in-Some.ensures }
