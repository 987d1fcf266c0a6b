use Rattle.std.proofs.Common.{ap, ap₂, ◌∙◌}
use Rattle.script_text.specs.Faults.{◌&◌}
use Rattle.script_text.specs.Words.{words}
use Rattle.serve_lines.specs.Asking.{of_parts, read_as}
use Rattle.serve_lines.proofs.AskingLaws.{words_joined}
use Rattle.serve_lines.proofs.requests.read_send.Goals as goal

pub returns-clause-value : goal.returns-clause-value
returns-clause-value c =
    c.joined.ensures.value
    ∙ ap (read_as of_parts) (ap₂ (λ x k. x & k) (ap₂ (λ x n. x & n) (ap₂ (λ p e. p & e) c.producer.ensures.value c.name.ensures) c.number_of.ensures.value) c.command.ensures.value)
    ∙ words_joined c.args.config.now (words c.args.line.now) (c.in_ok-sender.sender.now, words c.in_ok-sender.line.now) (c.in_ok-entity.entity.now, words c.in_ok-entity.line.now)
    (c.in_ok-number.number.now, words c.in_ok-number.line.now) (c.in_ok-verb.verb.now, words c.in_ok-verb.line.now) c.in_ok-sender.ensures c.in_ok-entity.ensures c.in_ok-number.ensures
    c.in_ok-verb.ensures
