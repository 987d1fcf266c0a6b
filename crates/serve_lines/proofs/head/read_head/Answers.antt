use Rattle.std.proofs.Common.{◌≡◌, sym, ap, ◌∙◌}
use Rattle.std.specs.Cmp.Lexicographic.{other_text}
use Rattle.std.specs.List.{join_with_byte}
use Rattle.serve_laws.specs.Served.{config_words}
use Rattle.serve_lines.specs.Heads.{head_line}
use Rattle.serve_lines.proofs.HeadLaws.{read_back, same_found}
use Rattle.serve_lines.proofs.head.read_head.Goals as goal

pub returns-in_default : goal.returns-in_default
returns-in_default c config h e =
    c.in_default.not-Some config
    (read_back config c.without_end.result.now c.settings_of.result h (c.without_end.ensures (join_with_byte 32 (config_words config)) e) c.settings_of.ensures.value)

pub returns : goal.returns
returns c config h e =
    let same : c.in-Some.config ≡ config =
    same_found c.in-Some.config config
    (sym c.in-Some.is ∙ read_back config c.without_end.result.now c.settings_of.result h (c.without_end.ensures (join_with_byte 32 (config_words config)) e) c.settings_of.ensures.value) in
    other_text c.as_slice.result.now c.args.head.now (sym c.if-eq.false ∙ c.eq.ensures) (c.as_slice.ensures.value ∙ c.in_ok-text.ensures ∙ ap head_line same ∙ sym e)
