use Rattle.std.proofs.Common.{sym, ◌∙◌}
use Rattle.script_text.proofs.Cuts.{config_first}
use Rattle.script_text.proofs.read.is_config_line.Goals as goal

pub returns-else-begins_as_config : goal.returns-else-begins_as_config
returns-else-begins_as_config c =
    c.if-begins_as_config.false ∙ sym (config_first c.args.text.now c.requires.first c.requires.some (sym c.begins_as_config.ensures ∙ c.if-begins_as_config.false))
