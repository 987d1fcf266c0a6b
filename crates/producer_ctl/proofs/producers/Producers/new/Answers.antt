use Rattle.std.proofs.Common.{ap, ◌∙◌}
use Rattle.yard_model.specs.declared.charter.Config.{Config}
use Rattle.producer_ctl.proofs.NamedLaws.{new_stands}
use Rattle.producer_ctl.proofs.SendLaws.{new_seen, none_ready}
use Rattle.producer_ctl.proofs.producers.Producers.new.Goals as goal

pub returns : goal.returns
returns c = new_seen c.in_ok-names.names c.args.charter.now c.args.who c.in_ok-held.held.items c.config.result.now.producers (c.in_ok-names.ensures.script ∙ c.requires) c.in_ok-held.ensures (ap (λ (k : Config). k.producers) c.config.ensures.value)

pub invariant_of-result : goal.invariant_of-result
invariant_of-result c = (new_stands c.in_ok-names.names c.args.charter.now c.args.who c.config.result.now.producers c.len.result (c.in_ok-names.ensures.script ∙ c.requires) c.in_ok-names.ensures.sorted c.in_ok-held.ensures (ap (λ (k : Config). k.producers) c.config.ensures.value) c.in_ok-tables.ensures.there c.len.ensures c.in_ok-tables.ensures.each, λ e. none_ready c.config.result.now.producers c.in_ok-held.ensures)
