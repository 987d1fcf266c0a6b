use Rattle.std.proofs.Common.{ap, ◌∙◌}
use Rattle.std.specs.Prelude.{replicate, None}
use Rattle.world_sim.proofs.beginning.first_tables.Goals as goal

pub returns-clause-nodes : goal.returns-clause-nodes
returns-clause-nodes g c = c.in_ok-nodes.ensures ∙ ap (λ k. replicate k None) (ap (λ f. f.nodes) c.config.ensures.value)

pub returns-clause-members : goal.returns-clause-members
returns-clause-members g c = c.in_ok-members.ensures

pub returns-clause-packets : goal.returns-clause-packets
returns-clause-packets g c = c.in_ok-mail.ensures.packets

pub returns-clause-fresh : goal.returns-clause-fresh
returns-clause-fresh g c = c.in_ok-mail.ensures.fresh

pub returns-clause-items : goal.returns-clause-items
returns-clause-items g c = c.in_ok-mail.ensures.items

pub returns-clause-full : goal.returns-clause-full
returns-clause-full g c = c.in_ok-mail.ensures.full
