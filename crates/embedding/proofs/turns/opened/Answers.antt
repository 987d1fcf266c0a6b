use Rattle.std.proofs.Common.{◌∙◌, sym, ap}
use Rattle.yard_model.specs.Script.{Script}
use Rattle.lease_table.specs.Belongs.{id_of}
use Rattle.lease_table.specs.Leasing.{dealt, lists_in}
use Rattle.lease_table.proofs.Dealt.{next_idle}
use Rattle.embedding.specs.Cluster.{cluster}
use Rattle.embedding.proofs.turns.opened.Goals as goal

pub returns-clause-first : goal.returns-clause-first
returns-clause-first c = (next_idle (id_of c.in_ok-table.table) cluster _ 1 1 c.in-Some.first _ (sym (c.in_ok-table.ensures.passes ∙ ap (λ (s : Script). dealt (id_of c.in_ok-table.table) s (lists_in c.in_ok-new.field-0.places)) c.requires) ∙ c.in-Some.ensures)).0
