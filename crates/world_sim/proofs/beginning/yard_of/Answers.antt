use Rattle.std.proofs.Common.{ap, ◌∙◌, refl}
use Rattle.std.specs.Prelude.{replicate, None}
use Rattle.yard_model.specs.Script.{Script}
use Rattle.world_sim.proofs.beginning.yard_of.Goals as goal

pub returns-in-Ok-first_tables-clause-begins : goal.returns-in-Ok-first_tables-clause-begins
returns-in-Ok-first_tables-clause-begins g c = record {
  script_is = c.in-Ok.ensures;
  past_none = refl;
  book_is = refl;
  nodes_none = c.in-Ok-first_tables.ensures.nodes ∙ ap (λ (s : Script). replicate s.config.nodes None) c.in-Ok.ensures;
  members_none = c.in-Ok-first_tables.ensures.members;
  version_none = refl;
  ups_are = refl;
  ordered_are = refl;
  packets_none = c.in-Ok-first_tables.ensures.packets;
  fresh_none = c.in-Ok-first_tables.ensures.fresh;
  items_none = c.in-Ok-first_tables.ensures.items;
  full_not = c.in-Ok-first_tables.ensures.full;
}
