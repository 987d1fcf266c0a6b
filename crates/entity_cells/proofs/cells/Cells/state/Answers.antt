use Rattle.std.proofs.Common.{ap, sym, ◌∙◌}
use Rattle.entity_cells.specs.Celled.{Celled, all_made}
use Rattle.entity_cells.proofs.MadeLaws.{inside_slots, read_at}
use Rattle.entity_cells.proofs.StashLaws.{seen_at}
use Rattle.entity_cells.proofs.cells.Cells.state.Goals as goal

pub cell_in-requires : goal.cell_in-requires
cell_in-requires c = record { made = c.self.invariant.0; there = inside_slots c.self.inside.window c.self.inside.slots.items c.self.inside.made.items c.self.inside.stashes.lists c.self.view_is c.requires }

pub returns : goal.returns
returns c = c.state.ensures ∙ sym (ap (λ (x : Celled). x.state) (seen_at c.self.inside.window (all_made c.self.inside.slots.items c.self.inside.made.items) c.self.inside.stashes.lists c.self.view_is c.requires (read_at c.self.inside.slots.items c.self.inside.made.items (inside_slots c.self.inside.window c.self.inside.slots.items c.self.inside.made.items c.self.inside.stashes.lists c.self.view_is c.requires) c.cell_in.ensures)))
