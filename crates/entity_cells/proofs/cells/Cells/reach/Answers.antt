use Rattle.std.proofs.Common.{◌<◌, ◌-◌, ap, sym, subst, length, ◌∙◌}
use Rattle.std.specs.Prelude.{slice_index_or}
use Rattle.entity_cells.specs.Celled.{Celled, all_made}
use Rattle.entity_cells.proofs.MadeLaws.{inside_slots, read_at}
use Rattle.entity_cells.proofs.StashLaws.{seen_at}
use Rattle.entity_cells.proofs.cells.Cells.reach.Goals as goal

pub cell_in-requires : goal.cell_in-requires
cell_in-requires c = record { made = c.self.invariant.0; there = inside_slots c.self.inside.window c.self.inside.slots.items c.self.inside.made.items c.self.inside.stashes.lists c.self.view_is c.requires.there }

pub reach-requires : goal.reach-requires
reach-requires c = subst (λ (x : Celled). c.args.p - 1 < length x.cell.reach) (seen_at c.self.inside.window (all_made c.self.inside.slots.items c.self.inside.made.items) c.self.inside.stashes.lists c.self.view_is c.requires.there (read_at c.self.inside.slots.items c.self.inside.made.items (inside_slots c.self.inside.window c.self.inside.slots.items c.self.inside.made.items c.self.inside.stashes.lists c.self.view_is c.requires.there) c.cell_in.ensures)) c.requires.producer

pub returns : goal.returns
returns c = c.reach.ensures ∙ sym (ap (λ (x : Celled). slice_index_or x.cell.reach (c.args.p - 1) 0) (seen_at c.self.inside.window (all_made c.self.inside.slots.items c.self.inside.made.items) c.self.inside.stashes.lists c.self.view_is c.requires.there (read_at c.self.inside.slots.items c.self.inside.made.items (inside_slots c.self.inside.window c.self.inside.slots.items c.self.inside.made.items c.self.inside.stashes.lists c.self.view_is c.requires.there) c.cell_in.ensures)))
