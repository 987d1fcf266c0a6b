use Rattle.std.proofs.Common.{◌≤◌, ap, sym, subst, length, ◌∙◌}
use Rattle.yard_model.specs.Entities.{Cell}
use Rattle.entity_cells.specs.Celled.{celled_at}
use Rattle.shard_entities.proofs.DropLaws.{stash_own}
use Rattle.shard_entities.proofs.LodgedLaws.{cell_at, cell_read, window_is}
use Rattle.shard_entities.proofs.shards.Shards.stashed.Goals as goal

pub returns-clause-own : goal.returns-clause-own
returns-clause-own c = stash_own c.self.invariant.kept.lodged c.self.view_is c.requires.place (cell_read c.self.invariant.kept.lodged c.self.view_is c.requires.place)

pub returns-clause-count : goal.returns-clause-count
returns-clause-count c = c.stashed.ensures.count ∙ sym (ap (λ (x : Cell). length x.stash) (cell_at c.self.invariant.kept.lodged c.self.view_is c.requires.place (cell_read c.self.invariant.kept.lodged c.self.view_is c.requires.place)))

pub returns-clause-few : goal.returns-clause-few
returns-clause-few c = subst (λ n. c.stashed.result ≤ n) (window_is c.self.invariant.kept.lodged c.self.view_is c.requires.place) (subst (λ n. n ≤ (celled_at c.self.inside.cells c.args.place.now.at).window) (sym c.stashed.ensures.count) c.stashed.ensures.fits)
