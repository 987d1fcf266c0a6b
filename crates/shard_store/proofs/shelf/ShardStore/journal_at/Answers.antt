use Rattle.shard_store.proofs.ShelfLaws.{journal_few}
use Rattle.shard_store.proofs.shelf.ShardStore.journal_at.Goals as goal

pub returns-clause-few : goal.returns-clause-few
returns-clause-few c = journal_few c.args.entity.now c.self.view_is c.spare.ensures.fits
