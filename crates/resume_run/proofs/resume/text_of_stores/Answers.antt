use Rattle.behaviour_by_kind.specs.Kinds.{version_of}
use Rattle.shard_store.specs.Stores.{lists_at}
use Rattle.resume_run.proofs.resume.text_of_stores.Goals as goal

pub text_by-requires-clause-fits : goal.text_by-requires-clause-fits
text_by-requires-clause-fits c = c.few_orders_fit.ensures c.args.charter.now (version_of c.new-behaviour.result) (lists_at c.args.charter.now.config c.args.stores.places) c.config.ensures.script c.requires.few
