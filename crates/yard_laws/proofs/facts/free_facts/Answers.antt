use Rattle.yard_laws.proofs.FreeLaws.{free_is_guarded, free_leaves_lists, free_leaves_live, free_leaves_version}
use Rattle.yard_laws.proofs.facts.free_facts.Goals as goal

pub returns-clause-guarded : goal.returns-clause-guarded
returns-clause-guarded c = free_is_guarded

pub returns-clause-lists : goal.returns-clause-lists
returns-clause-lists c = free_leaves_lists

pub returns-clause-live : goal.returns-clause-live
returns-clause-live c = free_leaves_live

pub returns-clause-version : goal.returns-clause-version
returns-clause-version c = free_leaves_version
