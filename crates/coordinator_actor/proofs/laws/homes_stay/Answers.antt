use Rattle.coordinator_actor.proofs.KeepLaws as keep
use Rattle.coordinator_actor.proofs.laws.homes_stay.Goals as goal

pub returns-clause-entries : goal.returns-clause-entries
returns-clause-entries c = keep.entries_keep

pub returns-clause-packets : goal.returns-clause-packets
returns-clause-packets c = keep.packets_keep

pub returns-clause-views : goal.returns-clause-views
returns-clause-views c = keep.views_keep

pub returns-clause-ticks : goal.returns-clause-ticks
returns-clause-ticks c = keep.ticks_keep

pub returns-clause-rebalances : goal.returns-clause-rebalances
returns-clause-rebalances c = keep.rebalances_keep
