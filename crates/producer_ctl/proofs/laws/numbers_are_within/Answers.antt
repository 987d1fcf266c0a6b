use Rattle.producer_ctl.proofs.WithinLaws as within
use Rattle.producer_ctl.proofs.laws.numbers_are_within.Goals as goal

pub returns-clause-sends : goal.returns-clause-sends
returns-clause-sends c = within.queueing_within

pub returns-clause-requests : goal.returns-clause-requests
returns-clause-requests c = within.asking_within

pub returns-clause-acks : goal.returns-clause-acks
returns-clause-acks c = within.acking_within

pub returns-clause-resends : goal.returns-clause-resends
returns-clause-resends c = within.resending_within

pub returns-clause-repeats : goal.returns-clause-repeats
returns-clause-repeats c = within.repeating_within
