-- What contracts alone see has no bytes, so it may go to another thread, and be shared by threads.
use denote.Param.Send.{IsSend, IsSync, part_keyless}
use Rattle.entity_journal.specs.contracts.past.Past.{the_row}

pub past_send : IsSend the_row
past_send = record { owned = λ d vs. ((λ vss. (tt, ((λ uss. (tt, tt)), tt))), tt); leaving = λ k f vs. tt }

pub past_sync : IsSync the_row
past_sync = record { shared = λ d b o ν q. part_keyless the_row past_send q d b o }
