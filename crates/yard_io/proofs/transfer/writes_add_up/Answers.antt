use Rattle.yard_io.proofs.ToldLemmas.{followed_nil, followed_both, front_whole, front_first, front_second}
use Rattle.yard_io.proofs.transfer.writes_add_up.Goals as goal

pub returns : goal.returns
returns c = record {
  none = followed_nil;
  both = followed_both;
  whole = front_whole;
  first = front_first;
  second = front_second;
}
