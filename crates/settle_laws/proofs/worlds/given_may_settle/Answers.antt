use Rattle.settle_laws.proofs.Given as given
use Rattle.settle_laws.proofs.worlds.given_may_settle.Goals as goal

pub returns : goal.returns
returns c = given.given_may_settle (record {
  turns = c.cluster_turns.ensures;
  guards = c.turn_is_guarded.ensures;
  stays = c.recorded_stays.ensures;
  sendings = c.sending_law.ensures;
  gains = c.cluster_gains.ensures;
  loses = c.cluster_loses.ensures;
  there = c.shards_are_there.ensures;
}) (record {
  begins = c.cluster_begins.ensures;
  opening_gives = c.opening_gives_lists.ensures;
  opening_quiet = c.opening_is_quiet.ensures;
  opens = c.era_opens.ensures;
})
