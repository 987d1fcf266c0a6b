use Rattle.queued_laws.proofs.Scripts as scripts
use Rattle.queued_laws.proofs.laws.recorded_is_queued.Goals as goal

pub returns : goal.returns
returns c = scripts.recorded_is_queued c.played_is_sound.ensures (record {
  turns = c.cluster_turns.ensures;
  guards = c.turn_is_guarded.ensures;
  stays = c.recorded_stays.ensures;
  carries = c.turn_carries.ensures;
  loses = c.cluster_loses.ensures;
  hears = c.cluster_hears.ensures;
  gains = c.cluster_gains.ensures;
  begins = c.cluster_begins.ensures;
  upgrades = c.cluster_upgrades.ensures;
  safes = c.cluster_is_safe.ensures;
  opening_gives = c.opening_gives_lists.ensures;
  opening_quiet = c.opening_is_quiet.ensures;
  opens = c.era_opens.ensures;
  reshaped_lawful = c.reshaped_is_lawful.ensures;
  reshaped_keeps = c.reshaped_keeps_journals.ensures;
  there = c.shards_are_there.ensures;
})
