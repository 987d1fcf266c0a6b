use Rattle.std.proofs.Common.{◌≡◌, length, take, true}
use Rattle.std.specs.List.{list_all}
use Rattle.lease_table.specs.Leasing.{words_of, is_short}
use Rattle.lease_table.proofs.make.heads.Given as goal

abbrev pub invariant-loop-store : goal.invariant-loop-store
invariant-loop-store l = record {
  words : l.words.items ≡ words_of (length l.places) (take l.store-index l.places);
  short : list_all is_short (take l.store-index l.places) ≡ true;
}
