-- What is read off a setting: the shards, the producers, and where a name belongs.
use Rattle.std.specs.Prelude.{ℕ, ◌==◌, List, filter}
use Rattle.std.specs.List.{position_or_len}
use Rattle.yard_model.specs.Words.{numbers}
use Rattle.yard_model.specs.Script.{Setting, is_name}
use Rattle.yard_model.specs.Shard.{shard}

-- the same with so many shards
abbrev pub set_shards : ℕ → Setting → Setting
set_shards n set = record { config = record set.config { shards = n }; names = set.names }

-- the shards, rising
abbrev pub shards : Setting → List ℕ
shards set = numbers 0 set.config.shards

-- the producers, rising
abbrev pub producers : Setting → List ℕ
producers set = numbers 1 set.config.producers

-- the shard of a name
abbrev pub shard_of : Setting → List ℕ → ℕ
shard_of set e = shard set.config.shards e

-- the names of a shard, in order
abbrev pub names_of : Setting → ℕ → List (List ℕ)
names_of set s = filter (λ e. shard_of set e == s) set.names

-- the place of a name among the names, from 0
abbrev pub place : Setting → List ℕ → ℕ
place set e = position_or_len (is_name e) set.names
