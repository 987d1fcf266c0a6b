-- How much there is at most of what a script has.
use Rattle.std.proofs.Common.{◌≡◌, ℕ, ◌-◌, ◌≤◌, length, ap, arith}
use Rattle.std.specs.Prelude.{true, ◌&&◌, nat_le}
use Rattle.yard_model.specs.declared.charter.Config.{Config}
use Rattle.yard_model.specs.Behaviour.{is_in}
use Rattle.yard_model.specs.Script.{Script, Setting, IsScript, is_config, setting, names_in, pairs_in}
use Rattle.yard_model.specs.Setting.{shards}
use Rattle.plain_laws.proofs.Booleans.{and_both, at_most}

-- each setting of a script is in range
record Ranges (k : Config) : Type 0 where
  nodes : is_in 1 16 k.nodes ≡ true
  shards : is_in 1 128 k.shards ≡ true
  producers : is_in 1 32 k.producers ≡ true
  buffer : is_in 1 1000 k.buffer ≡ true
  window : is_in 1 64 k.window ≡ true

ranges : (k : Config) → is_config k ≡ true → Ranges k
ranges k h =
    let six : (is_in 1 16 k.nodes && is_in 1 128 k.shards && is_in 1 32 k.producers && is_in 1 1000 k.buffer && is_in 1 64 k.window && is_in 1 10000 k.snapshot) ≡ true = (and_both _ (is_in 1 10 k.keep) h).0 in
    let five : (is_in 1 16 k.nodes && is_in 1 128 k.shards && is_in 1 32 k.producers && is_in 1 1000 k.buffer && is_in 1 64 k.window) ≡ true = (and_both _ (is_in 1 10000 k.snapshot) six).0 in
    let last : (_ ≡ true) × (is_in 1 64 k.window ≡ true) = and_both (is_in 1 16 k.nodes && is_in 1 128 k.shards && is_in 1 32 k.producers && is_in 1 1000 k.buffer) (is_in 1 64 k.window) five in
    let fourth : (_ ≡ true) × (is_in 1 1000 k.buffer ≡ true) = and_both (is_in 1 16 k.nodes && is_in 1 128 k.shards && is_in 1 32 k.producers) (is_in 1 1000 k.buffer) last.0 in
    let third : (_ ≡ true) × (is_in 1 32 k.producers ≡ true) = and_both (is_in 1 16 k.nodes && is_in 1 128 k.shards) (is_in 1 32 k.producers) fourth.0 in
    let second : (is_in 1 16 k.nodes ≡ true) × (is_in 1 128 k.shards ≡ true) = and_both (is_in 1 16 k.nodes) (is_in 1 128 k.shards) third.0 in
    record { nodes = second.0; shards = second.1; producers = third.1; buffer = fourth.1; window = last.1 }

highest : (low high x : ℕ) → is_in low high x ≡ true → x ≤ high
highest low high x h = at_most x high (and_both (nat_le low x) (nat_le x high) h).1

lowest : (low high x : ℕ) → is_in low high x ≡ true → low ≤ x
lowest low high x h = at_most low x (and_both (nat_le low x) (nat_le x high) h).0

pub few_names : (c : Script) → IsScript c → length (setting c).names ≤ 1000
few_names c k = k.names

pub few_pairs : (c : Script) → IsScript c → length (pairs_in c.orders) ≤ 4000
few_pairs c k = k.pairs

pub few_nodes : (c : Script) → IsScript c → c.config.nodes ≤ 16
few_nodes c k = highest 1 16 c.config.nodes (ranges c.config k.config).nodes

pub few_shards : (c : Script) → IsScript c → c.config.shards ≤ 128
few_shards c k = highest 1 128 c.config.shards (ranges c.config k.config).shards

pub few_producers : (c : Script) → IsScript c → c.config.producers ≤ 32
few_producers c k = highest 1 32 c.config.producers (ranges c.config k.config).producers

pub small_buffer : (c : Script) → IsScript c → c.config.buffer ≤ 1000
small_buffer c k = highest 1 1000 c.config.buffer (ranges c.config k.config).buffer

pub small_window : (c : Script) → IsScript c → c.config.window ≤ 64
small_window c k = highest 1 64 c.config.window (ranges c.config k.config).window

pub some_window : (c : Script) → IsScript c → 1 ≤ c.config.window
some_window c k = lowest 1 64 c.config.window (ranges c.config k.config).window

-- of the setting that an actor has
pub few_shards_in : (c : Script) (set : Setting) → IsScript c → set ≡ setting c → set.config.shards ≤ 128
few_shards_in c set k is = let same : set.config.shards ≡ c.config.shards = ap (λ (s : Setting). s.config.shards) is in omega (arith, same, few_shards c k)

pub few_names_in : (c : Script) (set : Setting) → IsScript c → set ≡ setting c → length set.names ≤ 1000
few_names_in c set k is = let same : length set.names ≡ length (names_in c.orders) = ap (λ (s : Setting). length s.names) is in omega (arith, same, k.names)
