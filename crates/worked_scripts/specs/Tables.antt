-- Small tables: hashes of names, picks of a round, the replies of an account of version 1.
use Rattle.std.specs.Prelude.{ℕ, ◌+◌, codes, List, [], ◌∷◌, length, map, Option, fold}
use Rattle.std.specs.List.{scan}
use Rattle.std.specs.Option.{option_map}
use Rattle.yard_model.specs.declared.event.Command.{Command}
use Rattle.yard_model.specs.declared.event.Command.TheVariants as command
use Rattle.yard_model.specs.declared.event.Reply.{Reply}
use Rattle.yard_model.specs.declared.state.State.{State}
use Rattle.yard_model.specs.declared.state.State.TheVariants as state
use Rattle.yard_model.specs.Shard.{java_hash, shard}
use Rattle.yard_model.specs.Behaviour.{decide, apply}
use Rattle.yard_model.specs.Coordinator.{Share, picks, smallest}

abbrev pub names : List (List ℕ)
names = codes "cart" ∷ codes "Aa" ∷ codes "BB" ∷ codes "cart-7" ∷ codes "polygenelubricants" ∷ []

-- Java's hashes, as 32 bits without a sign
abbrev pub hashes : List ℕ
hashes = map java_hash names

-- of ten shards
abbrev pub shards : List ℕ
shards = map (shard 10) names

-- the shares of regions of different nodes
abbrev pub shares_from : ℕ → List (List ℕ) → List Share
shares_from n [] = []
shares_from n (ss ∷ more) = record { region = record { node = n; number = 1 }; rest = ss; count = length ss } ∷ shares_from (n + 1) more

abbrev pub first_picks : List ℕ
first_picks = picks 10 (shares_from 1 ((0 ∷ 1 ∷ 2 ∷ []) ∷ (3 ∷ []) ∷ (4 ∷ []) ∷ []))

abbrev pub no_picks : List ℕ
no_picks = picks 10 (shares_from 1 ((0 ∷ 1 ∷ []) ∷ (2 ∷ []) ∷ (3 ∷ []) ∷ []))

-- the node of the smallest share
abbrev pub smallest_node : List (List ℕ) → Option ℕ
smallest_node shares = option_map (λ (x : Share). x.region.node) (smallest (shares_from 1 shares))

abbrev pub smallest_shares : List (Option ℕ)
smallest_shares = smallest_node ((7 ∷ []) ∷ [] ∷ [] ∷ []) ∷ smallest_node [] ∷ []

abbrev pub orders : List Command
orders = command.Deposit 5 ∷ command.Create ∷ command.Deposit 100 ∷ command.Withdraw 150 ∷ command.Close ∷ command.Withdraw 100 ∷ command.Close ∷ command.Balance ∷ command.Create ∷ []

abbrev pub after : State → Command → State
after st c = fold apply st (decide 1 st c).events

abbrev pub account_replies : List Reply
account_replies = scan after (λ st c. (decide 1 st c).reply) state.NoAccount orders

abbrev pub account_state : State
account_state = fold after state.NoAccount orders
