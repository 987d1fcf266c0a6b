-- What a queue store keeps at hand, so that nothing is read off the list of its entries.
use Rattle.std.specs.Prelude.{◌≡◌, ℕ, ◌+◌, ◌<◌, ◌≤◌, ◌^◌, Bool, true, List, [], length, map, filter, take, slice_index_or}
use Rattle.std.specs.List.{list_any, position_or_len}
use Rattle.std.specs.List.Sorted.{IsStrictlySortedBy}
use Rattle.std.specs.Ordering.{nat_cmp}
use Rattle.std.specs.Cmp.Lexicographic.{slice_cmp}
use Rattle.yard_model.specs.declared.charter.Sending.{Sending}
use Rattle.yard_model.specs.declared.event.Command.{Command}
use Rattle.yard_model.specs.declared.fact.Fact.{Fact}
use Rattle.yard_model.specs.declared.incarnation.Slot.TheVariants as slot
use Rattle.yard_model.specs.declared.entry.QueueEntry.{QueueEntry}
use Rattle.yard_model.specs.Entry.{queue_fact}
use Rattle.yard_model.specs.Genuine.{is_producer}
use Rattle.yard_model.specs.Script.{Script, is_name, names_in, sends}
use Rattle.yard_model.specs.SlotReads as reads
use Rattle.yard_model.specs.Lawful.{own, is_held}

-- the place of a name among names; how many these are, where it isn't among them
abbrev pub place_of : List (List ℕ) → List ℕ → ℕ
place_of names e = position_or_len (is_name e) names

-- what is kept of a name, at its place
abbrev pub kept_of : {X : Type 0} → List (List ℕ) → List X → X → List ℕ → X
kept_of names xs d e = slice_index_or xs (place_of names e) d

-- how many are counted of a name
abbrev pub counted : List (List ℕ) → List ℕ → List ℕ → ℕ
counted names counts e = kept_of names counts 0 e

-- the commands to a name among sends, in order
abbrev pub commands_to : List ℕ → List Sending → List Command
commands_to e all = map (λ (x : Sending). x.command) (filter (λ (x : Sending). is_name x.entity e) all)

-- the commands that are kept of a name
abbrev pub planned : List (List ℕ) → List (List Command) → List ℕ → List Command
planned names plans e = kept_of names plans [] e

-- the commands to each name are kept
pub record ArePlans (names : List (List ℕ)) (plans : List (List Command)) (all : List Sending) : Type 0 where
  pub each : (e : List ℕ) → planned names plans e ≡ commands_to e all

-- what is kept of each name, d of one that has no place, is kept of it among other names
pub record AreMoved {X : Type 0} (d : X) (old names : List (List ℕ)) (xs ys : List X) : Type 0 where
  pub each : (e : List ℕ) → kept_of names ys d e ≡ kept_of old xs d e

-- each name that is sent to is among the names
pub record AreNamed (names : List (List ℕ)) (all : List Sending) : Type 0 where
  pub each : (e : List ℕ) → 0 < length (commands_to e all) → list_any (is_name e) names ≡ true

-- the names are the script's, in order
pub record AreOrdered (script : Script) (names : List (List ℕ)) : Type 0 where
  pub are : names ≡ names_in script.orders
  pub sorted : IsStrictlySortedBy (slice_cmp nat_cmp) names

-- something is kept of each name
pub record AreSized (names : List (List ℕ)) (commands : List (List Command)) (sent seen : List ℕ) : Type 0 where
  pub plans : length commands ≡ length names
  pub queued : length sent ≡ length names
  pub confirmed : length seen ≡ length names

-- what is queued of each name are the first sends to it
pub record AreFirst (script : Script) (p : ℕ) (entries : List Fact) : Type 0 where
  pub each : (e : List ℕ) → reads.commands e entries ≡ commands_to e (take (reads.queued_in_all entries) (sends script p))

-- the counts of what is queued
pub record CountsQueued (names : List (List ℕ)) (counts : List ℕ) (entries : List Fact) : Type 0 where
  pub each : (e : List ℕ) → counted names counts e ≡ reads.queued e entries

-- the last confirmed numbers
pub record CountsConfirmed (names : List (List ℕ)) (counts : List ℕ) (entries : List Fact) : Type 0 where
  pub each : (e : List ℕ) → counted names counts e ≡ reads.confirmed e entries

-- what is known of the list by itself
pub record IsList (script : Script) (p : ℕ) (entries : List Fact) : Type 0 where
  pub lawful : own script (slot.Queue p) entries ≡ true
  pub first : AreFirst script p entries

-- the numbers of the whole list
pub record AreSums (sum last : ℕ) (held : Bool) (entries : List Fact) : Type 0 where
  pub total : sum ≡ reads.queued_in_all entries
  pub epoch : last ≡ reads.epoch entries
  pub leased : held ≡ is_held entries

-- neither number is above the length
pub record AreSmall (sum last size : ℕ) : Type 0 where
  pub total : sum ≤ size
  pub epoch : last ≤ size

pub record IsKept (script : Script) (p : ℕ) (items : List QueueEntry) (names : List (List ℕ)) (commands : List (List Command)) (sent seen : List ℕ) (sum last : ℕ) (held : Bool) (free capacity : ℕ) : Type 0 where
  pub list : IsList script p (map (queue_fact p) items)
  pub producer : is_producer script p ≡ true
  pub ordered : AreOrdered script names
  pub named : AreNamed names (sends script p)
  pub sized : AreSized names commands sent seen
  pub plans : ArePlans names commands (sends script p)
  pub queued : CountsQueued names sent (map (queue_fact p) items)
  pub confirmed : CountsConfirmed names seen (map (queue_fact p) items)
  pub sums : AreSums sum last held (map (queue_fact p) items)
  pub small : AreSmall sum last (length items)
  pub room : length items + free ≤ capacity
  pub few : length items + free < 2 ^ 32
