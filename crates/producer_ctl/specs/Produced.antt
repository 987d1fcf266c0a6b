-- A producer as it is kept, and what moves make of it.
use Rattle.std.specs.Prelude.{◌≡◌, ℕ, ◌+◌, ◌<◌, ◌≤◌, ◌-◌, Bool, nat_lt, List, [], ◌∷◌, ◌++◌, length, map, fold, slice_index_or, Some}
use Rattle.std.specs.List.Sorted.{IsStrictlySortedBy}
use Rattle.std.specs.Ordering.{nat_cmp}
use Rattle.std.specs.Cmp.Lexicographic.{slice_cmp}
use Rattle.yard_model.specs.declared.fact.Fact.TheVariants as fact
use Rattle.yard_model.specs.declared.incarnation.Incarnation.{Incarnation}
use Rattle.yard_model.specs.declared.charter.Sending.{Sending}
use Rattle.yard_model.specs.declared.out.Item.{Item}
use Rattle.yard_model.specs.declared.out.Item.TheVariants as item
use Rattle.yard_model.specs.Move.{Move, made, demanded, pushed}
use Rattle.yard_model.specs.Producer.{Producer, no_progress, producer_after, progress, queue, confirm, push_marks, to_push, to_resend, to_repeat}
use Rattle.yard_model.specs.Script.{Script, setting}
use Rattle.yard_model.specs.SlotReads.{queued, confirmed, holder}
use Rattle.yard_model.specs.Spared.{Spared}
use Rattle.durable_queue.specs.Queue.{Queue}
use Rattle.send_window.specs.declared.pair.Pair.{Pair}
use Rattle.producer_ctl.specs.Paired.{IsPair, name_at, no_pair, progress_of}

pub record Produced : Type 0 where
  pub script : Script  -- that it was made for; its setting is the state's
  pub state : Producer
  pub room : ℕ  -- how many more entries are appended with no memory taken

-- What moves make of it, and of what was told before.

-- an entry more takes one of the room; with its end there is none
abbrev pub room_step : ℕ → Move → ℕ
room_step old (made (item.Fact (fact.Queued p e n k))) = old - 1
room_step old (made (item.Fact (fact.Confirmed p e n))) = old - 1
room_step old (made (item.Fact (fact.Freed s n why))) = 0
room_step old m = old

abbrev pub produced_after : Produced → Move → Produced
produced_after v m = record { script = v.script; state = producer_after v.state m; room = room_step v.room m }

abbrev pub moved : Produced → List Move → Produced
moved v ms = fold produced_after v ms

abbrev pub given_step : Spared Item → Move → Spared Item
given_step old (made i) = record { items = old.items ++ i ∷ []; spare = old.spare - 1 }
given_step old m = old

abbrev pub given : Spared Item → List Move → Spared Item
given old ms = fold given_step old ms

-- What an input makes of a producer: its moves, and then the numbers to an entity that are routed.
pub record Gives : Type 0 where
  pub moves : List Move
  pub entity : List ℕ
  pub numbers : List ℕ

-- some moves, and then what follows
abbrev pub and_then : (Producer → List Move) → (Producer → Gives) → Producer → Gives
and_then p q st = let k : Gives = q (fold producer_after st (p st)) in record { moves = p st ++ k.moves; entity = k.entity; numbers = k.numbers }

-- Push
abbrev pub pushing : List ℕ → Producer → Gives
pushing e st = record { moves = push_marks e st; entity = e; numbers = to_push e st }

-- Send: the next of the sends is queued; Push of its pair
abbrev pub queueing : Sending → Producer → Gives
queueing x = and_then (queue x) (pushing x.entity)

-- Request: Confirm; the demand; Push
abbrev pub asking : List ℕ → ℕ → ℕ → Producer → Gives
asking e n u = and_then (confirm e n) (and_then (λ st. demanded e u ∷ []) (pushing e))

-- Ack: Confirm; Push
abbrev pub acking : List ℕ → ℕ → Producer → Gives
acking e n = and_then (confirm e n) (pushing e)

-- Resend
abbrev pub resending : List ℕ → ℕ → Producer → Gives
resending e f st = record { moves = []; entity = e; numbers = to_resend e f st }

-- the tick, of one pair
abbrev pub repeating : List ℕ → Producer → Gives
repeating e st = record { moves = map (pushed e) (to_repeat e st); entity = e; numbers = to_repeat e st }

-- How it is kept.

-- the queue of this producer, leased to this node; of each name, what is kept
pub record IsProduced (who : Incarnation) (number : ℕ) (store : Queue) (pairs : List Pair) : Type 0 where
  pub number_is : store.producer ≡ number
  pub leased : holder store.entries ≡ Some who
  pub sorted : IsStrictlySortedBy (slice_cmp nat_cmp) (setting store.script).names
  pub there : length pairs ≡ length (setting store.script).names
  pub each : (i : ℕ) → i < length (setting store.script).names → IsPair store.script.config.window (name_at (setting store.script).names i) store.entries (slice_index_or pairs i no_pair)

abbrev pub produced : Incarnation → ℕ → Queue → List Pair → Produced
produced who number store pairs = record {
  script = store.script;
  state = record { who = who; set = setting store.script; number = number; entries = store.entries; pairs = map progress_of pairs };
  room = store.spare;
}

-- a command to the entity is queued that isn't confirmed
abbrev pub waits_to : List ℕ → Producer → Bool
waits_to e st = nat_lt (confirmed e st.entries) (queued e st.entries)

-- what is kept of an entity
pub record IsPairOf (v : Produced) (e : List ℕ) (k : Pair) : Type 0 where
  pub pair_is : IsPair v.script.config.window e v.state.entries k
  pub progress_is : progress v.state e ≡ progress_of k

-- the store of its queue
pub record IsStoreOf (v : Produced) (x : Queue) : Type 0 where
  pub script_is : x.script ≡ v.script
  pub producer_is : x.producer ≡ v.state.number
  pub entries_are : x.entries ≡ v.state.entries
  pub room_is : x.spare ≡ v.room
  pub leased : holder x.entries ≡ Some v.state.who

-- what stands of it: no demand is above the confirmed number and the window
pub record StandsAs (v : Produced) : Type 0 where
  pub set_is : v.state.set ≡ setting v.script
  pub leased : holder v.state.entries ≡ Some v.state.who
  pub pairs_full : length v.state.pairs ≡ length (setting v.script).names
  pub bounded : (i : ℕ) → i < length (setting v.script).names → (slice_index_or v.state.pairs i no_progress).demand ≤ confirmed (name_at (setting v.script).names i) v.state.entries + v.script.config.window
