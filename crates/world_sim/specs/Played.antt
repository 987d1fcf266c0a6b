-- The world after some of a script's orders, and what one more order does.
use Rattle.std.specs.Prelude.{◌≡◌, ℕ, zero, suc, ◌+◌, Bool, true, false, List, [], ◌++◌, map, take, length, fold, slice_get, Option, Some, None, Result, Ok, Err, IfNone, IfSome, IsTrue}
use Rattle.std.specs.List.{list_all}
use Rattle.yard_model.specs.declared.fact.Fact.{Fact}
use Rattle.yard_model.specs.declared.fact.Fact.TheVariants as fact
use Rattle.yard_model.specs.declared.charter.Line.{Line}
use Rattle.yard_model.specs.declared.charter.Order.TheVariants as order
use Rattle.yard_model.specs.declared.incarnation.Cause.TheVariants as cause
use Rattle.yard_model.specs.declared.incarnation.Slot.{Slot}
use Rattle.yard_model.specs.Era.{era_of}
use Rattle.yard_model.specs.Safe.{safe}
use Rattle.yard_model.specs.Script.{Script, IsScript, setting}
use Rattle.yard_model.specs.Settled.{settled}
use Rattle.yard_model.specs.SlotLists.{SlotLists}
use Rattle.yard_model.specs.Genuine.{is_slot_of}
use Rattle.yard_model.specs.Queries.{known}
use Rattle.yard_model.specs.Lawful.{own, is_held, lawful}
use Rattle.yard_model.specs.Trace.{list_at, lists_step}
use Rattle.yard_model.specs.World.{World, Made, all_sends, given_world, new_world, play_line, played, settled_from, in_order, tell, wire_limit}
use Rattle.query_laws.specs.Known.{are_numbered, AreAlike}
use Rattle.settle_laws.specs.Lonely.{IsLonger}
use Rattle.settle_laws.specs.Settles.{EndsSettled, IsUnheld, StoresEnd}
use Rattle.world_sim.specs.Given.{Given}
use Rattle.world_sim.specs.Mail.{ToldSome}
use Rattle.world_sim.specs.declared.fault.StepFault.{StepFault}
use Rattle.world_sim.specs.declared.fault.StepFault.TheVariants as fault

pub record Played : Type 0 where
  pub script : Script
  pub given : Option Given  -- what it began with, if those were given stores
  pub count : ℕ  -- how many of its orders were played; of given stores, whether they were settled: 1, or 0
  pub fault : Option StepFault  -- what ended it, if it is spent

-- the facts of the first orders, and the world after them
abbrev pub made_of : Script → ℕ → Made
made_of c n = in_order (map play_line (take n c.orders)) (new_world c wire_limit)

-- the facts told so far, and the world after them: by orders, or by the settle of what was given
abbrev pub made_by : Script → Option Given → ℕ → Made
made_by c None n = made_of c n
made_by c (Some g) zero = tell [] (given_world c g.version g.lists)
made_by c (Some g) (suc n) = settled_from c g.version g.lists

abbrev pub made_at : Played → Made
made_at w = made_by w.script w.given w.count

-- what the next order makes
abbrev pub next_of : Script → ℕ → Line → Made
next_of c n l = play_line l (made_of c n).world

-- a step that wasn't spent before and found memory: the order's facts were told
pub record Told (old : Played) (l : Line) (before after : List Fact) : Type 0 where
  pub fresh_is : old.fault ≡ None
  pub facts_are : after ≡ before ++ (next_of old.script old.count l).facts

-- one order more was played, and the trace goes on
pub record Went (old : Played) (l : Line) (before : List Fact) (new : Played) (after : List Fact) : Type 0 where
  pub told_is : Told old l before after
  pub going_is : (next_of old.script old.count l).world.full ≡ false
  pub new_is : new ≡ record { script = old.script; given = old.given; count = old.count + 1; fault = None }

-- the order posted a packet past the limit, and the trace stops with it
pub record Filled (old : Played) (l : Line) (before : List Fact) (new : Played) (after : List Fact) : Type 0 where
  pub told_is : Told old l before after
  pub full_is : (next_of old.script old.count l).world.full ≡ true
  pub new_is : new ≡ record { script = old.script; given = old.given; count = old.count + 1; fault = Some fault.WireFull }

-- memory ran out, and the order is cut short: a beginning of its facts was told
pub record CutShort (old : Played) (l : Line) (before : List Fact) (new : Played) (after : List Fact) : Type 0 where
  pub fresh_is : old.fault ≡ None
  pub told_some : ToldSome before after (next_of old.script old.count l).facts
  pub new_is : new ≡ record { script = old.script; given = old.given; count = old.count; fault = Some fault.OutOfMemory }

-- what an answer says where the world wasn't spent
abbrev pub Answers : Played → Line → List Fact → Result (Unit {0}) StepFault → Played → List Fact → Type 0
Answers old l before (Ok u) new after = Went old l before new after
Answers old l before (Err fault.WireFull) new after = Filled old l before new after
Answers old l before (Err fault.OutOfMemory) new after = CutShort old l before new after

-- a spent world answers what ended it, and nothing changes
pub record Spent (old : Played) (f : StepFault) (before : List Fact) (r : Result (Unit {0}) StepFault) (new : Played) (after : List Fact) : Type 0 where
  pub answer_is : r ≡ Err f
  pub new_is : new ≡ old
  pub facts_are : after ≡ before

abbrev pub Steps : Played → Line → List Fact → Result (Unit {0}) StepFault → Played → List Fact → Type 0
Steps old l before r new after = (IfNone old.fault (Answers old l before r new after)) × (IfSome old.fault (λ f. Spent old f before r new after))

-- a settle line leaves all settled that was sent so far
abbrev pub LineSettles : Played → Line → Type 0
LineSettles old l = l.order ≡ order.Settle → EndsSettled (era_of old.script (made_of old.script old.count).facts).script (made_of old.script old.count).world (next_of old.script old.count l)

-- The settle of what was given.

-- it was told whole, and all is settled
pub record WasSettled (old : Played) (g : Given) (before : List Fact) (new : Played) (after : List Fact) : Type 0 where
  pub ends : StoresEnd old.script g.version g.lists
  pub facts_are : after ≡ before ++ (settled_from old.script g.version g.lists).facts
  pub new_is : new ≡ record { script = old.script; given = old.given; count = 1; fault = None }

-- memory ran out: a beginning of its facts was told, and the world is spent
pub record WasCut (old : Played) (g : Given) (before : List Fact) (new : Played) (after : List Fact) : Type 0 where
  pub told_some : ToldSome before after (settled_from old.script g.version g.lists).facts
  pub new_is : new ≡ record { script = old.script; given = old.given; count = old.count; fault = Some fault.OutOfMemory }

abbrev pub Settling : {E : Type 0} → Played → Given → List Fact → Result (Unit {0}) E → Played → List Fact → Type 0
Settling old g before (Ok u) new after = WasSettled old g before new after
Settling old g before (Err e) new after = WasCut old g before new after

-- given lists went on to these, which are lawful and unheld, and in which every send is settled
pub record AreSettled (c : Script) (given : SlotLists) (lists : SlotLists) : Type 0 where
  pub settled_is : IsTrue (settled c (all_sends c) lists)
  pub lawful_is : IsTrue (lawful c lists)
  pub unheld : IsUnheld c lists
  pub longer : IsLonger given lists

-- a slot is freed since its node stopped
abbrev pub is_freed : Fact → Bool
is_freed (fact.Freed s n cause.Stopped) = true
is_freed f = false

-- these lists are those of the world, with entries more that free slots
pub record FreesSome (c : Script) (lists : SlotLists) (new : SlotLists) : Type 0 where
  pub freed : List Fact
  pub all_freed : IsTrue (list_all is_freed freed)
  pub lists_are : new ≡ fold (lists_step (setting c)) lists freed

-- and each is lawful by itself and held by nobody: so those have the one entry more that were held, and no other
pub record AreFreed (c : Script) (lists : SlotLists) (new : SlotLists) : Type 0 where
  pub some_are : FreesSome c lists new
  pub own_are : (s : Slot) → IsTrue (is_slot_of c s) → IsTrue (own c s (list_at new s))
  pub free_are : (s : Slot) → IsTrue (is_slot_of c s) → is_held (list_at new s) ≡ false

-- Laws of the worlds after orders.

-- none are played at first
abbrev pub MadeNone : Type 0
MadeNone = (c : Script) → made_of c 0 ≡ record { facts = []; world = new_world c wire_limit }

-- one order more, where the trace goes on
abbrev pub MadeNext : Type 0
MadeNext = (c : Script) (n : ℕ) (l : Line) → slice_get c.orders n ≡ Some l → (made_of c n).world.full ≡ false
    → made_of c (n + 1) ≡ record { facts = (made_of c n).facts ++ (next_of c n l).facts; world = (next_of c n l).world }

-- a trace that has stopped stays
abbrev pub MadeFull : Type 0
MadeFull = (c : Script) (n : ℕ) → (made_of c n).world.full ≡ true → played c wire_limit ≡ made_of c n

-- all orders
abbrev pub MadeAll : Type 0
MadeAll = (c : Script) → made_of c (length c.orders) ≡ played c wire_limit

-- what any number of orders told is safe at each prefix
abbrev pub MadeSafe : Type 0
MadeSafe = (c : Script) (n : ℕ) → IsScript c → IsTrue (safe c (made_of c n).facts)

-- the world that the queries answer of the facts of the first orders
abbrev pub known_of : Script → ℕ → World
known_of c n = (known c.orders (new_world c wire_limit) (made_of c n).facts).world

-- after so many orders of lines with different numbers every word of the world but those of nodes is what the queries answer of the facts told so far; and every word of each node too, where the wire isn't full then
abbrev pub IsKnown : Script → ℕ → Type 0
IsKnown c n = are_numbered c ≡ true → AreAlike (known_of c n) (made_of c n).world × ((made_of c n).world.full ≡ false → known_of c n ≡ (made_of c n).world)

-- so it is after any number of orders
abbrev pub MadeKnown : Type 0
MadeKnown = (c : Script) (n : ℕ) → IsScript c → IsKnown c n
