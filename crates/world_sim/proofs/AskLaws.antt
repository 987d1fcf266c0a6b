-- Orders that give one node one input: from what the input's step did to what the order's did.
use Rattle.std.proofs.Common.{◌≡◌, ℕ, ◌-◌, ◌≤◌, List, refl, ap, arith}
use Rattle.std.specs.Prelude.{true, Option, Some, None, is_none, is_some, Result, if◌then◌else◌}
use Rattle.std.specs.Option.{option_map}
use Rattle.yard_model.specs.declared.fact.Fact.{Fact}
use Rattle.yard_model.specs.declared.charter.Order.{Order}
use Rattle.yard_model.specs.declared.charter.Order.TheVariants as order
use Rattle.yard_model.specs.declared.incarnation.Keep.{Keep}
use Rattle.yard_model.specs.declared.incarnation.Slot.TheVariants as slot
use Rattle.yard_model.specs.declared.input.Input.{Input}
use Rattle.yard_model.specs.declared.input.Input.TheVariants as input
use Rattle.yard_model.specs.Coordinator.{Coordinator}
use Rattle.yard_model.specs.Producer.{Producer}
use Rattle.yard_model.specs.Genuine.{is_producer, is_brought}
use Rattle.yard_model.specs.Node.{Node}
use Rattle.yard_model.specs.Words.{at}
use Rattle.yard_model.specs.World as world
use Rattle.yard_model.specs.World.{World, Step, node_at}
use Rattle.world_sim.specs.declared.seek.Sought.TheVariants as sought
use Rattle.world_sim.specs.Stepped.{Stepped}
use Rattle.world_sim.specs.Steps.{asked}
use Rattle.world_sim.specs.Yard.{Yard, IsSound, MayAsk}
use Rattle.world_sim.proofs.SeekLaws.{IsFoundIn, found_may, up_asked, holder_found, active_found}
use Rattle.world_sim.proofs.StepLaws.{step_as}

-- what is asked so that it is the order
abbrev pub Fits : Yard → Option ℕ → Input → Order → Type 0
Fits y to i o = (w : World) → IsSound y w → MayAsk i to y w × (asked to i w ≡ world.play o w)

pub asks : {E : Type 0} (y new : Yard) (to : Option ℕ) (i : Input) (o : Order) (r : Result (Unit {0}) E) (before after : List Fact) → Fits y to i o → Stepped (MayAsk i to) 0 (asked to i) r y new before after → Stepped IsSound 0 (world.play o) r y new before after
asks y new to i o r before after fits s = step_as (MayAsk i to) IsSound 0 0 (asked to i) (world.play o) r y new before after (omega arith) fits s

-- Nodes by their numbers.

abbrev pub IsWhereUp : Yard → ℕ → Option ℕ → Type 0
IsWhereUp y n to = to ≡ (if is_none (at y.nodes (n - 1)) then None else Some n)

pub leave_fits : (y : Yard) (n : ℕ) (to : Option ℕ) → 1 ≤ n → IsWhereUp y n to → Fits y to input.Leave (order.Leave n)
leave_fits y n to some e = λ w s. up_asked y w n input.Leave to s some e (λ st. record { addressed = tt; may = tt })

pub tick_fits : (y : Yard) (n : ℕ) (to : Option ℕ) → 1 ≤ n → IsWhereUp y n to → Fits y to input.Tick (order.Tick n)
tick_fits y n to some e = λ w s. up_asked y w n input.Tick to s some e (λ st. record { addressed = tt; may = tt })

-- Holders.

some_mapped : {A B : Type 0} (f : A → B) (o : Option A) → is_some o ≡ is_some (option_map f o)
some_mapped f None = refl
some_mapped f (Some x) = refl

pub holds_queue : (p : ℕ) (st : Node) → is_some (at st.producers (p - 1)) ≡ is_some (option_map (λ (k : Producer). k.entries) (at st.producers (p - 1)))
holds_queue p st = some_mapped (λ (k : Producer). k.entries) (at st.producers (p - 1))

pub rest_fits : (y : Yard) (p : ℕ) (to : Option ℕ) → is_producer y.script p ≡ true → IsFoundIn (sought.Queue p) y to → Fits y to (input.Rest p) (order.Rest p)
rest_fits y p to producer f = λ w s. (
  found_may (sought.Queue p) y w to (input.Rest p) s f (λ st. record { addressed = tt; may = producer }),
  ap (λ o. world.give_or (input.Rest p) o world.nothing w) (holder_found (sought.Queue p) (slot.Queue p) y w to s (holds_queue p) producer f),
)

pub rebalance_fits : (y : Yard) (n : ℕ) (to : Option ℕ) → IsFoundIn sought.Coordinator y to → Fits y to (input.Rebalance n) (order.Rebalance n)
rebalance_fits y n to f = λ w s. (
  found_may sought.Coordinator y w to (input.Rebalance n) s f (λ st. record { addressed = tt; may = tt }),
  ap (λ o. world.give_or (input.Rebalance n) o world.nothing w) (holder_found sought.Coordinator slot.Coordinator y w to s (λ st. some_mapped (λ (k : Coordinator). k.entries) st.coordinator) refl f),
)

-- Entities.

pub passivate_fits : (y : Yard) (e : List ℕ) (to : Option ℕ) → is_brought y.script e ≡ true → IsFoundIn (sought.Active e) y to → Fits y to (input.Passivate e) (order.Passivate e)
passivate_fits y e to brought f = λ w s. (
  found_may (sought.Active e) y w to (input.Passivate e) s f (λ st. record { addressed = tt; may = brought }),
  ap (λ o. world.give_or (input.Passivate e) o world.nothing w) (active_found e y w to s f),
)

pub fail_fits : (y : Yard) (e : List ℕ) (k : Keep) (to : Option ℕ) → is_brought y.script e ≡ true → IsFoundIn (sought.Active e) y to → Fits y to (input.FailWrite e k) (order.FailWrite e k)
fail_fits y e k to brought f = λ w s. (
  found_may (sought.Active e) y w to (input.FailWrite e k) s f (λ st. record { addressed = tt; may = brought }),
  ap (λ o. world.give_or (input.FailWrite e k) o world.nothing w) (active_found e y w to s f),
)
