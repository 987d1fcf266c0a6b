-- The coordinator's rules take no store.
use Rattle.std.proofs.Common.{◌≡◌, ℕ, [], true, refl}
use Rattle.std.specs.Prelude.{List, None}
use Rattle.std.specs.List.{list_all}
use Rattle.yard_model.specs.declared.incarnation.Incarnation.{Incarnation}
use Rattle.yard_model.specs.declared.incarnation.Slot.TheVariants as slot
use Rattle.yard_model.specs.declared.packet.Body.{Body}
use Rattle.yard_model.specs.Coordinator.{coordinate, rebalance, registered, terminate_lost, tick_coordinator}
use Rattle.yard_model.specs.Script.{Script}
use Rattle.plain_laws.proofs.Booleans.{all_of}
use Rattle.shard_lease.specs.Meaning.{Meaning}
use Rattle.node_core.specs.Found.{asks}
use Rattle.node_core.proofs.StepLaws.{TakesNone}
use Rattle.node_core.proofs.StillOffice.{coordinate_still, lost_still, rebalance_still, office_tick_still, office_moved}

-- leases for which everything goes
any_leases : Script → Meaning
any_leases c = record {
  name = [];
  script = c;
  within = λ n. true;
  serves = λ x. true;
  admits = λ n s. true;
  holds = λ n s. true;
  told = λ s. [];
  seen = λ s. [];
  vouches = λ e p n. true;
  tells = λ s. None;
  claims = 0;
  found = 0;
}

all_within : (c : Script) (rs : List Incarnation) → list_all (λ r. (any_leases c).within r.number) rs ≡ true
unfolding any_leases
all_within c rs = all_of (λ r. true) (λ r. refl) rs

within_is : (c : Script) (n : ℕ) → (any_leases c).within n ≡ true
unfolding any_leases
within_is c n = refl

pub takes_coordinate : (c : Script) (from : Incarnation) (b : Body) (view : List Incarnation) → TakesNone (coordinate from b view)
takes_coordinate c from b view st k = office_moved c (any_leases c) (asks slot.Coordinator) st k (coordinate from b view k) (coordinate_still c (any_leases c) from b view k (within_is c from.number) (all_within c (registered k)))

pub takes_rebalance : (c : Script) (limit : ℕ) → TakesNone (rebalance limit)
takes_rebalance c limit st k = office_moved c (any_leases c) (asks slot.Coordinator) st k (rebalance limit k) (rebalance_still c (any_leases c) limit k)

pub takes_drop_lost : (c : Script) (view : List Incarnation) → TakesNone (terminate_lost view)
takes_drop_lost c view st k = office_moved c (any_leases c) (asks slot.Coordinator) st k (terminate_lost view k) (lost_still c (any_leases c) view k (all_within c (registered k)))

pub takes_tick : (c : Script) → TakesNone tick_coordinator
takes_tick c st k = office_moved c (any_leases c) (asks slot.Coordinator) st k (tick_coordinator k) (office_tick_still c (any_leases c) k)
