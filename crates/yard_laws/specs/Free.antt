-- Facts that say nothing of slots, of who is live, nor of the version: they are guarded wherever they stand. A region tells no others.
use Rattle.std.specs.Prelude.{◌≡◌, ℕ, Bool, true, false, List, [], ◌∷◌, ◌++◌, IsTrue}
use Rattle.std.specs.List.{list_all}
use Rattle.yard_model.specs.declared.fact.Fact.{Fact}
use Rattle.yard_model.specs.declared.fact.Fact.TheVariants as fact
use Rattle.yard_model.specs.declared.out.Item.{Item}
use Rattle.yard_model.specs.declared.out.Item.TheVariants as item
use Rattle.yard_model.specs.declared.packet.Message.{Message}
use Rattle.yard_model.specs.declared.incarnation.Incarnation.{Incarnation}
use Rattle.yard_model.specs.declared.incarnation.Stamp.{Stamp}
use Rattle.yard_model.specs.Script.{Script, setting}
use Rattle.yard_model.specs.Trace.{lists_of}
use Rattle.yard_model.specs.Era.{version_in}
use Rattle.yard_model.specs.Safe.{live_at}
use Rattle.yard_model.specs.Guards.{guard}
use Rattle.yard_model.specs.Move.{Move, made}
use Rattle.yard_model.specs.Region as region
use Rattle.yard_model.specs.Region.{Region}

-- it is no entry of a slot's list, and no word on an entity that is live
abbrev pub is_free : Fact → Bool
is_free (fact.At n) = true
is_free fact.Nothing = true
is_free fact.WireFull = true
is_free fact.Settled = true
is_free (fact.Up x) = true
is_free (fact.View x v) = true
is_free (fact.Sent k p) = true
is_free (fact.Got k) = true
is_free (fact.Held s x n) = true
is_free (fact.Moving s stamp) = true
is_free (fact.Home x s h) = true
is_free (fact.Forget x s) = true
is_free (fact.Kept x m) = true
is_free (fact.Dropped x m) = true
is_free (fact.Stashed x m) = true
is_free (fact.Armed e k) = true
is_free (fact.Waits p e k) = true
is_free (fact.SentAsk k x) = true
is_free (fact.SentJob k x e) = true
is_free (fact.SentDone k x e) = true
is_free (fact.Given e x) = true
is_free (fact.Did x e) = true
is_free f = false

abbrev pub is_free_item : Item → Bool
is_free_item (item.Fact f) = is_free f
is_free_item (item.Post p) = true

-- it tells no fact that isn't free
abbrev pub is_free_move : Move → Bool
is_free_move (made i) = is_free_item i
is_free_move m = true

-- such a fact is guarded after any trace
abbrev pub FreeIsGuarded : Type 0
FreeIsGuarded = (c : Script) (trace : List Fact) (f : Fact) → IsTrue (is_free f) → IsTrue (guard c trace f)

-- it changes no list
abbrev pub FreeLeavesLists : Type 0
FreeLeavesLists = (c : Script) (trace : List Fact) (f : Fact) → IsTrue (is_free f) → lists_of (setting c) (trace ++ f ∷ []) ≡ lists_of (setting c) trace

-- and nothing of who is live
abbrev pub FreeLeavesLive : Type 0
FreeLeavesLive = (e : List ℕ) (trace : List Fact) (f : Fact) → IsTrue (is_free f) → live_at e (trace ++ f ∷ []) ≡ live_at e trace

-- nor of the version of behaviours
abbrev pub FreeLeavesVersion : Type 0
FreeLeavesVersion = (trace : List Fact) (f : Fact) → IsTrue (is_free f) → version_in (trace ++ f ∷ []) ≡ version_in trace

-- all that a region's rules give is free
pub record IsRegionFree (st : Region) : Type 0 where
  pub routed : (m : Message) → IsTrue (list_all is_free_move (region.route_away m st))
  pub registers : IsTrue (list_all is_free_move (region.register st))
  pub registered : (from : Incarnation) → IsTrue (list_all is_free_move (region.registered_by from st))
  pub viewed : (v : ℕ) (xs : List Incarnation) → IsTrue (list_all is_free_move (region.take_view v xs st))
  pub leaves : IsTrue (list_all is_free_move (region.leave st))
  pub learnt : (s : ℕ) (h : Incarnation) (stamp : Stamp) → IsTrue (list_all is_free_move (region.learn s h stamp st))
  pub handed : (s : ℕ) (stamp : Stamp) (from : Incarnation) → IsTrue (list_all is_free_move (region.begin_hand_off s stamp from st))
  pub ticked : IsTrue (list_all is_free_move (region.tick_region st))

abbrev pub RegionIsFree : Type 0
RegionIsFree = (st : Region) → IsRegionFree st
