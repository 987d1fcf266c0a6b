-- What holds at the start of a slot's list and is kept by each entry holds of a list that is lawful by itself.
use Rattle.std.proofs.Common.{◌≡◌, ℕ, sym, refl, subst}
use Rattle.std.specs.Prelude.{Bool, true, false, ◌||◌, List, [], ◌∷◌, ◌++◌}
use Rattle.yard_model.specs.declared.fact.Fact.{Fact}
use Rattle.yard_model.specs.declared.fact.Fact.TheVariants as fact
use Rattle.yard_model.specs.declared.incarnation.Slot.{Slot}
use Rattle.yard_model.specs.declared.incarnation.Slot.TheVariants as slot
use Rattle.yard_model.specs.Behaviour.{is_in}
use Rattle.yard_model.specs.Follow.{each_follows}
use Rattle.yard_model.specs.Lawful.{is_leased, is_entry, is_shard_entry, is_coordinator_entry, may_follow, may_be_brought, may_be_before, may_open, is_opening, own}
use Rattle.yard_model.specs.Opening.{begins, Parts, parts_of}
use Rattle.yard_model.specs.Script.{Script, with_shards}
use Rattle.yard_model.specs.SlotReads.{epoch}
use Rattle.yard_model.proofs.FollowLaws.{parts_whole}
use Rattle.plain_laws.proofs.Booleans.{true_is_not_false, and_both}
use Rattle.yard_laws.proofs.Follows.{follows_to}

pub own_to : (c : Script) (s : Slot) (P : List Fact → Type 0) → P [] → ((k : ℕ) (list : List Fact) (f : Fact) → P list → may_open c s k list f ≡ true → P (list ++ f ∷ []))
    → ((list : List Fact) (f : Fact) → P list → may_follow c s list f ≡ true → P (list ++ f ∷ [])) → (list : List Fact) → own c s list ≡ true → P list
own_to c s P none opens follows list o =
    let p : Parts = parts_of list in
    let m : (is_opening c s p.opening ≡ true) × (each_follows (may_follow c s) p.opening p.since ≡ true) = and_both (is_opening c s p.opening) (each_follows (may_follow c s) p.opening p.since) o in
    let opened : P p.opening = follows_to (may_open c s (epoch p.opening)) P (opens (epoch p.opening)) [] p.opening none m.0 in
    subst P (parts_whole list) (follows_to (may_follow c s) P follows p.opening p.since opened m.1)

either : (a b : Bool) → b ≡ true → (a || b) ≡ true
either true b e = refl
either false b e = e

-- Shards.

brought : (c : Script) (s k : ℕ) (list : List Fact) (f : Fact) → may_be_brought c s k list f ≡ true → (begins f || is_shard_entry c s list f) ≡ true
brought c s k list (fact.Granted t n x) m = absurd (true_is_not_false (sym m))
brought c s k list (fact.Freed t n why) m = absurd (true_is_not_false (sym m))
brought c s k list (fact.Wrote e r) m = (and_both (is_in 1 k r.epoch) (is_shard_entry c s list (fact.Wrote e r)) m).1
brought c s k list (fact.Resharded t n j) m = refl
brought c s k list (fact.Reshard n j) m = refl
brought c s k list f m = m

-- of a shard: each entry is one of the shard's, or begins the list anew
pub shard_to : (c : Script) (s : ℕ) (P : List Fact → Type 0) → P [] → ((list : List Fact) (f : Fact) → P list → (begins f || is_shard_entry c s list f) ≡ true → P (list ++ f ∷ []))
    → (list : List Fact) → own c (slot.Shard s) list ≡ true → P list
shard_to c s P none step list o =
    own_to c (slot.Shard s) P none (λ k l f p m. step l f p (brought c s k l f m))
    (λ l f p m. step l f p (either (begins f) (is_shard_entry c s l f) (and_both (is_leased l f) (is_entry c (slot.Shard s) l f) m).1)) list o

-- The coordinator.

before : (c : Script) (list : List Fact) (f : Fact) → may_be_before c list f ≡ true → (begins f || is_coordinator_entry (with_shards 128 c) list f) ≡ true
before c list (fact.Reshard n k) m = refl
before c list f m = either (begins f) (is_coordinator_entry (with_shards 128 c) list f) (and_both (is_leased list f) (is_entry (with_shards 128 c) slot.Coordinator list f) m).1

-- of the coordinator: each entry is one of the coordinator's, of so many shards, or begins the list anew
pub coordinator_to : (c : Script) (P : List Fact → Type 0) → P [] → ((n : ℕ) (list : List Fact) (f : Fact) → P list → (begins f || is_coordinator_entry (with_shards n c) list f) ≡ true → P (list ++ f ∷ []))
    → (list : List Fact) → own c slot.Coordinator list ≡ true → P list
coordinator_to c P none step list o =
    own_to c slot.Coordinator P none (λ k l f p m. step 128 l f p (before c l f m))
    (λ l f p m. step c.config.shards l f p (either (begins f) (is_coordinator_entry c l f) (and_both (is_leased l f) (is_entry c slot.Coordinator l f) m).1)) list o

-- Queues: none begins anew.

pub queue_to : (c : Script) (p : ℕ) (P : List Fact → Type 0) → P [] → ((list : List Fact) (f : Fact) → P list → may_follow c (slot.Queue p) list f ≡ true → P (list ++ f ∷ [])) → (list : List Fact) → own c (slot.Queue p) list ≡ true → P list
queue_to c p P none step list o = own_to c (slot.Queue p) P none (λ k l f h m. absurd (true_is_not_false (sym m))) step list o
