-- What an object that gives out leases means to those who ask it.
use Rattle.std.specs.Prelude.{◌≡◌, ◌≢◌, ℕ, ◌+◌, ◌≤◌, ◌⊎◌, Bool, true, false, ◌==◌, ◌&&◌, List, [], ◌∷◌, ◌++◌, Option, Some, None, MatchOption}
use Rattle.std.specs.List.{list_all, list_any}
use Rattle.yard_model.specs.declared.fact.Fact.{Fact}
use Rattle.yard_model.specs.declared.fact.Fact.TheVariants as fact
use Rattle.yard_model.specs.declared.incarnation.Cause.{Cause}
use Rattle.yard_model.specs.declared.incarnation.Incarnation.{Incarnation}
use Rattle.yard_model.specs.declared.incarnation.Slot.{Slot}
use Rattle.yard_model.specs.Behaviour.{is_in}
use Rattle.yard_model.specs.Genuine.{is_node, is_slot_of}
use Rattle.yard_model.specs.Lawful.{own, is_held}
use Rattle.yard_model.specs.Script.{Script, is_name}
use Rattle.yard_model.specs.SlotReads.{epoch}
use Rattle.shard_store.specs.declared.store.Store.{Store}
use Rattle.shard_store.specs.Stores.{script_of, slot_of, entries_of, spare_of}
use Rattle.shard_lease.specs.declared.leases.Acquire.{Acquire}
use Rattle.shard_lease.specs.declared.leases.Acquire.TheVariants as answer

-- what is known of a slot: its holder, and its list where it has none
pub record Known : Type 0 where
  pub holder : Option Incarnation
  pub list : List Fact

pub record Meaning : Type 0 where
  pub name : List ℕ  -- which object it is
  pub script : Script  -- of its stores
  pub within : ℕ → Bool  -- the numbers of incarnations that it takes
  pub serves : Incarnation → Bool
  pub admits : ℕ → Slot → Bool  -- the node may hold the slot
  pub holds : ℕ → Slot → Bool  -- the node's number holds the slot
  pub told : Slot → List Fact  -- a list that the one last handed out or published extends
  pub seen : Slot → List Fact  -- a beginning of its list that it has seen
  pub vouches : List ℕ → ℕ → ℕ → Bool  -- it has seen the record of this entity, producer and place
  pub tells : Slot → Option Known  -- what it can tell of the slot
  pub claims : ℕ  -- how many claims it has made, where it can't tell
  pub found : ℕ  -- the node that its last claim found to hold the slot, 0 where the claim won

-- it serves this incarnation at this slot
pub record Serves (m : Meaning) (who : Incarnation) (s : Slot) : Type 0 where
  pub who_is : m.serves who ≡ true
  pub node_is : is_node m.script who ≡ true
  pub number_is : m.within who.number ≡ true
  pub slot_is : is_slot_of m.script s ≡ true
  pub admitted : m.admits who.node s ≡ true

-- this list begins with that
pub record Begins (first whole : List Fact) : Type 0 where
  pub rest : List Fact
  pub is : whole ≡ first ++ rest

-- no call changes these, none takes back what it vouches for, and what it has seen of a list grows
pub record Stays (old new : Meaning) : Type 0 where
  pub name_is : new.name ≡ old.name
  pub script_is : new.script ≡ old.script
  pub within_is : (n : ℕ) → new.within n ≡ old.within n
  pub serves_is : (x : Incarnation) → new.serves x ≡ old.serves x
  pub admits_is : (n : ℕ) (s : Slot) → new.admits n s ≡ old.admits n s
  pub vouched : (e : List ℕ) (p n : ℕ) → old.vouches e p n ≡ true → new.vouches e p n ≡ true
  pub seen_is : (s : Slot) → Begins (old.seen s) (new.seen s)

-- nothing is changed of another slot, nor of another node
pub record Apart (node : ℕ) (s : Slot) (old new : Meaning) : Type 0 where
  pub holds_is : (n : ℕ) (t : Slot) → (n ≢ node) ⊎ (t ≢ s) → new.holds n t ≡ old.holds n t
  pub told_is : (t : Slot) → t ≢ s → new.told t ≡ old.told t
  pub tells_is : (t : Slot) → t ≢ s → new.tells t ≡ old.tells t

-- nothing is changed
pub record Still (old new : Meaning) : Type 0 where
  pub holds_is : (n : ℕ) (t : Slot) → new.holds n t ≡ old.holds n t
  pub told_is : (t : Slot) → new.told t ≡ old.told t
  pub tells_is : (t : Slot) → new.tells t ≡ old.tells t

abbrev pub is_confirmed : List ℕ → ℕ → ℕ → Fact → Bool
is_confirmed e p n (fact.Confirmed q x m) = (q == p) && is_name x e && (m == n)
is_confirmed e p n f = false

-- the list confirms this number
abbrev pub confirms : List ℕ → ℕ → ℕ → List Fact → Bool
confirms e p n list = list_any (is_confirmed e p n) list

-- what a list confirms past another is vouched for
abbrev pub IsVouched : Meaning → List Fact → List Fact → Type 0
IsVouched m told list = (e : List ℕ) (p n : ℕ) → confirms e p n list ≡ true → (confirms e p n told ≡ true) ⊎ (m.vouches e p n ≡ true)

-- the incarnations of an entry have numbers that it takes, and a grant is to a node that is admitted
abbrev pub is_taken : Meaning → Slot → Fact → Bool
is_taken m s (fact.Granted t n x) = m.admits x.node s && m.within x.number
is_taken m s (fact.Registered r) = m.within r.number
is_taken m s (fact.Terminated r) = m.within r.number
is_taken m s (fact.Allocated k r) = m.within r.number
is_taken m s f = true

-- the store that is handed out: the slot's, with a grant more; what can be told of the slot
pub record Hands (old : Meaning) (who : Incarnation) (s : Slot) (x : Store) (new : Meaning) : Type 0 where
  pub script_is : script_of x ≡ old.script
  pub slot_is : slot_of x ≡ s
  pub spare_is : 99 ≤ spare_of x
  pub before : List Fact
  pub free : is_held before ≡ false
  pub list_is : entries_of x ≡ before ++ fact.Granted s (epoch before + 1) who ∷ []
  pub own_is : own old.script s (entries_of x) ≡ true
  pub taken : list_all (is_taken new s) (entries_of x) ≡ true
  pub holds_is : new.holds who.node s ≡ true
  pub seen_is : Begins (old.seen s) (entries_of x)
  pub extends : Begins (new.told s) (entries_of x)
  pub vouched : IsVouched new (new.told s) (entries_of x)
  pub tells_is : MatchOption (old.tells s) (new.tells s ≡ None) (λ k. (k.holder ≡ None) × (k.list ≡ before) × (new.tells s ≡ Some (record { holder = Some who; list = [] })))

-- another of the script's nodes held the slot
pub record Refuses (old : Meaning) (who : Incarnation) (s : Slot) (h : ℕ) : Type 0 where
  pub other : h ≢ who.node
  pub node_is : is_in 1 old.script.config.nodes h ≡ true
  pub admitted : old.admits h s ≡ true
  pub tells_is : MatchOption (old.tells s) (Unit {0}) (λ k. (x : Incarnation) × (k.holder ≡ Some x) × (x.node ≡ h))

abbrev pub Acquired : Meaning → Incarnation → Slot → Acquire → Meaning → Type 0
Acquired old who s (answer.Granted x) new = Hands old who s x new × Apart who.node s old new
Acquired old who s (answer.Held h) new = Refuses old who s h × Still old new

-- the node that was found to hold the slot, 0 where there was none
abbrev pub found_in : Acquire → ℕ
found_in (answer.Granted x) = 0
found_in (answer.Held h) = h

-- where nothing can be told of the slot, this answer is what one claim more has found
abbrev pub Claims : Meaning → Slot → Acquire → Meaning → Type 0
Claims old s a new = MatchOption (old.tells s) ((new.claims ≡ old.claims + 1) × (new.found ≡ found_in a)) (λ k. Unit {0})

-- what a release asks of the store
pub record Returns (m : Meaning) (who : Incarnation) (s : Slot) (x : Store) : Type 0 where
  pub holds_is : m.holds who.node s ≡ true
  pub script_is : script_of x ≡ m.script
  pub slot_is : slot_of x ≡ s
  pub extends : Begins (m.told s) (entries_of x)
  pub taken : list_all (is_taken m s) (entries_of x) ≡ true
  pub vouched : IsVouched m (m.told s) (entries_of x)
  pub leased : is_held (entries_of x) ≡ true
  pub spare_is : 101 ≤ spare_of x

-- the slot has no holder; what can be told of it
pub record Released (old : Meaning) (who : Incarnation) (s : Slot) (x : Store) (why : Cause) (new : Meaning) : Type 0 where
  pub holds_is : new.holds who.node s ≡ false
  pub apart : Apart who.node s old new
  pub tells_is : MatchOption (old.tells s) (new.tells s ≡ None) (λ k. new.tells s ≡ Some (record { holder = None; list = entries_of x ++ fact.Freed s (epoch (entries_of x)) why ∷ [] }))
