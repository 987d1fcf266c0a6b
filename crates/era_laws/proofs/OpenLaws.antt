-- What an era opens with.
use Rattle.std.proofs.Common.{◌≡◌, ℕ, suc, ◌+◌, ◌-◌, sym, ap, ◌∙◌, refl, subst, arith, length-append}
use Rattle.std.specs.Prelude.{Bool, true, ◌==◌, ◌&&◌, not, ◌↔◌, nat_lt, nat_le, List, [], ◌∷◌, ◌++◌, length, fold, replicate, Some, is_some, slice_index_or, slice_set, IsTrue}
use Rattle.std.specs.List.{list_any, list_all, flat_map}
use Rattle.std.proofs.lemmas.List.{append-nil, append_assoc}
use Rattle.std.proofs.lemmas.List.Sums.{fold-append, fold_push}
use Rattle.std.proofs.Math.Seq.{set-append_seam, get_or-append_seam}
use Rattle.yard_model.specs.declared.fact.Fact.{Fact}
use Rattle.yard_model.specs.declared.fact.Fact.TheVariants as fact
use Rattle.yard_model.specs.declared.incarnation.Incarnation.{Incarnation}
use Rattle.yard_model.specs.declared.incarnation.Slot.{Slot}
use Rattle.yard_model.specs.declared.incarnation.Slot.TheVariants as slot
use Rattle.yard_model.specs.Script.{Script, Setting, setting, with_shards}
use Rattle.yard_model.specs.Setting.{shard_of}
use Rattle.yard_model.specs.Equal.{is_slot}
use Rattle.yard_model.specs.Genuine.{is_node, is_producer, is_brought}
use Rattle.yard_model.specs.Behaviour.{is_in}
use Rattle.yard_model.specs.SlotLists.{SlotLists, shard_list, queue_list}
use Rattle.yard_model.specs.SlotReads.{holder, journal, last_snapshot, queued, confirmed}
use Rattle.yard_model.specs.Trace.{slot_of, with_entry, lists_step, no_lists, lists_of}
use Rattle.yard_model.specs.Opening.{begins}
use Rattle.yard_model.specs.Lawful.{own, is_leased, is_of_shard, is_shard_entry, is_coordinator_entry, is_queue_entry, may_follow, may_be_brought, may_be_before, may_open, is_folded_after, is_merged_after, lawful}
use Rattle.yard_model.specs.Era.{opening_of, upgrade_step}
use Rattle.yard_model.specs.Safe.{live_at, live_step, at_most_holder, one_live, shard_list_of}
use Rattle.plain_laws.proofs.Booleans.{true_is_not_false, and_both, both, same_number, all_of}
use Rattle.plain_laws.proofs.Lists.{all_join}
use Rattle.yard_laws.specs.Guarded.{Owns}
use Rattle.yard_laws.proofs.Owned.{own_to}
use Rattle.yard_laws.proofs.SafetyLaws.{owns_of}
use Rattle.era_laws.specs.Openings.{OpeningGivesLists, OpeningIsQuiet, EraOpens}

abbrev pub SameSlot : Type 0
SameSlot = (a b : Slot) → IsTrue (is_slot a b) ↔ (a ≡ b)

-- the first of three tests that hold
pub first_of_three : (a b d : Bool) → (a && b && d) ≡ true → a ≡ true
first_of_three a b d m = (and_both a b (and_both (a && b) d m).0).0

-- Each entry of a lawful list is of its slot.

abbrev pub AllOf : Setting → Slot → List Fact → Type 0
AllOf set s [] = Unit {0}
AllOf set s (f ∷ fs) = (slot_of set f ≡ Some s) × AllOf set s fs

of_push : (set : Setting) (s : Slot) (list : List Fact) (f : Fact) → AllOf set s list → slot_of set f ≡ Some s → AllOf set s (list ++ f ∷ [])
of_push set s [] f h e = (e, tt)
of_push set s (x ∷ xs) f h e = (h.0, of_push set s xs f h.1 e)

leased_of : (same : SameSlot) (t s : Slot) (b : Bool) → (is_slot t s && b) ≡ true → Some t ≡ Some s
leased_of same t s b m = ap (λ x. Some x) ((same t s).0 (and_both (is_slot t s) b m).0)

name_of : (c : Script) (s : ℕ) (e : List ℕ) → is_of_shard c s e ≡ true → Some (slot.Shard (shard_of (setting c) e)) ≡ Some (slot.Shard s)
name_of c s e m = ap (λ x. Some (slot.Shard x)) (same_number (shard_of (setting c) e) s (and_both (is_brought c e) (shard_of (setting c) e == s) m).1)

shard_entry : (same : SameSlot) (c : Script) (s : ℕ) (list : List Fact) (f : Fact) → is_shard_entry c s list f ≡ true → slot_of (setting c) f ≡ Some (slot.Shard s)
shard_entry same c s list (fact.Granted t n x) m = leased_of same t (slot.Shard s) (is_node c x) m
shard_entry same c s list (fact.Freed t n why) m = ap (λ x. Some x) ((same t (slot.Shard s)).0 m)
shard_entry same c s list (fact.Wrote e r) m =
    name_of c s e (and_both (is_of_shard c s e) (is_producer c r.producer) (first_of_three (is_of_shard c s e && is_producer c r.producer) (is_folded_after c (journal e list) r) (is_merged_after c e (journal e list) r) m)).0
shard_entry same c s list (fact.Snapshot e n) m = name_of c s e (first_of_three (is_of_shard c s e) (n == length (journal e list)) (nat_lt (last_snapshot e list) n) m)
shard_entry same c s list (fact.Remembered e) m = name_of c s e (and_both (is_of_shard c s e) _ m).0
shard_entry same c s list (fact.Forgotten e) m = name_of c s e (and_both (is_of_shard c s e) _ m).0
shard_entry same c s list f m = absurd (true_is_not_false (sym m))

brought_entry : (same : SameSlot) (c : Script) (s k : ℕ) (list : List Fact) (f : Fact) → may_be_brought c s k list f ≡ true → slot_of (setting c) f ≡ Some (slot.Shard s)
brought_entry same c s k list (fact.Granted t n x) m = absurd (true_is_not_false (sym m))
brought_entry same c s k list (fact.Freed t n why) m = absurd (true_is_not_false (sym m))
brought_entry same c s k list (fact.Wrote e r) m = shard_entry same c s list (fact.Wrote e r) (and_both (is_in 1 k r.epoch) (is_shard_entry c s list (fact.Wrote e r)) m).1
brought_entry same c s k list (fact.Resharded t n j) m = ap (λ x. Some (slot.Shard x)) (same_number t s (and_both (t == s) (not (list_any begins list)) m).0)
brought_entry same c s k list f m = shard_entry same c s list f m

coordinator_entry : (same : SameSlot) (c : Script) (set : Setting) (list : List Fact) (f : Fact) → is_coordinator_entry c list f ≡ true → slot_of set f ≡ Some slot.Coordinator
coordinator_entry same c set list (fact.Granted t n x) m = leased_of same t slot.Coordinator (is_node c x) m
coordinator_entry same c set list (fact.Freed t n why) m = ap (λ x. Some x) ((same t slot.Coordinator).0 m)
coordinator_entry same c set list (fact.Registered r) m = refl
coordinator_entry same c set list (fact.Terminated r) m = refl
coordinator_entry same c set list (fact.Allocated s r) m = refl
coordinator_entry same c set list (fact.Deallocated s) m = refl
coordinator_entry same c set list f m = absurd (true_is_not_false (sym m))

before_entry : (same : SameSlot) (c : Script) (set : Setting) (list : List Fact) (f : Fact) → may_be_before c list f ≡ true → slot_of set f ≡ Some slot.Coordinator
before_entry same c set list (fact.Reshard n k) m = refl
before_entry same c set list f m = coordinator_entry same (with_shards 128 c) set list f (and_both (is_leased list f) (is_coordinator_entry (with_shards 128 c) list f) m).1

queue_entry : (same : SameSlot) (c : Script) (p : ℕ) (list : List Fact) (f : Fact) → is_queue_entry c p list f ≡ true → slot_of (setting c) f ≡ Some (slot.Queue p)
queue_entry same c p list (fact.Granted t n x) m = leased_of same t (slot.Queue p) (is_node c x) m
queue_entry same c p list (fact.Freed t n why) m = ap (λ x. Some x) ((same t (slot.Queue p)).0 m)
queue_entry same c p list (fact.Queued q e n k) m = ap (λ x. Some (slot.Queue x)) (same_number q p (and_both (q == p) _ m).0)
queue_entry same c p list (fact.Confirmed q e n) m = ap (λ x. Some (slot.Queue x)) (same_number q p (first_of_three (q == p) (nat_lt (confirmed e list) n) (nat_le n (queued e list)) m))
queue_entry same c p list f m = absurd (true_is_not_false (sym m))

entry_of : (same : SameSlot) (c : Script) (s : Slot) (list : List Fact) (f : Fact) → may_follow c s list f ≡ true → slot_of (setting c) f ≡ Some s
entry_of same c (slot.Shard s) list f m = shard_entry same c s list f (and_both (is_leased list f) (is_shard_entry c s list f) m).1
entry_of same c slot.Coordinator list f m = coordinator_entry same c (setting c) list f (and_both (is_leased list f) (is_coordinator_entry c list f) m).1
entry_of same c (slot.Queue p) list f m = queue_entry same c p list f (and_both (is_leased list f) (is_queue_entry c p list f) m).1

open_of : (same : SameSlot) (c : Script) (s : Slot) (k : ℕ) (list : List Fact) (f : Fact) → may_open c s k list f ≡ true → slot_of (setting c) f ≡ Some s
open_of same c (slot.Shard s) k list f m = brought_entry same c s k list f m
open_of same c slot.Coordinator k list f m = before_entry same c (setting c) list f m
open_of same c (slot.Queue p) k list f m = absurd (true_is_not_false (sym m))

pub own_is_of : (same : SameSlot) (c : Script) (s : Slot) (list : List Fact) → own c s list ≡ true → AllOf (setting c) s list
own_is_of same c s list o =
    own_to c s (AllOf (setting c) s) tt
    (λ k l f p m. of_push (setting c) s l f p (open_of same c s k l f m))
    (λ l f p m. of_push (setting c) s l f p (entry_of same c s l f m)) list o

-- Each entry at the end of its slot's list.

-- one more at the end of list k
abbrev put : ℕ → List (List Fact) → Fact → List (List Fact)
put k xs f = slice_set xs k (slice_index_or xs k [] ++ f ∷ [])

put_seam : (done more : List (List Fact)) (front : List Fact) (f : Fact) (k : ℕ) → length done ≡ k → put k (done ++ front ∷ more) f ≡ done ++ (front ++ f ∷ []) ∷ more
put_seam done more front f k e =
    subst (λ k. put k (done ++ front ∷ more) f ≡ done ++ (front ++ f ∷ []) ∷ more) e
    (ap (λ l. slice_set (done ++ front ∷ more) (length done) (l ++ f ∷ [])) (get_or-append_seam done front more []) ∙ set-append_seam done front more (front ++ f ∷ []))

-- an entry of the slot of list k is put there
abbrev Puts : Setting → (ℕ → Slot) → (List (List Fact) → SlotLists) → Type 0
Puts set slot_at wrap = (xs : List (List Fact)) (f : Fact) (k : ℕ) → slot_of set f ≡ Some (slot_at k) → lists_step set (wrap xs) f ≡ wrap (put k xs f)

one_put : (set : Setting) (slot_at : ℕ → Slot) (wrap : List (List Fact) → SlotLists) → Puts set slot_at wrap → (done more : List (List Fact)) (k : ℕ) → length done ≡ k → (front l : List Fact)
    → AllOf set (slot_at k) l → fold (lists_step set) (wrap (done ++ front ∷ more)) l ≡ wrap (done ++ (front ++ l) ∷ more)
one_put set slot_at wrap puts done more k long front [] h = ap (λ l. wrap (done ++ l ∷ more)) (sym (append-nil front))
one_put set slot_at wrap puts done more k long front (f ∷ fs) h =
    ap (λ z. fold (lists_step set) z fs) (puts (done ++ front ∷ more) f k h.0 ∙ ap wrap (put_seam done more front f k long))
    ∙ (one_put set slot_at wrap puts done more k long (front ++ f ∷ []) fs h.1
    ∙ ap (λ l. wrap (done ++ l ∷ more)) (append_assoc front (f ∷ []) fs))

all_put : (set : Setting) (slot_at : ℕ → Slot) (wrap : List (List Fact) → SlotLists) → Puts set slot_at wrap → (done rest : List (List Fact)) (k : ℕ) → length done ≡ k
    → ((i : ℕ) → AllOf set (slot_at (k + i)) (slice_index_or rest i [])) → fold (lists_step set) (wrap (done ++ replicate (length rest) [])) (flat_map (λ l. l) rest) ≡ wrap (done ++ rest)
all_put set slot_at wrap puts done [] k long h = refl
all_put set slot_at wrap puts done (l ∷ ls) k long h =
    let more : List (List Fact) = replicate (length ls) [] in
    let here : k + 0 ≡ k = omega arith in
    let longer : length (done ++ l ∷ []) ≡ k + 1 = length-append done (l ∷ []) ∙ ap (λ n. n + 1) long in
    fold-append (lists_step set) (wrap (done ++ [] ∷ more)) l (flat_map (λ l. l) ls)
    ∙ (ap (λ z. fold (lists_step set) z (flat_map (λ l. l) ls)) (one_put set slot_at wrap puts done more k long [] l (subst (λ j. AllOf set (slot_at j) l) here (h 0)) ∙ ap wrap (sym (append_assoc done (l ∷ []) more)))
    ∙ (all_put set slot_at wrap puts (done ++ l ∷ []) ls (k + 1) longer (λ i. let next : k + suc i ≡ (k + 1) + i = omega arith in subst (λ j. AllOf set (slot_at j) (slice_index_or ls i [])) next (h (suc i)))
    ∙ ap wrap (append_assoc done (l ∷ []) ls)))

coordinator_put : (set : Setting) (shards queues : List (List Fact)) (front l : List Fact) → AllOf set slot.Coordinator l
    → fold (lists_step set) (record { shards = shards; coordinator = front; queues = queues }) l ≡ record { shards = shards; coordinator = front ++ l; queues = queues }
coordinator_put set shards queues front [] h = ap (λ l. record { shards = shards; coordinator = l; queues = queues }) (sym (append-nil front))
coordinator_put set shards queues front (f ∷ fs) h =
    ap (λ z. fold (lists_step set) z fs) (ap (with_entry f (record { shards = shards; coordinator = front; queues = queues })) h.0)
    ∙ (coordinator_put set shards queues (front ++ f ∷ []) fs h.1 ∙ ap (λ l. record { shards = shards; coordinator = l; queues = queues }) (append_assoc front (f ∷ []) fs))

-- the entries of these lists
abbrev entries : SlotLists → List Fact
entries lists = (flat_map (λ l. l) lists.shards ++ lists.coordinator) ++ flat_map (λ l. l) lists.queues

queue_is : (same : SameSlot) (c : Script) (lists : SlotLists) → Owns c lists → (i : ℕ) → AllOf (setting c) (slot.Queue (i + 1)) (slice_index_or lists.queues i [])
queue_is same c lists k i =
    let back : (i + 1) - 1 ≡ i = omega arith in
    subst (λ j. AllOf (setting c) (slot.Queue (i + 1)) (slice_index_or lists.queues j [])) back (own_is_of same c (slot.Queue (i + 1)) (queue_list lists (i + 1)) (k.queue (i + 1) (omega arith)))

entries_give : (same : SameSlot) (c : Script) (lists : SlotLists) → Owns c lists → lists_of (setting c) (entries lists) ≡ lists
entries_give same c lists k =
    let set : Setting = setting c in
    let shards : List Fact = flat_map (λ l. l) lists.shards in
    let queues : List Fact = flat_map (λ l. l) lists.queues in
    let none : List (List Fact) = replicate (length lists.queues) [] in
    let of_shards : List (List Fact) → SlotLists = λ xs. record { shards = xs; coordinator = []; queues = none } in
    let of_queues : List (List Fact) → SlotLists = λ xs. record { shards = lists.shards; coordinator = lists.coordinator; queues = xs } in
    let start : no_lists set ≡ of_shards (replicate (length lists.shards) []) =
    ap (λ n. record { shards = replicate n []; coordinator = []; queues = replicate c.config.producers [] }) (sym k.shards)
    ∙ ap (λ n. record { shards = replicate (length lists.shards) []; coordinator = []; queues = replicate n [] }) (sym k.queues) in
    let put_shards : fold (lists_step set) (of_shards (replicate (length lists.shards) [])) shards ≡ of_shards lists.shards =
    all_put set (λ i. slot.Shard i) of_shards (λ xs f i e. ap (with_entry f (of_shards xs)) e) [] lists.shards 0 refl
    (λ i. let here : i ≡ 0 + i = omega arith in subst (λ j. AllOf set (slot.Shard j) (slice_index_or lists.shards i [])) here (own_is_of same c (slot.Shard i) (shard_list lists i) (k.shard i))) in
    let put_coordinator : fold (lists_step set) (of_shards lists.shards) lists.coordinator ≡ of_queues none = coordinator_put set lists.shards none [] lists.coordinator (own_is_of same c slot.Coordinator lists.coordinator k.coordinator) in
    let put_queues : fold (lists_step set) (of_queues none) queues ≡ lists =
    all_put set (λ i. slot.Queue (i + 1)) of_queues (λ xs f i e. let back : (i + 1) - 1 ≡ i = omega arith in ap (with_entry f (of_queues xs)) e ∙ ap (λ j. of_queues (put j xs f)) back) [] lists.queues 0 refl
    (λ i. let here : i + 1 ≡ (0 + i) + 1 = omega arith in subst (λ j. AllOf set (slot.Queue j) (slice_index_or lists.queues i [])) here (queue_is same c lists k i)) in
    fold-append (lists_step set) (no_lists set) (shards ++ lists.coordinator) queues
    ∙ (ap (λ z. fold (lists_step set) z queues) (fold-append (lists_step set) (no_lists set) shards lists.coordinator ∙ (ap (λ z. fold (lists_step set) (fold (lists_step set) z shards) lists.coordinator) start ∙ (ap (λ z. fold (lists_step set) z lists.coordinator) put_shards ∙ put_coordinator)))
    ∙ put_queues)

pub opening_gives_lists : SameSlot → OpeningGivesLists
opening_gives_lists same c v lists h = fold_push (lists_step (setting c)) (no_lists (setting c)) (entries lists) (fact.Upgrade v) ∙ entries_give same c lists (owns_of c lists h).0

-- Entries leave no entity live.

-- it is an entry of some slot
abbrev is_some_entry : Setting → Fact → Bool
is_some_entry set f = is_some (slot_of set f)

some_entries : (set : Setting) (s : Slot) (list : List Fact) → AllOf set s list → list_all (is_some_entry set) list ≡ true
some_entries set s [] h = refl
some_entries set s (f ∷ fs) h = both (is_some_entry set f) (list_all (is_some_entry set) fs) (ap (λ o. is_some o) h.0) (some_entries set s fs h.1)

all_lists : (p : Fact → Bool) (ls : List (List Fact)) → ((i : ℕ) → list_all p (slice_index_or ls i []) ≡ true) → list_all p (flat_map (λ l. l) ls) ≡ true
all_lists p [] h = refl
all_lists p (l ∷ ls) h = all_join p l (flat_map (λ l. l) ls) (h 0) (all_lists p ls (λ i. h (suc i)))

all_entries : (same : SameSlot) (c : Script) (lists : SlotLists) → Owns c lists → list_all (is_some_entry (setting c)) (entries lists) ≡ true
all_entries same c lists k =
    let p : Fact → Bool = is_some_entry (setting c) in
    let shards : List Fact = flat_map (λ l. l) lists.shards in
    all_join p (shards ++ lists.coordinator) (flat_map (λ l. l) lists.queues)
    (all_join p shards lists.coordinator (all_lists p lists.shards (λ i. some_entries (setting c) (slot.Shard i) (shard_list lists i) (own_is_of same c (slot.Shard i) (shard_list lists i) (k.shard i))))
    (some_entries (setting c) slot.Coordinator lists.coordinator (own_is_of same c slot.Coordinator lists.coordinator k.coordinator)))
    (all_lists p lists.queues (λ i. some_entries (setting c) (slot.Queue (i + 1)) (slice_index_or lists.queues i []) (queue_is same c lists k i)))

live_same : (set : Setting) (e : List ℕ) (old : List Incarnation) (f : Fact) → is_some_entry set f ≡ true → live_step e old f ≡ old
live_same set e old (fact.Start x y) m = absurd (true_is_not_false (sym m))
live_same set e old (fact.Stop x y) m = absurd (true_is_not_false (sym m))
live_same set e old (fact.WriteFailed x y) m = absurd (true_is_not_false (sym m))
live_same set e old (fact.Gone x) m = absurd (true_is_not_false (sym m))
live_same set e old f m = refl

live_quiet : (set : Setting) (e : List ℕ) (old : List Incarnation) (list : List Fact) → list_all (is_some_entry set) list ≡ true → fold (live_step e) old list ≡ old
live_quiet set e old [] h = refl
live_quiet set e old (f ∷ fs) h =
    let m : (is_some_entry set f ≡ true) × (list_all (is_some_entry set) fs ≡ true) = and_both (is_some_entry set f) (list_all (is_some_entry set) fs) h in
    ap (λ z. fold (live_step e) z fs) (live_same set e old f m.0) ∙ live_quiet set e old fs m.1

none_live : (same : SameSlot) (c : Script) (v : ℕ) (lists : SlotLists) → lawful c lists ≡ true → (e : List ℕ) → live_at e (opening_of v lists) ≡ []
none_live same c v lists h e =
    fold_push (live_step e) [] (entries lists) (fact.Upgrade v) ∙ live_quiet (setting c) e [] (entries lists) (all_entries same c lists (owns_of c lists h).0)

pub opening_is_quiet : SameSlot → OpeningIsQuiet
opening_is_quiet same c v lists h = (fold_push upgrade_step 1 (entries lists) (fact.Upgrade v), none_live same c v lists h)

-- It is safe.

pub era_opens : SameSlot → EraOpens
era_opens same c v lists h =
    let trace : List Fact = opening_of v lists in
    both (list_all (one_live c trace) (setting c).names) (lawful c (lists_of (setting c) trace))
    (all_of (one_live c trace) (λ e. ap (at_most_holder (holder (shard_list_of c e trace))) (none_live same c v lists h e)) (setting c).names)
    (ap (lawful c) (opening_gives_lists same c v lists h) ∙ h)
