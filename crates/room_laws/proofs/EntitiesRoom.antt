-- How many items a rule of the entities gives at most.
use Rattle.std.proofs.Common.{◌≡◌, ℕ, ◌+◌, ◌*◌, ◌-◌, ◌≤◌, ◌<◌, List, [], ◌∷◌, ◌++◌, length, ap, ◌∙◌, sym, refl, arith, length-append}
use Rattle.std.specs.Prelude.{Bool, true, false, ◌/◌, ◌%◌, ◌==◌, ◌&&◌, not, nat_lt, nat_le, zero, suc, cond, map, filter, fold, Option, Some, None, slice_index_or, if◌then◌else◌}
use Rattle.std.specs.List.{flat_map, list_all}
use Rattle.yard_model.specs.declared.fact.Fact.TheVariants as fact
use Rattle.yard_model.specs.declared.incarnation.Cause.TheVariants as cause
use Rattle.yard_model.specs.declared.incarnation.Slot.TheVariants as slot
use Rattle.yard_model.specs.declared.incarnation.Incarnation.{Incarnation}
use Rattle.yard_model.specs.declared.incarnation.Keep.{Keep}
use Rattle.yard_model.specs.declared.incarnation.Keep.TheVariants as keep
use Rattle.yard_model.specs.declared.incarnation.Stamp.{Stamp}
use Rattle.yard_model.specs.declared.input.Phase.{Phase}
use Rattle.yard_model.specs.declared.input.Phase.TheVariants as phase
use Rattle.yard_model.specs.declared.packet.Body.TheVariants as body
use Rattle.yard_model.specs.declared.packet.Message.{Message}
use Rattle.yard_model.specs.declared.packet.Record.{Record}
use Rattle.yard_model.specs.Behaviour.{folded}
use Rattle.yard_model.specs.Entities as entities
use Rattle.yard_model.specs.Entities.{Entities, Stopping, cell, entries, entities_after}
use Rattle.std.specs.Option.{option_and_then}
use Rattle.yard_model.specs.Move.{handed_off, passivates, Move, made, took, told, post, item_of}
use Rattle.yard_model.specs.Script.{Setting}
use Rattle.yard_model.specs.Setting.{shards, shard_of, names_of}
use Rattle.yard_model.specs.SlotReads.{epoch, journal, position, is_remembered}
use Rattle.yard_model.specs.Turns.{for_each}
use Rattle.yard_model.specs.Words.{numbers, at, is_empty}
use Rattle.plain_laws.proofs.Lists.{all_each}
use Rattle.plain_laws.proofs.Booleans.{below, same_number, true_is_not_false}
use Rattle.room_laws.proofs.Gives.{Gives, more, if_gives, some_gives, both_give, each_gives, map_gives, filter_few}

start_gives : (e : List ℕ) (st : Entities) → Gives 2 (entities.start_entity e st)
start_gives e st = omega arith

pub start_remembered_room : (s : ℕ) (st : Entities) → length (flat_map item_of (entities.start_remembered s st)) ≤ 2 * length (names_of st.set s)
start_remembered_room s st =
    let es : List (List ℕ) = filter (λ e. is_remembered e (entries st e)) (names_of st.set s) in
    let all : List Move = flat_map (λ e. entities.start_entity e st) es in
    let few : length es ≤ length (names_of st.set s) = filter_few (λ e. is_remembered e (entries st e)) (names_of st.set s) in
    let k : Gives (length es * 2) all = each_gives 2 (λ e. entities.start_entity e st) (λ e. start_gives e st) es in
    if_gives (2 * length (names_of st.set s)) all [] (omega (arith, k, few)) (omega arith) st.set.config.remember

stash_gives : (m : Message) (st : Entities) → Gives 1 (entities.stash_message m st)
stash_gives m st = if_gives 1 (told (fact.Stashed st.who m) ∷ []) (told (fact.Dropped st.who m) ∷ []) (omega arith) (omega arith) (nat_lt (length (cell st m.entity).stash) st.set.config.window)

snapshot_gives : (e : List ℕ) (n : ℕ) (st : Entities) → Gives 1 (entities.snapshot_at e n st)
snapshot_gives e n st = if_gives 1 (told (fact.Snapshot e n) ∷ []) [] (omega arith) (omega arith) (n % st.set.config.snapshot == 0)

more_gives : (m : Message) (pos : ℕ) (st : Entities) → Gives 1 (entities.ask_more m pos st)
more_gives m pos st = if_gives 1 (post st.who m.origin (body.Request m.producer m.entity pos (pos + st.set.config.window)) ∷ []) [] (omega arith) (omega arith)
    (nat_le (slice_index_or (cell st m.entity).reach (m.producer - 1) 0) (pos + st.set.config.window / 2))

write_gives : (m : Message) (r : Record) (pos : ℕ) (st : Entities) (o : Option Keep) → Gives 4 (entities.write m r pos st o)
write_gives m r pos st (Some keep.Lost) = omega arith
write_gives m r pos st (Some keep.Kept) = omega arith
write_gives m r pos st None =
    let acks : List Move = post st.who m.origin (body.Ack m.producer m.entity pos) ∷ entities.ask_more m pos st in
    let last : Gives 2 acks = both_give 1 1 (post st.who m.origin (body.Ack m.producer m.entity pos) ∷ []) (entities.ask_more m pos st) (omega arith) (more_gives m pos st) in
    let rest : Gives 3 (entities.snapshot_at m.entity r.number st ++ acks) = both_give 1 2 (entities.snapshot_at m.entity r.number st) acks (snapshot_gives m.entity r.number st) last in
    both_give 1 3 (told (fact.Wrote m.entity r) ∷ []) (entities.snapshot_at m.entity r.number st ++ acks) (omega arith) rest

at_gives : (m : Message) (pos : ℕ) (records : List Record) (st : Entities) → Gives 4 (entities.deliver_at m pos records st)
at_gives m pos records st =
    let acks : List Move = post st.who m.origin (body.Ack m.producer m.entity pos) ∷ [] in
    let again : List Move = post st.who m.origin (body.Resend m.producer m.entity (pos + 1)) ∷ [] in
    let writes : List Move = entities.write m (entities.record_of m st records) (pos + 1) st (cell st m.entity).armed in
    if_gives 4 acks (if nat_lt (pos + 1) m.number then again else writes) (omega arith)
    (if_gives 4 again writes (omega arith) (write_gives m (entities.record_of m st records) (pos + 1) st (cell st m.entity).armed) (nat_lt (pos + 1) m.number))
    (nat_le m.number pos)

phase_gives : (m : Message) (st : Entities) (p : Phase) → Gives 4 (entities.deliver_by m st p)
phase_gives m st phase.Absent = omega arith
phase_gives m st phase.Active = at_gives m (position m.producer (journal m.entity (entries st m.entity))) (journal m.entity (entries st m.entity)) st
phase_gives m st phase.Loading = more 1 4 (entities.stash_message m st) (omega arith) (stash_gives m st)
phase_gives m st phase.Stopping = more 1 4 (entities.stash_message m st) (omega arith) (stash_gives m st)

pub deliver_room : (m : Message) (st : Entities) → length (flat_map item_of (entities.deliver m st)) ≤ 4
deliver_room m st = phase_gives m st (cell st m.entity).phase

-- What else entities give.

-- one for each, each where those before it count
in_turn_give : (m : ℕ) (p : Message → Entities → List Move) → ((x : Message) (st : Entities) → Gives m (p x st)) → (xs : List Message) (st : Entities) → Gives (length xs * m) (for_each entities_after p xs st)
in_turn_give m p h [] st = omega arith
in_turn_give m p h (x ∷ xs) st =
    let now : Entities = fold entities_after st (p x st) in
    let k : Gives (m + length xs * m) (p x st ++ for_each entities_after p xs now) = both_give m (length xs * m) (p x st) (for_each entities_after p xs now) (h x st) (in_turn_give m p h xs now) in
    let e : suc (length xs) * m ≡ m + length xs * m = omega arith in
    omega (arith, k, e)

activate_gives : (e : List ℕ) (st : Entities) → Gives 2 (entities.activate e st)
activate_gives e st =
    let records : List Record = journal e (entries st e) in
    both_give 1 1 (told (fact.Active st.who e (length records) (folded st.set.config.kind records)) ∷ []) (entities.remember e st) (omega arith)
    (if_gives 1 (told (fact.Remembered e) ∷ []) [] (omega arith) (omega arith) (st.set.config.remember && not (is_remembered e (entries st e))))

-- it becomes active, and each message that was stashed is delivered
pub recovered_room : (e : List ℕ) (st : Entities) → length (flat_map item_of (entities.recovered e st)) ≤ 2 + length (cell st e).stash * 4
recovered_room e st =
    let now : Entities = fold entities_after st (entities.activate e st) in
    let rest : List Move = for_each entities_after entities.deliver (cell st e).stash now in
    let k : Gives (2 + length (cell st e).stash * 4) (entities.activate e st ++ rest) = both_give 2 (length (cell st e).stash * 4) (entities.activate e st) rest (activate_gives e st) (in_turn_give 4 entities.deliver deliver_room (cell st e).stash now) in
    if_gives (2 + length (cell st e).stash * 4) (entities.activate e st ++ rest) [] k (omega arith) (entities.is_in_phase phase.Loading st e)

pub passivate_room : (e : List ℕ) (st : Entities) → length (flat_map item_of (entities.passivate e st)) ≤ 1
passivate_room e st = if_gives 1 (passivates e ∷ post st.who st.who (body.StopEntity e) ∷ []) [] (omega arith) (omega arith) (entities.is_in_phase phase.Active st e)

free_gives : (s : ℕ) (st : Entities) → Gives 2 (entities.free_if_left s st)
free_gives s st = some_gives 2 (λ (k : Stopping). if is_empty (entities.entities_of st s) then told (fact.Freed (slot.Shard s) (epoch (entities.entries_in (entities.hosted st s))) cause.Released) ∷ post st.who k.to (body.ShardStopped s k.stamp) ∷ [] else [])
    (λ k. if_gives 2 (told (fact.Freed (slot.Shard s) (epoch (entities.entries_in (entities.hosted st s))) cause.Released) ∷ post st.who k.to (body.ShardStopped s k.stamp) ∷ []) [] (omega arith) (omega arith) (is_empty (entities.entities_of st s)))
    (option_and_then (λ h. h.stopping) (entities.hosted st s))

pub hand_off_room : (s : ℕ) (stamp : Stamp) (from : Incarnation) (st : Entities) → length (flat_map item_of (entities.hand_off s stamp from st)) ≤ length (names_of st.set s) + 2
hand_off_room s stamp from st =
    let posts : List Move = map (λ e. post st.who st.who (body.StopEntity e)) (entities.entities_of st s) in
    let first : List Move = handed_off s stamp from ∷ posts in
    let now : Entities = fold entities_after st first in
    let all : Gives (length (entities.entities_of st s)) posts = map_gives (λ e. post st.who st.who (body.StopEntity e)) (entities.entities_of st s) in
    let few : length (entities.entities_of st s) ≤ length (names_of st.set s) = filter_few (λ e. not (entities.is_in_phase phase.Absent st e)) (names_of st.set s) in
    both_give (length (names_of st.set s)) 2 first (entities.free_if_left s now) (omega (arith, all, few)) (free_gives s now)

pub after_stop_room : (e : List ℕ) (st : Entities) → length (flat_map item_of (entities.after_stop e st)) ≤ length (cell st e).stash + 2
after_stop_room e st =
    let drops : List Move = entities.drop_stash e st in
    let now : Entities = fold entities_after st drops in
    let all : Gives (length (cell st e).stash) drops = map_gives (λ m. told (fact.Dropped st.who m)) (cell st e).stash in
    let last : Gives (length (cell st e).stash + 2) (drops ++ entities.free_if_left (shard_of st.set e) now) = both_give (length (cell st e).stash) 2 drops (entities.free_if_left (shard_of st.set e) now) all (free_gives (shard_of st.set e) now) in
    let again : Gives (length (cell st e).stash + 2) (if is_empty (cell st e).stash then [] else entities.start_entity e st) = if_gives (length (cell st e).stash + 2) [] (entities.start_entity e st) (omega arith) (more 2 (length (cell st e).stash + 2) (entities.start_entity e st) (omega arith) (start_gives e st)) (is_empty (cell st e).stash) in
    if_gives (length (cell st e).stash + 2) (if is_empty (cell st e).stash then [] else entities.start_entity e st) (drops ++ entities.free_if_left (shard_of st.set e) now) again last (entities.is_running st (shard_of st.set e))

-- The names of the shards.

abbrev those : {A : Type 0} → (A → ℕ) → List A → ℕ → ℕ → List A
those f xs a n = flat_map (λ s. filter (λ x. f x == s) xs) (numbers a n)

-- one more whose number is below them all isn't among those
not_there : {A : Type 0} (f : A → ℕ) (e : A) (xs : List A) (a n : ℕ) → f e < a → length (those f (e ∷ xs) a n) ≤ length (those f xs a n)
not_there f e xs a zero low = omega arith
not_there {A} f e xs a (suc n) low = by (f e == a) refl (not_there f e xs (a + 1) n (omega (arith, low)))
  where
    by : (b : Bool) → (f e == a) ≡ b → length (those f (e ∷ xs) (a + 1) n) ≤ length (those f xs (a + 1) n)
        → length (cond b (e ∷ filter (λ x. f x == a) xs) (filter (λ x. f x == a) xs) ++ those f (e ∷ xs) (a + 1) n) ≤ length (filter (λ x. f x == a) xs ++ those f xs (a + 1) n)
    by true same rest = absurd (omega (arith, same_number (f e) a same, low))
    by false other rest =
        let own : List A = filter (λ x. f x == a) xs in
        omega (arith, length-append own (those f (e ∷ xs) (a + 1) n), length-append own (those f xs (a + 1) n), rest)

-- one more is there once at most
once_there : {A : Type 0} (f : A → ℕ) (e : A) (xs : List A) (a n : ℕ) → length (those f (e ∷ xs) a n) ≤ 1 + length (those f xs a n)
once_there f e xs a zero = omega arith
once_there {A} f e xs a (suc n) = by (f e == a) refl (once_there f e xs (a + 1) n)
  where
    own : List A
    own = filter (λ x. f x == a) xs

    by : (b : Bool) → (f e == a) ≡ b → length (those f (e ∷ xs) (a + 1) n) ≤ 1 + length (those f xs (a + 1) n)
        → length (cond b (e ∷ filter (λ x. f x == a) xs) (filter (λ x. f x == a) xs) ++ those f (e ∷ xs) (a + 1) n) ≤ 1 + length (filter (λ x. f x == a) xs ++ those f xs (a + 1) n)
    by true same rest =
        let here : f e ≡ a = same_number (f e) a same in
        let others : length (those f (e ∷ xs) (a + 1) n) ≤ length (those f xs (a + 1) n) = not_there f e xs (a + 1) n (omega (arith, here)) in
        omega (arith, length-append (filter (λ x. f x == a) xs) (those f (e ∷ xs) (a + 1) n), length-append (filter (λ x. f x == a) xs) (those f xs (a + 1) n), others)
    by false other rest = omega (arith, length-append (filter (λ x. f x == a) xs) (those f (e ∷ xs) (a + 1) n), length-append (filter (λ x. f x == a) xs) (those f xs (a + 1) n), rest)

those_few : {A : Type 0} (f : A → ℕ) (xs : List A) (a n : ℕ) → length (those f xs a n) ≤ length xs
those_few f [] a n = none a n
  where
    none : (a n : ℕ) → length (those f [] a n) ≤ 0
    none a zero = omega arith
    none a (suc n) = none (a + 1) n
those_few f (e ∷ xs) a n = omega (arith, once_there f e xs a n, those_few f xs a n)

-- the names of n shards from a on are some of all names
pub names_left : (set : Setting) (a n : ℕ) → length (flat_map (λ s. names_of set s) (numbers a n)) ≤ length set.names
names_left set a n = those_few (shard_of set) set.names a n

pub names_few : (set : Setting) → length (flat_map (λ s. names_of set s) (shards set)) ≤ length set.names
names_few set = names_left set 0 set.config.shards

-- what is left from a shard on is its own and what is left from the next on
pub numbers_next : (s n : ℕ) → s < n → numbers s (n - s) ≡ s ∷ numbers (s + 1) (n - (s + 1))
numbers_next s n less = let e : n - s ≡ suc (n - (s + 1)) = omega (arith, less) in ap (numbers s) e

pub names_next : (set : Setting) (s n : ℕ) → s < n
    → length (names_of set s) + length (flat_map (λ s. names_of set s) (numbers (s + 1) (n - (s + 1)))) ≡ length (flat_map (λ s. names_of set s) (numbers s (n - s)))
names_next set s n less =
    sym (ap (λ ss. length (flat_map (λ s. names_of set s) ss)) (numbers_next s n less) ∙ length-append (names_of set s) (flat_map (λ s. names_of set s) (numbers (s + 1) (n - (s + 1)))))

-- of each shard at most as many as it has names: in all at most as many as there are names
pub by_names : (set : Setting) (m : ℕ) (p : ℕ → List Move) → ((s : ℕ) → Gives (m * length (names_of set s)) (p s)) → (a n : ℕ) → Gives (m * length (flat_map (λ s. names_of set s) (numbers a n))) (flat_map p (numbers a n))
by_names set m p h a zero = omega arith
by_names set m p h a (suc n) =
    let here : List (List ℕ) = names_of set a in
    let others : List (List ℕ) = flat_map (λ s. names_of set s) (numbers (a + 1) n) in
    let k : Gives (m * length here + m * length others) (p a ++ flat_map p (numbers (a + 1) n)) = both_give (m * length here) (m * length others) (p a) (flat_map p (numbers (a + 1) n)) (h a) (by_names set m p h (a + 1) n) in
    let e : length (here ++ others) ≡ length here + length others = length-append here others in
    let f : m * length (here ++ others) ≡ m * length here + m * length others = ap (λ x. m * x) e ∙ omega arith in
    omega (arith, k, f)

remind_gives : (e : List ℕ) (st : Entities) (p : Phase) → Gives 1 (entities.remind_by e st p)
remind_gives e st phase.Absent = omega arith
remind_gives e st phase.Loading = omega arith
remind_gives e st phase.Active = omega arith
remind_gives e st phase.Stopping = omega arith

pub tick_entities_room : (st : Entities) → length (flat_map item_of (entities.tick_entities st)) ≤ length st.set.names
tick_entities_room st =
    let p : ℕ → List Move = λ s. flat_map (λ e. entities.remind_by e st (cell st e).phase) (entities.entities_of st s) in
    let one : (s : ℕ) → Gives (1 * length (names_of st.set s)) (p s) = λ s.
    let es : List (List ℕ) = entities.entities_of st s in
    let k : Gives (length es * 1) (p s) = each_gives 1 (λ e. entities.remind_by e st (cell st e).phase) (λ e. remind_gives e st (cell st e).phase) es in
    let few : length es ≤ length (names_of st.set s) = filter_few (λ e. not (entities.is_in_phase phase.Absent st e)) (names_of st.set s) in
    omega (arith, k, few) in
    let all : Gives (1 * length (flat_map (λ s. names_of st.set s) (shards st.set))) (entities.tick_entities st) = by_names st.set 1 p one 0 st.set.config.shards in
    omega (arith, all, names_few st.set)

-- each of its moves is an item
pub tick_entities_moves : (st : Entities) → length (entities.tick_entities st) ≤ length st.set.names
tick_entities_moves st =
    let items : length (flat_map item_of (entities.tick_entities st)) ≡ length (entities.tick_entities st) = all_items (entities.tick_entities st)
    (all_each is_item (λ s. flat_map (λ e. entities.remind_by e st (cell st e).phase) (entities.entities_of st s)) (shards st.set)
    (λ s. all_each is_item (λ e. entities.remind_by e st (cell st e).phase) (entities.entities_of st s) (λ e. reminds e (cell st e).phase))) in
    omega (arith, items, tick_entities_room st)
  where
    is_item : Move → Bool
    is_item (made i) = true
    is_item m = false

    all_items : (ms : List Move) → list_all is_item ms ≡ true → length (flat_map item_of ms) ≡ length ms
    all_items [] h = refl
    all_items (made i ∷ ms) h = ap suc (all_items ms h)
    all_items (took s list ∷ ms) h = absurd (true_is_not_false (sym h))
    all_items (m ∷ ms) h = absurd (true_is_not_false (sym h))

    reminds : (e : List ℕ) (p : Phase) → list_all is_item (entities.remind_by e st p) ≡ true
    reminds e phase.Absent = refl
    reminds e phase.Loading = refl
    reminds e phase.Active = refl
    reminds e phase.Stopping = refl
