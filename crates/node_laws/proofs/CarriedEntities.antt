-- What entities write, stash and acknowledge is carried by what is in hand.
use Rattle.std.proofs.Common.{◌≡◌, ℕ, ◌+◌, ◌<◌, List, [], ◌∷◌, ◌++◌, length, map, sym, ap, subst, ◌∙◌, refl, true, false, true≢false, arith}
use Rattle.std.specs.Prelude.{Bool, ◌&&◌, ◌==◌, ◌/◌, ◌%◌, ◌-◌, not, nat_lt, nat_le, filter, fold, Option, Some, None, slice_index_or, if◌then◌else◌}
use Rattle.std.specs.List.{list_all, flat_map}
use Rattle.std.specs.Option.{option_and_then}
use Rattle.std.proofs.lemmas.Bool.Decides.{nat_tests}
use Rattle.std.proofs.lemmas.Grind.{flat_map-append}
use Rattle.std.proofs.lemmas.List.{get_or-set_same}
use Rattle.std.proofs.lemmas.List.Sums.{fold-append}
use Rattle.yard_model.specs.declared.fact.Fact.{Fact}
use Rattle.yard_model.specs.declared.fact.Fact.TheVariants as fact
use Rattle.yard_model.specs.declared.incarnation.Cause.TheVariants as cause
use Rattle.yard_model.specs.declared.incarnation.Incarnation.{Incarnation}
use Rattle.yard_model.specs.declared.incarnation.Keep.{Keep}
use Rattle.yard_model.specs.declared.incarnation.Keep.TheVariants as keep
use Rattle.yard_model.specs.declared.incarnation.Slot.TheVariants as slot
use Rattle.yard_model.specs.declared.incarnation.Stamp.{Stamp}
use Rattle.yard_model.specs.declared.input.Phase.{Phase}
use Rattle.yard_model.specs.declared.input.Phase.TheVariants as phase
use Rattle.yard_model.specs.declared.packet.Body.TheVariants as body
use Rattle.yard_model.specs.declared.packet.Message.{Message}
use Rattle.yard_model.specs.declared.packet.Record.{Record}
use Rattle.yard_model.specs.Entities as entities
use Rattle.yard_model.specs.Entities.{Entities, Hosted, Stopping, is_phase, cell, hosted, entries_in, entries, is_hosted, is_in_phase, entities_of, record_of, entities_after}
use Rattle.yard_model.specs.Genuine.{is_brought}
use Rattle.yard_model.specs.Move.{Move, handed_off, passivates, told, post, item_of}
use Rattle.yard_model.specs.Script.{Script, Setting, setting}
use Rattle.yard_model.specs.Setting.{shard_of, shards, names_of}
use Rattle.yard_model.specs.SlotLists.{shard_list}
use Rattle.yard_model.specs.SlotReads.{epoch, journal, journal_step, position, is_remembered}
use Rattle.yard_model.specs.Turns.{in_turn, for_each}
use Rattle.yard_model.specs.Words.{is_empty}
use Rattle.yard_laws.specs.Entries.{NextFollows, EntitiesFollow}
use Rattle.plain_laws.proofs.Booleans.{and_both, both, all_of, number_itself}
use Rattle.actor_laws.specs.Owes.{Hand, hand_after}
use Rattle.plain_laws.proofs.Lists.{inside, all_join, all_if, all_some, all_each}
use Rattle.node_laws.specs.Carried.{is_queued_in, is_recorded_in}
use Rattle.actor_laws.specs.Moves.{facts_of}
use Rattle.actor_laws.specs.EntitiesStand.{is_for, IsEntities, IsMessage, InHand, KeepsEntities}
use Rattle.node_laws.proofs.CarriedLists.{is_carried_move, are_carried, all_queued_after, carried_both, carried_first, carried_moves, quiet_carried, quiet_moves}
use Rattle.actor_laws.proofs.CoordinatorMoves.{all_of_map}
use Rattle.actor_laws.proofs.EntitiesMoves.{some_of, set_stays, list_in_hand}
use Rattle.plain_laws.proofs.Names.{name_itself}
use Rattle.actor_laws.proofs.EntitiesRules.{activate_keeps, deliver_keeps, deliver_stays, all_stay, is_staying, messages_of}
use Rattle.node_laws.proofs.Quiet.{is_quiet, quiet_items}

-- Quiet rules.

pub start_quiet : (s : ℕ) (st : Entities) → list_all is_quiet (entities.start_remembered s st) ≡ true
start_quiet s st = all_if is_quiet st.set.config.remember (flat_map (λ e. entities.start_entity e st) (filter (λ e. is_remembered e (entries st e)) (names_of st.set s))) []
    (all_each is_quiet (λ e. entities.start_entity e st) (filter (λ e. is_remembered e (entries st e)) (names_of st.set s)) (λ e. refl)) refl

activate_quiet : (e : List ℕ) (st : Entities) → list_all is_quiet (entities.activate e st) ≡ true
activate_quiet e st = all_if is_quiet (st.set.config.remember && not (is_remembered e (entries st e))) (told (fact.Remembered e) ∷ []) [] refl refl

pub ask_to_passivate_quiet : (e : List ℕ) (st : Entities) → list_all is_quiet (entities.ask_to_passivate e st) ≡ true
ask_to_passivate_quiet e st = all_if is_quiet (is_in_phase phase.Active st e) (post st.who st.who (body.Passivate e) ∷ []) [] refl refl

pub arm_quiet : (e : List ℕ) (k : Keep) (st : Entities) → list_all is_quiet (entities.arm e k st) ≡ true
arm_quiet e k st = all_if is_quiet (is_in_phase phase.Active st e) (told (fact.Armed e k) ∷ []) [] refl refl

pub passivate_quiet : (e : List ℕ) (st : Entities) → list_all is_quiet (entities.passivate e st) ≡ true
passivate_quiet e st = all_if is_quiet (is_in_phase phase.Active st e) (passivates e ∷ post st.who st.who (body.StopEntity e) ∷ []) [] refl refl

free_quiet : (s : ℕ) (st : Entities) → list_all is_quiet (entities.free_if_left s st) ≡ true
free_quiet s st = all_some is_quiet
    (λ (k : Stopping). if is_empty (entities_of st s) then told (fact.Freed (slot.Shard s) (epoch (entries_in (hosted st s))) cause.Released) ∷ post st.who k.to (body.ShardStopped s k.stamp) ∷ [] else [])
    (option_and_then (λ (h : Hosted). h.stopping) (hosted st s))
    (λ k. all_if is_quiet (is_empty (entities_of st s)) (told (fact.Freed (slot.Shard s) (epoch (entries_in (hosted st s))) cause.Released) ∷ post st.who k.to (body.ShardStopped s k.stamp) ∷ []) [] refl refl)

pub hand_off_quiet : (s : ℕ) (stamp : Stamp) (from : Incarnation) (st : Entities) → list_all is_quiet (entities.hand_off s stamp from st) ≡ true
hand_off_quiet s stamp from st =
    let posts : List Move = map (λ e. post st.who st.who (body.StopEntity e)) (entities_of st s) in
    let later : Entities = fold entities_after (entities_after st (handed_off s stamp from)) posts in
    all_join is_quiet posts (entities.free_if_left s later)
    (all_of_map is_quiet (λ e. post st.who st.who (body.StopEntity e)) (entities_of st s) (all_of (λ e. is_quiet (post st.who st.who (body.StopEntity e))) (λ e. refl) (entities_of st s)))
    (free_quiet s later)

after_stop_quiet : (e : List ℕ) (st : Entities) → list_all is_quiet (entities.after_stop e st) ≡ true
after_stop_quiet e st =
    let s : ℕ = shard_of st.set e in
    let drops : List Move = entities.drop_stash e st in
    all_if is_quiet (entities.is_running st s) (if is_empty (cell st e).stash then [] else entities.start_entity e st) (drops ++ entities.free_if_left s (fold entities_after st drops))
    (all_if is_quiet (is_empty (cell st e).stash) [] (entities.start_entity e st) refl refl)
    (all_join is_quiet drops (entities.free_if_left s (fold entities_after st drops))
    (all_of_map is_quiet (λ m. told (fact.Dropped st.who m)) (cell st e).stash (all_of (λ m. is_quiet (told (fact.Dropped st.who m))) (λ m. refl) (cell st e).stash))
    (free_quiet s (fold entities_after st drops)))

pub stop_quiet : (e : List ℕ) (st : Entities) → list_all is_quiet (entities.stop e st) ≡ true
stop_quiet e st =
    let first : List Move = told (fact.Stop st.who e) ∷ entities.forget_passivated e st in
    all_if is_quiet (is_in_phase phase.Stopping st e) (first ++ entities.after_stop e (fold entities_after st first)) []
    (all_join is_quiet first (entities.after_stop e (fold entities_after st first))
    (all_if is_quiet ((cell st e).passivating && is_remembered e (entries st e)) (told (fact.Forgotten e) ∷ []) [] refl refl)
    (after_stop_quiet e (fold entities_after st first))) refl

pub ticks_quiet : (st : Entities) → list_all is_quiet (entities.tick_entities st) ≡ true
ticks_quiet st = all_each is_quiet (λ s. flat_map (λ e. entities.remind_by e st (cell st e).phase) (entities_of st s)) (shards st.set)
    (λ s. all_each is_quiet (λ e. entities.remind_by e st (cell st e).phase) (entities_of st s) (λ e. by e (cell st e).phase))
  where
    by : (e : List ℕ) (p : Phase) → list_all is_quiet (entities.remind_by e st p) ≡ true
    by e phase.Absent = refl
    by e phase.Loading = refl
    by e phase.Active = refl
    by e phase.Stopping = refl

-- Moves of entities.

pub by_moves : (c : Script) (h : Hand) (ms : List Move) → list_all (is_carried_move c h.lists) ms ≡ true → are_carried c h (flat_map item_of ms) ≡ true
by_moves c h ms k = carried_first c h (flat_map item_of ms) (carried_moves c h.lists ms k)

moves_both : (c : Script) (h : Hand) (xs ys : List Move) → are_carried c h (flat_map item_of xs) ≡ true → are_carried c (fold (hand_after c) h (facts_of xs)) (flat_map item_of ys) ≡ true → are_carried c h (flat_map item_of (xs ++ ys)) ≡ true
moves_both c h xs ys f g = ap (are_carried c h) (flat_map-append item_of xs ys) ∙ carried_both c h (flat_map item_of xs) (flat_map item_of ys) f g

moves_if : (c : Script) (h : Hand) (b : Bool) (xs ys : List Move) → are_carried c h (flat_map item_of xs) ≡ true → are_carried c h (flat_map item_of ys) ≡ true → are_carried c h (flat_map item_of (if b then xs else ys)) ≡ true
moves_if c h true xs ys f g = f
moves_if c h false xs ys f g = g

-- Deliver.

itself : (n : ℕ) → nat_le n n ≡ true
itself n = grind (arith, nat_tests)

-- what stands in the journal is recorded
here_recorded : (c : Script) (st : Entities) (p : ℕ) (e : List ℕ) (h : Hand) → IsEntities c st → InHand c h st → is_hosted st (shard_of st.set e) ≡ true → is_recorded_in c h.lists p e (position p (journal e (entries st e))) ≡ true
here_recorded c st p e h is i there = subst (λ l. nat_le (position p (journal e (entries st e))) (position p (journal e l)) ≡ true) (sym (list_in_hand c st e h is there i)) (itself (position p (journal e (entries st e))))

-- and so is one more once it is written
next_recorded : (c : Script) (st : Entities) (m : Message) (h : Hand) → IsEntities c st → InHand c h st → is_hosted st (shard_of st.set m.entity) ≡ true
    → let records : List Record = journal m.entity (entries st m.entity) in is_recorded_in c (hand_after c h (fact.Wrote m.entity (record_of m st records))).lists m.producer m.entity (position m.producer records + 1) ≡ true
next_recorded c st m h is i there = subst (λ n. nat_le (pos + 1) n ≡ true) (sym whole) (itself (pos + 1))
  where
    e : List ℕ
    e = m.entity

    records : List Record
    records = journal e (entries st e)

    pos : ℕ
    pos = position m.producer records

    r : Record
    r = record_of m st records

    f : Fact
    f = fact.Wrote e r

    s : ℕ
    s = shard_of (setting c) e

    x : (x : Hosted) × (hosted st (shard_of st.set e) ≡ Some x)
    x = some_of (hosted st (shard_of st.set e)) there

    below : s < length h.lists.shards
    below = subst (λ n. s < n) (sym i.there) (subst (λ (set : Setting). shard_of set e < c.config.shards) is.set_is (subst (λ n. shard_of st.set e < n) is.shards_there (inside st.hosted (shard_of st.set e) x.0 x.1)))

    list_is : shard_list (hand_after c h f).lists s ≡ entries st e ++ f ∷ []
    list_is = get_or-set_same h.lists.shards s (shard_list h.lists s ++ f ∷ []) [] below ∙ ap (λ l. l ++ f ∷ []) (list_in_hand c st e h is there i)

    journal_is : journal e (entries st e ++ f ∷ []) ≡ records ++ r ∷ []
    journal_is = fold-append (journal_step e) [] (entries st e) (f ∷ []) ∙ ap (λ b. if b then records ++ r ∷ [] else records) (name_itself e)

    count_is : position m.producer (records ++ r ∷ []) ≡ pos + 1
    count_is = fold-append (λ a (y : Record). a + (if y.producer == m.producer then 1 else 0)) 0 records (r ∷ []) ∙ ap (λ b. pos + (if b then 1 else 0)) (number_itself m.producer m.producer refl)

    whole : position m.producer (journal e (shard_list (hand_after c h f).lists s)) ≡ pos + 1
    whole = ap (λ l. position m.producer (journal e l)) list_is ∙ (ap (position m.producer) journal_is ∙ count_is)

snapshot_quiet : (e : List ℕ) (n : ℕ) (st : Entities) → list_all is_quiet (entities.snapshot_at e n st) ≡ true
snapshot_quiet e n st = all_if is_quiet (n % st.set.config.snapshot == 0) (told (fact.Snapshot e n) ∷ []) [] refl refl

write_carried : (c : Script) (st : Entities) (m : Message) (h : Hand) (o : Option Keep) → IsEntities c st → InHand c h st → is_hosted st (shard_of st.set m.entity) ≡ true → is_queued_in h.lists m ≡ true
    → let records : List Record = journal m.entity (entries st m.entity) in are_carried c h (flat_map item_of (entities.write m (record_of m st records) (position m.producer records + 1) st o)) ≡ true
write_carried c st m h (Some keep.Lost) is i there q = refl
write_carried c st m h (Some keep.Kept) is i there q = both (is_queued_in h.lists m) true q refl
write_carried c st m h None is i there q =
    let records : List Record = journal m.entity (entries st m.entity) in
    let pos : ℕ = position m.producer records + 1 in
    let f : Fact = fact.Wrote m.entity (record_of m st records) in
    let now : Hand = hand_after c h f in
    let saves : List Move = entities.snapshot_at m.entity (length records + 1) st in
    let ack : List Move = post st.who m.origin (body.Ack m.producer m.entity pos) ∷ [] in
    let asks : List Move = entities.ask_more m pos st in
    let recorded : is_recorded_in c now.lists m.producer m.entity pos ≡ true = next_recorded c st m h is i there in
    both (is_queued_in h.lists m) (are_carried c now (flat_map item_of (saves ++ (ack ++ asks)))) q
    (by_moves c now (saves ++ (ack ++ asks))
    (all_join (is_carried_move c now.lists) saves (ack ++ asks) (quiet_moves c now.lists saves (snapshot_quiet m.entity (length records + 1) st))
    (all_join (is_carried_move c now.lists) ack asks (both (is_recorded_in c now.lists m.producer m.entity pos) true recorded refl)
    (all_if (is_carried_move c now.lists) (nat_le (slice_index_or (cell st m.entity).reach (m.producer - 1) 0) (pos + st.set.config.window / 2)) (post st.who m.origin (body.Request m.producer m.entity pos (pos + st.set.config.window)) ∷ []) []
    (both (is_recorded_in c now.lists m.producer m.entity pos) true recorded refl) refl))))

pub deliver_carried : (c : Script) (st : Entities) (m : Message) (h : Hand) → IsEntities c st → InHand c h st → is_hosted st (shard_of st.set m.entity) ≡ true → is_queued_in h.lists m ≡ true → are_carried c h (flat_map item_of (entities.deliver m st)) ≡ true
deliver_carried c st m h is i there q = by (cell st m.entity).phase
  where
    records : List Record
    records = journal m.entity (entries st m.entity)

    pos : ℕ
    pos = position m.producer records

    stashes : are_carried c h (flat_map item_of (entities.stash_message m st)) ≡ true
    stashes = moves_if c h (nat_lt (length (cell st m.entity).stash) st.set.config.window) (told (fact.Stashed st.who m) ∷ []) (told (fact.Dropped st.who m) ∷ []) (both (is_queued_in h.lists m) true q refl) refl

    by : (p : Phase) → are_carried c h (flat_map item_of (entities.deliver_by m st p)) ≡ true
    by phase.Absent = by_moves c h (entities.start_entity m.entity st ++ told (fact.Stashed st.who m) ∷ []) (both (is_queued_in h.lists m) true q refl)
    by phase.Active =
        let last : List Move = entities.write m (record_of m st records) (pos + 1) st (cell st m.entity).armed in
        let resends : List Move = if nat_lt (pos + 1) m.number then post st.who m.origin (body.Resend m.producer m.entity (pos + 1)) ∷ [] else last in
        moves_if c h (nat_le m.number pos) (post st.who m.origin (body.Ack m.producer m.entity pos) ∷ []) resends
        (both (is_recorded_in c h.lists m.producer m.entity pos) true (here_recorded c st m.producer m.entity h is i there) refl)
        (moves_if c h (nat_lt (pos + 1) m.number) (post st.who m.origin (body.Resend m.producer m.entity (pos + 1)) ∷ []) last refl (write_carried c st m h (cell st m.entity).armed is i there q))
    by phase.Loading = stashes
    by phase.Stopping = stashes

-- Recovery.

deliver_all_carried : (c : Script) (e : List ℕ) → NextFollows → is_brought c e ≡ true → (ms : List Message) (st : Entities) (h : Hand) → IsEntities c st → InHand c h st → is_hosted st (shard_of st.set e) ≡ true → list_all (is_for c e) ms ≡ true
    → list_all (is_queued_in h.lists) ms ≡ true → are_carried c h (flat_map item_of (for_each entities_after entities.deliver ms st)) ≡ true
deliver_all_carried c e law brought [] st h is i there all q = refl
deliver_all_carried c e law brought (m ∷ ms) st h is i there all q =
    let n : (is_for c e m ≡ true) × (list_all (is_for c e) ms ≡ true) = and_both (is_for c e m) (list_all (is_for c e) ms) all in
    let r : (is_queued_in h.lists m ≡ true) × (list_all (is_queued_in h.lists) ms ≡ true) = and_both (is_queued_in h.lists m) (list_all (is_queued_in h.lists) ms) q in
    let g : (m.entity ≡ e) × IsMessage c m = messages_of c e m brought n.0 in
    let here : is_hosted st (shard_of st.set m.entity) ≡ true = ap (λ x. is_hosted st (shard_of st.set x)) g.0 ∙ there in
    let moves : List Move = entities.deliver m st in
    let first : KeepsEntities c st moves = deliver_keeps c st m law is g.1 here in
    let later : Entities = fold entities_after st moves in
    let next : Hand = fold (hand_after c) h (facts_of moves) in
    moves_both c h moves (for_each entities_after entities.deliver ms later) (deliver_carried c st m h is i here r.0)
    (deliver_all_carried c e law brought ms later next first.stands (first.goes_along h i)
    (ap (λ (s : Setting). is_hosted later (shard_of s e)) (set_stays st moves) ∙ all_stay st moves (shard_of st.set e) (deliver_stays m st (cell st m.entity).phase) there) n.1
    (all_queued_after c h (facts_of moves) ms r.1))

pub recovered_carried : (c : Script) (st : Entities) (e : List ℕ) (h : Hand) → NextFollows → EntitiesFollow → IsEntities c st → is_brought c e ≡ true → InHand c h st → list_all (is_queued_in h.lists) (cell st e).stash ≡ true
    → are_carried c h (flat_map item_of (entities.recovered e st)) ≡ true
recovered_carried c st e h next law is brought i q = by (is_in_phase phase.Loading st e) refl
  where
    moves : List Move
    moves = entities.activate e st

    later : Entities
    later = fold entities_after st moves

    loading : (p : Phase) → is_phase phase.Loading p ≡ true → is_phase phase.Absent p ≡ false
    loading phase.Loading k = refl
    loading p k = absurd (true≢false (sym k))

    by : (b : Bool) → is_in_phase phase.Loading st e ≡ b → are_carried c h (flat_map item_of (if b then in_turn entities_after (entities.activate e) (for_each entities_after entities.deliver (cell st e).stash) st else [])) ≡ true
    by false k = refl
    by true k =
        let live : is_in_phase phase.Absent st e ≡ false = loading (cell st e).phase k in
        let first : KeepsEntities c st moves = activate_keeps c st e law is brought live in
        moves_both c h moves (for_each entities_after entities.deliver (cell st e).stash later) (quiet_carried c h (flat_map item_of moves) (quiet_items moves (activate_quiet e st)))
        (deliver_all_carried c e next brought (cell st e).stash later (fold (hand_after c) h (facts_of moves)) first.stands (first.goes_along h i)
        (ap (λ (s : Setting). is_hosted later (shard_of s e)) (set_stays st moves) ∙ all_stay st moves (shard_of st.set e)
        (all_if is_staying (st.set.config.remember && not (is_remembered e (entries st e))) (told (fact.Remembered e) ∷ []) [] refl refl) (is.at_home e brought live)) (is.stashed e brought)
        (all_queued_after c h (facts_of moves) (cell st e).stash q))
