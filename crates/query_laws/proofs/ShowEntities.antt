-- What the items of the entities' rules show of their node is what the rules' moves do to it; and the node stays tidy.
use Rattle.std.proofs.Common.{◌≡◌, ℕ, ◌+◌, ◌-◌, ◌<◌, List, [], ◌∷◌, ◌++◌, length, map, sym, ap, ap₂, subst, ◌∙◌, refl, true, false, true≢false}
use Rattle.std.specs.Prelude.{Bool, ◌&&◌, not, ◌==◌, ◌/◌, ◌%◌, nat_lt, nat_le, drop, fold, Option, Some, None, slice_index_or, if◌then◌else◌}
use Rattle.std.specs.List.{list_all, flat_map}
use Rattle.std.specs.Option.{option_map, option_and_then}
use Rattle.yard_model.specs.Coordinator.{Coordinator, coordinator_after}
use Rattle.std.proofs.lemmas.List.Sums.{fold-append}
use Rattle.yard_model.specs.declared.fact.Fact.{Fact}
use Rattle.yard_model.specs.declared.fact.Fact.TheVariants as fact
use Rattle.yard_model.specs.declared.out.Item.TheVariants as item
use Rattle.yard_model.specs.declared.packet.Body.{Body}
use Rattle.yard_model.specs.declared.packet.Body.TheVariants as body
use Rattle.yard_model.specs.declared.packet.Message.{Message}
use Rattle.yard_model.specs.declared.packet.Packet.{Packet}
use Rattle.yard_model.specs.declared.packet.Record.{Record}
use Rattle.yard_model.specs.declared.input.Phase.{Phase}
use Rattle.yard_model.specs.declared.input.Phase.TheVariants as phase
use Rattle.yard_model.specs.declared.incarnation.Incarnation.{Incarnation}
use Rattle.yard_model.specs.declared.incarnation.Keep.{Keep}
use Rattle.yard_model.specs.declared.incarnation.Keep.TheVariants as keep
use Rattle.yard_model.specs.declared.incarnation.Slot.TheVariants as slot
use Rattle.yard_model.specs.declared.incarnation.Cause.TheVariants as cause
use Rattle.yard_model.specs.declared.incarnation.Stamp.{Stamp}
use Rattle.yard_model.specs.Entities as entities
use Rattle.yard_model.specs.Entities.{Cell, Entities, Stopping, cell, cell_after, entities_after, is_running, stash_step}
use Rattle.yard_model.specs.Genuine.{is_brought, is_producer, is_genuine}
use Rattle.yard_model.specs.Script.{Script, is_name}
use Rattle.yard_model.specs.Setting.{place, shard_of, shards}
use Rattle.yard_model.specs.Words.{is_empty}
use Rattle.yard_model.specs.Move.{Move, made, took, handed_off, passivates, told, post}
use Rattle.yard_model.specs.Node.{Node, by_entities, after, items_of, of_entities}
use Rattle.yard_model.specs.Producer.{Producer}
use Rattle.yard_model.specs.Queries.{Known, is_passivate, show_item}
use Rattle.yard_model.specs.SlotReads.{epoch, journal, position, is_remembered}
use Rattle.yard_model.specs.Turns.{in_turn, for_each, where_some}
use Rattle.plain_laws.proofs.Booleans.{and_both, both, of_not, all_map, same_name}
use Rattle.yard_laws.proofs.PartsLaws.{entities_alone}
use Rattle.plain_laws.proofs.Lists.{all_join, all_if, all_some, all_each}
use Rattle.actor_laws.specs.EntitiesStand.{IsEntities, is_for}
use Rattle.actor_laws.proofs.EntitiesCells.{place_below}
use Rattle.query_laws.specs.Shown.{IsCalm, AreCalm, IsTidy, is_calm, known_after, shown}
use Rattle.query_laws.proofs.ShowBase.{AreShownBeside, with_producers, beside_both, same_some}
use Rattle.query_laws.proofs.ShowMoves.{cells_of, calm_all, is_calming, cell_now, AreOf, of_both, of_if, cell_on, calm_of, is_untaking, routed_by_entities, is_unstashing, empty_stash}

-- Moves that are items, and show nothing besides.

abbrev is_shown_body : Option Packet → Body → Bool
is_shown_body got (body.StopEntity e) = not (is_passivate got)
is_shown_body got (body.Recovered e) = true
is_shown_body got (body.Passivate e) = true
is_shown_body got (body.Ack p e n) = true
is_shown_body got (body.Resend p e n) = true
is_shown_body got (body.Request p e n u) = true
is_shown_body got (body.ShardStopped s stamp) = true
is_shown_body got b = false

abbrev is_shown_fact : Fact → Bool
is_shown_fact (fact.Start x e) = true
is_shown_fact (fact.Active x e n s) = true
is_shown_fact (fact.Stop x e) = true
is_shown_fact (fact.WriteFailed x e) = true
is_shown_fact (fact.Armed e a) = true
is_shown_fact (fact.Stashed x m) = true
is_shown_fact (fact.Dropped x m) = true
is_shown_fact (fact.Held s x n) = true
is_shown_fact (fact.Freed (slot.Shard s) n why) = true
is_shown_fact (fact.Wrote e r) = true
is_shown_fact (fact.Snapshot e n) = true
is_shown_fact (fact.Remembered e) = true
is_shown_fact (fact.Forgotten e) = true
is_shown_fact f = false

-- where this packet was got
abbrev pub is_shown_move : Option Packet → Move → Bool
is_shown_move got (made (item.Fact f)) = is_shown_fact f
is_shown_move got (made (item.Post p)) = is_shown_body got p.body
is_shown_move got m = false

-- a move that leaves the coordinator as it is
pub stays : (now : Node) (m : Move) → ((k : Coordinator) → coordinator_after k m ≡ k) → record now { coordinator = option_map (λ k. coordinator_after k m) now.coordinator } ≡ now
stays now m h = ap (λ o. record now { coordinator = o }) (same_some m now.coordinator h)

fact_shown : (k : Known) (st : Node) (f : Fact) → is_shown_fact f ≡ true → AreShownBeside k st (by_entities (told f) ∷ [])
fact_shown k st (fact.Start x e) h ps = stays _ (told (fact.Start x e)) (λ y. refl)
fact_shown k st (fact.Active x e n s) h ps = stays _ (told (fact.Active x e n s)) (λ y. refl)
fact_shown k st (fact.Stop x e) h ps = stays _ (told (fact.Stop x e)) (λ y. refl)
fact_shown k st (fact.WriteFailed x e) h ps = stays _ (told (fact.WriteFailed x e)) (λ y. refl)
fact_shown k st (fact.Armed e a) h ps = stays _ (told (fact.Armed e a)) (λ y. refl)
fact_shown k st (fact.Stashed x m) h ps = stays _ (told (fact.Stashed x m)) (λ y. refl)
fact_shown k st (fact.Dropped x m) h ps = stays _ (told (fact.Dropped x m)) (λ y. refl)
fact_shown k st (fact.Held s x n) h ps = stays _ (told (fact.Held s x n)) (λ y. refl)
fact_shown k st (fact.Freed (slot.Shard s) n why) h ps = stays _ (told (fact.Freed (slot.Shard s) n why)) (λ y. refl)
fact_shown k st (fact.Wrote e r) h ps = stays _ (told (fact.Wrote e r)) (λ y. refl)
fact_shown k st (fact.Snapshot e n) h ps = stays _ (told (fact.Snapshot e n)) (λ y. refl)
fact_shown k st (fact.Remembered e) h ps = stays _ (told (fact.Remembered e)) (λ y. refl)
fact_shown k st (fact.Forgotten e) h ps = stays _ (told (fact.Forgotten e)) (λ y. refl)
fact_shown k st f h ps = absurd (true≢false (sym h))

post_shown : (k : Known) (st : Node) (from to : Incarnation) (b : Body) → is_shown_body k.packet b ≡ true → AreShownBeside k st (by_entities (post from to b) ∷ [])
post_shown k st from to (body.StopEntity e) h ps =
    let m : Move = post from to (body.StopEntity e) in
    let now : Node = with_producers ps st in
    subst (λ b. fold after now (show_item (fact.Sent 0 (record { from = from; to = to; body = body.StopEntity e })) now ++ (if b then by_entities (passivates e) ∷ [] else [])) ≡ with_producers ps (after st (by_entities m))) (sym (of_not (is_passivate k.packet) h))
    (ap (λ o. record (with_producers ps (after st (by_entities m))) { coordinator = o }) (same_some m st.coordinator (λ x. refl)))
post_shown k st from to (body.Recovered e) h ps = stays _ (post from to (body.Recovered e)) (λ y. refl)
post_shown k st from to (body.Passivate e) h ps = stays _ (post from to (body.Passivate e)) (λ y. refl)
post_shown k st from to (body.Ack p e n) h ps = stays _ (post from to (body.Ack p e n)) (λ y. refl)
post_shown k st from to (body.Resend p e n) h ps = stays _ (post from to (body.Resend p e n)) (λ y. refl)
post_shown k st from to (body.Request p e n u) h ps = stays _ (post from to (body.Request p e n u)) (λ y. refl)
post_shown k st from to (body.ShardStopped s stamp) h ps = stays _ (post from to (body.ShardStopped s stamp)) (λ y. refl)
post_shown k st from to b h ps = absurd (true≢false (sym h))

-- such moves one after another
pub entities_shown : (k : Known) (st : Node) (ms : List Move) → list_all (is_shown_move k.packet) ms ≡ true → AreShownBeside k st (map by_entities ms)
entities_shown k st [] h = λ ps. refl
entities_shown k st (made (item.Fact f) ∷ ms) h =
    let n : (is_shown_fact f ≡ true) × (list_all (is_shown_move k.packet) ms ≡ true) = and_both (is_shown_fact f) (list_all (is_shown_move k.packet) ms) h in
    beside_both k st (by_entities (told f) ∷ []) (map by_entities ms) (fact_shown k st f n.0) (entities_shown (known_after k (item.Fact f)) (after st (by_entities (told f))) ms n.1)
entities_shown k st (made (item.Post p) ∷ ms) h =
    let n : (is_shown_body k.packet p.body ≡ true) × (list_all (is_shown_move k.packet) ms ≡ true) = and_both (is_shown_body k.packet p.body) (list_all (is_shown_move k.packet) ms) h in
    beside_both k st (by_entities (made (item.Post p)) ∷ []) (map by_entities ms) (post_shown k st p.from p.to p.body n.0) (entities_shown (known_after k (item.Post p)) (after st (by_entities (made (item.Post p)))) ms n.1)
entities_shown k st (m ∷ ms) h = absurd (true≢false (sym (and_both (is_shown_move k.packet m) (list_all (is_shown_move k.packet) ms) h).0))

untaking : (got : Option Packet) (m : Move) → is_shown_move got m ≡ true → is_untaking m ≡ true
untaking got (took s list) h = absurd (true≢false (sym h))
untaking got m h = refl

pub all_untaking : (got : Option Packet) (ms : List Move) → list_all (is_shown_move got) ms ≡ true → list_all is_untaking ms ≡ true
all_untaking got ms h = all_map (is_shown_move got) is_untaking (untaking got) ms h

-- a node stays tidy by such moves of an entity that is calm after them
pub entities_tidy : (got : Option Packet) (st : Node) (ms : List Move) → list_all (is_shown_move got) ms ≡ true → AreCalm (fold entities_after st.entities ms) → IsTidy st → IsTidy (fold after st (map by_entities ms))
entities_tidy got st ms h calm tidy = subst IsTidy (sym (entities_alone st ms)) (record { routed = routed_by_entities st.region st.entities ms (all_untaking got ms h) tidy.routed; started = calm })

-- Deliver.

-- what is so of each move that writes
writes_all : (p : Move → Bool) (m : Message) (st : Entities) (r : Record) (pos : ℕ) → p (told (fact.WriteFailed st.who m.entity)) ≡ true → p (told (fact.Wrote m.entity r)) ≡ true → p (told (fact.Snapshot m.entity r.number)) ≡ true
    → p (post st.who m.origin (body.Ack m.producer m.entity pos)) ≡ true → p (post st.who m.origin (body.Request m.producer m.entity pos (pos + st.set.config.window))) ≡ true → (o : Option Keep) → list_all p (entities.write m r pos st o) ≡ true
writes_all p m st r pos failed wrote saved acks asks (Some keep.Lost) = both (p (told (fact.WriteFailed st.who m.entity))) true failed refl
writes_all p m st r pos failed wrote saved acks asks (Some keep.Kept) = both (p (told (fact.Wrote m.entity r))) (p (told (fact.WriteFailed st.who m.entity)) && true) wrote (both (p (told (fact.WriteFailed st.who m.entity))) true failed refl)
writes_all p m st r pos failed wrote saved acks asks None =
    let ack : Move = post st.who m.origin (body.Ack m.producer m.entity pos) in
    let ask : Move = post st.who m.origin (body.Request m.producer m.entity pos (pos + st.set.config.window)) in
    let save : Move = told (fact.Snapshot m.entity r.number) in
    let rest : List Move = ack ∷ entities.ask_more m pos st in
    both (p (told (fact.Wrote m.entity r))) (list_all p (entities.snapshot_at m.entity r.number st ++ rest)) wrote
    (all_join p (entities.snapshot_at m.entity r.number st) rest
    (all_if p (r.number % st.set.config.snapshot == 0) (save ∷ []) [] (both (p save) true saved refl) refl)
    (both (p ack) (list_all p (entities.ask_more m pos st)) acks
    (all_if p (nat_le (slice_index_or (cell st m.entity).reach (m.producer - 1) 0) (pos + st.set.config.window / 2)) (ask ∷ []) [] (both (p ask) true asks refl) refl)))

-- what is so of each post and fact to an Active entity
active_all : (p : Move → Bool) (m : Message) (st : Entities) (pos : ℕ) (records : List Record) → ((r : Record) → p (told (fact.Wrote m.entity r)) ≡ true) → ((n : ℕ) → p (told (fact.Snapshot m.entity n)) ≡ true) → p (told (fact.WriteFailed st.who m.entity)) ≡ true
    → ((n : ℕ) → p (post st.who m.origin (body.Ack m.producer m.entity n)) ≡ true) → ((n : ℕ) → p (post st.who m.origin (body.Resend m.producer m.entity n)) ≡ true) → ((n u : ℕ) → p (post st.who m.origin (body.Request m.producer m.entity n u)) ≡ true)
    → list_all p (entities.deliver_at m pos records st) ≡ true
active_all p m st pos records wrote saved failed acks resends asks =
    let ack : Move = post st.who m.origin (body.Ack m.producer m.entity pos) in
    let resend : Move = post st.who m.origin (body.Resend m.producer m.entity (pos + 1)) in
    let r : Record = entities.record_of m st records in
    let last : List Move = entities.write m r (pos + 1) st (cell st m.entity).armed in
    all_if p (nat_le m.number pos) (ack ∷ []) (if nat_lt (pos + 1) m.number then resend ∷ [] else last) (both (p ack) true (acks pos) refl)
    (all_if p (nat_lt (pos + 1) m.number) (resend ∷ []) last (both (p resend) true (resends (pos + 1)) refl)
    (writes_all p m st r (pos + 1) failed (wrote r) (saved r.number) (acks (pos + 1)) (asks (pos + 1) (pos + 1 + st.set.config.window)) (cell st m.entity).armed))

-- what is so of each move that delivers
pub deliver_all : (p : Move → Bool) (m : Message) (st : Entities) → ((r : Record) → p (told (fact.Wrote m.entity r)) ≡ true) → ((n : ℕ) → p (told (fact.Snapshot m.entity n)) ≡ true) → p (told (fact.WriteFailed st.who m.entity)) ≡ true
    → ((n : ℕ) → p (post st.who m.origin (body.Ack m.producer m.entity n)) ≡ true) → ((n : ℕ) → p (post st.who m.origin (body.Resend m.producer m.entity n)) ≡ true) → ((n u : ℕ) → p (post st.who m.origin (body.Request m.producer m.entity n u)) ≡ true)
    → p (told (fact.Start st.who m.entity)) ≡ true → p (post st.who st.who (body.Recovered m.entity)) ≡ true → p (told (fact.Stashed st.who m)) ≡ true → p (told (fact.Dropped st.who m)) ≡ true → list_all p (entities.deliver m st) ≡ true
deliver_all p m st wrote saved failed acks resends asks starts recovers stashed dropped = by (cell st m.entity).phase
  where
    stash : list_all p (entities.stash_message m st) ≡ true
    stash = all_if p (nat_lt (length (cell st m.entity).stash) st.set.config.window) (told (fact.Stashed st.who m) ∷ []) (told (fact.Dropped st.who m) ∷ []) (both (p (told (fact.Stashed st.who m))) true stashed refl) (both (p (told (fact.Dropped st.who m))) true dropped refl)

    by : (x : Phase) → list_all p (entities.deliver_by m st x) ≡ true
    by phase.Absent = both (p (told (fact.Start st.who m.entity))) (p (post st.who st.who (body.Recovered m.entity)) && (p (told (fact.Stashed st.who m)) && true)) starts
        (both (p (post st.who st.who (body.Recovered m.entity))) (p (told (fact.Stashed st.who m)) && true) recovers (both (p (told (fact.Stashed st.who m))) true stashed refl))
    by phase.Active = let records : List Record = journal m.entity (entities.entries st m.entity) in active_all p m st (position m.producer records) records wrote saved failed acks resends asks
    by phase.Loading = stash
    by phase.Stopping = stash

pub deliver_moves : (got : Option Packet) (m : Message) (st : Entities) → list_all (is_shown_move got) (entities.deliver m st) ≡ true
deliver_moves got m st = deliver_all (is_shown_move got) m st (λ r. refl) (λ n. refl) refl (λ n. refl) (λ n. refl) (λ n u. refl) refl refl refl refl

-- they are of the message's entity
delivers_of : (m : Message) (st : Entities) → AreOf m.entity (entities.deliver m st)
delivers_of m st = by (cell st m.entity).phase
  where
    stash : AreOf m.entity (entities.stash_message m st)
    stash = of_if m.entity (nat_lt (length (cell st m.entity).stash) st.set.config.window) (told (fact.Stashed st.who m) ∷ []) (told (fact.Dropped st.who m) ∷ []) (refl, tt) (refl, tt)

    write : (r : Record) (pos : ℕ) (o : Option Keep) → AreOf m.entity (entities.write m r pos st o)
    write r pos (Some keep.Lost) = (refl, tt)
    write r pos (Some keep.Kept) = (tt, (refl, tt))
    write r pos None =
        let ask : Move = post st.who m.origin (body.Request m.producer m.entity pos (pos + st.set.config.window)) in
        let rest : List Move = post st.who m.origin (body.Ack m.producer m.entity pos) ∷ entities.ask_more m pos st in (
          tt,
          of_both m.entity (entities.snapshot_at m.entity r.number st) rest
              (of_if m.entity (r.number % st.set.config.snapshot == 0) (told (fact.Snapshot m.entity r.number) ∷ []) [] (tt, tt) tt)
              (tt, of_if m.entity (nat_le (slice_index_or (cell st m.entity).reach (m.producer - 1) 0) (pos + st.set.config.window / 2)) (ask ∷ []) [] (refl, tt) tt),
        )

    active : (pos : ℕ) (records : List Record) → AreOf m.entity (entities.deliver_at m pos records st)
    active pos records =
        let last : List Move = entities.write m (entities.record_of m st records) (pos + 1) st (cell st m.entity).armed in
        let resends : List Move = post st.who m.origin (body.Resend m.producer m.entity (pos + 1)) ∷ [] in
        of_if m.entity (nat_le m.number pos) (post st.who m.origin (body.Ack m.producer m.entity pos) ∷ []) (if nat_lt (pos + 1) m.number then resends else last) (tt, tt)
        (of_if m.entity (nat_lt (pos + 1) m.number) resends last (tt, tt) (write (entities.record_of m st records) (pos + 1) (cell st m.entity).armed))

    by : (p : Phase) → AreOf m.entity (entities.deliver_by m st p)
    by phase.Absent = (refl, (tt, (refl, tt)))
    by phase.Active = let records : List Record = journal m.entity (entities.entries st m.entity) in active (position m.producer records) records
    by phase.Loading = stash
    by phase.Stopping = stash

-- its cell is calm after them, where it was before
deliver_own : (m : Message) (st : Entities) → IsCalm (cell st m.entity) → IsCalm (fold cell_on (cell st m.entity) (entities.deliver m st))
deliver_own m st calm = by (cell st m.entity).phase refl
  where
    stash : (p : Phase) → (cell st m.entity).phase ≡ p → is_calm p ≡ false → (b : Bool) → IsCalm (fold cell_on (cell st m.entity) (if b then told (fact.Stashed st.who m) ∷ [] else told (fact.Dropped st.who m) ∷ []))
    stash p e other true h = absurd (true≢false (sym h ∙ (ap is_calm e ∙ other)))
    stash p e other false h = absurd (true≢false (sym h ∙ (ap is_calm e ∙ other)))

    by : (p : Phase) → (cell st m.entity).phase ≡ p → IsCalm (fold cell_on (cell st m.entity) (entities.deliver_by m st p))
    by phase.Absent e = λ h. absurd (true≢false (sym h))
    by phase.Active e = λ h. let records : List Record = journal m.entity (entities.entries st m.entity) in
        empty_stash (cell st m.entity) (entities.deliver_at m (position m.producer records) records st)
        (active_all is_unstashing m st (position m.producer records) records (λ r. refl) (λ n. refl) refl (λ n. refl) (λ n. refl) (λ n u. refl)) (calm (ap is_calm e))
    by phase.Loading e = stash phase.Loading e refl (nat_lt (length (cell st m.entity).stash) st.set.config.window)
    by phase.Stopping e = stash phase.Stopping e refl (nat_lt (length (cell st m.entity).stash) st.set.config.window)

pub deliver_calm : (m : Message) (st : Entities) → AreCalm st → AreCalm (fold entities_after st (entities.deliver m st))
deliver_calm m st calm = calm_of st m.entity (entities.deliver m st) (delivers_of m st) calm (deliver_own m st (calm m.entity))

pub deliver_shown : (k : Known) (m : Message) (st : Node) → AreShownBeside k st (map by_entities (entities.deliver m st.entities))
deliver_shown k m st = entities_shown k st (entities.deliver m st.entities) (deliver_moves k.packet m st.entities)

pub deliver_tidy : (m : Message) (st : Node) → IsTidy st → IsTidy (fold after st (map by_entities (entities.deliver m st.entities)))
deliver_tidy m st tidy = entities_tidy None st (entities.deliver m st.entities) (deliver_moves None m st.entities) (deliver_calm m st.entities tidy.started) tidy

-- Recovery.

-- several messages one after another
each_moves : (got : Option Packet) (ms : List Message) (st : Entities) → list_all (is_shown_move got) (for_each entities_after entities.deliver ms st) ≡ true
each_moves got [] st = refl
each_moves got (m ∷ ms) st =
    let first : List Move = entities.deliver m st in
    all_join (is_shown_move got) first (for_each entities_after entities.deliver ms (fold entities_after st first)) (deliver_moves got m st) (each_moves got ms (fold entities_after st first))

each_calm : (ms : List Message) (st : Entities) → AreCalm st → AreCalm (fold entities_after st (for_each entities_after entities.deliver ms st))
each_calm [] st calm = calm
each_calm (m ∷ ms) st calm =
    let first : List Move = entities.deliver m st in
    let later : Entities = fold entities_after st first in
    subst AreCalm (sym (fold-append entities_after st first (for_each entities_after entities.deliver ms later))) (each_calm ms later (deliver_calm m st calm))

remembers : (p : Move → Bool) (e : List ℕ) (st : Entities) → p (told (fact.Remembered e)) ≡ true → list_all p (entities.remember e st) ≡ true
remembers p e st h = all_if p (st.set.config.remember && not (is_remembered e (entities.entries st e))) (told (fact.Remembered e) ∷ []) [] (both (p (told (fact.Remembered e))) true h refl) refl

recovered_moves : (got : Option Packet) (e : List ℕ) (st : Entities) → list_all (is_shown_move got) (entities.recovered e st) ≡ true
recovered_moves got e st =
    let first : List Move = entities.activate e st in
    let later : Entities = fold entities_after st first in
    all_if (is_shown_move got) (entities.is_in_phase phase.Loading st e) (in_turn entities_after (entities.activate e) (for_each entities_after entities.deliver (cell st e).stash) st) []
    (all_join (is_shown_move got) first (for_each entities_after entities.deliver (cell st e).stash later) (remembers (is_shown_move got) e st refl) (each_moves got (cell st e).stash later)) refl

calm_if : (st : Entities) (b : Bool) (xs ys : List Move) → (b ≡ true → AreCalm (fold entities_after st xs)) → (b ≡ false → AreCalm (fold entities_after st ys)) → AreCalm (fold entities_after st (if b then xs else ys))
calm_if st true xs ys f g = f refl
calm_if st false xs ys f g = g refl

recovered_calm : (e : List ℕ) (st : Entities) → AreCalm st → AreCalm (fold entities_after st (entities.recovered e st))
recovered_calm e st calm =
    let first : List Move = entities.activate e st in
    let later : Entities = fold entities_after st first in
    calm_if st (entities.is_in_phase phase.Loading st e) (in_turn entities_after (entities.activate e) (for_each entities_after entities.deliver (cell st e).stash) st) []
    (λ b. subst AreCalm (sym (fold-append entities_after st first (for_each entities_after entities.deliver (cell st e).stash later)))
    (each_calm (cell st e).stash later (calm_all st first (remembers is_calming e st refl) calm)))
    (λ b. calm)

pub recovered_shown : (k : Known) (e : List ℕ) (st : Node) → AreShownBeside k st (of_entities (entities.recovered e) st)
recovered_shown k e st = entities_shown k st (entities.recovered e st.entities) (recovered_moves k.packet e st.entities)

pub recovered_tidy : (e : List ℕ) (st : Node) → IsTidy st → IsTidy (fold after st (of_entities (entities.recovered e) st))
recovered_tidy e st tidy = entities_tidy None st (entities.recovered e st.entities) (recovered_moves None e st.entities) (recovered_calm e st.entities tidy.started) tidy

-- Passivation.

-- an entity passivates before or after its post
passivates_either : (st : Entities) (e : List ℕ) → fold entities_after st (post st.who st.who (body.StopEntity e) ∷ passivates e ∷ []) ≡ fold entities_after st (passivates e ∷ post st.who st.who (body.StopEntity e) ∷ [])
passivates_either st e = ap (λ cells. record st { cells = cells })
    (cells_of st e (post st.who st.who (body.StopEntity e) ∷ passivates e ∷ []) (refl, (refl, tt)) ∙ sym (cells_of st e (passivates e ∷ post st.who st.who (body.StopEntity e) ∷ []) (refl, (refl, tt))))

pub passivate_shown : (k : Known) (e : List ℕ) (st : Node) → is_passivate k.packet ≡ true → AreShownBeside k st (of_entities (entities.passivate e) st)
passivate_shown k e st is = by (entities.is_in_phase phase.Active st.entities e)
  where
    m : Move
    m = post st.entities.who st.entities.who (body.StopEntity e)

    p : Packet
    p = record { from = st.entities.who; to = st.entities.who; body = body.StopEntity e }

    by : (b : Bool) → AreShownBeside k st (map by_entities (if b then passivates e ∷ m ∷ [] else []))
    by false = λ ps. refl
    by true = λ ps.
        let now : Node = with_producers ps st in
        subst (λ b. fold after now (show_item (fact.Sent 0 p) now ++ (if b then by_entities (passivates e) ∷ [] else [])) ≡ with_producers ps (fold after st (by_entities (passivates e) ∷ by_entities m ∷ []))) (sym is)
        (ap₂ (λ n o. record now { entities = n; coordinator = o }) (passivates_either st.entities e) (same_some m st.coordinator (λ x. refl)))

pub passivate_tidy : (e : List ℕ) (st : Node) → IsTidy st → IsTidy (fold after st (of_entities (entities.passivate e) st))
passivate_tidy e st tidy = by (entities.is_in_phase phase.Active st.entities e)
  where
    ms : List Move
    ms = passivates e ∷ post st.entities.who st.entities.who (body.StopEntity e) ∷ []

    by : (b : Bool) → IsTidy (fold after st (map by_entities (if b then ms else [])))
    by false = tidy
    by true = record { routed = routed_by_entities st.region st.entities ms refl tidy.routed; started = calm_all st.entities ms refl tidy.started }

-- Stopping.

-- what is so of each move that frees a shard
free_all : (p : Move → Bool) (s : ℕ) (st : Entities) → ((n : ℕ) → p (told (fact.Freed (slot.Shard s) n cause.Released)) ≡ true) → ((to : Incarnation) (stamp : Stamp) → p (post st.who to (body.ShardStopped s stamp)) ≡ true) → list_all p (entities.free_if_left s st) ≡ true
free_all p s st freed stopped = all_some p (λ k. if is_empty (entities.entities_of st s) then free k else []) (option_and_then (λ h. h.stopping) (entities.hosted st s))
    (λ k. all_if p (is_empty (entities.entities_of st s)) (free k) []
    (both (p (told (fact.Freed (slot.Shard s) n cause.Released))) (p (post st.who k.to (body.ShardStopped s k.stamp)) && true) (freed n) (both (p (post st.who k.to (body.ShardStopped s k.stamp))) true (stopped k.to k.stamp) refl)) refl)
  where
    n : ℕ
    n = epoch (entities.entries_in (entities.hosted st s))

    free : Stopping → List Move
    free k = told (fact.Freed (slot.Shard s) n cause.Released) ∷ post st.who k.to (body.ShardStopped s k.stamp) ∷ []

-- they are of no entity
frees_of : (e : List ℕ) (s : ℕ) (st : Entities) → AreOf e (entities.free_if_left s st)
frees_of e s st = by (option_and_then (λ h. h.stopping) (entities.hosted st s))
  where
    by : (o : Option Stopping) → AreOf e (where_some (λ k. if is_empty (entities.entities_of st s) then told (fact.Freed (slot.Shard s) (epoch (entities.entries_in (entities.hosted st s))) cause.Released) ∷ post st.who k.to (body.ShardStopped s k.stamp) ∷ [] else []) o)
    by None = tt
    by (Some k) = of_if e (is_empty (entities.entities_of st s)) (told (fact.Freed (slot.Shard s) (epoch (entities.entries_in (entities.hosted st s))) cause.Released) ∷ post st.who k.to (body.ShardStopped s k.stamp) ∷ []) [] (tt, (tt, tt)) tt

abbrev drops : Incarnation → List Message → List Move
drops who ms = map (λ m. told (fact.Dropped who m)) ms

drops_all : (p : Move → Bool) (who : Incarnation) (ms : List Message) → ((m : Message) → p (told (fact.Dropped who m)) ≡ true) → list_all p (drops who ms) ≡ true
drops_all p who [] h = refl
drops_all p who (m ∷ ms) h = both (p (told (fact.Dropped who m))) (list_all p (drops who ms)) (h m) (drops_all p who ms h)

drops_of : (c : Script) (e : List ℕ) (who : Incarnation) (ms : List Message) → list_all (is_for c e) ms ≡ true → AreOf e (drops who ms)
drops_of c e who [] h = tt
drops_of c e who (m ∷ ms) h =
    let n : (is_for c e m ≡ true) × (list_all (is_for c e) ms ≡ true) = and_both (is_for c e m) (list_all (is_for c e) ms) h in
    (same_name m.entity e (and_both (is_genuine c m && is_producer c m.producer) (is_name m.entity e) n.0).1, drops_of c e who ms n.1)

absent_drop : (p : Phase) (s : List Message) (who : Incarnation) (m : Message) → p ≡ phase.Absent → stash_step p s (told (fact.Dropped who m)) ≡ drop 1 s
absent_drop p s who m e = ap (λ x. stash_step x s (told (fact.Dropped who m))) e

-- the stash of an entity that is stopped, dropped whole
drops_empty : (x : Cell) (who : Incarnation) (ms : List Message) → x.phase ≡ phase.Absent → x.stash ≡ ms → (fold cell_on x (drops who ms)).stash ≡ []
drops_empty x who [] absent e = e
drops_empty x who (m ∷ ms) absent e = drops_empty (cell_after x (told (fact.Dropped who m))) who ms absent (absent_drop x.phase x.stash who m absent ∙ ap (drop 1) e)

forgets_all : (p : Move → Bool) (e : List ℕ) (st : Entities) → p (told (fact.Forgotten e)) ≡ true → list_all p (entities.forget_passivated e st) ≡ true
forgets_all p e st h = all_if p ((cell st e).passivating && is_remembered e (entities.entries st e)) (told (fact.Forgotten e) ∷ []) [] (both (p (told (fact.Forgotten e))) true h refl) refl

-- what stops, and what goes on after it
abbrev first_stop : List ℕ → Entities → List Move
first_stop e st = told (fact.Stop st.who e) ∷ entities.forget_passivated e st

after_stop_all : (p : Move → Bool) (e : List ℕ) (st : Entities) → ((m : Message) → p (told (fact.Dropped st.who m)) ≡ true) → p (told (fact.Start st.who e)) ≡ true → p (post st.who st.who (body.Recovered e)) ≡ true
    → ((who : Incarnation) (s n : ℕ) → p (told (fact.Freed (slot.Shard s) n cause.Released)) ≡ true) → ((who : Incarnation) (s : ℕ) (to : Incarnation) (stamp : Stamp) → p (post who to (body.ShardStopped s stamp)) ≡ true) → list_all p (entities.after_stop e st) ≡ true
after_stop_all p e st dropped starts recovers freed stopped =
    let s : ℕ = shard_of st.set e in
    let first : List Move = entities.drop_stash e st in
    let later : Entities = fold entities_after st first in
    all_if p (is_running st s) (if is_empty (cell st e).stash then [] else entities.start_entity e st) (first ++ entities.free_if_left s later)
    (all_if p (is_empty (cell st e).stash) [] (entities.start_entity e st) refl (both (p (told (fact.Start st.who e))) (p (post st.who st.who (body.Recovered e)) && true) starts (both (p (post st.who st.who (body.Recovered e))) true recovers refl)))
    (all_join p first (entities.free_if_left s later) (drops_all p st.who (cell st e).stash dropped) (free_all p s later (λ n. freed later.who s n) (λ to stamp. stopped later.who s to stamp)))

stop_moves : (got : Option Packet) (e : List ℕ) (st : Entities) → list_all (is_shown_move got) (entities.stop e st) ≡ true
stop_moves got e st =
    let first : List Move = first_stop e st in
    let later : Entities = fold entities_after st first in
    all_if (is_shown_move got) (entities.is_in_phase phase.Stopping st e) (first ++ entities.after_stop e later) []
    (all_join (is_shown_move got) first (entities.after_stop e later) (forgets_all (is_shown_move got) e st refl) (after_stop_all (is_shown_move got) e later (λ m. refl) refl refl (λ who s n. refl) (λ who s to stamp. refl))) refl

-- the entity's own cell after the stop: it doesn't exist, and keeps its stash
stopped_cell : (x : Cell) (who : Incarnation) (e : List ℕ) (b : Bool) → let first : List Move = told (fact.Stop who e) ∷ (if b then told (fact.Forgotten e) ∷ [] else []) in fold cell_on x first ≡ cell_after x (told (fact.Stop who e))
stopped_cell x who e true = refl
stopped_cell x who e false = refl

-- what goes on after the stop leaves the cell calm
after_stop_own : (x : Cell) (e : List ℕ) (st : Entities) → cell st e ≡ x → x.phase ≡ phase.Absent → IsCalm (fold cell_on x (entities.after_stop e st))
after_stop_own x e st is absent = by (is_running st s) (is_empty (cell st e).stash) refl
  where
    s : ℕ
    s = shard_of st.set e

    first : List Move
    first = entities.drop_stash e st

    later : Entities
    later = fold entities_after st first

    empty : (l : List Message) → is_empty l ≡ true → l ≡ []
    empty [] h = refl
    empty (m ∷ l) h = absurd (true≢false (sym h))

    by : (a b : Bool) → is_empty (cell st e).stash ≡ b → IsCalm (fold cell_on x (if a then (if b then [] else entities.start_entity e st) else first ++ entities.free_if_left s later))
    by true true h calm = ap (λ (y : Cell). y.stash) (sym is) ∙ empty (cell st e).stash h
    by true false h calm = absurd (true≢false (sym calm))
    by false b h calm = ap (λ (y : Cell). y.stash) (fold-append cell_on x first (entities.free_if_left s later))
        ∙ empty_stash (fold cell_on x first) (entities.free_if_left s later) (free_all is_unstashing s later (λ n. refl) (λ to stamp. refl)) (drops_empty x st.who (cell st e).stash absent (ap (λ (y : Cell). y.stash) (sym is)))

after_stop_of : (c : Script) (e : List ℕ) (st : Entities) → list_all (is_for c e) (cell st e).stash ≡ true → AreOf e (entities.after_stop e st)
after_stop_of c e st good =
    let s : ℕ = shard_of st.set e in
    let first : List Move = entities.drop_stash e st in
    let later : Entities = fold entities_after st first in
    of_if e (is_running st s) (if is_empty (cell st e).stash then [] else entities.start_entity e st) (first ++ entities.free_if_left s later)
    (of_if e (is_empty (cell st e).stash) [] (entities.start_entity e st) tt (refl, (tt, tt)))
    (of_both e first (entities.free_if_left s later) (drops_of c e st.who (cell st e).stash good) (frees_of e s later))

stop_calm : (c : Script) (e : List ℕ) (st : Entities) → IsEntities c st → is_brought c e ≡ true → AreCalm st → AreCalm (fold entities_after st (entities.stop e st))
stop_calm c e st is brought calm = calm_if st (entities.is_in_phase phase.Stopping st e) (first ++ entities.after_stop e later) [] (λ b. calm_of st e (first ++ entities.after_stop e later) of calm own) (λ b. calm)
  where
    first : List Move
    first = first_stop e st

    later : Entities
    later = fold entities_after st first

    there : place st.set e < length st.cells
    there = subst (λ n. place st.set e < n) (sym is.cells_there) (place_below c st.set e is.set_is brought)

    of_first : AreOf e first
    of_first = (refl, of_if e ((cell st e).passivating && is_remembered e (entities.entries st e)) (told (fact.Forgotten e) ∷ []) [] (tt, tt) tt)

    stopped : Cell
    stopped = cell_after (cell st e) (told (fact.Stop st.who e))

    on_first : fold cell_on (cell st e) first ≡ stopped
    on_first = stopped_cell (cell st e) st.who e ((cell st e).passivating && is_remembered e (entities.entries st e))

    at_first : cell later e ≡ stopped
    at_first = cell_now st e first there of_first ∙ on_first

    of : AreOf e (first ++ entities.after_stop e later)
    of = of_both e first (entities.after_stop e later) of_first (after_stop_of c e later (subst (λ (x : Cell). list_all (is_for c e) x.stash ≡ true) (sym at_first) (is.stashed e brought)))

    own : IsCalm (fold cell_on (cell st e) (first ++ entities.after_stop e later))
    own = subst IsCalm (sym (fold-append cell_on (cell st e) first (entities.after_stop e later) ∙ ap (λ x. fold cell_on x (entities.after_stop e later)) on_first)) (after_stop_own stopped e later at_first refl)

pub stop_shown : (k : Known) (e : List ℕ) (st : Node) → AreShownBeside k st (of_entities (entities.stop e) st)
stop_shown k e st = entities_shown k st (entities.stop e st.entities) (stop_moves k.packet e st.entities)

pub stop_tidy : (c : Script) (e : List ℕ) (st : Node) → IsEntities c st.entities → is_brought c e ≡ true → IsTidy st → IsTidy (fold after st (of_entities (entities.stop e) st))
stop_tidy c e st is brought tidy = entities_tidy None st (entities.stop e st.entities) (stop_moves None e st.entities) (stop_calm c e st.entities is brought tidy.started) tidy

-- HandOff of a hosted shard: the delivery shows that it is handed off.

abbrev stop_posts : Incarnation → List (List ℕ) → List Move
stop_posts who es = map (λ e. post who who (body.StopEntity e)) es

stop_posts_all : (p : Move → Bool) (who : Incarnation) (es : List (List ℕ)) → ((e : List ℕ) → p (post who who (body.StopEntity e)) ≡ true) → list_all p (stop_posts who es) ≡ true
stop_posts_all p who [] h = refl
stop_posts_all p who (e ∷ es) h = both (p (post who who (body.StopEntity e))) (list_all p (stop_posts who es)) (h e) (stop_posts_all p who es h)

hand_off_rest : (p : Move → Bool) (s : ℕ) (st later : Entities) → ((e : List ℕ) → p (post st.who st.who (body.StopEntity e)) ≡ true) → ((n : ℕ) → p (told (fact.Freed (slot.Shard s) n cause.Released)) ≡ true) → ((to : Incarnation) (stamp : Stamp) → p (post later.who to (body.ShardStopped s stamp)) ≡ true)
    → list_all p (stop_posts st.who (entities.entities_of st s) ++ entities.free_if_left s later) ≡ true
hand_off_rest p s st later stops freed stopped = all_join p (stop_posts st.who (entities.entities_of st s)) (entities.free_if_left s later) (stop_posts_all p st.who (entities.entities_of st s) stops) (free_all p s later freed stopped)

pub hands_off_shown : (k : Known) (s : ℕ) (stamp : Stamp) (from : Incarnation) (st : Node) → is_passivate k.packet ≡ false → (ps : List (Option Producer))
    → shown k (with_producers ps (after st (by_entities (handed_off s stamp from)))) (items_of (of_entities (entities.hand_off s stamp from) st)) ≡ with_producers ps (fold after st (of_entities (entities.hand_off s stamp from) st))
hands_off_shown k s stamp from st is =
    let posts : List Move = stop_posts st.entities.who (entities.entities_of st.entities s) in
    let later : Entities = fold entities_after st.entities (handed_off s stamp from ∷ posts) in
    entities_shown k (after st (by_entities (handed_off s stamp from))) (posts ++ entities.free_if_left s later) (hand_off_rest (is_shown_move k.packet) s st.entities later (λ e. ap not is) (λ n. refl) (λ to stamp. refl))

pub hands_off_tidy : (s : ℕ) (stamp : Stamp) (from : Incarnation) (st : Node) → IsTidy st → IsTidy (fold after st (of_entities (entities.hand_off s stamp from) st))
hands_off_tidy s stamp from st tidy =
    let first : Move = handed_off s stamp from in
    let posts : List Move = stop_posts st.entities.who (entities.entities_of st.entities s) in
    let later : Entities = fold entities_after st.entities (first ∷ posts) in
    let ms : List Move = posts ++ entities.free_if_left s later in
    subst IsTidy (sym (entities_alone st (first ∷ ms))) (record {
      routed = routed_by_entities st.region st.entities (first ∷ ms) (hand_off_rest is_untaking s st.entities later (λ e. refl) (λ n. refl) (λ to stamp. refl)) tidy.routed;
      started = calm_all st.entities (first ∷ ms) (hand_off_rest is_calming s st.entities later (λ e. refl) (λ n. refl) (λ to stamp. refl)) tidy.started;
    })

-- The tick, and what the script's orders tell the entities.

ticks_all : (p : Move → Bool) (st : Entities) → ((e : List ℕ) → p (post st.who st.who (body.Recovered e)) ≡ true) → ((e : List ℕ) → p (post st.who st.who (body.StopEntity e)) ≡ true) → list_all p (entities.tick_entities st) ≡ true
ticks_all p st recovers stops = all_each p (λ s. flat_map (λ e. entities.remind_by e st (cell st e).phase) (entities.entities_of st s)) (shards st.set)
    (λ s. all_each p (λ e. entities.remind_by e st (cell st e).phase) (entities.entities_of st s) (λ e. by e (cell st e).phase))
  where
    by : (e : List ℕ) (x : Phase) → list_all p (entities.remind_by e st x) ≡ true
    by e phase.Absent = refl
    by e phase.Loading = both (p (post st.who st.who (body.Recovered e))) true (recovers e) refl
    by e phase.Active = refl
    by e phase.Stopping = both (p (post st.who st.who (body.StopEntity e))) true (stops e) refl

pub tick_entities_shown : (k : Known) (st : Node) → is_passivate k.packet ≡ false → AreShownBeside k st (of_entities entities.tick_entities st)
tick_entities_shown k st is = entities_shown k st (entities.tick_entities st.entities) (ticks_all (is_shown_move k.packet) st.entities (λ e. refl) (λ e. ap not is))

pub tick_entities_tidy : (st : Node) → IsTidy st → IsTidy (fold after st (of_entities entities.tick_entities st))
tick_entities_tidy st tidy = entities_tidy None st (entities.tick_entities st.entities) (ticks_all (is_shown_move None) st.entities (λ e. refl) (λ e. refl)) (calm_all st.entities (entities.tick_entities st.entities) (ticks_all is_calming st.entities (λ e. refl) (λ e. refl)) tidy.started) tidy

arm_all : (p : Move → Bool) (e : List ℕ) (a : Keep) (st : Entities) → p (told (fact.Armed e a)) ≡ true → list_all p (entities.arm e a st) ≡ true
arm_all p e a st is = all_if p (entities.is_in_phase phase.Active st e) (told (fact.Armed e a) ∷ []) [] (both (p (told (fact.Armed e a))) true is refl) refl

pub armed_shown : (k : Known) (e : List ℕ) (a : Keep) (st : Node) → AreShownBeside k st (of_entities (entities.arm e a) st)
armed_shown k e a st = entities_shown k st (entities.arm e a st.entities) (arm_all (is_shown_move k.packet) e a st.entities refl)

pub armed_tidy : (e : List ℕ) (a : Keep) (st : Node) → IsTidy st → IsTidy (fold after st (of_entities (entities.arm e a) st))
armed_tidy e a st tidy = entities_tidy None st (entities.arm e a st.entities) (arm_all (is_shown_move None) e a st.entities refl) (calm_all st.entities (entities.arm e a st.entities) (arm_all is_calming e a st.entities refl) tidy.started) tidy

asks_all : (p : Move → Bool) (e : List ℕ) (st : Entities) → p (post st.who st.who (body.Passivate e)) ≡ true → list_all p (entities.ask_to_passivate e st) ≡ true
asks_all p e st is = all_if p (entities.is_in_phase phase.Active st e) (post st.who st.who (body.Passivate e) ∷ []) [] (both (p (post st.who st.who (body.Passivate e))) true is refl) refl

pub asks_passivate_shown : (k : Known) (e : List ℕ) (st : Node) → AreShownBeside k st (of_entities (entities.ask_to_passivate e) st)
asks_passivate_shown k e st = entities_shown k st (entities.ask_to_passivate e st.entities) (asks_all (is_shown_move k.packet) e st.entities refl)

pub asks_passivate_tidy : (e : List ℕ) (st : Node) → IsTidy st → IsTidy (fold after st (of_entities (entities.ask_to_passivate e) st))
asks_passivate_tidy e st tidy = entities_tidy None st (entities.ask_to_passivate e st.entities) (asks_all (is_shown_move None) e st.entities refl) (calm_all st.entities (entities.ask_to_passivate e st.entities) (asks_all is_calming e st.entities refl) tidy.started) tidy
