-- What a move makes of a producer, and that it stands after it.
use Rattle.std.proofs.Common.{◌≡◌, ℕ, ◌<◌, ◌≤◌, ◌+◌, ◌-◌, List, [], ◌∷◌, ◌++◌, length, map, sym, ap, subst, ◌∙◌, refl, false, arith, get_or-set_same, get_or-set_other}
use Rattle.std.specs.Prelude.{Option, Some, max, slice_set, slice_index_or, slice_get}
use Rattle.std.specs.List.Sorted.{IsStrictlySortedBy}
use Rattle.std.specs.Ordering.{nat_cmp}
use Rattle.std.specs.Cmp.Lexicographic.{slice_cmp}
use Rattle.std.proofs.lemmas.List.{map-set, length-set, length-append, get_or-map, get_or_default}
use Rattle.std.proofs.lemmas.List.Sums.{fold-append}
use Rattle.std.proofs.Math.Seq.{map-set_same}
use Rattle.yard_model.specs.declared.charter.Sending.{Sending}
use Rattle.yard_model.specs.declared.event.Command.{Command}
use Rattle.yard_model.specs.declared.fact.Fact.{Fact}
use Rattle.yard_model.specs.declared.fact.Fact.TheVariants as fact
use Rattle.yard_model.specs.declared.incarnation.Incarnation.{Incarnation}
use Rattle.yard_model.specs.Move.{Move, told, demanded, pushed}
use Rattle.yard_model.specs.Producer.{Progress, no_progress, progress_in, pairs_step, queue_step, queue, next_sending}
use Rattle.yard_model.specs.Script.{Script, Setting, setting, sends, is_name}
use Rattle.yard_model.specs.Setting.{place}
use Rattle.yard_model.specs.SlotReads.{holder_step, queued_in_all, commands, commands_step, confirmed, confirmed_step, queued, holder}
use Rattle.durable_queue.specs.Queue.{Queue}
use Rattle.plain_laws.proofs.Lists.{by_place, of_write}
use Rattle.plain_laws.proofs.Names.{name_itself}
use Rattle.name_index.proofs.NameLaws.{another_name}
use Rattle.send_window.specs.declared.pair.Pair.{Pair}
use Rattle.producer_ctl.specs.declared.place.Place.{Place}
use Rattle.producer_ctl.specs.Paired.{IsPair, IsPlace, is_waiting, name_at, no_pair, progress_of}
use Rattle.producer_ctl.specs.Produced.{Produced, IsProduced, produced, moved, room_step}

-- a place of the script that contracts see is one of the script that is kept
pub placed_in : {who : Incarnation} {number : ℕ} {store : Queue} {pairs : List Pair} {v : Produced} {p : Place} → IsProduced who number store pairs → produced who number store pairs ≡ v → IsPlace v.script p → IsPlace store.script p
placed_in {who} {number} {store} {pairs} {v} {p} k seen is = subst (λ (v : Produced). IsPlace v.script p) (sym seen) is

pub within : {who : Incarnation} {number : ℕ} {store : Queue} {pairs : List Pair} {v : Produced} {p : Place} → IsProduced who number store pairs → produced who number store pairs ≡ v → IsPlace v.script p → p.at < length pairs
within {who} {number} {store} {pairs} {v} {p} k seen is = subst (λ n. p.at < n) (sym k.there) (placed_in k seen is).within

-- what is kept at a place is that of its entity
pub pair_is : {who : Incarnation} {number : ℕ} {store : Queue} {pairs : List Pair} {v : Produced} {p : Place} {was : Pair}
    → IsProduced who number store pairs → produced who number store pairs ≡ v → IsPlace v.script p → was ≡ slice_index_or pairs p.at was → IsPair store.script.config.window p.entity store.entries was
pair_is {who} {number} {store} {pairs} {v} {p} {was} k seen is read =
    let here : IsPlace store.script p = placed_in k seen is in
    let kept : slice_index_or pairs p.at no_pair ≡ was = get_or_default pairs p.at no_pair was (within k seen is) ∙ sym read in
    subst (λ e. IsPair store.script.config.window e store.entries was) here.it (subst (IsPair store.script.config.window (name_at (setting store.script).names p.at) store.entries) kept (k.each p.at here.within))

-- whether it waits
pub as_before : {who : Incarnation} {number : ℕ} {store : Queue} {pairs : List Pair} {v : Produced} {p : Place} {was : Pair}
    → IsProduced who number store pairs → produced who number store pairs ≡ v → IsPlace v.script p → was ≡ slice_index_or pairs p.at was → is_waiting was ≡ is_waiting (slice_index_or pairs p.at no_pair)
as_before {who} {number} {store} {pairs} {v} {p} {was} k seen is read = ap is_waiting (read ∙ get_or_default pairs p.at was no_pair (within k seen is))

-- the same, in terms of the value
pub pair_of : {who : Incarnation} {number : ℕ} {store : Queue} {pairs : List Pair} {v : Produced} {p : Place} {was : Pair}
    → IsProduced who number store pairs → produced who number store pairs ≡ v → IsPlace v.script p → was ≡ slice_index_or pairs p.at was → IsPair v.script.config.window p.entity v.state.entries was
pair_of {who} {number} {store} {pairs} {v} {p} {was} k seen is read = subst (λ (v : Produced). IsPair v.script.config.window p.entity v.state.entries was) seen (pair_is k seen is read)

-- and the progress is what is kept of it
pub progress_is : {who : Incarnation} {number : ℕ} {store : Queue} {pairs : List Pair} {v : Produced} {p : Place} {was : Pair}
    → IsProduced who number store pairs → produced who number store pairs ≡ v → IsPlace v.script p → was ≡ slice_index_or pairs p.at was → progress_in v.state.set v.state.pairs p.entity ≡ progress_of was
progress_is {who} {number} {store} {pairs} {v} {p} {was} k seen is read =
    let here : IsPlace store.script p = placed_in k seen is in
    subst (λ (v : Produced). progress_in v.state.set v.state.pairs p.entity ≡ progress_of was) seen
    (ap (λ n. slice_index_or (map progress_of pairs) n no_progress) (sym here.at_is) ∙ (get_or-map progress_of pairs p.at was no_progress (within k seen is) ∙ ap progress_of (sym read)))

-- Another pair stands at a place.

pub pair_put : {who : Incarnation} {number : ℕ} {store : Queue} {pairs : List Pair} {v : Produced} {p : Place} {now : Pair}
    → IsProduced who number store pairs → produced who number store pairs ≡ v → IsPlace v.script p → IsPair store.script.config.window p.entity store.entries now → IsProduced who number store (slice_set pairs p.at now)
pair_put {who} {number} {store} {pairs} {v} {p} {now} k seen is new = record {
  number_is = k.number_is;
  leased = k.leased;
  sorted = k.sorted;
  there = length-set pairs p.at now ∙ k.there;
  each = λ i inside. of_write (IsPair store.script.config.window (name_at (setting store.script).names i) store.entries) pairs p.at i now no_pair
      (λ same. subst (λ e. IsPair store.script.config.window e store.entries now) (sym (ap (name_at (setting store.script).names) same ∙ (placed_in k seen is).it)) new) (k.each i inside);
}

-- a move that changes the progress of one entity alone
pub record IsSilent (e : List ℕ) (step : Progress → Progress) (m : Move) : Type 0 where
  pub pairs_are : (set : Setting) (old : List Progress) → pairs_step set old m ≡ slice_set old (place set e) (step (progress_in set old e))
  pub entries_are : (old : List Fact) → queue_step old m ≡ old
  pub room_is : (old : ℕ) → room_step old m ≡ old

abbrev demand_more : ℕ → Progress → Progress
demand_more u k = record { demand = max k.demand u; sent = k.sent }

abbrev sent_more : ℕ → Progress → Progress
sent_more n k = record { demand = k.demand; sent = max k.sent n }

pub of_demanded : (e : List ℕ) (u : ℕ) → IsSilent e (demand_more u) (demanded e u)
of_demanded e u = record { pairs_are = λ set old. refl; entries_are = λ old. refl; room_is = λ old. refl }

pub of_pushed : (e : List ℕ) (n : ℕ) → IsSilent e (sent_more n) (pushed e n)
of_pushed e n = record { pairs_are = λ set old. refl; entries_are = λ old. refl; room_is = λ old. refl }

abbrev value : Incarnation → ℕ → Script → List Fact → List Progress → ℕ → Produced
value who number c entries pairs room = record { script = c; state = record { who = who; set = setting c; number = number; entries = entries; pairs = pairs }; room = room }

pub pair_moved : (now : Pair) {e : List ℕ} {step : Progress → Progress} {m : Move} → IsSilent e step m → {who : Incarnation} {number : ℕ} {store : Queue} {pairs : List Pair} {v : Produced} {p : Place} {was : Pair} → p.entity ≡ e
    → IsProduced who number store pairs → produced who number store pairs ≡ v → IsPlace v.script p → was ≡ slice_index_or pairs p.at was → progress_of now ≡ step (progress_of was)
    → produced who number store (slice_set pairs p.at now) ≡ moved v (m ∷ [])
pair_moved now {e} {step} {m} of {who} {number} {store} {pairs} {v} {p} {was} its k seen is read made =
    subst (λ (v : Produced). produced who number store (slice_set pairs p.at now) ≡ moved v (m ∷ [])) seen
    (ap (λ l. value who number store.script store.entries l store.spare) pairs_are
    ∙ (ap (λ l. value who number store.script l (pairs_step (setting store.script) (map progress_of pairs) m) store.spare) (sym (of.entries_are store.entries))
    ∙ ap (λ n. value who number store.script (queue_step store.entries m) (pairs_step (setting store.script) (map progress_of pairs) m) n) (sym (of.room_is store.spare))))
  where
    here : IsPlace store.script p
    here = placed_in k seen is

    old : progress_in (setting store.script) (map progress_of pairs) p.entity ≡ progress_of was
    old = subst (λ (v : Produced). progress_in v.state.set v.state.pairs p.entity ≡ progress_of was) (sym seen) (progress_is k seen is read)

    pairs_are : map progress_of (slice_set pairs p.at now) ≡ pairs_step (setting store.script) (map progress_of pairs) m
    pairs_are = map-set progress_of pairs p.at now
        ∙ (ap (λ x. slice_set (map progress_of pairs) p.at x) (made ∙ ap step (sym old))
        ∙ (ap (λ n. slice_set (map progress_of pairs) n (step (progress_in (setting store.script) (map progress_of pairs) p.entity))) here.at_is
        ∙ (ap (λ x. slice_set (map progress_of pairs) (place (setting store.script) x) (step (progress_in (setting store.script) (map progress_of pairs) x))) its ∙ sym (of.pairs_are (setting store.script) (map progress_of pairs)))))

-- An entry more.

-- an entry about one entity, that says nothing of others, nor of the lease
pub record IsAbout (e : List ℕ) (f : Fact) : Type 0 where
  pub commands_are : (x : List ℕ) (old : List Command) → is_name e x ≡ false → commands_step x old f ≡ old
  pub confirmed_are : (x : List ℕ) (old : ℕ) → is_name e x ≡ false → confirmed_step x old f ≡ old
  pub holder_is : (old : Option Incarnation) → holder_step old f ≡ old
  pub entries_are : (old : List Fact) → queue_step old (told f) ≡ old ++ f ∷ []
  pub pairs_are : (set : Setting) (old : List Progress) → pairs_step set old (told f) ≡ old
  pub room_is : (old : ℕ) → room_step old (told f) ≡ old - 1

pub about_queued : (q : ℕ) (e : List ℕ) (n : ℕ) (c : Command) → IsAbout e (fact.Queued q e n c)
about_queued q e n c = record { commands_are = λ x old other. rw other refl; confirmed_are = λ x old other. refl; holder_is = λ old. refl; entries_are = λ old. refl; pairs_are = λ set old. refl; room_is = λ old. refl }

pub about_confirmed : (q : ℕ) (e : List ℕ) (n : ℕ) → IsAbout e (fact.Confirmed q e n)
about_confirmed q e n = record { commands_are = λ x old other. refl; confirmed_are = λ x old other. rw other refl; holder_is = λ old. refl; entries_are = λ old. refl; pairs_are = λ set old. refl; room_is = λ old. refl }

pub queued_more : (x : List ℕ) (list : List Fact) (f : Fact) → queued x (list ++ f ∷ []) ≡ length (commands_step x (commands x list) f)
queued_more x list f = ap length (fold-append (commands_step x) [] list (f ∷ []))

pub confirmed_more : (x : List ℕ) (list : List Fact) (f : Fact) → confirmed x (list ++ f ∷ []) ≡ confirmed_step x (confirmed x list) f
confirmed_more x list f = fold-append (confirmed_step x) 0 list (f ∷ [])

-- the queue with this entry more
pub record IsWritten (f : Fact) (old new : Queue) : Type 0 where
  pub script_is : new.script ≡ old.script
  pub producer_is : new.producer ≡ old.producer
  pub entries_are : new.entries ≡ old.entries ++ f ∷ []
  pub spare_is : new.spare + 1 ≡ old.spare

pub entry_put : {e : List ℕ} {f : Fact} → IsAbout e f → {who : Incarnation} {number : ℕ} {old new : Queue} {pairs : List Pair} {v : Produced} {p : Place} {now : Pair} → p.entity ≡ e
    → IsProduced who number old pairs → produced who number old pairs ≡ v → IsPlace v.script p → IsWritten f old new → IsPair old.script.config.window p.entity (old.entries ++ f ∷ []) now → IsProduced who number new (slice_set pairs p.at now)
entry_put {e} {f} about {who} {number} {old} {new} {pairs} {v} {p} {now} its k seen is written at_it = record {
  number_is = written.producer_is ∙ k.number_is;
  leased = ap holder written.entries_are ∙ (fold-append holder_step _ old.entries (f ∷ []) ∙ (about.holder_is (holder old.entries) ∙ k.leased));
  sorted = subst (λ (c : Script). IsStrictlySortedBy (slice_cmp nat_cmp) (setting c).names) (sym written.script_is) k.sorted;
  there = length-set pairs p.at now ∙ (k.there ∙ ap (λ (c : Script). length (setting c).names) (sym written.script_is));
  each = subst (λ (c : Script). Each c new.entries) (sym written.script_is) (subst (Each old.script) (sym written.entries_are) each_old);
}
  where
    Each : Script → List Fact → Type 0
    Each c entries = (i : ℕ) → i < length (setting c).names → IsPair c.config.window (name_at (setting c).names i) entries (slice_index_or (slice_set pairs p.at now) i no_pair)

    here : IsPlace old.script p
    here = placed_in k seen is

    other : (i : ℕ) (x : Pair) → is_name e (name_at (setting old.script).names i) ≡ false → IsPair old.script.config.window (name_at (setting old.script).names i) old.entries x → IsPair old.script.config.window (name_at (setting old.script).names i) (old.entries ++ f ∷ []) x
    other i x apart was = record {
      queued_is = was.queued_is ∙ sym (queued_more (name_at (setting old.script).names i) old.entries f ∙ ap length (about.commands_are (name_at (setting old.script).names i) (commands (name_at (setting old.script).names i) old.entries) apart));
      confirmed_is = was.confirmed_is ∙ sym (confirmed_more (name_at (setting old.script).names i) old.entries f ∙ about.confirmed_are (name_at (setting old.script).names i) (confirmed (name_at (setting old.script).names i) old.entries) apart);
      bounded = was.bounded;
    }

    each_old : Each old.script (old.entries ++ f ∷ [])
    each_old i inside = by_place (IsPair old.script.config.window (name_at (setting old.script).names i) (old.entries ++ f ∷ []) (slice_index_or (slice_set pairs p.at now) i no_pair)) i p.at
        (λ same. subst (IsPair old.script.config.window (name_at (setting old.script).names i) (old.entries ++ f ∷ []))
        (sym (ap (λ n. slice_index_or (slice_set pairs p.at now) n no_pair) same ∙ get_or-set_same pairs p.at now no_pair (within k seen is)))
        (subst (λ x. IsPair old.script.config.window x (old.entries ++ f ∷ []) now) (sym (ap (name_at (setting old.script).names) same ∙ here.it)) at_it))
        (λ apart. subst (IsPair old.script.config.window (name_at (setting old.script).names i) (old.entries ++ f ∷ [])) (sym (get_or-set_other pairs p.at i now no_pair apart))
        (other i (slice_index_or pairs i no_pair) (subst (λ x. is_name x (name_at (setting old.script).names i) ≡ false) its (another_name (setting old.script).names p.entity p.at i k.sorted here.within inside here.it apart)) (k.each i inside)))

pub entry_moved : (pairs : List Pair) (i : ℕ) (now : Pair) {e : List ℕ} {f : Fact} → IsAbout e f → {who : Incarnation} {number : ℕ} {old new : Queue} {v : Produced} {was : Pair}
    → produced who number old pairs ≡ v → IsWritten f old new → was ≡ slice_index_or pairs i was → progress_of now ≡ progress_of was
    → produced who number new (slice_set pairs i now) ≡ moved v (told f ∷ [])
entry_moved pairs i now {e} {f} about {who} {number} {old} {new} {v} {was} seen written read same =
    subst (λ (v : Produced). produced who number new (slice_set pairs i now) ≡ moved v (told f ∷ [])) seen
    (ap (λ c. value who number c new.entries (map progress_of (slice_set pairs i now)) new.spare) written.script_is
    ∙ (ap (λ l. value who number old.script new.entries l new.spare) (map-set_same progress_of pairs i now was (same ∙ ap progress_of read) ∙ sym (about.pairs_are (setting old.script) (map progress_of pairs)))
    ∙ (ap (λ l. value who number old.script l (pairs_step (setting old.script) (map progress_of pairs) (told f)) new.spare) (written.entries_are ∙ sym (about.entries_are old.entries))
    ∙ ap (λ n. value who number old.script (queue_step old.entries (told f)) (pairs_step (setting old.script) (map progress_of pairs) (told f)) n) (less ∙ sym (about.room_is old.spare)))))
  where
    less : new.spare ≡ old.spare - 1
    less = omega (arith, written.spare_is)

-- Each move.

abbrev with_demand : ℕ → Pair → Pair
with_demand u k = record { demand = max k.demand u; sent = k.sent; queued = k.queued; confirmed = k.confirmed }

abbrev with_sent : ℕ → Pair → Pair
with_sent n k = record { demand = k.demand; sent = max k.sent n; queued = k.queued; confirmed = k.confirmed }

abbrev with_queued : ℕ → Pair → Pair
with_queued n k = record { demand = k.demand; sent = k.sent; queued = n; confirmed = k.confirmed }

abbrev with_confirmed : ℕ → Pair → Pair
with_confirmed n k = record { demand = k.demand; sent = k.sent; queued = k.queued; confirmed = n }

asked_pair : (w u : ℕ) (e : List ℕ) (entries : List Fact) (was : Pair) → IsPair w e entries was → u ≤ confirmed e entries + w → IsPair w e entries (with_demand u was)
asked_pair w u e entries was k bounded = record { queued_is = k.queued_is; confirmed_is = k.confirmed_is; bounded = both was.demand was.confirmed w u k.bounded (subst (λ n. u ≤ n + w) (sym k.confirmed_is) bounded) }
  where
    both : (d c w u : ℕ) → d ≤ c + w → u ≤ c + w → max d u ≤ c + w
    both d c w u a b = omega arith

pub demanded_stands : (u : ℕ) {who : Incarnation} {number : ℕ} {store : Queue} {pairs : List Pair} {v : Produced} {p : Place} {was now : Pair}
    → IsProduced who number store pairs → produced who number store pairs ≡ v → IsPlace v.script p → was ≡ slice_index_or pairs p.at was → now ≡ with_demand u was → u ≤ confirmed p.entity v.state.entries + v.script.config.window
    → IsProduced who number store (slice_set pairs p.at now)
demanded_stands u {who} {number} {store} {pairs} {v} {p} {was} {now} k seen is read step bounded =
    pair_put k seen is (subst (IsPair store.script.config.window p.entity store.entries) (sym step)
    (asked_pair store.script.config.window u p.entity store.entries was (pair_is k seen is read) (subst (λ (v : Produced). u ≤ confirmed p.entity v.state.entries + v.script.config.window) (sym seen) bounded)))

pub demanded_moved : (u : ℕ) {who : Incarnation} {number : ℕ} {store : Queue} {pairs : List Pair} {v : Produced} {p : Place} {was now : Pair}
    → IsProduced who number store pairs → produced who number store pairs ≡ v → IsPlace v.script p → was ≡ slice_index_or pairs p.at was → now ≡ with_demand u was
    → produced who number store (slice_set pairs p.at now) ≡ moved v (demanded p.entity u ∷ [])
demanded_moved u {p} {now} k seen is read step = pair_moved now (of_demanded p.entity u) refl k seen is read (ap progress_of step)

pub pushed_stands : (n : ℕ) {who : Incarnation} {number : ℕ} {store : Queue} {pairs : List Pair} {v : Produced} {p : Place} {was now : Pair}
    → IsProduced who number store pairs → produced who number store pairs ≡ v → IsPlace v.script p → was ≡ slice_index_or pairs p.at was → now ≡ with_sent n was → IsProduced who number store (slice_set pairs p.at now)
pushed_stands n {who} {number} {store} {pairs} {v} {p} {was} {now} k seen is read step =
    let old : IsPair store.script.config.window p.entity store.entries was = pair_is k seen is read in
    pair_put k seen is (subst (IsPair store.script.config.window p.entity store.entries) (sym step) (record { queued_is = old.queued_is; confirmed_is = old.confirmed_is; bounded = old.bounded }))

pub pushed_moved : (n : ℕ) {who : Incarnation} {number : ℕ} {store : Queue} {pairs : List Pair} {v : Produced} {p : Place} {was now : Pair}
    → IsProduced who number store pairs → produced who number store pairs ≡ v → IsPlace v.script p → was ≡ slice_index_or pairs p.at was → now ≡ with_sent n was
    → produced who number store (slice_set pairs p.at now) ≡ moved v (pushed p.entity n ∷ [])
pushed_moved n {p} {now} k seen is read step = pair_moved now (of_pushed p.entity n) refl k seen is read (ap progress_of step)

-- a command more is queued

pub queued_written : (e : List ℕ) (n : ℕ) (c : Command) {who : Incarnation} {number : ℕ} {old new : Queue} {pairs : List Pair} {v : Produced}
    → IsProduced who number old pairs → produced who number old pairs ≡ v → new.script ≡ old.script → new.producer ≡ old.producer → new.entries ≡ old.entries ++ fact.Queued old.producer e n c ∷ [] → new.spare + 1 ≡ old.spare
    → IsWritten (fact.Queued v.state.number e n c) old new
queued_written e n c {who} {number} {old} {new} {pairs} {v} k seen script producer entries spare = record {
  script_is = script;
  producer_is = producer;
  entries_are = entries ∙ ap (λ q. old.entries ++ fact.Queued q e n c ∷ []) (k.number_is ∙ ap (λ (v : Produced). v.state.number) seen);
  spare_is = spare;
}

pub queued_pair : (q w n : ℕ) (e : List ℕ) (c : Command) (entries : List Fact) (was : Pair) → IsPair w e entries was → n ≡ queued e entries + 1 → IsPair w e (entries ++ fact.Queued q e n c ∷ []) (with_queued n was)
queued_pair q w n e c entries was k next = record {
  queued_is = next ∙ sym (queued_more e entries (fact.Queued q e n c) ∙ (ap length one ∙ length-append (commands e entries) (c ∷ [])));
  confirmed_is = k.confirmed_is ∙ sym (confirmed_more e entries (fact.Queued q e n c));
  bounded = k.bounded;
}
  where
    one : commands_step e (commands e entries) (fact.Queued q e n c) ≡ commands e entries ++ c ∷ []
    one = rw (name_itself e) refl

pub confirmed_written : (e : List ℕ) (n : ℕ) {who : Incarnation} {number : ℕ} {old new : Queue} {pairs : List Pair} {v : Produced}
    → IsProduced who number old pairs → produced who number old pairs ≡ v → new.script ≡ old.script → new.producer ≡ old.producer → new.entries ≡ old.entries ++ fact.Confirmed old.producer e n ∷ [] → new.spare + 1 ≡ old.spare
    → IsWritten (fact.Confirmed v.state.number e n) old new
confirmed_written e n {who} {number} {old} {new} {pairs} {v} k seen script producer entries spare = record {
  script_is = script;
  producer_is = producer;
  entries_are = entries ∙ ap (λ q. old.entries ++ fact.Confirmed q e n ∷ []) (k.number_is ∙ ap (λ (v : Produced). v.state.number) seen);
  spare_is = spare;
}

pub confirmed_pair : (q w n : ℕ) (e : List ℕ) (entries : List Fact) (was : Pair) → IsPair w e entries was → confirmed e entries < n → IsPair w e (entries ++ fact.Confirmed q e n ∷ []) (with_confirmed n was)
confirmed_pair q w n e entries was k above = record {
  queued_is = k.queued_is ∙ sym (queued_more e entries (fact.Confirmed q e n));
  confirmed_is = sym (confirmed_more e entries (fact.Confirmed q e n) ∙ one);
  bounded = more was.demand was.confirmed w n k.bounded (subst (λ m. m < n) (sym k.confirmed_is) above);
}
  where
    one : confirmed_step e (confirmed e entries) (fact.Confirmed q e n) ≡ n
    one = rw (name_itself e) refl

    more : (d c w n : ℕ) → d ≤ c + w → c < n → d ≤ n + w
    more d c w n a b = omega arith

-- a send is queued: the store has it, and the pair of its entity counts it
pub queue_stands : {who : Incarnation} {number : ℕ} {old new : Queue} {pairs : List Pair} {v : Produced} {p : Place} {was now : Pair} {x : Sending}
    → IsProduced who number old pairs → produced who number old pairs ≡ v → IsPlace v.script p → p.entity ≡ x.entity → IsWritten (fact.Queued v.state.number x.entity x.number x.command) old new → x.number ≡ queued x.entity old.entries + 1
    → was ≡ slice_index_or pairs p.at was → now ≡ with_queued x.number was → IsProduced who number new (slice_set pairs p.at now)
queue_stands {who} {number} {old} {new} {pairs} {v} {p} {was} {now} {x} k seen is its written next read step =
    entry_put (about_queued v.state.number x.entity x.number x.command) its k seen is written
    (subst (λ e. IsPair old.script.config.window e (old.entries ++ fact.Queued v.state.number x.entity x.number x.command ∷ []) now) (sym its)
    (subst (IsPair old.script.config.window x.entity (old.entries ++ fact.Queued v.state.number x.entity x.number x.command ∷ [])) (sym step)
    (queued_pair v.state.number old.script.config.window x.number x.entity x.command old.entries was (subst (λ e. IsPair old.script.config.window e old.entries was) its (pair_is k seen is read)) next)))

pub confirm_stands : (n : ℕ) {who : Incarnation} {number : ℕ} {old new : Queue} {pairs : List Pair} {v : Produced} {p : Place} {was now : Pair}
    → IsProduced who number old pairs → produced who number old pairs ≡ v → IsPlace v.script p → IsWritten (fact.Confirmed v.state.number p.entity n) old new → confirmed p.entity v.state.entries < n
    → was ≡ slice_index_or pairs p.at was → now ≡ with_confirmed n was → IsProduced who number new (slice_set pairs p.at now)
confirm_stands n {who} {number} {old} {new} {pairs} {v} {p} {was} {now} k seen is written above read step =
    entry_put (about_confirmed v.state.number p.entity n) refl k seen is written
    (subst (IsPair old.script.config.window p.entity (old.entries ++ fact.Confirmed v.state.number p.entity n ∷ [])) (sym step)
    (confirmed_pair v.state.number old.script.config.window n p.entity old.entries was (pair_is k seen is read) (subst (λ (v : Produced). confirmed p.entity v.state.entries < n) (sym seen) above)))

-- the send that the store queues is the next one
-- the next of the producer's sends is that of the queue
pub next_stored : {who : Incarnation} {number : ℕ} {store : Queue} {pairs : List Pair} {v : Produced} {x : Sending}
    → IsProduced who number store pairs → produced who number store pairs ≡ v → next_sending (sends v.script v.state.number) v.state ≡ Some x → slice_get (sends store.script store.producer) (queued_in_all store.entries) ≡ Some x
next_stored {who} {number} {store} {pairs} {v} {x} k seen wanted =
    ap (λ q. slice_get (sends store.script q) (queued_in_all store.entries)) k.number_is ∙ subst (λ (v : Produced). next_sending (sends v.script v.state.number) v.state ≡ Some x) (sym seen) wanted

pub queue_moved : (i : ℕ) {who : Incarnation} {number : ℕ} {old new : Queue} {pairs : List Pair} {v : Produced} {was now : Pair} {x y : Sending} → x ≡ y
    → IsProduced who number old pairs → produced who number old pairs ≡ v → IsWritten (fact.Queued v.state.number y.entity y.number y.command) old new → was ≡ slice_index_or pairs i was → now ≡ with_queued y.number was
    → produced who number new (slice_set pairs i now) ≡ moved v (queue x v.state)
queue_moved i {who} {number} {old} {new} {pairs} {v} {was} {now} {x} {y} same k seen written read step =
    entry_moved pairs i now (about_queued v.state.number y.entity y.number y.command) seen written read (ap progress_of step) ∙ ap (λ z. moved v (queue z v.state)) (sym same)
