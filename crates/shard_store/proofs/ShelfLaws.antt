-- A shard's store with one entry more.
use Rattle.std.proofs.Common.{◌≡◌, ℕ, ◌+◌, ◌-◌, ◌<◌, ◌≤◌, List, length, sym, ap, subst, ◌∙◌, refl, true, false, arith, true≢false, length-append}
use Rattle.std.specs.Prelude.{fold, if◌then◌else◌, Bool, [], ◌∷◌, ◌++◌, ◌==◌, ◌&&◌, ◌||◌, not, nat_lt, cond, take, filter, slice_set, slice_index_or, replicate, ◌↔◌, IsTrue}
use Rattle.std.specs.List.{list_any}
use Rattle.std.specs.List.Sorted.{IsStrictlySortedBy}
use Rattle.std.specs.Ordering.{nat_cmp}
use Rattle.std.specs.Cmp.Lexicographic.{slice_cmp}
use Rattle.std.proofs.lemmas.Bool.Decides.{nat_tests, Decides-eqb}
use Rattle.std.proofs.lemmas.List.{take_all, get_or_default}
use Rattle.yard_model.specs.declared.fact.Fact.{Fact}
use Rattle.yard_model.specs.declared.fact.Fact.TheVariants as fact
use Rattle.yard_model.specs.declared.incarnation.Cause.{Cause}
use Rattle.yard_model.specs.declared.incarnation.Incarnation.{Incarnation}
use Rattle.yard_model.specs.declared.incarnation.Slot.{Slot}
use Rattle.yard_model.specs.declared.incarnation.Slot.TheVariants as slot
use Rattle.yard_model.specs.declared.packet.Record.{Record}
use Rattle.yard_model.specs.Behaviour.{folded, is_in}
use Rattle.yard_model.specs.Equal.{is_slot}
use Rattle.yard_model.specs.Genuine.{is_node, is_producer, is_brought}
use Rattle.yard_model.specs.Lawful.{own, is_held, is_leased, is_entry, is_of_shard, is_decided, is_folded_after, is_merged_after}
use Rattle.yard_model.specs.Script.{Script, IsScript, is_name, setting, versions}
use Rattle.yard_model.specs.Setting.{shard_of, names_of}
use Rattle.yard_model.specs.SlotReads.{epoch, journal, journal_step, position, last_snapshot, is_remembered}
use Rattle.entity_journal.specs.Journal.{Journaled}
use Rattle.entity_snapshot.specs.declared.snapshot.Snapshot.{Snapshot}
use Rattle.entity_snapshot.specs.Kept.{Kept, last_of}
use Rattle.shard_store.specs.Planned.{sent_to}
use Rattle.shard_store.specs.Reshaped.{AreEach, IsJournalIn}
use Rattle.shard_store.specs.Shelf.{Shelf, slot_of, may}
use Rattle.shard_store.specs.Shelved.{no_journal, no_snapshots, name_at, IsSnapshot, IsNamed, IsThere, IsJournal, AreKept, IsShelf}
use Rattle.yard_model.proofs.FollowLaws.{own_more}
use Rattle.shard_store.proofs.NamesLaws.{same_name}
use Rattle.shard_store.proofs.DifferentLaws.{name_itself}
use Rattle.shard_store.proofs.KeptLaws.{journal_wrote, kept_none, kept_wrote, kept_saved, kept_marked, kept_new}
use Rattle.shard_store.proofs.RoomLaws.{records_few}

abbrev pub SameSlot : Type 0
SameSlot = (a b : Slot) → IsTrue (is_slot a b) ↔ (a ≡ b)

pub and_both : (a b : Bool) → (a && b) ≡ true → (a ≡ true) × (b ≡ true)
and_both true b e = (refl, e)
and_both false b e = absurd (true≢false (sym e))

both : (a b : Bool) → a ≡ true → b ≡ true → (a && b) ≡ true
both a b e f = ap (λ x. x && b) e ∙ f

number_itself : (a : ℕ) → (a == a) ≡ true
number_itself a = (Decides-eqb a a).1 refl

below_is : (a b : ℕ) → a < b → nat_lt a b ≡ true
below_is a b h = grind (arith, nat_tests)

-- What may come next.

pub may_grant : (s : Shelf) (who : Incarnation) → SameSlot → is_held s.entries ≡ false → is_node s.script who ≡ true → may s (fact.Granted (slot_of s) (epoch s.entries + 1) who) ≡ true
may_grant s who same_slot free node =
    both (not (is_held s.entries) && (epoch s.entries + 1 == epoch s.entries + 1)) (is_slot (slot_of s) (slot_of s) && is_node s.script who)
    (both (not (is_held s.entries)) (epoch s.entries + 1 == epoch s.entries + 1) (ap not free) (number_itself (epoch s.entries + 1)))
    (both (is_slot (slot_of s) (slot_of s)) (is_node s.script who) ((same_slot (slot_of s) (slot_of s)).1 refl) node)

pub may_free : (s : Shelf) (why : Cause) → SameSlot → is_held s.entries ≡ true → may s (fact.Freed (slot_of s) (epoch s.entries) why) ≡ true
may_free s why same_slot held =
    both (is_held s.entries && (epoch s.entries == epoch s.entries)) (is_slot (slot_of s) (slot_of s)) (both (is_held s.entries) (epoch s.entries == epoch s.entries) held (number_itself (epoch s.entries))) ((same_slot (slot_of s) (slot_of s)).1 refl)

pub may_save : (s : Shelf) (e : List ℕ) → is_held s.entries ≡ true → is_of_shard s.script s.shard e ≡ true → last_snapshot e s.entries < length (journal e s.entries) → may s (fact.Snapshot e (length (journal e s.entries))) ≡ true
may_save s e held of newer =
    let n : ℕ = length (journal e s.entries) in
    both (is_held s.entries) (is_of_shard s.script s.shard e && (n == n) && nat_lt (last_snapshot e s.entries) n) held
    (both (is_of_shard s.script s.shard e && (n == n)) (nat_lt (last_snapshot e s.entries) n) (both (is_of_shard s.script s.shard e) (n == n) of (number_itself n)) (below_is (last_snapshot e s.entries) n newer))

pub may_remember : (s : Shelf) (e : List ℕ) → is_held s.entries ≡ true → is_of_shard s.script s.shard e ≡ true → is_remembered e s.entries ≡ false → may s (fact.Remembered e) ≡ true
may_remember s e held of new = both (is_held s.entries) (is_of_shard s.script s.shard e && not (is_remembered e s.entries)) held (both (is_of_shard s.script s.shard e) (not (is_remembered e s.entries)) of (ap not new))

pub may_forget : (s : Shelf) (e : List ℕ) → is_held s.entries ≡ true → is_of_shard s.script s.shard e ≡ true → is_remembered e s.entries ≡ true → may s (fact.Forgotten e) ≡ true
may_forget s e held of known = both (is_held s.entries) (is_of_shard s.script s.shard e && is_remembered e s.entries) held (both (is_of_shard s.script s.shard e) (is_remembered e s.entries) of known)

-- The names.

-- a name of this shard is among the shard's names
any_picked : (p : List ℕ → Bool) (e : List ℕ) (names : List (List ℕ)) → p e ≡ true → list_any (is_name e) names ≡ true → list_any (is_name e) (filter p names) ≡ true
any_picked p e [] of any = any
any_picked p e (n ∷ ns) of any = at (is_name e n) refl (p n) refl (λ m. any_picked p e ns of m)
  where
    at : (b : Bool) → is_name e n ≡ b → (t : Bool) → p n ≡ t → (list_any (is_name e) ns ≡ true → list_any (is_name e) (filter p ns) ≡ true) → list_any (is_name e) (cond (p n) (n ∷ filter p ns) (filter p ns)) ≡ true
    at true it t h rest = ap (λ b. list_any (is_name e) (cond b (n ∷ filter p ns) (filter p ns))) (sym (ap p (same_name e n it)) ∙ of) ∙ ap (λ b. b || (list_any (is_name e) (filter p ns))) it
    at false it true h rest = ap (λ b. list_any (is_name e) (cond b (n ∷ filter p ns) (filter p ns))) h ∙ (ap (λ b. b || (list_any (is_name e) (filter p ns))) it ∙ rest (sym (ap (λ b. b || (list_any (is_name e) ns)) it) ∙ any))
    at false it false h rest = ap (λ b. list_any (is_name e) (cond b (n ∷ filter p ns) (filter p ns))) h ∙ rest (sym (ap (λ b. b || (list_any (is_name e) ns)) it) ∙ any)

pub among_names : (s : Shelf) (names : List (List ℕ)) (e : List ℕ) → names ≡ names_of (setting s.script) s.shard → is_of_shard s.script s.shard e ≡ true → list_any (is_name e) names ≡ true
among_names s names e are of =
    let m : (is_brought s.script e ≡ true) × ((shard_of (setting s.script) e == s.shard) ≡ true) = and_both (is_brought s.script e) (shard_of (setting s.script) e == s.shard) of in
    ap (list_any (is_name e)) are ∙ any_picked (λ n. shard_of (setting s.script) n == s.shard) e (setting s.script).names m.1 m.0

-- the place of a name among the shard's names is one among the names that are kept
pub named : {s v : Shelf} {ls : ℕ} {names : List (List ℕ)} {journals : List Journaled} {snapshots : List Kept} {marks : List Bool} (e : List ℕ) (i : ℕ) → IsShelf s ls names journals snapshots marks → s ≡ v → IsThere v i e → IsNamed names i e
named {s} {v} e i k seen there = subst (λ ns. IsNamed ns i e) (ap (λ (x : Shelf). names_of (setting x.script) x.shard) (sym seen) ∙ sym k.names_are) there

pub there : {s v : Shelf} {ls : ℕ} {names : List (List ℕ)} {journals : List Journaled} {snapshots : List Kept} {marks : List Bool} (e : List ℕ) (i : ℕ) → IsShelf s ls names journals snapshots marks → s ≡ v → i < length names → name_at names i ≡ e → IsThere v i e
there {s} {v} {ls} {names} e i k seen within it = subst (λ ns. IsNamed ns i e) (k.names_are ∙ ap (λ (x : Shelf). names_of (setting x.script) x.shard) seen) (record { within = within; it = it })

-- One entry more.

pub shelf_next : (s : Shelf) {ls new_shard : ℕ} {names : List (List ℕ)} {journals new_journals : List Journaled} {snapshots new_snapshots : List Kept} {marks new_marks : List Bool} {entries : List Fact} {spare : ℕ} (f : Fact)
    → IsShelf s ls names journals snapshots marks → may s f ≡ true → entries ≡ s.entries ++ f ∷ [] → spare ≡ s.spare - 1 → new_shard ≡ ls
    → AreKept s.script names (s.entries ++ f ∷ []) new_journals new_snapshots new_marks
    → IsShelf (record { script = s.script; shard = s.shard; entries = entries; spare = spare }) new_shard names new_journals new_snapshots new_marks
shelf_next s {ls} {new_shard} {names} {journals} {new_journals} {snapshots} {new_snapshots} {marks} {new_marks} {entries} {spare} f k m e less shard kept = record {
  own_is = ap (own s.script (slot_of s)) e ∙ own_more s.script (slot_of s) s.entries f k.own_is m;
  shard_is = k.shard_is;
  list_is = shard ∙ k.list_is;
  names_are = k.names_are;
  few_names = k.few_names;
  sorted = k.sorted;
  kept_is = subst (λ l. AreKept s.script names l new_journals new_snapshots new_marks) (sym e) kept;
}

-- of a grant, whose epoch and slot are told by the list
pub shelf_granted : (s : Shelf) {ls new_shard n : ℕ} {names : List (List ℕ)} {journals : List Journaled} {snapshots : List Kept} {marks : List Bool} {entries : List Fact} {spare : ℕ} (who : Incarnation)
    → SameSlot → IsShelf s ls names journals snapshots marks → is_held s.entries ≡ false → is_node s.script who ≡ true → n ≡ epoch s.entries + 1
    → entries ≡ s.entries ++ fact.Granted (slot.Shard ls) n who ∷ [] → spare ≡ s.spare - 1 → new_shard ≡ ls
    → IsShelf (record { script = s.script; shard = s.shard; entries = entries; spare = spare }) new_shard names journals snapshots marks
shelf_granted s {ls} {new_shard} {n} {names} {journals} {snapshots} {marks} {entries} {spare} who same_slot k free node now e less shard =
    let f : Fact = fact.Granted (slot.Shard ls) n who in
    let next : may s f ≡ true = ap (λ x. may s (fact.Granted (slot.Shard x) n who)) k.list_is ∙ (ap (λ i. may s (fact.Granted (slot_of s) i who)) now ∙ may_grant s who same_slot free node) in
    shelf_next s f k next e less shard (kept_none s.script names s.entries journals snapshots marks f (record { journal_is = λ x old. refl; snapshot_is = λ x old. refl; mark_is = λ x old. refl }) k.kept_is)

pub shelf_freed : (s : Shelf) {ls new_shard : ℕ} {names : List (List ℕ)} {journals : List Journaled} {snapshots : List Kept} {marks : List Bool} {entries : List Fact} {spare : ℕ} (why : Cause)
    → SameSlot → IsShelf s ls names journals snapshots marks → is_held s.entries ≡ true
    → entries ≡ s.entries ++ fact.Freed (slot.Shard ls) (epoch s.entries) why ∷ [] → spare ≡ s.spare - 1 → new_shard ≡ ls
    → IsShelf (record { script = s.script; shard = s.shard; entries = entries; spare = spare }) new_shard names journals snapshots marks
shelf_freed s {ls} {new_shard} {names} {journals} {snapshots} {marks} {entries} {spare} why same_slot k held e less shard =
    let f : Fact = fact.Freed (slot.Shard ls) (epoch s.entries) why in
    let next : may s f ≡ true = ap (λ x. may s (fact.Freed (slot.Shard x) (epoch s.entries) why)) k.list_is ∙ may_free s why same_slot held in
    shelf_next s f k next e less shard (kept_none s.script names s.entries journals snapshots marks f (record { journal_is = λ x old. refl; snapshot_is = λ x old. refl; mark_is = λ x old. refl }) k.kept_is)

-- A record.

-- what may be written is of a name of this shard, and has the next number of its journal
pub record MayWrite (s : Shelf) (e : List ℕ) (r : Record) : Type 0 where
  pub of : is_of_shard s.script s.shard e ≡ true
  pub number : r.number ≡ length (journal e s.entries) + 1

pub may_write : (s : Shelf) (e : List ℕ) (r : Record) → may s (fact.Wrote e r) ≡ true → MayWrite s e r
may_write s e r m =
    let entry : is_entry s.script (slot_of s) s.entries (fact.Wrote e r) ≡ true = (and_both (is_leased s.entries (fact.Wrote e r)) (is_entry s.script (slot_of s) s.entries (fact.Wrote e r)) m).1 in
    let a : _ × _ = and_both (is_of_shard s.script s.shard e && is_producer s.script r.producer && is_folded_after s.script (journal e s.entries) r) (is_merged_after s.script e (journal e s.entries) r) entry in
    let b : _ × _ = and_both (is_of_shard s.script s.shard e && is_producer s.script r.producer) (is_folded_after s.script (journal e s.entries) r) a.0 in
    let n : _ × _ = and_both (r.number == length (journal e s.entries) + 1) (list_any (λ v. is_decided v s.script (journal e s.entries) r) (versions s.script)) b.1 in
    record { of = (and_both (is_of_shard s.script s.shard e) (is_producer s.script r.producer) b.0).0; number = (Decides-eqb r.number (length (journal e s.entries) + 1)).0 n.0 }

pub journal_there : (s : Shelf) {ls : ℕ} {names : List (List ℕ)} {journals : List Journaled} {snapshots : List Kept} {marks : List Bool} (e : List ℕ) (k : ℕ) (j : Journaled)
    → IsShelf s ls names journals snapshots marks → k < length names → name_at names k ≡ e → j ≡ slice_index_or journals k j → (slice_index_or journals k no_journal ≡ j) × (j.items ≡ journal e s.entries)
journal_there s {ls} {names} {journals} e k j shelf inside it is =
    let here : slice_index_or journals k no_journal ≡ j = get_or_default journals k no_journal j (omega (arith, inside, shelf.kept_is.journals_there)) ∙ sym is in
    (here, ap (λ (x : Journaled). x.items) (sym here) ∙ ((shelf.kept_is.journal_is k inside).records_are ∙ ap (λ x. journal x s.entries) it))

-- some record of a journal that has one
pub some_of : (rs : List Record) (k : ℕ) → k < length rs → Record
some_of [] k h = absurd (omega (arith, h))
some_of (r ∷ rs) k h = r

-- what stands at a place of the list
pub record IsWritten (list : List Fact) (p : ℕ) (e : List ℕ) (r : Record) : Type 0 where
  pub within : p < length list
  pub it : (f : Fact) → slice_index_or list p f ≡ fact.Wrote e r

-- at that of a record of a journal, its entry
pub written_at : (s : Shelf) {ls : ℕ} {names : List (List ℕ)} {journals : List Journaled} {snapshots : List Kept} {marks : List Bool} (e : List ℕ) (i k p : ℕ) (j : Journaled) (d : Record)
    → IsShelf s ls names journals snapshots marks → i < length names → name_at names i ≡ e → j ≡ slice_index_or journals i j → k < length (journal e s.entries) → p ≡ slice_index_or j.places k 0
    → IsWritten s.entries p e (slice_index_or (journal e s.entries) k d)
written_at s {ls} {names} {journals} e i k p j d shelf inside it is within at =
    let here : slice_index_or journals i no_journal ≡ j = (journal_there s e i j shelf inside it is).0 in
    let kept : IsJournal e s.entries (sent_to e s.script.orders) j =
    subst (IsJournal e s.entries (sent_to e s.script.orders)) here (subst (λ n. IsJournal n s.entries (sent_to n s.script.orders) (slice_index_or journals i no_journal)) it (shelf.kept_is.journal_is i inside)) in
    let some : k < length j.items = subst (λ (l : List Record). k < length l) (sym kept.records_are) within in
    record {
      within = subst (λ n. n < length s.entries) (sym at) (kept.places_are.within k some);
      it = λ f. ap (λ n. slice_index_or s.entries n f) at ∙ (kept.places_are.it k d f some ∙ ap (λ (l : List Record). fact.Wrote e (slice_index_or l k d)) kept.records_are);
    }

pub journal_number : (s : Shelf) {ls : ℕ} {names : List (List ℕ)} {journals : List Journaled} {snapshots : List Kept} {marks : List Bool} (e : List ℕ) (r : Record) (k : ℕ) (j : Journaled)
    → IsShelf s ls names journals snapshots marks → may s (fact.Wrote e r) ≡ true → k < length names → name_at names k ≡ e → j ≡ slice_index_or journals k j → r.number ≡ length j.items + 1
journal_number s e r k j shelf m inside it is = (may_write s e r m).number ∙ ap (λ rs. length rs + 1) (sym (journal_there s e k j shelf inside it is).1)

pub shelf_wrote : (s : Shelf) {ls new_shard : ℕ} {names : List (List ℕ)} {journals : List Journaled} {snapshots : List Kept} {marks : List Bool} {entries : List Fact} {spare : ℕ} (e : List ℕ) (r : Record) (k : ℕ) (old new : Journaled)
    → IsShelf s ls names journals snapshots marks → may s (fact.Wrote e r) ≡ true → k < length names → name_at names k ≡ e → old ≡ slice_index_or journals k old
    → new.items ≡ old.items ++ r ∷ [] → new.places ≡ old.places ++ length s.entries ∷ [] → new.spare + 1 ≡ old.spare
    → entries ≡ s.entries ++ fact.Wrote e r ∷ [] → spare ≡ s.spare - 1 → new_shard ≡ ls
    → IsShelf (record { script = s.script; shard = s.shard; entries = entries; spare = spare }) new_shard names (slice_set journals k new) snapshots marks
shelf_wrote s {ls} {new_shard} {names} {journals} {snapshots} {marks} e r k old new shelf m inside it was items places less is one shard =
    let here : slice_index_or journals k no_journal ≡ old = (journal_there s e k old shelf inside it was).0 in
    shelf_next s (fact.Wrote e r) shelf m is one shard
    (kept_wrote s.script names s.entries journals snapshots marks e r k new shelf.sorted inside it (items ∙ ap (λ (x : Journaled). x.items ++ r ∷ []) (sym here)) (places ∙ ap (λ (x : Journaled). x.places ++ length s.entries ∷ []) (sym here)) (less ∙ ap (λ (x : Journaled). x.spare) (sym here)) shelf.kept_is)

pub shelf_saved : (s : Shelf) {ls new_shard : ℕ} {names : List (List ℕ)} {journals : List Journaled} {snapshots : List Kept} {marks : List Bool} {entries : List Fact} {spare : ℕ} (e : List ℕ) (n k : ℕ) (j : Journaled) (p : Snapshot) (old new : Kept)
    → IsShelf s ls names journals snapshots marks → is_held s.entries ≡ true → is_of_shard s.script s.shard e ≡ true → last_snapshot e s.entries < length (journal e s.entries) → k < length names → name_at names k ≡ e → j ≡ slice_index_or journals k j → n ≡ length j.items → old ≡ slice_index_or snapshots k old
    → new.snapshots ≡ last_of old.keep (old.snapshots ++ p ∷ []) → new.keep ≡ old.keep
    → p.at ≡ n → p.state ≡ folded s.script.config.kind (journal e s.entries) → ((q : ℕ) → 0 < q → q ≤ 32 → slice_index_or p.positions (q - 1) 0 ≡ position q j.items)
    → entries ≡ s.entries ++ fact.Snapshot e n ∷ [] → spare ≡ s.spare - 1 → new_shard ≡ ls
    → IsShelf (record { script = s.script; shard = s.shard; entries = entries; spare = spare }) new_shard names journals (slice_set snapshots k new) marks
shelf_saved s {ls} {new_shard} {names} {journals} {snapshots} {marks} {entries} {spare} e n k j p old new shelf held of newer inside it is_journal count was saved keeps at_is state positions is one shard =
    let records : List Record = journal e s.entries in
    let here : j.items ≡ records = (journal_there s e k j shelf inside it is_journal).1 in
    let long : n ≡ length records = count ∙ ap length here in
    let kept : slice_index_or snapshots k no_snapshots ≡ old = get_or_default snapshots k no_snapshots old (omega (arith, inside, shelf.kept_is.snapshots_there)) ∙ sym was in
    let next : may s (fact.Snapshot e n) ≡ true = ap (λ i. may s (fact.Snapshot e i)) long ∙ may_save s e held of newer in
    let all : take n records ≡ records = take_all n records (omega (arith, long)) in
    let snapped : IsSnapshot s.script.config.kind records n p = record {
      at_is = at_is;
      some = omega (arith, newer, long);
      within = omega (arith, long);
      state_is = state ∙ ap (folded s.script.config.kind) (sym all);
      positions_are = λ q a b. positions q a b ∙ ap (position q) (here ∙ sym all);
    } in
    shelf_next s (fact.Snapshot e n) shelf next is one shard (kept_saved s.script names s.entries journals snapshots marks e n k p new shelf.sorted inside it
    (saved ∙ ap (λ (x : Kept). last_of x.keep (x.snapshots ++ p ∷ [])) (sym kept)) (keeps ∙ ap (λ (x : Kept). x.keep) (sym kept)) snapped shelf.kept_is)

-- A mark.

pub shelf_remembered : (s : Shelf) {ls new_shard : ℕ} {names : List (List ℕ)} {journals : List Journaled} {snapshots : List Kept} {marks new_marks : List Bool} {entries : List Fact} {spare : ℕ} (e : List ℕ) (k : ℕ)
    → IsShelf s ls names journals snapshots marks → is_held s.entries ≡ true → is_of_shard s.script s.shard e ≡ true → is_remembered e s.entries ≡ false → k < length names → name_at names k ≡ e
    → new_marks ≡ slice_set marks k true → entries ≡ s.entries ++ fact.Remembered e ∷ [] → spare ≡ s.spare - 1 → new_shard ≡ ls
    → IsShelf (record { script = s.script; shard = s.shard; entries = entries; spare = spare }) new_shard names journals snapshots new_marks
shelf_remembered s {ls} {new_shard} {names} {journals} {snapshots} {marks} {new_marks} e k shelf held of new inside it marked is one shard =
    shelf_next s (fact.Remembered e) shelf (may_remember s e held of new) is one shard (subst (AreKept s.script names (s.entries ++ fact.Remembered e ∷ []) journals snapshots) (sym marked)
    (kept_marked s.script names s.entries journals snapshots marks e k true (fact.Remembered e) shelf.sorted inside it (record { journal_is = λ x old. refl; snapshot_is = λ x old. refl; mark_is = λ x old. refl }) shelf.kept_is))

pub shelf_forgotten : (s : Shelf) {ls new_shard : ℕ} {names : List (List ℕ)} {journals : List Journaled} {snapshots : List Kept} {marks new_marks : List Bool} {entries : List Fact} {spare : ℕ} (e : List ℕ) (k : ℕ)
    → IsShelf s ls names journals snapshots marks → is_held s.entries ≡ true → is_of_shard s.script s.shard e ≡ true → is_remembered e s.entries ≡ true → k < length names → name_at names k ≡ e
    → new_marks ≡ slice_set marks k false → entries ≡ s.entries ++ fact.Forgotten e ∷ [] → spare ≡ s.spare - 1 → new_shard ≡ ls
    → IsShelf (record { script = s.script; shard = s.shard; entries = entries; spare = spare }) new_shard names journals snapshots new_marks
shelf_forgotten s {ls} {new_shard} {names} {journals} {snapshots} {marks} {new_marks} e k shelf held of known inside it marked is one shard =
    shelf_next s (fact.Forgotten e) shelf (may_forget s e held of known) is one shard (subst (AreKept s.script names (s.entries ++ fact.Forgotten e ∷ []) journals snapshots) (sym marked)
    (kept_marked s.script names s.entries journals snapshots marks e k false (fact.Forgotten e) shelf.sorted inside it (record { journal_is = λ x old. refl; snapshot_is = λ x old. refl; mark_is = λ x old. refl }) shelf.kept_is))

-- A new store, and more spare.

pub keep_above : (c : Script) → IsScript c → 0 < c.config.keep
keep_above c k = at_least (and_both _ (is_in 1 10 c.config.keep) k.config).1
  where
    at_least : is_in 1 10 c.config.keep ≡ true → 0 < c.config.keep
    at_least e = grind (arith, nat_tests)

pub shelf_new : (c : Script) (s n : ℕ) (names : List (List ℕ)) (journals : List Journaled) (snapshots : List Kept) (marks : List Bool) → IsScript c → s < c.config.shards
    → names ≡ names_of (setting c) s → IsStrictlySortedBy (slice_cmp nat_cmp) names → length names ≤ 1000 → n ≡ length names
    → AreEach no_journal (IsJournalIn [] c.orders names) journals (length names) → snapshots ≡ replicate n (record { snapshots = []; keep = c.config.keep }) → marks ≡ replicate n false
    → IsShelf (record { script = c; shard = s; entries = []; spare = 0 }) s names journals snapshots marks
shelf_new c s n names journals snapshots marks script inside names_are sorted few count js ss ms = record {
  own_is = refl;
  shard_is = below_is s c.config.shards inside;
  list_is = refl;
  names_are = names_are;
  few_names = few;
  sorted = sorted;
  kept_is = subst (λ k. AreKept c names [] journals k marks) (sym (ss ∙ ap (λ i. replicate i (record { snapshots = []; keep = c.config.keep })) count))
      (subst (AreKept c names [] journals (replicate (length names) (record { snapshots = []; keep = c.config.keep }))) (sym (ms ∙ ap (λ i. replicate i false) count))
      (kept_new c names journals (keep_above c script) js));
}

pub shelf_reserved : (s : Shelf) {ls new_shard : ℕ} {names : List (List ℕ)} {journals : List Journaled} {snapshots : List Kept} {marks : List Bool} {entries : List Fact} {spare : ℕ}
    → IsShelf s ls names journals snapshots marks → entries ≡ s.entries → new_shard ≡ ls
    → IsShelf (record { script = s.script; shard = s.shard; entries = entries; spare = spare }) new_shard names journals snapshots marks
shelf_reserved s {ls} {new_shard} {names} {journals} {snapshots} {marks} k same_list shard = record {
  own_is = ap (own s.script (slot_of s)) same_list ∙ k.own_is;
  shard_is = k.shard_is;
  list_is = shard ∙ k.list_is;
  names_are = k.names_are;
  few_names = k.few_names;
  sorted = k.sorted;
  kept_is = subst (λ l. AreKept s.script names l journals snapshots marks) (sym same_list) k.kept_is;
}

-- there is room for a record that may come next
pub journal_room : (s : Shelf) {ls : ℕ} {names : List (List ℕ)} {journals : List Journaled} {snapshots : List Kept} {marks : List Bool} (e : List ℕ) (r : Record) (k : ℕ) (j : Journaled)
    → IsShelf s ls names journals snapshots marks → may s (fact.Wrote e r) ≡ true → k < length names → name_at names k ≡ e → j ≡ slice_index_or journals k j → 0 < j.spare
journal_room s {ls} {names} {journals} e r k j shelf m inside it is =
    let next : List Fact = s.entries ++ fact.Wrote e r ∷ [] in
    let few : length (journal e next) ≤ sent_to e s.script.orders = records_few s.script s.shard e next (own_more s.script (slot_of s) s.entries (fact.Wrote e r) shelf.own_is m) in
    let grown : journal e next ≡ journal e s.entries ++ r ∷ [] = journal_wrote e e s.entries r true (name_itself e) in
    let more : length (journal e next) ≡ length (journal e s.entries) + 1 = ap length grown ∙ length-append (journal e s.entries) (r ∷ []) in
    let here : slice_index_or journals k no_journal ≡ j = (journal_there s e k j shelf inside it is).0 in
    let room : sent_to e s.script.orders ≤ length (journal e s.entries) + j.spare = subst (λ (x : Journaled). sent_to e s.script.orders ≤ length (journal e s.entries) + x.spare) here (subst (λ n. sent_to n s.script.orders ≤ length (journal n s.entries) + (slice_index_or journals k no_journal).spare) it (shelf.kept_is.journal_is k inside).room_is) in
    omega (arith, few, more, room)

-- there are no more records than entries
journal_few_from : (e : List ℕ) (so_far : List Record) (list : List Fact) → length (fold (journal_step e) so_far list) ≤ length so_far + length list
journal_few_from e so_far [] = omega arith
journal_few_from e so_far (f ∷ fs) =
    let step : length (journal_step e so_far f) ≤ length so_far + 1 = one_more f in
    let rest : length (fold (journal_step e) (journal_step e so_far f) fs) ≤ length (journal_step e so_far f) + length fs = journal_few_from e (journal_step e so_far f) fs in
    omega (arith, step, rest)
  where
    one_more : (f : Fact) → length (journal_step e so_far f) ≤ length so_far + 1
    one_more (fact.Wrote x r) = elim (is_name x e) as (λ b. length (if b then so_far ++ r ∷ [] else so_far) ≤ length so_far + 1) [
      | true ↦ let long : length (so_far ++ r ∷ []) ≡ length so_far + 1 = length-append so_far (r ∷ []) in omega (arith, long)
      | false ↦ omega arith
    ]
    one_more f = omega arith

pub journal_few : {s v : Shelf} (e : List ℕ) → s ≡ v → length s.entries + s.spare < 4294967296 → length (journal e v.entries) + v.spare < 4294967296
journal_few {s} {v} e seen few = subst (λ (x : Shelf). length (journal e x.entries) + x.spare < 4294967296) seen (let most : length (journal e s.entries) ≤ 0 + length s.entries = journal_few_from e [] s.entries in omega (arith, most, few))
