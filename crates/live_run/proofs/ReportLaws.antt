-- The report, one entity and one pair after the other, of what the stores keep.
use Rattle.std.proofs.Common.{◌≡◌, ◌≤◌, ◌<◌, ℕ, zero, suc, ◌+◌, ◌-◌, List, [], ◌∷◌, ◌++◌, length, take, drop, sym, ap, ◌∙◌, refl, subst, arith, true, false}
use Rattle.std.specs.Prelude.{Bool, ◌==◌, ◌&&◌, ◌||◌, codes, cond, decimal, filter, fold, IsErr, nat_le, nat_lt, Option, Some, Result, slice_index_or}
use Rattle.std.specs.List.{flat_map, list_all, list_any}
use Rattle.std.proofs.lemmas.Bool.Decides.{nat_tests}
use Rattle.std.proofs.lemmas.List.{append-nil, append_assoc, drop_all, drop_more, get_or-drop, get_or_default, length-drop, take-append-drop, take_more}
use Rattle.std.proofs.lemmas.Grind.{flat_map-append}
use Rattle.plain_laws.proofs.Booleans.{and_both, both}
use Rattle.plain_laws.proofs.Names.{any_more, name_itself}
use Rattle.yard_model.specs.declared.event.Kind.{Kind}
use Rattle.yard_model.specs.declared.fact.Fact.{Fact}
use Rattle.yard_model.specs.declared.incarnation.Slot.TheVariants as slot
use Rattle.yard_model.specs.declared.packet.Record.{Record}
use Rattle.yard_model.specs.declared.state.State.{State}
use Rattle.yard_model.specs.Behaviour.{after_record, apply, are_applicable, folded}
use Rattle.yard_model.specs.Genuine.{is_slot_of}
use Rattle.yard_model.specs.Lawful.{is_of_shard}
use Rattle.yard_model.specs.Script.{Script, Setting, is_name, names_in, setting}
use Rattle.yard_model.specs.Setting.{names_of, producers, shard_of, shards}
use Rattle.yard_model.specs.SlotLists.{SlotLists, queue_list, shard_list}
use Rattle.yard_model.specs.SlotReads.{confirmed, journal, queued}
use Rattle.yard_model.specs.Text.{Bytes, entity_lines, line, queues_text, record_words, report, state_text}
use Rattle.yard_model.specs.Words.{at}
use Rattle.durable_queue.specs.Queue.{Queue, name_at}
use Rattle.shard_store.specs.Shelf.{Shelf}
use Rattle.shard_store.specs.declared.store.Store.{Store}
use Rattle.shard_store.specs.declared.store.Store.TheVariants as store
use Rattle.shard_store.specs.Stores.{entries_in, lists_at}
use Rattle.live_laws.proofs.Closed.{list_there}
use Rattle.run_parts.specs.Writing.{Sunk, Took}
use Rattle.run_parts.specs.declared.writing.WriteError.TheVariants as write_error
use Rattle.run_parts.proofs.WritingLaws.{front_both, front_more, front_same, took_both, took_same}
use Rattle.trace_text.specs.Foldable.{are_foldable, is_foldable, is_foldable_shard}
use Rattle.trace_text.specs.Parts.{queue_part, shard_part}
use Rattle.trace_text.specs.Places.{tally_of}
use Rattle.trace_text.specs.Rows.{queue_rows, tally_text}
use Rattle.trace_text.proofs.RowLaws.{entities_are, in_shard}
use Rattle.live_run.specs.Written.{Puts}
use Rattle.live_run.proofs.PuttingLaws.{Began, puts_err, puts_on, puts_same}

-- The text of one item more.

each_more : {A : Type 0} (f : A → Bytes) (xs : List A) (i : ℕ) (d : A) → i < length xs → flat_map f (take i xs) ++ f (slice_index_or xs i d) ≡ flat_map f (take (i + 1) xs)
each_more f xs i d h =
    ap (λ l. flat_map f (take i xs) ++ l) (sym (append-nil (f (slice_index_or xs i d))))
    ∙ (sym (flat_map-append f (take i xs) (slice_index_or xs i d ∷ [])) ∙ ap (λ l. flat_map f l) (sym (take_more xs i d h)))

pub each_next : {A : Type 0} (f : A → Bytes) (xs : List A) (i : ℕ) (x : A) (s t u : Sunk) → i < length xs → x ≡ slice_index_or xs i x → Took (flat_map f (take i xs)) s t → Took (f x) t u → Took (flat_map f (take (i + 1) xs)) s u
each_next f xs i x s t u h is first more =
    took_same _ _ s u (each_more f xs i x h) (took_both (flat_map f (take i xs)) (f (slice_index_or xs i x)) s t u first (took_same _ _ t u (ap f is) more))

pub each_began : {A : Type 0} (f : A → Bytes) (xs : List A) (i : ℕ) (x : A) (s t u : Sunk) → i < length xs → x ≡ slice_index_or xs i x → Took (flat_map f (take i xs)) s t → Began (f x) t u → Began (flat_map f xs) s u
each_began f xs i x s t u h is first more =
    front_same _ _ write_error.Failed s u (sym (flat_map-append f (take (i + 1) xs) (drop (i + 1) xs)) ∙ ap (λ l. flat_map f l) (take-append-drop (i + 1) xs))
    (front_more (flat_map f (take (i + 1) xs)) (flat_map f (drop (i + 1) xs)) write_error.Failed s u
    (front_same _ _ write_error.Failed s u (each_more f xs i x h) (front_both (flat_map f (take i xs)) (f (slice_index_or xs i x)) write_error.Failed s t u first (front_same _ _ write_error.Failed t u (ap f is) more))))

-- An entity with a record.

abbrev pub head_of : Kind → ℕ → List ℕ → List Record → Bytes
head_of k s e records = line (codes "entity" ∷ e ∷ codes "shard" ∷ decimal s ∷ codes "records" ∷ decimal (length records) ∷ codes "state" ∷ state_text (folded k records) ∷ [])

abbrev pub records_of : List Record → Bytes
records_of records = flat_map (λ x. line (codes "record" ∷ record_words x)) records

entity_is : (c : Script) (k : Kind) (s : ℕ) (e : List ℕ) (records : List Record) → (length records ≡ 0 → ⊥) → k ≡ c.config.kind → shard_of (setting c) e ≡ s → head_of k s e records ++ records_of records ≡ entity_lines (setting c) e records
entity_is c k s e [] some kind is = absurd (some refl)
entity_is c k s e (r ∷ rs) some kind is =
    ap (λ n. head_of k n e (r ∷ rs) ++ records_of (r ∷ rs)) (sym is) ∙ ap (λ (j : Kind). head_of j (shard_of (setting c) e) e (r ∷ rs) ++ records_of (r ∷ rs)) kind

-- with so many records, that lead to this state
abbrev pub stated_of : ℕ → List ℕ → ℕ → State → Bytes
stated_of s e n st = line (codes "entity" ∷ e ∷ codes "shard" ∷ decimal s ∷ codes "records" ∷ decimal n ∷ codes "state" ∷ state_text st ∷ [])

head_is : (k : Kind) (s : ℕ) (e : List ℕ) (records : List Record) (n : ℕ) (st : State) → n ≡ length records → st ≡ folded k records → stated_of s e n st ≡ head_of k s e records
head_is k s e records n st count state = ap (λ m. stated_of s e m st) count ∙ ap (λ y. stated_of s e (length records) y) state

pub entity_put : {A X : Type 0} (c : Script) (k : Kind) (s : ℕ) (e : List ℕ) (records : List Record) (n : ℕ) (st : State) (r : Result A X) (x y z : Sunk) → n ≡ length records → st ≡ folded k records → (n ≡ 0 → ⊥) → k ≡ c.config.kind → shard_of (setting c) e ≡ s
    → Took (stated_of s e n st) x y → Puts (records_of records) r y z → Puts (entity_lines (setting c) e records) r x z
entity_put c k s e records n st r x y z count state some kind is head rest =
    puts_same r _ _ x z (entity_is c k s e records (λ none. some (count ∙ none)) kind is)
    (puts_on r (head_of k s e records) (records_of records) x y z (took_same _ _ x y (head_is k s e records n st count state) head) rest)

pub entity_began : {A X : Type 0} (c : Script) (k : Kind) (s : ℕ) (e : List ℕ) (records : List Record) (n : ℕ) (st : State) (r : Result A X) (x y : Sunk) → n ≡ length records → st ≡ folded k records → (n ≡ 0 → ⊥) → k ≡ c.config.kind → shard_of (setting c) e ≡ s → IsErr r
    → Began (stated_of s e n st) x y → Puts (entity_lines (setting c) e records) r x y
entity_began c k s e records n st r x y count state some kind is failed head =
    puts_err r (entity_lines (setting c) e records) x y failed
    (front_same _ _ write_error.Failed x y (entity_is c k s e records (λ none. some (count ∙ none)) kind is)
    (front_more (head_of k s e records) (records_of records) write_error.Failed x y (front_same _ _ write_error.Failed x y (head_is k s e records n st count state) head)))

-- The state that records lead to.

pub fold_may : (st : State) (records : List Record) (i : ℕ) (r : Record) → i < length records → r ≡ slice_index_or records i r → are_foldable st (drop i records) ≡ true → are_applicable st r.events ≡ true
fold_may st records i r h read may =
    let more : drop i records ≡ r ∷ drop (i + 1) records = drop_more records i r h ∙ ap (λ (x : Record). x ∷ drop (i + 1) records) (sym read) in
    (and_both (are_applicable st r.events) (are_foldable (after_record st r) (drop (i + 1) records)) (subst (λ l. are_foldable st l ≡ true) more may)).0

-- one record more
pub fold_next : (st new whole : State) (records : List Record) (i : ℕ) (r : Record) → i < length records → r ≡ slice_index_or records i r → are_foldable st (drop i records) ≡ true → fold after_record st (drop i records) ≡ whole → new ≡ fold apply st r.events
    → (are_foldable new (drop (i + 1) records) ≡ true) × (fold after_record new (drop (i + 1) records) ≡ whole)
fold_next st new whole records i r h read may value step =
    let more : drop i records ≡ r ∷ drop (i + 1) records = drop_more records i r h ∙ ap (λ (x : Record). x ∷ drop (i + 1) records) (sym read) in
    let parts : (are_applicable st r.events ≡ true) × (are_foldable (after_record st r) (drop (i + 1) records) ≡ true) =
    and_both (are_applicable st r.events) (are_foldable (after_record st r) (drop (i + 1) records)) (subst (λ l. are_foldable st l ≡ true) more may) in (
      subst (λ s. are_foldable s (drop (i + 1) records) ≡ true) (sym step) parts.1,
      ap (λ s. fold after_record s (drop (i + 1) records)) step ∙ (sym (ap (fold after_record st) more) ∙ value),
    )

-- and none
pub fold_done : (st whole : State) (records : List Record) (i : ℕ) → length records ≤ i → fold after_record st (drop i records) ≡ whole → st ≡ whole
fold_done st whole records i past value = sym (ap (fold after_record st) (drop_all i records past)) ∙ value

-- Lines of the items from a place on, with one more.

pub lines_more : {A : Type 0} (f : A → Bytes) (xs : List A) (n i : ℕ) (x : A) (part new : Bytes) → n + i < length xs → x ≡ slice_index_or xs (n + i) x → part ≡ flat_map f (take i (drop n xs)) → new ≡ part ++ f x → new ≡ flat_map f (take (i + 1) (drop n xs))
lines_more f xs n i x part new h is so_far grown =
    let long : length (drop n xs) ≡ length xs - n = length-drop n xs in
    let here : x ≡ slice_index_or (drop n xs) i x = is ∙ sym (get_or-drop n xs i x) in
    grown ∙ (ap (λ l. l ++ f x) so_far ∙ (ap (λ y. flat_map f (take i (drop n xs)) ++ f y) here ∙ each_more f (drop n xs) i x (omega (arith, h, long))))

-- What the stores keep.

below : (a b : ℕ) → a < b → nat_lt a b ≡ true
below a b h = grind (arith, nat_tests)

at_most : (a b : ℕ) → a ≤ b → nat_le a b ≡ true
at_most a b h = grind (arith, nat_tests)

same : (a b : ℕ) → a ≡ b → (a == b) ≡ true
same a b h = grind (arith, nat_tests)

is_queue : (c : Script) (p : ℕ) → 0 < p → p ≤ c.config.producers → is_slot_of c (slot.Queue p) ≡ true
is_queue c p low high = both (nat_le 1 p) (nat_le p c.config.producers) (at_most 1 p (omega (arith, low))) (at_most p c.config.producers high)

-- of a shard
shard_entries : (c : Script) (places : List (Option Store)) (s : ℕ) (x : Shelf) → s < c.config.shards → at places s ≡ Some (store.Shard x) → x.entries ≡ shard_list (lists_at c.config places) s
shard_entries c places s x within here = sym (list_there c places (slot.Shard s) (below s c.config.shards within) ∙ ap entries_in here)

-- of a queue
queue_entries : (c : Script) (places : List (Option Store)) (p : ℕ) (x : Queue) → 0 < p → p ≤ c.config.producers → at places (c.config.shards + p) ≡ Some (store.Queue x) → x.entries ≡ queue_list (lists_at c.config places) p
queue_entries c places p x low high here = sym (list_there c places (slot.Queue p) (is_queue c p low high) ∙ ap entries_in here)

-- The names of a shard.

picked_any : (p : List ℕ → Bool) (names : List (List ℕ)) (k : ℕ) → k < length (filter p names) → list_any (is_name (slice_index_or (filter p names) k [])) names ≡ true
picked_any p [] k h = absurd (omega arith)
picked_any p (n ∷ ns) k h = by (p n) (picked_any p ns) k h
  where
    by : (b : Bool) → ((j : ℕ) → j < length (filter p ns) → list_any (is_name (slice_index_or (filter p ns) j [])) ns ≡ true) → (j : ℕ) → j < length (cond b (n ∷ filter p ns) (filter p ns))
        → list_any (is_name (slice_index_or (cond b (n ∷ filter p ns) (filter p ns)) j [])) (n ∷ ns) ≡ true
    by true rest zero m = ap (λ b. b || list_any (is_name n) ns) (name_itself n)
    by true rest (suc j) m = any_more (slice_index_or (filter p ns) j []) n ns (rest j (omega arith))
    by false rest j m = any_more (slice_index_or (filter p ns) j []) n ns (rest j m)

pub own_at : (c : Script) (s : ℕ) (names : List (List ℕ)) (k : ℕ) → names ≡ names_of (setting c) s → k < length names → is_of_shard c s (slice_index_or names k []) ≡ true
own_at c s names k is h =
    let e : List ℕ = slice_index_or names k [] in
    both (list_any (is_name e) (names_in c.orders)) (shard_of (setting c) e == s)
    (subst (λ (l : List (List ℕ)). list_any (is_name (slice_index_or l k [])) (names_in c.orders) ≡ true) (sym is) (picked_any (λ n. shard_of (setting c) n == s) (names_in c.orders) k (subst (λ (l : List (List ℕ)). k < length l) is h)))
    (same (shard_of (setting c) e) s (in_shard (setting c) s names k is h))

both_first : (a b : Bool) → (a && b) ≡ true → a ≡ true
both_first true b h = refl
both_first false b h = h

both_second : (a b : Bool) → (a && b) ≡ true → b ≡ true
both_second true b h = h
both_second false b h = cc

-- what holds of all holds at a place
all_at : (p : List ℕ → Bool) (names : List (List ℕ)) (k : ℕ) → list_all p names ≡ true → k < length names → p (slice_index_or names k []) ≡ true
all_at p [] k all h = absurd (omega arith)
all_at p (n ∷ ns) zero all h = both_first (p n) (list_all p ns) all
all_at p (n ∷ ns) (suc k) all h = all_at p ns k (both_second (p n) (list_all p ns) all) (omega arith)

-- A shard's entities, of its store.

entries_are : (c : Script) (places : List (Option Store)) (i s : ℕ) (x : Shelf) → s ≡ i → i < c.config.shards → at places s ≡ Some (store.Shard x) → x.entries ≡ shard_list (lists_at c.config places) i
entries_are c places i s x is within here = shard_entries c places s x (subst (λ n. n < c.config.shards) (sym is) within) here ∙ ap (shard_list (lists_at c.config places)) is

pub shard_folds : (c : Script) (places : List (Option Store)) (i s : ℕ) (x : Shelf) (names : List (List ℕ)) → s ≡ i → i < c.config.shards → names ≡ names_of (setting c) i → at places s ≡ Some (store.Shard x)
    → is_foldable_shard (setting c) (lists_at c.config places) i ≡ true → (k : ℕ) → k < length names → is_foldable c.config.kind x.entries (slice_index_or names k []) ≡ true
shard_folds c places i s x names is within own here folds k h =
    all_at (is_foldable c.config.kind x.entries) names k
    (subst (λ (l : List Fact). list_all (is_foldable c.config.kind l) names ≡ true) (sym (entries_are c places i s x is within here))
    (subst (λ (l : List (List ℕ)). list_all (is_foldable c.config.kind (shard_list (lists_at c.config places) i)) l ≡ true) (sym own) folds)) h

pub shard_is : (c : Script) (places : List (Option Store)) (i s : ℕ) (x : Shelf) (names : List (List ℕ)) → s ≡ i → i < c.config.shards → names ≡ names_of (setting c) i → at places s ≡ Some (store.Shard x)
    → flat_map (λ e. entity_lines (setting c) e (journal e x.entries)) names ≡ shard_part (setting c) (lists_at c.config places) i
shard_is c places i s x names is within own here =
    ap (λ (l : List Fact). flat_map (λ e. entity_lines (setting c) e (journal e l)) names) (entries_are c places i s x is within here)
    ∙ ap (λ (l : List (List ℕ)). flat_map (λ e. entity_lines (setting c) e (journal e (shard_list (lists_at c.config places) i))) l) own

-- A pair, whose counts stand at the place of its name.

pub pair_is : (c : Script) (p : ℕ) (list : List Fact) (names : List (List ℕ)) (i : ℕ) (x : List ℕ) (q k : ℕ) → names ≡ names_in c.orders → i < length names → x ≡ slice_index_or names i x
    → q ≡ queued (name_at c i) list → k ≡ confirmed (name_at c i) list → tally_text p x (record { queued = q; confirmed = k }) ≡ tally_text p x (tally_of list x)
pair_is c p list names i x q k are within is queued_is confirmed_is =
    let it : x ≡ name_at c i = is ∙ (get_or_default names i x [] within ∙ ap (λ (l : List (List ℕ)). slice_index_or l i []) are) in
    ap (λ n. tally_text p x (record { queued = n; confirmed = k })) (queued_is ∙ ap (λ (e : List ℕ). queued e list) (sym it))
    ∙ ap (λ n. tally_text p x (record { queued = queued x list; confirmed = n })) (confirmed_is ∙ ap (λ (e : List ℕ). confirmed e list) (sym it))

-- the pairs of a queue, of its store
pub queue_is : (c : Script) (places : List (Option Store)) (i p n : ℕ) (x : Queue) (names : List (List ℕ)) → p ≡ i → 0 < i → i ≤ c.config.producers → n ≡ c.config.shards → at places (n + p) ≡ Some (store.Queue x) → names ≡ names_in c.orders
    → queue_rows tally_text p x.entries names ≡ queue_part (setting c) (lists_at c.config places) i
queue_is c places i p n x names is low high count here all =
    let there : at places (c.config.shards + i) ≡ Some (store.Queue x) = subst (λ m. at places (m + i) ≡ Some (store.Queue x)) count (subst (λ q. at places (n + q) ≡ Some (store.Queue x)) is here) in
    ap (λ q. queue_rows tally_text q x.entries names) is
    ∙ (ap (λ (l : List Fact). queue_rows tally_text i l names) (queue_entries c places i x low high there) ∙ ap (λ (l : List (List ℕ)). queue_rows tally_text i (queue_list (lists_at c.config places) i) l) all)

-- The whole.

four : (a b d e : Bytes) → a ++ b ++ d ++ e ≡ a ++ (b ++ (d ++ e))
four a b d e = simp append_assoc

abbrev pub first : Bytes
first = line (codes "report" ∷ [])

abbrev pub last : Bytes
last = line (codes "end" ∷ [])

abbrev pub entities : Setting → SlotLists → Bytes
entities set lists = flat_map (shard_part set lists) (shards set)

abbrev pub pairs : Setting → SlotLists → Bytes
pairs set lists = flat_map (queue_part set lists) (producers set)

report_is : (set : Setting) (lists : SlotLists) → report set lists ≡ first ++ (entities set lists ++ (pairs set lists ++ last))
report_is set lists = ap (λ l. first ++ l ++ queues_text set lists ++ last) (entities_are entity_lines set lists) ∙ four first (entities set lists) (queues_text set lists) last

pub report_put : {A X : Type 0} (set : Setting) (lists : SlotLists) (r : Result A X) (s t u v w : Sunk) → Took first s t → Took (entities set lists) t u → Took (pairs set lists) u v → Puts last r v w → Puts (report set lists) r s w
report_put set lists r s t u v w one two three end =
    puts_same r _ _ s w (sym (report_is set lists))
    (puts_on r first (entities set lists ++ (pairs set lists ++ last)) s t w one
    (puts_on r (entities set lists) (pairs set lists ++ last) t u w two
    (puts_on r (pairs set lists) last u v w three end)))

pub head_began : {A X : Type 0} (set : Setting) (lists : SlotLists) (r : Result A X) (s t : Sunk) → IsErr r → Began first s t → Puts (report set lists) r s t
head_began set lists r s t failed one =
    puts_err r (report set lists) s t failed
    (front_same _ _ write_error.Failed s t (sym (report_is set lists)) (front_more first (entities set lists ++ (pairs set lists ++ last)) write_error.Failed s t one))

pub entities_began : {A X : Type 0} (set : Setting) (lists : SlotLists) (r : Result A X) (s t u : Sunk) → IsErr r → Took first s t → Began (entities set lists) t u → Puts (report set lists) r s u
entities_began set lists r s t u failed one two =
    puts_err r (report set lists) s u failed
    (front_same _ _ write_error.Failed s u (sym (report_is set lists))
    (front_both first (entities set lists ++ (pairs set lists ++ last)) write_error.Failed s t u one (front_more (entities set lists) (pairs set lists ++ last) write_error.Failed t u two)))

pub pairs_began : {A X : Type 0} (set : Setting) (lists : SlotLists) (r : Result A X) (s t u v : Sunk) → IsErr r → Took first s t → Took (entities set lists) t u → Began (pairs set lists) u v → Puts (report set lists) r s v
pairs_began set lists r s t u v failed one two three =
    puts_err r (report set lists) s v failed
    (front_same _ _ write_error.Failed s v (sym (report_is set lists))
    (front_both first (entities set lists ++ (pairs set lists ++ last)) write_error.Failed s t v one
    (front_both (entities set lists) (pairs set lists ++ last) write_error.Failed t u v two (front_more (pairs set lists) last write_error.Failed u v three))))

-- The lists of the same stores.

pub same_lists : (c d : Script) (p q : List (Option Store)) → d ≡ c → p ≡ q → lists_at c.config p ≡ lists_at d.config q
same_lists c d p q script places = ap (λ (x : List (Option Store)). lists_at c.config x) places ∙ ap (λ (x : Script). lists_at x.config q) (sym script)
