-- The parts of a report: how many there are, what stands at each place, and that they are the report.
use Rattle.std.proofs.Common.{◌≡◌, ℕ, zero, suc, ◌<◌, ◌≤◌, ◌+◌, ◌-◌, List, [], ◌∷◌, ◌++◌, length, drop, sym, ap, ◌∙◌, refl, arith, append_assoc, length-append}
use Rattle.std.specs.Prelude.{map, codes, slice_index_or}
use Rattle.std.specs.List.{flat_map}
use Rattle.std.proofs.lemmas.List.{drop_more, drop_all, get_or-map, get_or_append_left, get_or-append_right, length-map}
use Rattle.std.proofs.lemmas.List.Folds.{flat_map-map}
use Rattle.std.proofs.lemmas.Grind.{flat_map-append}
use Rattle.yard_model.specs.Words.{numbers}
use Rattle.yard_model.specs.Script.{Setting}
use Rattle.yard_model.specs.Setting.{shards, producers}
use Rattle.yard_model.specs.SlotLists.{SlotLists}
use Rattle.yard_model.specs.Text.{Bytes, line, entity_lines, queues_text, report}
use Rattle.trace_text.specs.Parts.{shard_part, queue_part, report_part, report_parts}
use Rattle.trace_text.proofs.RowLaws.{entities_are}

length_numbers : (a n : ℕ) → length (numbers a n) ≡ n
length_numbers a zero = refl
length_numbers a (suc n) = ap suc (length_numbers (a + 1) n)

number_at : (a n i : ℕ) → i < n → slice_index_or (numbers a n) i 0 ≡ a + i
number_at a zero i h = absurd (omega arith)
number_at a (suc n) zero h = omega arith
number_at a (suc n) (suc i) h = let rest : slice_index_or (numbers (a + 1) n) i 0 ≡ a + 1 + i = number_at (a + 1) n i (omega arith) in rest ∙ omega arith

abbrev last : Bytes
last = line (codes "end" ∷ [])

abbrev shard_parts : Setting → SlotLists → List Bytes
shard_parts set lists = map (shard_part set lists) (shards set)

abbrev queue_parts : Setting → SlotLists → List Bytes
queue_parts set lists = map (queue_part set lists) (producers set)

shards_count : (set : Setting) (lists : SlotLists) → length (shard_parts set lists) ≡ set.config.shards
shards_count set lists = length-map (shards set) (shard_part set lists) ∙ length_numbers 0 set.config.shards

queues_count : (set : Setting) (lists : SlotLists) → length (queue_parts set lists) ≡ set.config.producers
queues_count set lists = length-map (producers set) (queue_part set lists) ∙ length_numbers 1 set.config.producers

pub parts_count : (set : Setting) (lists : SlotLists) → length (report_parts set lists) ≡ set.config.shards + set.config.producers + 2
parts_count set lists =
    let s : length (shard_parts set lists) ≡ set.config.shards = shards_count set lists in
    let q : length (queue_parts set lists) ≡ set.config.producers = queues_count set lists in
    let a : length (shard_parts set lists ++ (queue_parts set lists ++ (last ∷ []))) ≡ length (shard_parts set lists) + length (queue_parts set lists ++ (last ∷ [])) = length-append (shard_parts set lists) (queue_parts set lists ++ (last ∷ [])) in
    let b : length (queue_parts set lists ++ (last ∷ [])) ≡ length (queue_parts set lists) + 1 = length-append (queue_parts set lists) (last ∷ []) in
    let c : length (report_parts set lists) ≡ suc (length (shard_parts set lists ++ (queue_parts set lists ++ (last ∷ [])))) = refl in
    omega arith

-- the part of a shard
pub part_of_shard : (set : Setting) (lists : SlotLists) (k i : ℕ) → k ≡ suc i → i < set.config.shards → report_part set lists k ≡ shard_part set lists i
part_of_shard set lists k i is h =
    let s : length (shard_parts set lists) ≡ set.config.shards = shards_count set lists in
    let n : length (shards set) ≡ set.config.shards = length_numbers 0 set.config.shards in
    ap (λ j. report_part set lists j) is
    ∙ (get_or_append_left (shard_parts set lists) (queue_parts set lists ++ (last ∷ [])) [] i (omega arith)
    ∙ (get_or-map (shard_part set lists) (shards set) i 0 [] (omega arith)
    ∙ ap (shard_part set lists) (number_at 0 set.config.shards i h ∙ omega arith)))

-- the part of a queue
pub part_of_queue : (set : Setting) (lists : SlotLists) (k p : ℕ) → k ≡ set.config.shards + p → 0 < p → p ≤ set.config.producers → report_part set lists k ≡ queue_part set lists p
part_of_queue set lists k zero is some few = absurd (omega arith)
part_of_queue set lists k (suc j) is some few =
    let q : length (queue_parts set lists) ≡ set.config.producers = queues_count set lists in
    let n : length (producers set) ≡ set.config.producers = length_numbers 1 set.config.producers in
    let at : k ≡ suc (set.config.shards + j) = omega arith in
    let left : set.config.shards + j - set.config.shards ≡ j = omega arith in
    ap (λ i. report_part set lists i) at
    ∙ (get_or-append_right (shard_parts set lists) (queue_parts set lists ++ (last ∷ [])) set.config.shards (set.config.shards + j) [] (shards_count set lists) (omega arith)
    ∙ (ap (λ i. slice_index_or (queue_parts set lists ++ (last ∷ [])) i []) left
    ∙ (get_or_append_left (queue_parts set lists) (last ∷ []) [] j (omega arith)
    ∙ (get_or-map (queue_part set lists) (producers set) j 0 [] (omega arith)
    ∙ ap (queue_part set lists) (number_at 1 set.config.producers j (omega arith) ∙ omega arith)))))

-- the last one
pub part_behind : (set : Setting) (lists : SlotLists) (k : ℕ) → k ≡ set.config.shards + set.config.producers + 1 → report_part set lists k ≡ line (codes "end" ∷ [])
part_behind set lists k is =
    let at : k ≡ suc (set.config.shards + set.config.producers) = omega arith in
    let left : set.config.shards + set.config.producers - set.config.shards ≡ set.config.producers = omega arith in
    let none : set.config.producers - set.config.producers ≡ 0 = omega arith in
    ap (λ i. report_part set lists i) at
    ∙ (get_or-append_right (shard_parts set lists) (queue_parts set lists ++ (last ∷ [])) set.config.shards (set.config.shards + set.config.producers) [] (shards_count set lists) (omega arith)
    ∙ (ap (λ i. slice_index_or (queue_parts set lists ++ (last ∷ [])) i []) left
    ∙ (get_or-append_right (queue_parts set lists) (last ∷ []) set.config.producers set.config.producers [] (queues_count set lists) (omega arith)
    ∙ ap (λ i. slice_index_or (last ∷ []) i []) none)))

abbrev pub together : List Bytes → Bytes
together parts = flat_map (λ (part : Bytes). part) parts

together_of : {A : Type 0} (show : A → Bytes) (xs : List A) (rest : List Bytes) → together (map show xs ++ rest) ≡ flat_map show xs ++ together rest
together_of show xs rest =
    flat_map-append (λ (part : Bytes). part) (map show xs) rest ∙ ap (λ l. l ++ together rest) (flat_map-map (λ (part : Bytes). part) show xs)

four : (a b c d : Bytes) → a ++ b ++ c ++ d ≡ a ++ (b ++ (c ++ d))
four a b c d = simp append_assoc

-- the parts are the report
pub parts_are : (set : Setting) (lists : SlotLists) → report set lists ≡ together (report_parts set lists)
parts_are set lists =
    ap (λ l. line (codes "report" ∷ []) ++ l ++ queues_text set lists ++ last) (entities_are entity_lines set lists)
    ∙ (four (line (codes "report" ∷ [])) (flat_map (shard_part set lists) (shards set)) (queues_text set lists) last
    ∙ sym (ap (λ l. line (codes "report" ∷ []) ++ l)
    (together_of (shard_part set lists) (shards set) (queue_parts set lists ++ (last ∷ []))
    ∙ ap (λ l. flat_map (shard_part set lists) (shards set) ++ l) (together_of (queue_part set lists) (producers set) (last ∷ [])))))

-- one part more of what is left
pub part_next : (parts : List Bytes) (k : ℕ) (old new whole : Bytes) → k < length parts → new ≡ old ++ slice_index_or parts k [] → old ++ together (drop k parts) ≡ whole → new ++ together (drop (k + 1) parts) ≡ whole
part_next parts k old new whole h is was =
    ap (λ l. l ++ together (drop (k + 1) parts)) is
    ∙ (append_assoc old (slice_index_or parts k []) (together (drop (k + 1) parts)) ∙ (sym (ap (λ l. old ++ together l) (drop_more parts k [] h)) ∙ was))

none_behind : (text : Bytes) → text ++ [] ≡ text
none_behind [] = refl
none_behind (b ∷ bs) = ap (λ l. b ∷ l) (none_behind bs)

-- none is left
pub parts_done : (parts : List Bytes) (k : ℕ) (text whole : Bytes) → length parts ≤ k → text ++ together (drop k parts) ≡ whole → text ≡ whole
parts_done parts k text whole h was = sym (none_behind text) ∙ (sym (ap (λ l. text ++ together l) (drop_all k parts h)) ∙ was)
