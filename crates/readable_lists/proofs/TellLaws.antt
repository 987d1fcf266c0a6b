-- Different lists have different texts.
use Rattle.std.proofs.Common.{◌≡◌, ◌<◌, ◌≤◌, ℕ, zero, suc, ◌+◌, sym, ap, ◌∙◌, refl, subst, arith}
use Rattle.std.specs.Prelude.{true, ◌&&◌, nat_le, List, [], ◌∷◌, ◌++◌, map}
use Rattle.std.specs.List.{flat_map, list_all}
use Rattle.std.proofs.lemmas.List.{append_assoc}
use Rattle.plain_laws.proofs.Booleans.{and_both, at_most, below, both, is_below, within}
use Rattle.plain_laws.proofs.Lists.{all_join, by_place}
use Rattle.yard_model.specs.declared.charter.Config.{Config}
use Rattle.yard_model.specs.declared.fact.Fact.{Fact}
use Rattle.yard_model.specs.declared.incarnation.Slot.{Slot}
use Rattle.yard_model.specs.declared.incarnation.Slot.TheVariants as slot
use Rattle.yard_model.specs.Behaviour.{is_in}
use Rattle.yard_model.specs.Genuine.{is_slot_of}
use Rattle.yard_model.specs.Script.{IsScript, Script, setting}
use Rattle.yard_model.specs.SlotLists.{SlotLists, queue_list, shard_list}
use Rattle.yard_model.specs.Text.{lists_text, report, slot_lines}
use Rattle.yard_model.specs.Trace.{list_at}
use Rattle.yard_model.specs.Words.{numbers}
use Rattle.readable_lists.specs.Readable.{AreReadable}
use Rattle.readable_lists.specs.Tells.{TextsTellLists}
use Rattle.readable_lists.proofs.SlotLaws.{AreEach, AreSame, Ends, Rising, slots_tell, texts}

-- The slots of a script, in the order of the text.

abbrev shard_slots : Script → List Slot
shard_slots c = map (λ s. slot.Shard s) (numbers 0 c.config.shards)

abbrev queue_slots : Script → List Slot
queue_slots c = map (λ p. slot.Queue p) (numbers 1 c.config.producers)

abbrev slots : Script → List Slot
slots c = shard_slots c ++ slot.Coordinator ∷ queue_slots c

-- how many there are
record Few (c : Script) : Type 0 where
  shards : c.config.shards ≤ 128
  producers : c.config.producers ≤ 32

few : (c : Script) → IsScript c → Few c
few c ok =
    let d : Config = c.config in
    let f = and_both (is_in 1 16 d.nodes && is_in 1 128 d.shards && is_in 1 32 d.producers && is_in 1 1000 d.buffer && is_in 1 64 d.window && is_in 1 10000 d.snapshot) (is_in 1 10 d.keep) ok.config in
    let e = and_both (is_in 1 16 d.nodes && is_in 1 128 d.shards && is_in 1 32 d.producers && is_in 1 1000 d.buffer && is_in 1 64 d.window) (is_in 1 10000 d.snapshot) f.0 in
    let w = and_both (is_in 1 16 d.nodes && is_in 1 128 d.shards && is_in 1 32 d.producers && is_in 1 1000 d.buffer) (is_in 1 64 d.window) e.0 in
    let b = and_both (is_in 1 16 d.nodes && is_in 1 128 d.shards && is_in 1 32 d.producers) (is_in 1 1000 d.buffer) w.0 in
    let p = and_both (is_in 1 16 d.nodes && is_in 1 128 d.shards) (is_in 1 32 d.producers) b.0 in
    let s = and_both (is_in 1 16 d.nodes) (is_in 1 128 d.shards) p.0 in
    record {
      shards = at_most d.shards 128 (and_both (nat_le 1 d.shards) (nat_le d.shards 128) s.1).1;
      producers = at_most d.producers 32 (and_both (nat_le 1 d.producers) (nat_le d.producers 32) p.1).1;
    }

-- They rise.

queues_rise : (k a n : ℕ) → k ≤ 128 + a → 1 ≤ a → a + n ≤ 33 → Rising k (map (λ p. slot.Queue p) (numbers a n))
queues_rise k a zero h low high = tt
queues_rise k a (suc n) h low high = (h, (low, omega (arith, high)), queues_rise (128 + a + 1) (a + 1) n (omega arith) (omega arith) (omega (arith, high)))

shards_rise : (k a n : ℕ) (rest : List Slot) → k ≤ a → a + n ≤ 128 → ((j : ℕ) → j ≤ 128 → Rising j rest) → Rising k (map (λ s. slot.Shard s) (numbers a n) ++ rest)
shards_rise k a zero rest h high more = more k (omega (arith, h, high))
shards_rise k a (suc n) rest h high more = (h, omega (arith, high), shards_rise (a + 1) (a + 1) n rest (omega arith) (omega (arith, high)) more)

slots_rise : (c : Script) → Few c → Rising 0 (slots c)
slots_rise c f =
    let sh : c.config.shards ≤ 128 = f.shards in
    let pr : c.config.producers ≤ 32 = f.producers in
    shards_rise 0 0 c.config.shards (slot.Coordinator ∷ queue_slots c) (omega arith) (omega (arith, sh))
    (λ j h. (h, tt, queues_rise 129 1 c.config.producers (omega arith) (omega arith) (omega (arith, pr))))

-- They are the script's.

shards_of : (c : Script) (a n : ℕ) → a + n ≤ c.config.shards → list_all (is_slot_of c) (map (λ s. slot.Shard s) (numbers a n)) ≡ true
shards_of c a zero h = refl
shards_of c a (suc n) h = both (is_slot_of c (slot.Shard a)) _ (is_below a c.config.shards (omega (arith, h))) (shards_of c (a + 1) n (omega (arith, h)))

queues_of : (c : Script) (a n : ℕ) → 1 ≤ a → a + n ≤ c.config.producers + 1 → list_all (is_slot_of c) (map (λ p. slot.Queue p) (numbers a n)) ≡ true
queues_of c a zero low h = refl
queues_of c a (suc n) low h =
    both (is_slot_of c (slot.Queue a)) _ (both (nat_le 1 a) (nat_le a c.config.producers) (within 1 a low) (within a c.config.producers (omega (arith, h))))
    (queues_of c (a + 1) n (omega arith) (omega (arith, h)))

slots_of : (c : Script) → list_all (is_slot_of c) (slots c) ≡ true
slots_of c = all_join (is_slot_of c) (shard_slots c) (slot.Coordinator ∷ queue_slots c) (shards_of c 0 c.config.shards (omega arith))
    (queues_of c 1 c.config.producers (omega arith) (omega arith))

each_of : (c : Script) (lists : SlotLists) (ss : List Slot) → AreReadable c lists → list_all (is_slot_of c) ss ≡ true → AreEach (list_at lists) ss
each_of c lists [] read all = tt
each_of c lists (s ∷ ss) read all = let k = and_both (is_slot_of c s) (list_all (is_slot_of c) ss) all in (read s k.0, each_of c lists ss read k.1)

-- The text of lists is that of the slots, and the report behind it.

joined : (lists : Slot → List Fact) (xs ys : List Slot) (rest : List ℕ) → texts lists (xs ++ ys) rest ≡ texts lists xs (texts lists ys rest)
joined lists [] ys rest = refl
joined lists (x ∷ xs) ys rest = ap (λ t. slot_lines x (lists x) ++ t) (joined lists xs ys rest)

mapped : (lists : Slot → List Fact) (f : ℕ → Slot) (xs rest : List ℕ) → texts lists (map f xs) rest ≡ flat_map (λ x. slot_lines (f x) (lists (f x))) xs ++ rest
mapped lists f [] rest = refl
mapped lists f (x ∷ xs) rest =
    ap (λ t. slot_lines (f x) (lists (f x)) ++ t) (mapped lists f xs rest)
    ∙ sym (append_assoc (slot_lines (f x) (lists (f x))) (flat_map (λ y. slot_lines (f y) (lists (f y))) xs) rest)

text_is : (c : Script) (lists : SlotLists) → lists_text (setting c) lists ≡ texts (list_at lists) (slots c) (report (setting c) lists)
text_is c lists =
    let shards : List ℕ = flat_map (λ s. slot_lines (slot.Shard s) (shard_list lists s)) (numbers 0 c.config.shards) in
    let office : List ℕ = slot_lines slot.Coordinator lists.coordinator in
    let queues : List ℕ = flat_map (λ p. slot_lines (slot.Queue p) (queue_list lists p)) (numbers 1 c.config.producers) in
    let rest : List ℕ = report (setting c) lists in
    let whole : ((shards ++ office) ++ queues) ++ rest ≡ shards ++ (office ++ (queues ++ rest)) = append_assoc (shards ++ office) queues rest ∙ append_assoc shards office (queues ++ rest) in
    whole
    ∙ (ap (λ t. shards ++ (office ++ t)) (sym (mapped (list_at lists) (λ p. slot.Queue p) (numbers 1 c.config.producers) rest))
    ∙ (sym (mapped (list_at lists) (λ s. slot.Shard s) (numbers 0 c.config.shards) (texts (list_at lists) (slot.Coordinator ∷ queue_slots c) rest))
    ∙ sym (joined (list_at lists) (shard_slots c) (slot.Coordinator ∷ queue_slots c) rest)))

report_ends : (c : Script) (lists : SlotLists) → Ends (report (setting c) lists)
report_ends c lists = record { header = refl; entry = refl }

-- What is so of all slots is so of each.

same_left : (l m : Slot → List Fact) (xs ys : List Slot) → AreSame l m (xs ++ ys) → AreSame l m xs
same_left l m [] ys h = tt
same_left l m (x ∷ xs) ys h = (h.0, same_left l m xs ys h.1)

same_right : (l m : Slot → List Fact) (xs ys : List Slot) → AreSame l m (xs ++ ys) → AreSame l m ys
same_right l m [] ys h = h
same_right l m (x ∷ xs) ys h = same_right l m xs ys h.1

same_at : (l m : Slot → List Fact) (f : ℕ → Slot) (a n i : ℕ) → AreSame l m (map f (numbers a n)) → a ≤ i → i < a + n → l (f i) ≡ m (f i)
same_at l m f a zero i h low high = absurd (omega (arith, low, high))
same_at l m f a (suc n) i h low high =
    by_place (l (f i) ≡ m (f i)) i a (λ e. subst (λ j. l (f j) ≡ m (f j)) (sym e) h.0) (λ e. same_at l m f (a + 1) n i h.1 (omega (arith, low, e)) (omega (arith, high)))

same_of : (c : Script) (l m : Slot → List Fact) → AreSame l m (slots c) → (s : Slot) → is_slot_of c s ≡ true → l s ≡ m s
same_of c l m h (slot.Shard s) k = same_at l m (λ x. slot.Shard x) 0 c.config.shards s (same_left l m (shard_slots c) (slot.Coordinator ∷ queue_slots c) h) (omega arith) (let inside : s < c.config.shards = below s c.config.shards k in omega (arith, inside))
same_of c l m h slot.Coordinator k = (same_right l m (shard_slots c) (slot.Coordinator ∷ queue_slots c) h).0
same_of c l m h (slot.Queue p) k =
    let b = and_both (nat_le 1 p) (nat_le p c.config.producers) k in
    let low : 1 ≤ p = at_most 1 p b.0 in
    let high : p ≤ c.config.producers = at_most p c.config.producers b.1 in
    same_at l m (λ x. slot.Queue x) 1 c.config.producers p (same_right l m (shard_slots c) (slot.Coordinator ∷ queue_slots c) h).1 low (omega (arith, high))

pub texts_tell_lists : TextsTellLists
texts_tell_lists c l m ok read others e =
    same_of c (list_at l) (list_at m)
    (slots_tell (list_at l) (list_at m) 0 (slots c) (report (setting c) l) (report (setting c) m) (slots_rise c (few c ok)) (each_of c l (slots c) read (slots_of c)) (each_of c m (slots c) others (slots_of c))
    (report_ends c l) (report_ends c m) (sym (text_is c l) ∙ (e ∙ text_is c m)))
