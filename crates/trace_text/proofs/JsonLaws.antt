-- The compact text of the report's values is what is written byte by byte.
use Rattle.std.proofs.Common.{◌≡◌, ℕ, List, [], ◌∷◌, ◌++◌, ap, sym, ◌∙◌, refl, drop, length, append_assoc, append-nil, ◌+◌, arith}
use Rattle.std.specs.Prelude.{Bool, true, false, ◌==◌, ◌<◌, nat_lt, IsTrue, codes, decimal, map, if◌then◌else◌, slice_index_or}
use Rattle.std.specs.Borrow.{Bor}
use Rattle.std.specs.List.{flat_map}
use Rattle.std.proofs.lemmas.Bool.Decides.{nat_tests}
use Rattle.std.proofs.lemmas.List.{drop_more}
use Rattle.std.proofs.lemmas.Grind.{flat_map-append}
use Rattle.json.specs.Print.{escape_byte, escape, quoted}
use Rattle.serde_json.specs.Data.{Data, string}
use Rattle.serde_json.specs.View.{items_of}
use Rattle.serde_json.specs.Written.{compact_text, items_text}
use Rattle.yard_model.specs.declared.event.Event.{Event}
use Rattle.yard_model.specs.declared.event.Kind.{Kind}
use Rattle.yard_model.specs.declared.packet.Record.{Record}
use Rattle.yard_model.specs.Behaviour.{folded}
use Rattle.yard_model.specs.Name.{IsName}
use Rattle.yard_model.specs.Script.{Setting}
use Rattle.yard_model.specs.Setting.{shards, producers, shard_of, names_of}
use Rattle.yard_model.specs.SlotLists.{SlotLists, shard_list, queue_list}
use Rattle.yard_model.specs.SlotReads.{journal, queued, confirmed}
use Rattle.yard_model.specs.Text.{Bytes, command_text, event_text, reply_text, state_text}
use Rattle.trace_text.specs.declared.queues.Tally.{Tally}
use Rattle.trace_text.specs.Behind.{behind}
use Rattle.trace_text.specs.Json.{record_json, events_json, entity_value, entity_json, pair_value, pair_json, entities_json, queues_json, whole_text}
use Rattle.trace_text.specs.JsonText.{values_text, entity_values, pair_values, events_bytes, record_bytes, name_bytes, state_bytes, entity_bytes}
use Rattle.trace_text.specs.Places.{lent}
use Rattle.trace_text.specs.Rows.{shard_rows, queue_rows}
use Rattle.trace_text.proofs.AsciiLaws.{is_plain, ArePlain, command_plain, event_plain, reply_plain, state_plain, name_bytes as name_plain}
use Rattle.trace_text.proofs.RowLaws.{first_of, second_of, entities_are}

-- What is plain stands between quotes as it is.

kept_byte : (b : ℕ) → IsTrue (is_plain b) → escape_byte b ≡ b ∷ []
unfolding escape_byte
kept_byte b h =
    let quote : b == 34 ≡ false = grind (arith, nat_tests) in
    let slash : b == 92 ≡ false = grind (arith, nat_tests) in
    let eight : b == 8 ≡ false = grind (arith, nat_tests) in
    let twelve : b == 12 ≡ false = grind (arith, nat_tests) in
    let ten : b == 10 ≡ false = grind (arith, nat_tests) in
    let thirteen : b == 13 ≡ false = grind (arith, nat_tests) in
    let nine : b == 9 ≡ false = grind (arith, nat_tests) in
    let low : nat_lt b 32 ≡ false = grind (arith, nat_tests) in
    rw (quote, slash, eight, twelve, ten, thirteen, nine, low) refl

kept : (bs : List ℕ) → ArePlain bs → escape bs ≡ bs
kept [] h = refl
kept (b ∷ bs) h = ap (λ l. l ++ escape bs) (kept_byte b (first_of (is_plain b) _ h)) ∙ ap (λ l. b ∷ l) (kept bs (second_of (is_plain b) _ h))

-- Events.

quoted_then : (e : Event) (rest : Bytes) → quoted (event_text e) ++ rest ≡ 34 ∷ (event_text e ++ 34 ∷ rest)
quoted_then e rest = ap (λ l. 34 ∷ ((l ++ 34 ∷ []) ++ rest)) (kept (event_text e) (event_plain e)) ∙ ap (λ l. 34 ∷ l) (append_assoc (event_text e) (34 ∷ []) rest)

abbrev strings : List Event → List Data
strings es = map (λ e. string (event_text e)) es

events_later : (es : List Event) → 34 ∷ items_text true (items_of (strings es)) ≡ behind (codes "\",\"") event_text es ++ codes "\"]"
events_later [] = refl
events_later (e ∷ es) =
    ap (λ l. 34 ∷ 44 ∷ l) (quoted_then e (items_text true (items_of (strings es))) ∙ ap (λ l. 34 ∷ (event_text e ++ l)) (events_later es))
    ∙ ap (λ l. 34 ∷ 44 ∷ 34 ∷ l) (sym (append_assoc (event_text e) (behind (codes "\",\"") event_text es) (codes "\"]")))

events_are : (es : List Event) → compact_text (events_json es) ≡ events_bytes es
events_are [] = refl
events_are (e ∷ es) = ap (λ l. 91 ∷ l) (quoted_then e (items_text true (items_of (strings es))) ∙ ap (λ l. 34 ∷ (event_text e ++ l)) (events_later es))

-- Records.

abbrev laid : Bytes → Bytes → Bytes → Bytes → Bytes → Bytes → Bytes → Bytes
laid p k c n e m a =
    codes "{\"by\":" ++ ((91 ∷ (p ++ (44 ∷ (k ++ 93 ∷ [])))) ++ (codes ",\"command\":" ++ ((34 ∷ (c ++ 34 ∷ [])) ++ (codes ",\"epoch\":" ++ (n ++ (codes ",\"events\":" ++ (e ++ (codes ",\"number\":" ++ (m ++ (codes ",\"reply\":" ++ ((34 ∷ (a ++ 34 ∷ [])) ++ codes "}")))))))))))

grouped : (p k c n e m a : Bytes) → laid p k c n e m a
    ≡ (codes "{\"by\":[" ++ (p ++ 44 ∷ k)) ++ ((codes "],\"command\":\"" ++ (c ++ (codes "\",\"epoch\":" ++ n))) ++ (codes ",\"events\":" ++ (e ++ (codes ",\"number\":" ++ (m ++ (codes ",\"reply\":\"" ++ (a ++ codes "\"}")))))))
grouped p k c n e m a = simp append_assoc

record_laid : (r : Record) → compact_text (record_json r)
    ≡ laid (decimal r.producer) (decimal r.place) (escape (command_text r.command)) (decimal r.epoch) (compact_text (events_json r.events)) (decimal r.number) (escape (reply_text r.reply))
unfolding escape_byte
record_laid r = refl

record_is : (r : Record) → compact_text (record_json r) ≡ record_bytes r
record_is r =
    record_laid r
    ∙ (ap (λ c. laid (decimal r.producer) (decimal r.place) c (decimal r.epoch) (compact_text (events_json r.events)) (decimal r.number) (escape (reply_text r.reply))) (kept (command_text r.command) (command_plain r.command))
    ∙ (ap (λ e. laid (decimal r.producer) (decimal r.place) (command_text r.command) (decimal r.epoch) e (decimal r.number) (escape (reply_text r.reply))) (events_are r.events)
    ∙ (ap (λ a. laid (decimal r.producer) (decimal r.place) (command_text r.command) (decimal r.epoch) (events_bytes r.events) (decimal r.number) a) (kept (reply_text r.reply) (reply_plain r.reply))
    ∙ grouped (decimal r.producer) (decimal r.place) (command_text r.command) (decimal r.epoch) (events_bytes r.events) (decimal r.number) (reply_text r.reply))))

records_later : (rs : List Record) → items_text true (items_of (map record_json rs)) ≡ behind (44 ∷ []) record_bytes rs ++ 93 ∷ []
records_later [] = refl
records_later (r ∷ rs) =
    ap (λ l. 44 ∷ (l ++ items_text true (items_of (map record_json rs)))) (record_is r)
    ∙ (ap (λ l. 44 ∷ (record_bytes r ++ l)) (records_later rs)
    ∙ ap (λ l. 44 ∷ l) (sym (append_assoc (record_bytes r) (behind (44 ∷ []) record_bytes rs) (93 ∷ []))))

-- Entities.

abbrev placed : Bytes → Bytes → Bytes → Bytes → Bytes → Bytes
placed n r b s st =
    codes ",{\"name\":" ++ ((34 ∷ (n ++ 34 ∷ [])) ++ (codes ",\"records\":" ++ ((91 ∷ (r ++ b)) ++ (codes ",\"shard\":" ++ (s ++ (codes ",\"state\":" ++ ((34 ∷ (st ++ 34 ∷ [])) ++ codes "}")))))))

parted : (n r b s st : Bytes) → placed n r (b ++ 93 ∷ []) s st
    ≡ (codes ",{\"name\":\"" ++ (n ++ codes "\",\"records\":[")) ++ (r ++ (b ++ (codes "],\"shard\":" ++ (s ++ (codes ",\"state\":\"" ++ (st ++ codes "\"}"))))))
parted n r b s st = simp append_assoc

entity_placed : (k : Kind) (s : ℕ) (e : List ℕ) (r : Record) (rs : List Record) → 44 ∷ compact_text (entity_value k s e (r ∷ rs))
    ≡ placed (escape e) (compact_text (record_json r)) (items_text true (items_of (map record_json rs))) (decimal s) (escape (state_text (folded k (r ∷ rs))))
unfolding escape_byte
entity_placed k s e r rs = refl

entity_is : (k : Kind) (s : ℕ) (e : List ℕ) (r : Record) (rs : List Record) → ArePlain e → 44 ∷ compact_text (entity_value k s e (r ∷ rs)) ≡ entity_bytes k s e r rs
entity_is k s e r rs plain =
    let records = items_text true (items_of (map record_json rs)) in
    let st = state_text (folded k (r ∷ rs)) in
    entity_placed k s e r rs
    ∙ (ap (λ n. placed n (compact_text (record_json r)) records (decimal s) (escape st)) (kept e plain)
    ∙ (ap (λ l. placed e l records (decimal s) (escape st)) (record_is r)
    ∙ (ap (λ l. placed e (record_bytes r) l (decimal s) (escape st)) (records_later rs)
    ∙ (ap (λ l. placed e (record_bytes r) (behind (44 ∷ []) record_bytes rs ++ 93 ∷ []) (decimal s) l) (kept st (state_plain (folded k (r ∷ rs))))
    ∙ parted e (record_bytes r) (behind (44 ∷ []) record_bytes rs) (decimal s) st))))

-- what is written of an entity
pub entity_told : (set : Setting) (s : ℕ) (e : List ℕ) (records : List Record) (r : Record) (rs : List Record) → IsName e → shard_of set e ≡ s → records ≡ r ∷ rs
    → entity_values set e records ≡ name_bytes e ++ (record_bytes r ++ (behind (44 ∷ []) record_bytes rs ++ state_bytes s (folded set.config.kind records)))
entity_told set s e records r rs name of_shard same =
    ap (λ l. entity_values set e l) same
    ∙ (append-nil (44 ∷ compact_text (entity_value set.config.kind (shard_of set e) e (r ∷ rs)))
    ∙ (entity_is set.config.kind (shard_of set e) e r rs (name_plain e name.each)
    ∙ (ap (λ t. entity_bytes set.config.kind t e r rs) of_shard
    ∙ ap (λ l. name_bytes e ++ (record_bytes r ++ (behind (44 ∷ []) record_bytes rs ++ state_bytes s (folded set.config.kind l)))) (sym same))))

-- Pairs.

pub pair_told : (p : ℕ) (e : List ℕ) (t : Tally) → t.queued == 0 ≡ false → pair_values p e t ≡ 44 ∷ compact_text (pair_value p e t.queued t.confirmed)
pair_told p e t some =
    ap (λ b. values_text (if b then [] else pair_value p e t.queued t.confirmed ∷ [])) some
    ∙ append-nil (44 ∷ compact_text (pair_value p e t.queued t.confirmed))

pub pair_untold : (p : ℕ) (e : List ℕ) (t : Tally) → t.queued == 0 ≡ true → pair_values p e t ≡ []
pair_untold p e t none = ap (λ b. values_text (if b then [] else pair_value p e t.queued t.confirmed ∷ [])) none

-- The lists of all, and the whole.

values_both : (xs ys : List Data) → values_text (xs ++ ys) ≡ values_text xs ++ values_text ys
values_both xs ys = flat_map-append (λ d. 44 ∷ [] ++ compact_text d) xs ys

one_deep : {B : Type 0} (show : B → List Data) (ys : List B) → flat_map (λ y. values_text (show y)) ys ≡ values_text (flat_map show ys)
one_deep show [] = refl
one_deep show (y ∷ ys) = ap (λ l. values_text (show y) ++ l) (one_deep show ys) ∙ sym (values_both (show y) (flat_map show ys))

two_deep : {A B : Type 0} (show : A → B → List Data) (of : A → List B) (xs : List A) → flat_map (λ x. flat_map (λ y. values_text (show x y)) (of x)) xs ≡ values_text (flat_map (λ x. flat_map (show x) (of x)) xs)
two_deep show of [] = refl
two_deep show of (x ∷ xs) =
    ap (λ l. l ++ flat_map (λ z. flat_map (λ y. values_text (show z y)) (of z)) xs) (one_deep (show x) (of x))
    ∙ (ap (λ l. values_text (flat_map (show x) (of x)) ++ l) (two_deep show of xs)
    ∙ sym (values_both (flat_map (show x) (of x)) (flat_map (λ z. flat_map (show z) (of z)) xs)))

pub entities_told : (set : Setting) (lists : SlotLists) → flat_map (λ s. shard_rows entity_values set s (shard_list lists s)) (shards set) ≡ values_text (entities_json set lists)
entities_told set lists =
    sym (entities_are entity_values set lists)
    ∙ two_deep (λ s e. entity_json set e (journal e (shard_list lists (shard_of set e)))) (names_of set) (shards set)

pub queues_told : (set : Setting) (lists : SlotLists) → flat_map (λ p. queue_rows pair_values p (queue_list lists p) set.names) (producers set) ≡ values_text (queues_json set lists)
queues_told set lists = two_deep (λ p e. pair_json p e (queued e (queue_list lists p)) (confirmed e (queue_list lists p))) (λ p. set.names) (producers set)

values_later : (ds : List Data) → items_text true (items_of ds) ≡ values_text ds ++ 93 ∷ []
values_later [] = refl
values_later (d ∷ ds) = ap (λ l. 44 ∷ (compact_text d ++ l)) (values_later ds) ∙ ap (λ l. 44 ∷ l) (sym (append_assoc (compact_text d) (values_text ds) (93 ∷ [])))

values_first : (ds : List Data) → items_text false (items_of ds) ≡ drop 1 (values_text ds) ++ 93 ∷ []
values_first [] = refl
values_first (d ∷ ds) = ap (λ l. compact_text d ++ l) (values_later ds) ∙ sym (append_assoc (compact_text d) (values_text ds) (93 ∷ []))

abbrev whole : Bytes → Bytes → Bytes
whole es qs = (codes "{\"entities\":" ++ ((91 ∷ es) ++ (codes ",\"queues\":" ++ ((91 ∷ qs) ++ codes "}")))) ++ 10 ∷ []

whole_laid : (es qs : List Data) → whole_text es qs ≡ whole (items_text false (items_of es)) (items_text false (items_of qs))
unfolding escape_byte
whole_laid es qs = refl

regrouped : (old e q : Bytes) → ((old ++ (codes "{\"entities\":[" ++ e)) ++ (codes "],\"queues\":[" ++ q)) ++ codes "]}\n" ≡ old ++ whole (e ++ 93 ∷ []) (q ++ 93 ∷ [])
regrouped old e q = simp append_assoc

-- the lists, each without its first comma, in their object
pub whole_told : (old : Bytes) (es qs : List Data) → ((old ++ (codes "{\"entities\":[" ++ drop 1 (values_text es))) ++ (codes "],\"queues\":[" ++ drop 1 (values_text qs))) ++ codes "]}\n" ≡ old ++ whole_text es qs
whole_told old es qs =
    regrouped old (drop 1 (values_text es)) (drop 1 (values_text qs))
    ∙ sym (ap (λ l. old ++ l) (whole_laid es qs ∙ (ap (λ l. whole l (items_text false (items_of qs))) (values_first es) ∙ ap (λ l. whole (drop 1 (values_text es) ++ 93 ∷ []) l) (values_first qs))))

-- Steps of the code.

-- five texts, one behind the other
pub five_parts : (a b c d e start one two three four end : Bytes) → one ≡ start ++ a → two ≡ one ++ b → three ≡ two ++ c → four ≡ three ++ d → end ≡ four ++ e → end ≡ start ++ (a ++ (b ++ (c ++ (d ++ e))))
five_parts a b c d e start one two three four end first second third fourth fifth = rw (fifth, fourth, third, second, first) (simp append_assoc)

-- one record more of what is left
pub record_next : (rs : List (Bor Record)) (i : ℕ) (x : Bor Record) (done after all : Bytes) → i < length rs → x ≡ slice_index_or rs i x → after ≡ done ++ (44 ∷ [] ++ record_bytes x.now)
    → done ++ behind (44 ∷ []) record_bytes (lent (drop i rs)) ≡ all → after ++ behind (44 ∷ []) record_bytes (lent (drop (i + 1) rs)) ≡ all
record_next rs i x done after all h is next old =
    ap (λ l. l ++ behind (44 ∷ []) record_bytes (lent (drop (i + 1) rs))) next
    ∙ (append_assoc done (44 ∷ record_bytes x.now) (behind (44 ∷ []) record_bytes (lent (drop (i + 1) rs)))
    ∙ (sym (ap (λ l. done ++ behind (44 ∷ []) record_bytes (lent l)) (drop_more rs i x h ∙ ap (λ (y : Bor Record). y ∷ drop (i + 1) rs) (sym is))) ∙ old))
