-- Facts whose lines are read, and lines that are read as facts.
use Rattle.std.proofs.Common.{◌≡◌, ◌≤◌, ℕ, sym, ap, ap₂, ◌∙◌, refl, arith}
use Rattle.std.specs.Prelude.{false, List, [], ◌∷◌, ◌++◌, codes, decimal, Option, Some, None}
use Rattle.std.specs.List.{flat_map}
use Rattle.std.proofs.lemmas.List.{append_assoc}
use Rattle.yard_model.specs.declared.fact.Fact.{Fact}
use Rattle.yard_model.specs.declared.fact.Fact.TheVariants as fact
use Rattle.yard_model.specs.declared.packet.Record.{Record}
use Rattle.yard_model.specs.Text.{cause_text, command_text, events_text, fact_line, fact_words, incarnation_text, reply_text, slot_text, words}
use Rattle.fact_lines.specs.Laws.{PrintedIsRead, ReadIsPrinted, TextsTell}
use Rattle.fact_lines.specs.Readable.{FitsProducer, FitsRecord, IsEntity, IsReadable}
use Rattle.fact_lines.specs.Reads.{and_then, begins_digit, byte, fact_at, line_at, long, numbers_at, outcome_at, pair_at, text_at}
use Rattle.fact_lines.proofs.NumberLaws.{entity_read, none_some, number_read, text_front, text_is}
use Rattle.fact_lines.proofs.PartLaws.{cause_read, command_read, events_read, from_one_read, incarnation_read, long_read, nothing_behind, reply_read, slash_behind, slot_read}

-- words with a space between each two, and then these bytes
abbrev spread : List (List ℕ) → List ℕ → List ℕ
spread [] rest = rest
spread (w ∷ []) rest = w ++ rest
spread (w ∷ v ∷ ws) rest = w ++ (32 ∷ spread (v ∷ ws) rest)

words_spread : (ws : List (List ℕ)) (rest : List ℕ) → words ws ++ rest ≡ spread ws rest
words_spread [] rest = refl
words_spread (w ∷ []) rest = refl
words_spread (w ∷ v ∷ ws) rest = append_assoc w (32 ∷ words (v ∷ ws)) rest ∙ ap (λ t. w ++ (32 ∷ t)) (words_spread (v ∷ ws) rest)

line_spread : (f : Fact) (rest : List ℕ) → fact_line f ++ rest ≡ spread (fact_words f) (10 ∷ rest)
line_spread f rest = append_assoc (words (fact_words f)) (10 ∷ []) rest ∙ words_spread (fact_words f) (10 ∷ rest)

-- A producer, an entity and a number.
pair_read : (p : ℕ) (e : List ℕ) (n : ℕ) (rest : List ℕ) → FitsProducer p → IsEntity e → n ≤ long → begins_digit rest ≡ false
    → pair_at (decimal p ++ (32 ∷ (e ++ (32 ∷ (decimal n ++ rest))))) ≡ Some (record { producer = p; entity = e; number = n }, rest)
pair_read p e n rest kp ke kn b =
    rw (from_one_read 32 p (32 ∷ (e ++ (32 ∷ (decimal n ++ rest)))) kp.0 kp.1 (omega arith) refl, entity_read e (32 ∷ (decimal n ++ rest)) ke refl, long_read n rest kn b) refl

-- The parts of a record, each with what stands behind it.

abbrev reply_on : Record → List ℕ → List ℕ
reply_on r rest = reply_text r.reply ++ (10 ∷ rest)

abbrev events_on : Record → List ℕ → List ℕ
events_on r rest = events_text r.events ++ (32 ∷ 47 ∷ 32 ∷ reply_on r rest)

abbrev command_on : Record → List ℕ → List ℕ
command_on r rest = command_text r.command ++ (32 ∷ 47 ∷ 32 ∷ events_on r rest)

abbrev sender_on : Record → List ℕ → List ℕ
sender_on r rest = (decimal r.producer ++ 58 ∷ decimal r.place) ++ (32 ∷ command_on r rest)

abbrev epoch_on : Record → List ℕ → List ℕ
epoch_on r rest = decimal r.epoch ++ (codes " by " ++ sender_on r rest)

abbrev number_on : Record → List ℕ → List ℕ
number_on r rest = decimal r.number ++ (codes " epoch " ++ epoch_on r rest)

numbers_read : (r : Record) (rest : List ℕ) → FitsRecord r → numbers_at (number_on r rest) ≡ Some (record { number = r.number; epoch = r.epoch; producer = r.producer; place = r.place }, 32 ∷ command_on r rest)
numbers_read r rest k =
    let a = long_read r.number (codes " epoch " ++ epoch_on r rest) k.number refl in
    let b = long_read r.epoch (codes " by " ++ sender_on r rest) k.epoch refl in
    let c = from_one_read 32 r.producer (58 ∷ (decimal r.place ++ (32 ∷ command_on r rest))) k.producer.0 k.producer.1 (omega arith) refl in
    let d = long_read r.place (32 ∷ command_on r rest) k.place refl in
    rw (a, b, append_assoc (decimal r.producer) (58 ∷ decimal r.place) (32 ∷ command_on r rest), c, d) refl

outcome_read : (r : Record) (rest : List ℕ) → FitsRecord r → outcome_at (32 ∷ command_on r rest) ≡ Some (record { command = r.command; events = r.events; reply = r.reply }, 10 ∷ rest)
outcome_read r rest k =
    let a = command_read r.command (32 ∷ 47 ∷ 32 ∷ events_on r rest) k.command (slash_behind (32 ∷ events_on r rest)) in
    let b = events_read r.events (32 ∷ reply_on r rest) k.few k.events in
    let d = reply_read r.reply (10 ∷ rest) k.reply refl in
    rw (a, b, d) refl

wrote_read : (e : List ℕ) (r : Record) (rest : List ℕ) → IsEntity e → FitsRecord r → fact_at (fact_line (fact.Wrote e r) ++ rest) ≡ Some (fact.Wrote e r)
wrote_read e r rest ke kr =
    let text : fact_line (fact.Wrote e r) ++ rest ≡ codes "wrote " ++ (e ++ (32 ∷ number_on r rest)) = line_spread (fact.Wrote e r) rest in
    let a = entity_read e (32 ∷ number_on r rest) ke refl in
    let b = numbers_read r rest kr in
    let d = outcome_read r rest kr in
    ap fact_at text ∙ rw (a, b, d) refl

pub fact_read : (f : Fact) (rest : List ℕ) → IsReadable f → fact_at (fact_line f ++ rest) ≡ Some f
fact_read (fact.Granted s n x) rest k =
    let text : fact_line (fact.Granted s n x) ++ rest ≡ codes "granted " ++ (slot_text s ++ (32 ∷ (decimal n ++ (32 ∷ (incarnation_text x ++ (10 ∷ rest)))))) = line_spread (fact.Granted s n x) rest in
    ap fact_at text ∙ rw (slot_read s (32 ∷ (decimal n ++ (32 ∷ (incarnation_text x ++ (10 ∷ rest))))) k.0 refl, long_read n (32 ∷ (incarnation_text x ++ (10 ∷ rest))) k.1 refl, incarnation_read x (10 ∷ rest) k.2 refl) refl
fact_read (fact.Freed s n why) rest k =
    let text : fact_line (fact.Freed s n why) ++ rest ≡ codes "freed " ++ (slot_text s ++ (32 ∷ (decimal n ++ (32 ∷ (cause_text why ++ (10 ∷ rest)))))) = line_spread (fact.Freed s n why) rest in
    ap fact_at text ∙ rw (slot_read s (32 ∷ (decimal n ++ (32 ∷ (cause_text why ++ (10 ∷ rest))))) k.0 refl, long_read n (32 ∷ (cause_text why ++ (10 ∷ rest))) k.1 refl, cause_read why (10 ∷ rest)) refl
fact_read (fact.Registered x) rest k =
    let text : fact_line (fact.Registered x) ++ rest ≡ codes "registered " ++ (incarnation_text x ++ (10 ∷ rest)) = line_spread (fact.Registered x) rest in
    ap fact_at text ∙ rw (incarnation_read x (10 ∷ rest) k refl) refl
fact_read (fact.Terminated x) rest k =
    let text : fact_line (fact.Terminated x) ++ rest ≡ codes "terminated " ++ (incarnation_text x ++ (10 ∷ rest)) = line_spread (fact.Terminated x) rest in
    ap fact_at text ∙ rw (incarnation_read x (10 ∷ rest) k refl) refl
fact_read (fact.Allocated s x) rest k =
    let text : fact_line (fact.Allocated s x) ++ rest ≡ codes "allocated " ++ (decimal s ++ (32 ∷ (incarnation_text x ++ (10 ∷ rest)))) = line_spread (fact.Allocated s x) rest in
    ap fact_at text ∙ rw (number_read 127 s (32 ∷ (incarnation_text x ++ (10 ∷ rest))) k.0 (omega arith) refl, incarnation_read x (10 ∷ rest) k.1 refl) refl
fact_read (fact.Deallocated s) rest k =
    let text : fact_line (fact.Deallocated s) ++ rest ≡ codes "deallocated " ++ (decimal s ++ (10 ∷ rest)) = line_spread (fact.Deallocated s) rest in
    ap fact_at text ∙ rw (number_read 127 s (10 ∷ rest) k (omega arith) refl) refl
fact_read (fact.Wrote e r) rest k = wrote_read e r rest k.0 k.1
fact_read (fact.Snapshot e n) rest k =
    let text : fact_line (fact.Snapshot e n) ++ rest ≡ codes "snapshot " ++ (e ++ (32 ∷ (decimal n ++ (10 ∷ rest)))) = line_spread (fact.Snapshot e n) rest in
    ap fact_at text ∙ rw (entity_read e (32 ∷ (decimal n ++ (10 ∷ rest))) k.0 refl, long_read n (10 ∷ rest) k.1 refl) refl
fact_read (fact.Remembered e) rest k =
    let text : fact_line (fact.Remembered e) ++ rest ≡ codes "remembered " ++ (e ++ (10 ∷ rest)) = line_spread (fact.Remembered e) rest in
    ap fact_at text ∙ rw (entity_read e (10 ∷ rest) k refl) refl
fact_read (fact.Forgotten e) rest k =
    let text : fact_line (fact.Forgotten e) ++ rest ≡ codes "forgotten " ++ (e ++ (10 ∷ rest)) = line_spread (fact.Forgotten e) rest in
    ap fact_at text ∙ rw (entity_read e (10 ∷ rest) k refl) refl
fact_read (fact.Queued p e n c) rest k =
    let text : fact_line (fact.Queued p e n c) ++ rest ≡ codes "queued " ++ (decimal p ++ (32 ∷ (e ++ (32 ∷ (decimal n ++ (32 ∷ (command_text c ++ (10 ∷ rest)))))))) = line_spread (fact.Queued p e n c) rest in
    ap fact_at text ∙ rw (pair_read p e n (32 ∷ (command_text c ++ (10 ∷ rest))) k.0 k.1 k.2 refl, command_read c (10 ∷ rest) k.3 (nothing_behind rest)) refl
fact_read (fact.Confirmed p e n) rest k =
    let text : fact_line (fact.Confirmed p e n) ++ rest ≡ codes "confirmed " ++ (decimal p ++ (32 ∷ (e ++ (32 ∷ (decimal n ++ (10 ∷ rest)))))) = line_spread (fact.Confirmed p e n) rest in
    ap fact_at text ∙ rw (pair_read p e n (10 ∷ rest) k.0 k.1 k.2 refl) refl
fact_read (fact.Start x e) rest k =
    let text : fact_line (fact.Start x e) ++ rest ≡ codes "start " ++ (incarnation_text x ++ (32 ∷ (e ++ (10 ∷ rest)))) = line_spread (fact.Start x e) rest in
    ap fact_at text ∙ rw (incarnation_read x (32 ∷ (e ++ (10 ∷ rest))) k.0 refl, entity_read e (10 ∷ rest) k.1 refl) refl
fact_read (fact.Stop x e) rest k =
    let text : fact_line (fact.Stop x e) ++ rest ≡ codes "stop " ++ (incarnation_text x ++ (32 ∷ (e ++ (10 ∷ rest)))) = line_spread (fact.Stop x e) rest in
    ap fact_at text ∙ rw (incarnation_read x (32 ∷ (e ++ (10 ∷ rest))) k.0 refl, entity_read e (10 ∷ rest) k.1 refl) refl
fact_read (fact.WriteFailed x e) rest k =
    let text : fact_line (fact.WriteFailed x e) ++ rest ≡ codes "writefailed " ++ (incarnation_text x ++ (32 ∷ (e ++ (10 ∷ rest)))) = line_spread (fact.WriteFailed x e) rest in
    ap fact_at text ∙ rw (incarnation_read x (32 ∷ (e ++ (10 ∷ rest))) k.0 refl, entity_read e (10 ∷ rest) k.1 refl) refl
fact_read (fact.Gone x) rest k =
    let text : fact_line (fact.Gone x) ++ rest ≡ codes "gone " ++ (incarnation_text x ++ (10 ∷ rest)) = line_spread (fact.Gone x) rest in
    ap fact_at text ∙ rw (incarnation_read x (10 ∷ rest) k refl) refl
fact_read (fact.Upgrade v) rest k =
    let text : fact_line (fact.Upgrade v) ++ rest ≡ codes "upgrade " ++ (decimal v ++ (10 ∷ rest)) = line_spread (fact.Upgrade v) rest in
    ap fact_at text ∙ rw (number_read byte v (10 ∷ rest) k (omega arith) refl) refl
fact_read (fact.Reshard n m) rest k =
    let text : fact_line (fact.Reshard n m) ++ rest ≡ codes "reshard " ++ (decimal n ++ (32 ∷ (decimal m ++ (10 ∷ rest)))) = line_spread (fact.Reshard n m) rest in
    ap fact_at text ∙ rw (number_read byte n (32 ∷ (decimal m ++ (10 ∷ rest))) k.0 (omega arith) refl, long_read m (10 ∷ rest) k.1 refl) refl
fact_read (fact.At n) rest k = absurd k
fact_read fact.Nothing rest k = absurd k
fact_read fact.WireFull rest k = absurd k
fact_read fact.Settled rest k = absurd k
fact_read (fact.Up x) rest k = absurd k
fact_read (fact.View x v) rest k = absurd k
fact_read (fact.Sent n p) rest k = absurd k
fact_read (fact.Got n) rest k = absurd k
fact_read (fact.Held s x n) rest k = absurd k
fact_read (fact.Moving s st) rest k = absurd k
fact_read (fact.Home x s h) rest k = absurd k
fact_read (fact.Forget x s) rest k = absurd k
fact_read (fact.Kept x m) rest k = absurd k
fact_read (fact.Dropped x m) rest k = absurd k
fact_read (fact.Stashed x m) rest k = absurd k
fact_read (fact.Active x e n st) rest k = absurd k
fact_read (fact.Armed e w) rest k = absurd k
fact_read (fact.Waits p e c) rest k = absurd k
fact_read (fact.Resharded s n m) rest k = absurd k
fact_read (fact.SentAsk n x) rest k = absurd k
fact_read (fact.SentJob n x e) rest k = absurd k
fact_read (fact.SentDone n x e) rest k = absurd k
fact_read (fact.Given e x) rest k = absurd k
fact_read (fact.Did x e) rest k = absurd k

-- Lines.

pub printed_is_read : PrintedIsRead
printed_is_read f rest k =
    ap (λ (o : Option Fact). and_then o (λ g. and_then (text_at (fact_line g) (fact_line f ++ rest)) (λ r. Some (g, r)))) (fact_read f rest k)
    ∙ ap (λ (o : Option (List ℕ)). and_then o (λ r. Some (f, r))) (text_front (fact_line f) rest)

-- where something was read in the end, something was read at first
record Parts {A B : Type 0} (first : Option A) (next : A → Option B) (y : B) : Type 0 where
  part : A
  first_is : first ≡ Some part
  next_is : next part ≡ Some y

parts : {A B : Type 0} (first : Option A) (next : A → Option B) (y : B) → and_then first next ≡ Some y → Parts first next y
parts None next y h = absurd (none_some y h)
parts (Some x) next y h = record { part = x; first_is = refl; next_is = h }

pub read_is_printed : ReadIsPrinted
read_is_printed text f rest h =
    let a = parts (fact_at text) (λ g. and_then (text_at (fact_line g) text) (λ r. Some (g, r))) (f, rest) h in
    let b = parts (text_at (fact_line a.part) text) (λ r. Some (a.part, r)) (f, rest) a.next_is in
    let same : (a.part, b.part) ≡ (f, rest) = one (a.part, b.part) (f, rest) b.next_is in
    text_is (fact_line a.part) text b.part b.first_is ∙ ap (λ (x : Fact × List ℕ). fact_line x.0 ++ x.1) same
  where
    one : (x y : Fact × List ℕ) → Some x ≡ Some y → x ≡ y
    one x y e = cc

pub texts_tell : TextsTell
texts_tell [] [] kf kg e = refl
texts_tell [] (g ∷ gs) kf kg e = absurd (none_some (g, flat_map fact_line gs) (ap line_at e ∙ printed_is_read g (flat_map fact_line gs) kg.0))
texts_tell (f ∷ fs) [] kf kg e = absurd (none_some (f, flat_map fact_line fs) (ap line_at (sym e) ∙ printed_is_read f (flat_map fact_line fs) kf.0))
texts_tell (f ∷ fs) (g ∷ gs) kf kg e =
    let same : (f, flat_map fact_line fs) ≡ (g, flat_map fact_line gs) = one (f, flat_map fact_line fs) (g, flat_map fact_line gs) (sym (printed_is_read f (flat_map fact_line fs) kf.0) ∙ (ap line_at e ∙ printed_is_read g (flat_map fact_line gs) kg.0)) in
    ap₂ (λ (x : Fact) (xs : List Fact). x ∷ xs) (ap (λ (x : Fact × List ℕ). x.0) same) (texts_tell fs gs kf.1 kg.1 (ap (λ (x : Fact × List ℕ). x.1) same))
  where
    one : (x y : Fact × List ℕ) → Some x ≡ Some y → x ≡ y
    one x y e = cc
