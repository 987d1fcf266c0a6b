-- What is known of the entities, after a send and after a delivery.
use Rattle.std.proofs.Common.{◌≡◌, ◌≢◌, ◌<◌, ◌≤◌, ℕ, zero, suc, ◌+◌, ◌-◌, sym, ap, ◌∙◌, refl, subst, arith, length-append}
use Rattle.std.specs.Prelude.{Bool, true, false, ◌==◌, ◌&&◌, cond, List, [], ◌∷◌, ◌++◌, length, map, slice_index_or, slice_set, Some, None, Result, Ok, Err, OnOk, IsTrue, if◌then◌else◌}
use Rattle.std.specs.List.{list_all, slice_get}
use Rattle.std.proofs.lemmas.Bool.Decides.{Decides-eqb}
use Rattle.std.proofs.lemmas.Slice.Eq.{slice_eq-Decides}
use Rattle.std.proofs.lemmas.List.Sums.{fold-append, sum_by_push, count_by-le-length}
use Rattle.std.proofs.Math.Bool.{and-false}
use Rattle.std.proofs.lemmas.List.Folds.{list_all-append}
use Rattle.yard_model.specs.declared.event.Kind.{Kind}
use Rattle.yard_model.specs.declared.event.Decision.{Decision}
use Rattle.yard_model.specs.declared.state.State.{State}
use Rattle.yard_model.specs.declared.fact.Fact.{Fact}
use Rattle.yard_model.specs.declared.packet.Message.{Message}
use Rattle.yard_model.specs.declared.packet.Record.{Record}
use Rattle.yard_model.specs.declared.charter.Config.{Config}
use Rattle.yard_model.specs.Script.{is_name}
use Rattle.yard_model.specs.Behaviour.{is_of_kind, decide, folded, after_record, empty_state}
use Rattle.yard_model.specs.Shard.{shard, absolute, java_hash}
use Rattle.yard_model.specs.declared.fact.Fact.TheVariants as fact
use Rattle.solo_run.specs.declared.entities.Entities.{Entities}
use Rattle.solo_run.specs.Facts.{with_fact, held}
use Rattle.yard_model.specs.Words.{numbers}
use Rattle.solo_run.proofs.FactsLaws.{journal_more, no_records}
use Rattle.std.proofs.lemmas.List.{get_or-set_same, get_or-set_other, length-set, get_or-replicate, length-replicate, length-map}
use Rattle.std.proofs.Math.Nat.{mod-lt}
use Rattle.yard_model.specs.SlotReads.{journal, position}
use Rattle.yard_model.specs.Solo.{count_of_pair, next_record}
use Rattle.solo_run.specs.Knowledge.{Knows, KnowsAll, AreKept, AreChanged, known_at}
use Rattle.solo_run.specs.Known.{Known, unknown, sent_at, taken_by, record_after, after_taken}

-- names that are found the same are equal
pub same_name : (a b : List ℕ) → is_name a b ≡ true → a ≡ b
same_name a b e = (slice_eq-Decides Decides-eqb a b (is_name a b) refl).0 e

pub true_is_not_false : true ≡ false → ⊥
true_is_not_false e = cc

-- one message more counts for its own pair
pub pair_more : (p : ℕ) (e : List ℕ) (posted : List Message) (m : Message) → count_of_pair p e (posted ++ m ∷ []) ≡ count_of_pair p e posted + (if (m.producer == p) && is_name m.entity e then 1 else 0)
pair_more p e posted m = fold-append _ 0 posted (m ∷ [])

pub not_same : (a b : ℕ) → a ≢ b → (a == b) ≡ false
not_same a b h = elim (a == b) as (λ v. (a == b) ≡ v → v ≡ false) [ true ↦ λ e. absurd (h ((Decides-eqb a b).0 e)) | false ↦ λ e. refl ] refl

count_up : (p : ℕ) (q : List ℕ) (posted : List Message) (m : Message) → is_name m.entity q ≡ true → m.producer ≡ p → count_of_pair p q (posted ++ m ∷ []) ≡ count_of_pair p q posted + 1
count_up p q posted m here same =
    pair_more p q posted m ∙ (ap (λ b. count_of_pair p q posted + (if b && is_name m.entity q then 1 else 0)) ((Decides-eqb m.producer p).1 same) ∙ ap (λ b. count_of_pair p q posted + (if b then 1 else 0)) here)

count_of_another : (p : ℕ) (q : List ℕ) (posted : List Message) (m : Message) → m.producer ≢ p → count_of_pair p q (posted ++ m ∷ []) ≡ count_of_pair p q posted
count_of_another p q posted m other =
    pair_more p q posted m ∙ (ap (λ b. count_of_pair p q posted + (if b && is_name m.entity q then 1 else 0)) (not_same m.producer p other) ∙ omega arith)

count_to_another : (p : ℕ) (q : List ℕ) (posted : List Message) (m : Message) → is_name m.entity q ≡ false → count_of_pair p q (posted ++ m ∷ []) ≡ count_of_pair p q posted
count_to_another p q posted m other =
    pair_more p q posted m ∙ (ap (λ b. count_of_pair p q posted + (if (m.producer == p) && b then 1 else 0)) other ∙ (ap (λ b. count_of_pair p q posted + (if b then 1 else 0)) (and-false (m.producer == p)) ∙ omega arith))

-- what is known of the message's entity, with the message
knows_here : (kind : Kind) (q : List ℕ) (posted : List Message) (records : List Record) (m : Message) (known now : Known) → Knows kind q posted records known → is_name m.entity q ≡ true
    → sent_at now.sent m.producer ≡ sent_at known.sent m.producer + 1
    → ((p : ℕ) → 0 < p → p ≢ m.producer → sent_at now.sent p ≡ sent_at known.sent p)
    → now.kind ≡ known.kind → now.taken ≡ known.taken → now.count ≡ known.count → now.state ≡ known.state → Knows kind q (posted ++ m ∷ []) records now
knows_here kind q posted records m known now k here count others same_kind same_taken same_count same_state = record {
  kind_is = same_kind ∙ k.kind_is;
  sent_is = λ p some most. elim (m.producer == p) as (λ v. (m.producer == p) ≡ v → sent_at now.sent p ≡ count_of_pair p q (posted ++ m ∷ [])) [
    | true ↦ λ e.
        let same : m.producer ≡ p = (Decides-eqb m.producer p).0 e in
        ap (sent_at now.sent) (sym same) ∙ (count ∙ (ap (λ n. sent_at known.sent n + 1) same ∙ (ap (λ n. n + 1) (k.sent_is p some most) ∙ sym (count_up p q posted m here same))))
    | false ↦ λ e.
        let other : m.producer ≢ p = λ same. true_is_not_false (sym ((Decides-eqb m.producer p).1 same) ∙ e) in
        others p some (λ same. other (sym same)) ∙ (k.sent_is p some most ∙ sym (count_of_another p q posted m other))
  ] refl;
  places = ap length same_taken ∙ k.places;
  taken_is = λ p some most. ap (λ l. sent_at l p) same_taken ∙ k.taken_is p some most;
  count_is = same_count ∙ k.count_is;
  state_is = same_state ∙ k.state_is;
}

-- what is known of another entity
knows_there : (kind : Kind) (q : List ℕ) (posted : List Message) (records : List Record) (m : Message) (known : Known) → Knows kind q posted records known → is_name m.entity q ≡ false
    → Knows kind q (posted ++ m ∷ []) records known
knows_there kind q posted records m known k other = record {
  kind_is = k.kind_is;
  sent_is = λ p some most. k.sent_is p some most ∙ sym (count_to_another p q posted m other);
  places = k.places;
  taken_is = k.taken_is;
  count_is = k.count_is;
  state_is = k.state_is;
}

-- after a send
pub knows_sent : (config : Config) (posted : List Message) (lists : List (List Fact)) (old new : Entities) (m : Message) (known now : Known)
    → KnowsAll config posted lists old
    → known ≡ known_at config.kind old m.entity
    → sent_at now.sent m.producer ≡ sent_at known.sent m.producer + 1
    → ((p : ℕ) → 0 < p → p ≢ m.producer → sent_at now.sent p ≡ sent_at known.sent p)
    → now.kind ≡ known.kind → now.taken ≡ known.taken → now.count ≡ known.count → now.state ≡ known.state
    → AreChanged config.kind old new m.entity now
    → IsTrue (is_of_kind config.kind m.command)
    → KnowsAll config (posted ++ m ∷ []) lists new
knows_sent config posted lists old new m known now k is count others kind taken number state put own = record {
  each = λ q. subst (Knows config.kind q (posted ++ m ∷ []) (journal q (slice_index_or lists (shard config.shards q) [])))
      (sym (put.each q)) (at q (is_name m.entity q) refl);
  kept = put.kept;
  wide = k.wide;
  some = k.some;
  most = k.most;
  commands = list_all-append (λ (x : Message). is_of_kind config.kind x.command) posted (m ∷ []) ∙ (ap (λ b. b && (is_of_kind config.kind m.command && true)) k.commands ∙ ap (λ b. b && true) own);
}
  where
    at : (q : List ℕ) (b : Bool) → is_name m.entity q ≡ b
        → Knows config.kind q (posted ++ m ∷ []) (journal q (slice_index_or lists (shard config.shards q) [])) (cond b now (known_at config.kind old q))
    at q true t =
        let same : m.entity ≡ q = same_name m.entity q t in
        let was : known ≡ known_at config.kind old q = is ∙ ap (known_at config.kind old) same in
        knows_here config.kind q posted _ m known now (subst (Knows config.kind q posted (journal q (slice_index_or lists (shard config.shards q) []))) (sym was) (k.each q)) t count others kind taken number state
    at q false t = knows_there config.kind q posted _ m _ (k.each q) t

-- a journal whose shard's list got a record of another entity
pub journal_of_another : (shards : ℕ) (lists : List (List Fact)) (e q : List ℕ) (r : Record) → is_name e q ≡ false → shard shards e < length lists
    → journal q (slice_index_or (with_fact (shard shards e) (fact.Wrote e r) lists) (shard shards q) []) ≡ journal q (slice_index_or lists (shard shards q) [])
journal_of_another shards lists e q r other inside =
    let s : ℕ = shard shards e in
    let t : ℕ = shard shards q in
    let l : List Fact = slice_index_or lists s [] in
    elim (t == s) as (λ v. (t == s) ≡ v → journal q (slice_index_or (with_fact s (fact.Wrote e r) lists) t []) ≡ journal q (slice_index_or lists t [])) [
      | true ↦ λ h.
          let same : t ≡ s = (Decides-eqb t s).0 h in
          ap (λ n. journal q (slice_index_or (with_fact s (fact.Wrote e r) lists) n [])) same
          ∙ (ap (journal q) (get_or-set_same lists s (l ++ fact.Wrote e r ∷ []) [] inside)
          ∙ (journal_more q e l r ∙ (ap (λ b. if b then journal q l ++ r ∷ [] else journal q l) other ∙ ap (λ n. journal q (slice_index_or lists n [])) (sym same))))
      | false ↦ λ h.
          let apart : t ≢ s = λ same. true_is_not_false (sym ((Decides-eqb t s).1 same) ∙ h) in
          ap (journal q) (get_or-set_other lists s t (l ++ fact.Wrote e r ∷ []) [] apart)
    ] refl

-- the journal of the entity itself
pub journal_of_it : (shards : ℕ) (lists : List (List Fact)) (e q : List ℕ) (r : Record) → is_name e q ≡ true → shard shards e < length lists
    → journal q (slice_index_or (with_fact (shard shards e) (fact.Wrote e r) lists) (shard shards q) []) ≡ journal q (slice_index_or lists (shard shards q) []) ++ r ∷ []
journal_of_it shards lists e q r here inside =
    let s : ℕ = shard shards e in
    let same : shard shards q ≡ s = ap (shard shards) (sym (same_name e q here)) in
    let l : List Fact = slice_index_or lists s [] in
    ap (λ n. journal q (slice_index_or (with_fact s (fact.Wrote e r) lists) n [])) same
    ∙ (ap (journal q) (get_or-set_same lists s (l ++ fact.Wrote e r ∷ []) [] inside)
    ∙ (journal_more q e l r ∙ (ap (λ b. if b then journal q l ++ r ∷ [] else journal q l) here ∙ ap (λ n. journal q (slice_index_or lists n []) ++ r ∷ []) (sym same))))

-- one record more counts for its producer
position_more : (p : ℕ) (records : List Record) (r : Record) → position p (records ++ r ∷ []) ≡ position p records + cond (r.producer == p) 1 0
position_more p records r = sum_by_push (λ (x : Record). cond (x.producer == p) 1 0) records r

pub position_within : (p : ℕ) (records : List Record) → position p records ≤ length records
position_within p records = count_by-le-length (λ (x : Record). x.producer == p) records

-- what a message is taken as
taken_says : (k : Known) (m : Message) (r : Record) → Some r ≡ taken_by k m → (m.number ≡ sent_at k.taken m.producer + 1) × (r ≡ record_after k m)
taken_says k m r e = step (m.number == sent_at k.taken m.producer + 1) refl e
  where
    step : (b : Bool) → (m.number == sent_at k.taken m.producer + 1) ≡ b → Some r ≡ (if b then Some (record_after k m) else None) → (m.number ≡ sent_at k.taken m.producer + 1) × (r ≡ record_after k m)
    step true t e = ((Decides-eqb m.number (sent_at k.taken m.producer + 1)).0 t, cc)
    step false t e = cc

-- it is so for the definition
pub taken_next : (kind : Kind) (q : List ℕ) (posted : List Message) (records : List Record) (m : Message) (known : Known) → Knows kind q posted records known → 0 < m.producer → m.producer ≤ 32
    → taken_by known m ≡ (if m.number == position m.producer records + 1 then Some (next_record kind records m) else None)
taken_next kind q posted records m known k some most =
    ap (λ n. if m.number == n + 1 then Some (record_after known m) else None) (k.taken_is m.producer some most)
    ∙ ap (λ (x : Record). if m.number == position m.producer records + 1 then Some x else None) (record_next known.state known.count k.state_is k.count_is)
  where
    as_record : State → ℕ → Record
    as_record st n = let d : Decision = decide 1 st m.command in record { number = n + 1; epoch = 1; producer = m.producer; place = m.number; command = m.command; events = d.events; reply = d.reply }

    record_next : (st : State) (n : ℕ) → st ≡ folded kind records → n ≡ length records → as_record st n ≡ next_record kind records m
    record_next st n e f = ap (λ s. as_record s n) e ∙ ap (as_record (folded kind records)) f

pub with_taken_some : (s : ℕ) (e : List ℕ) (lists : List (List Fact)) (b : Bool) (x r : Record) → Some r ≡ (if b then Some x else None) → with_fact s (fact.Wrote e r) lists ≡ (if b then with_fact s (fact.Wrote e x) lists else lists)
with_taken_some s e lists true x r h = let same : r ≡ x = cc in ap (λ y. with_fact s (fact.Wrote e y) lists) same
with_taken_some s e lists false x r h = cc

pub with_taken_none : (s : ℕ) (e : List ℕ) (lists : List (List Fact)) (b : Bool) (x : Record) → None ≡ (if b then Some x else None) → lists ≡ (if b then with_fact s (fact.Wrote e x) lists else lists)
with_taken_none s e lists true x h = cc
with_taken_none s e lists false x h = refl

-- what is known of the record's entity, with the record
knows_more : (kind : Kind) (q : List ℕ) (posted : List Message) (records : List Record) (known : Known) (r : Record) → Knows kind q posted records known → 0 < r.producer → r.producer ≤ 32
    → r.place ≡ sent_at known.taken r.producer + 1 → Knows kind q posted (records ++ r ∷ []) (after_taken known (Some r))
knows_more kind q posted records known r k some most next = record {
  kind_is = k.kind_is;
  sent_is = k.sent_is;
  places = length-set known.taken (r.producer - 1) r.place ∙ k.places;
  taken_is = λ p above within. at p (r.producer == p) refl above within ∙ sym (position_more p records r);
  count_is = ap (λ n. n + 1) k.count_is ∙ sym (length-append records (r ∷ []));
  state_is = ap (λ s. after_record s r) k.state_is ∙ sym (fold-append after_record (empty_state kind) records (r ∷ []));
}
  where
    before_same : (a b : ℕ) → 0 < a → 0 < b → a - 1 ≡ b - 1 → a ≡ b
    before_same a b h l e = omega arith

    at : (p : ℕ) (b : Bool) → (r.producer == p) ≡ b → 0 < p → p ≤ 32 → slice_index_or (slice_set known.taken (r.producer - 1) r.place) (p - 1) 0 ≡ position p records + cond b 1 0
    at p true t above within =
        let own : r.producer ≡ p = (Decides-eqb r.producer p).0 t in
        let inside : r.producer - 1 < length known.taken = subst (λ n. r.producer - 1 < n) (sym k.places) (omega arith) in
        ap (λ n. slice_index_or (slice_set known.taken (r.producer - 1) r.place) (n - 1) 0) (sym own)
        ∙ (get_or-set_same known.taken (r.producer - 1) r.place 0 inside ∙ (next ∙ (ap (λ n. sent_at known.taken n + 1) own ∙ ap (λ n. n + 1) (k.taken_is p above within))))
    at p false t above within =
        let far : p - 1 ≢ r.producer - 1 = λ e. true_is_not_false (sym ((Decides-eqb r.producer p).1 (sym (before_same p r.producer above some e))) ∙ t) in
        get_or-set_other known.taken (r.producer - 1) (p - 1) r.place 0 far ∙ (k.taken_is p above within ∙ omega arith)

-- after a delivery that is recorded
pub knows_recorded : (config : Config) (posted : List Message) (lists : List (List Fact)) (old new : Entities) (m : Message) (r : Record) (known now : Known)
    → KnowsAll config posted lists old
    → known ≡ known_at config.kind old m.entity
    → 0 < m.producer → m.producer ≤ 32
    → Some r ≡ taken_by known m
    → now ≡ after_taken known (Some r)
    → AreChanged config.kind old new m.entity now
    → KnowsAll config posted (with_fact (shard config.shards m.entity) (fact.Wrote m.entity r) lists) new
knows_recorded config posted lists old new m r known now k is some most next made put =
    let e : List ℕ = m.entity in
    let inside : shard config.shards e < length lists = subst (λ n. shard config.shards e < n) (sym k.wide) (mod-lt (absolute (java_hash e)) (omega (arith, k.some))) in
    record {
      each = λ q. subst (Knows config.kind q posted (journal q (slice_index_or (with_fact (shard config.shards e) (fact.Wrote e r) lists) (shard config.shards q) [])))
          (sym (put.each q)) (at inside q (is_name e q) refl);
      kept = put.kept;
      wide = length-set lists (shard config.shards e) (slice_index_or lists (shard config.shards e) [] ++ fact.Wrote e r ∷ []) ∙ k.wide;
      some = k.some;
      most = k.most;
      commands = k.commands;
    }
  where
    at : shard config.shards m.entity < length lists → (q : List ℕ) (b : Bool) → is_name m.entity q ≡ b
        → Knows config.kind q posted (journal q (slice_index_or (with_fact (shard config.shards m.entity) (fact.Wrote m.entity r) lists) (shard config.shards q) [])) (cond b now (known_at config.kind old q))
    at inside q true t =
        let was : known ≡ known_at config.kind old q = is ∙ ap (known_at config.kind old) (same_name m.entity q t) in
        let it : Knows config.kind q posted (journal q (slice_index_or lists (shard config.shards q) [])) known = subst (Knows config.kind q posted (journal q (slice_index_or lists (shard config.shards q) []))) (sym was) (k.each q) in
        let says : (m.number ≡ sent_at known.taken m.producer + 1) × (r ≡ record_after known m) = taken_says known m r next in
        let by : r.producer ≡ m.producer = ap (λ (x : Record). x.producer) says.1 in
        let place : r.place ≡ sent_at known.taken r.producer + 1 = ap (λ (x : Record). x.place) says.1 ∙ (says.0 ∙ ap (λ n. sent_at known.taken n + 1) (sym by)) in
        subst (Knows config.kind q posted _) (sym made)
        (subst (λ l. Knows config.kind q posted l (after_taken known (Some r))) (sym (journal_of_it config.shards lists m.entity q r t inside))
        (knows_more config.kind q posted _ known r it (subst (λ n. 0 < n) (sym by) some) (subst (λ n. n ≤ 32) (sym by) most) place))
    at inside q false t = subst (λ l. Knows config.kind q posted l (known_at config.kind old q)) (sym (journal_of_another config.shards lists m.entity q r t inside)) (k.each q)

-- after a delivery that isn't recorded
pub knows_unrecorded : (config : Config) (posted : List Message) (lists : List (List Fact)) (old new : Entities) (e : List ℕ) (known now : Known)
    → KnowsAll config posted lists old
    → known ≡ known_at config.kind old e
    → now ≡ known
    → AreChanged config.kind old new e now
    → KnowsAll config posted lists new
knows_unrecorded config posted lists old new e known now k is made put = record {
  each = λ q. subst (Knows config.kind q posted (journal q (slice_index_or lists (shard config.shards q) [])))
      (sym (put.each q)) (at q (is_name e q) refl);
  kept = put.kept;
  wide = k.wide;
  some = k.some;
  most = k.most;
  commands = k.commands;
}
  where
    at : (q : List ℕ) (b : Bool) → is_name e q ≡ b → Knows config.kind q posted (journal q (slice_index_or lists (shard config.shards q) [])) (cond b now (known_at config.kind old q))
    at q true t =
        let was : now ≡ known_at config.kind old q = made ∙ (is ∙ ap (known_at config.kind old) (same_name e q t)) in
        subst (Knows config.kind q posted (journal q (slice_index_or lists (shard config.shards q) []))) (sym was) (k.each q)
    at q false t = k.each q

-- what holds of the old holds of the new, where there is a new one
pub on_ok_of : {X A E : Type 0} (new old : X) (P : X → Type 0) (r : Result A E) → OnOk r (new ≡ old) → P old → OnOk r (P new)
on_ok_of new old P (Ok x) e h = subst P (sym e) h
on_ok_of new old P (Err x) e h = tt

pub on_ok_same : {A E : Type 0} (a b c : List (List Fact)) (r : Result A E) → OnOk r (a ≡ b) → b ≡ c → OnOk r (a ≡ c)
on_ok_same a b c (Ok x) e h = e ∙ h
on_ok_same a b c (Err x) e h = tt

pub numbers_length : (a n : ℕ) → length (numbers a n) ≡ n
numbers_length a zero = refl
numbers_length a (suc n) = ap suc (numbers_length (a + 1) n)

-- at the start nothing is known
pub knows_nothing : (config : Config) → 1 ≤ config.shards → config.shards ≤ 128 → (lists : List (List Fact)) → lists ≡ map held (numbers 0 config.shards)
    → (entities : Entities) → ((kind : Kind) (e : List ℕ) → known_at kind entities e ≡ unknown kind) → AreKept entities → KnowsAll config [] lists entities
knows_nothing config some most lists is entities none kept = record {
  each = λ q. subst (Knows config.kind q [] (journal q (slice_index_or lists (shard config.shards q) []))) (sym (none config.kind q))
      (subst (λ l. Knows config.kind q [] l (unknown config.kind)) (sym (ap (λ l. journal q (slice_index_or l (shard config.shards q) [])) is ∙ no_records q (numbers 0 config.shards) (shard config.shards q))) (record {
        kind_is = refl;
        sent_is = λ p above within. get_or-replicate 32 (p - 1) 0 0 (omega arith);
        places = length-replicate {A = ℕ} 32 0;
        taken_is = λ p above within. get_or-replicate 32 (p - 1) 0 0 (omega arith);
        count_is = refl;
        state_is = refl;
      }));
  kept = kept;
  wide = ap length is ∙ (length-map (numbers 0 config.shards) held ∙ numbers_length 0 config.shards);
  some = some;
  most = most;
  commands = refl;
}

pub and_both : (a b : Bool) → (a && b) ≡ true → (a ≡ true) × (b ≡ true)
and_both true b e = (refl, e)
and_both false b e = absurd (true_is_not_false (sym e))

-- what passes a test that all pass
pub all_at : {X : Type 0} (p : X → Bool) (xs : List X) (i : ℕ) (x : X) → list_all p xs ≡ true → slice_get xs i ≡ Some x → p x ≡ true
all_at p [] i x all e = cc
all_at p (y ∷ ys) zero x all e = let same : y ≡ x = cc in ap p (sym same) ∙ (and_both (p y) (list_all p ys) all).0
all_at p (y ∷ ys) (suc i) x all e = all_at p ys i x (and_both (p y) (list_all p ys) all).1 e

pub shard_inside : (config : Config) (posted : List Message) (lists : List (List Fact)) (entities : Entities) → KnowsAll config posted lists entities → (e : List ℕ) → shard config.shards e < length lists
shard_inside config posted lists entities k e = subst (λ n. shard config.shards e < n) (sym k.wide) (mod-lt (absolute (java_hash e)) (omega (arith, k.some)))
