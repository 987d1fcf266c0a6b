-- How many items a rule of a producer gives at most, and how much is demanded of it.
use Rattle.std.proofs.Common.{◌≡◌, ℕ, ◌+◌, ◌-◌, ◌≤◌, ◌<◌, List, [], ◌∷◌, ◌++◌, length, ap, ◌∙◌, sym, refl, arith}
use Rattle.std.specs.Prelude.{Bool, true, false, not, nat_lt, min, max, cond, map, fold, slice_index_or, slice_set, replicate, if◌then◌else◌}
use Rattle.std.specs.List.{flat_map, position_or_len, prefix_len}
use Rattle.std.proofs.lemmas.Grind.{get_or-set_at}
use Rattle.std.proofs.lemmas.List.{length-set, get_or_past, get_or-set_other}
use Rattle.std.proofs.lemmas.List.Sums.{fold-append}
use Rattle.yard_model.specs.declared.charter.Sending.{Sending}
use Rattle.yard_model.specs.declared.fact.Fact.{Fact}
use Rattle.yard_model.specs.declared.fact.Fact.TheVariants as fact
use Rattle.yard_model.specs.declared.incarnation.Incarnation.{Incarnation}
use Rattle.yard_model.specs.Entities.{entries}
use Rattle.yard_model.specs.Move.{told, demanded, pushed, item_of}
use Rattle.yard_model.specs.Producer as producer
use Rattle.yard_model.specs.Producer.{Producer, Progress, progress, producer_after}
use Rattle.yard_model.specs.Script.{Setting, is_name}
use Rattle.yard_model.specs.Setting.{place}
use Rattle.yard_model.specs.SlotReads.{queued, confirmed, confirmed_step}
use Rattle.yard_model.specs.Words.{at}
use Rattle.plain_laws.proofs.Booleans.{below, get_replicate, not_below, same_name}
use Rattle.plain_laws.proofs.Lists.{by_place}
use Rattle.plain_laws.proofs.Names.{name_itself}
use Rattle.room_laws.proofs.Gives.{more, if_gives, length_numbers}

pub queue_room : (x : Sending) (st : Producer) → length (flat_map item_of (producer.queue x st)) ≤ 1
queue_room x st = omega arith

pub confirm_room : (e : List ℕ) (n : ℕ) (st : Producer) → length (flat_map item_of (producer.confirm e n st)) ≤ 1
confirm_room e n st = if_gives 1 (told (fact.Confirmed st.number e n) ∷ []) [] (omega arith) (omega arith) (nat_lt (confirmed e st.entries) n)

pub give_back_room : (st : Producer) → length (flat_map item_of (producer.give_back st)) ≤ 1
give_back_room st = omega arith

pub push_marks_room : (e : List ℕ) (st : Producer) → length (flat_map item_of (producer.push_marks e st)) ≡ 0
push_marks_room e st = refl

pub repeat_few : (e : List ℕ) (st : Producer) → length (producer.to_repeat e st) ≤ 1
repeat_few e st = by (nat_lt (confirmed e st.entries) (queued e st.entries))
  where
    by : (b : Bool) → length (if b then (confirmed e st.entries + 1) ∷ [] else []) ≤ 1
    by true = omega arith
    by false = omega arith

pub repeat_marks_room : (e : List ℕ) (st : Producer) → length (flat_map item_of (map (pushed e) (producer.to_repeat e st))) ≡ 0
repeat_marks_room e st = none (producer.to_repeat e st)
  where
    none : (ns : List ℕ) → length (flat_map item_of (map (pushed e) ns)) ≡ 0
    none [] = refl
    none (n ∷ ns) = none ns

-- no more is demanded than this above what is confirmed
abbrev pub IsDemandedBy : ℕ → List ℕ → Producer → Type 0
IsDemandedBy w e st = (progress st e).demand ≤ confirmed e st.entries + w

above_confirmed : (w a d q k n : ℕ) → 1 ≤ w → d ≤ k + w → k + 1 ≤ a → n ≡ min q (max d (k + 1)) + 1 - a → n ≤ w
above_confirmed w a d q k n some near low is = grind (arith, some, near, low, is)

pub push_few : (w : ℕ) (e : List ℕ) (st : Producer) → 1 ≤ w → IsDemandedBy w e st → length (producer.to_push e st) ≤ w
push_few w e st some near =
    let k : ℕ = confirmed e st.entries in
    let a : ℕ = max (progress st e).sent k + 1 in
    above_confirmed w a (progress st e).demand (queued e st.entries) k (length (producer.to_push e st)) some near (grind arith) (length_numbers a (producer.allowed e st + 1 - a))

pub resend_few : (w : ℕ) (e : List ℕ) (f : ℕ) (st : Producer) → 1 ≤ w → IsDemandedBy w e st → length (producer.to_resend e f st) ≤ w
resend_few w e f st some near =
    let k : ℕ = confirmed e st.entries in
    let a : ℕ = max f (k + 1) in
    above_confirmed w a (progress st e).demand (queued e st.entries) k (length (producer.to_resend e f st)) some near (grind arith) (length_numbers a (producer.allowed e st + 1 - a))

-- and in any case no more than are queued
pub push_queued : (e : List ℕ) (st : Producer) → length (producer.to_push e st) ≤ queued e st.entries
push_queued e st = let a : ℕ = max (progress st e).sent (confirmed e st.entries) + 1 in omega (arith, length_numbers a (producer.allowed e st + 1 - a))

pub resend_queued : (e : List ℕ) (f : ℕ) (st : Producer) → length (producer.to_resend e f st) ≤ queued e st.entries
resend_queued e f st = let a : ℕ = max f (confirmed e st.entries + 1) in omega (arith, length_numbers a (producer.allowed e st + 1 - a))

-- That no more is demanded than so much above what is confirmed stands at first, and each rule of a producer keeps it where what is demanded is at most so much above what is confirmed then.

abbrev pub AreDemandedBy : ℕ → Producer → Type 0
AreDemandedBy w st = (e : List ℕ) → IsDemandedBy w e st

pub demanded_new : (w : ℕ) (set : Setting) (who : Incarnation) (p : ℕ) (list : List Fact) → AreDemandedBy w (producer.new_producer set who p list)
demanded_new w set who p list = λ e.
    let none : (producer.progress_in set (replicate (length set.names) producer.no_progress) e).demand ≡ 0 = ap (λ (k : Progress). k.demand) (get_replicate (length set.names) (place set e) producer.no_progress) in
    omega (arith, none)

pub demanded_queue : (w : ℕ) (x : Sending) (st : Producer) → AreDemandedBy w st → AreDemandedBy w (fold producer_after st (producer.queue x st))
demanded_queue w x st h = λ e.
    let f : Fact = fact.Queued st.number x.entity x.number x.command in
    let same : confirmed e (st.entries ++ f ∷ []) ≡ confirmed e st.entries = fold-append (confirmed_step e) 0 st.entries (f ∷ []) in
    let before : (progress st e).demand ≤ confirmed e st.entries + w = h e in
    omega (arith, same, before)

pub demanded_confirm : (w : ℕ) (e : List ℕ) (n : ℕ) (st : Producer) → AreDemandedBy w st → AreDemandedBy w (fold producer_after st (producer.confirm e n st))
demanded_confirm w e n st h = by (nat_lt (confirmed e st.entries) n) refl
  where
    f : Fact
    f = fact.Confirmed st.number e n

    name : (x : List ℕ) (b : Bool) → is_name e x ≡ b → confirmed e st.entries < n → (progress st x).demand ≤ (if b then n else confirmed x st.entries) + w
    name x true is rises =
        let same : confirmed e st.entries ≡ confirmed x st.entries = ap (λ y. confirmed y st.entries) (same_name e x is) in
        let before : (progress st x).demand ≤ confirmed x st.entries + w = h x in
        omega (arith, same, before, rises)
    name x false is rises = h x

    by : (b : Bool) → nat_lt (confirmed e st.entries) n ≡ b → AreDemandedBy w (fold producer_after st (if b then told (fact.Confirmed st.number e n) ∷ [] else []))
    by false is = h
    by true is = λ x.
        let at : confirmed x (st.entries ++ fact.Confirmed st.number e n ∷ []) ≡ (if is_name e x then n else confirmed x st.entries) = fold-append (confirmed_step x) 0 st.entries (fact.Confirmed st.number e n ∷ []) in
        let within : (progress st x).demand ≤ (if is_name e x then n else confirmed x st.entries) + w = name x (is_name e x) refl (below (confirmed e st.entries) n is) in
        omega (arith, at, within)

-- what is confirmed is at least the number that was to be
pub confirmed_reaches : (e : List ℕ) (n : ℕ) (st : Producer) → n ≤ confirmed e (fold producer_after st (producer.confirm e n st)).entries
confirmed_reaches e n st = by (nat_lt (confirmed e st.entries) n) refl
  where
    by : (b : Bool) → nat_lt (confirmed e st.entries) n ≡ b → n ≤ confirmed e (fold producer_after st (if b then told (fact.Confirmed st.number e n) ∷ [] else [])).entries
    by false is = not_below (confirmed e st.entries) n is
    by true is =
        let at : confirmed e (st.entries ++ fact.Confirmed st.number e n ∷ []) ≡ n =
        fold-append (confirmed_step e) 0 st.entries (fact.Confirmed st.number e n ∷ []) ∙ ap (λ b. if b then n else confirmed e st.entries) (name_itself e) in
        omega (arith, at)

-- two names at one place among the names are one
same_place : (e x : List ℕ) (names : List (List ℕ)) → position_or_len (is_name e) names ≡ position_or_len (is_name x) names → position_or_len (is_name e) names < length names → e ≡ x
same_place e x [] same less = absurd (omega (arith, less))
same_place e x (y ∷ ys) same less = by (is_name e y) (is_name x y) refl refl (same_place e x ys)
  where
    first : (e : List ℕ) → is_name e y ≡ true → position_or_len (is_name e) (y ∷ ys) ≡ 0
    first e h = ap (λ b. cond (not b) (1 + prefix_len (λ z. not (is_name e z)) ys) 0) h

    later : (e : List ℕ) → is_name e y ≡ false → position_or_len (is_name e) (y ∷ ys) ≡ 1 + position_or_len (is_name e) ys
    later e h = ap (λ b. cond (not b) (1 + prefix_len (λ z. not (is_name e z)) ys) 0) h

    by : (a b : Bool) → is_name e y ≡ a → is_name x y ≡ b → (position_or_len (is_name e) ys ≡ position_or_len (is_name x) ys → position_or_len (is_name e) ys < length ys → e ≡ x) → e ≡ x
    by true true i j rest = same_name e y i ∙ sym (same_name x y j)
    by true false i j rest = absurd (omega (arith, first e i, later x j, same))
    by false true i j rest = absurd (omega (arith, later e i, first x j, same))
    by false false i j rest = rest (omega (arith, later e i, later x j, same)) (omega (arith, later e i, less))

pub demanded_more : (w : ℕ) (e : List ℕ) (u : ℕ) (st : Producer) → length st.pairs ≡ length st.set.names → u ≤ confirmed e st.entries + w → AreDemandedBy w st → AreDemandedBy w (producer_after st (demanded e u))
demanded_more w e u st full near h = λ x. by_place _ (place st.set x) (place st.set e) (here x) (beside x)
  where
    new : Progress
    new = record { demand = max (progress st e).demand u; sent = (progress st e).sent }

    beside : (x : List ℕ) → (place st.set x ≡ place st.set e → ⊥) → IsDemandedBy w x (producer_after st (demanded e u))
    beside x other =
        let at : (progress (producer_after st (demanded e u)) x).demand ≡ (progress st x).demand =
        ap (λ (k : Progress). k.demand) (get_or-set_other st.pairs (place st.set e) (place st.set x) (record { demand = max (progress st e).demand u; sent = (progress st e).sent }) producer.no_progress other) in
        let before : (progress st x).demand ≤ confirmed x st.entries + w = h x in
        omega (arith, at, before)

    inside : (x : List ℕ) → place st.set x ≡ place st.set e → (b : Bool) → nat_lt (place st.set e) (length st.pairs) ≡ b → IsDemandedBy w x (producer_after st (demanded e u))
    inside x same true is =
        let less : place st.set e < length st.pairs = below (place st.set e) (length st.pairs) is in
        let at : (progress (producer_after st (demanded e u)) x).demand ≡ max (progress st e).demand u =
        ap (λ (k : Progress). k.demand) (get_or-set_at st.pairs (place st.set e) (place st.set x) (record { demand = max (progress st e).demand u; sent = (progress st e).sent }) producer.no_progress same less) in
        let one : confirmed e st.entries ≡ confirmed x st.entries = ap (λ y. confirmed y st.entries) (same_place e x st.set.names (sym same) (omega (arith, less, full))) in
        let before : (progress st e).demand ≤ confirmed e st.entries + w = h e in
        most (progress st e).demand u (confirmed e st.entries + w) (confirmed x st.entries + w) _ at before near (omega (arith, one))
      where
        most : (a b k m n : ℕ) → n ≡ max a b → a ≤ k → b ≤ k → k ≡ m → n ≤ m
        most a b k m n is low high to = grind (arith, is, low, high, to)
    inside x same false is =
        let past : length st.pairs ≤ place st.set e = not_below (place st.set e) (length st.pairs) is in
        let new : Progress = record { demand = max (progress st e).demand u; sent = (progress st e).sent } in
        let long : length (slice_set st.pairs (place st.set e) new) ≡ length st.pairs = length-set st.pairs (place st.set e) new in
        let none : (progress (producer_after st (demanded e u)) x).demand ≡ 0 =
        ap (λ (k : Progress). k.demand) (get_or_past (slice_set st.pairs (place st.set e) new) (place st.set x) producer.no_progress (omega (arith, past, same, long))) in
        omega (arith, none)

    here : (x : List ℕ) → place st.set x ≡ place st.set e → IsDemandedBy w x (producer_after st (demanded e u))
    here x same = inside x same (nat_lt (place st.set e) (length st.pairs)) refl

-- what was sent says nothing of what is demanded
pub demanded_pushed : (w : ℕ) (e : List ℕ) (n : ℕ) (st : Producer) → AreDemandedBy w st → AreDemandedBy w (producer_after st (pushed e n))
demanded_pushed w e n st h = λ x. by_place _ (place st.set x) (place st.set e) (here x) (beside x)
  where
    beside : (x : List ℕ) → (place st.set x ≡ place st.set e → ⊥) → IsDemandedBy w x (producer_after st (pushed e n))
    beside x other =
        let at : (progress (producer_after st (pushed e n)) x).demand ≡ (progress st x).demand =
        ap (λ (k : Progress). k.demand) (get_or-set_other st.pairs (place st.set e) (place st.set x) (record { demand = (progress st e).demand; sent = max (progress st e).sent n }) producer.no_progress other) in
        let before : (progress st x).demand ≤ confirmed x st.entries + w = h x in
        omega (arith, at, before)

    inside : (x : List ℕ) → place st.set x ≡ place st.set e → (b : Bool) → nat_lt (place st.set e) (length st.pairs) ≡ b → IsDemandedBy w x (producer_after st (pushed e n))
    inside x same true is =
        let at : (progress (producer_after st (pushed e n)) x).demand ≡ (progress st e).demand =
        ap (λ (k : Progress). k.demand) (get_or-set_at st.pairs (place st.set e) (place st.set x) (record { demand = (progress st e).demand; sent = max (progress st e).sent n }) producer.no_progress same (below (place st.set e) (length st.pairs) is)) in
        let one : (progress st x).demand ≡ (progress st e).demand = ap (λ i. (slice_index_or st.pairs i producer.no_progress).demand) same in
        let before : (progress st x).demand ≤ confirmed x st.entries + w = h x in
        omega (arith, at, one, before)
    inside x same false is =
        let past : length st.pairs ≤ place st.set e = not_below (place st.set e) (length st.pairs) is in
        let new : Progress = record { demand = (progress st e).demand; sent = max (progress st e).sent n } in
        let long : length (slice_set st.pairs (place st.set e) new) ≡ length st.pairs = length-set st.pairs (place st.set e) new in
        let none : (progress (producer_after st (pushed e n)) x).demand ≡ 0 =
        ap (λ (k : Progress). k.demand) (get_or_past (slice_set st.pairs (place st.set e) new) (place st.set x) producer.no_progress (omega (arith, past, same, long))) in
        omega (arith, none)

    here : (x : List ℕ) → place st.set x ≡ place st.set e → IsDemandedBy w x (producer_after st (pushed e n))
    here x same = inside x same (nat_lt (place st.set e) (length st.pairs)) refl

pub demanded_all_pushed : (w : ℕ) (e : List ℕ) (ns : List ℕ) (st : Producer) → AreDemandedBy w st → AreDemandedBy w (fold producer_after st (map (pushed e) ns))
demanded_all_pushed w e [] st h = h
demanded_all_pushed w e (n ∷ ns) st h = demanded_all_pushed w e ns (producer_after st (pushed e n)) (demanded_pushed w e n st h)
