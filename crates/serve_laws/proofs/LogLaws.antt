-- The sends of a log's `queued` entries, in the order of the log, are those of its queues' lists.
use Rattle.std.proofs.Common.{◌≡◌, ◌≢◌, ◌⊎◌, ℕ, ◌+◌, ◌-◌, inl, inr, sym, ap, ◌∙◌, refl, subst}
use Rattle.std.specs.Prelude.{Bool, true, false, ◌==◌, cond, if◌then◌else◌, List, [], ◌∷◌, ◌++◌, fold, Option, Some, None}
use Rattle.std.specs.List.{flat_map, list_all}
use Rattle.std.specs.Option.{option_map_or}
use Rattle.std.proofs.lemmas.List.{append-nil, append_assoc}
use Rattle.std.proofs.lemmas.List.Folds.{list_all-append}
use Rattle.std.proofs.lemmas.List.Sums.{fold-append}
use Rattle.yard_model.specs.declared.charter.Line.{Line}
use Rattle.yard_model.specs.declared.charter.Order.{Order}
use Rattle.yard_model.specs.declared.charter.Order.TheVariants as order
use Rattle.yard_model.specs.declared.charter.Sending.{Sending}
use Rattle.yard_model.specs.declared.fact.Fact.{Fact}
use Rattle.yard_model.specs.declared.fact.Fact.TheVariants as fact
use Rattle.yard_model.specs.declared.incarnation.Slot.{Slot}
use Rattle.yard_model.specs.declared.incarnation.Slot.TheVariants as slot
use Rattle.yard_model.specs.Behaviour.{is_in}
use Rattle.yard_model.specs.Genuine.{is_producer, is_slot_of}
use Rattle.yard_model.specs.Lawful.{lawful}
use Rattle.yard_model.specs.Script.{Script, count_to, sends, sends_in, setting, with_order, with_send, with_send_of}
use Rattle.yard_model.specs.SlotLists.{queue_list}
use Rattle.yard_model.specs.Trace.{list_at, lists_of, slot_of}
use Rattle.plain_laws.proofs.Booleans.{and_both, both, get_replicate, number_itself, other_number, same_number, true_is_not_false}
use Rattle.yard_laws.proofs.Follows.{follows_to}
use Rattle.yard_laws.proofs.LocalLaws.{list_grows, other_lists_stay}
use Rattle.grow_laws.specs.Taken.{are_taken, has_slot, is_taken}
use Rattle.serve_laws.specs.Queues.{sending_of, sends_of}
use Rattle.serve_laws.proofs.SentLaws.{is_send_within, unsent}

-- Lists of lists.

pub flat_more : {A B : Type 0} (f : A → List B) (xs : List A) (x : A) → flat_map f (xs ++ x ∷ []) ≡ flat_map f xs ++ f x
flat_more f [] x = append-nil (f x)
flat_more f (y ∷ xs) x = ap (λ l. f y ++ l) (flat_more f xs x) ∙ sym (append_assoc (f y) (flat_map f xs) (f x))

-- Sends, numbered anew.

abbrev put : List Sending → Sending → List Sending
put xs x = with_send xs x.entity x.command

-- what the `queued` entries of one producer say
abbrev sent : ℕ → Fact → List Sending
sent p (fact.Queued q e n k) = if q == p then record { entity = e; number = n; command = k } ∷ [] else []
sent p f = []

put_all : (p : ℕ) (facts : List Fact) (xs : List Sending) → fold (with_send_of p) xs (flat_map sends_of facts) ≡ fold put xs (flat_map (sent p) facts)
put_all p [] xs = refl
put_all p (f ∷ facts) xs = one f (put_all p facts)
  where
    Rest : Type 0
    Rest = (ys : List Sending) → fold (with_send_of p) ys (flat_map sends_of facts) ≡ fold put ys (flat_map (sent p) facts)

    one : (f : Fact) → ((ys : List Sending) → fold (with_send_of p) ys (flat_map sends_of facts) ≡ fold put ys (flat_map (sent p) facts))
        → fold (with_send_of p) xs (sends_of f ++ flat_map sends_of facts) ≡ fold put xs (sent p f ++ flat_map (sent p) facts)
    one (fact.Queued q e n k) rest = pick (q == p)
      where
        pick : (b : Bool) → fold (with_send_of p) (if b then with_send xs e k else xs) (flat_map sends_of facts) ≡ fold put xs ((if b then record { entity = e; number = n; command = k } ∷ [] else []) ++ flat_map (sent p) facts)
        pick true = rest (with_send xs e k)
        pick false = rest xs
    one f rest = rest xs

-- those of a script are numbered so already
put_itself : (p : ℕ) (ls : List Line) (xs : List Sending) → fold put [] xs ≡ xs → fold put [] (fold (with_send_of p) xs ls) ≡ fold (with_send_of p) xs ls
put_itself p [] xs h = h
put_itself p (l ∷ ls) xs h = put_itself p ls (with_order p xs l.order) (one l.order)
  where
    one : (o : Order) → fold put [] (with_order p xs o) ≡ with_order p xs o
    one (order.Send q e k) = pick (q == p)
      where
        x : Sending
        x = record { entity = e; number = count_to e xs + 1; command = k }

        pick : (b : Bool) → fold put [] (if b then xs ++ x ∷ [] else xs) ≡ (if b then xs ++ x ∷ [] else xs)
        pick true = fold-append put [] xs (x ∷ []) ∙ ap (λ ys. put ys x) h
        pick false = h
    one o = h

-- Lists of queues.

-- an entry more stands in this queue's list, or in another slot's
abbrev Stands : Script → ℕ → List Fact → Fact → Option Slot → Type 0
Stands c p before f o =
    ((o ≡ Some (slot.Queue p)) × (list_at (lists_of (setting c) (before ++ f ∷ [])) (slot.Queue p) ≡ list_at (lists_of (setting c) before) (slot.Queue p) ++ f ∷ []))
    ⊎ ((o ≢ Some (slot.Queue p)) × (list_at (lists_of (setting c) (before ++ f ∷ [])) (slot.Queue p) ≡ list_at (lists_of (setting c) before) (slot.Queue p)))

stands : (c : Script) (p : ℕ) (before : List Fact) (f : Fact) (o : Option Slot) → is_producer c p ≡ true → slot_of (setting c) f ≡ o → has_slot c o ≡ true → Stands c p before f o
stands c p before f None is of h = absurd (true_is_not_false (sym h))
stands c p before f (Some s) is of h = by s of h
  where
    other : (t : Slot) → slot_of (setting c) f ≡ Some t → has_slot c (Some t) ≡ true → Some t ≢ Some (slot.Queue p) → Stands c p before f (Some t)
    other t of h apart = inr (apart, other_lists_stay c before f (slot.Queue p) (λ e. apart (sym of ∙ e)) is (subst (λ o. option_map_or (is_slot_of c) o true ≡ true) (sym of) h))

    by : (t : Slot) → slot_of (setting c) f ≡ Some t → has_slot c (Some t) ≡ true → Stands c p before f (Some t)
    by (slot.Shard k) of h = other (slot.Shard k) of h (λ e. cc)
    by slot.Coordinator of h = other slot.Coordinator of h (λ e. cc)
    by (slot.Queue q) of h = pick (q == p) refl
      where
        pick : (b : Bool) → (q == p) ≡ b → Stands c p before f (Some (slot.Queue q))
        pick true t = let e : Some (slot.Queue q) ≡ Some (slot.Queue p) = ap (λ k. Some (slot.Queue k)) (same_number q p t) in inl (e, list_grows c before f (slot.Queue p) (of ∙ e) is)
        pick false t = other (slot.Queue q) of h (λ e. other_number q p t cc)

sent_here : (c : Script) (p : ℕ) (f : Fact) → slot_of (setting c) f ≡ Some (slot.Queue p) → sent p f ≡ sending_of f
sent_here c p (fact.Queued q e n k) h =
    let is : q ≡ p = cc in
    ap (λ b. if b then record { entity = e; number = n; command = k } ∷ [] else []) (number_itself q p is)
sent_here c p f h = refl

not_sent : (c : Script) (p : ℕ) (f : Fact) → slot_of (setting c) f ≢ Some (slot.Queue p) → sent p f ≡ []
not_sent c p (fact.Queued q e n k) h = by (q == p) refl
  where
    by : (b : Bool) → (q == p) ≡ b → ◌≡◌ {A = List Sending} (if b then record { entity = e; number = n; command = k } ∷ [] else []) []
    by true t = absurd (h (ap (λ k. Some (slot.Queue k)) (same_number q p t)))
    by false t = refl
not_sent c p f h = refl

queue_has : (c : Script) (p : ℕ) (facts : List Fact) → is_producer c p ≡ true → are_taken c facts ≡ true → flat_map (sent p) facts ≡ flat_map sending_of (queue_list (lists_of (setting c) facts) p)
queue_has c p facts is taken =
    follows_to (is_taken c) (λ l. flat_map (sent p) l ≡ flat_map sending_of (list_at (lists_of (setting c) l) (slot.Queue p))) step [] facts
    (sym (ap (flat_map sending_of) (get_replicate c.config.producers (p - 1) []))) taken
  where
    step : (before : List Fact) (f : Fact) → flat_map (sent p) before ≡ flat_map sending_of (list_at (lists_of (setting c) before) (slot.Queue p)) → is_taken c before f ≡ true
        → flat_map (sent p) (before ++ f ∷ []) ≡ flat_map sending_of (list_at (lists_of (setting c) (before ++ f ∷ [])) (slot.Queue p))
    step before f h may = flat_more (sent p) before f ∙ by (stands c p before f (slot_of (setting c) f) is refl (and_both (has_slot c (slot_of (setting c) f)) (lawful c (lists_of (setting c) (before ++ f ∷ []))) may).0)
      where
        old : List Fact
        old = list_at (lists_of (setting c) before) (slot.Queue p)

        by : Stands c p before f (slot_of (setting c) f) → flat_map (sent p) before ++ sent p f ≡ flat_map sending_of (list_at (lists_of (setting c) (before ++ f ∷ [])) (slot.Queue p))
        by (inl m) = ap (λ l. l ++ sent p f) h ∙ (ap (λ l. flat_map sending_of old ++ l) (sent_here c p f m.0) ∙ (sym (flat_more sending_of old f) ∙ ap (flat_map sending_of) (sym m.1)))
        by (inr m) = ap (λ l. flat_map (sent p) before ++ l) (not_sent c p f m.0) ∙ (append-nil (flat_map (sent p) before) ∙ (h ∙ ap (flat_map sending_of) (sym m.1)))

-- The script of a log.

-- each of its lines sends for a producer of the script
pub log_within : (c : Script) (facts : List Fact) → are_taken c facts ≡ true → list_all (is_send_within c.config.producers) (flat_map sends_of facts) ≡ true
log_within c facts taken = follows_to (is_taken c) (λ l. list_all (is_send_within c.config.producers) (flat_map sends_of l) ≡ true) step [] facts refl taken
  where
    one : (f : Fact) → has_slot c (slot_of (setting c) f) ≡ true → list_all (is_send_within c.config.producers) (sends_of f) ≡ true
    one (fact.Queued q e n k) h = both (is_in 1 c.config.producers q) true h refl
    one f h = refl

    step : (before : List Fact) (f : Fact) → list_all (is_send_within c.config.producers) (flat_map sends_of before) ≡ true → is_taken c before f ≡ true → list_all (is_send_within c.config.producers) (flat_map sends_of (before ++ f ∷ [])) ≡ true
    step before f h may =
        ap (list_all (is_send_within c.config.producers)) (flat_more sends_of before f)
        ∙ (list_all-append (is_send_within c.config.producers) (flat_map sends_of before) (sends_of f)
        ∙ both (list_all (is_send_within c.config.producers) (flat_map sends_of before)) (list_all (is_send_within c.config.producers) (sends_of f)) h
        (one f (and_both (has_slot c (slot_of (setting c) f)) (lawful c (lists_of (setting c) (before ++ f ∷ []))) may).0))

-- where each queue's list has all sends of its producer, so has it
pub log_sends : (c : Script) (facts : List Fact) → are_taken c facts ≡ true → list_all (is_send_within c.config.producers) c.orders ≡ true
    → ((p : ℕ) → is_producer c p ≡ true → flat_map sending_of (queue_list (lists_of (setting c) facts) p) ≡ sends c p) → (p : ℕ) → sends_in p (flat_map sends_of facts) ≡ sends c p
log_sends c facts taken within all p = by (is_producer c p) refl
  where
    by : (b : Bool) → is_producer c p ≡ b → sends_in p (flat_map sends_of facts) ≡ sends c p
    by true is = put_all p facts [] ∙ (ap (fold put []) (queue_has c p facts is taken ∙ all p is) ∙ put_itself p c.orders [] refl)
    by false out = unsent c.config.producers p (flat_map sends_of facts) [] (log_within c facts taken) out ∙ sym (unsent c.config.producers p c.orders [] within out)
