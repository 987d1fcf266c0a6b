-- Moves of a producer that keep what stands of it, and that what it routes is genuine.
use Rattle.yard_model.specs.Opening.{begins}
use Rattle.std.proofs.Common.{◌≡◌, ◌<◌, ◌≤◌, ℕ, zero, suc, ◌+◌, ◌-◌, sym, ap, ◌∙◌, refl, subst, arith, length}
use Rattle.std.specs.Prelude.{Bool, true, false, ◌==◌, ◌&&◌, ◌↔◌, not, cond, min, max, nat_lt, nat_le, List, [], ◌∷◌, ◌++◌, drop, take, filter, fold, map, replicate, slice_index_or, Option, Some, None, is_some, if◌then◌else◌, IsTrue}
use Rattle.std.specs.List.{list_all, slice_get}
use Rattle.std.specs.Option.{option_map_or}
use Rattle.std.proofs.lemmas.Bool.Decides.{nat_tests}
use Rattle.std.proofs.lemmas.List.{length-set, append-nil, map-append, take-append-drop, take_more}
use Rattle.std.proofs.lemmas.List.Elements.{filter-append}
use Rattle.std.proofs.lemmas.List.Sums.{fold-append}
use Rattle.std.proofs.lemmas.Option.{slice_get_within, get_or_from_slice_get}
use Rattle.yard_model.specs.declared.charter.Sending.{Sending}
use Rattle.yard_model.specs.declared.event.Command.{Command}
use Rattle.yard_model.specs.declared.event.Command.TheVariants as command
use Rattle.yard_model.specs.declared.fact.Fact.{Fact}
use Rattle.yard_model.specs.declared.fact.Fact.TheVariants as fact
use Rattle.yard_model.specs.declared.out.Item.TheVariants as item
use Rattle.yard_model.specs.declared.incarnation.Cause.TheVariants as cause
use Rattle.yard_model.specs.declared.incarnation.Slot.{Slot}
use Rattle.yard_model.specs.declared.incarnation.Slot.TheVariants as slot
use Rattle.yard_model.specs.Equal.{is_command, is_sending, is_slot}
use Rattle.yard_model.specs.Genuine.{is_node, is_planned, is_genuine}
use Rattle.yard_model.specs.Lawful.{own, is_held, is_leased, is_queue_entry, may_follow}
use Rattle.yard_model.specs.Move.{Move, made, demanded, pushed, told}
use Rattle.yard_model.specs.Producer as producer
use Rattle.yard_model.specs.Producer.{Producer, producer_after, queue_step}
use Rattle.yard_model.specs.Script.{Script, setting, is_name, sends, plan}
use Rattle.yard_model.specs.Setting.{place}
use Rattle.yard_model.specs.SlotReads.{holder, epoch, commands, commands_step, queued, confirmed, queued_in_all, queued_in_all_step}
use Rattle.yard_model.specs.Words.{numbers, from_to}
use Rattle.yard_model.proofs.FollowLaws.{own_grows, own_more}
use Rattle.plain_laws.proofs.Booleans.{true_is_not_false, and_both, both, number_itself, all_map, is_below, within}
use Rattle.plain_laws.proofs.Lists.{all_join}
use Rattle.yard_laws.specs.Queues.{KeepsQueue, ProducerKeepsQueue}
use Rattle.yard_laws.proofs.Owned.{queue_to}
use Rattle.yard_laws.proofs.Live.{holder_more}
use Rattle.actor_laws.specs.Moves.{is_own_move}
use Rattle.actor_laws.specs.ProducerStands.{IsProducer, KeepsProducer, is_queued_number, is_sent_well, ProducerKeeps, ProducerRoutes, ProducerJoins, ProducerBegins, ProducerIsGranted}

-- Numbers.

all_between : (a k q : ℕ) → 0 < a → k ≤ (q + 1) - a → list_all (λ n. nat_lt 0 n && nat_le n q) (numbers a k) ≡ true
all_between a zero q above h = refl
all_between a (suc k) q above h =
    let here : a ≤ q = grind (arith) in
    let next : k ≤ (q + 1) - (a + 1) = grind (arith) in
    let up : 0 < a + 1 = grind (arith) in
    both (nat_lt 0 a && nat_le a q) (list_all (λ n. nat_lt 0 n && nat_le n q) (numbers (a + 1) k)) (both (nat_lt 0 a) (nat_le a q) (is_below 0 a above) (within a q here)) (all_between (a + 1) k q up next)

all_from_to : (a b q : ℕ) → 0 < a → b ≤ q → list_all (λ n. nat_lt 0 n && nat_le n q) (from_to a b) ≡ true
all_from_to a b q above h =
    let few : (b + 1) - a ≤ (q + 1) - a = grind (arith) in
    all_between a ((b + 1) - a) q above few

least : (a b : ℕ) → min a b ≤ a
least a b = grind (arith)

after_one : (a b : ℕ) → 0 < max a (b + 1)
after_one a b = grind (arith)

-- Moves.

holder_stays : (list : List Fact) (m : Move) → holder (queue_step list m) ≡ holder list
holder_stays list (made (item.Fact (fact.Queued p e n k))) = holder_more list (fact.Queued p e n k)
holder_stays list (made (item.Fact (fact.Confirmed p e n))) = holder_more list (fact.Confirmed p e n)
holder_stays list m = refl

pairs_length : (st : Producer) (m : Move) → length (producer.pairs_step st.set st.pairs m) ≡ length st.pairs
pairs_length st (demanded e u) = length-set st.pairs (place st.set e) (record { demand = max (producer.progress st e).demand u; sent = (producer.progress st e).sent })
pairs_length st (pushed e n) = length-set st.pairs (place st.set e) (record { demand = (producer.progress st e).demand; sent = max (producer.progress st e).sent n })
pairs_length st m = refl

one_stands : (c : Script) (st : Producer) (m : Move) → IsProducer c st → own c (slot.Queue st.number) (queue_step st.entries m) ≡ true → IsProducer c (producer_after st m)
one_stands c st m r own_is = record {
  who_is = r.who_is;
  set_is = r.set_is;
  number_is = r.number_is;
  own_is = own_is;
  held_is = holder_stays st.entries m ∙ r.held_is;
  pairs_full = pairs_length st m ∙ r.pairs_full;
}

kept_none : (c : Script) (st : Producer) → IsProducer c st → KeepsProducer c st []
kept_none c st r = record { stands = r; posts_are = refl }

kept_one : (c : Script) (st : Producer) (m : Move) → IsProducer c st → own c (slot.Queue st.number) (queue_step st.entries m) ≡ true → is_own_move c st.who m ≡ true → KeepsProducer c st (m ∷ [])
kept_one c st m r own_is ours = record { stands = one_stands c st m r own_is; posts_are = both (is_own_move c st.who m) true ours refl }

-- who it is and its number stay
pub who_stays : (st : Producer) (ms : List Move) → (fold producer_after st ms).who ≡ st.who
who_stays st [] = refl
who_stays st (m ∷ ms) = who_stays (producer_after st m) ms

pub number_stays : (st : Producer) (ms : List Move) → (fold producer_after st ms).number ≡ st.number
number_stays st [] = refl
number_stays st (m ∷ ms) = number_stays (producer_after st m) ms

pub producer_joins : ProducerJoins
producer_joins c st xs ys f g = record {
  stands = subst (IsProducer c) (sym (fold-append producer_after st xs ys)) g.stands;
  posts_are = all_join (is_own_move c st.who) xs ys f.posts_are (subst (λ w. list_all (is_own_move c w) ys ≡ true) (who_stays st xs) g.posts_are);
}

-- Rules.

-- of a lawful list the last entry may follow those before it
last_follows : (c : Script) (s : Slot) (list : List Fact) (f : Fact) → begins f ≡ false → own c s (list ++ f ∷ []) ≡ true → may_follow c s list f ≡ true
last_follows c s list f within e = (and_both (own c s list) (may_follow c s list f) (sym (own_grows c s list f within) ∙ e)).1

kept_confirm : (c : Script) (st : Producer) (e : List ℕ) (n : ℕ) → IsProducer c st → (b : Bool)
    → own c (slot.Queue st.number) (fold queue_step st.entries (if b then told (fact.Confirmed st.number e n) ∷ [] else [])) ≡ true
    → KeepsProducer c st (if b then told (fact.Confirmed st.number e n) ∷ [] else [])
kept_confirm c st e n r false own_is = kept_none c st r
kept_confirm c st e n r true own_is = kept_one c st (told (fact.Confirmed st.number e n)) r own_is refl

confirm_follows : (c : Script) (st : Producer) (e : List ℕ) (n : ℕ) (b : Bool) → b ≡ true
    → own c (slot.Queue st.number) (fold queue_step st.entries (if b then told (fact.Confirmed st.number e n) ∷ [] else [])) ≡ true
    → may_follow c (slot.Queue st.number) st.entries (fact.Confirmed st.number e n) ≡ true
confirm_follows c st e n false rises own_is = absurd (true_is_not_false (sym rises))
confirm_follows c st e n true rises own_is = last_follows c (slot.Queue st.number) st.entries (fact.Confirmed st.number e n) refl own_is

kept_repeat : (c : Script) (st : Producer) (e : List ℕ) (n : ℕ) → IsProducer c st → (b : Bool) → KeepsProducer c st (map (pushed e) (if b then n ∷ [] else []))
kept_repeat c st e n r false = kept_none c st r
kept_repeat c st e n r true = kept_one c st (pushed e n) r r.own_is refl

pub producer_keeps : ProducerKeepsQueue → ProducerKeeps
producer_keeps keeps c st r = record {
  queues = λ x next. kept_one c st (told (fact.Queued st.number x.entity x.number x.command)) r (k.queues x next) refl;
  confirms = λ e n there. kept_confirm c st e n r (nat_lt (confirmed e st.entries) n) (k.confirms e n there);
  pushes = λ e. kept_one c st (pushed e (max (confirmed e st.entries) (producer.allowed e st))) r r.own_is refl;
  demands = λ e u. kept_one c st (demanded e u) r r.own_is refl;
  repeats = λ e. kept_repeat c st e (confirmed e st.entries + 1) r (nat_lt (confirmed e st.entries) (queued e st.entries));
  queued_follows = λ x next. last_follows c (slot.Queue st.number) st.entries (fact.Queued st.number x.entity x.number x.command) refl (k.queues x next);
  confirmed_follows = λ e n rises there. confirm_follows c st e n (nat_lt (confirmed e st.entries) n) (is_below (confirmed e st.entries) n rises) (k.confirms e n there);
  freed_follows = λ why. last_follows c (slot.Queue st.number) st.entries (fact.Freed (slot.Queue st.number) (epoch st.entries) cause.Released) refl k.gives_back;
}
  where
    k : KeepsQueue c st
    k = keeps c st (record { own_is = r.own_is; held_is = ap is_some r.held_is })

-- Plans.

-- the commands to e among sends
abbrev plan_of : List ℕ → List Sending → List Command
plan_of e xs = map (λ (x : Sending). x.command) (filter (λ (x : Sending). is_name x.entity e) xs)

plan_join : (e : List ℕ) (xs ys : List Sending) → plan_of e (xs ++ ys) ≡ plan_of e xs ++ plan_of e ys
plan_join e xs ys =
    ap (map (λ (x : Sending). x.command)) (filter-append (λ (x : Sending). is_name x.entity e) xs ys)
    ∙ map-append (λ (x : Sending). x.command) (filter (λ (x : Sending). is_name x.entity e) xs) (filter (λ (x : Sending). is_name x.entity e) ys)

-- what is queued to e is what the first sends, as many as are queued in all, plan for e
abbrev IsBegun : Script → ℕ → List ℕ → List Fact → Type 0
IsBegun c p e list = commands e list ≡ plan_of e (take (queued_in_all list) (sends c p))

one_planned : (e : List ℕ) (old : List Command) (xs : List Sending) (i : ℕ) (x : Sending) → old ≡ plan_of e (take i xs) → slice_get xs i ≡ Some x
    → (if is_name x.entity e then old ++ x.command ∷ [] else old) ≡ plan_of e (take (i + 1) xs)
one_planned e old xs i x h found = step (is_name x.entity e) refl ∙ sym (ap (plan_of e) more ∙ plan_join e (take i xs) (x ∷ []))
  where
    more : take (i + 1) xs ≡ take i xs ++ x ∷ []
    more = take_more xs i x (slice_get_within xs i x found) ∙ ap (λ y. take i xs ++ y ∷ []) (get_or_from_slice_get xs i x x found)

    step : (b : Bool) → is_name x.entity e ≡ b → (if b then old ++ x.command ∷ [] else old) ≡ plan_of e (take i xs) ++ plan_of e (x ∷ [])
    step true s = ap (λ l. l ++ x.command ∷ []) h ∙ ap (λ b. plan_of e (take i xs) ++ map (λ (x : Sending). x.command) (cond b (x ∷ []) [])) (sym s)
    step false s = h ∙ (sym (append-nil (plan_of e (take i xs))) ∙ ap (λ b. plan_of e (take i xs) ++ map (λ (x : Sending). x.command) (cond b (x ∷ []) [])) (sym s))

-- the send that an entry names is found at its place
found_at : ((a b : Sending) → IsTrue (is_sending a b) ↔ (a ≡ b)) → (x : Sending) (o : Option Sending) → option_map_or (is_sending x) o false ≡ true → o ≡ Some x
found_at same x None e = absurd (true_is_not_false (sym e))
found_at same x (Some y) e = ap Some (sym ((same x y).0 e))

one_begun : ((a b : Sending) → IsTrue (is_sending a b) ↔ (a ≡ b)) → (c : Script) (p : ℕ) (e : List ℕ) (list : List Fact) (f : Fact) → IsBegun c p e list → is_queue_entry c p list f ≡ true
    → commands_step e (commands e list) f ≡ plan_of e (take (queued_in_all_step (queued_in_all list) f) (sends c p))
one_begun same c p e list (fact.Queued q x n k) h may =
    let sent : Sending = record { entity = x; number = n; command = k } in
    let test : option_map_or (is_sending sent) (slice_get (sends c p) (queued_in_all list)) false ≡ true = (and_both (q == p) (option_map_or (is_sending sent) (slice_get (sends c p) (queued_in_all list)) false) may).1 in
    one_planned e (commands e list) (sends c p) (queued_in_all list) sent h (found_at same sent (slice_get (sends c p) (queued_in_all list)) test)
one_begun same c p e list f h may = h

begun_step : ((a b : Sending) → IsTrue (is_sending a b) ↔ (a ≡ b)) → (c : Script) (p : ℕ) (e : List ℕ) (list : List Fact) (f : Fact) → IsBegun c p e list → may_follow c (slot.Queue p) list f ≡ true → IsBegun c p e (list ++ f ∷ [])
begun_step same c p e list f h may =
    fold-append (commands_step e) [] list (f ∷ [])
    ∙ (one_begun same c p e list f h (and_both (is_leased list f) (is_queue_entry c p list f) may).1
    ∙ ap (λ i. plan_of e (take i (sends c p))) (sym (fold-append queued_in_all_step 0 list (f ∷ []))))

begun : ((a b : Sending) → IsTrue (is_sending a b) ↔ (a ≡ b)) → (c : Script) (p : ℕ) (e : List ℕ) (list : List Fact) → own c (slot.Queue p) list ≡ true → IsBegun c p e list
begun same c p e list own_is = queue_to c p (IsBegun c p e) refl (λ before f. begun_step same c p e before f) list own_is

front_get : {X : Type 0} (xs ys : List X) (i : ℕ) (d : X) → i < length xs → slice_get (xs ++ ys) i ≡ Some (slice_index_or xs i d)
front_get [] ys i d h = absurd (omega (arith))
front_get (x ∷ xs) ys zero d h = refl
front_get (x ∷ xs) ys (suc i) d h = let less : i < length xs = grind (arith) in front_get xs ys i d less

planned : ((a b : Sending) → IsTrue (is_sending a b) ↔ (a ≡ b)) → ((a b : Command) → IsTrue (is_command a b) ↔ (a ≡ b)) → (c : Script) (p : ℕ) (e : List ℕ) (list : List Fact) (n : ℕ)
    → own c (slot.Queue p) list ≡ true → 0 < n → n ≤ queued e list → is_planned c p e n (slice_index_or (commands e list) (n - 1) command.Read) ≡ true
planned same alike c p e list n own_is above there =
    let k : Command = slice_index_or (commands e list) (n - 1) command.Read in
    let i : ℕ = queued_in_all list in
    let rest : List Command = plan_of e (drop i (sends c p)) in
    let less : n - 1 < length (commands e list) = grind (arith) in
    let whole : plan c p e ≡ commands e list ++ rest =
    sym (ap (plan_of e) (take-append-drop i (sends c p))) ∙ (plan_join e (take i (sends c p)) (drop i (sends c p)) ∙ ap (λ l. l ++ rest) (sym (begun same c p e list own_is))) in
    let found : slice_get (plan c p e) (n - 1) ≡ Some k = ap (λ l. slice_get l (n - 1)) whole ∙ front_get (commands e list) rest (n - 1) command.Read less in
    both (nat_lt 0 n) (option_map_or (is_command k) (slice_get (plan c p e) (n - 1)) false) (is_below 0 n above)
    (ap (λ o. option_map_or (is_command k) o false) found ∙ (alike k k).1 refl)

-- What is routed.

above_of : (n q : ℕ) → (nat_lt 0 n && nat_le n q) ≡ true → (0 < n) × (n ≤ q)
above_of n q e =
    let m : (nat_lt 0 n ≡ true) × (nat_le n q ≡ true) = and_both (nat_lt 0 n) (nat_le n q) e in
    let low : 0 < n = grind (arith, nat_tests) in
    let high : n ≤ q = grind (arith, nat_tests) in
    (low, high)

repeat_queued : (a q : ℕ) (b : Bool) → nat_lt a q ≡ b → list_all (λ n. nat_lt 0 n && nat_le n q) (if b then (a + 1) ∷ [] else []) ≡ true
repeat_queued a q false e = refl
repeat_queued a q true e =
    let up : 0 < a + 1 = grind (arith) in
    let top : a + 1 ≤ q = grind (arith, nat_tests) in
    both (nat_lt 0 (a + 1) && nat_le (a + 1) q) true (both (nat_lt 0 (a + 1)) (nat_le (a + 1) q) (is_below 0 (a + 1) up) (within (a + 1) q top)) refl

pub producer_routes : ((a b : Sending) → IsTrue (is_sending a b) ↔ (a ≡ b)) → ((a b : Command) → IsTrue (is_command a b) ↔ (a ≡ b)) → ProducerRoutes
producer_routes same alike c st r = record {
  messages = message;
  push_numbers = to_push;
  resend_numbers = to_resend;
  repeat_numbers = to_repeat;
  pushed_well = λ e. all_map (is_queued_number e st) (is_sent_well c e st) (well e) (producer.to_push e st) (to_push e);
  resent_well = λ e f. all_map (is_queued_number e st) (is_sent_well c e st) (well e) (producer.to_resend e f st) (to_resend e f);
  repeated_well = λ e. all_map (is_queued_number e st) (is_sent_well c e st) (well e) (producer.to_repeat e st) (to_repeat e);
}
  where
    message : (e : List ℕ) (n : ℕ) → 0 < n → n ≤ queued e st.entries → is_genuine c (producer.message_of e st n) ≡ true
    message e n above there = both (is_planned c st.number e n (producer.message_of e st n).command) (is_node c st.who) (planned same alike c st.number e st.entries n r.own_is above there) r.who_is

    well : (e : List ℕ) (n : ℕ) → is_queued_number e st n ≡ true → is_sent_well c e st n ≡ true
    well e n h = let m : (0 < n) × (n ≤ queued e st.entries) = above_of n (queued e st.entries) h in message e n m.0 m.1

    most : (e : List ℕ) → producer.allowed e st ≤ queued e st.entries
    most e = least (queued e st.entries) (max (producer.progress st e).demand (confirmed e st.entries + 1))

    to_push : (e : List ℕ) → list_all (is_queued_number e st) (producer.to_push e st) ≡ true
    to_push e =
        let up : 0 < max (producer.progress st e).sent (confirmed e st.entries) + 1 = grind (arith) in
        all_from_to (max (producer.progress st e).sent (confirmed e st.entries) + 1) (producer.allowed e st) (queued e st.entries) up (most e)

    to_resend : (e : List ℕ) (f : ℕ) → list_all (is_queued_number e st) (producer.to_resend e f st) ≡ true
    to_resend e f = all_from_to (max f (confirmed e st.entries + 1)) (producer.allowed e st) (queued e st.entries) (after_one f (confirmed e st.entries)) (most e)

    to_repeat : (e : List ℕ) → list_all (is_queued_number e st) (producer.to_repeat e st) ≡ true
    to_repeat e = repeat_queued (confirmed e st.entries) (queued e st.entries) (nat_lt (confirmed e st.entries) (queued e st.entries)) refl

-- The beginning.

replicate_length : {X : Type 0} (n : ℕ) (x : X) → length (replicate n x) ≡ n
replicate_length zero x = refl
replicate_length (suc n) x = ap suc (replicate_length n x)

pub producer_begins : ProducerBegins
producer_begins c who p list here number own_is held = record {
  who_is = here;
  set_is = refl;
  number_is = number;
  own_is = own_is;
  held_is = held;
  pairs_full = replicate_length (length (setting c).names) producer.no_progress;
}

pub producer_is_granted : ((a b : Slot) → IsTrue (is_slot a b) ↔ (a ≡ b)) → ProducerIsGranted
producer_is_granted same c who p list here number own_is none = record {
  follows = follows;
  stands = producer_begins c who p (list ++ f ∷ []) here number (own_more c (slot.Queue p) list f own_is follows) (holder_more list f);
}
  where
    f : Fact
    f = fact.Granted (slot.Queue p) (epoch list + 1) who

    follows : may_follow c (slot.Queue p) list f ≡ true
    follows =
        both (not (is_held list) && (epoch list + 1 == epoch list + 1)) (is_slot (slot.Queue p) (slot.Queue p) && is_node c who)
        (both (not (is_held list)) (epoch list + 1 == epoch list + 1) (ap (λ o. not (is_some o)) none) (number_itself (epoch list + 1) (epoch list + 1) refl))
        (both (is_slot (slot.Queue p) (slot.Queue p)) (is_node c who) ((same (slot.Queue p) (slot.Queue p)).1 refl) here)
