-- The lines of facts whose names are names: each is one line, and not too long.
use Rattle.std.proofs.Common.{◌≡◌, ◌<◌, ◌≤◌, ℕ, zero, suc, ◌+◌, ◌/◌, ◌%◌, sym, ap, ◌∙◌, refl, arith}
use Rattle.std.specs.Prelude.{Bool, true, false, ◌==◌, nat_le, nat_lt, not, cond, List, [], ◌∷◌, ◌++◌, length, map, codes, decimal}
use Rattle.std.specs.List.{join_with_byte, list_all}
use Rattle.std.specs.Fmt.{digits, digits_onto, digit_glyph}
use Rattle.std.proofs.lemmas.List.{length-append}
use Rattle.plain_laws.proofs.Booleans.{all_map, and_both, at_most, below, both, same_number, true_is_not_false}
use Rattle.plain_laws.proofs.Lists.{all_join}
use Rattle.yard_model.specs.declared.fact.Fact.{Fact}
use Rattle.yard_model.specs.declared.fact.Fact.TheVariants as fact
use Rattle.yard_model.specs.declared.packet.Body.{Body}
use Rattle.yard_model.specs.declared.packet.Body.TheVariants as body
use Rattle.yard_model.specs.declared.event.Command.{Command}
use Rattle.yard_model.specs.declared.event.Command.TheVariants as command
use Rattle.yard_model.specs.declared.event.Event.{Event}
use Rattle.yard_model.specs.declared.event.Event.TheVariants as event
use Rattle.yard_model.specs.declared.event.Reply.{Reply}
use Rattle.yard_model.specs.declared.event.Reply.TheVariants as reply
use Rattle.yard_model.specs.declared.state.State.{State}
use Rattle.yard_model.specs.declared.state.State.TheVariants as state
use Rattle.yard_model.specs.declared.state.CartItem.{CartItem}
use Rattle.yard_model.specs.declared.incarnation.Cause.{Cause}
use Rattle.yard_model.specs.declared.incarnation.Cause.TheVariants as cause
use Rattle.yard_model.specs.declared.incarnation.Incarnation.{Incarnation}
use Rattle.yard_model.specs.declared.incarnation.Keep.{Keep}
use Rattle.yard_model.specs.declared.incarnation.Keep.TheVariants as keep
use Rattle.yard_model.specs.declared.incarnation.Slot.{Slot}
use Rattle.yard_model.specs.declared.incarnation.Slot.TheVariants as slots
use Rattle.yard_model.specs.declared.incarnation.Stamp.{Stamp}
use Rattle.yard_model.specs.Behaviour.{is_in}
use Rattle.yard_model.specs.Name.{is_name_byte}
use Rattle.yard_model.specs.Text.{body_words, cause_text, command_text, event_text, events_text, fact_line, fact_words, incarnation_text, item_text, items_text, keep_text, reply_text, slot_text, stamp_text, state_text, words}
use Rattle.fact_lines.specs.Readable.{IsEntity}
use Rattle.state_lines.specs.Told.{FitsState}
use Rattle.verdict_laws.specs.Lines.{is_lf, is_long}
use Rattle.judged_replays.specs.Replayed.{FitsBody, IsHeard}

-- no line ends within these bytes
abbrev pub is_one : List ℕ → Bool
is_one bytes = list_all (λ b. not (is_lf b)) bytes

-- and there are at most so many
abbrev pub Small : ℕ → List ℕ → Type 0
Small n w = (is_one w ≡ true) × (length w ≤ n)

wide : (n m : ℕ) (w : List ℕ) → n ≤ m → Small n w → Small m w
wide n m w l h = (h.0, omega (arith, l, h.1))

cons : (n b : ℕ) (w : List ℕ) → not (is_lf b) ≡ true → Small n w → Small (n + 1) (b ∷ w)
cons n b w h k = (both (not (is_lf b)) (is_one w) h k.0, omega (arith, k.1))

app : (n m : ℕ) (u v : List ℕ) → Small n u → Small m v → Small (n + m) (u ++ v)
app n m u v h k = (all_join (λ b. not (is_lf b)) u v h.0 k.0, omega (arith, length-append u v, h.1, k.1))

either : (n : ℕ) (b : Bool) (u v : List ℕ) → Small n u → Small n v → Small n (cond b u v)
either n true u v h k = h
either n false u v h k = k

-- Numbers and names.

other : (b : ℕ) → 10 < b → not (is_lf b) ≡ true
other b l = by (b == 10) refl
  where
    by : (d : Bool) → (b == 10) ≡ d → not d ≡ true
    by true e = absurd (omega (arith, same_number b 10 e, l))
    by false e = refl

glyph : (d : ℕ) → not (is_lf (digit_glyph false d)) ≡ true
glyph d = by (nat_lt d 10)
  where
    by : (b : Bool) → not (is_lf (cond b (48 + d) (87 + d))) ≡ true
    by true = other (48 + d) (omega arith)
    by false = other (87 + d) (omega arith)

onto : (k n m : ℕ) (acc : List ℕ) → Small m acc → Small (k + m) (digits_onto k 10 false n acc)
onto zero n m acc h = wide m (0 + m) acc (omega arith) h
onto (suc k) n m acc h =
    let d : ℕ = digit_glyph false (n % 10) in
    let more : Small (m + 1) (d ∷ acc) = cons m d acc (glyph (n % 10)) h in
    either (suc k + m) (n / 10 == 0) (d ∷ acc) (digits_onto k 10 false (n / 10) (d ∷ acc)) (wide (m + 1) (suc k + m) (d ∷ acc) (omega arith) more)
    (wide (k + (m + 1)) (suc k + m) (digits_onto k 10 false (n / 10) (d ∷ acc)) (omega arith) (onto k (n / 10) (m + 1) (d ∷ acc) more))

number : (n : ℕ) → Small 64 (decimal n)
unfolding digits
number n = onto 64 n 0 [] (refl, omega arith)

name : (e : List ℕ) → IsEntity e → Small 32 e
name e h =
    let k = and_both (is_in 1 32 (length e)) (list_all is_name_byte e) h in
    (all_map is_name_byte (λ b. not (is_lf b)) byte e k.1, at_most (length e) 32 (and_both (nat_le 1 (length e)) (nat_le (length e) 32) k.0).1)
  where
    byte : (b : ℕ) → is_name_byte b ≡ true → not (is_lf b) ≡ true
    byte b h = by (b == 10) refl
      where
        by : (d : Bool) → (b == 10) ≡ d → not d ≡ true
        by true e = absurd (true_is_not_false (sym h ∙ ap is_name_byte (same_number b 10 e)))
        by false e = refl

-- Words.

abbrev Sizes : List ℕ → List (List ℕ) → Type 0
Sizes [] [] = Unit {0}
Sizes [] (w ∷ ws) = ⊥
Sizes (n ∷ ns) [] = ⊥
Sizes (n ∷ ns) (w ∷ ws) = Small n w × Sizes ns ws

abbrev total : List ℕ → ℕ
total [] = 0
total (n ∷ ns) = n + 1 + total ns

words_small : (ns : List ℕ) (ws : List (List ℕ)) → Sizes ns ws → Small (total ns) (words ws)
words_small [] [] k = (refl, omega arith)
words_small [] (w ∷ ws) k = absurd k
words_small (n ∷ ns) [] k = absurd k
words_small (n ∷ []) (w ∷ []) k = wide n (n + 1 + 0) w (omega arith) k.0
words_small (n ∷ []) (w ∷ v ∷ ws) k = absurd k.1
words_small (n ∷ m ∷ ns) (w ∷ []) k = absurd k.1
words_small (n ∷ m ∷ ns) (w ∷ v ∷ ws) k =
    let rest : Small (total (m ∷ ns) + 1) (32 ∷ words (v ∷ ws)) = cons (total (m ∷ ns)) 32 (words (v ∷ ws)) refl (words_small (m ∷ ns) (v ∷ ws) k.1) in
    wide (n + (total (m ∷ ns) + 1)) (n + 1 + total (m ∷ ns)) (w ++ (32 ∷ words (v ∷ ws))) (omega arith) (app n (total (m ∷ ns) + 1) w (32 ∷ words (v ∷ ws)) k.0 rest)

fit : (top : ℕ) (ns : List ℕ) (ws : List (List ℕ)) → Sizes ns ws → total ns ≤ top → Small top (words ws)
fit top ns ws k l = wide (total ns) top (words ws) l (words_small ns ws k)

-- Values.

who : (x : Incarnation) → Small 129 (incarnation_text x)
who x = app 64 65 (decimal x.node) (46 ∷ decimal x.number) (number x.node) (cons 64 46 (decimal x.number) refl (number x.number))

stamp : (s : Stamp) → Small 129 (stamp_text s)
stamp s = app 64 65 (decimal s.epoch) (47 ∷ decimal s.round) (number s.epoch) (cons 64 47 (decimal s.round) refl (number s.round))

slot : (s : Slot) → Small 80 (slot_text s)
slot (slots.Shard s) = app 16 64 (codes "shard:") (decimal s) (refl, omega arith) (number s)
slot slots.Coordinator = (refl, omega arith)
slot (slots.Queue p) = app 16 64 (codes "queue:") (decimal p) (refl, omega arith) (number p)

cause_small : (w : Cause) → Small 20 (cause_text w)
cause_small cause.Released = (refl, omega arith)
cause_small cause.Stopped = (refl, omega arith)

keep_small : (k : Keep) → Small 20 (keep_text k)
keep_small keep.Kept = (refl, omega arith)
keep_small keep.Lost = (refl, omega arith)

with_number : (w : List ℕ) (n : ℕ) → Small 20 w → Small 160 (words (w ∷ decimal n ∷ []))
with_number w n h = fit 160 (20 ∷ 64 ∷ []) (w ∷ decimal n ∷ []) (h, (number n, tt)) (omega arith)

with_numbers : (w : List ℕ) (n m : ℕ) → Small 20 w → Small 160 (words (w ∷ decimal n ∷ decimal m ∷ []))
with_numbers w n m h = fit 160 (20 ∷ 64 ∷ 64 ∷ []) (w ∷ decimal n ∷ decimal m ∷ []) (h, (number n, (number m, tt))) (omega arith)

with_memo : (w : List ℕ) (n m : ℕ) → Small 20 w → Small 180 (words (w ∷ decimal n ∷ codes "memo" ∷ decimal m ∷ []))
with_memo w n m h = fit 180 (20 ∷ 64 ∷ 20 ∷ 64 ∷ []) (w ∷ decimal n ∷ codes "memo" ∷ decimal m ∷ []) (h, (number n, ((refl, omega arith), (number m, tt)))) (omega arith)

command_small : (k : Command) → Small 160 (command_text k)
command_small (command.Add k) = with_number (codes "add") k (refl, omega arith)
command_small command.Read = (refl, omega arith)
command_small command.Create = (refl, omega arith)
command_small (command.Deposit k) = with_number (codes "deposit") k (refl, omega arith)
command_small (command.Withdraw k) = with_number (codes "withdraw") k (refl, omega arith)
command_small (command.DepositWithMemo m k) = with_numbers (codes "deposit") k m (refl, omega arith)
command_small (command.WithdrawWithMemo m k) = with_numbers (codes "withdraw") k m (refl, omega arith)
command_small command.Balance = (refl, omega arith)
command_small command.Close = (refl, omega arith)
command_small (command.AddItem x) = with_numbers (codes "add") x.item x.quantity (refl, omega arith)
command_small (command.RemoveItem i) = with_number (codes "remove") i (refl, omega arith)
command_small (command.AdjustItem x) = with_numbers (codes "adjust") x.item x.quantity (refl, omega arith)
command_small command.Checkout = (refl, omega arith)

event_small : (e : Event) → Small 180 (event_text e)
event_small (event.Added k) = wide 160 180 (event_text (event.Added k)) (omega arith) (with_number (codes "added") k (refl, omega arith))
event_small event.Created = (refl, omega arith)
event_small (event.Deposited k) = wide 160 180 (event_text (event.Deposited k)) (omega arith) (with_number (codes "deposited") k (refl, omega arith))
event_small (event.Withdrawn k) = wide 160 180 (event_text (event.Withdrawn k)) (omega arith) (with_number (codes "withdrawn") k (refl, omega arith))
event_small (event.DepositedWithMemo m k) = with_memo (codes "deposited") k m (refl, omega arith)
event_small (event.WithdrawnWithMemo m k) = with_memo (codes "withdrawn") k m (refl, omega arith)
event_small event.AccountClosed = (refl, omega arith)
event_small (event.ItemAdded x) = wide 160 180 (event_text (event.ItemAdded x)) (omega arith) (with_numbers (codes "added") x.item x.quantity (refl, omega arith))
event_small (event.ItemRemoved i) = wide 160 180 (event_text (event.ItemRemoved i)) (omega arith) (with_number (codes "removed") i (refl, omega arith))
event_small (event.ItemAdjusted x) = wide 160 180 (event_text (event.ItemAdjusted x)) (omega arith) (with_numbers (codes "adjusted") x.item x.quantity (refl, omega arith))
event_small event.CheckedOut = (refl, omega arith)

-- room for so many events
abbrev event_room : ℕ → ℕ
event_room zero = 1
event_room (suc n) = 190 + event_room n

some_left : (n k : ℕ) → suc n ≤ suc k → n ≤ k
some_left n k h = omega (arith, h)

events_small : (n : ℕ) (es : List Event) → length es ≤ n → Small (event_room n) (events_text es)
events_small n [] h = wide 1 (event_room n) (codes "-") (at_least n) (refl, omega arith)
  where
    at_least : (n : ℕ) → 1 ≤ event_room n
    at_least zero = omega arith
    at_least (suc n) = omega arith
events_small zero (e ∷ es) h = absurd (omega (arith, h))
events_small (suc n) (e ∷ []) h = wide 180 (event_room (suc n)) (event_text e) (omega arith) (event_small e)
events_small (suc n) (e ∷ f ∷ es) h =
    wide (180 + 2 + event_room n) (event_room (suc n)) (events_text (e ∷ f ∷ es)) (omega arith)
    (app (180 + 2) (event_room n) (event_text e ++ codes ", ") (events_text (f ∷ es)) (app 180 2 (event_text e) (codes ", ") (event_small e) (refl, omega arith)) (events_small n (f ∷ es) (some_left (length (f ∷ es)) n h)))

reply_small : (x : Reply) → Small 160 (reply_text x)
reply_small (reply.Value v) = with_number (codes "ok") v (refl, omega arith)
reply_small (reply.Rejected r) = with_number (codes "no") r (refl, omega arith)

-- room for so many items, or members
abbrev row_room : ℕ → ℕ
row_room zero = 1
row_room (suc n) = 130 + row_room n

row_small : {X : Type 0} (f : X → List ℕ) → ((x : X) → Small 129 (f x)) → (n : ℕ) (xs : List X) → length xs ≤ n → Small (row_room n) (join_with_byte 44 (map f xs))
row_small f each n [] h = (refl, omega arith)
row_small f each zero (x ∷ xs) h = absurd (omega (arith, h))
row_small f each (suc n) (x ∷ []) h = wide 129 (row_room (suc n)) (f x) (omega arith) (each x)
row_small f each (suc n) (x ∷ y ∷ ys) h =
    let rest : Small (row_room n + 1) (44 ∷ join_with_byte 44 (map f (y ∷ ys))) = cons (row_room n) 44 (join_with_byte 44 (map f (y ∷ ys))) refl (row_small f each n (y ∷ ys) (some_left (length (y ∷ ys)) n h)) in
    wide (129 + (row_room n + 1)) (row_room (suc n)) (f x ++ (44 ∷ join_with_byte 44 (map f (y ∷ ys)))) (omega arith) (app 129 (row_room n + 1) (f x) (44 ∷ join_with_byte 44 (map f (y ∷ ys))) (each x) rest)

item_small : (x : CartItem) → Small 129 (item_text x)
item_small x = app 64 65 (decimal x.item) (58 ∷ decimal x.quantity) (number x.item) (cons 64 58 (decimal x.quantity) refl (number x.quantity))

items_small : (xs : List CartItem) → length xs ≤ 16 → Small 2100 (items_text xs)
items_small [] h = (refl, omega arith)
items_small (x ∷ xs) h = wide (row_room 16) 2100 (items_text (x ∷ xs)) (omega arith) (row_small item_text item_small 16 (x ∷ xs) h)

open_small : (b m : ℕ) (is_none : Bool) → Small 2200 (words (codes "open" ∷ decimal b ∷ cond is_none [] (codes "memo" ∷ decimal m ∷ [])))
open_small b m true = wide 160 2200 (words (codes "open" ∷ decimal b ∷ [])) (omega arith) (with_number (codes "open") b (refl, omega arith))
open_small b m false = wide 180 2200 (words (codes "open" ∷ decimal b ∷ codes "memo" ∷ decimal m ∷ [])) (omega arith) (with_memo (codes "open") b m (refl, omega arith))

cart_small : (out : Bool) (xs : List CartItem) → length xs ≤ 16 → Small 2200 (words (cond out (codes "out") (codes "open") ∷ items_text xs ∷ []))
cart_small true xs h = fit 2200 (20 ∷ 2100 ∷ []) (codes "out" ∷ items_text xs ∷ []) ((refl, omega arith), (items_small xs h, tt)) (omega arith)
cart_small false xs h = fit 2200 (20 ∷ 2100 ∷ []) (codes "open" ∷ items_text xs ∷ []) ((refl, omega arith), (items_small xs h, tt)) (omega arith)

state_small : (st : State) → FitsState st → Small 2200 (state_text st)
state_small (state.Counter n) h = wide 64 2200 (decimal n) (omega arith) (number n)
state_small state.NoAccount h = (refl, omega arith)
state_small (state.Open b m) h = open_small b m (m == 0)
state_small state.Closed h = (refl, omega arith)
state_small (state.Cart out xs) h = cart_small out xs h.0

-- Packets.

sent_small : (k : ℕ) (from to : Incarnation) (b : Body) → FitsBody b → Small 4095 (words (codes "sent" ∷ decimal k ∷ incarnation_text from ∷ incarnation_text to ∷ body_words b))
sent_small k from to (body.View v ms) h = fit 4095 (20 ∷ 64 ∷ 129 ∷ 129 ∷ 20 ∷ 64 ∷ row_room 16 ∷ []) (codes "sent" ∷ decimal k ∷ incarnation_text from ∷ incarnation_text to ∷ body_words (body.View v ms)) ((refl, omega arith), ((number k), ((who from), ((who to), ((refl, omega arith), ((number v), ((row_small incarnation_text who 16 ms h), tt))))))) (omega arith)
sent_small k from to body.Register h = fit 4095 (20 ∷ 64 ∷ 129 ∷ 129 ∷ 20 ∷ []) (codes "sent" ∷ decimal k ∷ incarnation_text from ∷ incarnation_text to ∷ body_words body.Register) ((refl, omega arith), ((number k), ((who from), ((who to), ((refl, omega arith), tt))))) (omega arith)
sent_small k from to body.RegisterAck h = fit 4095 (20 ∷ 64 ∷ 129 ∷ 129 ∷ 20 ∷ []) (codes "sent" ∷ decimal k ∷ incarnation_text from ∷ incarnation_text to ∷ body_words body.RegisterAck) ((refl, omega arith), ((number k), ((who from), ((who to), ((refl, omega arith), tt))))) (omega arith)
sent_small k from to (body.GetShardHome s) h = fit 4095 (20 ∷ 64 ∷ 129 ∷ 129 ∷ 20 ∷ 64 ∷ []) (codes "sent" ∷ decimal k ∷ incarnation_text from ∷ incarnation_text to ∷ body_words (body.GetShardHome s)) ((refl, omega arith), ((number k), ((who from), ((who to), ((refl, omega arith), ((number s), tt)))))) (omega arith)
sent_small k from to (body.ShardHome s x st) h = fit 4095 (20 ∷ 64 ∷ 129 ∷ 129 ∷ 20 ∷ 64 ∷ 129 ∷ 129 ∷ []) (codes "sent" ∷ decimal k ∷ incarnation_text from ∷ incarnation_text to ∷ body_words (body.ShardHome s x st)) ((refl, omega arith), ((number k), ((who from), ((who to), ((refl, omega arith), ((number s), ((who x), ((stamp st), tt)))))))) (omega arith)
sent_small k from to (body.HostShard s st) h = fit 4095 (20 ∷ 64 ∷ 129 ∷ 129 ∷ 20 ∷ 64 ∷ 129 ∷ []) (codes "sent" ∷ decimal k ∷ incarnation_text from ∷ incarnation_text to ∷ body_words (body.HostShard s st)) ((refl, omega arith), ((number k), ((who from), ((who to), ((refl, omega arith), ((number s), ((stamp st), tt))))))) (omega arith)
sent_small k from to (body.ShardStarted s) h = fit 4095 (20 ∷ 64 ∷ 129 ∷ 129 ∷ 20 ∷ 64 ∷ []) (codes "sent" ∷ decimal k ∷ incarnation_text from ∷ incarnation_text to ∷ body_words (body.ShardStarted s)) ((refl, omega arith), ((number k), ((who from), ((who to), ((refl, omega arith), ((number s), tt)))))) (omega arith)
sent_small k from to (body.BeginHandOff s st) h = fit 4095 (20 ∷ 64 ∷ 129 ∷ 129 ∷ 20 ∷ 64 ∷ 129 ∷ []) (codes "sent" ∷ decimal k ∷ incarnation_text from ∷ incarnation_text to ∷ body_words (body.BeginHandOff s st)) ((refl, omega arith), ((number k), ((who from), ((who to), ((refl, omega arith), ((number s), ((stamp st), tt))))))) (omega arith)
sent_small k from to (body.BeginHandOffAck s st) h = fit 4095 (20 ∷ 64 ∷ 129 ∷ 129 ∷ 20 ∷ 64 ∷ 129 ∷ []) (codes "sent" ∷ decimal k ∷ incarnation_text from ∷ incarnation_text to ∷ body_words (body.BeginHandOffAck s st)) ((refl, omega arith), ((number k), ((who from), ((who to), ((refl, omega arith), ((number s), ((stamp st), tt))))))) (omega arith)
sent_small k from to (body.HandOff s st) h = fit 4095 (20 ∷ 64 ∷ 129 ∷ 129 ∷ 20 ∷ 64 ∷ 129 ∷ []) (codes "sent" ∷ decimal k ∷ incarnation_text from ∷ incarnation_text to ∷ body_words (body.HandOff s st)) ((refl, omega arith), ((number k), ((who from), ((who to), ((refl, omega arith), ((number s), ((stamp st), tt))))))) (omega arith)
sent_small k from to (body.ShardStopped s st) h = fit 4095 (20 ∷ 64 ∷ 129 ∷ 129 ∷ 20 ∷ 64 ∷ 129 ∷ []) (codes "sent" ∷ decimal k ∷ incarnation_text from ∷ incarnation_text to ∷ body_words (body.ShardStopped s st)) ((refl, omega arith), ((number k), ((who from), ((who to), ((refl, omega arith), ((number s), ((stamp st), tt))))))) (omega arith)
sent_small k from to body.GracefulShutdownReq h = fit 4095 (20 ∷ 64 ∷ 129 ∷ 129 ∷ 20 ∷ []) (codes "sent" ∷ decimal k ∷ incarnation_text from ∷ incarnation_text to ∷ body_words body.GracefulShutdownReq) ((refl, omega arith), ((number k), ((who from), ((who to), ((refl, omega arith), tt))))) (omega arith)
sent_small k from to (body.StopEntity e) h = fit 4095 (20 ∷ 64 ∷ 129 ∷ 129 ∷ 20 ∷ 32 ∷ []) (codes "sent" ∷ decimal k ∷ incarnation_text from ∷ incarnation_text to ∷ body_words (body.StopEntity e)) ((refl, omega arith), ((number k), ((who from), ((who to), ((refl, omega arith), ((name e h), tt)))))) (omega arith)
sent_small k from to (body.Recovered e) h = fit 4095 (20 ∷ 64 ∷ 129 ∷ 129 ∷ 20 ∷ 32 ∷ []) (codes "sent" ∷ decimal k ∷ incarnation_text from ∷ incarnation_text to ∷ body_words (body.Recovered e)) ((refl, omega arith), ((number k), ((who from), ((who to), ((refl, omega arith), ((name e h), tt)))))) (omega arith)
sent_small k from to (body.Passivate e) h = fit 4095 (20 ∷ 64 ∷ 129 ∷ 129 ∷ 20 ∷ 32 ∷ []) (codes "sent" ∷ decimal k ∷ incarnation_text from ∷ incarnation_text to ∷ body_words (body.Passivate e)) ((refl, omega arith), ((number k), ((who from), ((who to), ((refl, omega arith), ((name e h), tt)))))) (omega arith)
sent_small k from to (body.Sequenced m) h = fit 4095 (20 ∷ 64 ∷ 129 ∷ 129 ∷ 20 ∷ 64 ∷ 32 ∷ 64 ∷ 129 ∷ 160 ∷ []) (codes "sent" ∷ decimal k ∷ incarnation_text from ∷ incarnation_text to ∷ body_words (body.Sequenced m)) ((refl, omega arith), ((number k), ((who from), ((who to), ((refl, omega arith), ((number m.producer), ((name m.entity h), ((number m.number), ((who m.origin), ((command_small m.command), tt)))))))))) (omega arith)
sent_small k from to (body.Request p e n u) h = fit 4095 (20 ∷ 64 ∷ 129 ∷ 129 ∷ 20 ∷ 64 ∷ 32 ∷ 64 ∷ 64 ∷ []) (codes "sent" ∷ decimal k ∷ incarnation_text from ∷ incarnation_text to ∷ body_words (body.Request p e n u)) ((refl, omega arith), ((number k), ((who from), ((who to), ((refl, omega arith), ((number p), ((name e h), ((number n), ((number u), tt))))))))) (omega arith)
sent_small k from to (body.Resend p e n) h = fit 4095 (20 ∷ 64 ∷ 129 ∷ 129 ∷ 20 ∷ 64 ∷ 32 ∷ 64 ∷ []) (codes "sent" ∷ decimal k ∷ incarnation_text from ∷ incarnation_text to ∷ body_words (body.Resend p e n)) ((refl, omega arith), ((number k), ((who from), ((who to), ((refl, omega arith), ((number p), ((name e h), ((number n), tt)))))))) (omega arith)
sent_small k from to (body.Ack p e n) h = fit 4095 (20 ∷ 64 ∷ 129 ∷ 129 ∷ 20 ∷ 64 ∷ 32 ∷ 64 ∷ []) (codes "sent" ∷ decimal k ∷ incarnation_text from ∷ incarnation_text to ∷ body_words (body.Ack p e n)) ((refl, omega arith), ((number k), ((who from), ((who to), ((refl, omega arith), ((number p), ((name e h), ((number n), tt)))))))) (omega arith)

-- Facts.

pub line_small : (f : Fact) → IsHeard f → Small 4095 (words (fact_words f))
line_small (fact.At n) h = fit 4095 (20 ∷ 64 ∷ []) (fact_words (fact.At n)) ((refl, omega arith), ((number n), tt)) (omega arith)
line_small fact.Nothing h = fit 4095 (20 ∷ []) (fact_words fact.Nothing) ((refl, omega arith), tt) (omega arith)
line_small fact.WireFull h = fit 4095 (20 ∷ []) (fact_words fact.WireFull) ((refl, omega arith), tt) (omega arith)
line_small fact.Settled h = fit 4095 (20 ∷ []) (fact_words fact.Settled) ((refl, omega arith), tt) (omega arith)
line_small (fact.Up x) h = fit 4095 (20 ∷ 129 ∷ []) (fact_words (fact.Up x)) ((refl, omega arith), ((who x), tt)) (omega arith)
line_small (fact.Gone x) h = fit 4095 (20 ∷ 129 ∷ []) (fact_words (fact.Gone x)) ((refl, omega arith), ((who x), tt)) (omega arith)
line_small (fact.View x v) h = fit 4095 (20 ∷ 129 ∷ 64 ∷ []) (fact_words (fact.View x v)) ((refl, omega arith), ((who x), ((number v), tt))) (omega arith)
line_small (fact.Sent k p) h = sent_small k p.from p.to p.body h
line_small (fact.Got k) h = fit 4095 (20 ∷ 64 ∷ []) (fact_words (fact.Got k)) ((refl, omega arith), ((number k), tt)) (omega arith)
line_small (fact.Granted s n x) h = fit 4095 (20 ∷ 80 ∷ 64 ∷ 129 ∷ []) (fact_words (fact.Granted s n x)) ((refl, omega arith), ((slot s), ((number n), ((who x), tt)))) (omega arith)
line_small (fact.Freed s n w) h = fit 4095 (20 ∷ 80 ∷ 64 ∷ 20 ∷ []) (fact_words (fact.Freed s n w)) ((refl, omega arith), ((slot s), ((number n), ((cause_small w), tt)))) (omega arith)
line_small (fact.Held s x n) h = fit 4095 (20 ∷ 80 ∷ 129 ∷ 20 ∷ 64 ∷ []) (fact_words (fact.Held s x n)) ((refl, omega arith), ((slot s), ((who x), ((refl, omega arith), ((number n), tt))))) (omega arith)
line_small (fact.Registered x) h = fit 4095 (20 ∷ 129 ∷ []) (fact_words (fact.Registered x)) ((refl, omega arith), ((who x), tt)) (omega arith)
line_small (fact.Terminated x) h = fit 4095 (20 ∷ 129 ∷ []) (fact_words (fact.Terminated x)) ((refl, omega arith), ((who x), tt)) (omega arith)
line_small (fact.Allocated s x) h = fit 4095 (20 ∷ 64 ∷ 129 ∷ []) (fact_words (fact.Allocated s x)) ((refl, omega arith), ((number s), ((who x), tt))) (omega arith)
line_small (fact.Deallocated s) h = fit 4095 (20 ∷ 64 ∷ []) (fact_words (fact.Deallocated s)) ((refl, omega arith), ((number s), tt)) (omega arith)
line_small (fact.Moving s st) h = fit 4095 (20 ∷ 64 ∷ 129 ∷ []) (fact_words (fact.Moving s st)) ((refl, omega arith), ((number s), ((stamp st), tt))) (omega arith)
line_small (fact.Home x s y) h = fit 4095 (20 ∷ 129 ∷ 64 ∷ 129 ∷ []) (fact_words (fact.Home x s y)) ((refl, omega arith), ((who x), ((number s), ((who y), tt)))) (omega arith)
line_small (fact.Forget x s) h = fit 4095 (20 ∷ 129 ∷ 64 ∷ []) (fact_words (fact.Forget x s)) ((refl, omega arith), ((who x), ((number s), tt))) (omega arith)
line_small (fact.Kept x m) h = fit 4095 (20 ∷ 129 ∷ 64 ∷ 32 ∷ 64 ∷ []) (fact_words (fact.Kept x m)) ((refl, omega arith), ((who x), ((number m.producer), ((name m.entity h), ((number m.number), tt))))) (omega arith)
line_small (fact.Dropped x m) h = fit 4095 (20 ∷ 129 ∷ 64 ∷ 32 ∷ 64 ∷ []) (fact_words (fact.Dropped x m)) ((refl, omega arith), ((who x), ((number m.producer), ((name m.entity h), ((number m.number), tt))))) (omega arith)
line_small (fact.Stashed x m) h = fit 4095 (20 ∷ 129 ∷ 64 ∷ 32 ∷ 64 ∷ []) (fact_words (fact.Stashed x m)) ((refl, omega arith), ((who x), ((number m.producer), ((name m.entity h), ((number m.number), tt))))) (omega arith)
line_small (fact.Start x e) h = fit 4095 (20 ∷ 129 ∷ 32 ∷ []) (fact_words (fact.Start x e)) ((refl, omega arith), ((who x), ((name e h.1), tt))) (omega arith)
line_small (fact.Active x e n st) h = fit 4095 (20 ∷ 129 ∷ 32 ∷ 64 ∷ 2200 ∷ []) (fact_words (fact.Active x e n st)) ((refl, omega arith), ((who x), ((name e h.1), ((number n), ((state_small st h.3), tt))))) (omega arith)
line_small (fact.Stop x e) h = fit 4095 (20 ∷ 129 ∷ 32 ∷ []) (fact_words (fact.Stop x e)) ((refl, omega arith), ((who x), ((name e h.1), tt))) (omega arith)
line_small (fact.WriteFailed x e) h = fit 4095 (20 ∷ 129 ∷ 32 ∷ []) (fact_words (fact.WriteFailed x e)) ((refl, omega arith), ((who x), ((name e h.1), tt))) (omega arith)
line_small (fact.Armed e k) h = fit 4095 (20 ∷ 32 ∷ 20 ∷ []) (fact_words (fact.Armed e k)) ((refl, omega arith), ((name e h), ((keep_small k), tt))) (omega arith)
line_small (fact.Wrote e r) h = fit 4095 (20 ∷ 32 ∷ 64 ∷ 20 ∷ 64 ∷ 20 ∷ 129 ∷ 160 ∷ 20 ∷ event_room 4 ∷ 20 ∷ 160 ∷ []) (fact_words (fact.Wrote e r)) ((refl, omega arith), ((name e h.0), ((number r.number), ((refl, omega arith), ((number r.epoch), ((refl, omega arith), ((app 64 65 (decimal r.producer) (58 ∷ decimal r.place) (number r.producer) (cons 64 58 (decimal r.place) refl (number r.place))), ((command_small r.command), ((refl, omega arith), ((events_small 4 r.events h.1.few), ((refl, omega arith), ((reply_small r.reply), tt)))))))))))) (omega arith)
line_small (fact.Snapshot e n) h = fit 4095 (20 ∷ 32 ∷ 64 ∷ []) (fact_words (fact.Snapshot e n)) ((refl, omega arith), ((name e h.0), ((number n), tt))) (omega arith)
line_small (fact.Remembered e) h = fit 4095 (20 ∷ 32 ∷ []) (fact_words (fact.Remembered e)) ((refl, omega arith), ((name e h), tt)) (omega arith)
line_small (fact.Forgotten e) h = fit 4095 (20 ∷ 32 ∷ []) (fact_words (fact.Forgotten e)) ((refl, omega arith), ((name e h), tt)) (omega arith)
line_small (fact.Waits p e k) h = fit 4095 (20 ∷ 64 ∷ 32 ∷ 160 ∷ []) (fact_words (fact.Waits p e k)) ((refl, omega arith), ((number p), ((name e h), ((command_small k), tt)))) (omega arith)
line_small (fact.Queued p e n k) h = fit 4095 (20 ∷ 64 ∷ 32 ∷ 64 ∷ 160 ∷ []) (fact_words (fact.Queued p e n k)) ((refl, omega arith), ((number p), ((name e h.1), ((number n), ((command_small k), tt))))) (omega arith)
line_small (fact.Confirmed p e n) h = fit 4095 (20 ∷ 64 ∷ 32 ∷ 64 ∷ []) (fact_words (fact.Confirmed p e n)) ((refl, omega arith), ((number p), ((name e h.1), ((number n), tt)))) (omega arith)
line_small (fact.Reshard n k) h = fit 4095 (20 ∷ 64 ∷ 64 ∷ []) (fact_words (fact.Reshard n k)) ((refl, omega arith), ((number n), ((number k), tt))) (omega arith)
line_small (fact.Upgrade v) h = fit 4095 (20 ∷ 64 ∷ []) (fact_words (fact.Upgrade v)) ((refl, omega arith), ((number v), tt)) (omega arith)
line_small f h = absurd h

pub is_short : (f : Fact) → IsHeard f → is_long (fact_line f) ≡ false
is_short f h = by (is_long (fact_line f)) refl
  where
    size : length (fact_line f) ≡ length (words (fact_words f)) + 1
    size = length-append (words (fact_words f)) (10 ∷ [])

    by : (b : Bool) → is_long (fact_line f) ≡ b → b ≡ false
    by true e = absurd (omega (arith, below 4096 (length (fact_line f)) e, size, (line_small f h).1))
    by false e = refl
