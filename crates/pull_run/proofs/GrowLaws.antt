-- What is told stays told: each step only adds facts.
use Rattle.std.proofs.Common.{◌≡◌, ℕ, zero, suc, ◌+◌, sym, ap, ◌∙◌, refl, length}
use Rattle.std.specs.Prelude.{Bool, true, false, nat_le, not, ◌&&◌, List, [], ◌∷◌, ◌++◌, take, Option, if◌then◌else◌}
use Rattle.std.proofs.lemmas.List.{append-nil, append_assoc}
use Rattle.yard_model.specs.declared.charter.Line.{Line}
use Rattle.yard_model.specs.declared.charter.Order.{Order}
use Rattle.yard_model.specs.declared.charter.Order.TheVariants as order
use Rattle.yard_model.specs.declared.event.Command.{Command}
use Rattle.yard_model.specs.declared.fact.Fact.{Fact}
use Rattle.yard_model.specs.declared.fact.Fact.TheVariants as fact
use Rattle.yard_model.specs.declared.incarnation.Cause.TheVariants as cause
use Rattle.yard_model.specs.declared.incarnation.Incarnation.{Incarnation}
use Rattle.yard_model.specs.declared.incarnation.Slot.TheVariants as slot
use Rattle.yard_model.specs.SlotReads.{epoch}
use Rattle.yard_model.specs.Words.{is_among, is_empty}
use Rattle.pull_laws.specs.Pulled.{members, worker_at, last_number, wire, packet, fresh, queue, is_running, job_names, waiting, is_confirmed, is_free, given_to, has_done, first_ready}
use Rattle.pull_laws.specs.Pulling.{Pulling, Step, tell, post, in_turn, for_each, none, where_some, nothing, post_ask, post_job, post_done, give, assign_job, assign, ask, do_once, job, done, take_packet, deliver, come_up, up, crash, tick, queue_job, take_queue, produce, rest, send, play_input, input, go_on, deliver_next, drain, pump, play, play_line, play_lines}
use Rattle.pull_laws.proofs.Small.{if_keeps, some_keeps}

-- these facts begin with those
abbrev pub Begins : List Fact → List Fact → Type 0
Begins xs ys = (zs : List Fact) × (ys ≡ xs ++ zs)

pub begins_itself : (xs : List Fact) → Begins xs xs
begins_itself xs = ([], sym (append-nil xs))

pub begins_then : (xs ys zs : List Fact) → Begins xs ys → Begins ys zs → Begins xs zs
begins_then xs ys zs a b = (a.0 ++ b.0, b.1 ∙ (ap (λ l. l ++ b.0) a.1 ∙ append_assoc xs a.0 b.0))

abbrev pub Grows : Step → Type 0
Grows p = (s : Pulling) → Begins s.told (p s).told

-- Steps put together.

turn_grows : (p q : Step) → Grows p → Grows q → Grows (in_turn p q)
turn_grows p q a b s = begins_then s.told (p s).told (q (p s)).told (a s) (b (p s))

tell_grows : (f : Fact) → Grows (tell f)
tell_grows f s = (f ∷ [], refl)

none_grows : Grows none
none_grows s = begins_itself s.told

if_grows : (b : Bool) (s t u : Pulling) → Begins s.told t.told → Begins s.told u.told → Begins s.told (if b then t else u).told
if_grows b s t u x y = if_keeps (λ w. Begins s.told w.told) b t u (λ e. x) (λ e. y)

some_grows : {X : Type 0} (p : X → Step) (q : Step) (o : Option X) → ((x : X) → Grows (p x)) → Grows q → Grows (where_some p q o)
some_grows p q o a b s = some_keeps (λ w. Begins s.told w.told) p q o s (λ x e. a x s) (b s)

each_grows : {X : Type 0} (p : X → Step) → ((x : X) → Grows (p x)) → (xs : List X) → Grows (for_each p xs)
each_grows p h [] s = begins_itself s.told
each_grows p h (x ∷ xs) s = begins_then s.told (p x s).told (for_each p xs (p x s)).told (h x s) (each_grows p h xs (p x s))

post_grows : (f : ℕ → Fact) → Grows (post f)
post_grows f s = let k : ℕ = length (wire s.told) + 1 in if_grows (nat_le k s.limit) s (tell (f k) s) (record s { full = true }) (tell_grows (f k) s) (begins_itself s.told)

-- Packets.

give_grows : (e : List ℕ) (x : Incarnation) → Grows (give e x)
give_grows e x = turn_grows (tell (fact.Given e x)) (post_job x e) (tell_grows (fact.Given e x)) (post_grows (λ k. fact.SentJob k x e))

assign_job_grows : (e : List ℕ) → Grows (assign_job e)
assign_job_grows e s = if_grows (is_free e s.told) s (where_some (give e) none (first_ready s.window s.told) s) s (some_grows (give e) none (first_ready s.window s.told) (give_grows e) none_grows s) (begins_itself s.told)

assign_grows : Grows assign
assign_grows s = if_grows (is_running s.told) s (for_each assign_job (job_names s.told) s) s (each_grows assign_job assign_job_grows (job_names s.told) s) (begins_itself s.told)

ask_grows : (x : Incarnation) → Grows (ask x)
ask_grows x s = if_grows (is_running s.told && is_among x (members s.told)) s (in_turn (for_each (post_job x) (given_to x s.told)) assign s) s
    (turn_grows (for_each (post_job x) (given_to x s.told)) assign (each_grows (post_job x) (λ e. post_grows (λ k. fact.SentJob k x e)) (given_to x s.told)) assign_grows s) (begins_itself s.told)

do_once_grows : (x : Incarnation) (e : List ℕ) → Grows (do_once x e)
do_once_grows x e s = if_grows (has_done x e s.told) s s (tell (fact.Did x e) s) (begins_itself s.told) (tell_grows (fact.Did x e) s)

job_grows : (x : Incarnation) (e : List ℕ) → Grows (job x e)
job_grows x e s = if_grows (is_among x (members s.told)) s (in_turn (do_once x e) (post_done x e) s) s
    (turn_grows (do_once x e) (post_done x e) (do_once_grows x e) (post_grows (λ k. fact.SentDone k x e)) s) (begins_itself s.told)

done_grows : (e : List ℕ) → Grows (done e)
done_grows e s = if_grows (is_running s.told && not (is_confirmed e s.told)) s (in_turn (tell (fact.Confirmed 1 e 1)) assign s) s
    (turn_grows (tell (fact.Confirmed 1 e 1)) assign (tell_grows (fact.Confirmed 1 e 1)) assign_grows s) (begins_itself s.told)

packet_grows : (f : Fact) → Grows (take_packet f)
packet_grows (fact.SentAsk k x) = ask_grows x
packet_grows (fact.SentJob k x e) = job_grows x e
packet_grows (fact.SentDone k x e) = done_grows e
packet_grows f = none_grows_of f
  where
    none_grows_of : (f : Fact) → Grows none
    none_grows_of f s = begins_itself s.told

deliver_grows : (k : ℕ) → Grows (deliver k)
deliver_grows k s = some_grows (λ f. in_turn (tell (fact.Got k)) (take_packet f)) nothing (packet k s.told) (λ f. turn_grows (tell (fact.Got k)) (take_packet f) (tell_grows (fact.Got k)) (packet_grows f)) (tell_grows fact.Nothing) s

-- Orders.

come_up_grows : (x : Incarnation) → Grows (come_up x)
come_up_grows x = turn_grows (tell (fact.Up x)) (post_ask x) (tell_grows (fact.Up x)) (post_grows (λ k. fact.SentAsk k x))

up_grows : (n : ℕ) → Grows (up n)
up_grows n s = let x : Incarnation = record { node = n; number = last_number n s.told + 1 } in some_grows (λ x. nothing) (come_up x) (worker_at n s.told) (λ x. tell_grows fact.Nothing) (come_up_grows x) s

crash_grows : (n : ℕ) → Grows (crash n)
crash_grows n s = some_grows (λ x. in_turn (tell (fact.Gone x)) assign) nothing (worker_at n s.told) (λ x. turn_grows (tell (fact.Gone x)) assign (tell_grows (fact.Gone x)) assign_grows) (tell_grows fact.Nothing) s

tick_grows : (n : ℕ) → Grows (tick n)
tick_grows n s = some_grows post_ask nothing (worker_at n s.told) (λ x. post_grows (λ k. fact.SentAsk k x)) (tell_grows fact.Nothing) s

take_queue_grows : (n : ℕ) → Grows (take_queue n)
take_queue_grows n s = let k : ℕ = epoch (queue s.told) + 1 in tell_grows (fact.Granted (slot.Queue 1) k (record { node = n; number = k })) s

produce_grows : (n : ℕ) → Grows (produce n)
produce_grows n s = if_grows (is_running s.told) s (nothing s) (in_turn (take_queue n) (for_each queue_job (waiting s.told)) s) (tell_grows fact.Nothing s)
    (turn_grows (take_queue n) (for_each queue_job (waiting s.told)) (take_queue_grows n) (each_grows queue_job (λ j. tell_grows (fact.Queued 1 j.entity 1 j.command)) (waiting s.told)) s)

rest_grows : Grows rest
rest_grows s = if_grows (is_running s.told) s (tell (fact.Freed (slot.Queue 1) (epoch (queue s.told)) cause.Released) s) (nothing s) (tell_grows (fact.Freed (slot.Queue 1) (epoch (queue s.told)) cause.Released) s) (tell_grows fact.Nothing s)

send_grows : (e : List ℕ) (c : Command) → Grows (send e c)
send_grows e c s = if_grows (is_running s.told) s (in_turn (tell (fact.Queued 1 e 1 c)) assign s) (tell (fact.Waits 1 e c) s)
    (turn_grows (tell (fact.Queued 1 e 1 c)) assign (tell_grows (fact.Queued 1 e 1 c)) assign_grows s) (tell_grows (fact.Waits 1 e c) s)

input_of_grows : (o : Order) → Grows (play_input o)
input_of_grows (order.Up n) = up_grows n
input_of_grows (order.Crash n) = crash_grows n
input_of_grows (order.Tick n) = tick_grows n
input_of_grows (order.Produce p n) = produce_grows n
input_of_grows (order.Rest p) = rest_grows
input_of_grows (order.Send p e c) = send_grows e c
input_of_grows (order.Deliver k) = deliver_grows k
input_of_grows o = tell_grows fact.Nothing

input_grows : (p : Step) → Grows p → Grows (input p)
input_grows p h s = begins_then s.told (p s).told (input p s).told (h s) (if_grows (p s).full (p s) (tell fact.WireFull (p s)) (p s) (tell_grows fact.WireFull (p s)) (begins_itself (p s).told))

go_on_grows : (p q : Step) → Grows p → Grows q → Grows (go_on p q)
go_on_grows p q a b s = begins_then s.told (p s).told (go_on p q s).told (a s) (if_grows (p s).full (p s) (p s) (q (p s)) (begins_itself (p s).told) (b (p s)))

next_grows : (ks : List ℕ) → Grows (deliver_next ks)
next_grows [] = none_grows
next_grows (k ∷ ks) = input_grows (deliver k) (deliver_grows k)

drain_grows : (n : ℕ) → Grows (drain n)
drain_grows zero s = begins_itself s.told
drain_grows (suc n) s = go_on_grows (deliver_next (fresh s.told)) (drain n) (next_grows (fresh s.told)) (drain_grows n) s

pump_grows : (n : ℕ) → Grows (pump n)
pump_grows n s = if_grows (is_empty (fresh s.told)) s (nothing s) (drain n s) (tell_grows fact.Nothing s) (drain_grows n s)

play_grows : (o : Order) → Grows (play o)
play_grows (order.Pump n) = pump_grows n
play_grows o = input_grows (play_input o) (input_of_grows o)

pub line_grows : (l : Line) → Grows (play_line l)
line_grows l = turn_grows (tell (fact.At l.number)) (play l.order) (tell_grows (fact.At l.number)) (play_grows l.order)

pub lines_grow : (ls : List Line) → Grows (play_lines ls)
lines_grow [] s = begins_itself s.told
lines_grow (l ∷ ls) s = go_on_grows (play_line l) (play_lines ls) (line_grows l) (lines_grow ls) s

-- The first lines of some.

go_on_front : (t : Pulling) (ls : List Line) (n : ℕ) (b : Bool) → Begins (play_lines (take n ls) t).told (play_lines ls t).told → Begins (if b then t else play_lines (take n ls) t).told (if b then t else play_lines ls t).told
go_on_front t ls n true h = begins_itself t.told
go_on_front t ls n false h = h

-- what the first lines tell, all begin with
pub front_begins : (ls : List Line) (n : ℕ) (s : Pulling) → Begins (play_lines (take n ls) s).told (play_lines ls s).told
front_begins ls zero s = lines_grow ls s
front_begins [] (suc n) s = begins_itself s.told
front_begins (l ∷ ls) (suc n) s = go_on_front (play_line l s) ls n (play_line l s).full (front_begins ls n (play_line l s))

-- the next of them
next_begins : (t : Pulling) (ls : List Line) (n : ℕ) (b : Bool) → Begins (play_lines (take n ls) t).told (play_lines (take (suc n) ls) t).told
    → Begins (if b then t else play_lines (take n ls) t).told (if b then t else play_lines (take (suc n) ls) t).told
next_begins t ls n true h = begins_itself t.told
next_begins t ls n false h = h

pub one_begins : (ls : List Line) (n : ℕ) (s : Pulling) → Begins (play_lines (take n ls) s).told (play_lines (take (suc n) ls) s).told
one_begins ls zero s = lines_grow (take 1 ls) s
one_begins [] (suc n) s = begins_itself s.told
one_begins (l ∷ ls) (suc n) s = next_begins (play_line l s) ls n (play_line l s).full (one_begins ls n (play_line l s))

stopped_on : (t : Pulling) (ls : List Line) (n : ℕ) (b : Bool) → t.full ≡ b → (t.full ≡ false → (play_lines (take n ls) t).full ≡ true → play_lines (take n ls) t ≡ play_lines ls t)
    → (if b then t else play_lines (take n ls) t).full ≡ true → (if b then t else play_lines (take n ls) t) ≡ (if b then t else play_lines ls t)
stopped_on t ls n true is h full = refl
stopped_on t ls n false is h full = h is full

not_yet : (ls : List Line) (s : Pulling) → s.full ≡ false → s.full ≡ true → s ≡ play_lines ls s
not_yet ls s going full = cc

-- where the trace stopped, the others tell nothing
pub stops : (ls : List Line) (n : ℕ) (s : Pulling) → s.full ≡ false → (play_lines (take n ls) s).full ≡ true → play_lines (take n ls) s ≡ play_lines ls s
stops ls zero s going full = not_yet ls s going full
stops [] (suc n) s going full = refl
stops (l ∷ ls) (suc n) s going full = stopped_on (play_line l s) ls n (play_line l s).full refl (stops ls n (play_line l s)) full
