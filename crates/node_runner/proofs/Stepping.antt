-- What each step of a worker does to all its steady producers.
use Rattle.std.proofs.Common.{◌≡◌, ℕ, ◌+◌, ◌-◌, ◌≤◌, inl, true, false, List, [], ◌∷◌, ◌++◌, length, refl, sym, ap, ◌∙◌, subst, arith, append-nil, append_assoc}
use Rattle.std.specs.Prelude.{Bool, count_by, Option, None, Some, is_some, Result, Ok, Err, IfOk}
use Rattle.atomic_table.specs.Seated.{TableId}
use Rattle.plain_laws.proofs.Booleans.{true_is_not_false}
use Rattle.plain_laws.proofs.Lists.{none_is_not_some}
use Rattle.yard_model.specs.declared.charter.Order.{Order}
use Rattle.yard_model.specs.declared.charter.Order.TheVariants as order
use Rattle.yard_model.specs.declared.incarnation.Slot.TheVariants as slot
use Rattle.yard_model.specs.declared.input.Input.{Input}
use Rattle.yard_model.specs.declared.input.Input.TheVariants as input
use Rattle.yard_model.specs.declared.out.Item.{Item}
use Rattle.yard_model.specs.Genuine.{is_producer}
use Rattle.yard_model.specs.Node.{Node, turn}
use Rattle.yard_model.specs.Script.{Script, sends}
use Rattle.yard_model.specs.Workers.{is_up, is_steady, worker_orders}
use Rattle.yard_model.specs.World.{all_sends}
use Rattle.node_laws.specs.NodeStands.{IsSoundNode}
use Rattle.node_laws.specs.NodeTurns.{MayTake}
use Rattle.shard_store.specs.Stores.{place_of}
use Rattle.node_core.specs.Gave.{moment}
use Rattle.node_core.specs.Standing.{Standing}
use Rattle.node_core.specs.Turned.{Turned}
use Rattle.lease_table.specs.Leasing.{Pass}
use Rattle.lease_table.specs.Lists.{seen_at}
use Rattle.live_laws.specs.Live.{is_send, is_produce_of, IsRun, SawQueued}
use Rattle.live_laws.specs.Live as live
use Rattle.live_laws.proofs.Runs.{steady_run}
use Rattle.node_runner.specs.Ordered.{input_of}
use Rattle.node_runner.specs.Progress.{Progress, Progressed, AreQueuesShown, GoesOn, Takes, SawAll, is_rest, queued_seen}
use Rattle.node_runner.specs.Rested.{Rested, ArePublished, SeesOn, means}
use Rattle.node_runner.proofs.Queueing.{IsNext, next_is, down_more, up_more, still_more, own_input, turned_on, order_on, queued_on}

-- an order more is taken, where it is so of each steady producer
take_by : (c : Script) (n : ℕ) (o : Order) (p r : Pass) (here after : Option Standing) → ((turns q : ℕ) (taken : List Order) → is_producer c q ≡ true → is_steady c turns q n ≡ true → IsNext c q n taken o → Progress c n q taken p here → Progress c n q (taken ++ o ∷ []) r after) → Takes c n o p here r after
take_by c n o p r here after step turns left k = record {
  taken = k.taken ++ o ∷ [];
  all = k.all ∙ sym (append_assoc k.taken (o ∷ []) left);
  each = λ q here steady. step turns q k.taken here steady (next_is c turns q n k.taken left o steady k.all) (k.each q here steady);
}

pub down_takes : (c : Script) (n : ℕ) (o : Order) (p : Pass) → is_up n o ≡ false → Takes c n o p None p None
down_takes c n o p quiet = take_by c n o p p None None (λ turns q taken here steady next pr. down_more c q n taken p o pr next quiet)

pub up_takes : (c : Script) (n : ℕ) (o : Order) (p : Pass) (v : Standing) → is_up n o ≡ true → Takes c n o p None p (Some v)
up_takes c n o p v up = take_by c n o p p None (Some v) (λ turns q taken here steady next pr. up_more c q n taken p o v pr (no_send q o up) (no_produce q o up))
  where
    no_send : (q : ℕ) (o : Order) → is_up n o ≡ true → is_send q o ≡ false
    no_send q (order.Send r e k) h = absurd (true_is_not_false (sym h))
    no_send q o h = refl

    no_produce : (q : ℕ) (o : Order) → is_up n o ≡ true → is_produce_of q o ≡ false
    no_produce q (order.Produce r m) h = absurd (true_is_not_false (sym h))
    no_produce q o h = refl

-- an order that does nothing where the node is up
pub still_takes : (c : Script) (n : ℕ) (o : Order) (p : Pass) (v : Standing) → ((q : ℕ) → is_send q o ≡ false) → ((q : ℕ) → is_produce_of q o ≡ false) → Takes c n o p (Some v) p (Some v)
still_takes c n o p v sends produces = take_by c n o p p (Some v) (Some v) (λ turns q taken here steady next pr. still_more c q n taken p o v pr (sends q) (produces q))

pub up_again : (c : Script) (n m : ℕ) (p : Pass) (v : Standing) → Takes c n (order.Up m) p (Some v) p (Some v)
up_again c n m p v = still_takes c n (order.Up m) p v (λ q. refl) (λ q. refl)

pub passivate_still : (c : Script) (n : ℕ) (e : List ℕ) (p : Pass) (v : Standing) → Takes c n (order.Passivate e) p (Some v) p (Some v)
passivate_still c n e p v = still_takes c n (order.Passivate e) p v (λ q. refl) (λ q. refl)

-- no worker of a steady producer is told to crash
pub crash_takes : (c : Script) (n m : ℕ) (p r : Pass) (node after : Option Standing) → Takes c n (order.Crash m) p node r after
crash_takes c n m p r node after = take_by c n (order.Crash m) p r node after (λ turns q taken here steady next pr. absurd (true_is_not_false (sym next.runs)))

-- a turn

rest_apart : (q : ℕ) (i : Input) → is_rest i ≡ false → live.is_rest q i ≡ false
rest_apart q (input.Rest k) h = absurd (true_is_not_false h)
rest_apart q (input.Packet x) h = refl
rest_apart q input.Tick h = refl
rest_apart q input.Leave h = refl
rest_apart q (input.Rebalance l) h = refl
rest_apart q (input.Produce k) h = refl
rest_apart q (input.Send k) h = refl
rest_apart q (input.Passivate e) h = refl
rest_apart q (input.FailWrite e k) h = refl

pub turn_goes_on : (z : TableId) (c : Script) (n : ℕ) (i : Input) (p r : Pass) (v w : Standing) (old new : List Item) → Rested z c n p v → IsSoundNode c v.state → AreQueuesShown c p v.state → MayTake c (means n p).vouches v.state i → Rested z c n r w → AreQueuesShown c r w.state
    → Turned c (λ lists. turn (all_sends c) lists i v.state) (moment (means n p) v.state old) (moment (means n r) w.state new) → is_rest i ≡ false → GoesOn c n p (Some v) r (Some w)
turn_goes_on z c n i p r v w old new before sound shown may after then_shown t quiet turns left k = record {
  taken = k.taken;
  all = k.all;
  each = λ q here steady. turned_on z c turns n q steady here i (own_input c (means n p).vouches v.state i may) p r v w old new before sound shown after then_shown t k.taken (rest_apart q i quiet) (k.each q here steady);
}

pub turn_takes : (z : TableId) (c : Script) (n : ℕ) (i : Input) (o : Order) (p r : Pass) (v w : Standing) (old new : List Item) → Rested z c n p v → IsSoundNode c v.state → AreQueuesShown c p v.state → MayTake c (means n p).vouches v.state i → Rested z c n r w → AreQueuesShown c r w.state
    → Turned c (λ lists. turn (all_sends c) lists i v.state) (moment (means n p) v.state old) (moment (means n r) w.state new) → input_of o ≡ Some i → Takes c n o p (Some v) r (Some w)
turn_takes z c n i o p r v w old new before sound shown may after then_shown t is = take_by c n o p r (Some v) (Some w)
    (λ turns q taken here steady next pr. order_on z c turns n q steady here i (own_input c (means n p).vouches v.state i may) p r v w old new before sound shown after then_shown t taken o is next pr)

-- a pass that has seen no less, at the same node
pub seen_goes_on : (z : TableId) (c : Script) (n : ℕ) (p r : Pass) (v : Standing) → Rested z c n p v → Rested z c n r v → SeesOn n p r → GoesOn c n p (Some v) r (Some v)
seen_goes_on z c n p r v before after on turns left k = record {
  taken = k.taken;
  all = k.all;
  each = λ q here steady. let pr : Progress c n q k.taken p (Some v) = k.each q here steady in let g : queued_seen c q p ≤ queued_seen c q r = queued_on n p r c q before.charter after.charter here on in let s : count_by (is_send q) k.taken ≤ queued_seen c q p = pr.sent in
      record { sent = omega (arith, s, g); up = pr.up; held = pr.held };
}

-- at the end

pub all_seen : (c : Script) (turns n : ℕ) (p r : Pass) (before : Option Standing) → p.view.charter ≡ c → r.view.charter ≡ c → SeesOn n p r → Progressed c turns n [] p before → SawAll c turns n r
all_seen c turns n p r before old new on k q here steady =
    let run : IsRun c q n (worker_orders c n) = steady_run c turns q n steady in
    let whole : worker_orders c n ≡ k.taken = k.all ∙ append-nil k.taken in
    let count : count_by (is_send q) k.taken ≡ length (sends c q) = ap (count_by (is_send q)) (sym whole) ∙ run.count in
    let sent : count_by (is_send q) k.taken ≤ queued_seen c q p = (k.each q here steady).sent in
    let g : queued_seen c q p ≤ queued_seen c q r = queued_on n p r c q old new here on in record {
      list = seen_at r.view.seen (place_of c.config (slot.Queue q));
      saw = inl refl;
      all = omega (arith, count, sent, g);
    }

-- an order that is no input, or one that no entity here takes
pub none_takes : (c : Script) (n : ℕ) (o : Order) (p : Pass) (v : Standing) → input_of o ≡ None → Takes c n o p (Some v) p (Some v)
none_takes c n o p v none = still_takes c n o p v (λ q. no_send q o none) (λ q. no_produce q o none)
  where
    no_send : (q : ℕ) (o : Order) → input_of o ≡ None → is_send q o ≡ false
    no_send q (order.Send r e k) h = absurd (none_is_not_some (input.Send r) (sym h))
    no_send q o h = refl

    no_produce : (q : ℕ) (o : Order) → input_of o ≡ None → is_produce_of q o ≡ false
    no_produce q (order.Produce r m) h = absurd (none_is_not_some (input.Produce r) (sym h))
    no_produce q o h = refl

-- a turn of the node once it has made room

pub of_shown : (c : Script) (p : Pass) (st : Node) → ArePublished c p st → AreQueuesShown c p st
of_shown c p st shown q here = shown (slot.Queue q) here

pub room_goes_on : (z : TableId) (c : Script) (n : ℕ) (i : Input) (p r : Pass) (v u w : Standing) (old new : List Item) → u.state ≡ v.state → Rested z c n p v → IsSoundNode v.script v.state → AreQueuesShown c p v.state → MayTake c (means n p).vouches v.state i → Rested z c n r w → ArePublished c r w.state
    → Turned c (λ lists. turn (all_sends c) lists i u.state) (moment (means n p) u.state old) (moment (means n r) w.state new) → is_rest i ≡ false → GoesOn c n p (Some v) r (Some w)
room_goes_on z c n i p r v u w old new same before sound shown may after then_shown t quiet =
    turn_goes_on z c n i p r v w old new before (subst (λ (y : Script). IsSoundNode y v.state) before.script sound) shown may after (of_shown c r w.state then_shown)
    (subst (λ (st : Node). Turned c (λ lists. turn (all_sends c) lists i st) (moment (means n p) st old) (moment (means n r) w.state new)) same t) quiet

pub room_takes : (z : TableId) (c : Script) (n : ℕ) (i : Input) (o : Order) (p r : Pass) (v u w : Standing) (old new : List Item) → u.state ≡ v.state → Rested z c n p v → IsSoundNode v.script v.state → AreQueuesShown c p v.state → MayTake c (means n p).vouches v.state i → Rested z c n r w → ArePublished c r w.state
    → Turned c (λ lists. turn (all_sends c) lists i u.state) (moment (means n p) u.state old) (moment (means n r) w.state new) → input_of o ≡ Some i → Takes c n o p (Some v) r (Some w)
room_takes z c n i o p r v u w old new same before sound shown may after then_shown t is =
    turn_takes z c n i o p r v w old new before (subst (λ (y : Script). IsSoundNode y v.state) before.script sound) shown may after (of_shown c r w.state then_shown)
    (subst (λ (st : Node). Turned c (λ lists. turn (all_sends c) lists i st) (moment (means n p) st old) (moment (means n r) w.state new)) same t) is

-- Steps in turn, and where memory may be wanting.

pub goes_both : (c : Script) (n : ℕ) (p r s : Pass) (a b d : Option Standing) → GoesOn c n p a r b → GoesOn c n r b s d → GoesOn c n p a s d
goes_both c n p r s a b d h k = λ turns left x. k turns left (h turns left x)

pub if_ok : {A E : Type 0} {P Q : A → Type 0} (r : Result A E) → ((x : A) → P x → Q x) → IfOk r P → IfOk r Q
if_ok (Ok x) f h = f x h
if_ok (Err e) f h = tt

pub if_ok_both : {A E : Type 0} {P Q R : A → Type 0} (r : Result A E) → ((x : A) → P x → Q x → R x) → IfOk r P → IfOk r Q → IfOk r R
if_ok_both (Ok x) f h k = f x h k
if_ok_both (Err e) f h k = tt
