-- What a turn, and an order of a worker, does to the sends of a steady producer.
use Rattle.std.proofs.Common.{◌≡◌, ◌≢◌, ℕ, zero, suc, ◌+◌, ◌-◌, ◌<◌, ◌≤◌, true, false, List, [], ◌∷◌, ◌++◌, length, fold, refl, sym, ap, ◌∙◌, subst, arith, append-nil, append_assoc}
use Rattle.std.specs.Prelude.{Bool, ◌==◌, ◌&&◌, ◌||◌, not, nat_lt, nat_le, count_by, Option, None, Some, is_some, IfSome, IsSomeAnd, if◌then◌else◌}
use Rattle.std.specs.List.{list_all, list_any}
use Rattle.std.specs.Option.{option_map}
use Rattle.std.proofs.lemmas.List.Sums.{fold-append}
use Rattle.std.proofs.lemmas.List.Folds.{list_any-append}
use Rattle.atomic_table.specs.Seated.{TableId}
use Rattle.plain_laws.proofs.Booleans.{true_is_not_false, and_both, at_most, within, below, not_below, same_number, number_itself, of_not, not_of}
use Rattle.plain_laws.proofs.Lists.{none_is_not_some, some_is}
use Rattle.yard_model.specs.declared.charter.Order.{Order}
use Rattle.yard_model.specs.declared.charter.Order.TheVariants as order
use Rattle.yard_model.specs.declared.fact.Fact.{Fact}
use Rattle.yard_model.specs.declared.incarnation.Slot.{Slot}
use Rattle.yard_model.specs.declared.incarnation.Slot.TheVariants as slot
use Rattle.yard_model.specs.declared.input.Input.{Input}
use Rattle.yard_model.specs.declared.input.Input.TheVariants as input
use Rattle.yard_model.specs.declared.out.Item.{Item}
use Rattle.yard_model.specs.Follow.{each_follows}
use Rattle.yard_model.specs.Genuine.{is_producer, is_slot_of}
use Rattle.yard_model.specs.Node.{Node, after, turn}
use Rattle.yard_model.specs.Producer.{Producer}
use Rattle.yard_model.specs.Script.{Script, sends}
use Rattle.yard_model.specs.SlotReads.{queued_in_all}
use Rattle.yard_model.specs.Words.{at}
use Rattle.yard_model.specs.Workers.{is_up, is_steady, worker_orders}
use Rattle.yard_model.specs.World.{all_sends}
use Rattle.actor_laws.specs.Hands.{held_list}
use Rattle.node_laws.specs.NodeStands.{IsSoundNode}
use Rattle.node_laws.specs.NodeTurns.{MayTake}
use Rattle.shard_lease.specs.Meaning.{Begins}
use Rattle.shard_store.specs.Stores.{place_of}
use Rattle.node_core.specs.Gave.{moment}
use Rattle.node_core.specs.Standing.{Standing}
use Rattle.node_core.specs.Turned.{Turned}
use Rattle.lease_table.specs.declared.View.{View}
use Rattle.lease_table.specs.Leasing.{Pass}
use Rattle.lease_table.specs.Lists.{seen_at}
use Rattle.live_laws.specs.Live.{HasQueue, is_rest, is_own_input, is_produce_of, is_send, is_run_after, IsRun}
use Rattle.live_laws.proofs.Queues.{turn_keeps_queue, send_queues, produce_takes}
use Rattle.live_laws.proofs.Runs.{steady_run}
use Rattle.live_laws.proofs.Steadies.{queued_grows}
use Rattle.node_runner.specs.Ordered.{input_of}
use Rattle.node_runner.specs.Progress.{Progress, AreQueuesShown, queued_seen}
use Rattle.node_runner.specs.Rested.{Rested, SeesOn, means}
use Rattle.node_runner.proofs.Alone.{steady_is_free}

-- Orders, one more.

count_last : (q : Order → Bool) (os : List Order) (o : Order) → count_by q (os ++ o ∷ []) ≡ count_by q os + (if q o then 1 else 0)
count_last q os o = fold-append (λ a (x : Order). a + (if q x then 1 else 0)) 0 os (o ∷ [])

count_same : (q : Order → Bool) (os : List Order) (o : Order) → q o ≡ false → count_by q (os ++ o ∷ []) ≡ count_by q os
count_same q os o none = let h : count_by q (os ++ o ∷ []) ≡ count_by q os + 0 = count_last q os o ∙ ap (λ b. count_by q os + (if b then 1 else 0)) none in omega (arith, h)

count_one : (q : Order → Bool) (os : List Order) (o : Order) → q o ≡ true → count_by q (os ++ o ∷ []) ≡ count_by q os + 1
count_one q os o one = count_last q os o ∙ ap (λ b. count_by q os + (if b then 1 else 0)) one

count_on : (q : Order → Bool) (n : ℕ) (os : List Order) → n ≤ fold (λ a (x : Order). a + (if q x then 1 else 0)) n os
count_on q n [] = omega arith
count_on q n (o ∷ os) = let h : n + (if q o then 1 else 0) ≤ fold (λ a (x : Order). a + (if q x then 1 else 0)) (n + (if q o then 1 else 0)) os = count_on q (n + (if q o then 1 else 0)) os in omega (arith, h)

-- those first are no more than all
count_first : (q : Order → Bool) (os rest : List Order) → count_by q os ≤ count_by q (os ++ rest)
count_first q os rest = subst (λ k. count_by q os ≤ k) (sym (fold-append (λ a (x : Order). a + (if q x then 1 else 0)) 0 os rest)) (count_on q (count_by q os) rest)

any_same : (q : Order → Bool) (os : List Order) (o : Order) → q o ≡ false → list_any q (os ++ o ∷ []) ≡ true → list_any q os ≡ true
any_same q os o none h = by (list_any q os) (q o) none (sym (list_any-append q os (o ∷ [])) ∙ h)
  where
    by : (a b : Bool) → b ≡ false → (a || (b || false)) ≡ true → a ≡ true
    by true b e k = refl
    by false true e k = absurd (true_is_not_false e)
    by false false e k = k

follows_at : {A : Type 0} (may : List A → A → Bool) (before xs : List A) (x : A) (rest : List A) → each_follows may before (xs ++ x ∷ rest) ≡ true → may (before ++ xs) x ≡ true
follows_at may before [] x rest h = ap (λ l. may l x) (append-nil before) ∙ (and_both (may before x) (each_follows may (before ++ x ∷ []) rest) h).0
follows_at may before (y ∷ ys) x rest h =
    ap (λ l. may l x) (sym (append_assoc before (y ∷ []) ys)) ∙ follows_at may (before ++ y ∷ []) ys x rest (and_both (may before y) (each_follows may (before ++ y ∷ []) (ys ++ x ∷ rest)) h).1

-- what is so of an order of a steady producer's worker, and how many sends there are up to it
pub record IsNext (c : Script) (q n : ℕ) (taken : List Order) (o : Order) : Type 0 where
  pub runs : is_run_after q n taken o ≡ true
  pub most : count_by (is_send q) (taken ++ o ∷ []) ≤ length (sends c q)

pub next_is : (c : Script) (turns q n : ℕ) (taken left : List Order) (o : Order) → is_steady c turns q n ≡ true → worker_orders c n ≡ taken ++ o ∷ left → IsNext c q n taken o
next_is c turns q n taken left o steady all =
    let run : IsRun c q n (worker_orders c n) = steady_run c turns q n steady in record {
      runs = follows_at (is_run_after q n) [] taken o left (subst (λ os. each_follows (is_run_after q n) [] os ≡ true) all run.follows);
      most = subst (λ k. count_by (is_send q) (taken ++ o ∷ []) ≤ k) (ap (count_by (is_send q)) (append_assoc taken (o ∷ []) left ∙ sym all) ∙ run.count) (count_first (is_send q) (taken ++ o ∷ []) left);
    }

-- What a pass has seen.

seen_here : (me : ℕ) (p : Pass) (c : Script) (s : Slot) → p.view.charter ≡ c → is_slot_of c s ≡ true → (means me p).seen s ≡ seen_at p.view.seen (place_of c.config s)
seen_here me p c s charter here = ap (λ (y : Script). if is_slot_of y s then seen_at p.view.seen (place_of y.config s) else []) charter ∙ ap (λ b. if b then seen_at p.view.seen (place_of c.config s) else []) here

pub sees_at : (me : ℕ) (p r : Pass) (c : Script) (s : Slot) → p.view.charter ≡ c → r.view.charter ≡ c → is_slot_of c s ≡ true → SeesOn me p r → Begins (seen_at p.view.seen (place_of c.config s)) (seen_at r.view.seen (place_of c.config s))
sees_at me p r c s old new here on = subst (λ l. Begins l (seen_at r.view.seen (place_of c.config s))) (seen_here me p c s old here) (subst (λ l. Begins ((means me p).seen s) l) (seen_here me r c s new here) (on.seen_is s))

pub queued_on : (me : ℕ) (p r : Pass) (c : Script) (q : ℕ) → p.view.charter ≡ c → r.view.charter ≡ c → is_producer c q ≡ true → SeesOn me p r → queued_seen c q p ≤ queued_seen c q r
queued_on me p r c q old new here on = queued_grows (seen_at p.view.seen (place_of c.config (slot.Queue q))) (seen_at r.view.seen (place_of c.config (slot.Queue q))) (sees_at me p r c (slot.Queue q) old new here on)

-- of a queue that its node has in hand, it has seen the whole
whole : (c : Script) (p : Pass) (st : Node) (q : ℕ) (k : Producer) → AreQueuesShown c p st → is_producer c q ≡ true → at st.producers (q - 1) ≡ Some k → queued_seen c q p ≡ queued_in_all k.entries
whole c p st q k published here there =
    let held : held_list (slot.Queue q) st ≡ Some k.entries = ap (option_map (λ (x : Producer). x.entries)) there in
    ap queued_in_all (subst (λ o. IfSome o (λ list. seen_at p.view.seen (place_of c.config (slot.Queue q)) ≡ list)) held (published q here))

-- An order that a node's worker takes while the node is down, or that does nothing.

none_up : false ≡ true → ⊥
none_up h = true_is_not_false (sym h)

either_of : (a b : Bool) → a ≡ true → (not a || b) ≡ true → b ≡ true
either_of true b e h = h
either_of false b e h = absurd (true_is_not_false (sym e))

-- nobody is up, and nobody comes up
pub down_more : (c : Script) (q n : ℕ) (taken : List Order) (p : Pass) (o : Order) → Progress c n q taken p None → IsNext c q n taken o → is_up n o ≡ false → Progress c n q (taken ++ o ∷ []) p None
down_more c q n taken p o pr next quiet = record {
  sent = by_send (is_send q o) refl;
  up = λ h. pr.up (any_same (is_up n) taken o quiet h);
  held = λ h. by_produce (is_produce_of q o) refl h;
}
  where
    send_after : (o : Order) → is_send q o ≡ true → is_run_after q n taken o ≡ true → list_any (is_produce_of q) taken ≡ true
    send_after (order.Send r e k) s run = either_of (r == q) (list_any (is_produce_of q) taken) s run
    send_after o s run = absurd (true_is_not_false (sym s))

    produce_after : (o : Order) → is_produce_of q o ≡ true → is_run_after q n taken o ≡ true → list_any (is_up n) taken ≡ true
    produce_after (order.Produce r m) s run = either_of (r == q) (list_any (is_up n) taken) s run
    produce_after o s run = absurd (true_is_not_false (sym s))

    by_send : (b : Bool) → is_send q o ≡ b → count_by (is_send q) (taken ++ o ∷ []) ≤ queued_seen c q p
    by_send true e = absurd (pr.held (send_after o e next.runs))
    by_send false e = subst (λ k. k ≤ queued_seen c q p) (sym (count_same (is_send q) taken o e)) pr.sent

    by_produce : (b : Bool) → is_produce_of q o ≡ b → list_any (is_produce_of q) (taken ++ o ∷ []) ≡ true → ⊥
    by_produce true e h = none_up (pr.up (produce_after o e next.runs))
    by_produce false e h = pr.held (any_same (is_produce_of q) taken o e h)

-- it comes up
pub up_more : (c : Script) (q n : ℕ) (taken : List Order) (p : Pass) (o : Order) (v : Standing) → Progress c n q taken p None → is_send q o ≡ false → is_produce_of q o ≡ false → Progress c n q (taken ++ o ∷ []) p (Some v)
up_more c q n taken p o v pr no_send no_produce = record {
  sent = subst (λ k. k ≤ queued_seen c q p) (sym (count_same (is_send q) taken o no_send)) pr.sent;
  up = λ h. refl;
  held = λ h. absurd (pr.held (any_same (is_produce_of q) taken o no_produce h));
}

-- nothing changes at a node that is up
pub still_more : (c : Script) (q n : ℕ) (taken : List Order) (p : Pass) (o : Order) (v : Standing) → Progress c n q taken p (Some v) → is_send q o ≡ false → is_produce_of q o ≡ false → Progress c n q (taken ++ o ∷ []) p (Some v)
still_more c q n taken p o v pr no_send no_produce = record {
  sent = subst (λ k. k ≤ queued_seen c q p) (sym (count_same (is_send q) taken o no_send)) pr.sent;
  up = λ h. refl;
  held = λ h. pr.held (any_same (is_produce_of q) taken o no_produce h);
}

-- A turn.

-- where it is about a producer, there is such a number
pub own_input : (c : Script) (vouches : List ℕ → ℕ → ℕ → Bool) (st : Node) (i : Input) → MayTake c vouches st i → is_own_input i ≡ true
own_input c vouches st (input.Produce r) may = (and_both (nat_le 1 r) (nat_le r c.config.producers) may).0
own_input c vouches st (input.Rest r) may = (and_both (nat_le 1 r) (nat_le r c.config.producers) may).0
own_input c vouches st (input.Send r) may = (and_both (nat_le 1 r) (nat_le r c.config.producers) may).0
own_input c vouches st i may = refl

module _ (z : TableId) (c : Script) (turns n q : ℕ) (steady : is_steady c turns q n ≡ true) (here : is_producer c q ≡ true) (i : Input) (own : is_own_input i ≡ true) (p r : Pass) (v w : Standing) (old new : List Item)
    (before : Rested z c n p v) (sound : IsSoundNode c v.state) (shown : AreQueuesShown c p v.state) (then_rested : Rested z c n r w) (then_shown : AreQueuesShown c r w.state)
    (t : Turned c (λ lists. turn (all_sends c) lists i v.state) (moment (means n p) v.state old) (moment (means n r) w.state new)) where
  above : 0 < q
  above = let some : 1 ≤ q = at_most 1 q (and_both (nat_le 1 q) (nat_le q c.config.producers) here).0 in omega (arith, some)

  most : q ≤ c.config.producers
  most = at_most q c.config.producers (and_both (nat_le 1 q) (nat_le q c.config.producers) here).1

  now_is : fold after v.state (turn (all_sends c) t.lists i v.state) ≡ w.state
  now_is = ap (fold after v.state) t.found_acts ∙ sym t.node_is

  keeps : (k : Producer) → is_rest q i ≡ false → at v.state.producers (q - 1) ≡ Some k → HasQueue w.state q k.entries (queued_in_all k.entries)
  keeps k quiet there = subst (λ st. HasQueue st q k.entries (queued_in_all k.entries)) now_is (turn_keeps_queue (all_sends c) t.lists v.state i q k above quiet own there)

  some_kept : is_rest q i ≡ false → is_some (at v.state.producers (q - 1)) ≡ true → is_some (at w.state.producers (q - 1)) ≡ true
  some_kept quiet h = by (at v.state.producers (q - 1)) refl h
    where
      by : (o : Option Producer) → at v.state.producers (q - 1) ≡ o → is_some o ≡ true → is_some (at w.state.producers (q - 1)) ≡ true
      by None e h = absurd (true_is_not_false (sym h))
      by (Some k) e h = ap is_some (keeps k quiet e).there

  on : queued_seen c q p ≤ queued_seen c q r
  on = queued_on n p r c q before.charter then_rested.charter here t.stays

  -- no order, or one that neither sends nor takes the queue
  pub turned_on : (taken : List Order) → is_rest q i ≡ false → Progress c n q taken p (Some v) → Progress c n q taken r (Some w)
  turned_on taken quiet pr = record {
    sent = let s : count_by (is_send q) taken ≤ queued_seen c q p = pr.sent in let g : queued_seen c q p ≤ queued_seen c q r = on in omega (arith, s, g);
    up = λ h. refl;
    held = λ h. some_kept quiet (pr.held h);
  }

  takes : i ≡ input.Produce q → is_some (at w.state.producers (q - 1)) ≡ true
  takes is = by (at v.state.producers (q - 1)) refl
    where
      quiet : is_rest q i ≡ false
      quiet = ap (is_rest q) is

      by : (o : Option Producer) → at v.state.producers (q - 1) ≡ o → is_some (at w.state.producers (q - 1)) ≡ true
      by (Some k) e = ap is_some (keeps k quiet e).there
      by None e =
          let none : held_list (slot.Queue q) v.state ≡ None = ap (option_map (λ (x : Producer). x.entries)) e in
          let free = steady_is_free c turns q n p.table p.view t.lists v.state steady before.charter before.who t.found.others_are here none in
          let inside : q - 1 < length v.state.producers = let full : length v.state.producers ≡ c.config.producers = sound.producers_full in let a : 0 < q = above in let b : q ≤ c.config.producers = most in omega (arith, full, a, b) in
          let has = produce_takes (all_sends c) t.lists v.state q above inside e free in
          let same : fold after v.state (turn (all_sends c) t.lists (input.Produce q) v.state) ≡ w.state = subst (λ x. fold after v.state (turn (all_sends c) t.lists x v.state) ≡ w.state) is now_is in
          ap is_some (ap (λ (st : Node). at st.producers (q - 1)) (sym same) ∙ has.there)

  -- one more is queued, where one is left
  sends_one : i ≡ input.Send q → (k : Producer) → at v.state.producers (q - 1) ≡ Some k → (m : ℕ) → m ≤ queued_in_all k.entries → m + 1 ≤ length (sends c q) → m + 1 ≤ queued_seen c q r
  sends_one is k there m few left = by (nat_lt (queued_in_all k.entries) (length (sends c q))) refl
    where
      by : (b : Bool) → nat_lt (queued_in_all k.entries) (length (sends c q)) ≡ b → m + 1 ≤ queued_seen c q r
      by true e =
          let has = send_queues c t.lists v.state q k here there (sound.producers q k above there).number_is (below (queued_in_all k.entries) (length (sends c q)) e) in
          let same : fold after v.state (turn (all_sends c) t.lists (input.Send q) v.state) ≡ w.state = subst (λ x. fold after v.state (turn (all_sends c) t.lists x v.state) ≡ w.state) is now_is in
          let now : HasQueue w.state q k.entries (queued_in_all k.entries + 1) = subst (λ st. HasQueue st q k.entries (queued_in_all k.entries + 1)) same has in
          let seen : queued_seen c q r ≡ queued_in_all now.producer.entries = whole c r w.state q now.producer then_shown here now.there in
          let count : queued_in_all k.entries + 1 ≤ queued_in_all now.producer.entries = now.count in
          omega (arith, few, seen, count)
      by false e =
          let all : length (sends c q) ≤ queued_in_all k.entries = not_below (queued_in_all k.entries) (length (sends c q)) e in
          let seen : queued_seen c q p ≡ queued_in_all k.entries = whole c p v.state q k shown here there in
          let g : queued_seen c q p ≤ queued_seen c q r = on in
          omega (arith, left, all, seen, g)

  -- an order that is its input
  pub order_on : (taken : List Order) (o : Order) → input_of o ≡ Some i → IsNext c q n taken o → Progress c n q taken p (Some v) → Progress c n q (taken ++ o ∷ []) r (Some w)
  order_on taken o is next pr = record { sent = sent o is next; up = λ h. refl; held = λ h. held o is next h }
    where
      unsent : (o : Order) → is_send q o ≡ false → count_by (is_send q) (taken ++ o ∷ []) ≤ queued_seen c q r
      unsent o none = subst (λ k. k ≤ queued_seen c q r) (sym (count_same (is_send q) taken o none)) (let s : count_by (is_send q) taken ≤ queued_seen c q p = pr.sent in let g : queued_seen c q p ≤ queued_seen c q r = on in omega (arith, s, g))

      sent_by : (m : ℕ) → (o : Option Producer) → at v.state.producers (q - 1) ≡ o → is_some o ≡ true → i ≡ input.Send q → m ≤ queued_seen c q p → m + 1 ≤ length (sends c q) → m + 1 ≤ queued_seen c q r
      sent_by m None e h s few left = absurd (true_is_not_false (sym h))
      sent_by m (Some k) e h s few left = sends_one s k e m (subst (λ x. m ≤ x) (whole c p v.state q k shown here e) few) left

      sent : (o : Order) → input_of o ≡ Some i → IsNext c q n taken o → count_by (is_send q) (taken ++ o ∷ []) ≤ queued_seen c q r
      sent (order.Send x e k) is next = by (x == q) refl
        where
          by : (b : Bool) → (x == q) ≡ b → count_by (is_send q) (taken ++ order.Send x e k ∷ []) ≤ queued_seen c q r
          by false f = unsent (order.Send x e k) f
          by true f =
              let same : x ≡ q = same_number x q f in
              let it : i ≡ input.Send q = sym (some_is (input.Send x) i is) ∙ ap input.Send same in
              let one : count_by (is_send q) (taken ++ order.Send x e k ∷ []) ≡ count_by (is_send q) taken + 1 = count_one (is_send q) taken (order.Send x e k) f in
              let produced : list_any (is_produce_of q) taken ≡ true = either_of (x == q) (list_any (is_produce_of q) taken) f next.runs in
              let most : count_by (is_send q) taken + 1 ≤ length (sends c q) = subst (λ k. k ≤ length (sends c q)) one next.most in
              subst (λ k. k ≤ queued_seen c q r) (sym one) (sent_by (count_by (is_send q) taken) (at v.state.producers (q - 1)) refl (pr.held produced) it pr.sent most)
      sent (order.Produce x m) is next = unsent (order.Produce x m) refl
      sent (order.Rest x) is next = unsent (order.Rest x) refl
      sent (order.Leave m) is next = unsent (order.Leave m) refl
      sent (order.Tick m) is next = unsent (order.Tick m) refl
      sent (order.Passivate e) is next = unsent (order.Passivate e) refl
      sent (order.Rebalance l) is next = unsent (order.Rebalance l) refl
      sent (order.Up m) is next = unsent (order.Up m) refl
      sent (order.Crash m) is next = unsent (order.Crash m) refl
      sent (order.FailWrite e k) is next = unsent (order.FailWrite e k) refl
      sent (order.Deliver k) is next = unsent (order.Deliver k) refl
      sent (order.Pump k) is next = unsent (order.Pump k) refl
      sent order.Settle is next = unsent order.Settle refl
      sent (order.Reshard k) is next = unsent (order.Reshard k) refl
      sent order.Upgrade is next = unsent order.Upgrade refl
      sent (order.Ping x) is next = unsent (order.Ping x) refl

      kept : (o : Order) → is_rest q i ≡ false → is_produce_of q o ≡ false → list_any (is_produce_of q) (taken ++ o ∷ []) ≡ true → is_some (at w.state.producers (q - 1)) ≡ true
      kept o quiet none h = some_kept quiet (pr.held (any_same (is_produce_of q) taken o none h))

      quiet_by : (j : Input) → Some j ≡ Some i → is_rest q j ≡ false → is_rest q i ≡ false
      quiet_by j e h = subst (λ x. is_rest q x ≡ false) (some_is j i e) h

      none_given : {A : Type 0} → None ≡ Some i → A
      none_given e = absurd (none_is_not_some i e)

      held : (o : Order) → input_of o ≡ Some i → IsNext c q n taken o → list_any (is_produce_of q) (taken ++ o ∷ []) ≡ true → is_some (at w.state.producers (q - 1)) ≡ true
      held (order.Produce x m) is next h = by (x == q) refl
        where
          by : (b : Bool) → (x == q) ≡ b → is_some (at w.state.producers (q - 1)) ≡ true
          by true f = takes (sym (some_is (input.Produce x) i is) ∙ ap input.Produce (same_number x q f))
          by false f = kept (order.Produce x m) (quiet_by (input.Produce x) is refl) f h
      held (order.Rest x) is next h = kept (order.Rest x) (quiet_by (input.Rest x) is (of_not (x == q) next.runs)) refl h
      held (order.Send x e k) is next h = kept (order.Send x e k) (quiet_by (input.Send x) is refl) refl h
      held (order.Leave m) is next h = kept (order.Leave m) (quiet_by input.Leave is refl) refl h
      held (order.Tick m) is next h = kept (order.Tick m) (quiet_by input.Tick is refl) refl h
      held (order.Passivate e) is next h = kept (order.Passivate e) (quiet_by (input.Passivate e) is refl) refl h
      held (order.Rebalance l) is next h = kept (order.Rebalance l) (quiet_by (input.Rebalance l) is refl) refl h
      held (order.Up m) is next h = none_given is
      held (order.Crash m) is next h = none_given is
      held (order.FailWrite e k) is next h = none_given is
      held (order.Deliver k) is next h = none_given is
      held (order.Pump k) is next h = none_given is
      held order.Settle is next h = none_given is
      held (order.Reshard k) is next h = none_given is
      held order.Upgrade is next h = none_given is
      held (order.Ping x) is next h = none_given is
