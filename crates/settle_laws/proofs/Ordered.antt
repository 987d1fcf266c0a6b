-- After any orders no more is queued than was ordered.
use Rattle.std.proofs.Common.{◌≡◌, ◌<◌, ◌≤◌, inl, inr, ℕ, zero, suc, ◌+◌, ◌-◌, List, [], ◌∷◌, ◌++◌, length, map, sym, ap, subst, ◌∙◌, refl, true, false, true≢false, arith}
use Rattle.std.specs.Prelude.{Bool, ◌==◌, ◌&&◌, ◌||◌, nat_le, nat_lt, fold, take, Option, Some, None, is_none, slice_index_or, slice_set, if◌then◌else◌}
use Rattle.std.specs.List.{list_all}
use Rattle.std.proofs.lemmas.List.{get_or-set_same, get_or-set_other, length-set, length-replicate}
use Rattle.std.proofs.lemmas.List.Sums.{fold-append}
use Rattle.yard_model.specs.declared.charter.Line.{Line}
use Rattle.yard_model.specs.declared.charter.Order.{Order}
use Rattle.yard_model.specs.declared.charter.Order.TheVariants as order
use Rattle.yard_model.specs.declared.charter.Sending.{Sending}
use Rattle.yard_model.specs.declared.event.Command.{Command}
use Rattle.yard_model.specs.declared.fact.Fact.{Fact}
use Rattle.yard_model.specs.declared.fact.Fact.TheVariants as fact
use Rattle.yard_model.specs.declared.input.Input.TheVariants as input
use Rattle.yard_model.specs.Behaviour.{is_in, is_of_kind}
use Rattle.yard_model.specs.Era.{Era, first_era, era_of, era_step}
use Rattle.yard_model.specs.Genuine.{is_producer}
use Rattle.yard_model.specs.Node.{Node, Act, items_of, turn, send_by}
use Rattle.yard_model.specs.Producer as producer
use Rattle.yard_model.specs.Producer.{Producer}
use Rattle.yard_model.specs.Script.{Script, count_to, sends, is_order, with_send_of}
use Rattle.yard_model.specs.SlotLists.{queue_list}
use Rattle.yard_model.specs.SlotReads.{queued_in_all, queued_in_all_step}
use Rattle.yard_model.specs.Trace.{lists_step}
use Rattle.yard_model.specs.Turns.{where_some}
use Rattle.yard_model.specs.Words.{at}
use Rattle.yard_model.specs.World as world
use Rattle.yard_model.specs.World.{World, Made, Step, world_after, handle, give, node_at, node_of, queue_holder, ordered_of, with_order, new_world, in_order, then_step, tell, play_line, settle, count_posts}
use Rattle.plain_laws.proofs.Booleans.{and_both, at_most, not_below, get_replicate, number_itself, same_number}
use Rattle.plain_laws.proofs.Lists.{by_place, all_take}
use Rattle.yard_laws.proofs.Owns.{producer_above}
use Rattle.actor_laws.specs.Owes.{facts_in}
use Rattle.node_laws.specs.Cluster.{IsMember}
use Rattle.play_laws.specs.Played.{is_named, is_played, PlayedIsSound}
use Rattle.play_laws.specs.Sound.{Sound, LeadsOn}
use Rattle.play_laws.proofs.Handled.{Laws}
use Rattle.play_laws.proofs.Lines.{line_on, lines_still, orders_played}
use Rattle.play_laws.proofs.Orders.{IsPlaced, at_place, of_placed, give_leads}
use Rattle.play_laws.proofs.Steps.{heard, ordered_sound}
use Rattle.play_laws.proofs.Tells.{turn_tells}
use Rattle.settle_laws.specs.Inputs.{HandedOn}
use Rattle.settle_laws.specs.Settles.{Settles, OrdersSettle, SettleLineSettles}
use Rattle.settle_laws.specs.Steps.{DeliveryFalls, TickCosts}
use Rattle.settle_laws.proofs.Downs.{Counted, sound_downs}
use Rattle.settle_laws.proofs.Few.{sends_by, all_by, all_more}
use Rattle.settle_laws.proofs.Moves.{Posted, Kept, give_stays, play_stays}
use Rattle.settle_laws.proofs.One.{Rests, fills, then_goes, then_stops}
use Rattle.settle_laws.proofs.Producing.{send_queues}
use Rattle.settle_laws.proofs.Records.{le_itself}
use Rattle.settle_laws.proofs.Told.{inputs_hand_on}
use Rattle.settle_laws.proofs.Tops.{settles_from}

-- A send.

-- at most k more of p are queued
abbrev Adds : ℕ → ℕ → World → World → Type 0
Adds p k w v = (r : ℕ) → 0 < r → (queued_in_all (queue_list v.lists r) ≤ queued_in_all (queue_list w.lists r) + k) × ((r ≡ p → ⊥) → queued_in_all (queue_list v.lists r) ≡ queued_in_all (queue_list w.lists r))

adds_none : (p k : ℕ) (w v : World) → ((r : ℕ) → queued_in_all (queue_list v.lists r) ≡ queued_in_all (queue_list w.lists r)) → Adds p k w v
adds_none p k w v same r above = (up (queued_in_all (queue_list v.lists r)) (queued_in_all (queue_list w.lists r)) k (same r), λ other. same r)
  where
    up : (a b k : ℕ) → a ≡ b → a ≤ b + k
    up a b k e = omega (arith, e)

adds_both : (p j k : ℕ) (u v w : World) → Adds p j u v → Adds p k v w → Adds p (j + k) u w
adds_both p j k u v w f g r above = (sums (queued_in_all (queue_list u.lists r)) (queued_in_all (queue_list v.lists r)) (queued_in_all (queue_list w.lists r)) j k (f r above).0 (g r above).0, λ other. (g r above).1 other ∙ (f r above).1 other)
  where
    sums : (x y z j k : ℕ) → y ≤ x + j → z ≤ y + k → z ≤ x + (j + k)
    sums x y z j k h g = omega (arith, h, g)

in_all_up : (p : ℕ) (e : List ℕ) (n : ℕ) (k : Command) (xs : List (List Fact)) (i j : ℕ) → queued_in_all (slice_index_or (slice_set xs i (slice_index_or xs i [] ++ fact.Queued p e n k ∷ [])) j []) ≤ queued_in_all (slice_index_or xs j []) + 1
in_all_up p e n k [] i j = up (queued_in_all [])
  where
    up : (a : ℕ) → a ≤ a + 1
    up a = omega arith
in_all_up p e n k (x ∷ xs) zero zero = of_equal (queued_in_all (x ++ fact.Queued p e n k ∷ [])) (queued_in_all x + 1) (fold-append queued_in_all_step 0 x (fact.Queued p e n k ∷ []))
  where
    of_equal : (a b : ℕ) → a ≡ b → a ≤ b
    of_equal a b e = omega (arith, e)
in_all_up p e n k (x ∷ xs) zero (suc j) = up (queued_in_all (slice_index_or xs j []))
  where
    up : (a : ℕ) → a ≤ a + 1
    up a = omega arith
in_all_up p e n k (x ∷ xs) (suc i) zero = up (queued_in_all x)
  where
    up : (a : ℕ) → a ≤ a + 1
    up a = omega arith
in_all_up p e n k (x ∷ xs) (suc i) (suc j) = in_all_up p e n k xs i j

send_adds : (c : Script) (trace : List Fact) (w : World) (place : ℕ) (st : Node) (p : ℕ) → Sound c trace w → at w.nodes place ≡ Some st → is_producer c p ≡ true → (handle (input.Send p) st w).world.full ≡ false → Adds p 1 w (handle (input.Send p) st w).world
send_adds c trace w place st p s here is open1 = by (nat_lt w.limit (fold count_posts (length w.wire) (items_of acts))) refl
  where
    acts : List Act
    acts = turn w.sends w.lists (input.Send p) st

    above : 0 < p
    above = producer_above c p is

    me : IsMember c trace place st
    me = s.cluster.members place st here

    Told : List Act → Type 0
    Told l = (r : ℕ) → 0 < r → (queued_in_all (queue_list (fold (lists_step w.set) w.lists (facts_in (items_of l))) r) ≤ queued_in_all (queue_list w.lists r) + 1) × ((r ≡ p → ⊥) → queued_in_all (queue_list (fold (lists_step w.set) w.lists (facts_in (items_of l))) r) ≡ queued_in_all (queue_list w.lists r))

    nothing : Told []
    nothing r h = (up (queued_in_all (queue_list w.lists r)), λ other. refl)
      where
        up : (a : ℕ) → a ≤ a + 1
        up a = omega arith

    by_sending : (j : Producer) → at st.producers (p - 1) ≡ Some j → (o : Option Sending) → Told (send_by p o st)
    by_sending j found None = nothing
    by_sending j found (Some x) = λ r h. (
      subst (λ l. queued_in_all (slice_index_or l (r - 1) []) ≤ queued_in_all (queue_list w.lists r) + 1) (sym (send_queues w.set w.lists st p j x found)) (in_all_up j.number x.entity x.number x.command w.lists.queues (j.number - 1) (r - 1)),
      λ other. ap (λ l. queued_in_all (slice_index_or l (r - 1) [])) (send_queues w.set w.lists st p j x found) ∙ ap queued_in_all (get_or-set_other w.lists.queues (j.number - 1) (r - 1) (queue_list w.lists j.number ++ fact.Queued j.number x.entity x.number x.command ∷ []) [] (apart r p h above other (me.sound.producers p j above found).number_is)),
    )
      where
        apart : (r p : ℕ) → 0 < r → 0 < p → (r ≡ p → ⊥) → j.number ≡ p → r - 1 ≡ j.number - 1 → ⊥
        apart r p h k other e same = other (equal r p j.number h k e same)
          where
            equal : (r p n : ℕ) → 0 < r → 0 < p → n ≡ p → r - 1 ≡ n - 1 → r ≡ p
            equal r p n h k e g = omega (arith, h, k, e, g)

    by_producer_at : (o : Option Producer) → at st.producers (p - 1) ≡ o → Told (where_some (λ k. send_by p (producer.next_sending (slice_index_or w.sends (p - 1) []) k) st) o)
    by_producer_at None found = nothing
    by_producer_at (Some j) found = by_sending j found (producer.next_sending (slice_index_or w.sends (p - 1) []) j)

    told : Told acts
    told = by_producer_at (at st.producers (p - 1)) refl

    by : (t : Bool) → nat_lt w.limit (fold count_posts (length w.wire) (items_of acts)) ≡ t → Adds p 1 w (handle (input.Send p) st w).world
    by true e = absurd (true≢false (sym (fills w (items_of acts) e) ∙ open1))
    by false e = subst (λ l. (r : ℕ) → 0 < r → (queued_in_all (queue_list l r) ≤ queued_in_all (queue_list w.lists r) + 1) × ((r ≡ p → ⊥) → queued_in_all (queue_list l r) ≡ queued_in_all (queue_list w.lists r))) (sym h.lists_are) told
      where
        h : HandedOn w st acts (handle (input.Send p) st w).world
        h = inputs_hand_on w st (input.Send p) (turn_tells w.sends w.lists (input.Send p) st refl) (not_below w.limit (fold count_posts (length w.wire) (items_of acts)) e)

-- one step, and the rest, where the wire isn't full at the end
pub then_open : {A : Type 0} (m : Made) (q : Step) → (then_step m q).world.full ≡ false → (m.world.full ≡ false → (q m.world).world.full ≡ false → A) → A
then_open {A = A} m q open1 f = by m.world.full refl
  where
    by : (b : Bool) → m.world.full ≡ b → A
    by true e = absurd (true≢false (sym (ap (λ (n : Made). n.world.full) (then_stops m q e) ∙ e) ∙ open1))
    by false e = f e (sym (ap (λ (n : Made). n.world.full) (then_goes m q e)) ∙ open1)

pub then_world : (m : Made) (q : Step) → m.world.full ≡ false → (then_step m q).world ≡ (q m.world).world
then_world m q e = ap (λ (n : Made). n.world) (then_goes m q e)

give_adds : (c : Script) (trace : List Fact) (w : World) (n p : ℕ) → Sound c trace w → is_producer c p ≡ true → (give (input.Send p) (node_at w n) w).world.full ≡ false → Adds p 1 w (give (input.Send p) (node_at w n) w).world
give_adds c trace w n p s is = by (node_at w n) refl
  where
    by : (o : Option Node) → at w.nodes (n - 1) ≡ o → (give (input.Send p) o w).world.full ≡ false → Adds p 1 w (give (input.Send p) o w).world
    by None e open1 = adds_none p 1 w w (λ r. refl)
    by (Some st) e open1 = send_adds c trace w (n - 1) st p s e is open1

waiting_adds : Laws → (c : Script) (trace : List Fact) (p n k : ℕ) (w : World) → Sound c trace w → is_producer c p ≡ true → (world.send_waiting p n k w).world.full ≡ false → Adds p k w (world.send_waiting p n k w).world
waiting_adds laws c trace p n zero w s is open1 = adds_none p 0 w w (λ r. refl)
waiting_adds laws c trace p n (suc k) w s is open1 =
    let m : Made = give (input.Send p) (node_at w n) w in
    then_open m (world.send_waiting p n k) open1
    (λ first rest. subst (Adds p (suc k) w) (sym (then_world m (world.send_waiting p n k) first))
    (subst (λ j. Adds p j w (world.send_waiting p n k m.world).world) (one_plus k) (adds_both p 1 k w m.world (world.send_waiting p n k m.world).world (give_adds c trace w n p s is first)
    (waiting_adds laws c (trace ++ m.facts) p n k m.world (give_leads laws c w (input.Send p) (node_at w n) (at_place w n) (λ trace s st j e. is) tt trace s) is rest))))
  where
    one_plus : (k : ℕ) → 1 + k ≡ suc k
    one_plus k = omega arith

-- What stands after so many sends were ordered.

pub record State (n : ℕ) (w : World) (f : ℕ → ℕ) : Type 0 where
  pub posted : Posted w
  pub long : length w.ordered ≡ n
  pub ordered_are : (p : ℕ) → is_in 1 n p ≡ true → ordered_of w p ≡ f p
  pub queued_are : (p : ℕ) → is_in 1 n p ≡ true → queued_in_all (queue_list w.lists p) ≤ ordered_of w p

counted : (c : Script) (w : World) (f : ℕ → ℕ) → State c.config.producers w f → ((p : ℕ) → is_in 1 c.config.producers p ≡ true → f p ≤ length (sends c p)) → Counted c w
counted c w f s fits = record {
  fresh_are = s.posted.fresh_are;
  past_is = s.posted.past_is;
  ordered = record {
    queued_ordered = s.queued_are;
    ordered_sent = λ p is. subst (λ n. n ≤ length (sends c p)) (sym (s.ordered_are p is)) (fits p is);
    beyond = λ p e past. ap (λ n. count_to e (take n (sends c p))) (outside w.ordered (p - 1) (less c.config.producers (length w.ordered) p s.long past)) ∙ none (sends c p) e;
  };
}
  where
    less : (n l p : ℕ) → l ≡ n → n < p → l ≤ p - 1
    less n l p e h = omega (arith, e, h)

    outside : (ls : List ℕ) (i : ℕ) → length ls ≤ i → slice_index_or ls i 0 ≡ 0
    outside [] i h = refl
    outside (l ∷ ls) zero h = absurd (no (length ls) h)
      where
        no : (n : ℕ) → suc n ≤ 0 → ⊥
        no n h = omega (arith, h)
    outside (l ∷ ls) (suc i) h = outside ls i (fewer (length ls) i h)
      where
        fewer : (n i : ℕ) → suc n ≤ suc i → n ≤ i
        fewer n i h = omega (arith, h)

    none : (xs : List Sending) (e : List ℕ) → count_to e (take 0 xs) ≡ 0
    none [] e = refl
    none (x ∷ xs) e = refl

-- An order.

-- before it no more is queued than was ordered before
abbrev Slack : ℕ → World → Order → Type 0
Slack n w o = (p : ℕ) → is_in 1 n p ≡ true → queued_in_all (queue_list w.lists p) + sends_by p o ≤ ordered_of w p

abbrev Covered : ℕ → World → World → Type 0
Covered n w v = (p : ℕ) → is_in 1 n p ≡ true → queued_in_all (queue_list v.lists p) ≤ ordered_of w p

-- what adds as many as are missing is covered
adds_cover : (n p k : ℕ) (w u v : World) → 0 < p → ((r : ℕ) → is_in 1 n r ≡ true → queued_in_all (queue_list u.lists r) ≤ ordered_of w r) → queued_in_all (queue_list u.lists p) + k ≤ ordered_of w p → Adds p k u v → ((r : ℕ) → is_in 1 n r ≡ true → 0 < r) → Covered n w v
adds_cover n p k w u v above before room adds positive r is = by_place (queued_in_all (queue_list v.lists r) ≤ ordered_of w r) r p
    (λ same. most (queued_in_all (queue_list v.lists r)) (queued_in_all (queue_list u.lists r)) k (ordered_of w r) (adds r (positive r is)).0 (subst (λ m. queued_in_all (queue_list u.lists m) + k ≤ ordered_of w m) (sym same) room))
    (λ other. subst (λ m. m ≤ ordered_of w r) (sym ((adds r (positive r is)).1 other)) (before r is))
  where
    most : (a b k o : ℕ) → a ≤ b + k → b + k ≤ o → a ≤ o
    most a b k o h g = omega (arith, h, g)

pub record Known3 : Type 0 where
  pub laws : Laws
  pub rests : Rests
  pub falls : DeliveryFalls
  pub ticks : TickCosts

in_positive : (n p : ℕ) → is_in 1 n p ≡ true → 0 < p
in_positive n p h = low p (at_most 1 p (and_both (nat_le 1 p) (nat_le p n) h).0)
  where
    low : (p : ℕ) → 1 ≤ p → 0 < p
    low p h = omega (arith, h)

send_covers : (c : Script) (trace : List Fact) (w : World) (p : ℕ) (e : List ℕ) (k : Command) → Sound c trace w → is_producer c p ≡ true → Slack c.config.producers w (order.Send p e k) → (world.send p e k w).world.full ≡ false → Covered c.config.producers w (world.send p e k w).world
send_covers c trace w p e k s is slack = by (node_of w (queue_holder w p)) (of_placed w (queue_holder w p))
  where
    less : (a b o : ℕ) → a + b ≤ o → a ≤ o
    less a b o h = omega (arith, h)

    before : (r : ℕ) → is_in 1 c.config.producers r ≡ true → queued_in_all (queue_list w.lists r) ≤ ordered_of w r
    before r i = less (queued_in_all (queue_list w.lists r)) (sends_by r (order.Send p e k)) (ordered_of w r) (slack r i)

    one : sends_by p (order.Send p e k) ≡ 1
    one = ap (λ t. if t then 1 else 0) (number_itself p p refl)

    room : queued_in_all (queue_list w.lists p) + 1 ≤ ordered_of w p
    room = subst (λ n. queued_in_all (queue_list w.lists p) + n ≤ ordered_of w p) one (slack p is)

    by : (o : Option Node) → IsPlaced w.nodes o → (world.give_or (input.Send p) o (tell (fact.Waits p e k ∷ [])) w).world.full ≡ false → Covered c.config.producers w (world.give_or (input.Send p) o (tell (fact.Waits p e k ∷ [])) w).world
    by None placed open1 = before
    by (Some st) placed open1 = adds_cover c.config.producers p 1 w w (handle (input.Send p) st w).world (producer_above c p is) before room (send_adds c trace w (placed st refl).place st p s (placed st refl).here is open1) (in_positive c.config.producers)

produce_covers : Laws → (c : Script) (trace : List Fact) (w : World) (p n : ℕ) → Sound c trace w → is_producer c p ≡ true → Covered c.config.producers w w → (world.produce p n w).world.full ≡ false → Covered c.config.producers w (world.produce p n w).world
produce_covers laws c trace w p n s is before = by (is_none (node_at w n) || world.is_of_node n (queue_holder w p))
  where
    m : Made
    m = give (input.Produce p) (node_at w n) w

    kept : Kept true w m.world
    kept = give_stays true (input.Produce p) (node_at w n) (λ e. refl) w

    mid : (r : ℕ) → is_in 1 c.config.producers r ≡ true → queued_in_all (queue_list m.world.lists r) ≤ ordered_of w r
    mid r i = subst (λ a. a ≤ ordered_of w r) (sym (kept.in_all refl r)) (before r i)

    still : (r : ℕ) → ordered_of m.world r ≡ ordered_of w r
    still r = ap (λ l. slice_index_or l (r - 1) 0) kept.ordered_is

    waits : ℕ
    waits = ordered_of m.world p - queued_in_all (queue_list m.world.lists p)

    fits : (a o v : ℕ) → a ≤ o → v ≡ o → a + (v - a) ≤ o
    fits a o v h e = omega (arith, h, e)

    sent : (b : Bool) → (if b then world.send_waiting p n waits m.world else tell [] m.world).world.full ≡ false → Covered c.config.producers w (if b then world.send_waiting p n waits m.world else tell [] m.world).world
    sent true open1 = adds_cover c.config.producers p waits w m.world (world.send_waiting p n waits m.world).world (producer_above c p is) mid (fits (queued_in_all (queue_list m.world.lists p)) (ordered_of w p) (ordered_of m.world p) (mid p is) (still p))
        (waiting_adds laws c (trace ++ m.facts) p n waits m.world (give_leads laws c w (input.Produce p) (node_at w n) (at_place w n) (λ trace s st j e. is) tt trace s) is open1) (in_positive c.config.producers)
    sent false open1 = mid

    by : (b : Bool) → (if b then world.nothing w else then_step m (world.send_all_waiting p n)).world.full ≡ false → Covered c.config.producers w (if b then world.nothing w else then_step m (world.send_all_waiting p n)).world
    by true open1 = before
    by false open1 = then_open m (world.send_all_waiting p n) open1 (λ first rest. subst (Covered c.config.producers w) (sym (then_world m (world.send_all_waiting p n) first)) (sent (world.is_of_node n (queue_holder m.world p)) rest))

settle_covers : Known3 → (c : Script) (trace : List Fact) (w : World) (f : ℕ → ℕ) → Sound c trace w → w.full ≡ false → State c.config.producers w f → ((p : ℕ) → is_in 1 c.config.producers p ≡ true → f p ≤ length (sends c p)) → (settle w).world.full ≡ false → Covered c.config.producers w (settle w).world
settle_covers k c trace w f s full state fits open1 = by (settles_from k.rests k.falls k.ticks c w s.set_is (sound_downs k.laws k.rests.sendings c trace w s full (counted c w f state fits)))
  where
    of_equal : {a b : ℕ} → a ≡ b → a ≤ b
    of_equal {a = a} {b = b} e = omega (arith, e)

    by : Settles c w (settle w) → Covered c.config.producers w (settle w).world
    by (inl e) = absurd (true≢false (sym e.full ∙ open1))
    by (inr e) = λ p is. of_equal (e.all_queued p is)

play_covers : Known3 → (o : Order) (c : Script) (trace : List Fact) (w : World) (f : ℕ → ℕ) → is_order c.config o ≡ true → Sound c trace w → w.full ≡ false → State c.config.producers w f → ((p : ℕ) → is_in 1 c.config.producers p ≡ true → f p ≤ length (sends c p)) → Slack c.config.producers w o → (world.play o w).world.full ≡ false → Covered c.config.producers w (world.play o w).world
play_covers k (order.Send p e x) c trace w f fits s full state less slack open1 = send_covers c trace w p e x s (and_both (is_in 1 c.config.producers p) (is_of_kind c.config.kind x) fits).0 slack open1
play_covers k (order.Produce p n) c trace w f fits s full state less slack open1 = produce_covers k.laws c trace w p n s (and_both (is_in 1 c.config.producers p) (is_in 1 c.config.nodes n) fits).0 state.queued_are open1
play_covers k order.Settle c trace w f fits s full state less slack open1 = settle_covers k c trace w f s full state less open1
play_covers k o c trace w f fits s full state less slack open1 = λ p is. subst (λ a. a ≤ ordered_of w p) (sym ((play_stays true o (λ e. refl) w).in_all refl p)) (state.queued_are p is)

-- A line.

ordered_more : (c : Script) (w : World) (f : ℕ → ℕ) (o : Order) → is_order c.config o ≡ true → length w.ordered ≡ c.config.producers → ((p : ℕ) → is_in 1 c.config.producers p ≡ true → ordered_of w p ≡ f p) → (p : ℕ) → is_in 1 c.config.producers p ≡ true → ordered_of (with_order (Some o) w) p ≡ f p + sends_by p o
ordered_more c w f (order.Send q e k) fits long are p is = by (q == p) refl
  where
    n : ℕ
    n = c.config.producers

    above : 0 < p
    above = in_positive n p is

    above_q : 0 < q
    above_q = in_positive n q (and_both (is_in 1 n q) (is_of_kind c.config.kind k) fits).0

    high : (p n : ℕ) → is_in 1 n p ≡ true → p ≤ n
    high p n h = at_most p n (and_both (nat_le 1 p) (nat_le p n) h).1

    within : (p n l : ℕ) → 0 < p → p ≤ n → l ≡ n → p - 1 < l
    within p n l h k e = omega (arith, h, k, e)

    none : (a : ℕ) → a ≡ a + 0
    none a = omega arith

    equal : (q p : ℕ) → 0 < p → 0 < q → p - 1 ≡ q - 1 → q ≡ p
    equal q p h k e = omega (arith, h, k, e)

    by : (t : Bool) → (q == p) ≡ t → ordered_of (with_order (Some (order.Send q e k)) w) p ≡ f p + (if t then 1 else 0)
    by true h =
        let same : q ≡ p = same_number q p h in
        subst (λ m. slice_index_or (slice_set w.ordered (m - 1) (ordered_of w m + 1)) (p - 1) 0 ≡ f p + 1) (sym same)
        (get_or-set_same w.ordered (p - 1) (ordered_of w p + 1) 0 (within p n (length w.ordered) above (high p n is) long) ∙ ap (λ m. m + 1) (are p is))
    by false h = get_or-set_other w.ordered (q - 1) (p - 1) (ordered_of w q + 1) 0 (λ at. true≢false (sym (number_itself q p (equal q p above above_q at)) ∙ h)) ∙ (are p is ∙ none (f p))
ordered_more c w f o fits long are p is = are p is ∙ none (f p)
  where
    none : (a : ℕ) → a ≡ a + 0
    none a = omega arith

-- the rest of the world stays
order_posted : (o : Order) (w : World) → Posted w → Posted (with_order (Some o) w)
order_posted (order.Send q e k) w p = record { fresh_are = p.fresh_are; past_is = p.past_is }
order_posted o w p = p

order_long : (o : Order) (w : World) → length (with_order (Some o) w).ordered ≡ length w.ordered
order_long (order.Send q e k) w = length-set w.ordered (q - 1) (ordered_of w q + 1)
order_long o w = refl

order_lists : (o : Order) (w : World) → (with_order (Some o) w).lists ≡ w.lists
order_lists (order.Send q e k) w = refl
order_lists o w = refl

order_full : (o : Order) (w : World) → (with_order (Some o) w).full ≡ w.full
order_full (order.Send q e k) w = refl
order_full o w = refl

line_goes : Known3 → (l : Line) (w : World) (era : Era) (f : ℕ → ℕ) → is_played era.script l.order ≡ true → Sound era.script era.trace w → w.full ≡ false → State era.script.config.producers w f → ((p : ℕ) → is_in 1 era.script.config.producers p ≡ true → f p + sends_by p l.order ≤ length (sends era.script p))
    → (play_line l w).world.full ≡ false → State era.script.config.producers (play_line l w).world (λ p. f p + sends_by p l.order)
line_goes k l w era f played s full state fits open1 = subst (λ v. State n v g) (sym (then_world at_line (world.play l.order) full1)) (record {
  posted = kept.posted posted1;
  long = ap length kept.ordered_is ∙ (order_long l.order w ∙ state.long);
  ordered_are = λ p is. ap (λ ls. slice_index_or ls (p - 1) 0) kept.ordered_is ∙ ordered1 p is;
  queued_are = λ p is. subst (λ ls. queued_in_all (queue_list (world.play l.order w1).world.lists p) ≤ slice_index_or ls (p - 1) 0) (sym kept.ordered_is)
      (play_covers k l.order c (era.trace ++ fact.At l.number ∷ []) w1 g order_fits sound1 full1 state1 fits slack open2 p is);
})
  where
    c : Script
    c = era.script

    n : ℕ
    n = era.script.config.producers

    g : ℕ → ℕ
    g p = f p + sends_by p l.order

    order_fits : is_order era.script.config l.order ≡ true
    order_fits = (and_both (is_order era.script.config l.order) (is_named era.script l.order) (and_both (is_order era.script.config l.order && is_named era.script l.order) _ played).0).0

    v0 : World
    v0 = with_order (Some l.order) w

    at_line : Made
    at_line = tell (fact.At l.number ∷ []) v0

    w1 : World
    w1 = world_after v0 (fact.At l.number)

    full1 : w1.full ≡ false
    full1 = order_full l.order w ∙ full

    open2 : (world.play l.order w1).world.full ≡ false
    open2 = sym (ap (λ (x : World). x.full) (then_world at_line (world.play l.order) full1)) ∙ open1

    sound1 : Sound c (era.trace ++ fact.At l.number ∷ []) w1
    sound1 = heard k.laws c v0 (fact.At l.number) refl refl era.trace (ordered_sound c era.trace (Some l.order) w s)

    posted1 : Posted w1
    posted1 = let p : Posted v0 = order_posted l.order w state.posted in record { fresh_are = p.fresh_are; past_is = p.past_is }

    ordered1 : (p : ℕ) → is_in 1 n p ≡ true → ordered_of w1 p ≡ g p
    ordered1 = ordered_more c w f l.order order_fits state.long state.ordered_are

    before : (p : ℕ) → is_in 1 n p ≡ true → queued_in_all (queue_list w1.lists p) + sends_by p l.order ≤ ordered_of w1 p
    before p is = sums (queued_in_all (queue_list w1.lists p)) (queued_in_all (queue_list w.lists p)) (sends_by p l.order) (f p) (ordered_of w p) (ordered_of w1 p) (ap (λ ls. queued_in_all (queue_list ls p)) (order_lists l.order w)) (state.queued_are p is) (state.ordered_are p is) (ordered1 p is)
      where
        sums : (a b d x o v : ℕ) → a ≡ b → b ≤ o → o ≡ x → v ≡ x + d → a + d ≤ v
        sums a b d x o v e h i j = omega (arith, e, h, i, j)

    slack : Slack n w1 l.order
    slack = before

    state1 : State n w1 g
    state1 = record {
      posted = posted1;
      long = order_long l.order w ∙ state.long;
      ordered_are = ordered1;
      queued_are = λ p is. less (queued_in_all (queue_list w1.lists p)) (sends_by p l.order) (ordered_of w1 p) (before p is);
    }
      where
        less : (a b o : ℕ) → a + b ≤ o → a ≤ o
        less a b o h = omega (arith, h)

    kept : Kept false w1 (world.play l.order w1).world
    kept = play_stays false l.order (λ e. absurd (true≢false (sym e))) w1

-- Lines.

-- another era is of the same orders and producers
record SameScript (a b : Script) : Type 0 where
  orders_are : b.orders ≡ a.orders
  producers_are : b.config.producers ≡ a.config.producers

same_script : (fs : List Fact) (era : Era) → SameScript era.script (fold era_step era fs).script
same_script [] era = record { orders_are = refl; producers_are = refl }
same_script (f ∷ fs) era = let a : SameScript era.script (era_step era f).script = one f in let b : SameScript (era_step era f).script (fold era_step (era_step era f) fs).script = same_script fs (era_step era f) in
    record { orders_are = b.orders_are ∙ a.orders_are; producers_are = b.producers_are ∙ a.producers_are }
  where
    one : (f : Fact) → SameScript era.script (era_step era f).script
    one (fact.Reshard n k) = record { orders_are = refl; producers_are = refl }
    one f = record { orders_are = refl; producers_are = refl }

pub lines_go : Known3 → (n : ℕ) (ls : List Line) (w : World) (era : Era) (f : ℕ → ℕ) → era.script.config.producers ≡ n → list_all (λ (l : Line). is_played era.script l.order) ls ≡ true → Sound era.script era.trace w → w.full ≡ false → State n w f
    → ((p : ℕ) → is_in 1 n p ≡ true → f p + all_by p ls ≤ length (sends era.script p)) → (in_order (map play_line ls) w).world.full ≡ false → State n (in_order (map play_line ls) w).world (λ p. f p + all_by p ls)
lines_go k n [] w era f same played s full state fits open1 = record { posted = state.posted; long = state.long; ordered_are = λ p is. state.ordered_are p is ∙ none (f p); queued_are = state.queued_are }
  where
    none : (a : ℕ) → a ≡ a + 0
    none a = omega arith
lines_go k n (l ∷ ls) w era f same played s full state fits open1 =
    let h : (is_played era.script l.order ≡ true) × (list_all (λ (l : Line). is_played era.script l.order) ls ≡ true) = and_both (is_played era.script l.order) (list_all (λ (l : Line). is_played era.script l.order) ls) played in
    let m : Made = play_line l w in
    then_open m (in_order (map play_line ls)) open1 (λ first rest.
    let next : Era = fold era_step era m.facts in
    let lead : LeadsOn era m = line_on k.laws l w era h.0 s in
    let st : State n m.world (λ p. f p + sends_by p l.order) = subst (λ x. State x m.world (λ p. f p + sends_by p l.order)) same (line_goes k l w era f h.0 s full (subst (λ x. State x w f) (sym same) state) (λ p is. less (f p) (sends_by p l.order) (all_by p ls) (length (sends era.script p)) (fits p (subst (λ x. is_in 1 x p ≡ true) same is))) first) in
    subst (λ v. State n v (λ p. f p + all_by p (l ∷ ls))) (sym (then_world m (in_order (map play_line ls)) first))
    (regroup f l ls (in_order (map play_line ls) m.world).world
    (lines_go k n ls m.world next (λ p. f p + sends_by p l.order) ((same_script m.facts era).producers_are ∙ same) (lines_still ls m.facts era h.1) lead.sound first st
    (λ p is. subst (λ x. f p + sends_by p l.order + all_by p ls ≤ length (fold (with_send_of p) [] x)) (sym (same_script m.facts era).orders_are) (joined (f p) (sends_by p l.order) (all_by p ls) (length (sends era.script p)) (fits p is))) rest)))
  where
    less : (a b d t : ℕ) → a + (b + d) ≤ t → a + b ≤ t
    less a b d t h = omega (arith, h)

    joined : (a b d t : ℕ) → a + (b + d) ≤ t → a + b + d ≤ t
    joined a b d t h = omega (arith, h)

    regroup : (f : ℕ → ℕ) (l : Line) (ls : List Line) (v : World) → State n v (λ p. f p + sends_by p l.order + all_by p ls) → State n v (λ p. f p + (sends_by p l.order + all_by p ls))
    regroup f l ls v t = record { posted = t.posted; long = t.long; ordered_are = λ p is. t.ordered_are p is ∙ moved (f p) (sends_by p l.order) (all_by p ls); queued_are = t.queued_are }
      where
        moved : (a b d : ℕ) → a + b + d ≡ a + (b + d)
        moved a b d = omega arith

-- The settling after them.

begin_state : (c : Script) (limit : ℕ) → State c.config.producers (new_world c limit) (λ p. 0)
begin_state c limit = record {
  posted = record { fresh_are = refl; past_is = le_itself 0 };
  long = length-replicate c.config.producers 0;
  ordered_are = λ p is. get_replicate c.config.producers (p - 1) 0;
  queued_are = λ p is. subst (λ l. queued_in_all l ≤ ordered_of (new_world c limit) p) (sym (get_replicate c.config.producers (p - 1) [])) (least (ordered_of (new_world c limit) p));
}
  where
    least : (n : ℕ) → 0 ≤ n
    least n = omega arith

all_by_fewer : (p n : ℕ) (ls : List Line) → all_by p (take n ls) ≤ all_by p ls
all_by_fewer p zero ls = least (all_by p ls)
  where
    least : (n : ℕ) → 0 ≤ n
    least n = omega arith
all_by_fewer p (suc n) [] = le_itself 0
all_by_fewer p (suc n) (l ∷ ls) = more (sends_by p l.order) (all_by p (take n ls)) (all_by p ls) (all_by_fewer p n ls)
  where
    more : (a x y : ℕ) → x ≤ y → a + x ≤ a + y
    more a x y h = omega (arith, h)

pub orders_settle : Known3 → PlayedIsSound → OrdersSettle
orders_settle k sounds c limit n script open1 =
    settles_from k.rests k.falls k.ticks end.script m.world s.set_is (sound_downs k.laws k.rests.sendings end.script end.trace m.world s open1
    (counted end.script m.world (λ p. 0 + all_by p (take n c.orders)) (subst (λ x. State x m.world (λ p. 0 + all_by p (take n c.orders))) (sym same.producers_are) state) (λ p is. subst (λ x. 0 + all_by p (take n c.orders) ≤ length (fold (with_send_of p) [] x)) (sym same.orders_are) (within p))))
  where
    m : Made
    m = in_order (map play_line (take n c.orders)) (new_world c limit)

    end : Era
    end = fold era_step (first_era c) m.facts

    s : Sound end.script end.trace m.world
    s = (sounds c limit n script).sound

    same : SameScript c end.script
    same = same_script m.facts (first_era c)

    within : (p : ℕ) → 0 + all_by p (take n c.orders) ≤ length (sends c p)
    within p = most (all_by p (take n c.orders)) (all_by p c.orders) (length (sends c p)) (all_by_fewer p n c.orders) (all_more p c.orders [])
      where
        most : (a b l : ℕ) → a ≤ b → l ≡ 0 + b → 0 + a ≤ l
        most a b l h e = omega (arith, h, e)

    begin : Sound c [] (new_world c limit)
    begin = (sounds c limit 0 script).sound

    state : State c.config.producers m.world (λ p. 0 + all_by p (take n c.orders))
    state = lines_go k c.config.producers (take n c.orders) (new_world c limit) (first_era c) (λ p. 0) refl (all_take (λ (l : Line). is_played c l.order) n c.orders (orders_played c script)) begin refl (begin_state c limit) (λ p is. within p) open1

pub settle_line_settles : OrdersSettle → SettleLineSettles
settle_line_settles settles c limit n number script open1 = by (settles c limit n script open1)
  where
    m : Made
    m = in_order (map play_line (take n c.orders)) (new_world c limit)

    e : Script
    e = (era_of c m.facts).script

    l : Line
    l = record { number = number; order = order.Settle }

    r : Made
    r = settle m.world

    line_is : play_line l m.world ≡ record { facts = fact.At number ∷ r.facts; world = r.world }
    line_is = then_goes (tell (fact.At number ∷ []) m.world) settle open1

    by : Settles e m.world r → Settles e m.world (play_line l m.world)
    by (inl f) = subst (Settles e m.world) (sym line_is) (inl (record { full = f.full; counted = f.counted; unsettled = f.unsettled; over = f.over }))
    by (inr s) = subst (Settles e m.world) (sym line_is) (inr (record {
      not_full = s.not_full;
      counted = s.counted;
      front = fact.At number ∷ s.front;
      ends = ap (λ fs. fact.At number ∷ fs) s.ends;
      once = s.once;
      settled_is = s.settled_is;
      all_queued = s.all_queued;
      lawful_is = s.lawful_is;
      none_up = s.none_up;
      unheld = s.unheld;
      longer = s.longer;
    }))
