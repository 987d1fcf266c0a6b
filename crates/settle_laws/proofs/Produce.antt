-- Producing: a queue is taken, and the sends that wait are queued and pushed.
use Rattle.std.proofs.Common.{◌≡◌, ◌<◌, ◌≤◌, ◌⊎◌, inl, inr, ℕ, suc, ◌+◌, ◌-◌, ◌*◌, List, [], ◌∷◌, ◌++◌, length, map, sym, ap, subst, ◌∙◌, refl, true, false, arith, length-append}
use Rattle.std.specs.Prelude.{Bool, not, fold, Option, Some, None, is_none, slice_set, if◌then◌else◌}
use Rattle.std.specs.List.{list_any}
use Rattle.std.proofs.lemmas.List.{length-set, set-get_or}
use Rattle.std.proofs.lemmas.List.Sums.{sum_by-set}
use Rattle.yard_model.specs.declared.fact.Fact.{Fact}
use Rattle.yard_model.specs.declared.fact.Fact.TheVariants as fact
use Rattle.yard_model.specs.declared.packet.Message.{Message}
use Rattle.yard_model.specs.declared.incarnation.Incarnation.{Incarnation}
use Rattle.yard_model.specs.Entities.{cell_in}
use Rattle.yard_model.specs.Move.{told}
use Rattle.yard_model.specs.Node.{Node, Act, by_entities, after}
use Rattle.yard_model.specs.Producer.{Producer}
use Rattle.yard_model.specs.Script.{is_name}
use Rattle.yard_model.specs.Setting.{place}
use Rattle.yard_model.specs.SlotReads.{holder}
use Rattle.plain_laws.proofs.Booleans.{and_both, same_name}
use Rattle.settle_laws.specs.Alone.{Base, Alone, node_with, recorded, confirmed_by, queued_by, sent_by, producer_at, IsThere, is_active, Fits, is_requesting, AreBounded, Stands, cells_load, wire_load, lefts, kept_load, total, load, Goes}
use Rattle.settle_laws.proofs.Records.{le_itself, le_then}
use Rattle.settle_laws.proofs.Tools.{entered_both, each_map, IsPaced}
use Rattle.yard_model.specs.Region.{kept_of}
use Rattle.yard_model.specs.Node.{by_region, route}
use Rattle.std.specs.Prelude.{max, sum_by}
use Rattle.yard_model.specs.Producer as producer
use Rattle.yard_model.specs.Producer.{Progress, no_progress, progress, producer_after, pairs_step, to_push, allowed}
use Rattle.yard_model.specs.SlotReads.{queued, confirmed, commands, confirmed_step, commands_step}
use Rattle.yard_model.specs.Node.{by_producer, of_producer}
use Rattle.std.specs.List.{sum_by, fold}
use Rattle.std.proofs.lemmas.List.Sums.{fold-append, sum_by-cons}
use Rattle.plain_laws.proofs.Lists.{inside, placed_at, placed_beside}
use Rattle.settle_laws.specs.Alone.{demand_by, left_by, left_of, none_later}
use Rattle.settle_laws.proofs.Write.{fits_more}
use Rattle.yard_model.specs.Node.{push, route_numbers, Rule}
use Rattle.yard_model.specs.Producer.{message_of, progress_in}
use Rattle.yard_model.specs.Turns.{where_some}
use Rattle.settle_laws.proofs.Producers.{with_producer}
use Rattle.yard_model.specs.Node.{ack, request}
use Rattle.yard_model.specs.declared.incarnation.Slot.{Slot}
use Rattle.yard_model.specs.declared.incarnation.Slot.TheVariants as slot
use Rattle.yard_model.specs.declared.charter.Sending.{Sending}
use Rattle.yard_model.specs.Script.{count_to}
use Rattle.yard_model.specs.SlotLists.{SlotLists, queue_list}
use Rattle.yard_model.specs.SlotReads.{holder, epoch}
use Rattle.yard_model.specs.Node.{produce, send_by, acquire_by}
use Rattle.yard_model.specs.Producer.{new_producer}
use Rattle.plain_laws.proofs.Booleans.{get_replicate, of_not}
use Rattle.std.specs.List.{list_all}
use Rattle.std.specs.Prelude.{filter}
use Rattle.plain_laws.specs.Names.{AllDiffer}
use Rattle.std.proofs.lemmas.List.{length-replicate}
use Rattle.settle_laws.specs.Steps.{out_by, outs_at}
use Rattle.settle_laws.specs.Produced.{Leads, outs_in, MayProduce}
use Rattle.settle_laws.proofs.Producers.{with_producer, each_producer, word_more, some_producer, sum_less}
use Rattle.settle_laws.proofs.Queues.{push_goes, goes_end, PushedOf}

pub record Holds (b : Base) (z : Alone) (p : ℕ) (o : Option Producer) (new : Producer) : Type 0 where
  pub above : 0 < p
  pub less : p - 1 < length z.producers
  pub found : producer_at z.producers p ≡ o
  pub is : (new.who ≡ b.who) × (new.set ≡ b.set) × (new.number ≡ p) × (length new.pairs ≡ length b.set.names)
  pub queued_on : (f : List ℕ) → queued_by f o ≤ queued f new.entries
  pub queued_made : (f : List ℕ) → queued f new.entries ≤ b.made p f
  pub confirmed_recorded : (f : List ℕ) → confirmed f new.entries ≤ recorded b z.hosted p f
  pub confirmed_queued : (f : List ℕ) → confirmed f new.entries ≤ queued f new.entries
  pub paced : (f : List ℕ) → ((((progress new f).demand ≡ 0) × ((progress new f).sent ≤ confirmed f new.entries + 1) × (list_any (is_requesting p f) z.wire ≡ false)) ⊎ ((is_active b z.cells f ≡ true) × (((progress new f).sent ≤ recorded b z.hosted p f) ⊎ ⊥)))

pub put_any : (b : Base) (z : Alone) (p : ℕ) (o : Option Producer) (new : Producer) → Stands b none_later z → Holds b z p o new → Stands b none_later (with_producer z p new)
put_any b z p o new s t = record {
  base_is = s.base_is;
  homes_there = s.homes_there;
  asked_there = s.asked_there;
  kept_there = s.kept_there;
  hosted_there = s.hosted_there;
  cells_there = s.cells_there;
  homes = s.homes;
  marks = s.marks;
  running = s.running;
  free = s.free;
  hosts = s.hosts;
  regions_are = s.regions_are;
  lease_is = s.lease_is;
  allocated = s.allocated;
  asking = s.asking;
  settled = s.settled;
  live = s.live;
  loading = s.loading;
  kept = λ u. each_map _ _ (kept_of z.kept u) (λ x h. (h.0, fits_on x h.1)) (s.kept u);
  stashed = λ f. each_map _ _ (cell_in b.set z.cells f).stash (λ x h. (h.0, fits_on x h.1)) (s.stashed f);
  posted = s.posted;
  producing = λ q j is. each_producer (λ q o. (j : Producer) → o ≡ Some j → (j.who ≡ b.who) × (j.set ≡ b.set) × (j.number ≡ q) × (length j.pairs ≡ length b.set.names)) z.producers p new t.above t.less
      (λ j e. subst (λ (x : Producer). (x.who ≡ b.who) × (x.set ≡ b.set) × (x.number ≡ p) × (length x.pairs ≡ length b.set.names)) (some_producer new j e) t.is) (λ q is j. s.producing q j is) q is j;
  bounded = λ q f is. each_producer (λ q o. (confirmed_by f o ≤ recorded b z.hosted q f) × (confirmed_by f o ≤ queued_by f o) × (queued_by f o ≤ b.made q f) × (recorded b z.hosted q f ≤ b.made q f)) z.producers p new t.above t.less
      (t.confirmed_recorded f, t.confirmed_queued f, t.queued_made f, (s.bounded p f t.above).3) (λ q is. s.bounded q f is) q is;
  paced = λ q f is. each_producer (λ q o. ((demand_by f o ≡ 0) × (sent_by f o ≤ confirmed_by f o + 1) × (list_any (is_requesting q f) z.wire ≡ false)) ⊎ ((is_active b z.cells f ≡ true) × ((sent_by f o ≤ recorded b z.hosted q f) ⊎ ⊥))) z.producers p new t.above t.less
      (t.paced f) (λ q is. s.paced q f is) q is;
}
  where
    queued_grows : (q : ℕ) (f : List ℕ) → queued_by f (producer_at z.producers q) ≤ queued_by f (producer_at (slice_set z.producers (p - 1) (Some new)) q)
    queued_grows q f = word_more (queued_by f) z.producers p new t.less (subst (λ o. queued_by f o ≤ queued f new.entries) (sym t.found) (t.queued_on f)) q

    fits_on : (x : Message) → Fits b z.hosted z.producers x → Fits b z.hosted (slice_set z.producers (p - 1) (Some new)) x
    fits_on x = fits_more b z.hosted z.hosted z.producers (slice_set z.producers (p - 1) (Some new)) x (λ q f. le_itself (recorded b z.hosted q f)) queued_grows

-- what is left may rise
pub put_load : (b : Base) (z : Alone) (p : ℕ) (o : Option Producer) (new : Producer) (n : ℕ) → p - 1 < length z.producers → producer_at z.producers p ≡ o → left_of b.set.names (Some new) ≤ left_of b.set.names o + n → load b (with_producer z p new) ≤ load b z + 6 * n
put_load b z p o new n less found low =
    sums (lefts b z.producers) (lefts b (slice_set z.producers (p - 1) (Some new))) (cells_load z.cells) (kept_load z.kept) (wire_load z.wire) (left_of b.set.names (Some new)) (left_of b.set.names o) n
    (ap (λ o. lefts b (slice_set z.producers (p - 1) (Some new)) + left_of b.set.names o) (sym found) ∙ sum_by-set (left_of b.set.names) z.producers (p - 1) (Some new) None less) low
  where
    sums : (l l' v x w m k d : ℕ) → l' + k ≡ l + m → m ≤ k + d → total l' v x w ≤ total l v x w + 6 * d
    sums l l' v x w m k d e h = omega (arith, e, h)

-- Taking a queue.

pub queued_granted : (s : Slot) (n : ℕ) (x : Incarnation) (list : List Fact) (f : List ℕ) → queued f (list ++ fact.Granted s n x ∷ []) ≡ queued f list
queued_granted s n x list f = ap length (fold-append (commands_step f) [] list (fact.Granted s n x ∷ []))

pub confirmed_granted : (s : Slot) (n : ℕ) (x : Incarnation) (list : List Fact) (f : List ℕ) → confirmed f (list ++ fact.Granted s n x ∷ []) ≡ confirmed f list
confirmed_granted s n x list f = fold-append (confirmed_step f) 0 list (fact.Granted s n x ∷ [])

pub produce_leads : (b : Base) (z : Alone) (lists : SlotLists) (p : ℕ) → Stands b none_later z → MayProduce b z p (queue_list lists p)
    → Leads b (6 * outs_in b.set.names (queue_list lists p)) (λ to. to ≡ with_producer z p (new_producer b.set b.who p (queue_list lists p ++ fact.Granted (slot.Queue p) (epoch (queue_list lists p) + 1) b.who ∷ []))) z (produce lists p (node_with b z))
produce_leads b z lists p s m =
    subst (λ o. Leads b (6 * outs_in b.set.names list) (λ to. to ≡ now) z (if is_none o then map (by_producer p) (acquire_by (slot.Queue p) b.who list (holder list)) else [])) (sym m.none)
    (subst (λ o. Leads b (6 * outs_in b.set.names list) (λ to. to ≡ now) z (map (by_producer p) (acquire_by (slot.Queue p) b.who list o))) (sym m.free)
    (record {
      to = now;
      node_is = ap (λ l. node_with b (record z { producers = slice_set l (p - 1) (Some new) })) same;
      wire_is = refl;
      stands = put_any b z p None new s holds;
      costs = put_load b z p None new (outs_in b.set.names list) m.inside m.none rises;
      hosts_on = λ t h. h;
      entered = refl;
      also_is = refl;
    }))
  where
    list : List Fact
    list = queue_list lists p

    grant : Fact
    grant = fact.Granted (slot.Queue p) (epoch list + 1) b.who

    new : Producer
    new = new_producer b.set b.who p (list ++ grant ∷ [])

    now : Alone
    now = with_producer z p new

    same : slice_set z.producers (p - 1) (Rattle.yard_model.specs.Node.producer_by b.set b.who p (producer_at z.producers p) (told grant)) ≡ z.producers
    same = ap (λ o. slice_set z.producers (p - 1) (Rattle.yard_model.specs.Node.producer_by b.set b.who p o (told grant))) m.none ∙ (ap (slice_set z.producers (p - 1)) (sym m.none) ∙ set-get_or z.producers (p - 1) None)

    fresh : (f : List ℕ) → progress new f ≡ no_progress
    fresh f = get_replicate (length b.set.names) (place b.set f) no_progress

    queued_is : (f : List ℕ) → queued f new.entries ≡ queued f list
    queued_is f = queued_granted (slot.Queue p) (epoch list + 1) b.who list f

    confirmed_is : (f : List ℕ) → confirmed f new.entries ≡ confirmed f list
    confirmed_is f = confirmed_granted (slot.Queue p) (epoch list + 1) b.who list f

    zero_least : (n : ℕ) → 0 ≤ n
    zero_least n = omega arith

    zeroth : ℕ
    zeroth = 0

    holds : Holds b z p None new
    holds = record {
      above = m.above;
      less = m.inside;
      found = m.none;
      is = (refl, refl, refl, length-replicate (length b.set.names) no_progress);
      queued_on = λ f. zero_least (queued f new.entries);
      queued_made = λ f. subst (λ n. n ≤ b.made p f) (sym (queued_is f)) (m.queued_made f);
      confirmed_recorded = λ f. subst (λ n. n ≤ recorded b z.hosted p f) (sym (confirmed_is f)) (m.confirmed_recorded f);
      confirmed_queued = λ f. subst (λ n. n ≤ queued f new.entries) (sym (confirmed_is f)) (subst (λ n. confirmed f list ≤ n) (sym (queued_is f)) (m.confirmed_queued f));
      paced = λ f. subst (λ (x : Progress). ((x.demand ≡ 0) × (x.sent ≤ confirmed f new.entries + 1) × (list_any (is_requesting p f) z.wire ≡ false)) ⊎ ((is_active b z.cells f ≡ true) × ((x.sent ≤ recorded b z.hosted p f) ⊎ ⊥))) (sym (fresh f)) (begins f (s.paced p f m.above));
    }
      where
        begins : (f : List ℕ) → IsPaced b ⊥ z.hosted z.cells z.producers z.wire p f → ((zeroth ≡ zeroth) × (0 ≤ confirmed f new.entries + 1) × (list_any (is_requesting p f) z.wire ≡ false)) ⊎ ((is_active b z.cells f ≡ true) × ((0 ≤ recorded b z.hosted p f) ⊎ ⊥))
        begins f (inl h) = inl (refl, zero_least (confirmed f new.entries + 1), h.2)
        begins f (inr h) = inr (h.0, inl (zero_least (recorded b z.hosted p f)))

    rises : left_of b.set.names (Some new) ≤ left_of b.set.names None + outs_in b.set.names list
    rises = more (left_of b.set.names (Some new)) (outs_in b.set.names list) (left_of b.set.names None) (sum_less (λ f. queued f list - confirmed f list) (λ f. left_by f (Some new)) b.set.names
        (λ f. subst (λ q. q - max (progress new f).sent (confirmed f new.entries) ≤ queued f list - confirmed f list) (sym (queued_is f)) (subst (λ c. queued f list - max (progress new f).sent c ≤ queued f list - confirmed f list) (sym (confirmed_is f)) (lower (queued f list) (progress new f).sent (confirmed f list)))))
      where
        more : (x y k : ℕ) → x ≤ y → x ≤ k + y
        more x y k h = omega (arith, h)

        lower : (q t c : ℕ) → q - max t c ≤ q - c
        lower q t c = omega arith

-- Queueing a send.

pub queued_next : (entries : List Fact) (q : ℕ) (x : Sending) (f : List ℕ) → queued f (entries ++ fact.Queued q x.entity x.number x.command ∷ []) ≡ (if is_name x.entity f then queued f entries + 1 else queued f entries)
queued_next entries q x f = ap length (fold-append (commands_step f) [] entries (fact.Queued q x.entity x.number x.command ∷ [])) ∙ by (is_name x.entity f)
  where
    by : (t : Bool) → length (if t then commands f entries ++ x.command ∷ [] else commands f entries) ≡ (if t then queued f entries + 1 else queued f entries)
    by true = length-append (commands f entries) (x.command ∷ [])
    by false = refl

pub confirmed_next : (entries : List Fact) (q : ℕ) (x : Sending) (f : List ℕ) → confirmed f (entries ++ fact.Queued q x.entity x.number x.command ∷ []) ≡ confirmed f entries
confirmed_next entries q x f = fold-append (confirmed_step f) 0 entries (fact.Queued q x.entity x.number x.command ∷ [])

-- a sum that rises at one name, of names that differ
pub sum_apart : (f g : List ℕ → ℕ) (e : List ℕ) (names : List (List ℕ)) → list_all (λ y. not (is_name e y)) names ≡ true → ((y : List ℕ) → is_name e y ≡ false → g y ≤ f y) → sum_by g names ≤ sum_by f names
sum_apart f g e [] apart less = le_itself 0
sum_apart f g e (y ∷ ys) apart less =
    let m : (not (is_name e y) ≡ true) × (list_all (λ y. not (is_name e y)) ys ≡ true) = and_both (not (is_name e y)) (list_all (λ y. not (is_name e y)) ys) apart in
    subst (λ n. n ≤ sum_by f (y ∷ ys)) (sym (sum_by-cons g y ys)) (subst (λ n. g y + sum_by g ys ≤ n) (sym (sum_by-cons f y ys)) (sums (g y) (f y) (sum_by g ys) (sum_by f ys) (less y (of_not (is_name e y) m.0)) (sum_apart f g e ys m.1 less)))
  where
    sums : (a b c d : ℕ) → a ≤ b → c ≤ d → a + c ≤ b + d
    sums a b c d h k = omega (arith, h, k)

pub sum_once : (f g : List ℕ → ℕ) (e : List ℕ) (names : List (List ℕ)) → AllDiffer names → ((y : List ℕ) → g y ≤ f y + 1) → ((y : List ℕ) → is_name e y ≡ false → g y ≤ f y) → sum_by g names ≤ sum_by f names + 1
sum_once f g e [] differ once less = nothing 0
  where
    nothing : (n : ℕ) → n ≤ n + 1
    nothing n = omega arith
sum_once f g e (y ∷ ys) differ once less = subst (λ n. n ≤ sum_by f (y ∷ ys) + 1) (sym (sum_by-cons g y ys)) (subst (λ n. g y + sum_by g ys ≤ n + 1) (sym (sum_by-cons f y ys)) (by (is_name e y) refl (sum_once f g e ys differ.1 once less)))
  where
    here : (a b c d : ℕ) → a ≤ b + 1 → c ≤ d → a + c ≤ b + d + 1
    here a b c d h k = omega (arith, h, k)

    later : (a b c d : ℕ) → a ≤ b → c ≤ d + 1 → a + c ≤ b + d + 1
    later a b c d h k = omega (arith, h, k)

    by : (t : Bool) → is_name e y ≡ t → sum_by g ys ≤ sum_by f ys + 1 → g y + sum_by g ys ≤ f y + sum_by f ys + 1
    by true h rest = here (g y) (f y) (sum_by g ys) (sum_by f ys) (once y) (sum_apart f g e ys (subst (λ n. list_all (λ w. not (is_name n w)) ys ≡ true) (sym (same_name e y h)) differ.0) less)
    by false h rest = later (g y) (f y) (sum_by g ys) (sum_by f ys) (less y h) rest

-- what a send leaves
pub record Queues (b : Base) (z : Alone) (p : ℕ) (x : Sending) (to : Alone) : Type 0 where
  pub full_is : length to.producers ≡ length z.producers
  pub beside_are : (r : ℕ) → (r - 1 ≡ p - 1 → ⊥) → producer_at to.producers r ≡ producer_at z.producers r
  pub held_is : is_none (producer_at to.producers p) ≡ false
  pub queued_is : (f : List ℕ) → queued_by f (producer_at to.producers p) ≡ (if is_name x.entity f then queued_by f (producer_at z.producers p) + 1 else queued_by f (producer_at z.producers p))
  pub recorded_on : (q : ℕ) (f : List ℕ) → recorded b z.hosted q f ≤ recorded b to.hosted q f
  pub outs_on : outs_at to p b.set.names ≤ outs_at z p b.set.names + 1

pub send_leads : (b : Base) (z : Alone) (p : ℕ) (k : Producer) (x : Sending) → Stands b none_later z → 0 < p → producer_at z.producers p ≡ Some k → IsThere b x.entity → queued x.entity k.entries + 1 ≤ b.made p x.entity
    → Leads b 6 (Queues b z p x) z (send_by p (Some x) (node_with b z))
send_leads b z p k x s above found there less =
    subst (λ o. Leads b 6 (Queues b z p x) z (where_some (λ j. map (by_producer p) (producer.queue x j)) o ++ (push p x.entity (fold after (node_with b z) (where_some (λ j. map (by_producer p) (producer.queue x j)) o)) ++ []))) (sym found)
    (subst (λ st. Leads b 6 (Queues b z p x) z (first ++ (push p x.entity st ++ []))) (sym node1)
    (record {
      to = g.to;
      node_is = fold-append after (node_with b z) first (push p x.entity (node_with b z1) ++ []) ∙ (ap (λ st. fold after st (push p x.entity (node_with b z1) ++ [])) node1 ∙ g.node_is);
      wire_is = g.wire_is;
      stands = g.stands;
      costs = sums (load b z) (load b z1) (load b g.to) (put_load b z p (Some k) new 1 inside_is found rises) g.costs;
      hosts_on = g.more.hosts_on;
      entered = entered_both b z.hosted g.to.hosted first (push p x.entity (node_with b z1) ++ []) g.more.hosts_on refl g.entered;
      also_is = record {
        full_is = g.also_is.full_is ∙ length-set z.producers (p - 1) (Some new);
        beside_are = λ r other. g.also_is.beside_are r other ∙ placed_beside z.producers (p - 1) (r - 1) (Some new) other;
        held_is = g.also_is.held_on (ap is_none found1);
        queued_is = λ f. g.more.queued_on p f ∙ (ap (queued_by f) found1 ∙ (queued_next k.entries k.number x f ∙ ap (λ o. if is_name x.entity f then queued_by f o + 1 else queued_by f o) (sym found)));
        recorded_on = g.more.recorded_on;
        outs_on = outs_rise;
      };
    }))
  where
    new : Producer
    new = producer_after k (told (fact.Queued k.number x.entity x.number x.command))

    z1 : Alone
    z1 = with_producer z p new

    first : List Act
    first = by_producer p (told (fact.Queued k.number x.entity x.number x.command)) ∷ []

    own : (k.who ≡ b.who) × (k.set ≡ b.set) × (k.number ≡ p) × (length k.pairs ≡ length b.set.names)
    own = s.producing p k above found

    inside_is : p - 1 < length z.producers
    inside_is = inside z.producers (p - 1) k found

    node1 : fold after (node_with b z) first ≡ node_with b z1
    node1 = ap (λ o. node_with b (record z { producers = slice_set z.producers (p - 1) (Rattle.yard_model.specs.Node.producer_by b.set b.who p o (told (fact.Queued k.number x.entity x.number x.command))) })) found

    found1 : producer_at z1.producers p ≡ Some new
    found1 = placed_at z.producers (p - 1) (Some new) inside_is

    sums : (x y w : ℕ) → y ≤ x + 6 * 1 → w ≤ y + 0 → w ≤ x + 6
    sums x y w h k = omega (arith, h, k)

    -- of each name, one of two
    either : (P : ℕ → Type 0) (f : List ℕ) → (f ≡ x.entity → P (queued f k.entries + 1)) → P (queued f k.entries) → P (queued f new.entries)
    either P f same other = subst P (sym (queued_next k.entries k.number x f)) (by (is_name x.entity f) refl)
      where
        by : (t : Bool) → is_name x.entity f ≡ t → P (if t then queued f k.entries + 1 else queued f k.entries)
        by true h = same (sym (same_name x.entity f h))
        by false h = other

    up : (n : ℕ) → n ≤ n + 1
    up n = omega arith

    queued_on : (f : List ℕ) → queued f k.entries ≤ queued f new.entries
    queued_on f = either (λ n. queued f k.entries ≤ n) f (λ same. up (queued f k.entries)) (le_itself (queued f k.entries))

    bounds : (f : List ℕ) → AreBounded b z.hosted z.producers p f
    bounds f = s.bounded p f above

    confirmed_is : (f : List ℕ) → confirmed f new.entries ≡ confirmed f k.entries
    confirmed_is f = confirmed_next k.entries k.number x f

    holds : Holds b z p (Some k) new
    holds = record {
      above = above;
      less = inside_is;
      found = found;
      is = own;
      queued_on = queued_on;
      queued_made = λ f. either (λ n. n ≤ b.made p f) f (λ same. subst (λ g. queued g k.entries + 1 ≤ b.made p g) (sym same) less) (subst (λ o. queued_by f o ≤ b.made p f) found (bounds f).2);
      confirmed_recorded = λ f. subst (λ n. n ≤ recorded b z.hosted p f) (sym (confirmed_is f)) (subst (λ o. confirmed_by f o ≤ recorded b z.hosted p f) found (bounds f).0);
      confirmed_queued = λ f. subst (λ n. n ≤ queued f new.entries) (sym (confirmed_is f)) (le_then (confirmed f k.entries) (queued f k.entries) (queued f new.entries) (subst (λ o. confirmed_by f o ≤ queued_by f o) found (bounds f).1) (queued_on f));
      paced = λ f. subst (λ n. (((progress k f).demand ≡ 0) × ((progress k f).sent ≤ n + 1) × (list_any (is_requesting p f) z.wire ≡ false)) ⊎ ((is_active b z.cells f ≡ true) × (((progress k f).sent ≤ recorded b z.hosted p f) ⊎ ⊥))) (sym (confirmed_is f))
          (subst (λ o. ((demand_by f o ≡ 0) × (sent_by f o ≤ confirmed_by f o + 1) × (list_any (is_requesting p f) z.wire ≡ false)) ⊎ ((is_active b z.cells f ≡ true) × ((sent_by f o ≤ recorded b z.hosted p f) ⊎ ⊥))) found (s.paced p f above));
    }

    g : Goes b none_later 0 (PushedOf b z1 p x.entity) z1 (push p x.entity (node_with b z1) ++ [])
    g = goes_end b none_later 0 (PushedOf b z1 p x.entity) z1 (push p x.entity (node_with b z1)) (push_goes b z1 p x.entity (put_any b z p (Some k) new s holds) above there)

    outs_rise : outs_at g.to p b.set.names ≤ outs_at z p b.set.names + 1
    outs_rise = sum_once (λ f. out_by f (producer_at z.producers p)) (λ f. out_by f (producer_at g.to.producers p)) x.entity b.set.names s.base_is.differ
        (λ f. by f (is_name x.entity f) (queued_is f) (confirmed_kept f)) (λ f other. same f (queued_is f ∙ ap (λ t. if t then queued_by f (producer_at z.producers p) + 1 else queued_by f (producer_at z.producers p)) other) (confirmed_kept f))
      where
        queued_is : (f : List ℕ) → queued_by f (producer_at g.to.producers p) ≡ (if is_name x.entity f then queued_by f (producer_at z.producers p) + 1 else queued_by f (producer_at z.producers p))
        queued_is f = g.more.queued_on p f ∙ (ap (queued_by f) found1 ∙ (queued_next k.entries k.number x f ∙ ap (λ o. if is_name x.entity f then queued_by f o + 1 else queued_by f o) (sym found)))

        confirmed_kept : (f : List ℕ) → confirmed_by f (producer_at g.to.producers p) ≡ confirmed_by f (producer_at z.producers p)
        confirmed_kept f = g.also_is.confirmed_are p f ∙ (ap (confirmed_by f) found1 ∙ (confirmed_is f ∙ sym (ap (confirmed_by f) found)))

        numbers_rise : (q c r d : ℕ) (t : Bool) → r ≡ (if t then q + 1 else q) → d ≡ c → r - d ≤ q - c + 1
        numbers_rise q c r d true e g = omega (arith, e, g)
        numbers_rise q c r d false e g = omega (arith, e, g)

        by : (f : List ℕ) (t : Bool) → queued_by f (producer_at g.to.producers p) ≡ (if t then queued_by f (producer_at z.producers p) + 1 else queued_by f (producer_at z.producers p)) → confirmed_by f (producer_at g.to.producers p) ≡ confirmed_by f (producer_at z.producers p) → out_by f (producer_at g.to.producers p) ≤ out_by f (producer_at z.producers p) + 1
        by f t e h = numbers_rise (queued_by f (producer_at z.producers p)) (confirmed_by f (producer_at z.producers p)) (queued_by f (producer_at g.to.producers p)) (confirmed_by f (producer_at g.to.producers p)) t e h

        same : (f : List ℕ) → queued_by f (producer_at g.to.producers p) ≡ queued_by f (producer_at z.producers p) → confirmed_by f (producer_at g.to.producers p) ≡ confirmed_by f (producer_at z.producers p) → out_by f (producer_at g.to.producers p) ≤ out_by f (producer_at z.producers p)
        same f e h = numbers_same (queued_by f (producer_at z.producers p)) (confirmed_by f (producer_at z.producers p)) (queued_by f (producer_at g.to.producers p)) (confirmed_by f (producer_at g.to.producers p)) e h
          where
            numbers_same : (q c r d : ℕ) → r ≡ q → d ≡ c → r - d ≤ q - c
            numbers_same q c r d e g = omega (arith, e, g)

    rises : left_of b.set.names (Some new) ≤ left_of b.set.names (Some k) + 1
    rises = sum_once (λ f. left_by f (Some k)) (λ f. left_by f (Some new)) x.entity b.set.names s.base_is.differ
        (λ f. subst (λ c. queued f new.entries - max (progress k f).sent c ≤ left_by f (Some k) + 1) (sym (confirmed_is f)) (either (λ n. n - max (progress k f).sent (confirmed f k.entries) ≤ left_by f (Some k) + 1) f (λ same. one_more (queued f k.entries) (max (progress k f).sent (confirmed f k.entries))) (no_more (left_by f (Some k)))))
        (λ f other. subst (λ c. queued f new.entries - max (progress k f).sent c ≤ left_by f (Some k)) (sym (confirmed_is f)) (subst (λ n. n - max (progress k f).sent (confirmed f k.entries) ≤ left_by f (Some k)) (sym (queued_next k.entries k.number x f ∙ ap (λ t. if t then queued f k.entries + 1 else queued f k.entries) other)) (le_itself (left_by f (Some k)))))
      where
        one_more : (q m : ℕ) → q + 1 - m ≤ q - m + 1
        one_more q m = omega arith

        no_more : (n : ℕ) → n ≤ n + 1
        no_more n = omega arith

-- The sends that wait.

pub head_count : (x : Sending) (xs : List Sending) (f : List ℕ) → count_to f (x ∷ xs) ≡ (if is_name x.entity f then suc (count_to f xs) else count_to f xs)
head_count x xs f = by (is_name x.entity f)
  where
    by : (t : Bool) → length (if t then x ∷ filter (λ (y : Sending). is_name y.entity f) xs else filter (λ (y : Sending). is_name y.entity f) xs) ≡ (if t then suc (count_to f xs) else count_to f xs)
    by true = refl
    by false = refl
