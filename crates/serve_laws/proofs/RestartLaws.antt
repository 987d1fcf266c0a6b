-- The script that a log alone says is alike to the one that was carried out over it.
use Rattle.std.proofs.Common.{◌≡◌, ◌<◌, ◌≤◌, ℕ, zero, suc, ◌+◌, sym, ap, ◌∙◌, refl, subst, arith}
use Rattle.std.specs.Prelude.{Bool, true, false, ◌==◌, ◌&&◌, if◌then◌else◌, List, [], ◌∷◌, length, take, Option, Some, None}
use Rattle.std.specs.List.{flat_map, list_all, list_any}
use Rattle.std.proofs.lemmas.List.{append-nil, take_all}
use Rattle.yard_model.specs.declared.charter.Config.{Config}
use Rattle.yard_model.specs.declared.charter.Line.{Line}
use Rattle.yard_model.specs.declared.charter.Order.{Order}
use Rattle.yard_model.specs.declared.charter.Order.TheVariants as order
use Rattle.yard_model.specs.declared.charter.Sending.{Sending}
use Rattle.yard_model.specs.declared.fact.Fact.{Fact}
use Rattle.yard_model.specs.declared.incarnation.Slot.TheVariants as slot
use Rattle.yard_model.specs.Behaviour.{is_in, is_of_kind}
use Rattle.yard_model.specs.Genuine.{is_brought, is_producer}
use Rattle.yard_model.specs.Lawful.{lawful, own}
use Rattle.yard_model.specs.Script.{Script, Setting, count_to, is_name, is_order, is_upgrade, is_version, names_in, pairs_in, plan, sends, sends_in, setting}
use Rattle.yard_model.specs.Setting.{producers, shard_of}
use Rattle.yard_model.specs.SlotLists.{SlotLists, queue_list, shard_list}
use Rattle.yard_model.specs.SlotReads.{confirmed, journal, queued_in_all}
use Rattle.yard_model.specs.Words.{numbers}
use Rattle.yard_model.specs.World.{all_sends}
use Rattle.plain_laws.proofs.Booleans.{all_map, and_both, other_number, same_number, true_is_not_false}
use Rattle.yard_laws.proofs.Owns.{producer_above, producer_within}
use Rattle.yard_laws.proofs.SafetyLaws.{owns_of}
use Rattle.script_text.specs.Fit.{is_send}
use Rattle.log_resume.specs.Left.{is_confirmed_all, sends_confirmed}
use Rattle.log_resume.specs.Restored.{are_taken, entries}
use Rattle.log_resume.proofs.DoneLaws.{not_queued}
use Rattle.yard_model.specs.Grown.{GoesOn}
use Rattle.grow_laws.specs.Growths.{GrownIsTaken}
use Rattle.grow_laws.specs.Once.{EachOnce, recorded_of}
use Rattle.apply_laws.specs.Applied.{is_done, lists_in}
use Rattle.apply_laws.specs.Applying.{ConfirmedIsDone}
use Rattle.apply_laws.proofs.AppliedLaws.{taken_law}
use Rattle.serve_laws.specs.Hearings.{IsHeard}
use Rattle.serve_laws.specs.Queues.{sending_of, sends_of}
use Rattle.serve_laws.specs.Restarts.{AreAlike, FoundIsDesk, IsAlike, RestartIsSame}
use Rattle.serve_laws.specs.Served.{Desk, desk_of, found_in}
use Rattle.serve_laws.specs.Servings.{IsDesk, IsDone, IsLogOf}
use Rattle.serve_laws.proofs.AgainLaws.{plan_of}
use Rattle.serve_laws.proofs.LogLaws.{log_sends, log_within}
use Rattle.serve_laws.proofs.QueuedLaws.{SameSending, queued_are_first}
use Rattle.serve_laws.proofs.SameLaws.{is_done_by, lists_by, sends_same, set_same}
use Rattle.serve_laws.proofs.SentLaws.{is_kind_of, is_send_within, known_same, lines_same, names_same, orders_of_kind, pairs_same, sends_within, sent_of_kind}

-- Orders.

-- sends of a script are of its producers
within_of : (config : Config) (ls : List Line) → list_all (λ (l : Line). is_order config l.order) ls ≡ true → list_all (λ (l : Line). is_send l.order) ls ≡ true → list_all (is_send_within config.producers) ls ≡ true
within_of config [] h g = refl
within_of config (l ∷ ls) h g =
    let m = and_both (is_order config l.order) (list_all (λ (y : Line). is_order config y.order) ls) h in
    let k = and_both (is_send l.order) (list_all (λ (y : Line). is_send y.order) ls) g in
    both_true (one l.order m.0 k.0) (within_of config ls m.1 k.1)
  where
    both_true : {a b : Bool} → a ≡ true → b ≡ true → (a && b) ≡ true
    both_true t u = rw (t, u) refl

    one : (o : Order) → is_order config o ≡ true → is_send o ≡ true → sends_within config.producers o ≡ true
    one (order.Send p e k) t s = (and_both (is_in 1 config.producers p) (is_of_kind config.kind k) t).0
    one o t s = absurd (true_is_not_false (sym s))

heard_within : (c : Script) → IsHeard c → list_all (is_send_within c.config.producers) c.orders ≡ true
heard_within c h = within_of c.config c.orders h.script.orders h.sends

send_of_within : (n : ℕ) (l : Line) → is_send_within n l ≡ true → is_send l.order ≡ true
send_of_within n l = one l.order
  where
    one : (o : Order) → sends_within n o ≡ true → is_send o ≡ true
    one (order.Send p e k) t = refl
    one o t = absurd (true_is_not_false (sym t))

no_upgrade : (n : ℕ) (ls : List Line) → list_all (is_send_within n) ls ≡ true → list_any (λ (l : Line). is_upgrade l.order) ls ≡ false
no_upgrade n [] h = refl
no_upgrade n (l ∷ ls) h =
    let m = and_both (is_send_within n l) (list_all (is_send_within n) ls) h in
    let rest : list_any (λ (y : Line). is_upgrade y.order) ls ≡ false = no_upgrade n ls m.1 in
    let here : is_upgrade l.order ≡ false = one l.order m.0 in
    rw (here, rest) refl
  where
    one : (o : Order) → sends_within n o ≡ true → is_upgrade o ≡ false
    one (order.Send p e k) t = refl
    one o t = absurd (true_is_not_false (sym t))

-- Of what is done, each queue's list has all sends of its producer.

each_number : (f : ℕ → Bool) (n a p : ℕ) → list_all f (numbers a n) ≡ true → a ≤ p → p < a + n → f p ≡ true
each_number f zero a p h low high = absurd (omega (arith, low, high))
each_number f (suc n) a p h low high = by (a == p) refl (and_both (f a) (list_all f (numbers (a + 1) n)) h) (λ k l. each_number f n (a + 1) p k l (omega (arith, high)))
  where
    by : (b : Bool) → (a == p) ≡ b → (f a ≡ true) × (list_all f (numbers (a + 1) n) ≡ true) → (list_all f (numbers (a + 1) n) ≡ true → a + 1 ≤ p → f p ≡ true) → f p ≡ true
    by true t m rest = ap f (sym (same_number a p t)) ∙ m.0
    by false t m rest = rest m.1 (let apart : a ≡ p → ⊥ = other_number a p t in omega (arith, low, apart))

all_queued : SameSending → ConfirmedIsDone → (c : Script) (log : List (List Fact)) → are_taken c (entries log) ≡ true → is_done c log ≡ true
    → (p : ℕ) → is_producer c p ≡ true → flat_map sending_of (queue_list (lists_in c log) p) ≡ sends c p
all_queued same law c log taken done p is = queued_are_first same c p list o ∙ take_all (queued_in_all list) (sends c p) (omega (arith, whole (queued_in_all list == length (sends c p)) refl))
  where
    lists : SlotLists
    lists = lists_in c log

    list : List Fact
    list = queue_list lists p

    lawful_is : lawful c lists ≡ true
    lawful_is = taken_law c (entries log) taken

    o : own c (slot.Queue p) list ≡ true
    o = (owns_of c lists lawful_is).0.queue p (producer_above c p is)

    all : is_confirmed_all c lists ≡ true
    all = sym (law c lists lawful_is) ∙ done

    it : sends_confirmed c p list ≡ true
    it =
        let low : 0 < p = producer_above c p is in
        let high : p ≤ c.config.producers = producer_within c p is in
        each_number (λ q. list_all (λ e. confirmed e (queue_list lists q) == count_to e (sends c q)) (setting c).names) c.config.producers 1 p all (omega (arith, low)) (omega (arith, high))

    whole : (b : Bool) → (queued_in_all list == length (sends c p)) ≡ b → queued_in_all list ≡ length (sends c p)
    whole true t = same_number (queued_in_all list) (length (sends c p)) t
    whole false t = absurd (true_is_not_false (sym it ∙ not_queued same c p list o (other_number (queued_in_all list) (length (sends c p)) t)))

-- The script of a log.

abbrev script_in : Script → List (List Fact) → Script
script_in c log = record { config = c.config; orders = flat_map sends_of (entries log) }

record Found (c : Script) (log : List (List Fact)) : Type 0 where
  within : list_all (is_send_within c.config.producers) c.orders ≡ true
  too : list_all (is_send_within c.config.producers) (flat_map sends_of (entries log)) ≡ true
  same : (p : ℕ) → sends_in p (flat_map sends_of (entries log)) ≡ sends_in p c.orders
  alike : IsAlike c (script_in c log)

found_of : SameSending → ConfirmedIsDone → (c : Script) (log : List (List Fact)) → IsHeard c → are_taken c (entries log) ≡ true → is_done c log ≡ true → Found c log
found_of same law c log h taken done =
    let n : ℕ = c.config.producers in
    let ms : List Line = flat_map sends_of (entries log) in
    let within : list_all (is_send_within n) c.orders ≡ true = heard_within c h in
    let too : list_all (is_send_within n) ms ≡ true = log_within c (entries log) taken in
    let each : (p : ℕ) → sends_in p ms ≡ sends_in p c.orders = log_sends c (entries log) taken within (all_queued same law c log taken done) in
    record {
      within = within;
      too = too;
      same = each;
      alike = record {
        config = refl;
        sends = each;
        names = names_same n c.orders ms within too each;
        pairs = pairs_same n c.orders ms within too each;
        known = known_same n c.orders ms within too each;
        orders = lines_same n c.orders ms within too each;
      };
    }

restart_by : SameSending → ConfirmedIsDone → (so : Option Script) (log : List (List Fact)) → IsLogOf so log → IsDone so log → AreAlike so (found_in so log).so_far
restart_by same law None log h done = tt
restart_by same law (Some c) log h done = (found_of same law c log h.0 h.1 done.0).alike

pub restart_is_same : SameSending → ConfirmedIsDone → RestartIsSame
restart_is_same same law d h done = restart_by same law d.so_far d.log h done

-- It is a script that goes on as the other, and as much is done.

found_is_heard : (c : Script) (log : List (List Fact)) → IsHeard c → Found c log → IsHeard (script_in c log)
found_is_heard c log h f = record {
  script = record {
    config = h.script.config;
    orders = orders_of_kind c.config (flat_map sends_of (entries log)) (λ p. []) f.too (λ p. subst (λ xs. list_all (is_kind_of c.config.kind) xs ≡ true) (sym (f.same p)) (sent_of_kind c.config p c.orders [] h.script.orders refl));
    names = subst (λ (l : List (List ℕ)). length l ≤ 1000) (sym f.alike.names) h.script.names;
    pairs = subst (λ n. n ≤ 4000) (sym f.alike.pairs) h.script.pairs;
    fits = subst (λ n. n ≤ 3000000) (sym f.alike.orders) h.script.fits;
  };
  sends = all_map (is_send_within c.config.producers) (λ (l : Line). is_send l.order) (send_of_within c.config.producers) (flat_map sends_of (entries log)) f.too;
  few = subst (λ n. n ≤ 20000) (sym f.alike.orders) h.few;
}

found_goes_on : (c : Script) (log : List (List Fact)) → Found c log → GoesOn c (script_in c log)
found_goes_on c log f = record {
  shards = refl;
  producers = refl;
  kind = refl;
  nodes = omega arith;
  names = λ e t. ap (list_any (is_name e)) f.alike.names ∙ t;
  sends = λ p. ([], f.same p ∙ sym (append-nil (sends c p)));
  versions = λ v t.
      let none : list_any (λ (l : Line). is_upgrade l.order) c.orders ≡ false = no_upgrade c.config.producers c.orders f.within in
      let too : list_any (λ (l : Line). is_upgrade l.order) (flat_map sends_of (entries log)) ≡ false = no_upgrade c.config.producers (flat_map sends_of (entries log)) f.too in
      subst (λ b. list_any (λ w. w == v) (if b then 1 ∷ 2 ∷ [] else 1 ∷ []) ≡ true) (none ∙ sym too) t;
}

-- what is done of one is done of the other
done_alike : (c d : Script) (log : List (List Fact)) → IsAlike c d → IsDone (Some c) log → IsDone (Some d) log
done_alike c d log a h = (
  ap (λ s. is_done_by s (all_sends d) (lists_by s log)) (set_same c d a) ∙ (ap (λ all. is_done_by (setting c) all (lists_by (setting c) log)) (sends_same c d a) ∙ h.0),
  record {
    once = λ p e is.
        let is_c : is_producer c p ≡ true = ap (λ (x : Config). is_in 1 x.producers p) (sym a.config) ∙ is in
        ap (λ s. recorded_of p (journal e (shard_list (lists_by s log) (shard_of s e)))) (set_same c d a) ∙ (h.1.once p e is_c ∙ sym (ap (plan_of e) (a.sends p)));
  },
)

found_by : SameSending → ConfirmedIsDone → GrownIsTaken → (so : Option Script) (log : List (List Fact)) → IsLogOf so log → IsDone so log → IsDesk (found_in so log) × IsDone (found_in so log).so_far (found_in so log).log
found_by same law grown None log h done = (h, tt)
found_by same law grown (Some c) log h done =
    let f : Found c log = found_of same law c log h.0 h.1 done.0 in
    ((found_is_heard c log h.0 f, grown c (script_in c log) (entries log) (found_goes_on c log f) h.1), done_alike c (script_in c log) log f.alike done)

pub found_is_desk : SameSending → ConfirmedIsDone → GrownIsTaken → FoundIsDesk
found_is_desk same law grown d h done = found_by same law grown d.so_far d.log h done
