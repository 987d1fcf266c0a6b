-- Producers: who takes their queues, and what waits for them.
use Rattle.std.proofs.Common.{◌≡◌, ℕ, suc, ◌-◌, ◌≤◌, List, [], ◌∷◌, ◌++◌, length, refl, ap, sym, ◌∙◌, subst, arith}
use Rattle.std.specs.Prelude.{Bool, true, false, ◌||◌, nat_le, not, Option, Some, None, IfSome, is_none, is_some, Result, OnOk, OnErr, slice_index_or}
use Rattle.std.specs.Option.{option_map}
use Rattle.yard_model.specs.declared.event.Command.{Command}
use Rattle.yard_model.specs.declared.fact.Fact.{Fact}
use Rattle.yard_model.specs.declared.fact.Fact.TheVariants as fact
use Rattle.yard_model.specs.declared.charter.Order.TheVariants as order
use Rattle.yard_model.specs.declared.incarnation.Incarnation.{Incarnation}
use Rattle.yard_model.specs.declared.incarnation.Slot.TheVariants as slot
use Rattle.yard_model.specs.declared.input.Input.{Input}
use Rattle.yard_model.specs.declared.input.Input.TheVariants as input
use Rattle.yard_model.specs.Genuine.{is_producer}
use Rattle.yard_model.specs.Producer.{Producer}
use Rattle.yard_model.specs.Script.{Script, IsScript}
use Rattle.yard_model.specs.SlotLists.{queue_list}
use Rattle.yard_model.specs.SlotReads.{queued_in_all}
use Rattle.yard_model.specs.Words.{at}
use Rattle.yard_model.specs.World as world
use Rattle.yard_model.specs.World.{World, Made, Step, tell, then_step, node_at, node_of, queue_holder, ordered_of}
use Rattle.shard_lease.specs.Book.{is_of_node}
use Rattle.node_core.specs.Standing.{Standing}
use Rattle.plain_laws.proofs.Booleans.{true_is_not_false, and_both, at_most, of_not}
use Rattle.world_sim.specs.declared.seek.Sought.TheVariants as sought
use Rattle.world_sim.specs.Keeps.{Keeps}
use Rattle.world_sim.specs.Mail.{ToldSome}
use Rattle.world_sim.specs.Queues.{waiting_of, waiting_at, is_without}
use Rattle.world_sim.specs.Stands.{Stands}
use Rattle.world_sim.specs.Stepped.{Counts, IsWhole, IsCut, Stepped}
use Rattle.world_sim.specs.Steps.{given, produced}
use Rattle.world_sim.specs.Yard.{Yard, IsSound, IsSoundAt, MayGive, Goes}
use Rattle.world_sim.proofs.AskLaws.{holds_queue}
use Rattle.world_sim.proofs.DownLaws.{is_there}
use Rattle.world_sim.proofs.EndLaws.{kept_is, number_is, none_kept}
use Rattle.world_sim.proofs.RestsLaws.{IsInHand, hand_is, held_of}
use Rattle.world_sim.proofs.SeekLaws.{IsFoundIn, holder_found, it_is_up}
use Rattle.world_sim.proofs.StepLaws.{goes_then, goes_stop, goes_still, cut_first, cut_next, counts_same, counts_both, step_as, step_then, step_told, if_true, if_false}
use Rattle.world_sim.proofs.UpLaws.{firm_of}

-- Inputs of producers.

pub may_produce : (p n : ℕ) (y : Yard) (w : World) → is_producer y.script p ≡ true → IsSoundAt n y w → MayGive (input.Produce p) n y w
may_produce p n y w producer s = record { stands_at = s; offered = λ st e. record { addressed = tt; may = producer } }

pub may_send : (p n : ℕ) (y : Yard) (w : World) → is_producer y.script p ≡ true → IsSoundAt n y w → MayGive (input.Send p) n y w
may_send p n y w producer s = record { stands_at = s; offered = λ st e. record { addressed = tt; may = producer } }

-- Who holds the queue.

same_of_node : (n : ℕ) (o : Option Incarnation) → is_of_node n o ≡ world.is_of_node n o
same_of_node n None = refl
same_of_node n (Some x) = refl

-- the holder is this node, where it has the queue in hand
pub held_here : (y : Yard) (w : World) (p n : ℕ) (v : Standing) → IsSound y w → is_producer y.script p ≡ true → 1 ≤ n → at y.nodes (n - 1) ≡ Some v → world.is_of_node n (queue_holder w p) ≡ is_some (at v.state.producers (p - 1))
held_here y w p n v s producer some up =
    let here : at w.nodes (n - 1) ≡ Some v.state = kept_is n v y w s.seen_is up in
    let number : v.state.who.node ≡ n = number_is n v y w (firm_of y w s) some up in
    sym (same_of_node n (queue_holder w p))
    ∙ (ap (λ k. is_of_node k (queue_holder w p)) (sym number)
    ∙ (held_of y.script w (n - 1) v.state (slot.Queue p) s.stands_is here producer ∙ sym (holds_queue p v.state)))

-- Produce.

without_up : (p : ℕ) (o : Option Standing) → is_without p o ≡ true → (v : Standing) × (o ≡ Some v) × (is_some (at v.state.producers (p - 1)) ≡ false)
without_up p None h = absurd (true_is_not_false (sym h))
without_up p (Some v) h = (v, refl, of_not (is_some (at v.state.producers (p - 1))) h)

pub free_at : (y : Yard) (w : World) (p n : ℕ) → 1 ≤ n → is_without p (at y.nodes (n - 1)) ≡ true → IsSound y w → IsSoundAt n y w
free_at y w p n some h s = let t : (v : Standing) × (at y.nodes (n - 1) ≡ Some v) × (is_some (at v.state.producers (p - 1)) ≡ false) = without_up p (at y.nodes (n - 1)) h in record { sound = s; some = some; up = ap is_none t.1 }

neither : (a b : Bool) → a ≡ false → b ≡ false → (a || b) ≡ false
neither false b e f = f
neither true b e f = absurd (true_is_not_false e)

pub produce_free : {E : Type 0} (y new : Yard) (p n : ℕ) (r : Result (Unit {0}) E) (before after : List Fact) → is_producer y.script p ≡ true → 1 ≤ n → is_without p (at y.nodes (n - 1)) ≡ true
    → Stepped (MayGive (input.Produce p) n) 0 (produced p n) r y new before after → Stepped IsSound 0 (world.play (order.Produce p n)) r y new before after
produce_free y new p n r before after producer some h k =
    step_as (MayGive (input.Produce p) n) IsSound 0 0 (produced p n) (world.play (order.Produce p n)) r y new before after (omega arith) (λ w s. (may_produce p n y w producer (free_at y w p n some h s), same w s)) k
  where
    same : (w : World) → IsSound y w → produced p n w ≡ world.play (order.Produce p n) w
    same w s =
        let t : (v : Standing) × (at y.nodes (n - 1) ≡ Some v) × (is_some (at v.state.producers (p - 1)) ≡ false) = without_up p (at y.nodes (n - 1)) h in
        if_false (is_none (node_at w n) || world.is_of_node n (queue_holder w p)) (world.nothing w) (produced p n w)
        (neither (is_none (node_at w n)) (world.is_of_node n (queue_holder w p)) (none_kept y w n false s.seen_is (ap is_none t.1)) (held_here y w p n t.0 s producer some t.1 ∙ t.2))

either_is : (a b : Bool) → (a ≡ false → b ≡ true) → (a || b) ≡ true
either_is true b h = refl
either_is false b h = h refl

-- one that isn't up, or has it
not_free : (y : Yard) (w : World) (p n : ℕ) → is_producer y.script p ≡ true → 1 ≤ n → is_without p (at y.nodes (n - 1)) ≡ false → IsSound y w → (is_none (node_at w n) || world.is_of_node n (queue_holder w p)) ≡ true
not_free y w p n producer some h s = either_is (is_none (node_at w n)) (world.is_of_node n (queue_holder w p)) (λ up. by (at y.nodes (n - 1)) refl h up)
  where
    of_not_false : (b : Bool) → not b ≡ false → b ≡ true
    of_not_false true e = refl
    of_not_false false e = absurd (true_is_not_false e)

    by : (o : Option Standing) → at y.nodes (n - 1) ≡ o → is_without p o ≡ false → is_none (node_at w n) ≡ false → world.is_of_node n (queue_holder w p) ≡ true
    by None e h up = absurd (true_is_not_false (sym (none_kept y w n true s.seen_is (ap is_none e)) ∙ up))
    by (Some v) e h up = held_here y w p n v s producer some e ∙ of_not_false (is_some (at v.state.producers (p - 1))) h

pub produce_nothing : {E : Type 0} (y : Yard) (p n : ℕ) (r : Result (Unit {0}) E) (before after : List Fact) → is_producer y.script p ≡ true → 1 ≤ n → is_without p (at y.nodes (n - 1)) ≡ false → OnOk r (after ≡ before ++ fact.Nothing ∷ []) → OnErr r (after ≡ before)
    → Stepped IsSound 0 (world.play (order.Produce p n)) r y y before after
produce_nothing y p n r before after producer some h ok err = step_told IsSound 0 (world.play (order.Produce p n)) r y before after fact.Nothing ok err (λ w s.
    subst (Goes before (before ++ fact.Nothing ∷ []) y) (if_true (is_none (node_at w n) || world.is_of_node n (queue_holder w p)) (world.nothing w) (produced p n w) (not_free y w p n producer some h s)) (record { seen_is = s.seen_is; facts_are = refl }))

-- The sends that wait.

-- after an input the node is up in a sound world, where the trace goes on
pub given_at : (y z : Yard) (w : World) (n : ℕ) (i : Input) (before after : List Fact) → z.script ≡ y.script → IsSoundAt n y w → Stands y.script (given n i w).world → is_none (at z.nodes (n - 1)) ≡ false → z.mail.full ≡ false → Goes before after z (given n i w)
    → ((given n i w).world.full ≡ false) × IsSoundAt n z (given n i w).world
given_at y z w n i before after script s stands up full g =
    let going : (given n i w).world.full ≡ false = sym g.seen_is.full_is ∙ full in
    (going, record { sound = record { seen_is = g.seen_is; stands_is = subst (λ c. Stands c (given n i w).world) (sym script) stands; going_is = going }; some = s.some; up = up })

pub taken_stepped : {E : Type 0} → Keeps → (y z : Yard) (p n : ℕ) (r : Result (Unit {0}) E) (new : Yard) (before between after : List Fact) → is_producer y.script p ≡ true → IsWhole (MayGive (input.Produce p) n) 0 (given n (input.Produce p)) y z before between
    → is_none (at z.nodes (n - 1)) ≡ false → z.mail.full ≡ false → Stepped (IsSoundAt n) 0 (world.send_all_waiting p n) r z new between after → Stepped (MayGive (input.Produce p) n) 0 (produced p n) r y new before after
taken_stepped keeps y z p n r new before between after producer g up full s =
    step_then (MayGive (input.Produce p) n) (IsSoundAt n) 0 0 (given n (input.Produce p)) (world.send_all_waiting p n) r y z new before between after g
    (λ w m k. given_at y z w n (input.Produce p) before between g.script_is m.stands_at (keeps.produces y.script w p n producer m.stands_at.sound.stands_is) up full k) s

pub taken_full : (y z : Yard) (p n : ℕ) (before after : List Fact) → IsWhole (MayGive (input.Produce p) n) 0 (given n (input.Produce p)) y z before after → z.mail.full ≡ true → IsWhole (MayGive (input.Produce p) n) 0 (produced p n) y z before after
taken_full y z p n before after g full = record {
  script_is = g.script_is;
  counts = g.counts;
  goes = λ w m.
      let k : Goes before after z (given n (input.Produce p) w) = g.goes w m in
      goes_stop before after z (given n (input.Produce p) w) (world.send_all_waiting p n) (sym k.seen_is.full_is ∙ full) k;
}

waiting_is : (y : Yard) (w : World) (p n : ℕ) → is_producer y.script p ≡ true → IsSoundAt n y w → world.send_waiting p n (waiting_at p (slice_index_or y.ordered (p - 1) 0) (at y.nodes (n - 1))) w ≡ world.send_all_waiting p n w
waiting_is y w p n producer s =
    let t : (v : Standing) × (at y.nodes (n - 1) ≡ Some v) = is_there (at y.nodes (n - 1)) s.up in
    ap (λ o. world.send_waiting p n (waiting_at p (slice_index_or y.ordered (p - 1) 0) o) w) t.1 ∙ by t.0 t.1 (at t.0.state.producers (p - 1)) refl
  where
    by : (v : Standing) → at y.nodes (n - 1) ≡ Some v → (o : Option Producer) → at v.state.producers (p - 1) ≡ o
        → world.send_waiting p n (waiting_of (slice_index_or y.ordered (p - 1) 0) (option_map (λ (k : Producer). queued_in_all k.entries) (at v.state.producers (p - 1)))) w ≡ world.send_all_waiting p n w
    by v up None e =
        ap (λ o. world.send_waiting p n (waiting_of (slice_index_or y.ordered (p - 1) 0) (option_map (λ (k : Producer). queued_in_all k.entries) o)) w) e
        ∙ if_false (world.is_of_node n (queue_holder w p)) (world.send_waiting p n (ordered_of w p - queued_in_all (queue_list w.lists p)) w) (tell [] w) (held_here y w p n v s.sound producer s.some up ∙ ap is_some e)
    by v up (Some k) e =
        let here : at w.nodes (n - 1) ≡ Some v.state = kept_is n v y w s.sound.seen_is up in
        let h : IsInHand w v.state (slot.Queue p) k.entries = hand_is y.script w (n - 1) v.state (slot.Queue p) k.entries s.sound.stands_is here producer (ap (λ o. option_map (λ (k : Producer). k.entries) o) e) in
        let count : slice_index_or y.ordered (p - 1) 0 - queued_in_all k.entries ≡ ordered_of w p - queued_in_all (queue_list w.lists p) =
        ap (λ os. slice_index_or os (p - 1) 0 - queued_in_all k.entries) s.sound.seen_is.ordered_are ∙ ap (λ l. ordered_of w p - queued_in_all l) (sym h.list_is) in
        ap (λ o. world.send_waiting p n (waiting_of (slice_index_or y.ordered (p - 1) 0) (option_map (λ (k : Producer). queued_in_all k.entries) o)) w) e
        ∙ (ap (λ c. world.send_waiting p n c w) count
        ∙ if_true (world.is_of_node n (queue_holder w p)) (world.send_waiting p n (ordered_of w p - queued_in_all (queue_list w.lists p)) w) (tell [] w) (held_here y w p n v s.sound producer s.some up ∙ ap is_some e))

pub waiting_stepped : {E : Type 0} (y new : Yard) (p n count : ℕ) (r : Result (Unit {0}) E) (before after : List Fact) → is_producer y.script p ≡ true → count ≡ waiting_at p (slice_index_or y.ordered (p - 1) 0) (at y.nodes (n - 1))
    → Stepped (IsSoundAt n) 0 (world.send_waiting p n count) r y new before after → Stepped (IsSoundAt n) 0 (world.send_all_waiting p n) r y new before after
waiting_stepped y new p n count r before after producer e s =
    step_as (IsSoundAt n) (IsSoundAt n) 0 0 (world.send_waiting p n count) (world.send_all_waiting p n) r y new before after (omega arith) (λ w k. (k, ap (λ c. world.send_waiting p n c w) e ∙ waiting_is y w p n producer k)) s

-- What the code reads is there.

pub place_there : (y : Yard) (w : World) (n p : ℕ) → IsSoundAt n y w → is_producer y.script p ≡ true → p ≤ length y.ordered
place_there y w n p s h =
    let most : p ≤ y.script.config.producers = at_most p y.script.config.producers (and_both (nat_le 1 p) (nat_le p y.script.config.producers) h).1 in
    let l : length y.ordered ≡ y.script.config.producers = s.sound.seen_is.ordered_there in
    omega (arith, most, l)

pub script_there : (y : Yard) (w : World) (n : ℕ) → IsSoundAt n y w → IfSome (at y.nodes (n - 1)) (λ (v : Standing). IsScript v.script)
script_there y w n s = by (at y.nodes (n - 1)) (s.sound.seen_is.scripts_are (n - 1))
  where
    by : (o : Option Standing) → IfSome o (λ (v : Standing). v.script ≡ y.script) → IfSome o (λ (v : Standing). IsScript v.script)
    by None h = tt
    by (Some v) h = subst IsScript (sym h) s.sound.stands_is.sound.script_is

pub producer_there : (y : Yard) (w : World) (n p : ℕ) → IsSoundAt n y w → is_producer y.script p ≡ true → IfSome (at y.nodes (n - 1)) (λ (v : Standing). is_producer v.script p ≡ true)
producer_there y w n p s producer = by (at y.nodes (n - 1)) (s.sound.seen_is.scripts_are (n - 1))
  where
    by : (o : Option Standing) → IfSome o (λ (v : Standing). v.script ≡ y.script) → IfSome o (λ (v : Standing). is_producer v.script p ≡ true)
    by None h = tt
    by (Some v) h = ap (λ (c : Script). is_producer c p) h ∙ producer

-- Sends in turn.

-- what is told from here on, of so many sends, is told of all of them
pub record IsSent (p n count : ℕ) (w : World) (start : List Fact) (y : Yard) (facts : List Fact) (left : ℕ) : Type 0 where
  pub now : World
  pub sound : IsSoundAt n y now
  pub rest : (after : List Fact) (z : Yard) → Goes facts after z (world.send_waiting p n left now) → Goes start after z (world.send_waiting p n count w)
  pub cut : (after : List Fact) → ToldSome facts after (world.send_waiting p n left now).facts → ToldSome start after (world.send_waiting p n count w).facts

pub record Sending (old : Yard) (start : List Fact) (p n count : ℕ) (y : Yard) (facts : List Fact) (left : ℕ) : Type 0 where
  pub goes_on : (w : World) → IsSoundAt n old w → IsSent p n count w start y facts left
  pub script_is : y.script ≡ old.script
  pub counts : Counts 0 old y

pub send_first : (y : Yard) (start : List Fact) (p n count left : ℕ) → left ≡ count → Sending y start p n count y start left
send_first y start p n count left e = subst (Sending y start p n count y start) (sym e) (record { goes_on = λ w s. record { now = w; sound = s; rest = λ after z g. g; cut = λ after t. t }; script_is = refl; counts = counts_same y y 0 refl refl })

abbrev pub IsSendOf : ℕ → ℕ → Yard → Yard → List Fact → List Fact → Type 0
IsSendOf p n y z facts after = IsWhole (MayGive (input.Send p) n) 0 (given n (input.Send p)) y z facts after

-- after one send, where the trace goes on: so many are left, one less than before
pub send_goes_on : Keeps → (old y z : Yard) (start facts after : List Fact) (p n count more left : ℕ) → more ≡ suc left → is_producer y.script p ≡ true → Sending old start p n count y facts more → IsSendOf p n y z facts after → is_none (at z.nodes (n - 1)) ≡ false → z.mail.full ≡ false
    → Sending old start p n count z after left
send_goes_on keeps old y z start facts after p n count more left one producer d g up full = record {
  goes_on = λ w s.
      let i : IsSent p n count w start y facts (suc left) = subst (IsSent p n count w start y facts) one (d.goes_on w s) in
      let m : Made = given n (input.Send p) i.now in
      let j : Goes facts after z m = g.goes i.now (may_send p n y i.now producer i.sound) in
      let k : (m.world.full ≡ false) × IsSoundAt n z m.world = given_at y z i.now n (input.Send p) facts after g.script_is i.sound (keeps.sends y.script i.now p n producer i.sound.sound.stands_is) up full j in
      record {
        now = m.world;
        sound = k.1;
        rest = λ last v e. i.rest last v (goes_then facts after last v m (world.send_waiting p n left) k.0 j.facts_are e);
        cut = λ last t. i.cut last (cut_next facts after last m (world.send_waiting p n left) k.0 j.facts_are t);
      };
  script_is = g.script_is ∙ d.script_is;
  counts = counts_both 0 0 old y z d.counts g.counts;
}

-- after one send, where the trace stops
pub send_stops : (old y z : Yard) (start facts after : List Fact) (p n count more left : ℕ) → more ≡ suc left → is_producer y.script p ≡ true → Sending old start p n count y facts more → IsSendOf p n y z facts after → z.mail.full ≡ true → IsWhole (IsSoundAt n) 0 (world.send_waiting p n count) old z start after
send_stops old y z start facts after p n count more left one producer d g full = record {
  script_is = g.script_is ∙ d.script_is;
  counts = counts_both 0 0 old y z d.counts g.counts;
  goes = λ w s.
      let i : IsSent p n count w start y facts (suc left) = subst (IsSent p n count w start y facts) one (d.goes_on w s) in
      let m : Made = given n (input.Send p) i.now in
      let j : Goes facts after z m = g.goes i.now (may_send p n y i.now producer i.sound) in
      i.rest after z (goes_stop facts after z m (world.send_waiting p n left) (sym j.seen_is.full_is ∙ full) j);
}

-- where memory runs out in a send
pub send_cut : (old y z : Yard) (start facts after : List Fact) (p n count more left : ℕ) → more ≡ suc left → is_producer y.script p ≡ true → Sending old start p n count y facts more → IsCut (MayGive (input.Send p) n) (given n (input.Send p)) y z facts after
    → IsCut (IsSoundAt n) (world.send_waiting p n count) old z start after
send_cut old y z start facts after p n count more left one producer d t = record {
  script_is = t.script_is ∙ d.script_is;
  told = λ w s.
      let i : IsSent p n count w start y facts (suc left) = subst (IsSent p n count w start y facts) one (d.goes_on w s) in
      i.cut after (cut_first facts after (given n (input.Send p) i.now) (world.send_waiting p n left) (t.told i.now (may_send p n y i.now producer i.sound)));
}

-- after the last
pub send_done : (old y : Yard) (start facts : List Fact) (p n count left : ℕ) → left ≡ 0 → Sending old start p n count y facts left → IsWhole (IsSoundAt n) 0 (world.send_waiting p n count) old y start facts
send_done old y start facts p n count left none d = record {
  script_is = d.script_is;
  counts = d.counts;
  goes = λ w s. let i : IsSent p n count w start y facts 0 = subst (IsSent p n count w start y facts) none (d.goes_on w s) in i.rest facts y (goes_still y i.now facts i.sound.sound.seen_is);
}

-- One send.

abbrev IsQueueAt : Yard → ℕ → Option ℕ → Type 0
IsQueueAt y p to = IsFoundIn (sought.Queue p) y to

pub holder_at : (y : Yard) (w : World) (p n : ℕ) → IsQueueAt y p (Some n) → IsSound y w → IsSoundAt n y w
holder_at y w p n f s = record { sound = s; some = f.some; up = it_is_up (sought.Queue p) (at y.nodes (n - 1)) f.is }

pub send_here : {E : Type 0} (y new : Yard) (p n : ℕ) (e : List ℕ) (c : Command) (to : Option ℕ) (r : Result (Unit {0}) E) (before after : List Fact) → is_producer y.script p ≡ true → to ≡ Some n → IsQueueAt y p to
    → Stepped (MayGive (input.Send p) n) 0 (given n (input.Send p)) r y new before after → Stepped IsSound 0 (world.play (order.Send p e c)) r y new before after
send_here y new p n e c to r before after producer is found k =
    let f : IsQueueAt y p (Some n) = subst (IsQueueAt y p) is found in
    step_as (MayGive (input.Send p) n) IsSound 0 0 (given n (input.Send p)) (world.play (order.Send p e c)) r y new before after (omega arith) (λ w s. (may_send p n y w producer (holder_at y w p n f s), same f w s)) k
  where
    same : IsQueueAt y p (Some n) → (w : World) → IsSound y w → given n (input.Send p) w ≡ world.play (order.Send p e c) w
    same f w s =
        let waits : Step = tell (fact.Waits p e c ∷ []) in
        let t : (v : Standing) × (at y.nodes (n - 1) ≡ Some v) = is_there (at y.nodes (n - 1)) (it_is_up (sought.Queue p) (at y.nodes (n - 1)) f.is) in
        let here : node_at w n ≡ Some t.0.state = kept_is n t.0 y w s.seen_is t.1 in
        let holds : node_at w n ≡ node_of w (queue_holder w p) = holder_found (sought.Queue p) (slot.Queue p) y w (Some n) s (holds_queue p) producer f in
        subst (λ o. world.give (input.Send p) o w ≡ world.give_or (input.Send p) o waits w) (sym here) refl ∙ ap (λ o. world.give_or (input.Send p) o waits w) holds

pub send_waits : {E : Type 0} (y : Yard) (p : ℕ) (e : List ℕ) (c : Command) (to : Option ℕ) (r : Result (Unit {0}) E) (before after : List Fact) → is_producer y.script p ≡ true → to ≡ None → IsQueueAt y p to
    → OnOk r (after ≡ before ++ fact.Waits p e c ∷ []) → OnErr r (after ≡ before) → Stepped IsSound 0 (world.play (order.Send p e c)) r y y before after
send_waits y p e c to r before after producer is found ok err = step_told IsSound 0 (world.play (order.Send p e c)) r y before after (fact.Waits p e c) ok err (λ w s.
    let waits : Step = tell (fact.Waits p e c ∷ []) in
    let holds : None ≡ node_of w (queue_holder w p) = holder_found (sought.Queue p) (slot.Queue p) y w None s (holds_queue p) producer (subst (IsQueueAt y p) is found) in
    subst (λ o. Goes before (before ++ fact.Waits p e c ∷ []) y (world.give_or (input.Send p) o waits w)) holds (record { seen_is = s.seen_is; facts_are = refl }))
