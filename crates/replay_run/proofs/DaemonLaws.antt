-- What is so of a daemon: its script in the words of those who play it, and the law of each of its traces.
use Rattle.std.proofs.Common.{◌≡◌, ℕ, ◌<◌, ◌≤◌, true, List, [], ◌∷◌, ◌++◌, length, refl, sym, ap, ap₂, ◌∙◌, subst, arith}
use Rattle.std.specs.Prelude.{IsTrue, nat_le, not, filter, Result, Ok, Err, OnOk, if◌then◌else◌}
use Rattle.std.proofs.lemmas.Bool.Decides.{nat_tests}
use Rattle.std.proofs.lemmas.List.{append_assoc}
use Rattle.std.proofs.lemmas.List.Sums.{fold_push}
use Rattle.yard_model.specs.declared.charter.Line.{Line}
use Rattle.yard_model.specs.declared.charter.Order.{Order}
use Rattle.yard_model.specs.declared.charter.Order.TheVariants as order
use Rattle.yard_model.specs.declared.fact.Fact.{Fact}
use Rattle.yard_model.specs.declared.fact.Fact.TheVariants as fact
use Rattle.yard_model.specs.declared.packet.Packet.{Packet}
use Rattle.yard_model.specs.Behaviour.{is_in}
use Rattle.yard_model.specs.Safe.{safe}
use Rattle.yard_model.specs.Script.{Script, IsScript}
use Rattle.yard_model.specs.World.{trace_of, wire_limit}
use Rattle.plain_laws.proofs.Booleans.{all_map, and_both}
use Rattle.daemon_process.specs.Daemon as daemon
use Rattle.daemon_process.specs.Lines.{Drawn, IsDrawnOf}
use Rattle.daemon_process.specs.Single.{SafeIsSingle, WrittenIsLive}
use Rattle.play_laws.specs.Played.{TraceIsSafe}
use Rattle.queued_laws.specs.Confirmed.{ConfirmedWasWritten, WasWritten}
use Rattle.queued_laws.specs.Queued.{RecordedIsQueued}
use Rattle.script_text.specs.Fit as fit
use Rattle.settle_laws.specs.Settles.{SettleLineSettles}
use Rattle.run_parts.specs.declared.course.Course.{Course}
use Rattle.run_parts.specs.Stops.{course, course_step, start}
use Rattle.replay_run.specs.Daemons.{ConfirmedAreAnswered, DaemonHolds, PingsAreAnswered}

silent_order : (o : Order) → not (fit.is_send o) ≡ true → not (daemon.is_send o) ≡ true
silent_order (order.Send p e c) h = h
silent_order o h = refl

ping_order : (o : Order) → fit.is_ping o ≡ daemon.is_ping o
ping_order (order.Ping p) = refl
ping_order o = refl

same_pings : (ls : List Line) → filter (λ (l : Line). fit.is_ping l.order) ls ≡ filter (λ (l : Line). daemon.is_ping l.order) ls
same_pings [] = refl
same_pings (l ∷ ls) = ap₂ (λ b (xs : List Line). if b then l ∷ xs else xs) (ping_order l.order) (same_pings ls)

-- what is read is what is played
pub is_pinged : (c : Script) → fit.IsPinged c → length c.orders ≤ 20000 → daemon.IsPinged c
is_pinged c h few = record {
  silent = all_map (λ (l : Line). not (fit.is_send l.order)) (λ (l : Line). not (daemon.is_send l.order)) (λ l k. silent_order l.order k) c.orders h.silent;
  names = h.few_names;
  orders = few;
  pings = subst (λ (ls : List Line). length ls ≤ 1000) (same_pings c.orders) h.few_pings;
}

pub count_fits : (n : ℕ) → IsTrue (is_in 1 100 n) → n ≤ 100
count_fits n h = let most : nat_le n 100 ≡ true = (and_both (nat_le 1 n) (nat_le n 100) h).1 in grind (arith, nat_tests)

-- where a ping is confirmed, its record stands before, which was an answer
confirmed_answered : (n : ℕ) (c : Script) (trace : List Fact) → safe c trace ≡ true → ConfirmedWasWritten → PingsAreAnswered n c trace → ConfirmedAreAnswered n c trace
confirmed_answered n c trace whole confirmed pings i p m front back inside is =
    let f : Fact = fact.Confirmed p (daemon.daemon i) m in
    let w : WasWritten front (daemon.daemon i) p m = confirmed c front back (daemon.daemon i) p m (subst (λ t. safe c t ≡ true) is whole) in
    record {
      written = w;
      answered = pings i w.front (w.back ++ f ∷ back) w.entry inside (is ∙ (ap (λ l. l ++ f ∷ back) w.facts_are ∙ append_assoc w.front (fact.Wrote (daemon.daemon i) w.entry ∷ w.back) (f ∷ back)));
    }

-- of every script
pub holds : (c : Script) (n : ℕ) → IsScript c → fit.IsPinged c → length c.orders ≤ 20000 → n ≤ 100 → daemon.ExpandedIsScript → TraceIsSafe → SafeIsSingle → WrittenIsLive → RecordedIsQueued → ConfirmedWasWritten → SettleLineSettles
    → DaemonHolds n c
holds c n script pinged few fits expands safe single written recorded confirmed settles =
    let full : Script = daemon.expanded n c in
    let is_script : IsScript full = expands c n script pinged.counters fits (is_pinged c pinged few) in
    let pings : PingsAreAnswered n full (trace_of full) = λ i front back r inside is. record {
      live_is = written full (trace_of full) front back (daemon.daemon i) r (safe full is_script) is;
      queued_is = recorded full wire_limit front back (daemon.daemon i) r is_script is;
    } in
    record {
      safe_is = safe full is_script;
      instances_hold = λ k i inside. single full (trace_of full) k (daemon.daemon i) (safe full is_script);
      pings_are = pings;
      confirmed_are = confirmed_answered n full (trace_of full) (safe full is_script) confirmed pings;
      settles_are = λ m number. settles full wire_limit m number is_script;
    }

-- a packet that is posted leaves where a trace stops
pub with_course : {E : Type 0} (r : Result (Unit {0}) E) (k : Course) (old new : Drawn) (n : ℕ) (p : Packet)
    → OnOk r ((before : List Fact) → IsDrawnOf (length old.watch.here) old before → IsDrawnOf (length new.watch.here) new (before ++ fact.Sent n p ∷ []))
    → OnOk r ((before : List Fact) → (k ≡ course before) × IsDrawnOf (length old.watch.here) old before
    → (k ≡ course (before ++ fact.Sent n p ∷ [])) × IsDrawnOf (length new.watch.here) new (before ++ fact.Sent n p ∷ []))
with_course (Ok x) k old new n p h = λ before both. (both.0 ∙ sym (fold_push course_step start before (fact.Sent n p)), h before both.1)
with_course (Err e) k old new n p h = tt
