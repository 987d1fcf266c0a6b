-- A run whose orders are logged, from order to order.
use Rattle.std.proofs.Common.{◌≡◌, ◌≢◌, refl, sym, ap, ◌∙◌, subst, arith, ℕ, ◌+◌, ◌<◌, ◌≤◌, length, get_or, List, [], ◌++◌, take, drop}
use Rattle.std.specs.Prelude.{Bool, IfErr, IsTrue, Option, Result, Err, slice_get, Some}
use Rattle.std.specs.List.{flat_map}
use Rattle.std.proofs.lemmas.List.{take_all}
use Rattle.std.proofs.Math.Seq.{drop-append_seam}
use Rattle.yard_io.specs.Told.{followed_by}
use Rattle.yard_model.specs.declared.charter.Line.{Line}
use Rattle.yard_model.specs.declared.fact.Fact.{Fact}
use Rattle.yard_model.specs.Replay.{replay_text}
use Rattle.yard_model.specs.Script.{Script}
use Rattle.yard_model.specs.Text.{Bytes, fact_line, report}
use Rattle.yard_model.specs.World.{Made, played, trace_of, wire_limit}
use Rattle.disk_log.specs.Images.{Images, LeavesOnly}
use Rattle.disk_log.specs.Spelled.{SpellsPrefix, lines}
use Rattle.log_orders.specs.Gathered.{RestsOn}
use Rattle.log_orders.specs.Orders.{batch_of, batches}
use Rattle.log_orders.proofs.OrderLaws.{batches_more, step_leaves}
use Rattle.logged_lines.specs.declared.log_fault.LogError.{LogError}
use Rattle.logged_lines.specs.declared.log_fault.LogError.TheVariants as fault
use Rattle.logged_lines.specs.Faults.{of_write}
use Rattle.logged_lines.specs.Logged.{LogEnds, batches_of, facts_to, order_facts, orders_of}
use Rattle.logged_lines.specs.Told.{Fails, OrderEnds, WritesLog}
use Rattle.logged_lines.proofs.RunLaws.{batches_stopped, order_at, orders_long, text_to}
use Rattle.logged_lines.proofs.TellLaws.{ends_order, ends_run, fails_wrote, rests_all}
use Rattle.run_parts.specs.declared.writing.WriteError.{WriteError}
use Rattle.run_parts.specs.declared.writing.WriteError.TheVariants as error
use Rattle.run_parts.specs.Writing.{Sunk, Took, TookFront}
use Rattle.run_parts.proofs.WritingLaws.{front_more}
use Rattle.world_sim.specs.Played.{Played, made_of, next_of, MadeNext}
use Rattle.replay_run.specs.Replays.{IsOn, IsThrough, trace_text}
use Rattle.replay_run.proofs.TraceLaws.{facts_next, front_next}

-- The next order, at its place among all.
module _ (law : MadeNext) (c : Script) (n : ℕ) (world : Played) (l : Line) (on : IsOn c n world) (it : slice_get c.orders n ≡ Some l) (inside : n < length c.orders) where
  abbrev facts : List Fact
  facts = (next_of world.script world.count l).facts

  abbrev done : List (List Fact)
  done = batches (take n (orders_of c))

  order_is : facts ≡ order_facts c n
  order_is = sym (ap (drop (length (facts_to c n))) (facts_next law c n world l on it) ∙ drop-append_seam (facts_to c n) facts)

  among : n < length (orders_of c)
  among = subst (λ k. n < k) (sym (orders_long c)) inside

  place_is : facts ≡ get_or (orders_of c) n facts
  place_is = order_is ∙ order_at c n facts inside

  pub next_leaves : (old mid new : Images) → LeavesOnly old mid (SpellsPrefix (batches_of c) 0) → LeavesOnly mid new (SpellsPrefix (done ++ batch_of facts) (length done)) → LeavesOnly old new (SpellsPrefix (batches_of c) 0)
  next_leaves old mid new so_far step = step_leaves (orders_of c) n facts among place_is old mid new so_far step

  pub next_ends : (s t : Sunk) (after : Option Bytes) (images : Images) → Took (flat_map fact_line (made_of c n).facts) s t → OrderEnds facts done t.taken after images → LogEnds c s.taken after images
  next_ends s t after images took e =
      ends_run c s.taken after images (ends_order (orders_of c) n facts among place_is s.taken t.taken after images (took.taken_is ∙ ap (followed_by s.taken) (sym (text_to c n (omega (arith, inside))))) e)

  pub next_rests : (tells : Bool) (end : ℕ) (content : List ℕ) (images : Images) → RestsOn tells end content images (done ++ batch_of facts) → RestsOn tells end content images (batches (take (n + 1) (orders_of c)))
  next_rests tells end content images rests = subst (RestsOn tells end content images) (sym (batches_more (orders_of c) n facts among place_is)) rests

  -- it was the last
  pub last_rests : (late : Played) (tells : Bool) (end : ℕ) (content : List ℕ) (images : Images) → IsThrough c (n + 1) late → RestsOn tells end content images (done ++ batch_of facts) → IsTrue tells
      → (image : List ℕ) → images.now image → SpellsPrefix (batches_of c) (length (batches_of c)) image
  last_rests late tells end content images through rests told image now =
      let all : batches (take (n + 1) (orders_of c)) ≡ batches_of c = batches_stopped c (n + 1) (omega (arith, inside)) (ap (λ (m : Made). m.facts) through.made_is) in
      subst (λ b. SpellsPrefix b (length b) image) all (rests_all tells end content images (batches (take (n + 1) (orders_of c))) (next_rests tells end content images rests) told image now)

  fails_by : (e : LogError) (s t u : Sunk) → e ≢ fault.There → Took (flat_map fact_line (made_of c n).facts) s t → Fails (flat_map fact_line facts) e t u → Fails (trace_text c) e s u
  fails_by fault.Failed s t u other one two = front_next law c n world l error.Failed s t u on it one two
  fails_by fault.There s t u other one two = absurd (other refl)
  fails_by fault.Disk s t u other one two = front_next law c n world l error.OutOfMemory s t u on it one two
  fails_by fault.OutOfMemory s t u other one two = front_next law c n world l error.OutOfMemory s t u on it one two

  pub next_wrote : {A : Type 0} (e : LogError) (s t u : Sunk) (r : Result A LogError) → r ≡ Err e → e ≢ fault.There → Took (flat_map fact_line (made_of c n).facts) s t
      → Fails (flat_map fact_line facts) e t u → WritesLog (trace_text c) r s u
  next_wrote e s t u r is other one two = fails_wrote (trace_text c) e s u r is (fails_by e s t u other one two)

-- All orders were told.
pub all_rests : (c : Script) (n : ℕ) (tells : Bool) (end : ℕ) (content : List ℕ) (images : Images) → length c.orders ≤ n → RestsOn tells end content images (batches (take n (orders_of c))) → IsTrue tells
    → (image : List ℕ) → images.now image → SpellsPrefix (batches_of c) (length (batches_of c)) image
all_rests c n tells end content images le rests told image now =
    subst (λ l. SpellsPrefix (batches l) (length (batches l)) image) (take_all n (orders_of c) (omega (arith, le, orders_long c)))
    (rests_all tells end content images (batches (take n (orders_of c))) rests told image now)

-- The whole text.

abbrev pub end_of : Script → Bytes
end_of c = report (played c wire_limit).world.set (played c wire_limit).world.lists

text_by : (c : Script) (e : LogError) (s t : Sunk) → e ≢ fault.There → Fails (trace_text c) e s t → Fails (replay_text c) e s t
text_by c fault.Failed s t other front = front_more (trace_text c) (end_of c) error.Failed s t front
text_by c fault.There s t other front = absurd (other refl)
text_by c fault.Disk s t other front = front_more (trace_text c) (end_of c) error.OutOfMemory s t front
text_by c fault.OutOfMemory s t other front = front_more (trace_text c) (end_of c) error.OutOfMemory s t front

-- a front of the trace is one of the text
pub text_wrote : {A : Type 0} (c : Script) (e : LogError) (s t : Sunk) (r : Result A LogError) → r ≡ Err e → e ≢ fault.There → Fails (trace_text c) e s t → WritesLog (replay_text c) r s t
text_wrote c e s t r is other front = fails_wrote (replay_text c) e s t r is (text_by c e s t other front)

-- Of a text that isn't taken whole: neither was there a log, nor did the disk fail.

pub write_no_there : {A : Type 0} (f : WriteError) (r : Result A LogError) → r ≡ Err (of_write f) → r ≡ Err fault.There → ⊥
write_no_there error.Failed r is same = cc
write_no_there error.OutOfMemory r is same = cc

pub write_never_there : {A : Type 0} (f : WriteError) (r : Result A LogError) → r ≡ Err (of_write f) → IfErr r (λ e. e ≢ fault.There)
write_never_there f r is = subst (λ r. IfErr r (λ e. e ≢ fault.There)) (sym is) (λ same. write_no_there f r is (is ∙ ap Err same))

pub write_no_disk : {A : Type 0} (f : WriteError) (r : Result A LogError) → r ≡ Err (of_write f) → r ≡ Err fault.Disk → ⊥
write_no_disk error.Failed r is same = cc
write_no_disk error.OutOfMemory r is same = cc
