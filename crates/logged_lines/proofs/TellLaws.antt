-- Batches and lines of the orders, as they are told.
use Rattle.std.proofs.Common.{◌≡◌, refl, sym, ap, ◌∙◌, subst, arith, ℕ, zero, suc, ◌+◌, ◌-◌, ◌<◌, ◌≤◌, length, get_or, true, List, [], ◌∷◌, ◌++◌, take, length-append}
use Rattle.std.specs.Prelude.{Bool, IsTrue, Option, Result, Err}
use Rattle.std.proofs.lemmas.List.{append-nil, take-append-le}
use Rattle.yard_io.specs.Told.{TakesFront, followed_by}
use Rattle.yard_io.proofs.ToldLemmas.{followed_nil}
use Rattle.yard_model.specs.declared.fact.Fact.{Fact}
use Rattle.yard_model.specs.Replay.{replay_text}
use Rattle.yard_model.specs.Script.{Script}
use Rattle.yard_model.specs.Text.{Bytes, report}
use Rattle.yard_model.specs.World.{played, trace_of, wire_limit}
use Rattle.disk_log.specs.declared.log.MakeFault.{MakeFault}
use Rattle.disk_log.specs.declared.log.MakeFault.TheVariants as make
use Rattle.disk_log.specs.Frames.{Holds}
use Rattle.disk_log.specs.Images.{Images, IsTimed, LeavesOnly, Only}
use Rattle.disk_log.proofs.Moments.{leaves_weaker}
use Rattle.disk_log.specs.Spelled.{SpellsPrefix, lines}
use Rattle.log_orders.specs.declared.orders.CommitFault.{CommitFault}
use Rattle.log_orders.specs.declared.orders.CommitFault.TheVariants as commit
use Rattle.log_orders.specs.Gathered.{RestsOn}
use Rattle.log_orders.specs.Orders.{Ends, batch_of, batches, begun, text_of}
use Rattle.log_orders.proofs.GatherLaws.{leaves_none, rest_prefix}
use Rattle.log_orders.proofs.OrderLaws.{ends_logged, ends_unlogged, now_of}
use Rattle.run_parts.specs.declared.writing.WriteError.{WriteError}
use Rattle.run_parts.specs.declared.writing.WriteError.TheVariants as error
use Rattle.run_parts.specs.Writing.{Sunk, TookFront}
use Rattle.run_parts.proofs.WritingLaws.{none_taken}
use Rattle.logged_lines.specs.declared.log_fault.LogError.{LogError}
use Rattle.logged_lines.specs.declared.log_fault.LogError.TheVariants as fault
use Rattle.logged_lines.specs.Faults.{of_commit, of_make, of_write}
use Rattle.logged_lines.specs.Logged.{LogEnds, batches_of, orders_of}
use Rattle.logged_lines.specs.Told.{Fails, OrderEnds, WritesLog}
use Rattle.logged_lines.proofs.RunLaws.{text_all}

begun_none : (k : ℕ) → begun k [] ≡ 0
begun_none zero = refl
begun_none (suc k) = refl

-- no more are begun than there are
pub begun_within : (k : ℕ) (orders : List (List Fact)) → begun k orders ≤ length (batches orders)
begun_within zero orders = omega arith
begun_within (suc k) [] = omega arith
begun_within (suc k) (facts ∷ orders) = omega (arith, begun_within (suc k - length (lines facts)) orders, length-append (batch_of facts) (batches orders))

begun_one : (k : ℕ) (facts : List Fact) → begun k (facts ∷ []) ≤ length (batch_of facts)
begun_one k facts = omega (arith, begun_within k (facts ∷ []), ap length (append-nil (batch_of facts)))

pub prefix_least : (all : List (List Fact)) (n least : ℕ) (image : List ℕ) → least ≤ n → SpellsPrefix all n image → SpellsPrefix all least image
prefix_least all n least image le p = record { count = p.count; at_least = omega (arith, le, p.at_least); at_most = p.at_most; spells = p.spells }

-- what a log at rest leaves
pub rests_prefix : (tells : Bool) (end : ℕ) (content : List ℕ) (images : Images) (done more : List (List Fact)) → RestsOn tells end content images done → IsTrue tells
    → (image : List ℕ) → images.now image → SpellsPrefix (done ++ more) (length done) image
rests_prefix tells end content images done more rests told image now = rest_prefix tells end content images done more rests.are rests.rests told image now

pub rests_all : (tells : Bool) (end : ℕ) (content : List ℕ) (images : Images) (done : List (List Fact)) → RestsOn tells end content images done → IsTrue tells
    → (image : List ℕ) → images.now image → SpellsPrefix done (length done) image
rests_all tells end content images done rests told image now = subst (λ l. SpellsPrefix l (length done) image) (append-nil done) (rests_prefix tells end content images done [] rests told image now)

-- An order's end.

-- its batch wasn't committed, and nothing was written
pub order_unlogged : (facts : List Fact) (done : List (List Fact)) (before after : Option Bytes) (images : Images) → after ≡ before
    → ((image : List ℕ) → images.now image → SpellsPrefix (done ++ batch_of facts) (length done) image) → OrderEnds facts done before after images
order_unlogged facts done before after images same crash = record {
  count = 0;
  within = omega arith;
  taken = same ∙ sym (followed_nil before);
  crash = λ image now. prefix_least (done ++ batch_of facts) (length done) (length done + begun 0 (facts ∷ [])) image (omega arith) (crash image now);
}

-- it was, and a front of its lines was written
pub order_logged : (facts : List Fact) (done : List (List Fact)) (before after : Option Bytes) (tells : Bool) (end : ℕ) (content : List ℕ) (images : Images) → TakesFront before after (lines facts)
    → RestsOn tells end content images (done ++ batch_of facts) → IsTrue tells → OrderEnds facts done before after images
order_logged facts done before after tells end content images front rests told = record {
  count = front.0;
  within = front.1;
  taken = front.2;
  crash = λ image now. prefix_least (done ++ batch_of facts) (length (done ++ batch_of facts)) (length done + begun front.0 (facts ∷ [])) image
      (omega (arith, length-append done (batch_of facts), begun_one front.0 facts)) (rests_all tells end content images (done ++ batch_of facts) rests told image now);
}

-- The run's end within an order.
module _ (orders : List (List Fact)) (i : ℕ) (facts : List Fact) (inside : i < length orders) (is : facts ≡ get_or orders i facts) where
  ends_by : (n : ℕ) (before mid after : Option Bytes) (images : Images) → mid ≡ followed_by before (text_of (take i orders)) → n ≤ length (lines facts) → after ≡ followed_by mid (take n (lines facts))
      → ((image : List ℕ) → images.now image → SpellsPrefix (batches (take i orders) ++ batch_of facts) (length (batches (take i orders)) + begun n (facts ∷ [])) image) → Ends orders true before after images
  ends_by zero before mid after images taken within more crash =
      ends_unlogged orders i facts inside is true before after images (more ∙ (followed_nil mid ∙ taken))
      (λ told image now. prefix_least (batches (take i orders) ++ batch_of facts) (length (batches (take i orders)) + begun 0 (facts ∷ [])) (length (batches (take i orders))) image (omega arith) (crash image now))
  ends_by (suc n) before mid after images taken within more crash =
      ends_logged orders i facts inside is (suc n) true before mid after images taken within more
      (λ told image now. prefix_least (batches (take i orders) ++ batch_of facts) (length (batches (take i orders)) + begun (suc n) (facts ∷ [])) (length (batches (take i orders) ++ batch_of facts)) image
      (omega (arith, length-append (batches (take i orders)) (batch_of facts))) (crash image now))

  pub ends_order : (before mid after : Option Bytes) (images : Images) → mid ≡ followed_by before (text_of (take i orders)) → OrderEnds facts (batches (take i orders)) mid after images → Ends orders true before after images
  ends_order before mid after images taken e = ends_by e.count before mid after images taken e.within e.taken e.crash

-- the text is that of the trace, and the report
text_is : (c : Script) → replay_text c ≡ lines (trace_of c) ++ report (played c wire_limit).world.set (played c wire_limit).world.lists
text_is c = refl

pub ends_run : (c : Script) (before after : Option Bytes) (images : Images) → Ends (orders_of c) true before after images → LogEnds c before after images
ends_run c before after images e =
    let rest = report (played c wire_limit).world.set (played c wire_limit).world.lists in
    let short : e.count ≤ length (lines (trace_of c)) = omega (arith, e.within, ap length (text_all c)) in
    record {
      count = e.count;
      within = omega (arith, short, length-append (lines (trace_of c)) rest);
      taken = e.taken ∙ ap (followed_by before) (ap (take e.count) (text_all c) ∙ sym (take-append-le e.count (lines (trace_of c)) rest short));
      crash = e.crash refl;
    }

-- all batches are committed, and a front of the text was written
pub ends_all_logged : (c : Script) (before after : Option Bytes) (images : Images) → TakesFront before after (replay_text c)
    → ((image : List ℕ) → images.now image → SpellsPrefix (batches_of c) (length (batches_of c)) image) → LogEnds c before after images
ends_all_logged c before after images front crash = record {
  count = front.0;
  within = front.1;
  taken = front.2;
  crash = λ image now. prefix_least (batches_of c) (length (batches_of c)) (begun front.0 (orders_of c)) image (begun_within front.0 (orders_of c)) (crash image now);
}

-- nothing is logged, and nothing written
pub ends_empty : (c : Script) (before after : Option Bytes) (images : Images) → after ≡ before → ((image : List ℕ) → images.now image → SpellsPrefix (batches_of c) 0 image) → LogEnds c before after images
ends_empty c before after images same crash = record { count = 0; within = omega arith; taken = same ∙ sym (followed_nil before); crash = crash }

-- an empty image spells none
pub empty_prefix : (all : List (List Fact)) (image : List ℕ) → Holds [] image → SpellsPrefix all 0 image
empty_prefix all image holds = record { count = 0; at_least = omega arith; at_most = omega arith; spells = record { batches_are = tt; texts = holds } }

-- what a crash leaves of an empty disk
pub fresh_prefix : (all : List (List Fact)) (images : Images) → Only [] images → (image : List ℕ) → images.now image → SpellsPrefix all 0 image
fresh_prefix all images only image now = empty_prefix all image (subst (Holds []) (sym (only image now)) refl)

pub fresh_leaves : (all : List (List Fact)) (images : Images) → IsTimed images → Only [] images → LeavesOnly images images (SpellsPrefix all 0)
fresh_leaves all images timed only = leaves_none images timed (fresh_prefix all images only)

-- a log is made, and then it goes on
pub made_leaves : (all : List (List Fact)) (old mid : Images) → LeavesOnly old mid (Holds []) → LeavesOnly old mid (SpellsPrefix all 0)
made_leaves all old mid leaves = leaves_weaker old mid (empty_prefix all) leaves

pub made_prefix : (all : List (List Fact)) (old mid : Images) → IsTimed mid → LeavesOnly old mid (Holds []) → (image : List ℕ) → mid.now image → SpellsPrefix all 0 image
made_prefix all old mid timed leaves image now = now_of old mid timed (made_leaves all old mid leaves) image now

-- of which fault an answer is
pub make_there : {A : Type 0} (f : MakeFault) (r : Result A LogError) → r ≡ Err (of_make f) → r ≡ Err fault.There → f ≡ make.There
make_there make.Failed r is same = cc
make_there make.There r is same = refl

pub make_disk : {A : Type 0} (f : MakeFault) (r : Result A LogError) → r ≡ Err (of_make f) → r ≡ Err fault.Disk → f ≡ make.Failed
make_disk make.Failed r is same = refl
make_disk make.There r is same = cc

-- What an answer says of a text, which is of such a fault.

made_by : (text : Bytes) (f : MakeFault) (s : Sunk) → Fails text (of_make f) s s
made_by text make.Failed s = none_taken text s
made_by text make.There s = refl

committed_by : (text : Bytes) (f : CommitFault) (s : Sunk) → Fails text (of_commit f) s s
committed_by text commit.Failed s = none_taken text s
committed_by text commit.OutOfMemory s = none_taken text s

written_by : (text : Bytes) (f : WriteError) (s t : Sunk) → TookFront text f s t → Fails text (of_write f) s t
written_by text error.Failed s t front = front
written_by text error.OutOfMemory s t front = front

pub fails_wrote : {A : Type 0} (text : Bytes) (e : LogError) (s t : Sunk) (r : Result A LogError) → r ≡ Err e → Fails text e s t → WritesLog text r s t
fails_wrote text e s t r is fails = subst (λ r. WritesLog text r s t) (sym is) fails

pub make_wrote : {A : Type 0} (text : Bytes) (f : MakeFault) (s : Sunk) (r : Result A LogError) → r ≡ Err (of_make f) → WritesLog text r s s
make_wrote text f s r is = fails_wrote text (of_make f) s s r is (made_by text f s)

pub commit_wrote : {A : Type 0} (text : Bytes) (f : CommitFault) (s : Sunk) (r : Result A LogError) → r ≡ Err (of_commit f) → WritesLog text r s s
commit_wrote text f s r is = fails_wrote text (of_commit f) s s r is (committed_by text f s)

pub write_wrote : {A : Type 0} (text : Bytes) (f : WriteError) (s t : Sunk) (r : Result A LogError) → r ≡ Err (of_write f) → TookFront text f s t → WritesLog text r s t
write_wrote text f s t r is front = fails_wrote text (of_write f) s t r is (written_by text f s t front)
