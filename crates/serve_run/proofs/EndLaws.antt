-- What is so at the end of a run: what a crash at any moment leaves, and what was answered.
use Rattle.std.proofs.Common.{◌≡◌, ◌<◌, ◌≤◌, ℕ, inl, inr, sym, ap, ◌∙◌, refl, subst, arith}
use Rattle.std.specs.Prelude.{Bool, List, [], ◌∷◌, ◌++◌, length, take, Option, Result, Ok, Err, OnErr, OnOk, IsTrue}
use Rattle.std.proofs.lemmas.List.{append-nil}
use Rattle.yard_io.specs.Told.{followed_by}
use Rattle.yard_model.specs.Text.{Bytes}
use Rattle.disk_log.specs.Frames.{Holds}
use Rattle.disk_log.specs.Headed.{IsHeadDamaged}
use Rattle.disk_log.specs.Images.{Images, LeavesOnly}
use Rattle.disk_log.specs.Rest.{HoldsPrefix}
use Rattle.serve_laws.specs.Hearings.{AllGoOn}
use Rattle.serve_laws.specs.Served.{Desk, answers_in, frames, grouped, served}
use Rattle.serve_run.specs.Ends.{AnyMoment, AreOf, AtExit, EndsAs, LeavesUpTo, Rose, ServedAll, ServedSome, Sides, Starts, Unopened}
use Rattle.serve_service.specs.Openings.{Begins, IsForeignFrame, LeftBy}
use Rattle.serve_run.specs.Scenes.{IsBehindSettings, IsLeft, Scene, Stopped, ahead, desk_behind, joined, lines_in, scene}
use Rattle.serve_run.specs.Statuses.{of_end, of_open, of_stop}
use Rattle.serve_run.specs.Turns.{IsOver}
use Rattle.serve_run.specs.declared.status.Status.{Status}
use Rattle.serve_run.specs.declared.status.Status.TheVariants as status
use Rattle.serve_service.specs.declared.fault.OpenFault.{OpenFault}
use Rattle.serve_service.specs.declared.fault.OpenFault.TheVariants as fault
use Rattle.serve_run.specs.declared.stop.Stop.{Stop}
use Rattle.serve_run.specs.declared.stop.Stop.TheVariants as stop
use Rattle.serve_run.proofs.SceneLaws.{ahead_both, ahead_none, behind_of, behind_on, cut_both, followed_both, joined_both, leaves_on, lines_both, served_both}

-- The run behind the opening.

pub behind_begun : AllGoOn → (tells : Bool) (content : Bytes) (old new : Images) (d : Desk) → Begins tells content old new d → IsBehindSettings d
behind_begun on tells content old new d b = subst IsBehindSettings (sym b.desk) (behind_on on b.found ([] ∷ []) (behind_of b.found b.is_found.is_desk))

abbrev starts_of : (tells : Bool) (content : Bytes) (old new : Images) (d : Desk) → Begins tells content old new d → Starts tells content d
starts_of tells content old new d b = record { found = b.found; is_found = b.is_found; holds = b.holds; desk = b.desk; done = b.done }

-- the opening's moments, and those behind it
moment_both : AllGoOn → (tells : Bool) (content : Bytes) (old mid new : Images) (started last : Desk) (groups : List (List Bytes)) → (b : Begins tells content old mid started) → last ≡ served started groups
    → (IsTrue tells → LeavesOnly mid new (HoldsPrefix (frames last) (length (frames started)))) → LeavesUpTo tells b.found last old new
moment_both on tells content old mid new started last groups b is moment told n le here =
    leaves_on on old mid new b.found started last ([] ∷ []) groups n (behind_of b.found b.is_found.is_desk) b.desk is le (b.moment told n le here) (moment told)

-- Each end.

pub all_ends : AllGoOn → (tells : Bool) (old new : Sides) (mid : Images) (started : Desk) → Begins tells old.content old.images mid started
    → IsOver tells mid new.images (scene started [] old.left old.taken old.flushed) new.left new.taken new.flushed → EndsAs tells old new status.Served
all_ends on tells old new mid started b over = record {
  started = started;
  starts = starts_of tells old.content old.images mid started b;
  desk = over.desk;
  window = over.window;
  hears = over.goes.hears;
  end = over.end;
  durable = over.durable;
  moment = moment_both on tells old.content old.images mid new.images started over.desk (lines_in over.goes.hears.groups) b over.goes.hears.desk over.goes.moment;
}

some_served : AllGoOn → (tells : Bool) (old new : Sides) (mid : Images) (started : Desk) → Begins tells old.content old.images mid started
    → Stopped tells mid new.images (scene started [] old.left old.taken old.flushed) new.left new.taken → ServedSome tells old new
some_served on tells old new mid started b s =
    let xs : List (List Bytes) = lines_in s.hears.groups in
    let ys : List (List Bytes) = lines_in s.halts.groups in
    let is : desk_behind s.before.desk s.halts.groups ≡ served started (xs ++ ys) = ap (λ (d : Desk). served d ys) s.hears.desk ∙ sym (served_both started xs ys) in
    record {
      started = started;
      starts = starts_of tells old.content old.images mid started b;
      before = s.before;
      hears = s.hears;
      halts = s.halts;
      moment = moment_both on tells old.content old.images mid new.images started (desk_behind s.before.desk s.halts.groups) (xs ++ ys) b is s.moment;
    }

pub some_ends : AllGoOn → (tells : Bool) (old new : Sides) (mid : Images) (started : Desk) (why : Stop) → Begins tells old.content old.images mid started
    → Stopped tells mid new.images (scene started [] old.left old.taken old.flushed) new.left new.taken → EndsAs tells old new (of_stop why)
some_ends on tells old new mid started stop.Read b s = some_served on tells old new mid started b s
some_ends on tells old new mid started stop.Write b s = some_served on tells old new mid started b s
some_ends on tells old new mid started stop.Disk b s = inl (some_served on tells old new mid started b s)
some_ends on tells old new mid started stop.OutOfMemory b s = inl (some_served on tells old new mid started b s)

pub served_ends : {T : Type 0} → AllGoOn → (tells : Bool) (old new : Sides) (mid : Images) (started : Desk) (r : Result T Stop) → Begins tells old.content old.images mid started
    → OnOk r (IsOver tells mid new.images (scene started [] old.left old.taken old.flushed) new.left new.taken new.flushed)
    → OnErr r (Stopped tells mid new.images (scene started [] old.left old.taken old.flushed) new.left new.taken) → EndsAs tells old new (of_end r)
served_ends on tells old new mid started (Ok x) b over stopped = all_ends on tells old new mid started b over
served_ends on tells old new mid started (Err why) b over stopped = some_ends on tells old new mid started why b stopped

pub none_ends : (tells : Bool) (old new : Sides) (why : OpenFault) → new.left ≡ old.left → new.taken ≡ old.taken → (IsTrue tells → LeftBy tells old.content old.images new.images)
    → ((at : ℕ) → why ≡ fault.Damaged at → IsTrue tells → IsHeadDamaged old.content at) → ((frame : ℕ) → why ≡ fault.Foreign frame → IsForeignFrame tells old.content frame) → EndsAs tells old new (of_open why)
none_ends tells old new fault.Failed unread unwritten left damaged foreign = inr (record { unread = unread; unwritten = unwritten; left = left })
none_ends tells old new fault.OutOfMemory unread unwritten left damaged foreign = inr (record { unread = unread; unwritten = unwritten; left = left })
none_ends tells old new (fault.Damaged at) unread unwritten left damaged foreign = (damaged at refl, record { unread = unread; unwritten = unwritten; left = left })
none_ends tells old new (fault.Foreign frame) unread unwritten left damaged foreign = (foreign frame refl, record { unread = unread; unwritten = unwritten; left = left })

pub some_rose : (why : Stop) (source source' sink sink' disk disk' : ℕ) → (why ≡ stop.Read → source < source') → (why ≡ stop.Write → sink < sink') → (why ≡ stop.Disk → disk < disk')
    → Rose (of_stop why) source source' sink sink' disk disk'
some_rose stop.Read a a' b b' c c' x y z = x refl
some_rose stop.Write a a' b b' c c' x y z = y refl
some_rose stop.Disk a a' b b' c c' x y z = z refl
some_rose stop.OutOfMemory a a' b b' c c' x y z = tt

-- the disk's faults rose behind the opening
pub served_rose : {T : Type 0} (r : Result T Stop) (source source' sink sink' disk opened disk' : ℕ) → disk ≤ opened → (r ≡ Err stop.Read → source < source') → (r ≡ Err stop.Write → sink < sink')
    → (r ≡ Err stop.Disk → opened < disk') → Rose (of_end r) source source' sink sink' disk disk'
served_rose (Ok t) a a' b b' c o c' le x y z = tt
served_rose (Err why) a a' b b' c o c' le x y z = some_rose why a a' b b' c c' (λ e. x (ap Err e)) (λ e. y (ap Err e)) (λ e. let rose : o < c' = z (ap Err e) in omega (arith, le, rose))

pub none_rose : (why : OpenFault) (source source' sink sink' disk disk' : ℕ) → (why ≡ fault.Failed → disk < disk') → Rose (of_open why) source source' sink sink' disk disk'
none_rose fault.Failed a a' b b' c c' z = z refl
none_rose fault.OutOfMemory a a' b b' c c' z = tt
none_rose (fault.Damaged at) a a' b b' c c' z = tt
none_rose (fault.Foreign frame) a a' b b' c c' z = tt

-- Any moment.

-- groups were heard of what was read, and the last ones are in work
are_both : (old mid new : Option Bytes) (window : Bytes) (xs ys : List Bytes) (bytes more rest : Bytes) → old ≡ ahead bytes mid → mid ≡ ahead more new
    → bytes ≡ joined xs ++ window → window ++ more ≡ joined ys ++ rest → AreOf old new (xs ++ ys)
are_both old mid new window xs ys bytes more rest first second cut behind = record {
  bytes = bytes ++ more;
  rest = rest;
  told = first ∙ (ap (ahead bytes) second ∙ ahead_both bytes more new);
  cut = cut_both [] bytes more (joined xs) (joined ys) window rest cut behind ∙ ap (λ t. t ++ rest) (sym (joined_both xs ys));
}

so_moment : (tells : Bool) → IsTrue tells → (old new : Sides) (started last : Desk) (groups : List Bytes) → (s : Starts tells old.content started) → AreOf old.left new.left groups
    → last ≡ served started (lines_in groups) → LeavesUpTo tells s.found last old.images new.images → AnyMoment tells old new
so_moment tells told old new started last groups s are is moment =
    let same : last ≡ served (grouped s.found []) (lines_in groups) = is ∙ ap (λ (d : Desk). served d (lines_in groups)) s.desk in
    inr (s.found, s.is_found, s.holds told, groups, are, λ n le here. subst (λ (d : Desk). LeavesOnly old.images new.images (HoldsPrefix (frames d) n)) same (moment told n le here))

all_moment : (tells : Bool) → IsTrue tells → (old new : Sides) → ServedAll tells old new → AnyMoment tells old new
all_moment tells told old new e =
    so_moment tells told old new e.started e.desk e.hears.groups e.starts (record { bytes = e.hears.bytes; rest = e.window; told = e.hears.told; cut = e.hears.cut }) e.hears.desk e.moment

some_moment : (tells : Bool) → IsTrue tells → (old new : Sides) → ServedSome tells old new → AnyMoment tells old new
some_moment tells told old new e =
    let xs : List Bytes = e.hears.groups in
    let ys : List Bytes = e.halts.groups in
    let is : desk_behind e.before.desk ys ≡ served e.started (lines_in (xs ++ ys)) =
    ap (λ (d : Desk). desk_behind d ys) e.hears.desk ∙ (sym (served_both e.started (lines_in xs) (lines_in ys)) ∙ ap (served e.started) (sym (lines_both xs ys))) in
    so_moment tells told old new e.started (desk_behind e.before.desk ys) (xs ++ ys) e.starts
    (are_both old.left e.before.left new.left e.before.window xs ys e.hears.bytes e.halts.bytes e.halts.rest e.hears.told e.halts.told e.hears.cut e.halts.cut) is e.moment

none_moment : (tells : Bool) → IsTrue tells → (old new : Sides) → Unopened tells old new → AnyMoment tells old new
none_moment tells told old new e = by (e.left told)
  where
    by : LeftBy tells old.content old.images new.images → AnyMoment tells old new
    by (inl stays) = inl stays
    by (inr (d, b)) =
        so_moment tells told old new d d [] (starts_of tells old.content old.images new.images d b) (record { bytes = []; rest = []; told = sym e.unread ∙ ahead_none new.left; cut = refl }) refl b.moment

pub moment_of : (tells : Bool) → IsTrue tells → (old new : Sides) (s : Status) → EndsAs tells old new s → AnyMoment tells old new
moment_of tells told old new status.Served e = all_moment tells told old new e
moment_of tells told old new status.Usage e = absurd e
moment_of tells told old new status.ReadFault e = some_moment tells told old new e
moment_of tells told old new status.WriteFault e = some_moment tells told old new e
moment_of tells told old new status.OutOfMemory (inl e) = some_moment tells told old new e
moment_of tells told old new status.OutOfMemory (inr e) = none_moment tells told old new e
moment_of tells told old new status.DiskFault (inl e) = some_moment tells told old new e
moment_of tells told old new status.DiskFault (inr e) = none_moment tells told old new e
moment_of tells told old new (status.LogDamaged at) e = none_moment tells told old new e.1
moment_of tells told old new (status.LogForeign frame) e = none_moment tells told old new e.1

-- The end.

all_exit : (tells : Bool) → IsTrue tells → (old new : Sides) → ServedAll tells old new → AtExit tells old new
all_exit tells told old new e =
    let start : Desk = grouped e.starts.found [] in
    let ls : List (List Bytes) = lines_in e.hears.groups in
    let same : e.desk ≡ served start ls = e.hears.desk ∙ ap (λ (d : Desk). served d ls) e.starts.desk in
    inr (record {
      found = e.starts.found;
      is_found = e.starts.is_found;
      holds = e.starts.holds told;
      groups = e.hears.groups;
      last = [];
      few = omega arith;
      are = record { bytes = e.hears.bytes; rest = e.window; told = e.hears.told; cut = e.hears.cut ∙ ap (λ (g : List Bytes). joined g ++ e.window) (sym (append-nil e.hears.groups)) };
      count = 0;
      taken = e.hears.taken ∙ ap (followed_by old.taken) (ap (λ (d : Desk). answers_in d ls) e.starts.desk ∙ sym (append-nil (answers_in start ls)));
      left = inr (λ image now. subst (λ (d : Desk). Holds (frames d) image) same (e.durable told image now));
    })

some_exit : (tells : Bool) → IsTrue tells → (old new : Sides) → ServedSome tells old new → AtExit tells old new
some_exit tells told old new e =
    let before : Scene = e.before in
    let start : Desk = grouped e.starts.found [] in
    let xs : List (List Bytes) = lines_in e.hears.groups in
    let ys : List (List Bytes) = lines_in e.halts.groups in
    let same : before.desk ≡ served start xs = e.hears.desk ∙ ap (λ (d : Desk). served d xs) e.starts.desk in
    inr (record {
      found = e.starts.found;
      is_found = e.starts.is_found;
      holds = e.starts.holds told;
      groups = e.hears.groups;
      last = e.halts.groups;
      few = e.halts.few;
      are = are_both old.left before.left new.left before.window e.hears.groups e.halts.groups e.hears.bytes e.halts.bytes e.halts.rest e.hears.told e.halts.told e.hears.cut e.halts.cut;
      count = e.halts.count;
      taken =
          e.halts.taken_is ∙ (ap (λ t. followed_by t (take e.halts.count (answers_in before.desk ys))) e.hears.taken ∙ (followed_both old.taken (answers_in e.started xs) (take e.halts.count (answers_in before.desk ys))
          ∙ ap (followed_by old.taken)
          (ap (λ (d : Desk). answers_in d xs ++ take e.halts.count (answers_in before.desk ys)) e.starts.desk ∙ ap (λ (d : Desk). answers_in start xs ++ take e.halts.count (answers_in d ys)) same)));
      left = subst (λ (d : Desk). IsLeft d ys (take e.halts.count (answers_in d ys)) new.images) same (e.halts.at_exit told);
    })

pub exit_of : (tells : Bool) → IsTrue tells → (old new : Sides) (s : Status) → EndsAs tells old new s → AtExit tells old new
exit_of tells told old new status.Served e = all_exit tells told old new e
exit_of tells told old new status.Usage e = absurd e
exit_of tells told old new status.ReadFault e = some_exit tells told old new e
exit_of tells told old new status.WriteFault e = some_exit tells told old new e
exit_of tells told old new status.OutOfMemory (inl e) = some_exit tells told old new e
exit_of tells told old new status.OutOfMemory (inr e) = inl e.unwritten
exit_of tells told old new status.DiskFault (inl e) = some_exit tells told old new e
exit_of tells told old new status.DiskFault (inr e) = inl e.unwritten
exit_of tells told old new (status.LogDamaged at) e = inl e.1.unwritten
exit_of tells told old new (status.LogForeign frame) e = inl e.1.unwritten
