-- How a run over a disk ends, from what became of it.
use Rattle.std.proofs.Common.{◌≡◌, ◌<◌, ◌≤◌, ℕ, List, [], ◌∷◌, length, refl, sym, subst, ap, ◌∙◌, arith, inl, inr}
use Rattle.std.specs.Prelude.{Bool, true, Option, Some, None, Result, Err, IfErr, IfSome, IsTrue, ◌⊎◌, take}
use Rattle.yard_io.specs.Told.{TakesFront, followed_by}
use Rattle.yard_io.proofs.ToldLemmas.{front_whole}
use Rattle.script_text.specs.Reading.{Reading, Refused, Spelled, reading}
use Rattle.script_text.specs.declared.fault.Mode.TheVariants as mode
use Rattle.script_text.specs.declared.fault.Why.{Why}
use Rattle.yard_model.specs.declared.fact.Fact.{Fact}
use Rattle.yard_model.specs.Script.{Script}
use Rattle.yard_model.specs.Text.{Bytes}
use Rattle.yard_model.specs.World.{trace_of}
use Rattle.run_parts.specs.Stops.{stop_in}
use Rattle.disk_log.specs.Images.{Images, IsTimed, SameNow}
use Rattle.disk_log.specs.Spelled.{Spells}
use Rattle.log_resume.specs.Restored.{are_taken, entries}
use Rattle.log_orders.proofs.GatherLaws.{leaves_none}
use Rattle.resume_run.specs.declared.fault.ResumeError.{ResumeError}
use Rattle.resume_run.specs.declared.fault.ResumeError.TheVariants as error
use Rattle.apply_run.specs.Applying.{Applied, GoesOnAs, StaysAs}
use Rattle.program_words.specs.declared.forms.ScriptFrom.TheVariants as script_from
use Rattle.program_words.specs.declared.status.Status.{Status}
use Rattle.program_words.specs.declared.status.Status.TheVariants as status
use Rattle.yard_top.specs.Disks.{AppliedSome, ApplyEnds, ApplyEndsAs, IfNoScript, IsLogged, LogEndsAs, Platter, ResumeEnds, Resumed}
use Rattle.yard_top.specs.Ends.{CameScript, EndsEarly, Streams, end_of, most_read}

-- `log`.

there : (c : Script) (content : List ℕ) → 0 < length content → IsLogged c content status.LogThere
there c [] some = absurd (omega (arith, some))
there c (x ∷ xs) some = inl refl

pub all_there : (had : Option (List ℕ)) (content : List ℕ) → 0 < length content → IfSome had (λ xs. (c : Script) → reading mode.Log (take most_read xs) ≡ Spelled c → IsLogged c content status.LogThere)
all_there None content some = tt
all_there (Some xs) content some = λ c e. there c content some

without_memory : (c : Script) (content : List ℕ) → IsLogged c content status.OutOfMemory
without_memory c [] = inr refl
without_memory c (x ∷ xs) = inr refl

pub all_without_memory : (had : Option (List ℕ)) (content : List ℕ) → IfSome had (λ xs. (c : Script) → reading mode.Log (take most_read xs) ≡ Spelled c → IsLogged c content status.OutOfMemory)
all_without_memory None content = tt
all_without_memory (Some xs) content = λ c e. without_memory c content

abbrev script_or : Script → Reading → Script
script_or c (Spelled d) = d
script_or c (Refused line why) = c

-- over an empty disk a script that came is carried out
pub all_logged : (had has : Option (List ℕ)) (c : Script) (content : List ℕ) (s : Status) (stop : Option ℕ) → CameScript mode.Log had has c → content ≡ [] → stop ≡ stop_in (trace_of c) → s ≡ end_of stop
    → IfSome had (λ xs. (d : Script) → reading mode.Log (take most_read xs) ≡ Spelled d → IsLogged d content s)
all_logged None has c content s stop came empty at e = tt
all_logged (Some xs) has c content s stop came empty at e = λ d spelled.
    let same : c ≡ d = ap (script_or c) (sym came.spelled ∙ ap (reading mode.Log) came.came.bytes_are ∙ spelled) in
    subst (λ l. IsLogged d l s) (sym empty) (inl (e ∙ ap end_of (at ∙ ap (λ (x : Script). stop_in (trace_of x)) same)))

pub log_ended : (tells : Bool) (old new : Streams) (disk after : Platter) (stop : Option ℕ) (s : Status) → s ≡ end_of stop → LogEndsAs tells old new disk after s
log_ended tells old new disk after None s e = subst (LogEndsAs tells old new disk after) (sym e) tt
log_ended tells old new disk after (Some line) s e = subst (LogEndsAs tells old new disk after) (sym e) tt

-- `resume`.

all_ok : (had : Option (List ℕ)) (content : List ℕ) → IfSome had (λ xs. (c : Script) (logged : List (List Fact)) → reading mode.Log (take most_read xs) ≡ Spelled c → Spells content logged
    → are_taken c (entries logged) ≡ true → (status.Ok ≡ status.Ok) ⊎ (status.Ok ≡ status.OutOfMemory))
all_ok None content = tt
all_ok (Some xs) content = λ c logged e s t. inl refl

-- a text was written, or a write failed
pub resume_ends : (tells : Bool) (old new : Streams) (disk after : Platter) (s : Status) → (s ≡ status.Ok) ⊎ (s ≡ status.WriteFault) → (s ≡ status.Ok → Resumed tells old new disk.content)
    → (s ≡ status.WriteFault → old.write_faults < new.write_faults) → after.content ≡ disk.content → SameNow disk.images after.images → disk.faults ≤ after.faults → ResumeEnds tells old new disk after s
resume_ends tells old new disk after s (inl e) ok failed content images falls = subst (ResumeEnds tells old new disk after) (sym e) (record {
  ends = ok e;
  content_stays = content;
  images_stay = images;
  never_falls = falls;
  complete = λ none same told. all_ok old.left disk.content;
})
resume_ends tells old new disk after s (inr e) ok failed content images falls = subst (ResumeEnds tells old new disk after) (sym e) (record {
  ends = tt;
  content_stays = content;
  images_stay = images;
  never_falls = falls;
  complete = λ none same told. let rose : old.write_faults < new.write_faults = failed e in let level : new.write_faults ≡ old.write_faults = none.1 in absurd (omega (arith, rose, level));
})

-- `apply`.

-- nothing was done
pub stays_same : (content : List ℕ) (images : Images) → IsTimed images → StaysAs content images images
stays_same content images timed = λ log n had. leaves_none images timed had.crash

no_script : (c : Script) (line : ℕ) (why : Why) (r : Reading) → r ≡ Refused line why → r ≡ Spelled c → ⊥
no_script c line why r e s = let both : Refused line why ≡ Spelled c = sym e ∙ s in cc

-- there is no script to go on with
early_complete : (content : List ℕ) (had has : Option (List ℕ)) (faults after : ℕ) (s : Status) → EndsEarly (script_from.Input mode.Log) had has faults after s → after ≡ faults
    → IfSome had (λ xs. (c : Script) (logged : List (List Fact)) → reading mode.Log (take most_read xs) ≡ Spelled c → Spells content logged → are_taken c (entries logged) ≡ true → (s ≡ status.Ok) ⊎ (s ≡ status.OutOfMemory))
early_complete content None has faults after s early level = tt
early_complete content (Some xs) has faults after (status.Refused line why) early level = λ c logged spelled t u.
    absurd (no_script c line why (reading mode.Log (take most_read xs)) (ap (reading mode.Log) (sym early.came.bytes_are) ∙ early.refused) spelled)
early_complete content (Some xs) has faults after status.ReadFault early level = λ c logged spelled t u. absurd (omega (arith, early, level))
early_complete content (Some xs) has faults after status.OutOfMemory early level = λ c logged spelled t u. inr refl
early_complete content (Some xs) has faults after status.Ok early level = absurd early
early_complete content (Some xs) has faults after status.Usage early level = absurd early
early_complete content (Some xs) has faults after status.WriteFault early level = absurd early
early_complete content (Some xs) has faults after (status.WireFull line) early level = absurd early
early_complete content (Some xs) has faults after status.DiskFault early level = absurd early
early_complete content (Some xs) has faults after status.LogThere early level = absurd early
early_complete content (Some xs) has faults after (status.LogDamaged at) early level = absurd early
early_complete content (Some xs) has faults after (status.LogForeign batch) early level = absurd early

early_ends : (tells : Bool) (old new : Streams) (disk : Platter) (s : Status) → IsTimed disk.images → EndsEarly (script_from.Input mode.Log) old.left new.left old.read_faults new.read_faults s → ApplyEndsAs tells old new disk disk s
early_ends tells old new disk (status.Refused line why) timed early = tt
early_ends tells old new disk status.ReadFault timed early = tt
early_ends tells old new disk status.OutOfMemory timed early = λ told. stays_same disk.content disk.images timed
early_ends tells old new disk status.Ok timed early = absurd early
early_ends tells old new disk status.Usage timed early = absurd early
early_ends tells old new disk status.WriteFault timed early = absurd early
early_ends tells old new disk (status.WireFull line) timed early = absurd early
early_ends tells old new disk status.DiskFault timed early = absurd early
early_ends tells old new disk status.LogThere timed early = absurd early
early_ends tells old new disk (status.LogDamaged at) timed early = absurd early
early_ends tells old new disk (status.LogForeign batch) timed early = absurd early

pub apply_early : (tells : Bool) (old new : Streams) (disk : Platter) (s : Status) → IsTimed disk.images → new.taken ≡ old.taken → EndsEarly (script_from.Input mode.Log) old.left new.left old.read_faults new.read_faults s
    → ApplyEnds tells old new disk disk s
apply_early tells old new disk s timed unwritten early = record {
  any_moment = λ told. inl (stays_same disk.content disk.images timed);
  at_exit = inl unwritten;
  ends = early_ends tells old new disk s timed early;
  never_falls = omega arith;
  complete = λ none same told. early_complete disk.content old.left new.left old.read_faults new.read_faults s early none.0;
}

-- its text was written, or a write failed
pub apply_ends : (tells : Bool) (old new : Streams) (disk after : Platter) (c : Script) (s : Status) (text : Bytes) → CameScript mode.Log old.left new.left c → Applied tells disk.content after.images c text
    → (IsTrue tells → GoesOnAs disk.content disk.images after.images c) → disk.faults ≤ after.faults → (s ≡ status.Ok) ⊎ (s ≡ status.WriteFault)
    → (s ≡ status.Ok → new.taken.bytes ≡ followed_by old.taken.bytes text) → (s ≡ status.WriteFault → (old.write_faults < new.write_faults) × TakesFront old.taken.bytes new.taken.bytes text)
    → ApplyEnds tells old new disk after s
apply_ends tells old new disk after c s text came applied goes falls (inl e) ok failed = subst (ApplyEnds tells old new disk after) (sym e) (record {
  any_moment = λ told. inr (c, came, goes told);
  at_exit = inr (record { script = c; came = came; text = text; applied = applied; begun = front_whole _ _ _ (ok e) });
  ends = record { script = c; came = came; text = text; applied = applied; written = ok e };
  never_falls = falls;
  complete = λ none same told. all_ok old.left disk.content;
})
apply_ends tells old new disk after c s text came applied goes falls (inr e) ok failed =
    let some : AppliedSome tells old new disk after = record { script = c; came = came; text = text; applied = applied; begun = (failed e).1 } in
    subst (ApplyEnds tells old new disk after) (sym e) (record {
      any_moment = λ told. inr (c, came, goes told);
      at_exit = inr some;
      ends = some;
      never_falls = falls;
      complete = λ none same told. let rose : old.write_faults < new.write_faults = (failed e).0 in let level : new.write_faults ≡ old.write_faults = none.1 in absurd (omega (arith, rose, level));
    })

-- a fact where there is no script is one always
pub if_no_script : {P : Type 0} (s : Status) → P → IfNoScript s P
if_no_script status.Ok p = tt
if_no_script status.Usage p = p
if_no_script (status.Refused line why) p = p
if_no_script status.ReadFault p = p
if_no_script status.WriteFault p = tt
if_no_script status.OutOfMemory p = tt
if_no_script (status.WireFull line) p = tt
if_no_script status.DiskFault p = tt
if_no_script status.LogThere p = tt
if_no_script (status.LogDamaged at) p = tt
if_no_script (status.LogForeign batch) p = tt

-- there was one
pub script_there : (P : Type 0) (s : Status) → (s ≡ status.Ok) ⊎ (s ≡ status.WriteFault) → IfNoScript s P
script_there P s (inl e) = subst (λ x. IfNoScript x P) (sym e) tt
script_there P s (inr e) = subst (λ x. IfNoScript x P) (sym e) tt

pub script_ended : (P : Type 0) (stop : Option ℕ) (s : Status) → s ≡ end_of stop → IfNoScript s P
script_ended P None s e = subst (λ x. IfNoScript x P) (sym e) tt
script_ended P (Some line) s e = subst (λ x. IfNoScript x P) (sym e) tt

-- The errors of `apply`.

-- of a script that came, and of a log that is one of it, no other error comes than that memory was wanted
errs_complete : {A : Type 0} (content : List ℕ) (had has : Option (List ℕ)) (c : Script) (s : Status) (r : Result A ResumeError) (e : ResumeError) → CameScript mode.Log had has c → r ≡ Err e
    → (e ≡ error.OutOfMemory → s ≡ status.OutOfMemory) → ((logged : List (List Fact)) → Spells content logged → are_taken c (entries logged) ≡ true → IfErr r (λ x. x ≡ error.OutOfMemory))
    → IfSome had (λ xs. (d : Script) (logged : List (List Fact)) → reading mode.Log (take most_read xs) ≡ Spelled d → Spells content logged → are_taken d (entries logged) ≡ true → (s ≡ status.Ok) ⊎ (s ≡ status.OutOfMemory))
errs_complete content None has c s r e came is memory whole = tt
errs_complete content (Some xs) has c s r e came is memory whole = λ d logged spelled t u.
    let same : c ≡ d = ap (script_or c) (sym came.spelled ∙ ap (reading mode.Log) came.came.bytes_are ∙ spelled) in
    let only : IfErr r (λ x. x ≡ error.OutOfMemory) = whole logged t (subst (λ (x : Script). are_taken x (entries logged) ≡ true) (sym same) u) in
    let it : e ≡ error.OutOfMemory = subst (λ x. IfErr x (λ y. y ≡ error.OutOfMemory)) is only in
    inr (memory it)

pub apply_errs : {A : Type 0} (tells : Bool) (old new : Streams) (disk after : Platter) (c : Script) (s : Status) (r : Result A ResumeError) (e : ResumeError) → CameScript mode.Log old.left new.left c → new.taken ≡ old.taken
    → r ≡ Err e → (e ≡ error.OutOfMemory → s ≡ status.OutOfMemory) → (IsTrue tells → GoesOnAs disk.content disk.images after.images c) → disk.faults ≤ after.faults
    → ((logged : List (List Fact)) → IsTrue tells → Spells disk.content logged → are_taken c (entries logged) ≡ true → after.faults ≡ disk.faults → IfErr r (λ x. x ≡ error.OutOfMemory))
    → ApplyEndsAs tells old new disk after s → ApplyEnds tells old new disk after s
apply_errs tells old new disk after c s r e came unwritten is memory goes falls whole ends = record {
  any_moment = λ told. inr (c, came, goes told);
  at_exit = inl unwritten;
  ends = ends;
  never_falls = falls;
  complete = λ none same told. errs_complete disk.content old.left new.left c s r e came is memory (λ logged t u. whole logged told t u same);
}

pub failed_memory : error.Failed ≡ error.OutOfMemory → status.DiskFault ≡ status.OutOfMemory
failed_memory e = cc

pub damaged_memory : (at : ℕ) → error.Damaged at ≡ error.OutOfMemory → status.LogDamaged at ≡ status.OutOfMemory
damaged_memory at e = cc

pub foreign_memory : (k : ℕ) → error.Foreign k ≡ error.OutOfMemory → status.LogForeign k ≡ status.OutOfMemory
foreign_memory k e = cc

pub memory_failed : error.OutOfMemory ≡ error.Failed → ⊥
memory_failed e = cc

pub damaged_failed : (at : ℕ) → error.Damaged at ≡ error.Failed → ⊥
damaged_failed at e = cc

pub foreign_failed : (k : ℕ) → error.Foreign k ≡ error.Failed → ⊥
foreign_failed k e = cc
