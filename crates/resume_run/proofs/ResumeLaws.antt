-- From what a log comes to, to the text of `resume`.
use Rattle.std.proofs.Common.{◌≡◌, ◌<◌, ◌≤◌, ℕ, sym, ap, ◌∙◌, refl, subst, length, arith, append_assoc}
use Rattle.std.specs.Prelude.{Bool, true, false, nat_le, List, [], ◌++◌, is_some, Option, Some, None, Result, Ok, Err, IfErr, IsTrue}
use Rattle.plain_laws.proofs.Booleans.{and_both, at_most, all_map}
use Rattle.yard_model.specs.declared.fact.Fact.{Fact}
use Rattle.yard_model.specs.declared.fact.Fact.TheVariants as fact
use Rattle.yard_model.specs.declared.incarnation.Incarnation.{Incarnation}
use Rattle.yard_model.specs.declared.incarnation.Slot.{Slot}
use Rattle.yard_model.specs.declared.incarnation.Slot.TheVariants as slot
use Rattle.yard_model.specs.Genuine.{is_slot_of}
use Rattle.yard_model.specs.Lawful.{lawful, own}
use Rattle.yard_model.specs.Script.{Script, IsScript, setting, is_version}
use Rattle.yard_model.specs.SlotLists.{SlotLists}
use Rattle.yard_model.specs.SlotReads.{holder}
use Rattle.yard_model.specs.Text.{Bytes, lists_text, report}
use Rattle.yard_model.specs.Trace.{list_at}
use Rattle.yard_model.specs.World.{given_world, wire_limit}
use Rattle.yard_laws.specs.Guarded.{Owns}
use Rattle.yard_laws.proofs.SafetyLaws.{owns_of}
use Rattle.shard_store.specs.Stores.{Shelves, lists_at}
use Rattle.trace_text.specs.Foldable.{is_foldable_in_all}
use Rattle.trace_text.specs.Slots.{slots_text}
use Rattle.foldable_laws.proofs.Foldable.{Rules, lists_fold}
use Rattle.settle_laws.specs.Settles.{most_deliveries}
use Rattle.world_sim.specs.Given as given
use Rattle.world_sim.specs.Given.{IsGiven}
use Rattle.world_sim.specs.Played.{AreSettled}
use Rattle.readable_lists.specs.Readable.{AreReadable}
use Rattle.fact_lines.specs.Laws.{EntriesAreReadable, TextsTell}
use Rattle.disk_log.specs.Spelled.{IsDamaged, Spells}
use Rattle.log_resume.specs.declared.fault.ResumeFault.{ResumeFault}
use Rattle.log_resume.specs.declared.fault.ResumeFault.TheVariants as logged
use Rattle.log_resume.specs.Restored.{IsForeign, MayGoOn, are_taken, entries, is_numbered, restored}
use Rattle.log_resume.proofs.BatchLaws.{not_whole}
use Rattle.resume_run.specs.declared.fault.ResumeError.{ResumeError}
use Rattle.resume_run.specs.declared.fault.ResumeError.TheVariants as error
use Rattle.resume_run.specs.Faults.{of_log}
use Rattle.resume_run.specs.ResumeText.{GoneOn, IsForeignLog, ResumeText}
use Rattle.resume_run.proofs.FreedLaws.{restored_report}
use Rattle.resume_run.proofs.SpellLaws.{spells_once}

-- What a log comes to may be settled.

none_holds : (o : Option Incarnation) → is_some o ≡ false → o ≡ None
none_holds None e = refl
none_holds (Some x) e = cc

numbered_is : (f : Fact) → is_numbered f ≡ true → given.is_numbered f ≡ true
numbered_is (fact.Granted s n x) h = h
numbered_is (fact.Registered x) h = h
numbered_is f h = refl

pub may_settle : (c : Script) (version : ℕ) (lists : SlotLists) → is_version c version ≡ true → most_deliveries (given_world c version lists) ≤ wire_limit → MayGoOn c lists → IsGiven c version lists
may_settle c version lists admitted fits on = record {
  admitted = admitted;
  fits = fits;
  lawful_is = on.lawful_is;
  unheld = λ s h. none_holds (holder (list_at lists s)) (on.unheld s h);
  numbered = λ s h. all_map is_numbered given.is_numbered numbered_is (list_at lists s) (on.numbered s h);
}

-- Its report, and that of the lists that it is settled to.

each_own : (c : Script) (lists : SlotLists) → Owns c lists → (s : Slot) → is_slot_of c s ≡ true → own c s (list_at lists s) ≡ true
each_own c lists o (slot.Shard k) h = o.shard k
each_own c lists o slot.Coordinator h = o.coordinator
each_own c lists o (slot.Queue p) h =
    let low : 1 ≤ p = at_most 1 p (and_both (nat_le 1 p) (nat_le p c.config.producers) h).0 in
    o.queue p (omega arith)

-- each journal in lawful lists leads to a state
pub lawful_folds : (c : Script) (s : Shelves) → s.script ≡ c → Rules → IsScript c → lawful c (lists_at c.config s.places) ≡ true → is_foldable_in_all (setting c) (lists_at s.script.config s.places) ≡ true
lawful_folds c s is rules ok law =
    let lists : SlotLists = lists_at c.config s.places in
    subst (λ (d : Script). is_foldable_in_all (setting c) (lists_at d.config s.places) ≡ true) (sym is) (lists_fold c lists rules ok (each_own c lists (owns_of c lists law).0))

pub gone_on : (c : Script) (s t : Shelves) (none first second third : Bytes) → s.script ≡ c → t.script ≡ c → AreSettled c (lists_at c.config s.places) (lists_at c.config t.places)
    → none ≡ [] → first ≡ none ++ report (setting c) (lists_at s.script.config s.places) → second ≡ first ++ slots_text (setting c) (lists_at t.script.config t.places)
    → third ≡ second ++ report (setting c) (lists_at t.script.config t.places) → AreReadable c (lists_at t.script.config t.places) → GoneOn c (lists_at c.config s.places) third
gone_on c s t none first second third is too end empty one two three readable =
    let old : SlotLists = lists_at c.config s.places in
    let new : SlotLists = lists_at c.config t.places in
    let first_is : first ≡ report (setting c) old = one ∙ (ap (λ x. x ++ report (setting c) (lists_at s.script.config s.places)) empty ∙ ap (λ (d : Script). report (setting c) (lists_at d.config s.places)) is) in
    let second_is : second ≡ report (setting c) old ++ slots_text (setting c) new =
    two ∙ (ap (λ x. x ++ slots_text (setting c) (lists_at t.script.config t.places)) first_is ∙ ap (λ (d : Script). report (setting c) old ++ slots_text (setting c) (lists_at d.config t.places)) too) in
    let third_is : third ≡ (report (setting c) old ++ slots_text (setting c) new) ++ report (setting c) new =
    three ∙ (ap (λ x. x ++ report (setting c) (lists_at t.script.config t.places)) second_is
    ∙ ap (λ (d : Script). (report (setting c) old ++ slots_text (setting c) new) ++ report (setting c) (lists_at d.config t.places)) too) in
    record {
      lists = new;
      settled = end;
      readable = subst (λ (d : Script). AreReadable c (lists_at d.config t.places)) too readable;
      text_is = third_is ∙ append_assoc (report (setting c) old) (slots_text (setting c) new) (report (setting c) new);
    }

-- The text of a log.

pub text_of : (c : Script) (log : List (List Fact)) (lists : SlotLists) (text : Bytes) → are_taken c (entries log) ≡ true → lists ≡ restored c log → GoneOn c lists text → ResumeText c log text
text_of c log lists text taken is on = record {
  taken = taken;
  lists = on.lists;
  settled = subst (λ l. AreSettled c l on.lists) is on.settled;
  readable = on.readable;
  text_is = on.text_is ∙ ap (λ x. x ++ lists_text (setting c) on.lists) (ap (report (setting c)) is ∙ restored_report c log);
}

-- With no fault, of a log whose entries may all stand, no other answer comes than that memory was wanted.
pub complete : {A : Type 0} (tells : Bool) (image : List ℕ) (c : Script) (old new : ℕ) (r : Result A ResumeError) → (r ≡ Err error.Failed → old < new)
    → ((at : ℕ) → r ≡ Err (error.Damaged at) → IsTrue tells → IsDamaged image at) → ((k : ℕ) → r ≡ Err (error.Foreign k) → IsForeignLog tells image c k)
    → ((bytes : List ℕ) (batches : List (List Fact)) (at : ℕ) → Spells bytes batches → IsDamaged bytes at → ⊥) → TextsTell → EntriesAreReadable
    → (log : List (List Fact)) → IsTrue tells → Spells image log → are_taken c (entries log) ≡ true → new ≡ old → IfErr r (λ e. e ≡ error.OutOfMemory)
complete tells image c old new (Ok x) cause damaged foreign one tell readable log told spells taken calm = tt
complete tells image c old new (Err error.Failed) cause damaged foreign one tell readable log told spells taken calm = let rose : old < new = cause refl in absurd (omega (arith, rose, calm))
complete tells image c old new (Err error.OutOfMemory) cause damaged foreign one tell readable log told spells taken calm = refl
complete tells image c old new (Err (error.Damaged at)) cause damaged foreign one tell readable log told spells taken calm = absurd (one image log at spells (damaged at refl told))
complete tells image c old new (Err (error.Foreign k)) cause damaged foreign one tell readable log told spells taken calm =
    let f = foreign k refl in
    let same : f.log ≡ log = spells_once tell readable f.log log image (f.spells told) spells in
    absurd (not_whole c log k (subst (λ l. IsForeign c l k) same f.foreign) taken)

-- the fault of a log, where the error names a batch
pub log_foreign : (f : ResumeFault) (k : ℕ) → of_log f ≡ error.Foreign k → f ≡ logged.Foreign k
log_foreign logged.OutOfMemory k e = cc
log_foreign (logged.Foreign other) k e = let same : other ≡ k = cc in ap logged.Foreign same
