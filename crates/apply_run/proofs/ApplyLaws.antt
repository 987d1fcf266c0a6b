-- A log that is gone on with: what is read of it, what a crash leaves, and its report.
use Rattle.std.proofs.Common.{◌≡◌, ◌⊎◌, ◌<◌, ◌≤◌, ℕ, zero, suc, List, [], ◌∷◌, ◌++◌, length, take, inl, inr, refl, sym, ◌∙◌, ap, subst, arith, length-append}
use Rattle.std.specs.Prelude.{Bool, true, false, map, Result, Ok, Err, IfErr, IsTrue, if◌then◌else◌}
use Rattle.std.proofs.lemmas.List.{append-nil, take-append-le, take_all}
use Rattle.yard_model.specs.declared.fact.Fact.{Fact}
use Rattle.yard_model.specs.Script.{Script, IsScript, setting}
use Rattle.yard_model.specs.SlotLists.{SlotLists}
use Rattle.yard_model.specs.Text.{Bytes, report}
use Rattle.yard_model.specs.World.{settled_from}
use Rattle.disk_log.specs.Frames.{Holds as HoldsTexts}
use Rattle.disk_log.specs.Images.{Images, IsTimed, LeavesOnly}
use Rattle.disk_log.specs.Opening.{LeftOrNone}
use Rattle.disk_log.specs.Rest.{Rests}
use Rattle.disk_log.specs.Spelled.{AreBatches, IsDamaged, Spells, SpellsPrefix, lines}
use Rattle.disk_log.proofs.CommitLaws.{rests_hold}
use Rattle.disk_log.proofs.Moments.{leaves_then, leaves_weaker}
use Rattle.disk_log.proofs.SpellLaws.{short_spells}
use Rattle.log_resume.specs.Restored.{IsForeign, are_taken, entries, restored}
use Rattle.log_resume.proofs.BatchLaws.{not_whole}
use Rattle.log_orders.specs.Orders.{batch_of}
use Rattle.log_orders.specs.Gathered.{RestsOn}
use Rattle.grow_laws.specs.Once.{EachOnce}
use Rattle.apply_laws.specs.Applied.{applied, is_done, lists_in, log_after}
use Rattle.apply_laws.specs.Applying.{AppliedIsBatch, AppliedIsTaken, AppliedLists, AppliedOnce, AppliedSettles}
use Rattle.disk_log.specs.declared.reading.ReadLogFault.{ReadLogFault}
use Rattle.disk_log.specs.declared.reading.ReadLogFault.TheVariants as reading
use Rattle.resume_run.specs.Faults.{of_reading}
use Rattle.resume_run.specs.declared.fault.ResumeError.{ResumeError}
use Rattle.resume_run.specs.declared.fault.ResumeError.TheVariants as error
use Rattle.resume_run.specs.ResumeText.{IsForeignLog}
use Rattle.resume_run.proofs.FreedLaws.{restored_report}
use Rattle.apply_run.specs.Applying.{Had, Holds, IsRefusal, lists_behind, told_behind}

-- The report.

pub report_behind : AppliedLists → (c : Script) (log : List (List Fact)) → IsScript c → are_taken c (entries log) ≡ true → report (setting c) (lists_behind c log) ≡ report (setting c) (lists_in c (log_after c log))
report_behind law c log ok taken = by (is_done c log) refl
  where
    by : (b : Bool) → is_done c log ≡ b → report (setting c) (if b then restored c log else (settled_from c 1 (restored c log)).world.lists) ≡ report (setting c) (lists_in c (log_after c log))
    by true e = restored_report c log ∙ sym (ap (report (setting c)) (law c log ok taken ∙ ap (λ b. if b then lists_in c log else (settled_from c 1 (restored c log)).world.lists) e))
    by false e = sym (ap (report (setting c)) (law c log ok taken ∙ ap (λ b. if b then lists_in c log else (settled_from c 1 (restored c log)).world.lists) e))

-- Behind the run.

spells_all : (tells : Bool) (end : ℕ) (content : List ℕ) (images : Images) (batches : List (List Fact)) → RestsOn tells end content images batches → IsTrue tells → (c : List ℕ) → images.now c → Spells c batches
spells_all tells end content images batches on told c now = record { batches_are = on.are; texts = rests_hold tells end content images (map lines batches) on.rests told c now }

module _ (taken_law : AppliedIsTaken) (settles : AppliedSettles) (once : AppliedOnce) (batch : AppliedIsBatch) (c : Script) (log : List (List Fact)) (ok : IsScript c) (few : length c.orders ≤ 20000)
    (taken : are_taken c (entries log) ≡ true) where
  pub holds : (tells : Bool) (end : ℕ) (content : List ℕ) (images : Images) (text : Bytes) → RestsOn tells end content images (log ++ batch_of (told_behind c log))
      → text ≡ report (setting c) (lists_in c (log_after c log)) → Holds tells images c log text
  holds tells end content images text on text_is = record {
    taken = taken_law c log ok taken;
    done = settles c log ok few taken;
    once = once c log ok few taken;
    on_disk = subst (λ l. IsTrue tells → (image : List ℕ) → images.now image → Spells image (log ++ l)) (sym (batch c log)) (spells_all tells end content images (log ++ batch_of (told_behind c log)) on);
    text_is = text_is;
  }

-- What a crash leaves, seen from before.

lift : (log more : List (List Fact)) (n : ℕ) (c : List ℕ) → SpellsPrefix log n c → SpellsPrefix (log ++ more) n c
lift log more n c p = record {
  count = p.count;
  at_least = p.at_least;
  at_most = omega (arith, p.at_most, length-append log more);
  spells = subst (λ (bs : List (List Fact)). Spells c bs) (sym (take-append-le p.count log more p.at_most)) p.spells;
}

lower : (bs : List (List Fact)) (m n : ℕ) (c : List ℕ) → n ≤ m → SpellsPrefix bs m c → SpellsPrefix bs n c
lower bs m n c le p = record { count = p.count; at_least = omega (arith, le, p.at_least); at_most = p.at_most; spells = p.spells }

-- of a log alone at the end: it is all there
pub prefix_of_all : (log : List (List Fact)) (c : List ℕ) → Spells c log → SpellsPrefix log (length log) c
prefix_of_all log c spells = record {
  count = length log;
  at_least = omega arith;
  at_most = omega arith;
  spells = subst (Spells c) (sym (take_all (length log) log (omega arith))) spells;
}

module _ (one : (image : List ℕ) (batches others : List (List Fact)) → Spells image batches → Spells image others → batches ≡ others)
    (content : List ℕ) (old : Images) (log : List (List Fact)) (n : ℕ) (had : Had content old log n) where
  opened : (more : List (List Fact)) (c : List ℕ) → LeftOrNone content old c → SpellsPrefix (log ++ more) n c
  opened more c (inl now) = lift log more n c (had.crash c now)
  opened more c (inr s) =
      let none : log ≡ [] = one content log [] had.spelled (short_spells content s.0) in
      record { count = 0; at_least = omega (arith, had.within, ap length none); at_most = omega arith; spells = s.1 }

  -- the log was opened, or it couldn't be
  pub opening_leaves : (mid : Images) (more : List (List Fact)) → LeavesOnly old mid (LeftOrNone content old) → LeavesOnly old mid (SpellsPrefix (log ++ more) n)
  opening_leaves mid more first = leaves_weaker old mid (opened more) first

  pub opening_stays : (mid : Images) → LeavesOnly old mid (LeftOrNone content old) → LeavesOnly old mid (SpellsPrefix log n)
  opening_stays mid first = subst (λ l. LeavesOnly old mid (SpellsPrefix l n)) (append-nil log) (opening_leaves mid [] first)

  -- and it was gone on with
  pub going_leaves : (mid new : Images) (batches : List (List Fact)) (c : Script) → Spells content batches → LeavesOnly old mid (LeftOrNone content old)
      → LeavesOnly mid new (SpellsPrefix (log_after c batches) (length batches)) → LeavesOnly old new (SpellsPrefix (log_after c log) n)
  going_leaves mid new batches c spelled first second =
      let same : batches ≡ log = one content batches log spelled had.spelled in
      leaves_then old mid new (opening_leaves mid (applied c log) first)
      (leaves_weaker mid new (λ d p. lower (log_after c log) (length log) n d had.within p) (subst (λ l. LeavesOnly mid new (SpellsPrefix (log_after c l) (length l))) same second))

-- Which errors may come.

-- an image that spells a batch has two bytes or more
pub spelled_long : (content : List ℕ) (log : List (List Fact)) (k : ℕ) (c : Script) → ((image : List ℕ) (batches others : List (List Fact)) → Spells image batches → Spells image others → batches ≡ others)
    → Spells content log → 0 < length log → 1 < length content
spelled_long content log k c one spells some = by (length content) refl
  where
    by : (n : ℕ) → length content ≡ n → 1 < length content
    by zero e = let none : log ≡ [] = one content log [] spells (short_spells content (omega (arith, e))) in absurd (omega (arith, ap length none, some))
    by (suc zero) e = let none : log ≡ [] = one content log [] spells (short_spells content (omega (arith, e))) in absurd (omega (arith, ap length none, some))
    by (suc (suc n)) e = omega (arith, e)

pub no_failure : (e : ResumeError) → IsRefusal e → e ≡ error.Failed → ⊥
no_failure error.Failed refusal is = refusal
no_failure error.OutOfMemory refusal is = refusal
no_failure (error.Damaged at) refusal is = cc
no_failure (error.Foreign k) refusal is = cc

-- it was refused when it was opened
pub refused_opening : (tells : Bool) (content new : List ℕ) (r : ReadLogFault) (e : ResumeError) → e ≡ of_reading r → IsRefusal e → ((at : ℕ) → r ≡ reading.Damaged at → IsTrue tells → IsDamaged content at)
    → (IsTrue tells → 1 < length content → new ≡ content) → IsTrue tells → new ≡ content
refused_opening tells content new reading.Failed e is refusal damaged stays told = absurd (no_failure e refusal is)
refused_opening tells content new reading.OutOfMemory e is refusal damaged stays told = absurd (subst IsRefusal is refusal)
refused_opening tells content new (reading.Damaged at) e is refusal damaged stays told = stays told (damaged at refl told).long

-- or when it was read
pub refused_long : (content : List ℕ) (c : Script) (log : List (List Fact)) (e : ResumeError) → ((image : List ℕ) (batches others : List (List Fact)) → Spells image batches → Spells image others → batches ≡ others)
    → Spells content log → IsRefusal e → ((at : ℕ) → e ≡ error.Damaged at → ⊥) → ((k : ℕ) → e ≡ error.Foreign k → IsForeign c log k) → 1 < length content
refused_long content c log error.Failed one spelled refusal whole foreign = absurd refusal
refused_long content c log error.OutOfMemory one spelled refusal whole foreign = absurd refusal
refused_long content c log (error.Damaged at) one spelled refusal whole foreign = absurd (whole at refl)
refused_long content c log (error.Foreign k) one spelled refusal whole foreign =
    let f = foreign k refl in
    spelled_long content log k c one spelled (omega (arith, f.first, f.there))

-- with no fault, of a log whose entries may all stand, no other answer comes than that memory was wanted
pub complete : {A : Type 0} (tells : Bool) (image : List ℕ) (c : Script) (old new : ℕ) (r : Result A ResumeError) → (r ≡ Err error.Failed → old < new)
    → ((at : ℕ) → r ≡ Err (error.Damaged at) → IsTrue tells → IsDamaged image at) → ((k : ℕ) → r ≡ Err (error.Foreign k) → IsForeignLog tells image c k)
    → ((bytes : List ℕ) (batches : List (List Fact)) (at : ℕ) → Spells bytes batches → IsDamaged bytes at → ⊥)
    → ((bytes : List ℕ) (batches others : List (List Fact)) → Spells bytes batches → Spells bytes others → batches ≡ others)
    → (log : List (List Fact)) → IsTrue tells → Spells image log → are_taken c (entries log) ≡ true → new ≡ old → IfErr r (λ e. e ≡ error.OutOfMemory)
complete tells image c old new (Ok x) cause damaged foreign whole one log told spells taken calm = tt
complete tells image c old new (Err error.Failed) cause damaged foreign whole one log told spells taken calm = let rose : old < new = cause refl in absurd (omega (arith, rose, calm))
complete tells image c old new (Err error.OutOfMemory) cause damaged foreign whole one log told spells taken calm = refl
complete tells image c old new (Err (error.Damaged at)) cause damaged foreign whole one log told spells taken calm = absurd (whole image log at spells (damaged at refl told))
complete tells image c old new (Err (error.Foreign k)) cause damaged foreign whole one log told spells taken calm =
    let f = foreign k refl in
    let same : f.log ≡ log = one image f.log log (f.spells told) spells in
    absurd (not_whole c log k (subst (λ l. IsForeign c l k) same f.foreign) taken)
