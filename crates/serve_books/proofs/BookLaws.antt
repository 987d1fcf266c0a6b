-- What a group of lines makes of what is kept.
use Rattle.std.proofs.Common.{◌≡◌, ◌≤◌, ◌^◌, ℕ, List, [], ◌∷◌, ◌++◌, length, inl, inr, refl, sym, ◌∙◌, ap, subst, arith}
use Rattle.std.specs.Prelude.{Bool, true, false, Option, Some, IsTrue, if◌then◌else◌, OnOk, Result, Ok, Err}
use Rattle.std.specs.List.{flat_map}
use Rattle.std.proofs.lemmas.List.{append-nil}
use Rattle.plain_laws.proofs.Booleans.{true_is_not_false}
use Rattle.yard_model.specs.declared.fact.Fact.{Fact}
use Rattle.yard_model.specs.Lawful.{lawful}
use Rattle.yard_model.specs.Script.{Script, IsScript}
use Rattle.yard_model.specs.SlotLists.{SlotLists}
use Rattle.yard_model.specs.Text.{Bytes}
use Rattle.yard_model.specs.World.{settled_from}
use Rattle.shard_store.specs.Stores.{Shelves, lists_at}
use Rattle.disk_log.specs.Spelled.{AreBatches, lines}
use Rattle.disk_log.proofs.SpellLaws.{are_more}
use Rattle.log_resume.specs.Restored.{IsForeign, are_taken, entries, restored}
use Rattle.log_orders.specs.Gathered.{Gathers}
use Rattle.log_orders.specs.Orders.{batch_of, listed}
use Rattle.log_orders.proofs.GatherLaws.{batch_is, none_listed, some_listed}
use Rattle.grow_laws.specs.Growths.{GrownIsTaken}
use Rattle.apply_laws.specs.Applied.{is_done, lists_in, log_after}
use Rattle.apply_laws.specs.Applying.{AppliedIsBatch, AppliedIsTaken, AppliedLists, AppliedSettles, DoneAddsNothing, FrontIsTaken}
use Rattle.resume_run.proofs.FreedLaws.{restored_journals, restored_report}
use Rattle.apply_run.specs.Applying.{lists_behind, told_behind}
use Rattle.serve_laws.specs.Hearing.{Answer, after_all, answers_all}
use Rattle.serve_laws.specs.Hearings.{AllGoOn, CutsDontMatter, GoOn, IsHeard}
use Rattle.serve_laws.specs.Served.{Desk, answer_text, grouped, log_of, text_in}
use Rattle.serve_laws.specs.Servings.{DoneIsRight, IsDesk}
use Rattle.serve_answers.specs.Told.{AreRecorded, ReadsAs, desk_at}
use Rattle.serve_answers.proofs.AnswerLaws.{recorded, recorded_as}
use Rattle.serve_books.specs.Books.{Adds, AreOf, IsKept}

-- What a run leads to.

-- the lists that are at hand tell what the log behind the run tells
pub reads_behind : AppliedLists → (c : Script) (log : List (List Fact)) → IsScript c → IsTrue (are_taken c (entries log)) → (lists : SlotLists) → lists ≡ lists_behind c log → ReadsAs c lists (lists_in c (log_after c log))
reads_behind law c log ok taken lists is = by (is_done c log) refl
  where
    by : (b : Bool) → is_done c log ≡ b → ReadsAs c lists (lists_in c (log_after c log))
    by true e =
        let here : lists ≡ restored c log = is ∙ ap (λ b. if b then restored c log else (settled_from c 1 (restored c log)).world.lists) e in
        let there : lists_in c (log_after c log) ≡ lists_in c log = law c log ok taken ∙ ap (λ b. if b then lists_in c log else (settled_from c 1 (restored c log)).world.lists) e in
        let same : ReadsAs c (restored c log) (lists_in c log) = record { report_is = restored_report c log; journals = restored_journals c log } in
        subst (λ l. ReadsAs c l (lists_in c (log_after c log))) (sym here) (subst (ReadsAs c (restored c log)) (sym there) same)
    by false e =
        let here : lists ≡ (settled_from c 1 (restored c log)).world.lists = is ∙ ap (λ b. if b then restored c log else (settled_from c 1 (restored c log)).world.lists) e in
        let there : lists_in c (log_after c log) ≡ (settled_from c 1 (restored c log)).world.lists = law c log ok taken ∙ ap (λ b. if b then lists_in c log else (settled_from c 1 (restored c log)).world.lists) e in
        subst (ReadsAs c lists) (here ∙ sym there) (record { report_is = refl; journals = λ s e. refl })

-- what is told is the batch that the run adds
pub added_is : AppliedIsBatch → (c : Script) (log : List (List Fact)) (told : List Fact) → told ≡ told_behind c log → log ++ batch_of told ≡ log_after c log
added_is law c log told is = ap (λ l. log ++ l) (ap batch_of is ∙ sym (law c log))

pub carried_desk : AppliedIsBatch → (c : Script) (log more : List (List Fact)) (told : List Fact) → told ≡ told_behind c log → more ≡ log ++ batch_of told → desk_at c more ≡ grouped (desk_at c log) []
carried_desk law c log more told is more_is = ap (desk_at c) (more_is ∙ added_is law c log told is)

-- the text of the batch is what is added
pub adds : (log more : List (List Fact)) (told : List Fact) (text : Bytes) → Gathers told text → length text ≤ 2 ^ 31 → more ≡ log ++ batch_of told → Adds log more text
adds log more told [] g fits is = inl (refl, is ∙ (ap (λ l. log ++ l) (none_listed told (sym g.text_is)) ∙ append-nil log))
adds log more told (b ∷ text) g fits is =
    let some : lines (listed told) ≡ [] → ⊥ = λ none. let e : b ∷ text ≡ [] = g.text_is ∙ none in cc in
    inr (listed told, is ∙ ap (λ l. log ++ l) (some_listed told some), sym g.text_is, batch_is told (b ∷ text) g (omega arith) fits)

pub more_are : (log more : List (List Fact)) (text : Bytes) → AreBatches log → Adds log more text → AreBatches more
more_are log more text are (inl (none, same)) = subst AreBatches (sym same) are
more_are log more text are (inr (facts, is, t, batch)) = subst AreBatches (sym is) (are_more log facts are batch)

-- so all of it is kept
pub kept : AppliedIsTaken → AppliedSettles → AppliedLists → AppliedIsBatch → (c charter : Script) (log more : List (List Fact)) (stores : Shelves) (told : List Fact) → IsHeard c → charter ≡ c
    → IsTrue (are_taken charter (entries log)) → stores.script ≡ charter → lists_at charter.config stores.places ≡ lists_behind charter log → lawful charter (lists_at charter.config stores.places) ≡ true
    → told ≡ told_behind charter log → more ≡ log ++ batch_of told → AreBatches more → IsKept c charter more stores
kept take_law settle_law list_law batch_law c charter log more stores told heard same taken script lists law told_is more_is are =
    let taken_c : IsTrue (are_taken c (entries log)) = subst (λ d. IsTrue (are_taken d (entries log))) same taken in
    let lists_c : lists_at c.config stores.places ≡ lists_behind c log = subst (λ (d : Script). lists_at d.config stores.places ≡ lists_behind d log) same lists in
    let told_c : told ≡ told_behind c log = subst (λ d. told ≡ told_behind d log) same told_is in
    let more_c : more ≡ log_after c log = more_is ∙ added_is batch_law c log told told_c in
    record {
      charter_is = same;
      heard = heard;
      taken = subst (λ m. IsTrue (are_taken c (entries m))) (sym more_c) (take_law c log heard.script taken_c);
      done = subst (λ m. IsTrue (is_done c m)) (sym more_c) (settle_law c log heard.script heard.few taken_c);
      script = script ∙ same;
      same = subst (λ m. ReadsAs c (lists_at c.config stores.places) (lists_in c m)) (sym more_c) (reads_behind list_law c log heard.script taken_c (lists_at c.config stores.places) lists_c);
      lawful_is = subst (λ (d : Script). lawful d (lists_at d.config stores.places) ≡ true) same law;
      are = are;
    }

-- A group.

-- the desk with this accepted, which is carried out
abbrev desk_with : List (List Fact) → Option Script → Desk
desk_with log so = record { so_far = so; log = log_of so log }

-- nothing was accepted
pub grouped_same : DoneAddsNothing → (c : Script) (log : List (List Fact)) (ls : List Bytes) → IsTrue (is_done c log) → after_all (Some c) ls ≡ Some c → desk_at c log ≡ grouped (desk_at c log) ls
grouped_same law c log ls done same = ap (desk_at c) (sym (law c log done)) ∙ ap (desk_with log) (sym same)

-- or something was
pub grouped_more : (c d : Script) (log : List (List Fact)) (ls : List Bytes) → after_all (Some c) ls ≡ Some d → grouped (desk_at d log) [] ≡ grouped (desk_at c log) ls
grouped_more c d log ls is = ap (desk_with log) (sym is)

-- what was kept may stand behind one another for what was accepted since, too
pub still_taken : AllGoOn → GrownIsTaken → (c d : Script) (log : List (List Fact)) (ls : List Bytes) → after_all (Some c) ls ≡ Some d → IsTrue (are_taken c (entries log)) → IsTrue (are_taken d (entries log))
still_taken on_law grown c d log ls is taken =
    let on : GoOn (Some c) (Some d) = subst (GoOn (Some c)) is (on_law (Some c) ls) in
    grown c d (entries log) on.1 taken

pub none_foreign : FrontIsTaken → (c : Script) (log : List (List Fact)) (k : ℕ) → IsTrue (are_taken c (entries log)) → IsForeign c log k → ⊥
none_foreign law c log k taken f = true_is_not_false (sym (law c log k taken) ∙ f.with_it)

-- Answers.

pub on_ok : {A E P Q : Type 0} (r : Result A E) → (P → Q) → OnOk r P → OnOk r Q
on_ok (Ok x) f p = f p
on_ok (Err e) f p = p

-- what is kept is a desk
pub desk_is : (c charter : Script) (log : List (List Fact)) (stores : Shelves) (now : Desk) → IsKept c charter log stores → desk_at c log ≡ now → IsDesk now
desk_is c charter log stores now kept is = subst IsDesk is (kept.heard, kept.taken)

pub lawful_of : (c charter : Script) (log : List (List Fact)) (stores : Shelves) → IsKept c charter log stores → lawful charter (lists_at charter.config stores.places) ≡ true
lawful_of c charter log stores kept = subst (λ (d : Script). lawful d (lists_at d.config stores.places) ≡ true) (sym kept.charter_is) kept.lawful_is

-- what is answered `done` has its record in the stores
pub recorded_in : DoneIsRight → CutsDontMatter → (c charter : Script) (log : List (List Fact)) (stores : Shelves) (now : Desk) (told : List Answer) → IsKept c charter log stores → desk_at c log ≡ now
    → AreOf now told → AreRecorded charter (lists_at charter.config stores.places) told
recorded_in law cuts c charter log stores now told kept is of =
    let same : desk_at c log ≡ grouped of.before of.group = is ∙ of.now_is in
    let so : (grouped of.before of.group).so_far ≡ Some c = ap (λ (d : Desk). d.so_far) (sym same) in
    let logs : (grouped of.before of.group).log ≡ log = ap (λ (d : Desk). d.log) (sym same) in
    let there : AreRecorded c (lists_in c (grouped of.before of.group).log) (answers_all of.before.so_far of.group) = recorded law cuts of.before of.is_desk of.group c so [] of.group refl in
    let here : AreRecorded c (lists_in c log) told =
    subst (AreRecorded c (lists_in c log)) (sym of.told_are) (subst (λ l. AreRecorded c (lists_in c l) (answers_all of.before.so_far of.group)) logs there) in
    subst (λ (d : Script). AreRecorded d (lists_at d.config stores.places) told) (sym kept.charter_is) (recorded_as c (lists_at c.config stores.places) (lists_in c log) told kept.same here)

-- and the text is of what the log says
pub texts_are : (c charter : Script) (log : List (List Fact)) (stores : Shelves) (now : Desk) (told : List Answer) (old new : Bytes) → IsKept c charter log stores → desk_at c log ≡ now
    → ((l : List (List Fact)) → ReadsAs charter (lists_at charter.config stores.places) (lists_in charter l) → new ≡ old ++ flat_map (text_in charter l) told)
    → new ≡ old ++ flat_map (answer_text now) told
texts_are c charter log stores now told old new kept is text =
    let same : ReadsAs charter (lists_at charter.config stores.places) (lists_in charter log) =
    subst (λ (d : Script). ReadsAs d (lists_at d.config stores.places) (lists_in d log)) (sym kept.charter_is) kept.same in
    text log same ∙ (ap (λ (d : Script). old ++ flat_map (text_in d log) told) kept.charter_is ∙ ap (λ (d : Desk). old ++ flat_map (answer_text d) told) is)
