-- Lines that are heard, and what is answered.
use Rattle.std.proofs.Common.{◌≡◌, ◌<◌, ◌≤◌, ℕ, ◌+◌, List, [], ◌∷◌, ◌++◌, drop, length, map, refl, sym, ◌∙◌, ap, subst, append_assoc}
use Rattle.std.specs.Prelude.{Some, filter, slice_index_or}
use Rattle.std.specs.List.{flat_map}
use Rattle.std.proofs.lemmas.List.{append-nil, drop_all, drop_more}
use Rattle.std.proofs.lemmas.List.Concat.{flat_map-cons}
use Rattle.yard_model.specs.declared.packet.Record.{Record}
use Rattle.yard_model.specs.Script.{Script, setting}
use Rattle.yard_model.specs.Setting.{shard_of}
use Rattle.yard_model.specs.SlotLists.{SlotLists, shard_list}
use Rattle.yard_model.specs.SlotReads.{journal}
use Rattle.yard_model.specs.Text.{Bytes}
use Rattle.apply_laws.specs.Applied.{lists_in}
use Rattle.serve_laws.specs.Hearing.{Answer, Conflict, Done, Gap, InForce, Others, Refused, Report, Show, Silent, after_all, answers_all, heard}
use Rattle.serve_laws.specs.Hearings.{CutsDontMatter}
use Rattle.serve_laws.specs.Served.{Desk, grouped, is_record_of}
use Rattle.serve_laws.specs.Servings.{DoneIsRight, IsDesk}
use Rattle.serve_answers.specs.declared.answers.Answer.{Answer as Kept}
use Rattle.serve_answers.specs.Told.{ReadsAs, answer_value}
use Rattle.serve_answers.specs.Told.{AreRecorded, IfDone, IsRecorded}

-- Lines, one after the other.

pub after_on : (d e : Script) (line : Bytes) (ls : List Bytes) (a : Answer) → heard (Some d) line ≡ record { so_far = Some e; answer = a } → after_all (Some d) (line ∷ ls) ≡ after_all (Some e) ls
after_on d e line ls a is = ap (λ h. after_all h.so_far ls) is

pub answers_on : (d e : Script) (line : Bytes) (ls : List Bytes) (a : Answer) → heard (Some d) line ≡ record { so_far = Some e; answer = a } → answers_all (Some d) (line ∷ ls) ≡ a ∷ answers_all (Some e) ls
answers_on d e line ls a is = ap (λ h. h.answer ∷ answers_all h.so_far ls) is

-- Records.

some_is : (a b : Script) → Some a ≡ Some b → a ≡ b
some_is a b e = cc

module _ (law : DoneIsRight) (cuts : CutsDontMatter) (desk : Desk) (is_desk : IsDesk desk) (all : List Bytes) (d : Script) (so : (grouped desk all).so_far ≡ Some d) where
  -- what is answered `done` in a group has a record behind it
  pub recorded : (xs rest : List Bytes) → xs ++ rest ≡ all → AreRecorded d (lists_in d (grouped desk all).log) (answers_all (after_all desk.so_far xs) rest)
  recorded xs [] e = tt
  recorded xs (l ∷ ys) e = (
    one (heard (after_all desk.so_far xs) l).answer refl,
    subst (λ s. AreRecorded d (lists_in d (grouped desk all).log) (answers_all s ys)) (cuts desk.so_far xs (l ∷ [])).0 (recorded (xs ++ l ∷ []) ys (append_assoc xs (l ∷ []) ys ∙ e)),
  )
    where
      one : (a : Answer) → (heard (after_all desk.so_far xs) l).answer ≡ a → IfDone a (IsRecorded d (lists_in d (grouped desk all).log))
      one Silent is = tt
      one (Refused w) is = tt
      one InForce is = tt
      one Others is = tt
      one (Done p n k) is =
          let w = law desk xs ys l [] p n k is_desk is in
          let right = w.3 in
          let it : Record = right.2.it in
          let same : right.0 ≡ d = some_is right.0 d (sym right.1 ∙ (ap (λ ls. (grouped desk ls).so_far) e ∙ so)) in (
            it,
            subst (λ ls. filter (is_record_of p k) (journal n (shard_list (lists_in d (grouped desk ls).log) (shard_of (setting d) n))) ≡ it ∷ []) e
                (subst (λ c. filter (is_record_of p k) (journal n (shard_list (lists_in c (grouped desk (xs ++ l ∷ ys)).log) (shard_of (setting c) n))) ≡ it ∷ []) same right.2.alone),
          )
      one (Gap p n k m) is = tt
      one (Conflict p n k m) is = tt
      one Report is = tt
      one (Show n) is = tt

-- so it has in lists that tell the same
pub recorded_as : (c : Script) (lists others : SlotLists) (answers : List Answer) → ReadsAs c lists others → AreRecorded c others answers → AreRecorded c lists answers
recorded_as c lists others [] same are = tt
recorded_as c lists others (a ∷ more) same are = (one a are.0, recorded_as c lists others more same are.1)
  where
    one : (b : Answer) → IfDone b (IsRecorded c others) → IfDone b (IsRecorded c lists)
    one Silent is = tt
    one (Refused w) is = tt
    one InForce is = tt
    one Others is = tt
    one (Done p e n) is = (is.0, ap (filter (is_record_of p n)) (same.journals (shard_of (setting c) e) e) ∙ is.1)
    one (Gap p e n k) is = tt
    one (Conflict p e n k) is = tt
    one Report is = tt
    one (Show e) is = tt

-- Answers, one after the other.

pub first_recorded : (c : Script) (lists : SlotLists) (answers : List Kept) (i : ℕ) (x : Kept) → i < length answers → x ≡ slice_index_or answers i x → AreRecorded c lists (map answer_value (drop i answers))
    → IfDone (answer_value x) (IsRecorded c lists) × AreRecorded c lists (map answer_value (drop (i + 1) answers))
first_recorded c lists answers i x h is are = subst (λ l. AreRecorded c lists (map answer_value l)) (drop_more answers i x h ∙ ap (λ y. y ∷ drop (i + 1) answers) (sym is)) are

pub text_next : (f : Answer → Bytes) (answers : List Kept) (i : ℕ) (x : Kept) (before after whole : Bytes) → i < length answers → x ≡ slice_index_or answers i x
    → before ++ flat_map f (map answer_value (drop i answers)) ≡ whole → after ≡ before ++ f (answer_value x) → after ++ flat_map f (map answer_value (drop (i + 1) answers)) ≡ whole
text_next f answers i x before after whole h is so_far more =
    let rest : List Answer = map answer_value (drop (i + 1) answers) in
    ap (λ t. t ++ flat_map f rest) more
    ∙ (append_assoc before (f (answer_value x)) (flat_map f rest)
    ∙ (ap (λ t. before ++ t) (sym (ap (λ l. flat_map f (map answer_value l)) (drop_more answers i x h ∙ ap (λ y. y ∷ drop (i + 1) answers) (sym is)) ∙ flat_map-cons f (answer_value x) rest)) ∙ so_far))

pub text_ends : (f : Answer → Bytes) (answers : List Kept) (i : ℕ) (text whole : Bytes) → length answers ≤ i → text ++ flat_map f (map answer_value (drop i answers)) ≡ whole → text ≡ whole
text_ends f answers i text whole h so_far = sym (append-nil text) ∙ (ap (λ l. text ++ flat_map f (map answer_value l)) (sym (drop_all i answers h)) ∙ so_far)
