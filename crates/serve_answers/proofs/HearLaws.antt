-- Lines that are heard where settings are in force.
use Rattle.std.proofs.Common.{◌≡◌, List, [], ◌∷◌, ◌++◌, map, refl, sym, ◌∙◌, ap, append_assoc}
use Rattle.std.specs.Prelude.{Bool, true, false, ◌||◌, Some}
use Rattle.std.proofs.lemmas.List.{append-nil, map_push}
use Rattle.yard_model.specs.Script.{Script}
use Rattle.yard_model.specs.Text.{Bytes}
use Rattle.serve_laws.specs.Hearing.{after_all, answers_all, heard}
use Rattle.serve_answers.specs.declared.answers.Answer.{Answer}
use Rattle.serve_answers.specs.Told.{answer_value}
use Rattle.serve_answers.proofs.AnswerLaws.{after_on, answers_on}

-- so far these lines were heard, and those are left
pub record Hearing (first now : Script) (all left : List Bytes) (before answers : List Answer) (changed : Bool) : Type 0 where
  pub so_far : after_all (Some first) all ≡ after_all (Some now) left
  pub heard : map answer_value answers ++ answers_all (Some now) left ≡ map answer_value before ++ answers_all (Some first) all
  pub same : changed ≡ false → now ≡ first

pub begins : (c : Script) (all : List Bytes) (before : List Answer) → Hearing c c all all before before false
begins c all before = record { so_far = refl; heard = refl; same = λ e. refl }

not_or : (a b : Bool) → (a || b) ≡ false → (a ≡ false) × (b ≡ false)
not_or true b e = cc
not_or false b e = (refl, e)

module _ (first now : Script) (all : List Bytes) (line : Bytes) (left : List Bytes) (before answers : List Answer) (changed : Bool) (h : Hearing first now all (line ∷ left) before answers changed) where
  pub goes_on : (next : Script) (a : Answer) (accepted : Bool) → heard (Some now) line ≡ record { so_far = Some next; answer = answer_value a } → (accepted ≡ false → next ≡ now) → (later : List Answer) → later ≡ answers ++ a ∷ []
      → Hearing first next all left before later (changed || accepted)
  goes_on next a accepted is same later later_are = record {
    so_far = h.so_far ∙ after_on now next line left (answer_value a) is;
    heard =
        ap (λ l. map answer_value l ++ answers_all (Some next) left) later_are
        ∙ (ap (λ l. l ++ answers_all (Some next) left) (map_push answer_value answers a)
        ∙ (append_assoc (map answer_value answers) (answer_value a ∷ []) (answers_all (Some next) left)
        ∙ (ap (λ l. map answer_value answers ++ l) (sym (answers_on now next line left (answer_value a) is)) ∙ h.heard)));
    same = λ e. let both = not_or changed accepted e in same both.1 ∙ h.same both.0;
  }

-- none is left
pub ends : (first now : Script) (all : List Bytes) (before answers : List Answer) (changed : Bool) → Hearing first now all [] before answers changed
    → (after_all (Some first) all ≡ Some now) × (map answer_value answers ≡ map answer_value before ++ answers_all (Some first) all)
ends first now all before answers changed h = (h.so_far, sym (append-nil (map answer_value answers)) ∙ h.heard)
