-- Bytes that came of a source.
use Rattle.std.proofs.Common.{◌≡◌, ◌≤◌, ℕ, sym, ap, ap₂, ◌∙◌, refl, length-take-le}
use Rattle.std.specs.Prelude.{List, [], ◌++◌, length, take, drop, Option, Some, None, IfSome}
use Rattle.std.proofs.lemmas.List.{append-nil, append_assoc, take-append-drop}
use Rattle.std.proofs.Math.Seq.{take-append_seam}
use Rattle.yard_io.specs.Told.{without_first}
use Rattle.verdict_laws.specs.declared.answer.Answer.{Answer}
use Rattle.yard_model.specs.Script.{Script}
use Rattle.judge_text.specs.Hears.{IsLeft, Told, answer_of}
use Rattle.judge_text.specs.Reads.{Came, Ends, GoesOn, IsJudged, Turns, ahead, left_of}

-- the front of a list, and what is behind it
front : (n : ℕ) (xs ys : List ℕ) → n ≤ length xs → take n (take n xs ++ ys) ≡ take n xs
front n xs ys h = ap (λ k. take k (take n xs ++ ys)) (sym (length-take-le n xs h)) ∙ take-append_seam (take n xs) ys

told_read : (had has : Option (List ℕ)) (old new : List ℕ) (n : ℕ) → has ≡ without_first n had → IfSome had (λ xs. new ≡ take n xs ++ drop n old) → IfSome had (λ xs. n ≤ length xs) → had ≡ ahead (take n new) has
told_read None has old new n rest is there = sym (ap (ahead (take n new)) rest)
told_read (Some xs) has old new n rest is there =
    sym (ap (ahead (take n new)) rest ∙ (ap (λ (t : List ℕ). Some (t ++ drop n xs)) (ap (take n) is ∙ front n xs (drop n old) there) ∙ ap (λ t. Some t) (take-append-drop n xs)))

-- nothing came, and nothing is left
ended_read : (had has : Option (List ℕ)) (n : ℕ) → has ≡ without_first n had → IfSome had (λ xs. xs ≡ []) → n ≡ 0 → left_of has ≡ []
ended_read None has n rest none zero = ap left_of rest
ended_read (Some xs) has n rest none zero = ap left_of (rest ∙ ap (λ k. Some (drop k xs)) zero) ∙ none

pub came_so : (had has : Option (List ℕ)) (before after old new bytes : List ℕ) (n : ℕ) → has ≡ without_first n had → IfSome had (λ xs. new ≡ take n xs ++ drop n old) → IfSome had (λ xs. n ≤ length xs)
    → (n ≡ 0 → IfSome had (λ xs. xs ≡ [])) → bytes ≡ take n new → after ≡ before ++ bytes → Came before after n had has
came_so had has before after old new bytes n rest is there end these more = record {
  bytes = take n new;
  behind = more ∙ ap (λ t. before ++ t) these;
  told = told_read had has old new n rest is there;
  end = λ z. (ap (λ k. take k new) z, ended_read had has n rest (end z) z);
}

ahead_none : (o : Option (List ℕ)) → o ≡ ahead [] o
ahead_none None = refl
ahead_none (Some xs) = refl

pub ahead_both : (xs ys : List ℕ) (o : Option (List ℕ)) → ahead xs (ahead ys o) ≡ ahead (xs ++ ys) o
ahead_both xs ys None = refl
ahead_both xs ys (Some zs) = ap (λ t. Some t) (sym (append_assoc xs ys zs))

-- what is answered, whatever comes, is answered where no more is read
pub answered_now : (old : Told) (window : List ℕ) (a : Answer) (had : Option (List ℕ)) → ((more : List ℕ) → answer_of old (window ++ more) ≡ a) → Ends old window a had had
answered_now old window a had h = record { bytes = []; told = ahead_none had; answer_is = h ([] ++ left_of had) }

-- no line was left, and more came
pub more_came : (old now : Told) (window rest next : List ℕ) (n : ℕ) (had has : Option (List ℕ)) → IsLeft old window rest now → Came rest next n had has → GoesOn old window now next had has
more_came old now window rest next n had has l k = record {
  bytes = k.bytes;
  told = k.told;
  goes_on = λ more. l.goes_on (k.bytes ++ more) ∙ ap (answer_of now) (sym (append_assoc rest k.bytes more) ∙ ap (λ t. t ++ more) (sym k.behind));
}

-- nothing came
pub none_came : (rest next : List ℕ) (n : ℕ) (had has : Option (List ℕ)) → Came rest next n had has → n ≡ 0 → next ≡ rest
none_came rest next n had has k z = k.behind ∙ (ap (λ t. rest ++ t) (k.end z).0 ∙ append-nil rest)

pub no_more_came : (old : Told) (rest next : List ℕ) (n : ℕ) (a : Answer) (had has : Option (List ℕ)) → Came rest next n had has → n ≡ 0 → answer_of old next ≡ a → Ends old rest a had has
no_more_came old rest next n a had has k z is = record {
  bytes = k.bytes;
  told = k.told;
  answer_is =
      ap (λ t. answer_of old (rest ++ t)) (ap₂ (λ (x y : List ℕ). x ++ y) (k.end z).0 (k.end z).1)
      ∙ (ap (answer_of old) (append-nil rest ∙ sym (none_came rest next n had has k z)) ∙ is);
}

-- Windows one after the other.

-- what was left goes on
pub left_turns : (old now new : Told) (window rest next : List ℕ) (o : Option Answer) (had has : Option (List ℕ)) → IsLeft old window rest now → Turns now rest o new next had has → Turns old window o new next had has
left_turns old now new window rest next None had has l t = record {
  bytes = t.bytes;
  told = t.told;
  goes_on = λ more. l.goes_on (t.bytes ++ more) ∙ t.goes_on more;
}
left_turns old now new window rest next (Some a) had has l t = record {
  bytes = t.bytes;
  told = t.told;
  answer_is = l.goes_on (t.bytes ++ left_of has) ∙ t.answer_is;
}

pub begin : (start : Told) (first : List ℕ) (had : Option (List ℕ)) → GoesOn start first start first had had
begin start first had = record { bytes = []; told = ahead_none had; goes_on = λ more. refl }

pub then_on : (start now new : Told) (first window next : List ℕ) (had has left : Option (List ℕ)) → GoesOn start first now window had has → GoesOn now window new next has left → GoesOn start first new next had left
then_on start now new first window next had has left g t = record {
  bytes = g.bytes ++ t.bytes;
  told = g.told ∙ (ap (ahead g.bytes) t.told ∙ ahead_both g.bytes t.bytes left);
  goes_on = λ more. ap (λ x. answer_of start (first ++ x)) (append_assoc g.bytes t.bytes more) ∙ (g.goes_on (t.bytes ++ more) ∙ t.goes_on more);
}

pub then_ends : (start now : Told) (first window : List ℕ) (a : Answer) (had has left : Option (List ℕ)) → GoesOn start first now window had has → Ends now window a has left → Ends start first a had left
then_ends start now first window a had has left g t = record {
  bytes = g.bytes ++ t.bytes;
  told = g.told ∙ (ap (ahead g.bytes) t.told ∙ ahead_both g.bytes t.bytes left);
  answer_is = ap (λ x. answer_of start (first ++ x)) (append_assoc g.bytes t.bytes (left_of left)) ∙ (g.goes_on (t.bytes ++ left_of left) ∙ t.answer_is);
}

pub judged_so : (c : Script) (first : List ℕ) (a : Answer) (had has : Option (List ℕ)) → Ends (record { script = c; trace = []; lines = 0 }) first a had has → IsJudged c first had has a
judged_so c first a had has e = record { bytes = e.bytes; told = e.told; answer_is = e.answer_is }
