-- Parts of a text, one after the other.
use Rattle.std.proofs.Common.{◌≡◌, ◌≤◌, ◌<◌, refl, sym, ap, ◌∙◌, subst, arith, ℕ, [], ◌++◌}
use Rattle.yard_io.specs.Told.{followed_by, TakesFront}
use Rattle.yard_io.proofs.ToldLemmas.{followed_both, followed_nil, front_first, front_second}
use Rattle.yard_model.specs.Text.{Bytes}
use Rattle.run_parts.specs.declared.writing.WriteError.{WriteError}
use Rattle.run_parts.specs.declared.writing.WriteError.TheVariants as error
use Rattle.run_parts.specs.Writing.{Sunk, IfFailed, Took, TookFront}

-- nothing of a text was taken yet
pub took_nothing : (s : Sunk) → Took [] s s
took_nothing s = record { taken_is = sym (followed_nil s.taken); flushed_is = refl; faults_are = omega arith }

pub took_both : (a b : Bytes) (s t u : Sunk) → Took a s t → Took b t u → Took (a ++ b) s u
took_both a b s t u one two = record {
  taken_is = two.taken_is ∙ (ap (λ x. followed_by x b) one.taken_is ∙ followed_both s.taken a b);
  flushed_is = two.flushed_is ∙ one.flushed_is;
  faults_are = let x : s.faults ≤ t.faults = one.faults_are in let y : t.faults ≤ u.faults = two.faults_are in omega arith;
}

later_failed : (e : WriteError) (k m n : ℕ) → k ≤ m → IfFailed e (m < n) → IfFailed e (k < n)
later_failed error.Failed k m n h f = omega (arith, h, f)
later_failed error.OutOfMemory k m n h f = tt

-- the first of two, and a front of the second
pub front_both : (a b : Bytes) (e : WriteError) (s t u : Sunk) → Took a s t → TookFront b e t u → TookFront (a ++ b) e s u
front_both a b e s t u one two = record {
  front = front_second s.taken u.taken a b (subst (λ x. TakesFront x u.taken b) one.taken_is two.front);
  flushed_is = two.flushed_is ∙ one.flushed_is;
  faults_are = let x : s.faults ≤ t.faults = one.faults_are in let y : t.faults ≤ u.faults = two.faults_are in omega arith;
  cause = later_failed e s.faults t.faults u.faults one.faults_are two.cause;
}

-- a front of the first
pub front_more : (a b : Bytes) (e : WriteError) (s t : Sunk) → TookFront a e s t → TookFront (a ++ b) e s t
front_more a b e s t one = record {
  front = front_first s.taken t.taken a b one.front;
  flushed_is = one.flushed_is;
  faults_are = one.faults_are;
  cause = one.cause;
}

-- no memory, and nothing was taken
pub none_taken : (a : Bytes) (s : Sunk) → TookFront a error.OutOfMemory s s
none_taken a s = record { front = (0, omega arith, sym (followed_nil s.taken)); flushed_is = refl; faults_are = omega arith; cause = tt }

pub front_same : (a b : Bytes) (e : WriteError) (s t : Sunk) → a ≡ b → TookFront a e s t → TookFront b e s t
front_same a b e s t same front = subst (λ x. TookFront x e s t) same front

-- what was put behind nothing
pub after_nothing : (now before text : Bytes) → now ≡ before ++ text → before ≡ [] → now ≡ text
after_nothing now before text is none = is ∙ ap (λ x. x ++ text) none

pub took_same : (a b : Bytes) (s t : Sunk) → a ≡ b → Took a s t → Took b s t
took_same a b s t same took = subst (λ x. Took x s t) same took
