-- A log that is opened and gone on with, and what a crash leaves meanwhile.
use Rattle.std.proofs.Common.{◌≡◌, ◌≤◌, ℕ, ◌+◌, List, [], ◌∷◌, ◌++◌, length, map, inl, inr, refl, sym, ◌∙◌, ap, subst, arith}
use Rattle.std.specs.Prelude.{Bool, IfNone, IfOk, IsTrue, OnErr, Option, Result, Ok, Err, None, Some}
use Rattle.std.proofs.lemmas.List.{length-map}
use Rattle.yard_model.specs.declared.fact.Fact.{Fact}
use Rattle.yard_model.specs.Text.{Bytes}
use Rattle.disk_log.specs.Frames.{Holds}
use Rattle.disk_log.specs.Images.{Images, IsTimed, LeavesOnly}
use Rattle.disk_log.specs.Opening.{LeftOrNone}
use Rattle.disk_log.specs.Rest.{HoldsPrefix}
use Rattle.disk_log.specs.Spelled.{AreBatches, lines}
use Rattle.disk_log.proofs.Moments.{leaves_then, leaves_weaker}
use Rattle.serve_laws.specs.Served.{Desk, desk_of, empty_desk, frames, head_of}
use Rattle.serve_laws.specs.Servings.{GroupedIsDesk, IsDesk, IsDone, LogStays}
use Rattle.serve_books.specs.Books.{Adds}
use Rattle.serve_service.specs.Openings.{Begins, IsSaid, LeftBy, LeftOff, Stays, texts_of}
use Rattle.serve_service.specs.Services.{with_text}
use Rattle.serve_service.proofs.FrameLaws.{frames_grow, frames_with}
use Rattle.serve_service.proofs.TextLaws.{lowered, of_more}

-- An image of at most one byte holds no text.
none_there : (texts : List Bytes) (image : Bytes) → length image ≤ 1 → Holds texts image → texts ≡ []
none_there texts [] few holds = holds
none_there texts (gate ∷ []) few holds = holds
none_there texts (gate ∷ next ∷ rest) few holds = absurd (omega (arith, few))

texts_length : (head : Bytes) (batches : List (List Fact)) → length (texts_of head batches) ≡ length batches + 1
texts_length head batches = omega (arith, length-map batches lines)

-- what is left while it is opened is as much as might have been left before
left_before : (content : Bytes) (old : Images) (texts : List Bytes) (n : ℕ) → Holds texts content → n ≤ length texts → ((image : Bytes) → old.now image → HoldsPrefix texts n image)
    → (c : Bytes) → LeftOrNone content old c → HoldsPrefix texts n c
left_before content old texts n holds le before c (inl now) = before c now
left_before content old texts n holds le before c (inr (few, none)) =
    let e : texts ≡ [] = none_there texts content few holds in
    subst (λ l. HoldsPrefix l n c) (sym e) (record { count = 0; at_least = omega (arith, le, ap length e); at_most = omega arith; holds = none.texts })

pub stays : (content : Bytes) (old new : Images) → LeavesOnly old new (LeftOrNone content old) → Stays content old new
stays content old new leaves texts n holds le before = leaves_weaker old new (left_before content old texts n holds le before) leaves

-- a crash now is one since then
now_of : {P : List ℕ → Type 0} (old mid : Images) → IsTimed mid → LeavesOnly old mid P → (c : Bytes) → mid.now c → P c
now_of old mid timed leaves c now = leaves.each c (timed.counts_now old.moment c leaves.later now)

-- nothing more was written
stays_then : (content : Bytes) (old mid new : Images) → IsTimed mid → LeavesOnly old mid (LeftOrNone content old) → LeavesOnly mid new mid.now → Stays content old new
stays_then content old mid new timed first second texts n holds le before =
    let front : LeavesOnly old mid (HoldsPrefix texts n) = stays content old mid first texts n holds le before in
    leaves_then old mid new front (leaves_weaker mid new (λ c now. now_of old mid timed front c now) second)

-- of a disk without a log
pub begins_none : (tells : Bool) (content : Bytes) (old new : Images) → (IsTrue tells → Holds [] content) → (IsTrue tells → LeavesOnly old new (LeftOrNone content old)) → Begins tells content old new empty_desk
begins_none tells content old new holds leaves = record {
  found = empty_desk;
  is_found = record { desk = inl refl; is_desk = refl };
  holds = λ told. record { texts = holds told; batches = tt };
  desk = refl;
  done = tt;
  moment = λ told n le before. stays content old new (leaves told) [] n (holds told) le before;
}

-- of a log with a head and batches
module _ (head : Bytes) (batches : List (List Fact)) (d : Desk) (said : IsSaid head batches d) where
  abbrev at : Desk
  at = desk_of said.config batches

  texts_are : texts_of head batches ≡ frames at
  texts_are = ap (λ h. h ∷ map lines batches) said.head_is

  same_head : head_of d.so_far ≡ head_of at.so_far
  same_head = ap (λ (x : Desk). head_of x.so_far) said.desk

  -- a batch more, or none
  pub frames_said : (text : Bytes) → Adds batches d.log text → with_text (texts_of head batches) text ≡ frames d
  frames_said text adds = ap (λ t. with_text t text) texts_are ∙ frames_with at d text same_head adds

  pub leaves_said : (old new : Images) (text : Bytes) → Adds batches d.log text → LeavesOnly old new (HoldsPrefix (with_text (texts_of head batches) text) (length (texts_of head batches)))
      → LeavesOnly old new (HoldsPrefix (frames d) (length batches + 1))
  leaves_said old new text adds leaves =
      subst (λ n. LeavesOnly old new (HoldsPrefix (frames d) n)) (texts_length head batches)
      (subst (λ l. LeavesOnly old new (HoldsPrefix l (length (texts_of head batches)))) (frames_said text adds) leaves)

  pub begins_said : (tells : Bool) (content : Bytes) (old mid new : Images) → GroupedIsDesk → LogStays → AreBatches batches → (IsTrue tells → Holds (texts_of head batches) content)
      → (IsTrue tells → LeavesOnly old mid (LeftOrNone content old)) → (IsTrue tells → LeavesOnly mid new (HoldsPrefix (frames d) (length batches + 1))) → Begins tells content old new d
  begins_said tells content old mid new law stay are holds first second =
      let is_desk : IsDesk at = (said.heard, said.taken) in
      let m = stay at ([] ∷ []) in
      let grown : d.log ≡ batches ++ m.0 = ap (λ (x : Desk). x.log) said.desk ∙ m.1 in
      let longer : frames d ≡ frames at ++ map lines m.0 = frames_grow at d m.0 same_head grown in
      let held : IsTrue tells → Holds (frames at) content = λ told. subst (λ l. Holds l content) texts_are (holds told) in
      record {
        found = at;
        is_found = record { desk = inr (said.config, batches, refl, said.valid, are); is_desk = is_desk };
        holds = λ told. record { texts = held told; batches = are };
        desk = said.desk;
        done = subst (λ (x : Desk). IsDone x.so_far x.log) (sym said.desk) (law at [] is_desk).1;
        moment = λ told n le before.
            leaves_then old mid new
            (leaves_weaker old mid (λ c p. of_more (frames at) (frames d) (map lines m.0) n c longer (left_before content old (frames at) n (held told) le before c p)) (first told))
            (leaves_weaker mid new (λ c p. lowered (frames d) (length batches + 1) n c (omega (arith, le, texts_length head batches, ap length texts_are)) p) (second told));
      }

-- where it couldn't be gone on with
pub left_off : (tells : Bool) (head : Bytes) (batches : List (List Fact)) (content : Bytes) (old mid new : Images) → IsTimed mid → GroupedIsDesk → LogStays → AreBatches batches → IsTrue tells
    → Holds (texts_of head batches) content → LeavesOnly old mid (LeftOrNone content old) → LeftOff head batches mid new → LeftBy tells content old new
left_off tells head batches content old mid new timed law stay are told holds first (inl same) = inl (stays_then content old mid new timed first same)
left_off tells head batches content old mid new timed law stay are told holds first (inr (d, said, second)) =
    inr (d, begins_said head batches d said tells content old mid new law stay are (λ t. holds) (λ t. first) (λ t. second))

pub on_err : {T E : Type 0} (r : Result T E) (P : Type 0) → P → OnErr r P
on_err (Ok x) P h = tt
on_err (Err e) P h = h

pub if_ok_both : {T E : Type 0} {P Q R : T → Type 0} (r : Result T E) → ((x : T) → P x → Q x → R x) → IfOk r P → IfOk r Q → IfOk r R
if_ok_both (Ok x) f p q = f x p q
if_ok_both (Err e) f p q = tt

pub if_none : {X : Type 0} (o : Option X) (P : Type 0) → o ≡ None → IfNone o P → P
if_none (Some y) P e p = cc
if_none None P e p = p
