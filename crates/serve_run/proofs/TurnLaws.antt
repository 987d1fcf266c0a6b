-- A turn: the first group of lines is served, or more is read.
use Rattle.std.proofs.Common.{◌≡◌, ◌≤◌, ℕ, inl, inr, sym, ap, ◌∙◌, refl, subst, arith}
use Rattle.std.specs.Prelude.{Bool, List, [], ◌∷◌, ◌++◌, length, take, drop, true, Option, None, IsTrue}
use Rattle.std.specs.List.{list_all, position}
use Rattle.std.specs.Str.Lines.{lines}
use Rattle.std.proofs.lemmas.List.{append-nil, take-append-drop}
use Rattle.plain_laws.proofs.Booleans.{both}
use Rattle.yard_io.specs.Told.{TakesFront, followed_by}
use Rattle.yard_model.specs.Text.{Bytes}
use Rattle.disk_log.specs.Frames.{Holds}
use Rattle.disk_log.specs.Images.{Images, IsTimed, LeavesOnly}
use Rattle.disk_log.specs.Rest.{HoldsPrefix, Rests}
use Rattle.disk_log.proofs.CommitLaws.{rests_hold}
use Rattle.serve_laws.specs.Hearings.{AllGoOn}
use Rattle.serve_laws.specs.Served.{Desk, answers, answers_in, frames, grouped}
use Rattle.serve_run.specs.Scenes.{Goes, IsBehindSettings, IsTold, Scene, Stopped, ends_line, joined, scene}
use Rattle.serve_run.specs.Turns.{AtEnd, IsOver}
use Rattle.serve_run.specs.Windows.{Came, IsGroup, Lost, is_lf}
use Rattle.serve_run.proofs.SceneLaws.{ahead_none, followed_none, goes_none, hears_none, leaves_none, now_of, rest_prefix, stopped_none, stopped_then}

-- More is read.

pub goes_read : (tells : Bool) (d : Desk) (end : ℕ) (content : Bytes) (images : Images) (window next : Bytes) (n : ℕ) (had has taken : Option Bytes) (flushed : Option ℕ)
    → Rests tells end content images (frames d) → IsTimed images → Came window next n had has → Goes tells images images (scene d window had taken flushed) (scene d next has taken flushed)
goes_read tells d end content images window next n had has taken flushed rests timed came = record {
  hears = record {
    groups = [];
    bytes = came.bytes;
    told = came.told;
    cut = sym came.behind;
    whole = refl;
    desk = refl;
    taken = followed_none taken;
    flushed = inl (refl, refl);
  };
  moment = λ told. leaves_none images timed (λ c now. rest_prefix tells end content images (frames d) rests told c now);
}

-- nothing came, and there is no line
pub end_read : (window next : Bytes) (n : ℕ) (had has : Option Bytes) → Came window next n had has → n ≡ 0 → position is_lf window ≡ None → AtEnd next has
end_read window next n had has came z none = record {
  none_left = (came.end z).1;
  no_line = ap (position is_lf) (came.behind ∙ (ap (λ t. window ++ t) (came.end z).0 ∙ append-nil window)) ∙ none;
}

pub stopped_read : (tells : Bool) (d : Desk) (end : ℕ) (content : Bytes) (images : Images) (window : Bytes) (had has taken : Option Bytes) (flushed : Option ℕ)
    → Rests tells end content images (frames d) → IsTimed images → Lost had has → Stopped tells images images (scene d window had taken flushed) has taken
stopped_read tells d end content images window had has taken flushed rests timed lost =
    stopped_none tells images (scene d window had taken flushed) has lost.bytes lost.told (λ told c now. rest_prefix tells end content images (frames d) rests told c now) timed

-- A group is served.

one_answer : (d : Desk) (ls : List Bytes) → answers_in d (ls ∷ []) ≡ answers d ls
one_answer d ls = append-nil (answers d ls)

-- the group and the bytes behind it
cut_here : (window : Bytes) (n : ℕ) → window ++ [] ≡ joined (take n window ∷ []) ++ drop n window
cut_here window n = append-nil window ∙ (sym (take-append-drop n window) ∙ ap (λ t. t ++ drop n window) (sym (append-nil (take n window))))

whole_here : (bytes : Bytes) → IsTrue (ends_line bytes) → IsTrue (list_all ends_line (bytes ∷ []))
whole_here bytes ends = both (ends_line bytes) true ends refl

module _ (tells : Bool) (d : Desk) (window : Bytes) (n : ℕ) (alone : Bool) (group : IsGroup alone window n) (left taken : Option Bytes) (flushed : Option ℕ) (old : Images) where
  pub goes_group : (next : Desk) (rest text : Bytes) (taken' : Option Bytes) (flushed' : Option ℕ) (new : Images) → next ≡ grouped d (lines (take n window)) → rest ≡ drop n window → text ≡ answers d (lines (take n window))
      → taken' ≡ followed_by taken text → IsTold taken taken' flushed flushed' → (IsTrue tells → LeavesOnly old new (HoldsPrefix (frames (grouped d (lines (take n window)))) (length (frames d))))
      → Goes tells old new (scene d window left taken flushed) (scene next rest left taken' flushed')
  goes_group next rest text taken' flushed' new desk rest_is text_is is told moment = record {
    hears = record {
      groups = take n window ∷ [];
      bytes = [];
      told = ahead_none left;
      cut = cut_here window n ∙ ap (λ t. joined (take n window ∷ []) ++ t) (sym rest_is);
      whole = whole_here (take n window) group.ends;
      desk = desk;
      taken = is ∙ ap (followed_by taken) (text_is ∙ sym (one_answer d (lines (take n window))));
      flushed = told;
    };
    moment = λ tell. subst (λ (x : Desk). LeavesOnly old new (HoldsPrefix (frames x) (length (frames d)))) (sym desk) (moment tell);
  }

  -- it wasn't carried out
  pub stopped_group : (taken' : Option Bytes) (new : Images) → taken' ≡ taken → IsTimed new → (IsTrue tells → LeavesOnly old new (HoldsPrefix (frames (grouped d (lines (take n window)))) (length (frames d))))
      → Stopped tells old new (scene d window left taken flushed) left taken'
  stopped_group taken' new same timed moment = record {
    before = scene d window left taken flushed;
    hears = hears_none (scene d window left taken flushed);
    halts = record {
      groups = take n window ∷ [];
      rest = drop n window;
      bytes = [];
      few = omega arith;
      told = ahead_none left;
      cut = cut_here window n;
      whole = whole_here (take n window) group.ends;
      count = 0;
      within = omega arith;
      taken_is = same ∙ followed_none taken;
      at_exit = λ tell. inl (refl, λ c now. now_of old new timed (moment tell) c now);
    };
    moment = moment;
  }

  -- a front of its answers was written
  pub stopped_told : (next : Desk) (end : ℕ) (content text : Bytes) (taken' : Option Bytes) (new : Images) → next ≡ grouped d (lines (take n window)) → text ≡ answers d (lines (take n window)) → TakesFront taken taken' text
      → Rests tells end content new (frames next) → (IsTrue tells → LeavesOnly old new (HoldsPrefix (frames (grouped d (lines (take n window)))) (length (frames d))))
      → Stopped tells old new (scene d window left taken flushed) left taken'
  stopped_told next end content text taken' new desk text_is front rests moment =
      let same : text ≡ answers_in d (lines (take n window) ∷ []) = text_is ∙ sym (one_answer d (lines (take n window))) in
      record {
        before = scene d window left taken flushed;
        hears = hears_none (scene d window left taken flushed);
        halts = record {
          groups = take n window ∷ [];
          rest = drop n window;
          bytes = [];
          few = omega arith;
          told = ahead_none left;
          cut = cut_here window n;
          whole = whole_here (take n window) group.ends;
          count = front.0;
          within = subst (λ (t : Bytes). front.0 ≤ length t) same front.1;
          taken_is = front.2 ∙ ap (λ (t : Bytes). followed_by taken (take front.0 t)) same;
          at_exit = λ tell. inr (λ c now. subst (λ (x : Desk). Holds (frames x) c) desk (rests_hold tells end content new (frames next) rests tell c now));
        };
        moment = moment;
      }

-- The run.

pub over_so : (tells : Bool) (old images : Images) (a : Scene) (d : Desk) (window : Bytes) (left taken : Option Bytes) (flushed : Option ℕ) (end : ℕ) (content : Bytes)
    → Goes tells old images a (scene d window left taken flushed) → AtEnd window left → Rests tells end content images (frames d) → IsOver tells old images a left taken flushed
over_so tells old images a d window left taken flushed end content goes at rests = record {
  desk = d;
  window = window;
  goes = goes;
  end = at;
  durable = λ told c now. rests_hold tells end content images (frames d) rests told c now;
}

-- it stops behind what it did so far
pub stopped_here : AllGoOn → (tells : Bool) (old images : Images) (a : Scene) (d : Desk) (window : Bytes) (left taken : Option Bytes) (flushed : Option ℕ) (end : ℕ) (content : Bytes) → IsBehindSettings a.desk → IsTimed images
    → Goes tells old images a (scene d window left taken flushed) → Rests tells end content images (frames d) → Stopped tells old images a left taken
stopped_here on tells old images a d window left taken flushed end content behind timed goes rests =
    stopped_then on tells old images images a (scene d window left taken flushed) left taken behind goes
    (stopped_none tells images (scene d window left taken flushed) left [] (ahead_none left) (λ told c now. rest_prefix tells end content images (frames d) rests told c now) timed)

-- nothing was done yet
pub goes_first : (tells : Bool) (images : Images) (d : Desk) (window : Bytes) (left taken : Option Bytes) (flushed : Option ℕ) (end : ℕ) (content : Bytes) → window ≡ [] → IsTimed images → Rests tells end content images (frames d)
    → Goes tells images images (scene d [] left taken flushed) (scene d window left taken flushed)
goes_first tells images d window left taken flushed end content none timed rests =
    subst (λ (w : Bytes). Goes tells images images (scene d [] left taken flushed) (scene d w left taken flushed)) (sym none)
    (goes_none tells images (scene d [] left taken flushed) (λ told c now. rest_prefix tells end content images (frames d) rests told c now) timed)

pub stopped_first : (tells : Bool) (images : Images) (d : Desk) (left taken : Option Bytes) (flushed : Option ℕ) (end : ℕ) (content : Bytes) → IsTimed images → Rests tells end content images (frames d)
    → Stopped tells images images (scene d [] left taken flushed) left taken
stopped_first tells images d left taken flushed end content timed rests =
    stopped_none tells images (scene d [] left taken flushed) left [] (ahead_none left) (λ told c now. rest_prefix tells end content images (frames d) rests told c now) timed
