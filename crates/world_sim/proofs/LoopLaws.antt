-- Steps of the code from sound worlds to sound ones: one after the other, and in a loop.
use Rattle.std.proofs.Common.{◌≡◌, ℕ, ◌+◌, ◌≤◌, true, false, List, [], ◌∷◌, ◌++◌, refl, sym, ◌∙◌, subst}
use Rattle.std.specs.Prelude.{Bool, Result}
use Rattle.std.proofs.lemmas.List.{append-nil}
use Rattle.yard_model.specs.declared.fact.Fact.{Fact}
use Rattle.yard_model.specs.Script.{Script}
use Rattle.yard_model.specs.World.{World, Made, Step, tell, then_step, in_order}
use Rattle.world_sim.specs.Mail.{ToldSome}
use Rattle.world_sim.specs.Stands.{Stands}
use Rattle.world_sim.specs.Stepped.{Counts, IsWhole, IsCut, Stepped}
use Rattle.world_sim.specs.Yard.{Yard, IsSeen, IsSound, IsSoundTo, Goes}
use Rattle.world_sim.proofs.StepLaws.{goes_then, goes_stop, goes_still, cut_first, cut_next, counts_same, counts_both, counts_more, step_then}

-- the step keeps what stands of each world that is kept
abbrev pub KeepsOf : Yard → Step → Type 0
KeepsOf y q = (w : World) → IsSound y w → Stands y.script (q w).world

-- a world that is seen after the step, where the trace goes on, is as the next one is to be
abbrev pub KeepsTo : (Yard → World → Type 0) → (Yard → World → Type 0) → Yard → Yard → Step → Type 0
KeepsTo P Q y z q = (w : World) → P y w → IsSeen z (q w).world → (q w).world.full ≡ false → Q z (q w).world

pub keeps_sound : (y z : Yard) (q : Step) → z.script ≡ y.script → KeepsOf y q → KeepsTo IsSound IsSound y z q
keeps_sound y z q script keeps = λ w s seen going. record { seen_is = seen; stands_is = subst (λ c. Stands c (q w).world) (sym script) (keeps w s); going_is = going }

-- where more is so of the worlds before it
pub keeps_plain : (M : Script → World → Type 0) (y z : Yard) (q : Step) → z.script ≡ y.script → ((w : World) → IsSoundTo M y w → Stands y.script (q w).world) → KeepsTo (IsSoundTo M) IsSound y z q
keeps_plain M y z q script keeps = λ w s seen going. record { seen_is = seen; stands_is = subst (λ c. Stands c (q w).world) (sym script) (keeps w s); going_is = going }

-- and of those after it
pub keeps_to : (M N : Script → World → Type 0) (y z : Yard) (q : Step) → z.script ≡ y.script → ((w : World) → IsSoundTo M y w → Stands y.script (q w).world)
    → ((w : World) → IsSoundTo M y w → (q w).world.full ≡ false → N y.script (q w).world) → KeepsTo (IsSoundTo M) (IsSoundTo N) y z q
keeps_to M N y z q script keeps may = λ w s seen going. record {
  sound = keeps_plain M y z q script keeps w s seen going;
  may = subst (λ c. N c (q w).world) (sym script) (may w s going);
}

-- without what is so besides
pub plain : (M : Script → World → Type 0) (y : Yard) (w : World) → IsSoundTo M y w → IsSound y w
plain M y w s = s.sound

-- after it, where the trace goes on, the world is as the next one is to be
pub after_to : (P Q : Yard → World → Type 0) (y z : Yard) (q : Step) (w : World) (before after : List Fact) → KeepsTo P Q y z q → z.mail.full ≡ false → P y w → Goes before after z (q w) → ((q w).world.full ≡ false) × Q z (q w).world
after_to P Q y z q w before after keeps full s g =
    let going : (q w).world.full ≡ false = sym g.seen_is.full_is ∙ full in
    (going, keeps w s g.seen_is going)

-- so the next step may be made
pub next_to : (P Q : Yard → World → Type 0) (n : ℕ) (q : Step) (y z : Yard) (before after : List Fact) → IsWhole P n q y z before after → KeepsTo P Q y z q → z.mail.full ≡ false → (w : World) × P y w → (w : World) × Q z w
next_to P Q n q y z before after s keeps full r = ((q r.0).world, (after_to P Q y z q r.0 before after keeps full r.1 (s.goes r.0 r.1)).1)

pub step_to : {E : Type 0} (P Q : Yard → World → Type 0) (a b : ℕ) (p q : Step) (r : Result (Unit {0}) E) (old mid new : Yard) (before between after : List Fact) → IsWhole P a p old mid before between → KeepsTo P Q old mid p → mid.mail.full ≡ false
    → Stepped Q b q r mid new between after → Stepped P (a + b) (λ w. then_step (p w) q) r old new before after
step_to P Q a b p q r old mid new before between after f keeps full s = step_then P Q a b p q r old mid new before between after f (λ w k g. after_to P Q old mid p w before between keeps full k g) s

-- the trace stops with the first
pub stops_to : (P : Yard → World → Type 0) (a n : ℕ) (p q : Step) (old new : Yard) (before after : List Fact) → a ≤ n → IsWhole P a p old new before after → new.mail.full ≡ true → IsWhole P n (λ w. then_step (p w) q) old new before after
stops_to P a n p q old new before after less f full = record {
  script_is = f.script_is;
  counts = counts_more a n old new less f.counts;
  goes = λ w k. let g : Goes before after new (p w) = f.goes w k in goes_stop before after new (p w) q (sym g.seen_is.full_is ∙ full) g;
}

-- after it, where the trace goes on, the world is sound
pub sound_after : (y z : Yard) (q : Step) (w : World) (before after : List Fact) → z.script ≡ y.script → Stands y.script (q w).world → z.mail.full ≡ false → Goes before after z (q w) → ((q w).world.full ≡ false) × IsSound z (q w).world
sound_after y z q w before after script stands full g =
    let going : (q w).world.full ≡ false = sym g.seen_is.full_is ∙ full in
    (going, record { seen_is = g.seen_is; stands_is = subst (λ c. Stands c (q w).world) (sym script) stands; going_is = going })

-- one step alone, in order
pub order_one : (q : Step) (w : World) → q w ≡ in_order (q ∷ []) w
order_one q w = by (q w) (q w).world.full
  where
    by : (m : Made) (b : Bool) → m ≡ (elim b as (λ b. Made) [ true ↦ m | false ↦ let n : Made = tell [] m.world in record { facts = m.facts ++ n.facts; world = n.world } ])
    by m true = refl
    by m false = λ i. record { facts = sym (append-nil m.facts) i; world = m.world }

-- Loops: q is what is still to be made, by what is left to do.

-- what is told from here on, of what is left, is told of all
pub record IsOnWay {A : Type 0} (P : Yard → World → Type 0) (q : A → Step) (all : A) (w : World) (start : List Fact) (y : Yard) (facts : List Fact) (left : A) : Type 0 where
  pub now : World
  pub sound : P y now
  pub rest : (after : List Fact) (z : Yard) → Goes facts after z (q left now) → Goes start after z (q all w)
  pub cut : (after : List Fact) → ToldSome facts after (q left now).facts → ToldSome start after (q all w).facts

pub record OnWay {A : Type 0} (P : Yard → World → Type 0) (q : A → Step) (all : A) (n : ℕ) (old : Yard) (start : List Fact) (y : Yard) (facts : List Fact) (left : A) : Type 0 where
  pub goes_on : (w : World) → P old w → IsOnWay P q all w start y facts left
  pub script_is : y.script ≡ old.script
  pub counts : Counts n old y

pub way_first : {A : Type 0} (P : Yard → World → Type 0) (q : A → Step) (all left : A) (y : Yard) (start : List Fact) → left ≡ all → OnWay P q all 0 y start y start left
way_first P q all left y start e = subst (OnWay P q all 0 y start y start) (sym e) (record { goes_on = λ w s. record { now = w; sound = s; rest = λ after z g. g; cut = λ after t. t }; script_is = refl; counts = counts_same y y 0 refl refl })

-- what is left is one step, and then the rest
abbrev pub IsNextOf : {A : Type 0} → (Yard → World → Type 0) → (A → Step) → Yard → Step → A → A → Type 0
IsNextOf P q y one left rest = (w : World) → P y w → then_step (one w) (q rest) ≡ q left w

-- after the step, where the trace goes on
pub way_on : {A : Type 0} (P : Yard → World → Type 0) (q : A → Step) (all left rest : A) (n k : ℕ) (one : Step) (old y z : Yard) (start facts after : List Fact) → OnWay P q all n old start y facts left → IsNextOf P q y one left rest → KeepsTo P P y z one
    → IsWhole P k one y z facts after → z.mail.full ≡ false → OnWay P q all (n + k) old start z after rest
way_on P q all left rest n k one old y z start facts after d next keeps g full = record {
  goes_on = λ w s.
      let i : IsOnWay P q all w start y facts left = d.goes_on w s in
      let m : Made = one i.now in
      let j : Goes facts after z m = g.goes i.now i.sound in
      let on : (m.world.full ≡ false) × P z m.world = after_to P P y z one i.now facts after keeps full i.sound j in
      record {
        now = m.world;
        sound = on.1;
        rest = λ last v e. i.rest last v (subst (Goes facts last v) (next i.now i.sound) (goes_then facts after last v m (q rest) on.0 j.facts_are e));
        cut = λ last t. i.cut last (subst (λ (x : Made). ToldSome facts last x.facts) (next i.now i.sound) (cut_next facts after last m (q rest) on.0 j.facts_are t));
      };
  script_is = g.script_is ∙ d.script_is;
  counts = counts_both n k old y z d.counts g.counts;
}

-- where it stops
pub way_stops : {A : Type 0} (P : Yard → World → Type 0) (q : A → Step) (all left rest : A) (n k most : ℕ) (one : Step) (old y z : Yard) (start facts after : List Fact) → n + k ≤ most → OnWay P q all n old start y facts left → IsNextOf P q y one left rest
    → IsWhole P k one y z facts after → z.mail.full ≡ true → IsWhole P most (q all) old z start after
way_stops P q all left rest n k most one old y z start facts after less d next g full = record {
  script_is = g.script_is ∙ d.script_is;
  counts = counts_more (n + k) most old z less (counts_both n k old y z d.counts g.counts);
  goes = λ w s.
      let i : IsOnWay P q all w start y facts left = d.goes_on w s in
      let m : Made = one i.now in
      let j : Goes facts after z m = g.goes i.now i.sound in
      i.rest after z (subst (Goes facts after z) (next i.now i.sound) (goes_stop facts after z m (q rest) (sym j.seen_is.full_is ∙ full) j));
}

-- where memory runs out in it
pub way_cut : {A : Type 0} (P : Yard → World → Type 0) (q : A → Step) (all left rest : A) (n : ℕ) (one : Step) (old y z : Yard) (start facts after : List Fact) → OnWay P q all n old start y facts left → IsNextOf P q y one left rest → IsCut P one y z facts after → IsCut P (q all) old z start after
way_cut P q all left rest n one old y z start facts after d next t = record {
  script_is = t.script_is ∙ d.script_is;
  told = λ w s.
      let i : IsOnWay P q all w start y facts left = d.goes_on w s in
      i.cut after (subst (λ (x : Made). ToldSome facts after x.facts) (next i.now i.sound) (cut_first facts after (one i.now) (q rest) (t.told i.now i.sound)));
}

-- where nothing is left to do
pub way_ends : {A : Type 0} (P : Yard → World → Type 0) (q : A → Step) (all left : A) (n most : ℕ) (old y : Yard) (start facts : List Fact) → ((w : World) → P y w → IsSeen y w) → n ≤ most → OnWay P q all n old start y facts left → ((w : World) → P y w → tell [] w ≡ q left w) → IsWhole P most (q all) old y start facts
way_ends P q all left n most old y start facts seen less d none = record {
  script_is = d.script_is;
  counts = counts_more n most old y less d.counts;
  goes = λ w s. let i : IsOnWay P q all w start y facts left = d.goes_on w s in i.rest facts y (subst (Goes facts facts y) (none i.now i.sound) (goes_still y i.now facts (seen i.now i.sound)));
}

-- the world that is there now
pub way_now : {A : Type 0} (P : Yard → World → Type 0) (q : A → Step) (all left : A) (n : ℕ) (old y : Yard) (start facts : List Fact) → OnWay P q all n old start y facts left → (w : World) × P old w → (w : World) × P y w
way_now P q all left n old y start facts d r = let i : IsOnWay P q all r.0 start y facts left = d.goes_on r.0 r.1 in (i.now, i.sound)

pub sound_seen : (y : Yard) (w : World) → IsSound y w → IsSeen y w
sound_seen y w s = s.seen_is

pub to_seen : (M : Script → World → Type 0) (y : Yard) (w : World) → IsSoundTo M y w → IsSeen y w
to_seen M y w s = s.sound.seen_is
