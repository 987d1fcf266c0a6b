-- A world, order by order.
use Rattle.std.proofs.Common.{inl, inr, ◌≡◌, ℕ, zero, suc, ◌+◌, ◌-◌, ◌*◌, ◌<◌, ◌≤◌, Bool, true, false, List, [], ◌∷◌, length, refl, ap, sym, ◌∙◌, subst, arith}
use Rattle.std.specs.Prelude.{slice_get, slice_index_or, Option, Some, None, IsTrue, Result, Ok, Err, OnOk}
use Rattle.yard_model.specs.declared.fact.Fact.{Fact}
use Rattle.yard_model.specs.declared.charter.Line.{Line}
use Rattle.yard_model.specs.declared.charter.Order.{Order}
use Rattle.yard_model.specs.declared.charter.Order.TheVariants as order
use Rattle.yard_model.specs.Safe.{safe}
use Rattle.yard_model.specs.Script.{Script, IsScript, is_order, names_in, with_shards}
use Rattle.yard_model.specs.World.{World, Made, play_line, with_order, wire_limit}
use Rattle.yard_model.specs.Era.{era_of}
use Rattle.settle_laws.specs.Settles.{EndsSettled, Settles, SettleLineSettles}
use Rattle.plain_laws.proofs.Booleans.{true_is_not_false}
use Rattle.play_laws.specs.Played.{is_named}
use Rattle.play_laws.proofs.Orders.{names_are}
use Rattle.world_sim.specs.Keeps.{Keeps}
use Rattle.plain_laws.proofs.Lists.{none_is_not_some}
use Rattle.world_sim.specs.declared.fault.StepFault.{StepFault}
use Rattle.world_sim.specs.declared.fault.StepFault.TheVariants as fault
use Rattle.world_sim.specs.Mail.{ToldSome}
use Rattle.world_sim.specs.Played.{Played, made_of, Told, Went, Filled, CutShort, Answers, LineSettles, MadeSafe}
use Rattle.world_sim.specs.Given.{Given}
use Rattle.world_sim.specs.Stepped.{IsPlayed}
use Rattle.world_sim.specs.World.{IsWorld, IsPlaying, IsAt, IsCounted, IsKept}
use Rattle.world_sim.specs.Yard.{Yard, IsSeen, IsSound, IsBacked, Goes}
use Rattle.world_sim.proofs.OrderedLaws.{line_leaves}
use Rattle.world_sim.proofs.PlaceLaws.{all_got}
use Rattle.world_sim.proofs.PlayedLaws.{made_next}
use Rattle.world_sim.proofs.UpLaws.{one_more}

got_inside : {A : Type 0} (xs : List A) (i : ℕ) (x : A) → slice_get xs i ≡ Some x → i < length xs
got_inside [] i x e = absurd (none_is_not_some x e)
got_inside (y ∷ ys) zero x e = omega arith
got_inside (y ∷ ys) (suc i) x e = let less : i < length ys = got_inside ys i x e in omega (arith, less)

-- a world that plays orders began with none of given stores
pub playing : (c : Script) (o : Option Given) (y : Yard) (n : ℕ) (f : Option StepFault) → IsWorld c o y n f → o ≡ None → IsPlaying c y n f
playing c o y n f w e = subst (λ x. IsWorld c x y n f) e w

pub of_playing : (c : Script) (o : Option Given) (y : Yard) (n : ℕ) (f : Option StepFault) → o ≡ None → IsPlaying c y n f → IsWorld c o y n f
of_playing c o y n f e w = subst (λ x. IsWorld c x y n f) (sym e) w

-- where it isn't spent its parts are sound
pub going_at : (c : Script) (y : Yard) (n : ℕ) (f : Option StepFault) → IsPlaying c y n f → f ≡ None → IsAt c y n false × IsCounted y n
going_at c y n f w e = subst (IsKept c y n) e w.kept

pub sound_at : (c : Script) (y : Yard) (n : ℕ) (f : Option StepFault) → IsPlaying c y n f → f ≡ None → IsSound y (made_of c n).world
sound_at c y n f w e = record {
  seen_is = (going_at c y n f w e).0.seen_is;
  stands_is = (going_at c y n f w e).0.stands_is;
  going_is = (going_at c y n f w e).0.full_is;
}

-- and all that is recorded is queued
pub backed_at : Keeps → (c : Script) (y : Yard) (n : ℕ) (f : Option StepFault) → IsPlaying c y n f → f ≡ None → IsBacked y (made_of c n).world
backed_at keeps c y n f w e = record {
  sound = sound_at c y n f w e;
  may = keeps.plays_queued c y.script n w.script_is (going_at c y n f w e).0.era_is (going_at c y n f w e).0.seen_is.set_is;
}

-- the next line is one of the era's script too
next_in : (c : Script) (y : Yard) (n : ℕ) (f : Option StepFault) (l : Line) → IsPlaying c y n f → f ≡ None → slice_get c.orders n ≡ Some l → slice_get y.script.orders n ≡ Some l
next_in c y n f l w e next = ap (λ (x : Script). slice_get x.orders n) (going_at c y n f w e).0.era_is ∙ next

pub order_of_line : (c : Script) (y : Yard) (n : ℕ) (f : Option StepFault) (l : Line) → IsPlaying c y n f → f ≡ None → slice_get c.orders n ≡ Some l → is_order y.script.config l.order ≡ true
order_of_line c y n f l w e next = all_got (λ (l : Line). is_order y.script.config l.order) y.script.orders n l (sound_at c y n f w e).stands_is.sound.script_is.orders (next_in c y n f l w e next)

pub named_line : (c : Script) (y : Yard) (n : ℕ) (f : Option StepFault) (l : Line) → IsPlaying c y n f → f ≡ None → slice_get c.orders n ≡ Some l → is_named y.script l.order ≡ true
named_line c y n f l w e next = all_got (λ (l : Line). is_named y.script l.order) y.script.orders n l (names_are (names_in y.script.orders) y.script.orders [] refl) (next_in c y n f l w e next)

pub version_fits : (c : Script) (y : Yard) (n : ℕ) (f : Option StepFault) (l : Line) → IsPlaying c y n f → f ≡ None → slice_get c.orders n ≡ Some l → y.version < 3000000000
version_fits c y n f l w e next =
    let less : n < length c.orders = got_inside c.orders n l next in
    let most : length c.orders ≤ 3000000 = w.script_is.fits in
    let few : y.version ≤ 20 * n = (going_at c y n f w e).1.version_is in
    omega (arith, less, most, few)

pub ups_fit : (c : Script) (y : Yard) (n : ℕ) (f : Option StepFault) (l : Line) → IsPlaying c y n f → f ≡ None → slice_get c.orders n ≡ Some l → (k : ℕ) → slice_index_or y.ups k 0 < 3000000000
ups_fit c y n f l w e next k =
    let less : n < length c.orders = got_inside c.orders n l next in
    let most : length c.orders ≤ 3000000 = w.script_is.fits in
    let few : slice_index_or y.ups k 0 ≤ 20 * n = (going_at c y n f w e).1.ups_are k in
    omega (arith, less, most, few)

pub ordered_fit : (c : Script) (y : Yard) (n : ℕ) (f : Option StepFault) (l : Line) → IsPlaying c y n f → f ≡ None → slice_get c.orders n ≡ Some l → (k : ℕ) → slice_index_or y.ordered k 0 < 3000000
ordered_fit c y n f l w e next k =
    let less : n < length c.orders = got_inside c.orders n l next in
    let most : length c.orders ≤ 3000000 = w.script_is.fits in
    let few : slice_index_or y.ordered k 0 ≤ n = (going_at c y n f w e).1.ordered_are k in
    omega (arith, less, most, few)

pub count_fits : (c : Script) (y : Yard) (n : ℕ) (f : Option StepFault) (l : Line) → IsPlaying c y n f → slice_get c.orders n ≡ Some l → n < 3000000
count_fits c y n f l w next =
    let less : n < length c.orders = got_inside c.orders n l next in
    let most : length c.orders ≤ 3000000 = w.script_is.fits in
    omega (arith, less, most)

-- What one order more leads to.

abbrev pub IsNext : Yard → Yard → ℕ → Line → List Fact → List Fact → Type 0
IsNext y z n l before after = IsPlayed 20 (play_line l) y z before after

next_goes : Keeps → (c : Script) (y z : Yard) (n : ℕ) (f : Option StepFault) (l : Line) (before after : List Fact) → IsPlaying c y n f → f ≡ None → IsNext y z n l before after → Goes before after z (play_line l (made_of c n).world)
next_goes keeps c y z n f l before after w e k = k.goes (made_of c n).world (backed_at keeps c y n f w e)

made_is : (c : Script) (y : Yard) (n : ℕ) (f : Option StepFault) (l : Line) → IsPlaying c y n f → f ≡ None → slice_get c.orders n ≡ Some l → (made_of c (n + 1)).world ≡ (play_line l (made_of c n).world).world
made_is c y n f l w e next = ap (λ (m : Made). m.world) (made_next c n l next (going_at c y n f w e).0.full_is)

at_next : Keeps → (c : Script) (y z : Yard) (n : ℕ) (f : Option StepFault) (l : Line) (before after : List Fact) (b : Bool) → IsPlaying c y n f → f ≡ None → slice_get c.orders n ≡ Some l → IsNext y z n l before after → z.mail.full ≡ b → IsAt c z (n + 1) b
at_next keeps c y z n f l before after b w e next k full =
    let m : (made_of c (n + 1)).world ≡ (play_line l (made_of c n).world).world = made_is c y n f l w e next in
    let g : Goes before after z (play_line l (made_of c n).world) = next_goes keeps c y z n f l before after w e k in
    let seen : IsSeen z (made_of c (n + 1)).world = subst (IsSeen z) (sym m) g.seen_is in
    let era : z.script ≡ with_shards z.script.config.shards c = k.script_is ∙ ap (with_shards z.script.config.shards) (going_at c y n f w e).0.era_is in
    record {
      era_is = era;
      seen_is = seen;
      stands_is = keeps.plays c z.script (n + 1) w.script_is era seen.set_is;
      full_is = ap (λ (v : World). v.full) m ∙ (sym g.seen_is.full_is ∙ full);
    }

-- noting an order counts one send more at most
pub noted_more : (o : Order) (w : World) (j : ℕ) → slice_index_or (with_order (Some o) w).ordered j 0 ≤ slice_index_or w.ordered j 0 + 1
noted_more (order.Send p e c) w j = one_more w.ordered (p - 1) j
noted_more o w j = let same : slice_index_or (with_order (Some o) w).ordered j 0 ≡ slice_index_or w.ordered j 0 = refl in omega (arith, same)

counted_next : Keeps → (c : Script) (y z : Yard) (n : ℕ) (f : Option StepFault) (l : Line) (before after : List Fact) → IsPlaying c y n f → f ≡ None → slice_get c.orders n ≡ Some l → IsNext y z n l before after → IsCounted z (n + 1)
counted_next keeps c y z n f l before after w e next k =
    let d : IsCounted y n = (going_at c y n f w e).1 in
    record {
      version_is = let a : y.version ≤ 20 * n = d.version_is in let b : z.version ≤ y.version + 20 = k.counts.version_is in omega (arith, a, b);
      ups_are = λ j. let a : slice_index_or y.ups j 0 ≤ 20 * n = d.ups_are j in let b : slice_index_or z.ups j 0 ≤ slice_index_or y.ups j 0 + 20 = k.counts.ups_are j in omega (arith, a, b);
      ordered_are = λ j.
          let v : World = (made_of c n).world in
          let a : slice_index_or y.ordered j 0 ≤ n = d.ordered_are j in
          let b : slice_index_or (with_order (Some l.order) v).ordered j 0 ≤ slice_index_or v.ordered j 0 + 1 = noted_more l.order v j in
          let before_is : slice_index_or v.ordered j 0 ≡ slice_index_or y.ordered j 0 = ap (λ os. slice_index_or os j 0) (sym (sound_at c y n f w e).seen_is.ordered_are) in
          let after_is : slice_index_or z.ordered j 0 ≡ slice_index_or (with_order (Some l.order) v).ordered j 0 = ap (λ os. slice_index_or os j 0) ((next_goes keeps c y z n f l before after w e k).seen_is.ordered_are ∙ line_leaves l v) in
          omega (arith, a, b, before_is, after_is);
    }

world_by : (c : Script) (y z : Yard) (n : ℕ) (f g : Option StepFault) (l : Line) → IsPlaying c y n f → slice_get c.orders n ≡ Some l → IsKept c z (n + 1) g → IsPlaying c z (n + 1) g
world_by c y z n f g l w next kept = record {
  script_is = w.script_is;
  few = let less : n < length c.orders = got_inside c.orders n l next in omega (arith, less);
  kept = kept;
}

pub world_going : Keeps → (c : Script) (y z : Yard) (n : ℕ) (f g : Option StepFault) (l : Line) (before after : List Fact) → IsPlaying c y n f → f ≡ None → slice_get c.orders n ≡ Some l → IsNext y z n l before after → z.mail.full ≡ false → g ≡ None → IsPlaying c z (n + 1) g
world_going keeps c y z n f g l before after w e next k full none =
    subst (IsPlaying c z (n + 1)) (sym none) (world_by c y z n f None l w next (at_next keeps c y z n f l before after false w e next k full, counted_next keeps c y z n f l before after w e next k))

pub world_full : Keeps → (c : Script) (y z : Yard) (n : ℕ) (f : Option StepFault) (l : Line) (before after : List Fact) → IsPlaying c y n f → f ≡ None → slice_get c.orders n ≡ Some l → IsNext y z n l before after → z.mail.full ≡ true → IsPlaying c z (n + 1) (Some fault.WireFull)
world_full keeps c y z n f l before after w e next k full =
    world_by c y z n f (Some fault.WireFull) l w next (at_next keeps c y z n f l before after true w e next k full, counted_next keeps c y z n f l before after w e next k)

pub world_spent : (c : Script) (y z : Yard) (n : ℕ) (f : Option StepFault) → IsPlaying c y n f → IsPlaying c z n (Some fault.OutOfMemory)
world_spent c y z n f w = record { script_is = w.script_is; few = w.few; kept = tt }

-- The answers.

abbrev pub seen : Script → Option Given → ℕ → Option StepFault → Played
seen c o n f = record { script = c; given = o; count = n; fault = f }

told_next : Keeps → (c : Script) (o : Option Given) (y z : Yard) (n : ℕ) (f : Option StepFault) (l : Line) (before after : List Fact) → IsPlaying c y n f → f ≡ None → IsNext y z n l before after → Told (seen c o n f) l before after
told_next keeps c o y z n f l before after w e k = record { fresh_is = e; facts_are = (next_goes keeps c y z n f l before after w e k).facts_are }

pub went : Keeps → (c : Script) (o : Option Given) (y z : Yard) (n : ℕ) (f g : Option StepFault) (l : Line) (before after : List Fact) → IsPlaying c y n f → f ≡ None → IsNext y z n l before after → z.mail.full ≡ false → g ≡ None → Went (seen c o n f) l before (seen c o (n + 1) g) after
went keeps c o y z n f g l before after w e k full none = record {
  told_is = told_next keeps c o y z n f l before after w e k;
  going_is = sym (next_goes keeps c y z n f l before after w e k).seen_is.full_is ∙ full;
  new_is = λ i. record { script = c; given = o; count = n + 1; fault = none i };
}

pub filled : Keeps → (c : Script) (o : Option Given) (y z : Yard) (n : ℕ) (f : Option StepFault) (l : Line) (before after : List Fact) → IsPlaying c y n f → f ≡ None → IsNext y z n l before after → z.mail.full ≡ true → Filled (seen c o n f) l before (seen c o (n + 1) (Some fault.WireFull)) after
filled keeps c o y z n f l before after w e k full = record {
  told_is = told_next keeps c o y z n f l before after w e k;
  full_is = sym (next_goes keeps c y z n f l before after w e k).seen_is.full_is ∙ full;
  new_is = refl;
}

pub cut_short : (c : Script) (o : Option Given) (n : ℕ) (f : Option StepFault) (l : Line) (before after : List Fact) → f ≡ None → ToldSome before after (play_line l (made_of c n).world).facts → CutShort (seen c o n f) l before (seen c o n (Some fault.OutOfMemory)) after
cut_short c o n f l before after e t = record { fresh_is = e; told_some = t; new_is = refl }

-- no step changes the script
answers_script : (old : Played) (l : Line) (before : List Fact) (r : Result (Unit {0}) StepFault) (new : Played) (after : List Fact) → Answers old l before r new after → new.script ≡ old.script
answers_script old l before (Ok u) new after a = ap (λ (v : Played). v.script) a.new_is
answers_script old l before (Err fault.WireFull) new after a = ap (λ (v : Played). v.script) a.new_is
answers_script old l before (Err fault.OutOfMemory) new after a = ap (λ (v : Played). v.script) a.new_is

pub safe_then : MadeSafe → (old : Played) (l : Line) (before : List Fact) (r : Result (Unit {0}) StepFault) (new : Played) (after : List Fact) → IsScript old.script → Answers old l before r new after → IsTrue (safe new.script (made_of new.script new.count).facts)
safe_then law old l before r new after script a = law new.script new.count (subst IsScript (sym (answers_script old l before r new after a)) script)

-- A line that settles.

-- the trace went on, so the settle didn't end with a full wire
pub line_settles : SettleLineSettles → (old : Played) (l : Line) (before : List Fact) (new : Played) (after : List Fact) → IsScript old.script → (made_of old.script old.count).world.full ≡ false → Went old l before new after → LineSettles old l
line_settles law old l before new after script going w settle =
    subst (λ (x : Line). EndsSettled end m.world (play_line x m.world)) (λ i. record { number = l.number; order = sym settle i }) (by (law old.script wire_limit old.count l.number script going))
  where
    m : Made
    m = made_of old.script old.count

    end : Script
    end = (era_of old.script m.facts).script

    line : Line
    line = record { number = l.number; order = order.Settle }

    full : (play_line line m.world).world.full ≡ false
    full = ap (λ (x : Line). (play_line x m.world).world.full) (λ i. record { number = l.number; order = sym settle i }) ∙ w.going_is

    by : Settles end m.world (play_line line m.world) → EndsSettled end m.world (play_line line m.world)
    by (inl f) = absurd (true_is_not_false (sym f.full ∙ full))
    by (inr e) = e

-- whatever it answers
pub settles_then : SettleLineSettles → (old : Played) (l : Line) (before : List Fact) (r : Result (Unit {0}) StepFault) (new : Played) (after : List Fact) → IsScript old.script → (made_of old.script old.count).world.full ≡ false → Answers old l before r new after
    → OnOk r (LineSettles old l)
settles_then law old l before (Ok u) new after script going a = line_settles law old l before new after script going a
settles_then law old l before (Err e) new after script going a = tt
