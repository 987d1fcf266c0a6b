-- Steps, one after the other: from what each did to what both did.
use Rattle.std.proofs.Common.{◌≡◌, ℕ, ◌+◌, ◌≤◌, List, [], ◌∷◌, ◌++◌, refl, ap, sym, ◌∙◌, subst, arith, append_assoc}
use Rattle.std.specs.Prelude.{Bool, true, false, Result, Ok, Err, OnOk, OnErr, slice_index_or, if◌then◌else◌}
use Rattle.std.specs.Result.{IsErr}
use Rattle.std.proofs.lemmas.List.{append-nil}
use Rattle.yard_model.specs.declared.fact.Fact.{Fact}
use Rattle.yard_model.specs.Script.{Script, with_shards}
use Rattle.yard_model.specs.World.{World, Made, Step, tell, then_step}
use Rattle.plain_laws.proofs.Booleans.{true_is_not_false}
use Rattle.world_sim.specs.Mail.{ToldSome}
use Rattle.world_sim.specs.Stepped.{Counts, IsWhole, IsCut, Plays, Stepped}
use Rattle.world_sim.specs.Yard.{Yard, IsSeen, IsBacked, Goes}

-- Beginnings of facts.

-- nothing was told
pub some_none : (before after whole : List Fact) → after ≡ before → ToldSome before after whole
some_none before after whole e = record { said = []; left = whole; new_is = e ∙ sym (append-nil before); whole_is = refl }

-- a beginning of the first part
pub some_first : (before after first rest : List Fact) → ToldSome before after first → ToldSome before after (first ++ rest)
some_first before after first rest t = record {
  said = t.said;
  left = t.left ++ rest;
  new_is = t.new_is;
  whole_is = ap (λ fs. fs ++ rest) t.whole_is ∙ append_assoc t.said t.left rest;
}

-- the first part, and a beginning of the rest
pub some_rest : (before mid after first rest : List Fact) → mid ≡ before ++ first → ToldSome mid after rest → ToldSome before after (first ++ rest)
some_rest before mid after first rest e t = record {
  said = first ++ t.said;
  left = t.left;
  new_is = t.new_is ∙ (ap (λ fs. fs ++ t.said) e ∙ append_assoc before first t.said);
  whole_is = ap (λ fs. first ++ fs) t.whole_is ∙ sym (append_assoc first t.said t.left);
}

-- Of worlds: one step, and then another.

pub goes_then : (before mid after : List Fact) (z : Yard) (m : Made) (q : Step) → m.world.full ≡ false → mid ≡ before ++ m.facts → Goes mid after z (q m.world) → Goes before after z (then_step m q)
goes_then before mid after z m q e f g = by m.world.full e
  where
    by : (b : Bool) → b ≡ false → Goes before after z (elim b as (λ b. Made) [ true ↦ m | false ↦ let n : Made = q m.world in record { facts = m.facts ++ n.facts; world = n.world } ])
    by true e = absurd (true_is_not_false e)
    by false e = record { seen_is = g.seen_is; facts_are = g.facts_are ∙ (ap (λ l. l ++ (q m.world).facts) f ∙ append_assoc before m.facts (q m.world).facts) }

-- the trace stops
pub goes_stop : (before after : List Fact) (z : Yard) (m : Made) (q : Step) → m.world.full ≡ true → Goes before after z m → Goes before after z (then_step m q)
goes_stop before after z m q e g = by m.world.full e
  where
    by : (b : Bool) → b ≡ true → Goes before after z (elim b as (λ b. Made) [ true ↦ m | false ↦ let n : Made = q m.world in record { facts = m.facts ++ n.facts; world = n.world } ])
    by true e = g
    by false e = absurd (true_is_not_false (sym e))

-- nothing is told
pub goes_still : (y : Yard) (w : World) (before : List Fact) → IsSeen y w → Goes before before y (tell [] w)
goes_still y w before s = record { seen_is = s; facts_are = sym (append-nil before) }

-- memory ran out in the first
pub cut_first : (before after : List Fact) (m : Made) (q : Step) → ToldSome before after m.facts → ToldSome before after (then_step m q).facts
cut_first before after m q t = by m.world.full
  where
    by : (b : Bool) → ToldSome before after (elim b as (λ b. Made) [ true ↦ m | false ↦ let n : Made = q m.world in record { facts = m.facts ++ n.facts; world = n.world } ]).facts
    by true = t
    by false = some_first before after m.facts (q m.world).facts t

-- memory ran out in the next
pub cut_next : (before mid after : List Fact) (m : Made) (q : Step) → m.world.full ≡ false → mid ≡ before ++ m.facts → ToldSome mid after (q m.world).facts → ToldSome before after (then_step m q).facts
cut_next before mid after m q e f t = by m.world.full e
  where
    by : (b : Bool) → b ≡ false → ToldSome before after (elim b as (λ b. Made) [ true ↦ m | false ↦ let n : Made = q m.world in record { facts = m.facts ++ n.facts; world = n.world } ]).facts
    by true e = absurd (true_is_not_false e)
    by false e = some_rest before mid after m.facts (q m.world).facts f t

-- Counts.

pub counts_same : (old new : Yard) (n : ℕ) → new.version ≡ old.version → new.ups ≡ old.ups → Counts n old new
counts_same old new n e f = record {
  version_is = omega (arith, e);
  ups_are = λ k. let same : slice_index_or new.ups k 0 ≡ slice_index_or old.ups k 0 = ap (λ us. slice_index_or us k 0) f in omega (arith, same);
}

pub counts_both : (a b : ℕ) (old mid new : Yard) → Counts a old mid → Counts b mid new → Counts (a + b) old new
counts_both a b old mid new c d = record {
  version_is = let e : mid.version ≤ old.version + a = c.version_is in let f : new.version ≤ mid.version + b = d.version_is in omega (arith, e, f);
  ups_are = λ k. let e : slice_index_or mid.ups k 0 ≤ slice_index_or old.ups k 0 + a = c.ups_are k in let f : slice_index_or new.ups k 0 ≤ slice_index_or mid.ups k 0 + b = d.ups_are k in omega (arith, e, f);
}

pub counts_more : (n m : ℕ) (old new : Yard) → n ≤ m → Counts n old new → Counts m old new
counts_more n m old new l c = record {
  version_is = let e : new.version ≤ old.version + n = c.version_is in omega (arith, e, l);
  ups_are = λ k. let e : slice_index_or new.ups k 0 ≤ slice_index_or old.ups k 0 + n = c.ups_are k in omega (arith, e, l);
}

-- Steps of the code.

-- by another step that is the same, under a premise that gives the first
pub step_as : {E : Type 0} (P Q : Yard → World → Type 0) (n m : ℕ) (p q : Step) (r : Result (Unit {0}) E) (old new : Yard) (before after : List Fact) → n ≤ m → ((w : World) → Q old w → P old w × (p w ≡ q w))
    → Stepped P n p r old new before after → Stepped Q m q r old new before after
step_as P Q n m p q (Ok u) old new before after l h s = record {
  script_is = s.script_is;
  counts = counts_more n m old new l s.counts;
  goes = λ w k. let t : P old w × (p w ≡ q w) = h w k in subst (Goes before after new) t.1 (s.goes w t.0);
}
step_as P Q n m p q (Err e) old new before after l h s = record {
  script_is = s.script_is;
  told = λ w k. let t : P old w × (p w ≡ q w) = h w k in subst (λ (x : Made). ToldSome before after x.facts) t.1 (s.told w t.0);
}

-- one after the other, where the first was whole and the trace goes on
pub step_then : {E : Type 0} (P Q : Yard → World → Type 0) (a b : ℕ) (p q : Step) (r : Result (Unit {0}) E) (old mid new : Yard) (before between after : List Fact) → IsWhole P a p old mid before between
    → ((w : World) → P old w → Goes before between mid (p w) → ((p w).world.full ≡ false) × Q mid (p w).world) → Stepped Q b q r mid new between after → Stepped P (a + b) (λ w. then_step (p w) q) r old new before after
step_then P Q a b p q (Ok u) old mid new before between after f h s = record {
  script_is = s.script_is ∙ f.script_is;
  counts = counts_both a b old mid new f.counts s.counts;
  goes = λ w k.
      let g : Goes before between mid (p w) = f.goes w k in
      let t : ((p w).world.full ≡ false) × Q mid (p w).world = h w k g in
      goes_then before between after new (p w) q t.0 g.facts_are (s.goes (p w).world t.1);
}
step_then P Q a b p q (Err e) old mid new before between after f h s = record {
  script_is = s.script_is ∙ f.script_is;
  told = λ w k.
      let g : Goes before between mid (p w) = f.goes w k in
      let t : ((p w).world.full ≡ false) × Q mid (p w).world = h w k g in
      cut_next before between after (p w) q t.0 g.facts_are (s.told (p w).world t.1);
}

-- memory ran out in the first
pub step_cut : (P : Yard → World → Type 0) (p q : Step) (old new : Yard) (before after : List Fact) → IsCut P p old new before after → IsCut P (λ w. then_step (p w) q) old new before after
step_cut P p q old new before after s = record { script_is = s.script_is; told = λ w k. cut_first before after (p w) q (s.told w k) }

-- memory ran out, and nothing was told
pub cut_none : (P : Yard → World → Type 0) (q : Step) (old new : Yard) (before after : List Fact) → new.script ≡ old.script → after ≡ before → IsCut P q old new before after
cut_none P q old new before after e f = record { script_is = e; told = λ w k. some_none before after (q w).facts f }

-- a fact was told, and nothing of what is kept is changed
pub step_told : {E : Type 0} (P : Yard → World → Type 0) (n : ℕ) (q : Step) (r : Result (Unit {0}) E) (y : Yard) (before after : List Fact) (f : Fact) → OnOk r (after ≡ before ++ f ∷ []) → OnErr r (after ≡ before)
    → ((w : World) → P y w → Goes before (before ++ f ∷ []) y (q w)) → Stepped P n q r y y before after
step_told P n q (Ok u) y before after f ok err g = record {
  script_is = refl;
  counts = counts_same y y n refl refl;
  goes = λ w k. subst (λ fs. Goes before fs y (q w)) (sym ok) (g w k);
}
step_told P n q (Err e) y before after f ok err g = cut_none P q y y before after refl err

-- what an error is passed on as
pub step_err : {E : Type 0} (P : Yard → World → Type 0) (n : ℕ) (q : Step) (r : Result (Unit {0}) E) (old new : Yard) (before after : List Fact) → IsErr r → IsCut P q old new before after → Stepped P n q r old new before after
step_err P n q (Ok u) old new before after h s = absurd (true_is_not_false (sym h))
step_err P n q (Err e) old new before after h s = s

pub on_ok_any : {T E : Type 0} (r : Result T E) (P : Type 0) → P → OnOk r P
on_ok_any (Ok x) P h = h
on_ok_any (Err e) P h = tt

-- What is kept, by its parts.

pub whole_as : (P : Yard → World → Type 0) (n : ℕ) (q : Step) (y old new : Yard) (before after : List Fact) → y ≡ old → IsWhole P n q y new before after → IsWhole P n q old new before after
whole_as P n q y old new before after e s = subst (λ o. IsWhole P n q o new before after) e s

pub step_seen : {E : Type 0} (P : Yard → World → Type 0) (n : ℕ) (q : Step) (r : Result (Unit {0}) E) (y old new : Yard) (before after : List Fact) → y ≡ old → Stepped P n q r y new before after → Stepped P n q r old new before after
step_seen P n q r y old new before after e s = subst (λ o. Stepped P n q r o new before after) e s

-- under a premise that gives another
pub whole_from : (P Q : Yard → World → Type 0) (n : ℕ) (q : Step) (old new : Yard) (before after : List Fact) → ((w : World) → Q old w → P old w) → IsWhole P n q old new before after → IsWhole Q n q old new before after
whole_from P Q n q old new before after h s = record { script_is = s.script_is; counts = s.counts; goes = λ w k. s.goes w (h w k) }

pub cut_from : (P Q : Yard → World → Type 0) (q : Step) (old new : Yard) (before after : List Fact) → ((w : World) → Q old w → P old w) → IsCut P q old new before after → IsCut Q q old new before after
cut_from P Q q old new before after h s = record { script_is = s.script_is; told = λ w k. s.told w (h w k) }

-- by another step that is the same
pub cut_as : (P : Yard → World → Type 0) (p q : Step) (old new : Yard) (before after : List Fact) → ((w : World) → P old w → p w ≡ q w) → IsCut P p old new before after → IsCut P q old new before after
cut_as P p q old new before after h s = record { script_is = s.script_is; told = λ w k. subst (λ (x : Made). ToldSome before after x.facts) (h w k) (s.told w k) }

pub if_true : (b : Bool) (m n : Made) → b ≡ true → m ≡ (if b then m else n)
if_true true m n e = refl
if_true false m n e = absurd (true_is_not_false (sym e))

pub if_false : (b : Bool) (m n : Made) → b ≡ false → n ≡ (if b then m else n)
if_false false m n e = refl
if_false true m n e = absurd (true_is_not_false e)

-- An order that leaves the number of shards.

same_script : (c d : Script) → d ≡ c → d ≡ with_shards d.config.shards c
same_script c d e = e ∙ ap (λ (x : Script). with_shards x.config.shards c) (sym e)

pub plays_of : {E : Type 0} (n m : ℕ) (q : Step) (r : Result (Unit {0}) E) (old new : Yard) (before after : List Fact) → n ≤ m → Stepped IsBacked n q r old new before after → Plays m q r old new before after
plays_of n m q (Ok u) old new before after l s = record { script_is = same_script old.script new.script s.script_is; counts = counts_more n m old new l s.counts; goes = s.goes }
plays_of n m q (Err e) old new before after l s = s

pub plays_err : {E : Type 0} (n : ℕ) (q : Step) (r : Result (Unit {0}) E) (old new : Yard) (before after : List Fact) → IsErr r → IsCut IsBacked q old new before after → Plays n q r old new before after
plays_err n q (Ok u) old new before after h s = absurd (true_is_not_false (sym h))
plays_err n q (Err e) old new before after h s = s

pub plays_more : {E : Type 0} (n m : ℕ) (q : Step) (r : Result (Unit {0}) E) (old new : Yard) (before after : List Fact) → n ≤ m → Plays n q r old new before after → Plays m q r old new before after
plays_more n m q (Ok u) old new before after l s = record { script_is = s.script_is; counts = counts_more n m old new l s.counts; goes = s.goes }
plays_more n m q (Err e) old new before after l s = s
