-- The passes of workers, put together.
use Rattle.std.proofs.Common.{◌≡◌, ◌≢◌, ℕ, zero, suc, ◌+◌, ◌-◌, ◌<◌, ◌≤◌, ◌⊎◌, inl, inr, ⊎_elim, true, List, [], ◌∷◌, ◌++◌, length, refl, sym, ap, ◌∙◌, subst, arith}
use Rattle.std.specs.Prelude.{Bool, nat_le, Option, None, slice_index_or}
use Rattle.atomic_table.specs.Seated.{TableId}
use Rattle.plain_laws.proofs.Booleans.{and_both, both, at_most, within}
use Rattle.plain_laws.proofs.Lists.{by_place}
use Rattle.yard_model.specs.declared.fact.Fact.{Fact}
use Rattle.yard_model.specs.declared.incarnation.Slot.TheVariants as slot
use Rattle.yard_model.specs.Genuine.{is_producer}
use Rattle.yard_model.specs.Behaviour.{is_in}
use Rattle.yard_model.specs.Script.{Script, IsScript}
use Rattle.yard_model.specs.Words.{at, numbers}
use Rattle.yard_model.specs.Workers.{is_steady, produced, orders, is_steady_after}
use Rattle.shard_store.specs.Stores.{place_of}
use Rattle.shard_store.proofs.PlaceLaws.{place_within}
use Rattle.lease_table.specs.declared.View.{View}
use Rattle.lease_table.specs.Fits.{slot_count}
use Rattle.lease_table.specs.Leasing.{Pass, Idle, Spans, Closes, dealt_on}
use Rattle.lease_table.specs.Lists.{seen_at, Has}
use Rattle.lease_table.specs.Tells.{united, gathered, rest_of}
use Rattle.lease_table.proofs.Dealt.{next_idle}
use Rattle.lease_table.proofs.Records.{few_nodes}
use Rattle.lease_table.proofs.United.{gathered_there}
use Rattle.live_laws.specs.Live.{SawQueued}
use Rattle.node_runner.specs.Progress.{SawAll}
use Rattle.node_runner.specs.Ran.{Ran}

has_left : {A : Type 0} (y : A) (xs ys : List A) → Has y xs → Has y (xs ++ ys)
has_left y [] ys h = absurd h
has_left y (x ∷ xs) ys h = ⊎_elim (λ e. inl e) (λ t. inr (has_left y xs ys t)) h

has_right : {A : Type 0} (y : A) (xs ys : List A) → Has y ys → Has y (xs ++ ys)
has_right y [] ys h = h
has_right y (x ∷ xs) ys h = inr (has_right y xs ys h)

olds_there : (os : List (List (List Fact))) (ss : List (List Fact)) (ps : List (List (List Fact))) (j : ℕ) (y : List Fact) → Has y (seen_at os j) → Has y (seen_at (gathered os ss ps) j)
olds_there [] ss ps j y h = absurd h
olds_there (o ∷ os) ss ps zero y h = has_left y o (seen_at ss 0 ∷ seen_at ps 0) h
olds_there (o ∷ os) ss ps (suc j) y h = olds_there os (rest_of ss) (rest_of ps) j y h

at_rest : (ps : List (List (List Fact))) (j : ℕ) → seen_at (rest_of ps) j ≡ seen_at ps (suc j)
at_rest [] j = refl
at_rest (p ∷ ps) j = refl

others_there : (os : List (List (List Fact))) (ss : List (List Fact)) (ps : List (List (List Fact))) (j : ℕ) (y : List Fact) → j < length os → Has y (seen_at ps j) → Has y (seen_at (gathered os ss ps) j)
others_there [] ss ps j y less h = absurd (never j less)
  where
    never : (k : ℕ) → k < 0 → ⊥
    never k h = omega (arith, h)
others_there (o ∷ os) ss ps zero y less h = has_right y o (seen_at ss 0 ∷ seen_at ps 0) (inr h)
others_there (o ∷ os) ss ps (suc j) y less h = others_there os (rest_of ss) (rest_of ps) j y (down j (length os) less) (subst (Has y) (sym (at_rest ps j)) h)
  where
    down : (k n : ℕ) → suc k < suc n → k < n
    down k n h = omega (arith, h)

saw_mine : (c : Script) (v w : View) (q : ℕ) → SawQueued c v q → SawQueued c (united v w) q
saw_mine c v w q s = record {
  list = s.list;
  saw = ⊎_elim (λ e. inl e) (λ h. inr (olds_there v.olds w.seen w.olds (place_of c.config (slot.Queue q)) s.list h)) s.saw;
  all = s.all;
}

saw_theirs : (c : Script) (v w : View) (q : ℕ) → v.charter ≡ c → Spans v → is_producer c q ≡ true → SawQueued c w q → SawQueued c (united v w) q
saw_theirs c v w q charter wide here s =
    let k : ℕ = place_of c.config (slot.Queue q) in
    let all : length v.olds ≡ slot_count c = wide.oldss ∙ ap slot_count charter in
    let low : k < slot_count c = place_within c (slot.Queue q) here in
    let less : k < length v.olds = subst (λ n. k < n) (sym all) low in record {
      list = s.list;
      saw = inr (⊎_elim (λ e. subst (λ l. Has l (seen_at (gathered v.olds w.seen w.olds) k)) (sym e) (gathered_there v.olds w.seen w.olds k less)) (λ h. others_there v.olds w.seen w.olds k s.list less h) s.saw);
      all = s.all;
    }

-- the last node's
pub last_ran : (z : TableId) (c : Script) (turns n : ℕ) (p : Pass) → n ≡ c.config.nodes → Idle z c n p → SawAll c turns n p → Ran z c turns n p
last_ran z c turns n p end idle saw = record {
  table = idle.table;
  charter = idle.charter;
  nothing = idle.nothing;
  numbers = λ m low high. let same : n ≡ m = only m n c.config.nodes low high end in subst (Has m) (sym idle.numbers) (inl same);
  saw = λ m q low high here steady. let same : n ≡ m = only m n c.config.nodes low high end in saw q here (subst (λ i. is_steady c turns q i ≡ true) (sym same) steady);
}
  where
    only : (m n all : ℕ) → n ≤ m → m ≤ all → n ≡ all → n ≡ m
    only m n all a b e = omega (arith, a, b, e)

-- one more node's
pub one_ran : (z : TableId) (c : Script) (turns n : ℕ) (p rest r : Pass) → Idle z c n p → SawAll c turns n p → Spans p.view → Ran z c turns (n + 1) rest → r.table ≡ p.table → r.view ≡ united p.view rest.view → Ran z c turns n r
one_ran z c turns n p rest r idle saw wide ran table now = record {
  table = table ∙ idle.table;
  charter = ap (λ (u : View). u.charter) now ∙ idle.charter;
  nothing = λ k. ap (λ (u : View). at u.held k) now ∙ idle.nothing k;
  numbers = λ m low high. subst (Has m) (sym (ap (λ (u : View). u.numbers) now)) (by_place (Has m (p.view.numbers ++ rest.view.numbers)) m n
      (λ e. has_left m p.view.numbers rest.view.numbers (subst (Has m) (sym idle.numbers) (inl (sym e))))
      (λ ne. has_right m p.view.numbers rest.view.numbers (ran.numbers m (above m n low ne) high)));
  saw = λ m q low high here steady. subst (λ u. SawQueued c u q) (sym now) (by_place (SawQueued c (united p.view rest.view) q) m n
      (λ e. saw_mine c p.view rest.view q (saw q here (subst (λ i. is_steady c turns q i ≡ true) e steady)))
      (λ ne. saw_theirs c p.view rest.view q idle.charter wide here (ran.saw m q (above m n low ne) high here steady)));
}
  where
    above : (m n : ℕ) → n ≤ m → (m ≡ n → ⊥) → n + 1 ≤ m
    above m n low ne = grind arith

-- all nodes'
pub ran_closes : (z : TableId) (c : Script) (turns : ℕ) (p : Pass) → Ran z c turns 1 p → Closes c p.view
ran_closes z c turns p ran = record { numbers = λ n some most. ran.numbers n (one n some) most; nothing = ran.nothing }
  where
    one : (n : ℕ) → n ≢ 0 → 1 ≤ n
    one n some = omega (arith, some)
