-- Views, and nodes that come up and go down: what the whole step did.
use Rattle.std.proofs.Common.{◌≡◌, ℕ, ◌+◌, ◌-◌, ◌≤◌, List, [], ◌∷◌, ◌++◌, length, refl, ap, sym, ◌∙◌, subst, arith, true, false}
use Rattle.std.specs.Prelude.{Bool, Option, Some, None, is_none, IsSomeAnd, Result, Ok, Err, OnOk, OnErr, slice_set}
use Rattle.yard_model.specs.declared.fact.Fact.{Fact}
use Rattle.yard_model.specs.declared.fact.Fact.TheVariants as fact
use Rattle.yard_model.specs.declared.incarnation.Incarnation.{Incarnation}
use Rattle.yard_model.specs.Words.{at, without}
use Rattle.yard_model.specs.World as world
use Rattle.yard_model.specs.World.{World, Made, Step, tell, then_step, views, node_at, go_down_by, wire_limit}
use Rattle.shard_lease.specs.Book.{Book, meaning_of}
use Rattle.node_core.specs.Leased.{Rests}
use Rattle.node_core.specs.Standing.{Standing}
use Rattle.plain_laws.proofs.Booleans.{true_is_not_false}
use Rattle.plain_laws.proofs.Lists.{none_of}
use Rattle.world_sim.specs.Mail.{Mails, ToldSome, facts_of}
use Rattle.world_sim.specs.Stepped.{IsWhole, IsCut, Stepped}
use Rattle.world_sim.specs.Turns.{Ends}
use Rattle.world_sim.specs.Yard.{Yard, IsSeen, IsFirm, IsSound, Goes}
use Rattle.world_sim.proofs.EndLaws.{ended_goes, cut_ended, rests_on, none_kept, go_down_full}
use Rattle.world_sim.proofs.SeenLaws.{IsAllTold, view_items, views_seen, cut_views}
use Rattle.world_sim.proofs.StepLaws.{goes_still, counts_same, step_as, step_then, step_cut, step_told, whole_from, cut_from, cut_as, if_true, if_false}
use Rattle.world_sim.proofs.UpLaws.{firm_of}

-- Views.

pub views_told : {E : Type 0} (y : Yard) (mid new : Mails) (r : Result (Unit {0}) E) (before after : List Fact) → mid.packets ≡ y.mail.packets → mid.fresh ≡ y.mail.fresh → mid.full ≡ y.mail.full → mid.items ≡ y.mail.items ++ view_items y.version y.members y.members
    → OnOk r (IsAllTold mid new before after) → OnErr r (ToldSome before after (facts_of wire_limit (length mid.packets) mid.items)) → Stepped IsSeen 0 views r y (record y { mail = new }) before after
views_told y mid new (Ok u) before after p f b i t none = record {
  script_is = refl;
  counts = counts_same y (record y { mail = new }) 0 refl refl;
  goes = λ w s. views_seen y mid new w before after s p f b (i ∙ ap (λ l. l ++ view_items y.version y.members y.members) s.told_all) t;
}
views_told y mid new (Err e) before after p f b i none t = record { script_is = refl; told = λ w s. cut_views y mid w before after s p (i ∙ ap (λ l. l ++ view_items y.version y.members y.members) s.told_all) t }

-- Up.

none_at : (y : Yard) (w : World) (n : ℕ) (b : Bool) → IsSound y w → is_none (at y.nodes (n - 1)) ≡ b → is_none (node_at w n) ≡ b
none_at y w n b s e = none_kept y w n b s.seen_is e

pub up_stepped : {E : Type 0} (y new : Yard) (n : ℕ) (r : Result (Unit {0}) E) (before after : List Fact) → is_none (at y.nodes (n - 1)) ≡ true → Stepped IsSound 1 (world.come_up n) r y new before after → Stepped IsSound 1 (world.up n) r y new before after
up_stepped y new n r before after down s = step_as IsSound IsSound 1 1 (world.come_up n) (world.up n) r y new before after (omega arith) (λ w f. (f, if_true (is_none (node_at w n)) (world.come_up n w) (world.nothing w) (none_at y w n true f down))) s

pub up_nothing : {E : Type 0} (y : Yard) (n : ℕ) (r : Result (Unit {0}) E) (before after : List Fact) → is_none (at y.nodes (n - 1)) ≡ false → OnOk r (after ≡ before ++ fact.Nothing ∷ []) → OnErr r (after ≡ before) → Stepped IsSound 1 (world.up n) r y y before after
up_nothing y n r before after there ok err = step_told IsSound 1 (world.up n) r y before after fact.Nothing ok err (λ w s.
    subst (Goes before (before ++ fact.Nothing ∷ []) y) (if_false (is_none (node_at w n)) (world.come_up n w) (world.nothing w) (none_at y w n false s there)) (record { seen_is = s.seen_is; facts_are = refl }))

-- Down.

pub is_there : (o : Option Standing) → is_none o ≡ false → (v : Standing) × (o ≡ Some v)
is_there None e = absurd (true_is_not_false e)
is_there (Some v) e = (v, refl)

pub may_end : (y : Yard) (w : World) (n : ℕ) → IsFirm y w → is_none (at y.nodes (n - 1)) ≡ false → IsSomeAnd (at y.nodes (n - 1)) (λ v. Rests (meaning_of y.book) v.script v.state)
may_end y w n s there =
    let t : (v : Standing) × (at y.nodes (n - 1) ≡ Some v) = is_there (at y.nodes (n - 1)) there in
    subst (λ o. IsSomeAnd o (λ v. Rests (meaning_of y.book) v.script v.state)) (sym t.1) (rests_on n t.0 y w s t.1)

pub down_none : (y : Yard) (n : ℕ) (before : List Fact) → is_none (at y.nodes (n - 1)) ≡ true → IsWhole IsFirm 1 (world.go_down n) y y before before
down_none y n before down = record {
  script_is = refl;
  counts = counts_same y y 1 refl refl;
  goes = λ w s. subst (λ o. Goes before before y (go_down_by o w)) (sym (none_of (node_at w n) (none_kept y w n true s.seen_is down))) (goes_still y w before s.seen_is);
}

-- what the end of a node leaves, once it is told
abbrev pub with_end : Yard → ℕ → Incarnation → Book → Mails → Yard
with_end y n who book mail = record y { nodes = slice_set y.nodes (n - 1) None; book = book; members = without who y.members; version = y.version + 1; mail = mail }

record IsAtEnd (y : Yard) (n : ℕ) (who : Incarnation) (book : Book) (mid : Mails) : Type 0 where
  node : Standing
  is_up : at y.nodes (n - 1) ≡ Some node
  who_is : who ≡ node.state.who
  ends : Ends y.book book y.mail mid node

at_end : (y : Yard) (n : ℕ) (who : Incarnation) (book : Book) (mid : Mails) → IsSomeAnd (at y.nodes (n - 1)) (λ v. (who ≡ v.state.who) × Ends y.book book y.mail mid v) → IsAtEnd y n who book mid
at_end y n who book mid h = by (at y.nodes (n - 1)) refl h
  where
    by : (o : Option Standing) → at y.nodes (n - 1) ≡ o → IsSomeAnd o (λ v. (who ≡ v.state.who) × Ends y.book book y.mail mid v) → IsAtEnd y n who book mid
    by None e h = absurd h
    by (Some v) e h = record { node = v; is_up = e; who_is = h.0; ends = h.1 }

pub down_told : {E : Type 0} (y z : Yard) (n : ℕ) (who : Incarnation) (book : Book) (mid mail : Mails) (r : Result (Unit {0}) E) (before between after : List Fact) → z ≡ with_end y n who book mail → 1 ≤ n → length y.mail.packets ≤ wire_limit
    → IsSomeAnd (at y.nodes (n - 1)) (λ v. (who ≡ v.state.who) × Ends y.book book y.mail mid v) → between ≡ before ++ fact.Gone who ∷ [] → OnOk r (IsAllTold mid mail between after)
    → OnErr r (ToldSome between after (facts_of wire_limit (length mid.packets) mid.items)) → Stepped IsFirm 1 (world.go_down n) r y z before after
down_told y z n who book mid mail (Ok u) before between after same some limit h told t none =
    let a : IsAtEnd y n who book mid = at_end y n who book mid h in
    let v : Yard = with_end y n who book mail in
    subst (λ x. IsWhole IsFirm 1 (world.go_down n) y x before after) (sym same) (record {
      script_is = refl;
      counts = record { version_is = omega arith; ups_are = λ k. omega arith };
      goes = λ w s. ended_goes y v w n a.node mid before after s some a.is_up a.ends
          (record { script_is = refl; nodes_are = refl; members_are = ap (λ x. without x y.members) a.who_is; version_is = refl; ups_are = refl; force_is = refl; ordered_are = refl }) limit
          (subst (λ b. IsAllTold mid mail b after) (told ∙ ap (λ x. before ++ fact.Gone x ∷ []) a.who_is) t);
    })
down_told y z n who book mid mail (Err e) before between after same some limit h told none t =
    let a : IsAtEnd y n who book mid = at_end y n who book mid h in record {
      script_is = ap (λ (x : Yard). x.script) same;
      told = λ w s. cut_ended y w n a.node book mid before after s a.is_up a.ends limit (subst (λ b. ToldSome b after (facts_of wire_limit (length mid.packets) mid.items)) (told ∙ ap (λ x. before ++ fact.Gone x ∷ []) a.who_is) t);
    }

-- Crash.

pub crash_nothing : {E : Type 0} (y : Yard) (n : ℕ) (r : Result (Unit {0}) E) (before after : List Fact) → is_none (at y.nodes (n - 1)) ≡ true → OnOk r (after ≡ before ++ fact.Nothing ∷ []) → OnErr r (after ≡ before) → Stepped IsSound 1 (world.crash_node n) r y y before after
crash_nothing y n r before after down ok err = step_told IsSound 1 (world.crash_node n) r y before after fact.Nothing ok err (λ w s.
    subst (Goes before (before ++ fact.Nothing ∷ []) y) (if_true (is_none (node_at w n)) (world.nothing w) (then_step (world.go_down n w) views) (none_at y w n true s down)) (record { seen_is = s.seen_is; facts_are = refl }))

crash_as : (y : Yard) (n : ℕ) → is_none (at y.nodes (n - 1)) ≡ false → (w : World) → IsSound y w → then_step (world.go_down n w) views ≡ world.crash_node n w
crash_as y n there w s = if_false (is_none (node_at w n)) (world.nothing w) (then_step (world.go_down n w) views) (none_at y w n false s there)

pub crash_stepped : {E : Type 0} (y mid new : Yard) (n : ℕ) (r : Result (Unit {0}) E) (before between after : List Fact) → is_none (at y.nodes (n - 1)) ≡ false → IsWhole IsFirm 1 (world.go_down n) y mid before between → Stepped IsSeen 0 views r mid new between after
    → Stepped IsSound 1 (world.crash_node n) r y new before after
crash_stepped y mid new n r before between after there g s =
    step_as IsSound IsSound 1 1 (λ w. then_step (world.go_down n w) views) (world.crash_node n) r y new before after (omega arith) (λ w f. (f, crash_as y n there w f))
    (step_then IsSound IsSeen 1 0 (world.go_down n) views r y mid new before between after (whole_from IsFirm IsSound 1 (world.go_down n) y mid before between (λ w f. firm_of y w f) g)
    (λ w f k. (go_down_full w n ∙ f.going_is, k.seen_is)) s)

pub crash_cut : (y new : Yard) (n : ℕ) (before after : List Fact) → is_none (at y.nodes (n - 1)) ≡ false → IsCut IsFirm (world.go_down n) y new before after → IsCut IsSound (world.crash_node n) y new before after
crash_cut y new n before after there c =
    cut_as IsSound (λ w. then_step (world.go_down n w) views) (world.crash_node n) y new before after (crash_as y n there)
    (step_cut IsSound (world.go_down n) views y new before after (cut_from IsFirm IsSound (world.go_down n) y new before after (λ w f. firm_of y w f) c))
