-- Another version of the behaviours, and another number of shards, while no node is up.
use Rattle.std.proofs.Common.{◌≡◌, ℕ, zero, suc, ◌+◌, ◌-◌, ◌<◌, ◌≤◌, ◌==◌, true, false, List, [], ◌∷◌, ◌++◌, length, refl, ap, sym, ◌∙◌, subst, arith}
use Rattle.std.specs.Prelude.{Bool, ◌||◌, nat_le, map, replicate, Option, Some, None, is_some, IfSome, IsSomeAnd, Result, Ok, Err, OnOk, OnErr, slice_index_or, if◌then◌else◌}
use Rattle.std.specs.List.{list_any}
use Rattle.yard_model.specs.declared.fact.Fact.{Fact}
use Rattle.yard_model.specs.declared.fact.Fact.TheVariants as fact
use Rattle.yard_model.specs.declared.incarnation.Incarnation.{Incarnation}
use Rattle.yard_model.specs.declared.incarnation.Slot.{Slot}
use Rattle.yard_model.specs.declared.incarnation.Slot.TheVariants as slot
use Rattle.yard_model.specs.declared.charter.Order.TheVariants as order
use Rattle.yard_model.specs.Behaviour.{is_in}
use Rattle.yard_model.specs.Genuine.{is_slot_of}
use Rattle.yard_model.specs.Era.{reshaped}
use Rattle.yard_model.specs.Script.{Script, Setting, setting, with_shards}
use Rattle.yard_model.specs.SlotLists.{SlotLists}
use Rattle.yard_model.specs.SlotReads.{holder}
use Rattle.yard_model.specs.Trace.{list_at}
use Rattle.yard_model.specs.Words.{numbers, at}
use Rattle.yard_model.specs.World as world
use Rattle.yard_model.specs.World.{World, Made, Step, tell, is_any_up, greatest_epoch}
use Rattle.shard_lease.specs.Book.{Book, known_at, meaning_of}
use Rattle.shard_store.specs.Stores.{entries_at, lists_at, place_of}
use Rattle.node_core.specs.Leased.{IsTold, Tells}
use Rattle.node_core.specs.Standing.{Standing}
use Rattle.plain_laws.proofs.Booleans.{true_is_not_false, and_both, at_most, below, get_replicate}
use Rattle.world_sim.specs.Keeps.{Keeps}
use Rattle.world_sim.specs.Mail.{Mails, ToldSome}
use Rattle.world_sim.specs.Stands.{Stands}
use Rattle.world_sim.specs.Stepped.{IsWhole, IsPlayed, Plays, Stepped}
use Rattle.world_sim.specs.Steps.{resharded, upgraded}
use Rattle.world_sim.specs.Stopped.{IsStopped}
use Rattle.world_sim.specs.Yard.{Yard, IsSeen, IsSound, IsBacked, Goes, state_in}
use Rattle.world_sim.proofs.StepLaws.{counts_same, plays_of, step_as, step_told, if_true, if_false}
use Rattle.world_sim.proofs.StoresLaws.{lists_home, none_holds, none_leased, stopped_all}
use Rattle.world_sim.proofs.UpLaws.{firm_of, node_kept}

-- No node is up.

none_any : (os : List (Option Standing)) → list_any is_some os ≡ false → (k : ℕ) → at os k ≡ None
none_any [] h k = refl
none_any (None ∷ os) h zero = refl
none_any (None ∷ os) h (suc k) = none_any os h k
none_any (Some v ∷ os) h k = absurd (true_is_not_false h)

any_state : (os : List (Option Standing)) → list_any is_some (map state_in os) ≡ list_any is_some os
any_state [] = refl
any_state (None ∷ os) = any_state os
any_state (Some v ∷ os) = refl

pub any_up : (y : Yard) (w : World) → IsSeen y w → list_any is_some y.nodes ≡ is_any_up w
any_up y w s = sym (any_state y.nodes) ∙ ap (list_any is_some) s.nodes_are

down_at : (y : Yard) (w : World) → IsSeen y w → list_any is_some y.nodes ≡ false → (k : ℕ) → at w.nodes k ≡ None
down_at y w s h k = node_kept y w k s ∙ ap state_in (none_any y.nodes h k)

pub neither : (a b : Bool) → (a || b) ≡ false → (a ≡ false) × (b ≡ false)
neither false b h = (refl, h)
neither true b h = absurd (true_is_not_false h)

-- Another version.

pub not_upgraded : {E : Type 0} (y : Yard) (b : Bool) (r : Result (Unit {0}) E) (before after : List Fact) → b ≡ (list_any is_some y.nodes || (y.force.version == 2)) → b ≡ true → OnOk r (after ≡ before ++ fact.Nothing ∷ []) → OnErr r (after ≡ before)
    → Stepped IsSound 0 (world.play order.Upgrade) r y y before after
not_upgraded y b r before after e h ok err = step_told IsSound 0 (world.play order.Upgrade) r y before after fact.Nothing ok err (λ w s.
    subst (Goes before (before ++ fact.Nothing ∷ []) y) (if_true (is_any_up w || (w.behaviour == 2)) (world.nothing w) (upgraded w) (upgrade_is y w s ∙ (sym e ∙ h))) (record { seen_is = s.seen_is; facts_are = refl }))
  where
    upgrade_is : (y : Yard) (w : World) → IsSound y w → (is_any_up w || (w.behaviour == 2)) ≡ (list_any is_some y.nodes || (y.force.version == 2))
    upgrade_is y w s = ap (λ a. a || (w.behaviour == 2)) (sym (any_up y w s.seen_is)) ∙ ap (λ v. list_any is_some y.nodes || (v == 2)) (sym s.seen_is.behaviour_is)

pub is_upgraded : {E : Type 0} (y new : Yard) (r : Result (Unit {0}) E) (before after : List Fact) → (list_any is_some y.nodes || (y.force.version == 2)) ≡ false → Stepped IsSound 0 upgraded r y new before after → Stepped IsSound 0 (world.play order.Upgrade) r y new before after
is_upgraded y new r before after h s = step_as IsSound IsSound 0 0 upgraded (world.play order.Upgrade) r y new before after (omega arith) (λ w k. (k, if_false (is_any_up w || (w.behaviour == 2)) (world.nothing w) (upgraded w) (same w k))) s
  where
    same : (w : World) → IsSound y w → (is_any_up w || (w.behaviour == 2)) ≡ false
    same w k = ap (λ a. a || (w.behaviour == 2)) (sym (any_up y w k.seen_is)) ∙ (ap (λ v. list_any is_some y.nodes || (v == 2)) (sym k.seen_is.behaviour_is) ∙ h)

abbrev pub with_version : ℕ → Yard → Yard
with_version v y = record y { force = record y.force { version = v } }

pub over_whole : (y z : Yard) (before after : List Fact) → z.script ≡ y.script → z.force.kind ≡ y.force.kind → z.force.version ≡ 2 → z.force.past ≡ y.force.past → z ≡ record y { force = z.force } → after ≡ before ++ fact.Upgrade 2 ∷ [] → IsWhole IsSound 0 upgraded y z before after
over_whole y z before after script kind version past same told = subst (λ x. IsWhole IsSound 0 upgraded y x before after) (sym same) (record {
  script_is = refl;
  counts = counts_same y (record y { force = z.force }) 0 refl refl;
  goes = λ w s. record { seen_is = seen w s.seen_is; facts_are = told };
})
  where
    seen : (w : World) → IsSeen y w → IsSeen (record y { force = z.force }) (upgraded w).world
    seen w u = record {
      set_is = u.set_is;
      kind_is = kind ∙ u.kind_is;
      behaviour_is = version;
      past_is = past ∙ u.past_is;
      limit_is = u.limit_is;
      members_are = u.members_are;
      version_is = u.version_is;
      ups_are = u.ups_are;
      ordered_are = u.ordered_are;
      ordered_there = u.ordered_there;
      wire_is = u.wire_is;
      fresh_is = u.fresh_is;
      full_is = u.full_is;
      told_all = u.told_all;
      nodes_are = u.nodes_are;
      scripts_are = u.scripts_are;
      book_is = u.book_is;
      tells_is = u.tells_is;
    }

-- Another number of shards.

abbrev is_same_number : ℕ → Yard → Bool
is_same_number n y = n == y.script.config.shards

reshard_is : (n : ℕ) (y : Yard) (w : World) → IsSeen y w → (is_any_up w || (n == w.set.config.shards)) ≡ (list_any is_some y.nodes || is_same_number n y)
reshard_is n y w s = ap (λ a. a || (n == w.set.config.shards)) (sym (any_up y w s)) ∙ ap (λ (set : Setting). list_any is_some y.nodes || (n == set.config.shards)) s.set_is

pub not_resharded : {E : Type 0} (n : ℕ) (y : Yard) (r : Result (Unit {0}) E) (before after : List Fact) → (list_any is_some y.nodes || is_same_number n y) ≡ true → OnOk r (after ≡ before ++ fact.Nothing ∷ []) → OnErr r (after ≡ before) → Plays 0 (world.play (order.Reshard n)) r y y before after
not_resharded n y r before after h ok err = plays_of 0 0 (world.play (order.Reshard n)) r y y before after (omega arith) (step_told IsBacked 0 (world.play (order.Reshard n)) r y before after fact.Nothing ok err (λ w s.
    subst (Goes before (before ++ fact.Nothing ∷ []) y) (if_true (is_any_up w || (n == w.set.config.shards)) (world.nothing w) (resharded n w) (reshard_is n y w s.sound.seen_is ∙ h)) (record { seen_is = s.sound.seen_is; facts_are = refl })))

pub is_resharded : {E : Type 0} (n : ℕ) (y new : Yard) (r : Result (Unit {0}) E) (before after : List Fact) → (list_any is_some y.nodes || is_same_number n y) ≡ false → Plays 0 (resharded n) r y new before after → Plays 0 (world.play (order.Reshard n)) r y new before after
is_resharded n y new (Ok u) before after h s = record {
  script_is = s.script_is;
  counts = s.counts;
  goes = λ w k. subst (Goes before after new) (if_false (is_any_up w || (n == w.set.config.shards)) (world.nothing w) (resharded n w) (reshard_is n y w k.sound.seen_is ∙ h)) (s.goes w k);
}
is_resharded n y new (Err e) before after h s = record {
  script_is = s.script_is;
  told = λ w k. subst (λ (m : Made). ToldSome before after m.facts) (if_false (is_any_up w || (n == w.set.config.shards)) (world.nothing w) (resharded n w) (reshard_is n y w k.sound.seen_is ∙ h)) (s.told w k);
}

-- so nobody holds a slot
stopped : (y : Yard) (w : World) → IsSound y w → list_any is_some y.nodes ≡ false → IsStopped ⊥ y.script.config.nodes w.lists y w
stopped y w s h = stopped_all y w (firm_of y w s) (λ k less. down_at y w s.seen_is h k)

pub nobody_holds : (y : Yard) (w : World) → IsSound y w → list_any is_some y.nodes ≡ false → (t : Slot) → is_slot_of y.book.script t ≡ true → at y.book.holders (place_of y.book.script.config t) ≡ None
nobody_holds y w s h = none_leased y.book y w.lists w refl (stopped y w s h)

pub lists_are : (y : Yard) (w : World) → IsSound y w → list_any is_some y.nodes ≡ false → lists_at y.book.script.config y.book.places ≡ w.lists
lists_are y w s h = ap (λ (c : Script). lists_at c.config y.book.places) s.seen_is.book_is ∙ lists_home y.book y w.lists w refl (stopped y w s h)

-- The lists by slot.

number_at : (f : ℕ → List Fact) (a n i : ℕ) → i < n → slice_index_or (map f (numbers a n)) i [] ≡ f (a + i)
number_at f a zero i h = absurd (omega (arith, h))
number_at f a (suc n) zero h = let same : a ≡ a + 0 = omega arith in ap f same
number_at f a (suc n) (suc i) h = let same : (a + 1) + i ≡ a + suc i = omega arith in number_at f (a + 1) n i (omega (arith, h)) ∙ ap f same

pub entries_are : (c : Script) (b : Book) (s : Slot) → is_slot_of c s ≡ true → entries_at b.places (place_of c.config s) ≡ list_at (lists_at c.config b.places) s
entries_are c b (slot.Shard k) i = let same : 0 + k ≡ k = omega arith in sym (number_at (entries_at b.places) 0 c.config.shards k (below k c.config.shards i) ∙ ap (entries_at b.places) same)
entries_are c b slot.Coordinator i = refl
entries_are c b (slot.Queue p) i =
    let m : (nat_le 1 p ≡ true) × (nat_le p c.config.producers ≡ true) = and_both (nat_le 1 p) (nat_le p c.config.producers) i in
    let some : 1 ≤ p = at_most 1 p m.0 in
    let most : p ≤ c.config.producers = at_most p c.config.producers m.1 in
    let same : p ≡ 1 + (p - 1) = omega (arith, some) in
    ap (λ q. entries_at b.places (c.config.shards + q)) same ∙ sym (number_at (λ q. entries_at b.places (c.config.shards + q)) 1 c.config.producers (p - 1) (omega (arith, some, most)))

-- what a book in which nobody holds a slot tells
pub tells_free : (c : Script) (b : Book) (lists : SlotLists) (n : ℕ) → b.script ≡ c → b.holders ≡ replicate n None → lists_at c.config b.places ≡ lists → ((s : Slot) → is_slot_of c s ≡ true → holder (list_at lists s) ≡ None) → Tells (meaning_of b) c lists
tells_free c b lists n e none l free = λ s i.
    let its : is_slot_of b.script s ≡ true = ap (λ (x : Script). is_slot_of x s) e ∙ i in
    let nobody : at b.holders (place_of b.script.config s) ≡ None = ap (λ (hs : List (Option Incarnation)). at hs (place_of b.script.config s)) none ∙ get_replicate n (place_of b.script.config s) None in
    let told : IsTold (list_at lists s) (known_at b (place_of b.script.config s)) = record {
      holder_is = nobody ∙ sym (free s i);
      list_is = λ h. ap (λ (x : Script). entries_at b.places (place_of x.config s)) e ∙ (entries_are c b s i ∙ ap (λ x. list_at x s) l);
    } in
    subst (λ v. IsSomeAnd (if v then Some (known_at b (place_of b.script.config s)) else None) (IsTold (list_at lists s))) (sym its) told

-- Once the number is another.

-- the parts after it
pub record IsReshaped (n : ℕ) (y z : Yard) : Type 0 where
  pub script_is : z.script ≡ with_shards n y.script
  pub kind_is : z.force.kind ≡ y.force.kind
  pub version_kept : z.force.version ≡ y.force.version
  pub past_is : z.force.past ≡ length y.mail.packets
  pub nodes_are : z.nodes ≡ y.nodes
  pub members_are : z.members ≡ y.members
  pub version_is : z.version ≡ y.version
  pub ups_are : z.ups ≡ y.ups
  pub ordered_are : z.ordered ≡ y.ordered
  pub mail_is : z.mail ≡ y.mail
  pub book_is : z.book.script ≡ z.script
  pub holders_none : z.book.holders ≡ replicate (length z.book.places) None
  pub lists_are : lists_at z.script.config z.book.places ≡ reshaped (setting y.book.script) n (greatest_epoch (lists_at y.book.script.config y.book.places)) (lists_at y.book.script.config y.book.places)

reshaped_seen : Keeps → (n : ℕ) (y z : Yard) (w : World) → IsBacked y w → list_any is_some y.nodes ≡ false → is_in 1 128 n ≡ true → is_same_number n y ≡ false → IsReshaped n y z → IsSeen z (resharded n w).world
reshaped_seen keeps n y z w t quiet fits other r =
    let s : IsSound y w = t.sound in
    let u : IsSeen y w = s.seen_is in
    let v : World = (resharded n w).world in
    let here : lists_at y.book.script.config y.book.places ≡ w.lists = lists_are y w s quiet in
    let set : setting y.book.script ≡ w.set = ap setting u.book_is ∙ sym u.set_is in
    let lists : lists_at z.script.config z.book.places ≡ v.lists = r.lists_are ∙ (ap (λ x. reshaped x n (greatest_epoch (lists_at y.book.script.config y.book.places)) (lists_at y.book.script.config y.book.places)) set
    ∙ ap (λ l. reshaped w.set n (greatest_epoch l) l) here) in
    let down : (k : ℕ) → at w.nodes k ≡ None = down_at y w u quiet in
    let stands : Stands z.script v = subst (λ c. Stands c v) (sym r.script_is) (keeps.reshards y.script w n fits (sym (any_up y w u) ∙ quiet) (ap (λ (x : Setting). n == x.config.shards) u.set_is ∙ other) s.going_is s.stands_is t.may) in
    record {
      set_is = ap (λ (x : Setting). record { config = record x.config { shards = n }; names = x.names }) u.set_is ∙ ap setting (sym r.script_is);
      kind_is = r.kind_is ∙ (u.kind_is ∙ ap (λ (c : Script). c.config.kind) (sym r.script_is));
      behaviour_is = r.version_kept ∙ u.behaviour_is;
      past_is = r.past_is ∙ ap length u.wire_is;
      limit_is = u.limit_is;
      members_are = r.members_are ∙ u.members_are;
      version_is = r.version_is ∙ u.version_is;
      ups_are = r.ups_are ∙ u.ups_are;
      ordered_are = r.ordered_are ∙ u.ordered_are;
      ordered_there = ap length r.ordered_are ∙ (u.ordered_there ∙ ap (λ (c : Script). c.config.producers) (sym r.script_is));
      wire_is = ap (λ (m : Mails). m.packets) r.mail_is ∙ u.wire_is;
      fresh_is = ap (λ (m : Mails). m.fresh) r.mail_is ∙ u.fresh_is;
      full_is = ap (λ (m : Mails). m.full) r.mail_is ∙ u.full_is;
      told_all = ap (λ (m : Mails). m.items) r.mail_is ∙ u.told_all;
      nodes_are = ap (map state_in) r.nodes_are ∙ u.nodes_are;
      scripts_are = λ k. subst (λ o. IfSome o (λ (x : Standing). x.script ≡ z.script)) (sym (ap (λ ns. at ns k) r.nodes_are ∙ none_any y.nodes quiet k)) tt;
      book_is = r.book_is;
      tells_is = tells_free z.script z.book v.lists (length z.book.places) r.book_is r.holders_none lists (λ t i. none_holds z.script v t stands (λ k less. down k) i);
    }

-- the lists are the code's
pub relisted : (a : Book) (s c : Script) (n : ℕ) (lists : SlotLists) → c ≡ with_shards n s → lists ≡ reshaped (setting a.script) c.config.shards (greatest_epoch (lists_at a.script.config a.places)) (lists_at a.script.config a.places)
    → lists ≡ reshaped (setting a.script) n (greatest_epoch (lists_at a.script.config a.places)) (lists_at a.script.config a.places)
relisted a s c n lists e f = f ∙ ap (λ (c : Script). reshaped (setting a.script) c.config.shards (greatest_epoch (lists_at a.script.config a.places)) (lists_at a.script.config a.places)) e

pub played_as : (n : ℕ) (q : Step) (y old new : Yard) (before after : List Fact) → y ≡ old → IsPlayed n q y new before after → IsPlayed n q old new before after
played_as n q y old new before after e s = subst (λ o. IsPlayed n q o new before after) e s

pub reshaped_played : Keeps → (n epoch : ℕ) (y z : Yard) (before after : List Fact) → list_any is_some y.nodes ≡ false → is_in 1 128 n ≡ true → is_same_number n y ≡ false → epoch ≡ greatest_epoch (lists_at y.book.script.config y.book.places) → IsReshaped n y z
    → after ≡ before ++ fact.Reshard n epoch ∷ [] → IsPlayed 0 (resharded n) y z before after
reshaped_played keeps n epoch y z before after quiet fits other e r told = record {
  script_is = r.script_is ∙ ap (λ (c : Script). with_shards c.config.shards y.script) (sym r.script_is);
  counts = counts_same y z 0 r.version_is r.ups_are;
  goes = λ w s. record {
    seen_is = reshaped_seen keeps n y z w s quiet fits other r;
    facts_are = told ∙ ap (λ k. before ++ fact.Reshard n k ∷ []) (e ∙ ap greatest_epoch (lists_are y w s.sound quiet));
  };
}
