-- From what threads leave to the text of `live`.
use Rattle.std.proofs.Common.{◌≡◌, ◌≤◌, ℕ, sym, ap, ◌∙◌, refl, subst, length, arith}
use Rattle.std.specs.Prelude.{true, false, nat_le, ◌++◌, is_some, Option, Some, None}
use Rattle.std.specs.List.{list_all}
use Rattle.plain_laws.proofs.Booleans.{and_both, at_most, all_map}
use Rattle.yard_model.specs.declared.fact.Fact.{Fact}
use Rattle.yard_model.specs.declared.fact.Fact.TheVariants as fact
use Rattle.yard_model.specs.declared.incarnation.Incarnation.{Incarnation}
use Rattle.yard_model.specs.declared.incarnation.Slot.{Slot}
use Rattle.yard_model.specs.declared.incarnation.Slot.TheVariants as slot
use Rattle.yard_model.specs.Genuine.{is_slot_of}
use Rattle.yard_model.specs.Lawful.{own}
use Rattle.yard_model.specs.Script.{Script, IsScript, setting, is_version}
use Rattle.yard_model.specs.SlotLists.{SlotLists, queue_list}
use Rattle.yard_model.specs.SlotReads.{holder}
use Rattle.yard_model.specs.Text.{Bytes, report}
use Rattle.yard_model.specs.Trace.{list_at}
use Rattle.yard_model.specs.World.{given_world, wire_limit}
use Rattle.yard_laws.specs.Guarded.{Owns}
use Rattle.yard_laws.proofs.SafetyLaws.{owns_of}
use Rattle.shard_lease.specs.Meaning.{Begins}
use Rattle.shard_store.specs.Stores.{Shelves, entries_at, lists_at, place_of, slot_at}
use Rattle.shard_store.proofs.PlaceLaws.{place_within}
use Rattle.lease_table.specs.Fits.{admits, is_fit, is_within}
use Rattle.live_laws.specs.Live.{WorkedGoesOn}
use Rattle.live_laws.proofs.Closed.{list_there}
use Rattle.node_runner.specs.Ran.{IsRun}
use Rattle.readable_lists.specs.Readable.{AreReadable}
use Rattle.settle_laws.specs.Lonely.{IsLonger}
use Rattle.settle_laws.specs.Settles.{most_deliveries}
use Rattle.trace_text.specs.Foldable.{is_foldable_in_all}
use Rattle.trace_text.specs.Slots.{slots_text}
use Rattle.world_sim.specs.Given.{IsGiven, is_numbered}
use Rattle.world_sim.specs.Played.{AreSettled}
use Rattle.live_run.specs.LiveText.{AreLive, LiveText}
use Rattle.foldable_laws.proofs.Foldable.{Rules, lists_fold}

-- What threads leave may be settled.

none_holds : (o : Option Incarnation) → is_some o ≡ false → o ≡ None
none_holds None e = refl
none_holds (Some x) e = cc

fit_is_numbered : (c : Script) (s : Slot) (f : Fact) → is_fit c s f ≡ true → is_numbered f ≡ true
fit_is_numbered c s (fact.Granted t n x) h = (and_both (admits c x.node s) (is_within x.number) h).1
fit_is_numbered c s (fact.Registered r) h = h
fit_is_numbered c s f h = refl

pub may_settle : (c : Script) (version turns : ℕ) (s : Shelves) → is_version c version ≡ true → most_deliveries (given_world c version (lists_at c.config s.places)) ≤ wire_limit → IsRun c turns s → IsGiven c version (lists_at c.config s.places)
may_settle c version turns s admitted fits run = record {
  admitted = admitted;
  fits = fits;
  lawful_is = run.lawful;
  unheld = λ t h. ap holder (list_there c s.places t h) ∙ none_holds (holder (entries_at s.places (place_of c.config t))) (run.free (place_of c.config t) (place_within c t h));
  numbered = λ t h.
      let k : ℕ = place_of c.config t in
      subst (λ l. list_all is_numbered l ≡ true) (sym (list_there c s.places t h))
      (all_map (is_fit c (slot_at c.config k)) is_numbered (fit_is_numbered c (slot_at c.config k)) (entries_at s.places k) (run.fits k (place_within c t h)).fit);
}

-- What it is settled to.

goes_on : (old new : SlotLists) (p : ℕ) → IsLonger old new → Begins (queue_list old p) (queue_list new p)
goes_on old new p longer = record { rest = (longer.queues p).0; is = (longer.queues p).1 }

pub are_live : (c : Script) (turns : ℕ) (s : Shelves) (lists : SlotLists) → WorkedGoesOn → IsRun c turns s → AreSettled c (lists_at c.config s.places) lists → AreLive c turns lists
are_live c turns s lists law run end = record {
  lawful_is = end.lawful_is;
  settled_is = end.settled_is;
  worked_is = law c turns (lists_at c.config s.places) lists end.lawful_is (λ p. goes_on (lists_at c.config s.places) lists p end.longer) run.worked;
}

-- Its text.

each_own : (c : Script) (lists : SlotLists) → Owns c lists → (s : Slot) → is_slot_of c s ≡ true → own c s (list_at lists s) ≡ true
each_own c lists o (slot.Shard k) h = o.shard k
each_own c lists o slot.Coordinator h = o.coordinator
each_own c lists o (slot.Queue p) h =
    let low : 1 ≤ p = at_most 1 p (and_both (nat_le 1 p) (nat_le p c.config.producers) h).0 in
    o.queue p (omega arith)

-- each journal in them leads to a state
pub live_folds : (c : Script) (turns : ℕ) (s : Shelves) → s.script ≡ c → Rules → IsScript c → AreLive c turns (lists_at c.config s.places) → is_foldable_in_all (setting c) (lists_at s.script.config s.places) ≡ true
live_folds c turns s is rules ok live =
    let lists : SlotLists = lists_at c.config s.places in
    subst (λ (d : Script). is_foldable_in_all (setting c) (lists_at d.config s.places) ≡ true) (sym is) (lists_fold c lists rules ok (each_own c lists (owns_of c lists live.lawful_is).0))

pub live_text : (c : Script) (turns : ℕ) (s : Shelves) (text : Bytes) → s.script ≡ c → AreLive c turns (lists_at c.config s.places) → text ≡ report (setting c) (lists_at s.script.config s.places)
    → AreReadable c (lists_at s.script.config s.places) → LiveText c turns (slots_text (setting c) (lists_at s.script.config s.places) ++ text)
live_text c turns s text is live end readable =
    let lists : SlotLists = lists_at s.script.config s.places in
    let there : AreLive c turns lists = subst (λ (d : Script). AreLive c turns (lists_at d.config s.places)) (sym is) live in
    record {
      lists = lists;
      are_live = there;
      readable = readable;
      text_is = ap (λ x. slots_text (setting c) lists ++ x) end;
    }
