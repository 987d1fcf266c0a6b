-- What a judge keeps after one fact more.
use Rattle.std.proofs.Common.{◌≡◌, ◌<◌, ℕ, ◌+◌, List, [], ◌∷◌, ◌++◌, length, sym, subst, ap, ap₂, ◌∙◌, refl, true, false, true≢false}
use Rattle.std.specs.Prelude.{Bool, ◌==◌, ◌&&◌, not, is_none, Option, Some, None, length, if◌then◌else◌}
use Rattle.std.proofs.lemmas.List.Sums.{fold-append}
use Rattle.yard_model.specs.declared.fact.Fact.{Fact}
use Rattle.yard_model.specs.declared.fact.Fact.TheVariants as fact
use Rattle.yard_model.specs.declared.incarnation.Slot.{Slot}
use Rattle.yard_model.specs.declared.incarnation.Slot.TheVariants as slot
use Rattle.yard_model.specs.declared.packet.Record.{Record}
use Rattle.yard_model.specs.Era.{upgrade_step, version_in}
use Rattle.yard_model.specs.Genuine.{is_brought, is_planned, is_producer, is_slot_of}
use Rattle.yard_model.specs.Guards.{own_guard}
use Rattle.yard_model.specs.Lawful.{is_coordinator_entry, is_decided, is_held, is_merged_after, is_queue_entry, is_shard_entry, may_follow}
use Rattle.yard_model.specs.Safe.{live_at, shard_list_of}
use Rattle.yard_model.specs.Script.{Script, setting}
use Rattle.yard_model.specs.Setting.{shard_of}
use Rattle.yard_model.specs.SlotLists.{SlotLists}
use Rattle.yard_model.specs.SlotReads.{epoch, journal, position}
use Rattle.yard_model.specs.Trace.{list_at, lists_of, lists_step, no_lists, slot_of}
use Rattle.yard_model.specs.Words.{is_empty}
use Rattle.yard_model.specs.declared.event.Command.{Command}
use Rattle.plain_laws.proofs.Booleans.{both, same_number}
use Rattle.plain_laws.proofs.Lists.{none_of}
use Rattle.yard_laws.proofs.Owns.{lists_more}
use Rattle.entry_slots.specs.Entered.{AllLists, Enters, may_enter}
use Rattle.judge_laws.specs.declared.breach.Breach.{Breach}
use Rattle.judge_laws.specs.declared.breach.Breach.TheVariants as breach
use Rattle.judge_laws.specs.Breached.{breach_of, coordinator_breach, entity_breach, slot_list, unless}
use Rattle.judge_laws.specs.Broken.{IsUnbroken}
use Rattle.judge_laws.specs.Judged.{crossed, judged}
use Rattle.judge_laws.proofs.BreachLaws.{breach_is_judged}
use Rattle.judge_laws.proofs.BrokenLaws.{unbroken_begins, unbroken_goes_on, unbroken_is_exact}
use Rattle.trace_judge.specs.declared.cells.Cell.{Cell}
use Rattle.trace_judge.specs.Judging.{AreCells, IsJudge, Judged, Passes, Sees, noted}
use Rattle.trace_judge.proofs.CellLaws.{cells_after}

pub judge_begins : (c : Script) (slots : AllLists) (cells : List Cell) → 0 < c.config.shards → slots ≡ record { script = c; lists = no_lists (setting c) } → AreCells c [] cells → IsJudge slots cells 1 []
judge_begins c slots cells some is k = subst (λ (s : AllLists). IsJudge s cells 1 []) (sym is) (record { shards = some; unbroken = unbroken_begins c; lists = refl; cells_are = k; version_is = refl })

-- the test of its own list
own_is : (c : Script) (trace : List Fact) (lists : SlotLists) (f : Fact) (o : Option Slot) → lists ≡ lists_of (setting c) trace → may_enter c lists f o ≡ own_guard c trace f o
own_is c trace lists f None is = refl
own_is c trace lists f (Some s) is = ap (λ l. is_slot_of c s && may_follow c s (list_at l s) f) is

-- what a fact that entered says of the trace
pub entered_is : (slots new : AllLists) (trace : List Fact) (f : Fact) (done : Bool) → slots.lists ≡ lists_of (setting slots.script) trace → Enters slots f done new → own_guard slots.script trace f (slot_of (setting slots.script) f) ≡ done
entered_is slots new trace f done is e = sym (e.answer ∙ own_is slots.script trace slots.lists f (slot_of (setting slots.script) f) is)

pub judge_more : (slots new : AllLists) (cells : List Cell) (version : ℕ) (trace : List Fact) (f : Fact) → IsJudge slots cells version trace → crossed slots.script trace f ≡ true → Enters slots f true new
    → IsJudge new (noted slots.script cells f) (upgrade_step version f) (trace ++ f ∷ [])
judge_more slots new cells version trace f j crosses e =
    let c : Script = slots.script in
    let passes : judged c trace f ≡ true = both (own_guard c trace f (slot_of (setting c) f)) (crossed c trace f) (entered_is slots new trace f true j.lists e) crosses in
    let none : breach_of c trace f ≡ None = none_of (breach_of c trace f) (breach_is_judged c trace f j.shards ∙ passes) in
    let after : new.lists ≡ lists_of (setting c) (trace ++ f ∷ []) = e.lists ∙ (ap (λ l. lists_step (setting c) l f) j.lists ∙ sym (lists_more c trace f)) in
    record {
      shards = subst (λ (d : Script). 0 < d.config.shards) (sym e.script) j.shards;
      unbroken = subst (λ (d : Script). IsUnbroken d (trace ++ f ∷ [])) (sym e.script) (unbroken_goes_on c trace f j.shards j.unbroken none);
      lists = after ∙ ap (λ (d : Script). lists_of (setting d) (trace ++ f ∷ [])) (sym e.script);
      cells_are = subst (λ (d : Script). AreCells d (trace ++ f ∷ []) (noted c cells f)) (sym e.script) (cells_after c trace cells f j.cells_are crosses);
      version_is = ap (λ v. upgrade_step v f) j.version_is ∙ sym (fold-append upgrade_step 1 trace (f ∷ []));
    }

-- What contracts see.

passes_more : (c : Script) (trace : List Fact) (f : Fact) → 0 < c.config.shards → judged c trace f ≡ true → true ≡ is_none (breach_of c trace f)
passes_more c trace f k h = sym (breach_is_judged c trace f k ∙ h)

pub passed : (slots new : AllLists) (cells : List Cell) (version : ℕ) (trace : List Fact) (f : Fact) → IsJudge slots cells version trace → crossed slots.script trace f ≡ true → Enters slots f true new
    → Passes (record { script = slots.script; trace = trace }) f true (record { script = new.script; trace = trace ++ f ∷ [] })
passed slots new cells version trace f j crosses e =
    let c : Script = slots.script in
    record {
      exact = unbroken_is_exact c trace f j.shards j.unbroken;
      answer = passes_more c trace f j.shards (both (own_guard c trace f (slot_of (setting c) f)) (crossed c trace f) (entered_is slots new trace f true j.lists e) crosses);
      script = e.script;
      trace = refl;
    }

-- where it fails, nothing changes
pub failed : (c : Script) (trace : List Fact) (f : Fact) → 0 < c.config.shards → IsUnbroken c trace → judged c trace f ≡ false → Passes (record { script = c; trace = trace }) f false (record { script = c; trace = trace })
failed c trace f k u h = record { answer = sym (breach_is_judged c trace f k ∙ h); exact = unbroken_is_exact c trace f k u; script = refl; trace = refl }

pub not_own : (slots new : AllLists) (trace : List Fact) (f : Fact) → slots.lists ≡ lists_of (setting slots.script) trace → Enters slots f false new → judged slots.script trace f ≡ false
not_own slots new trace f is e = ap (λ b. b && crossed slots.script trace f) (entered_is slots new trace f false is e)

no_test : (a : Bool) → (a && false) ≡ false
no_test true = refl
no_test false = refl

pub not_crossed : (c : Script) (trace : List Fact) (f : Fact) → crossed c trace f ≡ false → judged c trace f ≡ false
not_crossed c trace f h = ap (λ b. own_guard c trace f (slot_of (setting c) f) && b) h ∙ no_test (own_guard c trace f (slot_of (setting c) f))

-- its own list has something against it
pub judge_same : (slots new : AllLists) (cells : List Cell) (version : ℕ) (trace : List Fact) (f : Fact) → IsJudge slots cells version trace → Enters slots f false new → IsJudge new cells version trace
judge_same slots new cells version trace f j e = record {
  shards = subst (λ (d : Script). 0 < d.config.shards) (sym e.script) j.shards;
  unbroken = subst (λ (d : Script). IsUnbroken d trace) (sym e.script) j.unbroken;
  lists = e.lists ∙ (j.lists ∙ ap (λ (d : Script). lists_of (setting d) trace) (sym e.script));
  cells_are = subst (λ (d : Script). AreCells d trace cells) (sym e.script) j.cells_are;
  version_is = j.version_is;
}

pub refused : (slots new : AllLists) (cells : List Cell) (version : ℕ) (trace : List Fact) (f : Fact) → IsJudge slots cells version trace → Enters slots f false new
    → Passes (record { script = slots.script; trace = trace }) f false (record { script = new.script; trace = trace })
refused slots new cells version trace f j e =
    subst (λ (d : Script). Passes (record { script = slots.script; trace = trace }) f false (record { script = d; trace = trace })) (sym e.script)
    (failed slots.script trace f j.shards j.unbroken (not_own slots new trace f j.lists e))

-- The answer, once a fact has failed or passed.

pub sees_none : (old new : Judged) (f : Fact) → Passes old f true new → Sees old f None new
sees_none old new f p = record { answer = sym (none_of (breach_of old.script old.trace f) (sym p.answer)); exact = p.exact; script = p.script; trace = p.trace }

pub sees_some : (old new : Judged) (f : Fact) (b : Breach) → Passes old f false new → breach_of old.script old.trace f ≡ Some b → Sees old f (Some b) new
sees_some old new f b p is = record { answer = sym is; exact = p.exact; script = p.script; trace = p.trace }

-- and then it fails the test
pub fails_so : (old new : Judged) (f : Fact) → 0 < old.script.config.shards → Passes old f false new → judged new.script new.trace f ≡ false
fails_so old new f k p =
    ap₂ (λ (c : Script) t. judged c t f) p.script p.trace ∙ (sym (breach_is_judged old.script old.trace f k) ∙ sym p.answer)

pub breach_so : (old new : Judged) (f : Fact) (b : Breach) → Passes old f false new → breach_of new.script new.trace f ≡ Some b → breach_of old.script old.trace f ≡ Some b
breach_so old new f b p is = sym (ap₂ (λ (c : Script) t. breach_of c t f) p.script p.trace) ∙ is

-- The last test of a chain fails where one does.

pub last_fails : (a : Bool) (x : Breach) → is_none (unless a x None) ≡ false → unless a x None ≡ Some x
last_fails true x h = absurd (true≢false h)
last_fails false x h = refl

pub entry_fails : (h may : Bool) (b : Breach) → is_none (unless h breach.Unheld (unless may b None)) ≡ false → unless h breach.Unheld (unless may b None) ≡ Some (if h then b else breach.Unheld)
entry_fails true true b e = absurd (true≢false e)
entry_fails true false b e = refl
entry_fails false may b e = refl

pub named_fails : (a h may : Bool) (x b : Breach) → is_none (unless a x (unless h breach.Unheld (unless may b None))) ≡ false → unless a x (unless h breach.Unheld (unless may b None)) ≡ Some (if a then (if h then b else breach.Unheld) else x)
named_fails true h may x b e = entry_fails h may b e
named_fails false h may x b e = refl

-- the breach of a fact that isn't judged to pass
pub some_breach : (c : Script) (trace : List Fact) (f : Fact) → 0 < c.config.shards → judged c trace f ≡ false → is_none (breach_of c trace f) ≡ false
some_breach c trace f k h = breach_is_judged c trace f k ∙ h

-- The first test of a chain that fails, by what is known of those before it.

pub third_fails : (a b e : Bool) (x y z : Breach) (rest : Option Breach) → a ≡ true → b ≡ true → e ≡ false → unless a x (unless b y (unless e z rest)) ≡ Some z
third_fails a b e x y z rest p q r =
    ap (λ t. unless t x (unless b y (unless e z rest))) p ∙ (ap (λ t. unless t y (unless e z rest)) q ∙ ap (λ t. unless t z rest) r)

pub fourth_fails : (a b e d : Bool) (x y z w : Breach) → a ≡ true → b ≡ true → e ≡ true → is_none (unless a x (unless b y (unless e z (unless d w None)))) ≡ false → unless a x (unless b y (unless e z (unless d w None))) ≡ Some w
fourth_fails a b e d x y z w p q r k =
    let chain : unless a x (unless b y (unless e z (unless d w None))) ≡ unless d w None =
    ap (λ t. unless t x (unless b y (unless e z (unless d w None)))) p ∙ (ap (λ t. unless t y (unless e z (unless d w None))) q ∙ ap (λ t. unless t z (unless d w None)) r) in
    chain ∙ last_fails d w (sym (ap is_none chain) ∙ k)

pub no_number : (a b : ℕ) → (a ≡ b → ⊥) → (a == b) ≡ false
no_number a b h = by (a == b) refl
  where
    by : (t : Bool) → (a == b) ≡ t → t ≡ false
    by true e = absurd (h (same_number a b e))
    by false e = refl

-- a test behind others
behind : (a : Bool) (x : Breach) (rest : Option Breach) → is_none rest ≡ false → is_none (unless a x rest) ≡ false
behind true x rest h = h
behind false x rest h = refl

here_fails : (a : Bool) (x : Breach) (rest : Option Breach) → a ≡ false → is_none (unless a x rest) ≡ false
here_fails a x rest h = ap (λ t. is_none (unless t x rest)) h

-- what isn't its producer's command isn't its next one
not_merged : (p m q : Bool) → (p && m) ≡ false → (p && (q && m)) ≡ false
not_merged true true q h = absurd (true≢false h)
not_merged true false true h = refl
not_merged true false false h = refl
not_merged false m q h = refl

pub unplanned : (c : Script) (trace : List Fact) (e : List ℕ) (r : Record) → 0 < c.config.shards → (is_producer c r.producer && is_planned c r.producer e r.place r.command) ≡ false → judged c trace (fact.Wrote e r) ≡ false
unplanned c trace e r k h =
    let list : List Fact = shard_list_of c e trace in
    let before : List Record = journal e list in
    sym (breach_is_judged c trace (fact.Wrote e r) k)
    ∙ behind (is_brought c e) breach.NoName _
    (behind (is_held list) breach.Unheld _
    (behind (not (is_empty (live_at e trace))) breach.NotLive _
    (behind (r.epoch == epoch list) breach.OtherEpoch _
    (behind (r.number == length before + 1) breach.NotNextRecord _
    (here_fails (is_producer c r.producer && is_merged_after c e before r) breach.NotNextCommand _
    (not_merged (is_producer c r.producer) (is_planned c r.producer e r.place r.command) (r.place == position r.producer before + 1) h))))))

pub not_live : (c : Script) (trace : List Fact) (e : List ℕ) (r : Record) → is_empty (live_at e trace) ≡ true → judged c trace (fact.Wrote e r) ≡ false
not_live c trace e r h = not_crossed c trace (fact.Wrote e r) (ap (λ b. not b && is_decided (version_in trace) c (journal e (shard_list_of c e trace)) r) h)

-- By what the fact is.

pub coordinator_fails : (c : Script) (trace : List Fact) (f : Fact) (b : Breach) → 0 < c.config.shards → judged c trace f ≡ false → breach_of c trace f ≡ coordinator_breach c trace f b
    → breach_of c trace f ≡ Some (if is_held (lists_of (setting c) trace).coordinator then b else breach.Unheld)
coordinator_fails c trace f b k h is =
    is ∙ entry_fails (is_held (lists_of (setting c) trace).coordinator) (is_coordinator_entry c (lists_of (setting c) trace).coordinator f) b (sym (ap is_none is) ∙ some_breach c trace f k h)

pub entity_fails : (c : Script) (trace : List Fact) (e : List ℕ) (f : Fact) (b : Breach) → 0 < c.config.shards → judged c trace f ≡ false → breach_of c trace f ≡ entity_breach c trace e f b
    → breach_of c trace f ≡ Some (if is_brought c e then (if is_held (shard_list_of c e trace) then b else breach.Unheld) else breach.NoName)
entity_fails c trace e f b k h is =
    is ∙ named_fails (is_brought c e) (is_held (shard_list_of c e trace)) (is_shard_entry c (shard_of (setting c) e) (shard_list_of c e trace) f) breach.NoName b (sym (ap is_none is) ∙ some_breach c trace f k h)

pub queued_fails : (c : Script) (trace : List Fact) (p : ℕ) (e : List ℕ) (n : ℕ) (k : Command) → 0 < c.config.shards → judged c trace (fact.Queued p e n k) ≡ false
    → breach_of c trace (fact.Queued p e n k) ≡ Some (if is_producer c p then (if is_held (slot_list c trace (slot.Queue p)) then breach.OutOfOrder else breach.Unheld) else breach.NoProducer)
queued_fails c trace p e n k s h =
    named_fails (is_producer c p) (is_held (slot_list c trace (slot.Queue p))) (is_queue_entry c p (slot_list c trace (slot.Queue p)) (fact.Queued p e n k)) breach.NoProducer breach.OutOfOrder (some_breach c trace (fact.Queued p e n k) s h)

-- what is kept, after one fact more, as it is seen
pub judge_next : (slots new : AllLists) (cells cells_after : List Cell) (version version_after : ℕ) (trace trace_after : List Fact) (f : Fact) → IsJudge slots cells version trace → crossed slots.script trace f ≡ true → Enters slots f true new
    → cells_after ≡ noted new.script cells f → version_after ≡ upgrade_step version f → trace_after ≡ trace ++ f ∷ [] → IsJudge new cells_after version_after trace_after
judge_next slots new cells cells_after version version_after trace trace_after f j crosses e x y z =
    subst (λ t. IsJudge new cells_after version_after t) (sym z)
    (subst (λ n. IsJudge new cells_after n (trace ++ f ∷ [])) (sym y)
    (subst (λ l. IsJudge new l (upgrade_step version f) (trace ++ f ∷ [])) (sym (x ∙ ap (λ (c : Script). noted c cells f) e.script)) (judge_more slots new cells version trace f j crosses e)))

pub passed_next : (slots new : AllLists) (cells : List Cell) (version : ℕ) (trace trace_after : List Fact) (f : Fact) → IsJudge slots cells version trace → crossed slots.script trace f ≡ true → Enters slots f true new → trace_after ≡ trace ++ f ∷ []
    → Passes (record { script = slots.script; trace = trace }) f true (record { script = new.script; trace = trace_after })
passed_next slots new cells version trace trace_after f j crosses e z =
    subst (λ t. Passes (record { script = slots.script; trace = trace }) f true (record { script = new.script; trace = t })) (sym z) (passed slots new cells version trace f j crosses e)
