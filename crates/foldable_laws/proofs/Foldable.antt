-- In a lawful list each journal leads to a state.
use Rattle.std.proofs.Common.{◌≡◌, ℕ, zero, suc, ◌+◌, ◌-◌, ◌≤◌, arith, sym, ap, ◌∙◌, refl, subst}
use Rattle.std.specs.Prelude.{Bool, true, false, ◌==◌, ◌&&◌, ◌||◌, nat_lt, ◌↔◌, List, [], ◌∷◌, ◌++◌, length, map, fold, Option, Some, None, if◌then◌else◌, IsTrue}
use Rattle.std.specs.List.{list_all, list_any, slice_get}
use Rattle.std.specs.Option.{option_map_or}
use Rattle.std.proofs.lemmas.List.Sums.{fold-append}
use Rattle.std.proofs.lemmas.List.Folds.{list_all-append}
use Rattle.yard_model.specs.declared.charter.Line.{Line}
use Rattle.yard_model.specs.declared.charter.Order.{Order}
use Rattle.yard_model.specs.declared.charter.Order.TheVariants as order
use Rattle.yard_model.specs.declared.charter.Sending.{Sending}
use Rattle.yard_model.specs.declared.event.Command.{Command}
use Rattle.yard_model.specs.declared.event.Decision.{Decision}
use Rattle.yard_model.specs.declared.event.Kind.{Kind}
use Rattle.yard_model.specs.declared.fact.Fact.{Fact}
use Rattle.yard_model.specs.declared.fact.Fact.TheVariants as fact
use Rattle.yard_model.specs.declared.incarnation.Slot.{Slot}
use Rattle.yard_model.specs.declared.incarnation.Slot.TheVariants as slot
use Rattle.yard_model.specs.declared.packet.Record.{Record}
use Rattle.yard_model.specs.declared.state.State.{State}
use Rattle.yard_model.specs.Behaviour.{decide, folded, after_record, empty_state, are_applicable, is_of_kind, is_in}
use Rattle.yard_model.specs.Equal.{is_command, is_decision}
use Rattle.yard_model.specs.Genuine.{is_planned, is_producer, is_slot_of}
use Rattle.yard_model.specs.Lawful.{own, is_shard_entry, is_of_shard, is_decided, is_folded_after, is_merged_after}
use Rattle.yard_model.specs.Opening.{begins}
use Rattle.yard_model.specs.Script.{Script, IsScript, setting, sends, with_send, with_send_of, with_order, plan, is_name, is_order, versions}
use Rattle.yard_model.specs.Setting.{names_of}
use Rattle.yard_model.specs.Trace.{list_at}
use Rattle.yard_model.specs.Words.{numbers}
use Rattle.yard_model.specs.SlotLists.{SlotLists, shard_list}
use Rattle.yard_model.specs.SlotReads.{journal, journal_step, position}
use Rattle.trace_text.specs.Foldable.{are_foldable, is_foldable, is_foldable_shard, is_foldable_in_all}
use Rattle.yard_laws.proofs.Owned.{shard_to}
use Rattle.plain_laws.proofs.Booleans.{true_is_not_false, and_both, both, same_name, is_below, all_of, all_filter}
use Rattle.plain_laws.proofs.Lists.{all_got}
use Rattle.std.proofs.Math.Bool.{and-true, and_assoc}

-- one record more
pub foldable_more : (st : State) (rs : List Record) (r : Record) → are_foldable st (rs ++ r ∷ []) ≡ (are_foldable st rs && are_applicable (fold after_record st rs) r.events)
foldable_more st [] r = and-true (are_applicable st r.events)
foldable_more st (x ∷ xs) r =
    ap (λ b. are_applicable st x.events && b) (foldable_more (after_record st x) xs r)
    ∙ sym (and_assoc (are_applicable st x.events) (are_foldable (after_record st x) xs) (are_applicable (fold after_record (after_record st x) xs) r.events))

-- what the definitions decide, and what their tests say
pub record Rules : Type 0 where
  pub commands : (a b : Command) → IsTrue (is_command a b) ↔ (a ≡ b)
  pub decisions : (a b : Decision) → IsTrue (is_decision a b) ↔ (a ≡ b)
  pub applies : (v : ℕ) (k : Kind) (st : State) (x : Command) → IsTrue (is_of_kind k x) → IsTrue (are_applicable st (decide v st x).events)

-- A planned command is of the script's kind.

abbrev of_kind : Kind → Sending → Bool
of_kind k x = is_of_kind k x.command

sends_by : (c : Script) (p : ℕ) (so_far : List Sending) (o : Order) → list_all (of_kind c.config.kind) so_far ≡ true → is_order c.config o ≡ true
    → list_all (of_kind c.config.kind) (with_order p so_far o) ≡ true
sends_by c p so_far (order.Send q e k) all own = elim (q == p) as (λ v. list_all (of_kind c.config.kind) (if v then with_send so_far e k else so_far) ≡ true) [
  | true ↦
      let it : is_of_kind c.config.kind k ≡ true = (and_both (is_in 1 c.config.producers q) (is_of_kind c.config.kind k) own).1 in
      list_all-append (of_kind c.config.kind) so_far _ ∙ both (list_all (of_kind c.config.kind) so_far) _ all (both (is_of_kind c.config.kind k) true it refl)
  | false ↦ all
]
sends_by c p so_far o all own = all

sends_of_kind : (c : Script) (p : ℕ) (so_far : List Sending) (ls : List Line) → list_all (of_kind c.config.kind) so_far ≡ true → list_all (λ (l : Line). is_order c.config l.order) ls ≡ true
    → list_all (of_kind c.config.kind) (fold (with_send_of p) so_far ls) ≡ true
sends_of_kind c p so_far [] all own = all
sends_of_kind c p so_far (l ∷ ls) all own =
    let parts : (is_order c.config l.order ≡ true) × (list_all (λ (x : Line). is_order c.config x.order) ls ≡ true) = and_both (is_order c.config l.order) (list_all (λ (x : Line). is_order c.config x.order) ls) own in
    sends_of_kind c p (with_order p so_far l.order) ls (sends_by c p so_far l.order all parts.0) parts.1

commands_of_kind : (k : Kind) (xs : List Sending) → list_all (of_kind k) xs ≡ true → list_all (is_of_kind k) (map (λ (x : Sending). x.command) xs) ≡ true
commands_of_kind k [] all = refl
commands_of_kind k (x ∷ xs) all =
    let parts : (is_of_kind k x.command ≡ true) × (list_all (of_kind k) xs ≡ true) = and_both (is_of_kind k x.command) (list_all (of_kind k) xs) all in
    both (is_of_kind k x.command) _ parts.0 (commands_of_kind k xs parts.1)

plan_of_kind : (c : Script) (p : ℕ) (e : List ℕ) → IsScript c → list_all (is_of_kind c.config.kind) (plan c p e) ≡ true
plan_of_kind c p e ok = commands_of_kind c.config.kind _ (all_filter (of_kind c.config.kind) (λ (x : Sending). is_name x.entity e) (sends c p) (sends_of_kind c p [] c.orders refl ok.orders))

planned_of_kind : (c : Script) (p : ℕ) (e : List ℕ) (n : ℕ) (k : Command) → Rules → IsScript c → is_planned c p e n k ≡ true → is_of_kind c.config.kind k ≡ true
planned_of_kind c p e n k rules ok planned = at (slice_get (plan c p e) (n - 1)) refl (and_both (nat_lt 0 n) _ planned).1
  where
    at : (o : Option Command) → slice_get (plan c p e) (n - 1) ≡ o → option_map_or (is_command k) o false ≡ true → is_of_kind c.config.kind k ≡ true
    at None is found = absurd (true_is_not_false (sym found))
    at (Some x) is found =
        let same : k ≡ x = (rules.commands k x).0 found in
        ap (is_of_kind c.config.kind) same ∙ all_got (is_of_kind c.config.kind) (plan c p e) (n - 1) x (plan_of_kind c p e ok) is

-- A record that is folded and merged after these.

some_in : {A : Type 0} (p : A → Bool) (xs : List A) → list_any p xs ≡ true → (x : A) × (p x ≡ true)
some_in p [] h = absurd (true_is_not_false (sym h))
some_in p (x ∷ xs) h = elim (p x) as (λ b. p x ≡ b → (b || list_any p xs) ≡ true → (y : _) × (p y ≡ true)) [
  | true ↦ λ t g. (x, t)
  | false ↦ λ t g. some_in p xs g
] refl h

record_applies : (c : Script) (e : List ℕ) (before : List Record) (r : Record) → Rules → IsScript c → is_folded_after c before r ≡ true → is_merged_after c e before r ≡ true
    → are_applicable (folded c.config.kind before) r.events ≡ true
record_applies c e before r rules ok folds merges =
    let st : State = folded c.config.kind before in
    let some : (v : ℕ) × (is_decided v c before r ≡ true) = some_in (λ v. is_decided v c before r) (versions c) (and_both (r.number == length before + 1) _ folds).1 in
    let decided : decide some.0 st r.command ≡ record { events = r.events; reply = r.reply } = (rules.decisions (decide some.0 st r.command) (record { events = r.events; reply = r.reply })).0 some.1 in
    let own : is_of_kind c.config.kind r.command ≡ true = planned_of_kind c r.producer e r.place r.command rules ok (and_both (r.place == position r.producer before + 1) _ merges).1 in
    ap (λ (d : Decision). are_applicable st d.events) (sym decided) ∙ rules.applies some.0 c.config.kind st r.command own

-- A lawful list.

abbrev folds : Script → List ℕ → List Fact → Type 0
folds c e list = are_foldable (empty_state c.config.kind) (journal e list) ≡ true

journal_next : (e : List ℕ) (list : List Fact) (f : Fact) → journal e (list ++ f ∷ []) ≡ journal_step e (journal e list) f
journal_next e list f = fold-append (journal_step e) [] list (f ∷ [])

entry_folds : (c : Script) (s : ℕ) (e : List ℕ) (list : List Fact) (f : Fact) → Rules → IsScript c → (begins f || is_shard_entry c s list f) ≡ true → folds c e list
    → are_foldable (empty_state c.config.kind) (journal_step e (journal e list) f) ≡ true
entry_folds c s e list (fact.Wrote x r) rules ok entry so_far = elim (is_name x e) as (λ v. is_name x e ≡ v → are_foldable (empty_state c.config.kind) (if v then journal e list ++ r ∷ [] else journal e list) ≡ true) [
  | true ↦ λ t.
      let same : x ≡ e = same_name x e t in
      let parts : (is_of_shard c s x && is_producer c r.producer && is_folded_after c (journal x list) r ≡ true) × (is_merged_after c x (journal x list) r ≡ true) =
      and_both (is_of_shard c s x && is_producer c r.producer && is_folded_after c (journal x list) r) (is_merged_after c x (journal x list) r) entry in
      let folded_is : is_folded_after c (journal x list) r ≡ true = (and_both (is_of_shard c s x && is_producer c r.producer) (is_folded_after c (journal x list) r) parts.0).1 in
      let applies : are_applicable (folded c.config.kind (journal x list)) r.events ≡ true = record_applies c x (journal x list) r rules ok folded_is parts.1 in
      foldable_more (empty_state c.config.kind) (journal e list) r
      ∙ both (are_foldable (empty_state c.config.kind) (journal e list)) _ so_far (subst (λ n. are_applicable (folded c.config.kind (journal n list)) r.events ≡ true) same applies)
  | false ↦ λ t. so_far
] refl
entry_folds c s e list f rules ok entry so_far = so_far

list_folds : (c : Script) (s : ℕ) (e : List ℕ) (list : List Fact) → Rules → IsScript c → own c (slot.Shard s) list ≡ true → folds c e list
list_folds c s e list rules ok o = shard_to c s (folds c e) refl (λ before f so_far entry. subst (λ l. are_foldable (empty_state c.config.kind) l ≡ true) (sym (journal_next e before f)) (entry_folds c s e before f rules ok entry so_far)) list o

-- All lists.

shards_fold : (c : Script) (lists : SlotLists) → Rules → IsScript c → ((s : Slot) → is_slot_of c s ≡ true → own c s (list_at lists s) ≡ true) → (a n : ℕ) → a + n ≤ c.config.shards
    → list_all (is_foldable_shard (setting c) lists) (numbers a n) ≡ true
shards_fold c lists rules ok each a zero less = refl
shards_fold c lists rules ok each a (suc n) less =
    let here : own c (slot.Shard a) (shard_list lists a) ≡ true = each (slot.Shard a) (is_below a c.config.shards (omega (arith, less))) in
    both (is_foldable_shard (setting c) lists a) (list_all (is_foldable_shard (setting c) lists) (numbers (a + 1) n))
    (all_of (is_foldable c.config.kind (shard_list lists a)) (λ e. list_folds c a e (shard_list lists a) rules ok here) (names_of (setting c) a))
    (shards_fold c lists rules ok each (a + 1) n (omega (arith, less)))

-- where each list is lawful by itself, each journal leads to a state
pub lists_fold : (c : Script) (lists : SlotLists) → Rules → IsScript c → ((s : Slot) → is_slot_of c s ≡ true → own c s (list_at lists s) ≡ true) → is_foldable_in_all (setting c) lists ≡ true
lists_fold c lists rules ok each = shards_fold c lists rules ok each 0 c.config.shards (omega arith)
