-- What is shown of lawful lists.
use Rattle.std.proofs.Common.{◌≡◌, ◌<◌, ◌≤◌, ℕ, zero, suc, ◌+◌, ◌%◌, List, [], ◌∷◌, ◌++◌, length, map, refl, sym, ◌∙◌, ap, subst, arith}
use Rattle.std.specs.Prelude.{Bool, true, false, Option, Result, Ok, Err, OnOk, ◌==◌, ◌&&◌, ◌||◌, cond, filter, nat_le, if◌then◌else◌, codes, decimal}
use Rattle.std.specs.List.{list_all, list_any}
use Rattle.plain_laws.proofs.Booleans.{and_both, at_most, number_itself, other_number, same_name, same_number, true_is_not_false}
use Rattle.plain_laws.proofs.Read.{journal_more}
use Rattle.yard_model.specs.declared.charter.Config.{Config}
use Rattle.yard_model.specs.declared.entry.ShardEntry.{ShardEntry}
use Rattle.yard_model.specs.declared.fact.Fact.{Fact}
use Rattle.yard_model.specs.declared.fact.Fact.TheVariants as fact
use Rattle.yard_model.specs.declared.incarnation.Slot.{Slot}
use Rattle.yard_model.specs.declared.incarnation.Slot.TheVariants as slot
use Rattle.yard_model.specs.declared.state.State.{State}
use Rattle.yard_model.specs.Behaviour.{empty_state, folded, is_in}
use Rattle.yard_model.specs.Entry.{shard_fact}
use Rattle.yard_model.specs.Genuine.{is_brought, is_producer, is_slot_of}
use Rattle.yard_model.specs.Lawful.{is_folded_after, is_merged_after, is_of_shard, is_shard_entry, lawful, own}
use Rattle.yard_model.specs.Opening.{begins}
use Rattle.yard_model.specs.Script.{Script, IsScript, is_config, is_name, setting}
use Rattle.yard_model.specs.Setting.{shard_of}
use Rattle.yard_model.specs.Shard.{absolute, java_hash, shard}
use Rattle.yard_model.specs.SlotLists.{SlotLists, shard_list}
use Rattle.yard_model.specs.SlotReads.{journal, journal_step}
use Rattle.yard_model.specs.Text.{Bytes, line, state_text}
use Rattle.yard_model.specs.Trace.{list_at}
use Rattle.yard_model.specs.Words.{numbers}
use Rattle.yard_laws.specs.Guarded.{Owns}
use Rattle.yard_laws.proofs.Owned.{shard_to}
use Rattle.yard_laws.proofs.SafetyLaws.{owns_of}
use Rattle.trace_text.specs.Grown.{Appends}
use Rattle.trace_text.specs.Foldable.{are_foldable, is_foldable, is_foldable_in_all, is_foldable_shard}
use Rattle.foldable_laws.proofs.Foldable.{Rules, lists_fold}
use Rattle.shard_store.specs.Stores.{Shelves, lists_at}
use Rattle.shard_store.specs.declared.store.Store.{Store}
use Rattle.serve_laws.specs.Served.{entity_words}
use Rattle.serve_answers.specs.Records.{records_in}
use Rattle.serve_answers.proofs.RecordLaws.{journal_is}

-- Each journal leads to a state.

each_own : (c : Script) (lists : SlotLists) → Owns c lists → (s : Slot) → is_slot_of c s ≡ true → own c s (list_at lists s) ≡ true
each_own c lists o (slot.Shard k) h = o.shard k
each_own c lists o slot.Coordinator h = o.coordinator
each_own c lists o (slot.Queue p) h =
    let low : 1 ≤ p = at_most 1 p (and_both (nat_le 1 p) (nat_le p c.config.producers) h).0 in
    o.queue p (omega arith)

folds_all : (c : Script) (lists : SlotLists) → Rules → IsScript c → lawful c lists ≡ true → is_foldable_in_all (setting c) lists ≡ true
folds_all c lists rules ok law = lists_fold c lists rules ok (each_own c lists (owns_of c lists law).0)

-- in stores of the script
pub lawful_folds : (c : Script) (s : Shelves) → s.script ≡ c → Rules → IsScript c → lawful c (lists_at c.config s.places) ≡ true → is_foldable_in_all (setting c) (lists_at s.script.config s.places) ≡ true
lawful_folds c s is rules ok law =
    subst (λ (d : Script). is_foldable_in_all (setting c) (lists_at d.config s.places) ≡ true) (sym is) (folds_all c (lists_at c.config s.places) rules ok law)

of_number : (p : ℕ → Bool) (a n k : ℕ) → list_all p (numbers a n) ≡ true → a ≤ k → k < a + n → p k ≡ true
of_number p a zero k h low high = absurd (omega arith)
of_number p a (suc n) k h low high =
    let m : (p a ≡ true) × (list_all p (numbers (a + 1) n) ≡ true) = and_both (p a) (list_all p (numbers (a + 1) n)) h in
    pick m.0 (k == a) refl (λ e. let other : k ≡ a → ⊥ = other_number k a e in of_number p (a + 1) n k m.1 (omega arith) (omega arith))
  where
    pick : p a ≡ true → (b : Bool) → (k == a) ≡ b → ((k == a) ≡ false → p k ≡ true) → p k ≡ true
    pick h true e rest = ap p (same_number k a e) ∙ h
    pick h false e rest = rest e

of_name : (p pick : List ℕ → Bool) (e : List ℕ) (xs : List (List ℕ)) → list_all p (filter pick xs) ≡ true → list_any (is_name e) xs ≡ true → pick e ≡ true → p e ≡ true
of_name p pick e [] all among it = absurd (true_is_not_false (sym among))
of_name p pick e (x ∷ xs) all among it = by (is_name e x) refl among (λ h. of_name p pick e xs (rest (pick x) all) h it)
  where
    rest : (b : Bool) → list_all p (cond b (x ∷ filter pick xs) (filter pick xs)) ≡ true → list_all p (filter pick xs) ≡ true
    rest true h = (and_both (p x) (list_all p (filter pick xs)) h).1
    rest false h = h

    here : (b : Bool) → list_all p (cond b (x ∷ filter pick xs) (filter pick xs)) ≡ true → b ≡ true → p x ≡ true
    here true h t = (and_both (p x) (list_all p (filter pick xs)) h).0
    here false h t = absurd (true_is_not_false (sym t))

    by : (b : Bool) → is_name e x ≡ b → (b || list_any (is_name e) xs) ≡ true → (list_any (is_name e) xs ≡ true → p e ≡ true) → p e ≡ true
    by true t h others = let same : e ≡ x = same_name e x t in ap p same ∙ here (pick x) all (ap pick (sym same) ∙ it)
    by false t h others = others h

-- a name that isn't brought has no journal
none_brought : (c : Script) (s : ℕ) (e : List ℕ) (list : List Fact) → is_brought c e ≡ false → own c (slot.Shard s) list ≡ true → journal e list ≡ []
none_brought c s e list none o = shard_to c s (λ l. journal e l ≡ []) refl (λ l f h may. journal_more e l f ∙ step l f h may) list o
  where
    step : (l : List Fact) (f : Fact) → journal e l ≡ [] → (begins f || is_shard_entry c s l f) ≡ true → journal_step e (journal e l) f ≡ []
    step l (fact.Wrote x r) h may = by (is_name x e) refl
      where
        brought : is_brought c x ≡ true
        brought =
            let a = and_both (is_of_shard c s x && is_producer c r.producer && is_folded_after c (journal x l) r) (is_merged_after c x (journal x l) r) may in
            let b = and_both (is_of_shard c s x && is_producer c r.producer) (is_folded_after c (journal x l) r) a.0 in
            let d = and_both (is_of_shard c s x) (is_producer c r.producer) b.0 in
            (and_both (is_brought c x) (shard_of (setting c) x == s) d.0).0

        by : (b : Bool) → is_name x e ≡ b → (if b then journal e l ++ r ∷ [] else journal e l) ≡ []
        by true t = absurd (true_is_not_false (sym (subst (λ y. is_brought c y ≡ true) (same_name x e t) brought) ∙ none))
        by false t = h
    step l f h may = h

below_itself : (h n : ℕ) → 0 < n → h % n < n
below_itself h n above = omega arith

-- of any name
folds_at : (c : Script) (lists : SlotLists) (e : List ℕ) → Rules → IsScript c → 0 < c.config.shards → lawful c lists ≡ true → are_foldable (empty_state c.config.kind) (journal e (shard_list lists (shard_of (setting c) e))) ≡ true
folds_at c lists e rules ok some law = by (is_brought c e) refl
  where
    place : ℕ
    place = shard_of (setting c) e

    within : place < 0 + c.config.shards
    within = let less : place < c.config.shards = below_itself (absolute (java_hash e)) c.config.shards some in omega arith

    by : (b : Bool) → is_brought c e ≡ b → are_foldable (empty_state c.config.kind) (journal e (shard_list lists place)) ≡ true
    by true t = of_name (is_foldable c.config.kind (shard_list lists place)) (λ n. shard_of (setting c) n == place) e (setting c).names
        (of_number (is_foldable_shard (setting c) lists) 0 c.config.shards place (folds_all c lists rules ok law) (omega arith) within) t (number_itself place place refl)
    by false t = ap (are_foldable (empty_state c.config.kind)) (none_brought c place e (shard_list lists place) t ((owns_of c lists law).0.shard place))

-- There is a shard.

is_in_above : (a b n : ℕ) → is_in a b n ≡ true → a ≤ n
is_in_above a b n e = at_most a n (and_both (nat_le a n) (nat_le n b) e).0

shards_of : (c : Config) → is_config c ≡ true → 0 < c.shards
shards_of c e =
    let a : Bool = is_in 1 16 c.nodes in
    let b : Bool = is_in 1 128 c.shards in
    let d : Bool = is_in 1 32 c.producers in
    let f : Bool = is_in 1 1000 c.buffer in
    let h : Bool = is_in 1 64 c.window in
    let i : Bool = is_in 1 10000 c.snapshot in
    let j : Bool = is_in 1 10 c.keep in
    let six : (a && b && d && f && h && i) ≡ true = (and_both (a && b && d && f && h && i) j e).0 in
    let five : (a && b && d && f && h) ≡ true = (and_both (a && b && d && f && h) i six).0 in
    let four : (a && b && d && f) ≡ true = (and_both (a && b && d && f) h five).0 in
    let three : (a && b && d) ≡ true = (and_both (a && b && d) f four).0 in
    let one : 1 ≤ c.shards = is_in_above 1 128 c.shards (and_both a b (and_both (a && b) d three).0).1 in
    omega arith

pub some_shards : (c : Script) → IsScript c → 0 < c.config.shards
some_shards c ok = shards_of c.config ok.config

-- What a shard's store has is the list.

pub listed : (charter script : Script) (config : Config) (places : List (Option Store)) (s : ℕ) (e : List ℕ) (list : List ShardEntry) → script ≡ charter → config ≡ charter.config → s ≡ shard config.shards e
    → map (shard_fact s) list ≡ shard_list (lists_at script.config places) s → journal e (shard_list (lists_at charter.config places) (shard_of (setting charter) e)) ≡ records_in e list
listed charter script config places s e list script_is config_is s_is list_is =
    ap (λ (d : Script). journal e (shard_list (lists_at d.config places) (shard_of (setting charter) e))) (sym script_is)
    ∙ (ap (λ i. journal e (shard_list (lists_at script.config places) i)) (sym (s_is ∙ ap (λ (k : Config). shard k.shards e) config_is))
    ∙ (ap (journal e) (sym list_is) ∙ journal_is s e list))

pub shown_folds : (c : Script) (config : Config) (lists : SlotLists) (e : List ℕ) (list : List ShardEntry) → Rules → IsScript c → 0 < c.config.shards → lawful c lists ≡ true → config ≡ c.config
    → journal e (shard_list lists (shard_of (setting c) e)) ≡ records_in e list → are_foldable (empty_state config.kind) (records_in e list) ≡ true
shown_folds c config lists e list rules ok some law config_is same =
    subst (λ (k : Config). are_foldable (empty_state k.kind) (records_in e list) ≡ true) (sym config_is) (ap (are_foldable (empty_state c.config.kind)) (sym same) ∙ folds_at c lists e rules ok some law)

-- What is pushed.

pub appended : {A E : Type 0} (r : Result A E) (old new more : Bytes) → Appends r old new more → OnOk r (new ≡ old ++ more)
appended (Ok x) old new more h = h
appended (Err e) old new more h = tt

abbrev stated : ℕ → List ℕ → ℕ → State → Bytes
stated s e n st = line (codes "entity" ∷ e ∷ codes "shard" ∷ decimal s ∷ codes "records" ∷ decimal n ∷ codes "state" ∷ state_text st ∷ [])

-- the line of an entity
pub shown_line : (c : Script) (config : Config) (lists : SlotLists) (e : List ℕ) (list : List ShardEntry) (s n : ℕ) (st : State) → config ≡ c.config → s ≡ shard config.shards e
    → journal e (shard_list lists (shard_of (setting c) e)) ≡ records_in e list → n ≡ length (records_in e list) → st ≡ folded config.kind (records_in e list)
    → line (codes "entity" ∷ e ∷ codes "shard" ∷ decimal s ∷ codes "records" ∷ decimal n ∷ codes "state" ∷ state_text st ∷ []) ≡ line (entity_words c e (journal e (shard_list lists (shard_of (setting c) e))))
shown_line c config lists e list s n st config_is s_is same n_is st_is =
    ap (λ i. stated i e n st) (s_is ∙ ap (λ (k : Config). shard k.shards e) config_is)
    ∙ (ap (λ m. stated (shard_of (setting c) e) e m st) (n_is ∙ ap (λ l. length l) (sym same))
    ∙ ap (λ t. stated (shard_of (setting c) e) e (length (journal e (shard_list lists (shard_of (setting c) e)))) t)
    (st_is ∙ (ap (λ (k : Config). folded k.kind (records_in e list)) config_is ∙ ap (folded c.config.kind) (sym same))))
