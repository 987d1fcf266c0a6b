-- The journals of `solo`: one induction over the orders of a script.
use Rattle.std.proofs.Common.{◌≡◌, ◌<◌, ◌≤◌, ℕ, ◌+◌, ◌-◌, sym, ap, ◌∙◌, refl, subst, arith, length-append}
use Rattle.std.specs.Prelude.{Bool, true, false, ◌==◌, ◌&&◌, ◌||◌, nat_lt, nat_le, cond, ◌↔◌, List, [], ◌∷◌, ◌++◌, length, map, filter, fold, slice_index_or, Option, Some, None, if◌then◌else◌, IsTrue}
use Rattle.std.specs.List.{list_all, list_any, slice_get}
use Rattle.std.specs.Option.{option_map_or}
use Rattle.std.proofs.lemmas.Bool.Decides.{Decides-eqb, nat_tests}
use Rattle.std.proofs.lemmas.List.{append-nil, append_assoc, map-append, length-map, length-set}
use Rattle.std.proofs.lemmas.List.Elements.{filter-append}
use Rattle.std.proofs.lemmas.List.Folds.{list_all-append}
use Rattle.std.proofs.Math.Bool.{and-true, and_assoc}
use Rattle.yard_model.specs.declared.charter.Line.{Line}
use Rattle.yard_model.specs.declared.charter.Order.{Order}
use Rattle.yard_model.specs.declared.charter.Order.TheVariants as order
use Rattle.yard_model.specs.declared.charter.Sending.{Sending}
use Rattle.yard_model.specs.declared.event.Command.{Command}
use Rattle.yard_model.specs.declared.event.Decision.{Decision}
use Rattle.yard_model.specs.declared.event.Kind.{Kind}
use Rattle.yard_model.specs.declared.fact.Fact.TheVariants as fact
use Rattle.yard_model.specs.declared.packet.Message.{Message}
use Rattle.yard_model.specs.declared.packet.Record.{Record}
use Rattle.yard_model.specs.declared.state.State.{State}
use Rattle.yard_model.specs.Behaviour.{decide, folded, after_record, empty_state, are_applicable, is_of_kind, is_in}
use Rattle.yard_model.specs.Equal.{is_command, is_decision}
use Rattle.yard_model.specs.Genuine.{is_planned}
use Rattle.yard_model.specs.Lawful.{is_decided, is_folded, is_folded_after, is_merged, is_merged_after}
use Rattle.yard_model.proofs.FollowLaws.{follows_more}
use Rattle.yard_model.specs.Script.{Script, IsScript, setting, sends, with_send_of, with_order, with_send, count_to, plan, is_name, is_order, is_config, is_upgrade, versions, names_in}
use Rattle.yard_model.specs.Shard.{shard, absolute, java_hash}
use Rattle.yard_model.specs.Words.{numbers}
use Rattle.std.proofs.Math.Nat.{mod-lt}
use Rattle.std.specs.Cmp.Lexicographic.{nat_list_eq_equiv}
use Rattle.yard_model.specs.SlotLists.{SlotLists, shard_list}
use Rattle.yard_model.specs.SlotReads.{journal, position}
use Rattle.yard_model.specs.Solo.{Solo, after_order, after_line, start, solo, count_of_pair, next_message, next_record, with_entry, with_delivered, with_delivery}
use Rattle.trace_text.specs.Foldable.{are_foldable, is_foldable, is_foldable_shard, is_foldable_in_all}
use Rattle.yard_model.specs.Setting.{shard_of}
use Rattle.foldable_laws.proofs.Foldable.{foldable_more}
use Rattle.solo_run.specs.Facts.{with_fact, held}
use Rattle.solo_run.specs.Sound.{IsSound, solo_journal}
use Rattle.solo_run.proofs.FactsLaws.{no_records}
use Rattle.solo_run.proofs.KnownLaws.{pair_more, journal_of_it, journal_of_another, all_at, and_both, same_name, numbers_length}

-- Settings in range.

is_in_above : (a b n : ℕ) → is_in a b n ≡ true → a ≤ n
is_in_above a b n e = let low : nat_le a n ≡ true = (and_both (nat_le a n) (nat_le n b) e).0 in grind (arith, nat_tests)

above : (c : Script) → is_config c.config ≡ true → 0 < c.config.shards
above c e =
    let a : Bool = is_in 1 16 c.config.nodes in
    let b : Bool = is_in 1 128 c.config.shards in
    let d : Bool = is_in 1 32 c.config.producers in
    let f : Bool = is_in 1 1000 c.config.buffer in
    let h : Bool = is_in 1 64 c.config.window in
    let i : Bool = is_in 1 10000 c.config.snapshot in
    let j : Bool = is_in 1 10 c.config.keep in
    let six : (a && b && d && f && h && i) ≡ true = (and_both (a && b && d && f && h && i) j e).0 in
    let five : (a && b && d && f && h) ≡ true = (and_both (a && b && d && f && h) i six).0 in
    let four : (a && b && d && f) ≡ true = (and_both (a && b && d && f) h five).0 in
    let three : (a && b && d) ≡ true = (and_both (a && b && d) f four).0 in
    let one : 1 ≤ c.config.shards = is_in_above 1 128 c.config.shards (and_both a b (and_both (a && b) d three).0).1 in
    omega arith

-- Lists in which each item may follow those before it.

both : (a b : Bool) → a ≡ true → b ≡ true → (a && b) ≡ true
both a b e f = ap (λ x. x && b) e ∙ f

shard_below : (c : Script) → IsScript c → (e : List ℕ) → shard c.config.shards e < c.config.shards
shard_below c ok e = mod-lt (absolute (java_hash e)) (above c ok.config)

-- One record more.

-- a script admits the first version
first_version : (c : Script) (p : ℕ → Bool) → p 1 ≡ true → list_any p (versions c) ≡ true
first_version c p h = elim (list_any (λ (l : Line). is_upgrade l.order) c.orders) as (λ b. list_any p (if b then 1 ∷ 2 ∷ [] else 1 ∷ []) ≡ true) [
  | true ↦ ap (λ b. b || (p 2 || false)) h
  | false ↦ ap (λ b. b || false) h
]

sound_more : (c : Script) (e : List ℕ) (records : List Record) (m : Message)
    → ((d : Decision) → is_decision d d ≡ true)
    → ((v : ℕ) (k : Kind) (st : State) (x : Command) → is_of_kind k x ≡ true → are_applicable st (decide v st x).events ≡ true)
    → IsSound c e records → (m.number == position m.producer records + 1) ≡ true → is_planned c m.producer e m.number m.command ≡ true → is_of_kind c.config.kind m.command ≡ true
    → IsSound c e (records ++ next_record c.config.kind records m ∷ [])
sound_more c e records m same apply_all s next planned own =
    let r : Record = next_record c.config.kind records m in
    record {
      folded_is = follows_more (is_folded_after c) [] records r ∙ both (is_folded c records) (is_folded_after c records r) s.folded_is (both (length records + 1 == length records + 1) _ ((Decides-eqb (length records + 1) (length records + 1)).1 refl) (first_version c (λ v. is_decided v c records r) (same (decide 1 (folded c.config.kind records) m.command))));
      merged_is = follows_more (is_merged_after c e) [] records r ∙ both (is_merged c e records) (is_merged_after c e records r) s.merged_is (both (m.number == position m.producer records + 1) (is_planned c m.producer e m.number m.command) next planned);
      foldable_is = foldable_more (empty_state c.config.kind) records r ∙ both (are_foldable (empty_state c.config.kind) records) _ s.foldable_is (apply_all 1 c.config.kind (folded c.config.kind records) m.command own);
    }

-- The sends of a producer, and its plans.

begins_with : (p : ℕ) (so_far : List Sending) (ls : List Line) → ((s : List Sending) → (more : List Sending) × (fold (with_send_of p) s ls ≡ s ++ more)) → (o : Order)
    → (more : List Sending) × (fold (with_send_of p) (with_order p so_far o) ls ≡ so_far ++ more)
begins_with p so_far ls rest (order.Send q e k) = elim (q == p) as (λ v. (more : List Sending) × (fold (with_send_of p) (if v then with_send so_far e k else so_far) ls ≡ so_far ++ more)) [
  | true ↦
      let it : List Sending = record { entity = e; number = count_to e so_far + 1; command = k } ∷ [] in
      let later : (more : List Sending) × (fold (with_send_of p) (so_far ++ it) ls ≡ (so_far ++ it) ++ more) = rest (so_far ++ it) in
      (it ++ later.0, later.1 ∙ append_assoc so_far it later.0)
  | false ↦ rest so_far
]
begins_with p so_far ls rest o = rest so_far

-- the sends so far are the first of all
sends_begin : (p : ℕ) (so_far : List Sending) (lines : List Line) → (more : List Sending) × (fold (with_send_of p) so_far lines ≡ so_far ++ more)
sends_begin p so_far [] = ([], sym (append-nil so_far))
sends_begin p so_far (l ∷ ls) = begins_with p so_far ls (λ s. sends_begin p s ls) l.order

count_more : (e : List ℕ) (so_far : List Sending) (x : Sending) → count_to e (so_far ++ x ∷ []) ≡ count_to e so_far + (if is_name x.entity e then 1 else 0)
count_more e so_far x =
    ap length (filter-append (λ (y : Sending). is_name y.entity e) so_far (x ∷ [])) ∙ (length-append (filter (λ (y : Sending). is_name y.entity e) so_far) (filter (λ (y : Sending). is_name y.entity e) (x ∷ [])) ∙ ap (λ n. count_to e so_far + n) (one (is_name x.entity e)))
  where
    one : (b : Bool) → length (cond b (x ∷ []) []) ≡ (if b then 1 else 0)
    one true = refl
    one false = refl

get_after : (xs : List Command) (k : Command) (ys : List Command) → slice_get (xs ++ k ∷ ys) (length xs) ≡ Some k
get_after [] k ys = refl
get_after (x ∷ xs) k ys = get_after xs k ys

abbrev commands_to : List ℕ → List Sending → List Command
commands_to e xs = map (λ (x : Sending). x.command) (filter (λ (x : Sending). is_name x.entity e) xs)

name_itself : (e : List ℕ) → is_name e e ≡ true
name_itself e = nat_list_eq_equiv.refl e

commands_append : (e : List ℕ) (xs ys : List Sending) → commands_to e (xs ++ ys) ≡ commands_to e xs ++ commands_to e ys
commands_append e xs ys =
    ap (map (λ (x : Sending). x.command)) (filter-append (λ (x : Sending). is_name x.entity e) xs ys)
    ∙ map-append (λ (x : Sending). x.command) (filter (λ (x : Sending). is_name x.entity e) xs) (filter (λ (x : Sending). is_name x.entity e) ys)

-- a send that is there is planned under its number
planned_at : (c : Script) (p : ℕ) (e : List ℕ) (k : Command) (so_far more : List Sending) → ((x : Command) → is_command x x ≡ true)
    → sends c p ≡ with_send so_far e k ++ more → is_planned c p e (count_to e so_far + 1) k ≡ true
planned_at c p e k so_far more same is =
    let x : Sending = record { entity = e; number = count_to e so_far + 1; command = k } in
    let n : ℕ = count_to e so_far in
    let it : commands_to e (x ∷ more) ≡ k ∷ commands_to e more = ap (λ b. map (λ (y : Sending). y.command) (cond b (x ∷ filter (λ (y : Sending). is_name y.entity e) more) (filter (λ (y : Sending). is_name y.entity e) more))) (name_itself e) in
    let parts : plan c p e ≡ commands_to e so_far ++ k ∷ commands_to e more =
    ap (commands_to e) (is ∙ append_assoc so_far (x ∷ []) more) ∙ (commands_append e so_far (x ∷ more) ∙ ap (λ l. commands_to e so_far ++ l) it) in
    let long : length (commands_to e so_far) ≡ n = length-map (filter (λ (y : Sending). is_name y.entity e) so_far) (λ (y : Sending). y.command) in
    let place : n + 1 - 1 ≡ length (commands_to e so_far) = omega arith in
    let found : slice_get (plan c p e) (n + 1 - 1) ≡ Some k = ap (slice_get (plan c p e)) place ∙ (ap (λ l. slice_get l (length (commands_to e so_far))) parts ∙ get_after (commands_to e so_far) k (commands_to e more)) in
    let above : nat_lt 0 (n + 1) ≡ true = grind (arith, nat_tests) in
    both (nat_lt 0 (n + 1)) _ above (ap (λ o. option_map_or (is_command k) o false) found ∙ same k)

-- What an order keeps, where the sends so far of each producer are s.

record Inv (c : Script) (s : ℕ → List Sending) (st : Solo) : Type 0 where
  pub counts : (p : ℕ) (e : List ℕ) → count_of_pair p e st.posted ≡ count_to e (s p)
  pub planned : list_all (λ (m : Message). is_planned c m.producer m.entity m.number m.command) st.posted ≡ true
  pub kinds : list_all (λ (m : Message). is_of_kind c.config.kind m.command) st.posted ≡ true
  pub journals : (e : List ℕ) → IsSound c e (journal e (shard_list st.lists (shard c.config.shards e)))
  pub wide : length st.lists.shards ≡ c.config.shards

record Laws : Type 0 where
  pub commands : (x : Command) → is_command x x ≡ true
  pub decisions : (d : Decision) → is_decision d d ≡ true
  pub applies : (v : ℕ) (k : Kind) (st : State) (x : Command) → is_of_kind k x ≡ true → are_applicable st (decide v st x).events ≡ true

-- the count of a pair after a send
count_kept : (p q : ℕ) (e f : List ℕ) (k : Command) (posted : List Message) (so_far : List Sending) → count_of_pair q f posted ≡ count_to f so_far
    → count_of_pair q f (posted ++ next_message posted p e k ∷ []) ≡ count_to f (with_order q so_far (order.Send p e k))
count_kept p q e f k posted so_far old =
    pair_more q f posted (next_message posted p e k) ∙ elim (p == q) as (λ v. count_of_pair q f posted + (if v && is_name e f then 1 else 0) ≡ count_to f (if v then with_send so_far e k else so_far)) [
      | true ↦ ap (λ n. n + (if is_name e f then 1 else 0)) old ∙ sym (count_more f so_far (record { entity = e; number = count_to e so_far + 1; command = k }))
      | false ↦ let zero_more : count_of_pair q f posted + 0 ≡ count_of_pair q f posted = omega arith in zero_more ∙ old
    ]

all_more : {X : Type 0} (p : X → Bool) (xs : List X) (x : X) → list_all p xs ≡ true → p x ≡ true → list_all p (xs ++ x ∷ []) ≡ true
all_more p xs x all one = list_all-append p xs (x ∷ []) ∙ both (list_all p xs) (list_all p (x ∷ [])) all (both (p x) true one refl)

keeps_send : (c : Script) (s : ℕ → List Sending) (st : Solo) (p : ℕ) (e : List ℕ) (k : Command) (ls : List Line) → Laws → Inv c s st
    → ((q : ℕ) → fold (with_send_of q) (with_order q (s q) (order.Send p e k)) ls ≡ sends c q) → is_order c.config (order.Send p e k) ≡ true
    → Inv c (λ q. with_order q (s q) (order.Send p e k)) (after_order (setting c) st (order.Send p e k))
keeps_send c s st p e k ls laws inv rest own =
    let begins : (more : List Sending) × (fold (with_send_of p) (with_send (s p) e k) ls ≡ with_send (s p) e k ++ more) = sends_begin p (with_send (s p) e k) ls in
    let here : fold (with_send_of p) (with_send (s p) e k) ls ≡ sends c p = ap (λ b. fold (with_send_of p) (if b then with_send (s p) e k else s p) ls) (sym ((Decides-eqb p p).1 refl)) ∙ rest p in
    record {
      counts = λ q f. count_kept p q e f k st.posted (s q) (inv.counts q f);
      planned = all_more (λ (m : Message). is_planned c m.producer m.entity m.number m.command) st.posted (next_message st.posted p e k) inv.planned
          (ap (λ n. is_planned c p e (n + 1) k) (inv.counts p e) ∙ planned_at c p e k (s p) begins.0 laws.commands (sym here ∙ begins.1));
      kinds = all_more (λ (m : Message). is_of_kind c.config.kind m.command) st.posted (next_message st.posted p e k) inv.kinds (and_both (is_in 1 c.config.producers p) (is_of_kind c.config.kind k) own).1;
      journals = inv.journals;
      wide = inv.wide;
    }

-- the lists after a message is delivered
keeps_message : (c : Script) (lists : SlotLists) (m : Message) → IsScript c → Laws → ((e : List ℕ) → IsSound c e (journal e (shard_list lists (shard c.config.shards e)))) → length lists.shards ≡ c.config.shards
    → is_planned c m.producer m.entity m.number m.command ≡ true → is_of_kind c.config.kind m.command ≡ true
    → ((e : List ℕ) → IsSound c e (journal e (shard_list (with_delivered (setting c) lists m) (shard c.config.shards e)))) × (length (with_delivered (setting c) lists m).shards ≡ c.config.shards)
keeps_message c lists m ok laws js wide planned own =
    let before : List Record = journal m.entity (shard_list lists (shard c.config.shards m.entity)) in
    let r : Record = next_record c.config.kind before m in
    let inside : shard c.config.shards m.entity < length lists.shards = subst (λ n. shard c.config.shards m.entity < n) (sym wide) (shard_below c ok m.entity) in
    elim (m.number == position m.producer before + 1) as (λ v. (m.number == position m.producer before + 1) ≡ v
    → ((e : List ℕ) → IsSound c e (journal e (shard_list (if v then with_entry (shard c.config.shards m.entity) (fact.Wrote m.entity r) lists else lists) (shard c.config.shards e))))
    × (length (if v then with_entry (shard c.config.shards m.entity) (fact.Wrote m.entity r) lists else lists).shards ≡ c.config.shards)) [
      | true ↦ λ next. (
        λ e. elim (is_name m.entity e) as (λ v. is_name m.entity e ≡ v → IsSound c e (journal e (slice_index_or (with_fact (shard c.config.shards m.entity) (fact.Wrote m.entity r) lists.shards) (shard c.config.shards e) []))) [
          | true ↦ λ t.
              let grown : IsSound c m.entity (before ++ r ∷ []) = sound_more c m.entity before m laws.decisions laws.applies (js m.entity) next planned own in
              let same : m.entity ≡ e = same_name m.entity e t in
              subst (IsSound c e) (sym (journal_of_it c.config.shards lists.shards m.entity e r t inside))
              (subst (λ f. IsSound c f (journal f (shard_list lists (shard c.config.shards f)) ++ r ∷ [])) same grown)
          | false ↦ λ t. subst (IsSound c e) (sym (journal_of_another c.config.shards lists.shards m.entity e r t inside)) (js e)
        ] refl,
        length-set lists.shards (shard c.config.shards m.entity) (shard_list lists (shard c.config.shards m.entity) ++ fact.Wrote m.entity r ∷ []) ∙ wide,
      )
      | false ↦ λ next. (js, wide)
    ] refl

keeps_delivery : (c : Script) (s : ℕ → List Sending) (st : Solo) (n : ℕ) → IsScript c → Laws → Inv c s st → Inv c s (after_order (setting c) st (order.Deliver n))
keeps_delivery c s st n ok laws inv = at (slice_get st.posted (n - 1)) refl
  where
    at : (m : Option Message) → slice_get st.posted (n - 1) ≡ m → Inv c s (record { posted = st.posted; lists = with_delivery (setting c) st.lists m })
    at None e = record { counts = inv.counts; planned = inv.planned; kinds = inv.kinds; journals = inv.journals; wide = inv.wide }
    at (Some m) e =
        let kept : ((f : List ℕ) → IsSound c f (journal f (shard_list (with_delivered (setting c) st.lists m) (shard c.config.shards f)))) × (length (with_delivered (setting c) st.lists m).shards ≡ c.config.shards) =
        keeps_message c st.lists m ok laws inv.journals inv.wide
        (all_at (λ (x : Message). is_planned c x.producer x.entity x.number x.command) st.posted (n - 1) m inv.planned e)
        (all_at (λ (x : Message). is_of_kind c.config.kind x.command) st.posted (n - 1) m inv.kinds e) in
        record { counts = inv.counts; planned = inv.planned; kinds = inv.kinds; journals = kept.0; wide = kept.1 }

keeps : (c : Script) (s : ℕ → List Sending) (st : Solo) (o : Order) (ls : List Line) → IsScript c → Laws → Inv c s st
    → ((q : ℕ) → fold (with_send_of q) (with_order q (s q) o) ls ≡ sends c q) → is_order c.config o ≡ true
    → Inv c (λ q. with_order q (s q) o) (after_order (setting c) st o)
keeps c s st (order.Send p e k) ls ok laws inv rest own = keeps_send c s st p e k ls laws inv rest own
keeps c s st (order.Deliver n) ls ok laws inv rest own = keeps_delivery c s st n ok laws inv
keeps c s st o ls ok laws inv rest own = inv

all_keep : (c : Script) (s : ℕ → List Sending) (st : Solo) (lines : List Line) → IsScript c → Laws → Inv c s st
    → ((q : ℕ) → fold (with_send_of q) (s q) lines ≡ sends c q) → list_all (λ (l : Line). is_order c.config l.order) lines ≡ true
    → (e : List ℕ) → IsSound c e (journal e (shard_list (fold (after_line (setting c)) st lines).lists (shard c.config.shards e)))
all_keep c s st [] ok laws inv rest own = inv.journals
all_keep c s st (l ∷ ls) ok laws inv rest own =
    let parts : (is_order c.config l.order ≡ true) × (list_all (λ (x : Line). is_order c.config x.order) ls ≡ true) = and_both (is_order c.config l.order) (list_all (λ (x : Line). is_order c.config x.order) ls) own in
    all_keep c (λ q. with_order q (s q) l.order) (after_order (setting c) st l.order) ls ok laws (keeps c s st l.order ls ok laws inv rest parts.0) rest parts.1

-- every journal of `solo` is sound
pub solo_sound : ((a b : Command) → IsTrue (is_command a b) ↔ (a ≡ b)) → ((a b : Decision) → IsTrue (is_decision a b) ↔ (a ≡ b))
    → ((v : ℕ) (k : Kind) (st : State) (x : Command) → IsTrue (is_of_kind k x) → IsTrue (are_applicable st (decide v st x).events))
    → (c : Script) → IsScript c → (e : List ℕ) → IsSound c e (solo_journal c e)
solo_sound cmd dec apl c ok e =
    all_keep c (λ q. []) (start (setting c)) c.orders ok (record { commands = λ x. (cmd x x).1 refl; decisions = λ d. (dec d d).1 refl; applies = apl })
    (record {
      counts = λ p f. refl;
      planned = refl;
      kinds = refl;
      journals = λ f. subst (IsSound c f) (sym (no_records f (numbers 0 c.config.shards) (shard c.config.shards f))) (record { folded_is = refl; merged_is = refl; foldable_is = refl });
      wide = length-map (numbers 0 c.config.shards) held ∙ numbers_length 0 c.config.shards;
    })
    (λ q. refl) ok.orders e

all_pass : {X : Type 0} (p : X → Bool) → ((x : X) → p x ≡ true) → (xs : List X) → list_all p xs ≡ true
all_pass p h [] = refl
all_pass p h (x ∷ xs) = both (p x) (list_all p xs) (h x) (all_pass p h xs)

all_of_these : {X : Type 0} (q p : X → Bool) → ((x : X) → q x ≡ true → p x ≡ true) → (xs : List X) → list_all p (filter q xs) ≡ true
all_of_these q p h [] = refl
all_of_these q p h (x ∷ xs) = elim (q x) as (λ v. q x ≡ v → list_all p (cond v (x ∷ filter q xs) (filter q xs)) ≡ true) [
  | true ↦ λ e. both (p x) (list_all p (filter q xs)) (h x e) (all_of_these q p h xs)
  | false ↦ λ e. all_of_these q p h xs
] refl

-- so the report can tell the state of each
pub solo_foldable : (c : Script) → ((e : List ℕ) → IsSound c e (solo_journal c e)) → is_foldable_in_all (setting c) (solo c).lists ≡ true
solo_foldable c sound = all_pass (is_foldable_shard (setting c) (solo c).lists) (λ s.
    all_of_these (λ e. shard_of (setting c) e == s) (is_foldable c.config.kind (shard_list (solo c).lists s)) (λ e here.
    subst (λ n. is_foldable c.config.kind (shard_list (solo c).lists n) e ≡ true) ((Decides-eqb (shard_of (setting c) e) s).0 here) (sound e).foldable_is)
    (names_in c.orders)) (numbers 0 c.config.shards)
