-- The workers of a run: their jobs, and what they leave.
use Rattle.std.proofs.Common.{◌≡◌, ℕ, zero, suc, ◌+◌, ◌<◌, ◌≤◌, true, List, [], ◌∷◌, ◌++◌, length, get_or, map, refl, sym, ap, ◌∙◌, subst, arith, length-append}
use Rattle.std.specs.Prelude.{Option, None, Some, Result, Ok, Err, IfOk, IfSome, Bool, false, ◌==◌, ◌&&◌, nat_le, ◌*◌, fold, slice_index_or, if◌then◌else◌}
use Rattle.std.specs.List.{list_all}
use Rattle.std.specs.Option.{option_map_or}
use Rattle.std.proofs.lemmas.List.{get_or_append_left, get_or-append-add}
use Rattle.atomic_table.specs.Seated.{TableId}
use Rattle.plain_laws.proofs.Booleans.{and_both, both, within, same_number, get_replicate, at_most}
use Rattle.plain_laws.proofs.Lists.{by_place}
use Rattle.yard_model.specs.declared.charter.Line.{Line}
use Rattle.yard_model.specs.declared.charter.Order.{Order}
use Rattle.yard_model.specs.declared.charter.Order.TheVariants as order
use Rattle.yard_model.specs.declared.fact.Fact.{Fact}
use Rattle.yard_model.specs.Behaviour.{is_in}
use Rattle.yard_model.specs.Genuine.{is_producer}
use Rattle.yard_model.specs.Lawful.{lawful, is_held}
use Rattle.yard_model.specs.Follow.{each_follows}
use Rattle.yard_model.specs.Script.{Script, IsScript, is_order}
use Rattle.yard_model.specs.Words.{at, numbers}
use Rattle.yard_model.specs.Workers.{is_steady, produced, produced_step, orders, is_steady_after, worker_orders, worked}
use Rattle.shard_store.specs.Stores.{Shelves, entries_at, entries_in, entries_of, lists_at}
use Rattle.lease_table.specs.Fits.{slot_count, Fits}
use Rattle.lease_table.specs.Leasing.{Pass, pass, Idle, Spans, Closed, ClosedAt, fresh, dealt, dealt_on}
use Rattle.lease_table.specs.Tells.{united}
use Rattle.live_laws.specs.Live.{SawQueued, ClosedIsLawful, ClosedIsWorked}
use Rattle.node_runner.specs.declared.run.Job.{Job}
use Rattle.post_box.specs.Holding as boxes
use Rattle.post_box.specs.Holding.{Holder, new_holder}
use Rattle.node_runner.specs.Jobs.{AreIdle, IsDealt, AreHolders, IsJob, AreJobs, IsLeft, AreLeft}
use Rattle.node_runner.specs.Ran.{Ran, IsRun}
use Rattle.node_runner.proofs.Joins.{last_ran, one_ran}

-- What a table deals.

fresh_idle : (z : TableId) (c : Script) (ls : List (List Fact)) (n : ℕ) → Idle z c n (pass z (fresh c ls n))
fresh_idle z c ls n = record { table = refl; charter = refl; numbers = refl; nothing = λ j. get_replicate (slot_count c) j None }

on_idle : (z : TableId) (c : Script) (ls : List (List Fact)) (k n : ℕ) → AreIdle z c k (dealt_on z c ls k n)
on_idle z c ls k zero = tt
on_idle z c ls k (suc n) = (fresh_idle z c ls k, on_idle z c ls (k + 1) n)

on_long : (z : TableId) (c : Script) (ls : List (List Fact)) (k n : ℕ) → length (dealt_on z c ls k n) ≡ n
on_long z c ls k zero = refl
on_long z c ls k (suc n) = ap suc (on_long z c ls (k + 1) n)

pub is_dealt : (z : TableId) (c d : Script) (ls : List (List Fact)) (ps : List Pass) → c ≡ d → ps ≡ dealt z d ls → IsDealt z c ps
is_dealt z c d ls ps same is = subst (λ e. IsDealt z e ps) (sym same) (subst (IsDealt z d) (sym is) record { all = on_long z d ls 1 d.config.nodes; idle = on_idle z d ls 1 d.config.nodes })

-- The jobs.

at_end : {A : Type 0} (xs ys : List A) (x d : A) → ys ≡ xs ++ x ∷ [] → get_or ys (length xs) d ≡ x
at_end xs ys x d is = ap (λ l. get_or l (length xs) d) is ∙ ap (λ k. get_or (xs ++ x ∷ []) k d) (let e : length xs ≡ length xs + 0 = omega arith in e) ∙ get_or-append-add xs (x ∷ []) 0 d

at_before : {A : Type 0} (xs ys : List A) (x d : A) (i : ℕ) → ys ≡ xs ++ x ∷ [] → i < length xs → get_or ys i d ≡ get_or xs i d
at_before xs ys x d i is less = ap (λ l. get_or l i d) is ∙ get_or_append_left xs (x ∷ []) d i less

one_longer : {A : Type 0} (xs ys : List A) (x : A) → ys ≡ xs ++ x ∷ [] → length ys ≡ length xs + 1
one_longer xs ys x is = ap length is ∙ length-append xs (x ∷ [])

-- a pass of each node at the boxes
on_holders : (P : Type 0) (ts : List TableId) (k n : ℕ) → AreHolders {P = P} ts k (map (new_holder ts) (numbers k n))
on_holders P ts k zero = tt
on_holders P ts k (suc n) = (refl, refl, on_holders P ts (k + 1) n)

holders_long : (P : Type 0) (ts : List TableId) (k n : ℕ) → length (map (new_holder {P = P} ts) (numbers k n)) ≡ n
holders_long P ts k zero = refl
holders_long P ts k (suc n) = ap suc (holders_long P ts (k + 1) n)

-- so many jobs are made, and these passes are left
pub record Dealing {P : Type 0} (z : TableId) (c : Script) (ts : List TableId) (done : ℕ) (left : List Pass) (others : List (Holder P)) (js : List (Job P)) : Type 0 where
  pub all : done + length left ≡ c.config.nodes
  pub idle : AreIdle z c (done + 1) left
  pub rest : done + length others ≡ c.config.nodes
  pub holders : AreHolders ts (done + 1) others
  pub count : length js ≡ done
  pub jobs : AreJobs z c ts js

pub deals_none : {P : Type 0} (z : TableId) (c : Script) (ts : List TableId) (left : List Pass) (others : List (Holder P)) (js : List (Job P)) → IsDealt z c left → length ts ≡ c.config.nodes → others ≡ boxes.dealt ts → js ≡ [] → Dealing z c ts 0 left others js
deals_none {P} z c ts left others js d nodes is none = record {
  all = let all : length left ≡ c.config.nodes = d.all in omega (arith, all);
  idle = d.idle;
  rest = let long : length others ≡ length ts = ap (λ (l : List (Holder P)). length l) is ∙ holders_long P ts 1 (length ts) in omega (arith, long, nodes);
  holders = subst (AreHolders ts 1) (sym is) (on_holders P ts 1 (length ts));
  count = ap (λ (l : List (Job P)). length l) none;
  jobs = λ i x less at. absurd (never i (subst (λ (l : List (Job P)). i < length l) none less));
}
  where
    never : (i : ℕ) → i < 0 → ⊥
    never i h = omega (arith, h)

pub deals_one : {P : Type 0} (z : TableId) (c : Script) (ts : List TableId) (done : ℕ) (left rest : List Pass) (p : Pass) (others after : List (Holder P)) (h : Holder P) (js more : List (Job P)) (j : Job P) → Dealing z c ts done left others js
    → left ≡ p ∷ rest → others ≡ h ∷ after → j.node ≡ done + 1 → j.pass ≡ p → j.box_pass ≡ h → more ≡ js ++ j ∷ [] → Dealing z c ts (done + 1) rest after more
deals_one {P} z c ts done left rest p others after h js more j d is has node own mine pushed =
    let idle : Idle z c (done + 1) p × AreIdle z c (done + 1 + 1) rest = subst (AreIdle z c (done + 1)) is d.idle in
    let holder : (h.tables ≡ ts) × (h.node ≡ done + 1) × AreHolders ts (done + 1 + 1) after = subst (AreHolders ts (done + 1)) has d.holders in
    let all : done + suc (length rest) ≡ c.config.nodes = ap (λ (l : List Pass). done + length l) (sym is) ∙ d.all in
    let long : done + suc (length after) ≡ c.config.nodes = ap (λ (l : List (Holder P)). done + length l) (sym has) ∙ d.rest in
    let job : IsJob z c ts j = record {
      inside = ap (is_in 1 c.config.nodes) node ∙ both (nat_le 1 (done + 1)) (nat_le (done + 1) c.config.nodes) (within 1 (done + 1) (omega arith)) (within (done + 1) c.config.nodes (omega (arith, all)));
      idle = subst (λ n. Idle z c n j.pass) (sym node) (subst (Idle z c (done + 1)) (sym own) idle.0);
      boxes = ap (λ (x : Holder P). x.tables) mine ∙ holder.0;
      own = ap (λ (x : Holder P). x.node) mine ∙ holder.1 ∙ sym node;
    } in record {
      all = omega (arith, all);
      idle = idle.1;
      rest = omega (arith, long);
      holders = holder.2;
      count = one_longer js more j pushed ∙ ap (λ k. k + 1) d.count;
      jobs = λ i x less at. by_place ((x.node ≡ i + 1) × IsJob z c ts x) i (length js)
          (λ same. let x_is : x ≡ j = at ∙ ap (λ k. get_or more k x) same ∙ at_end js more j x pushed in subst (λ (y : Job P). (y.node ≡ i + 1) × IsJob z c ts y) (sym x_is) (node ∙ ap (λ k. k + 1) (sym (same ∙ d.count)), job))
          (λ other. let low : i < length js = below_end i (length js) (length more) less (one_longer js more j pushed) other in d.jobs i x low (at ∙ at_before js more j x i pushed low));
    }
  where
    below_end : (i n m : ℕ) → i < m → m ≡ n + 1 → (i ≡ n → ⊥) → i < n
    below_end i n m less is other = grind arith

pub deals_on : {P : Type 0} (z : TableId) (c : Script) (ts : List TableId) (done nodes : ℕ) (left : List Pass) (others : List (Holder P)) (js : List (Job P)) → Dealing z c ts done left others js → nodes ≡ c.config.nodes → done < nodes → left ≡ [] → ⊥
deals_on z c ts done nodes left others js d is less none = let all : done + 0 ≡ c.config.nodes = ap (λ (l : List Pass). done + length l) (sym none) ∙ d.all in omega (arith, all, is, less)

pub boxes_on : {P : Type 0} (z : TableId) (c : Script) (ts : List TableId) (done nodes : ℕ) (left : List Pass) (others : List (Holder P)) (js : List (Job P)) → Dealing z c ts done left others js → nodes ≡ c.config.nodes → done < nodes → others ≡ [] → ⊥
boxes_on {P} z c ts done nodes left others js d is less none = let all : done + 0 ≡ c.config.nodes = ap (λ (l : List (Holder P)). done + length l) (sym none) ∙ d.rest in omega (arith, all, is, less)

-- What the workers left.

pub left_last : {E : Type 0} (z : TableId) (c : Script) (turns : ℕ) (rs before : List (Result Pass E)) (p : Pass) → AreLeft z c turns rs → rs ≡ before ++ Ok p ∷ [] → IsLeft z c turns (length before + 1) p
left_last z c turns rs before p left is = left (length before) (Ok p) (let long : length rs ≡ length before + 1 = one_longer before rs (Ok p) is in omega (arith, long)) (sym (at_end before rs (Ok p) (Ok p) is))

pub left_before : {E : Type 0} (z : TableId) (c : Script) (turns : ℕ) (rs before : List (Result Pass E)) (r : Result Pass E) → AreLeft z c turns rs → rs ≡ before ++ r ∷ [] → AreLeft z c turns before
left_before z c turns rs before r left is = λ i x less at. left i x (let long : length rs ≡ length before + 1 = one_longer before rs r is in omega (arith, long, less)) (at ∙ sym (at_before before rs r x i is less))

-- the pass of all nodes from the one after these on
pub record Uniting {E : Type 0} (z : TableId) (c : Script) (turns : ℕ) (rs : List (Result Pass E)) (all : Pass) : Type 0 where
  pub left : AreLeft z c turns rs
  pub ran : Ran z c turns (length rs + 1) all

pub unites_last : {E : Type 0} (z : TableId) (c : Script) (turns : ℕ) (rs before : List (Result Pass E)) (p : Pass) → AreLeft z c turns rs → length rs ≡ c.config.nodes → rs ≡ before ++ Ok p ∷ [] → Uniting z c turns before p
unites_last z c turns rs before p left all is =
    let mine : IsLeft z c turns (length before + 1) p = left_last z c turns rs before p left is in record {
      left = left_before z c turns rs before (Ok p) left is;
      ran = last_ran z c turns (length before + 1) p (sym (one_longer before rs (Ok p) is) ∙ all) mine.idle mine.saw;
    }

pub unites_one : {E : Type 0} (z : TableId) (c : Script) (turns : ℕ) (rs before : List (Result Pass E)) (p rest r : Pass) → Uniting z c turns rs rest → rs ≡ before ++ Ok p ∷ [] → Spans p.view → r.table ≡ p.table → r.view ≡ united p.view rest.view → Uniting z c turns before r
unites_one z c turns rs before p rest r u is wide table view =
    let mine : IsLeft z c turns (length before + 1) p = left_last z c turns rs before p u.left is in record {
      left = left_before z c turns rs before (Ok p) u.left is;
      ran = one_ran z c turns (length before + 1) p rest r mine.idle mine.saw wide (subst (λ n. Ran z c turns (n + 1) rest) (one_longer before rs (Ok p) is) u.ran) table view;
    }

pub unites_all : {E : Type 0} (z : TableId) (c : Script) (turns : ℕ) (rs : List (Result Pass E)) (all : Pass) → Uniting z c turns rs all → length rs ≡ 0 → Ran z c turns 1 all
unites_all z c turns rs all u none = subst (λ n. Ran z c turns (n + 1) all) none u.ran

-- The stores.

-- the node of the last produce is one of the script
produce_in : (c : Script) (p : ℕ) (o : Order) (old : Option ℕ) → is_order c.config o ≡ true → IfSome old (λ n. is_in 1 c.config.nodes n ≡ true) → IfSome (produced_step p old o) (λ n. is_in 1 c.config.nodes n ≡ true)
produce_in c p (order.Produce q n) old fits h = by (q == p) (and_both (is_in 1 c.config.producers q) (is_in 1 c.config.nodes n) fits).1
  where
    by : (b : Bool) → is_in 1 c.config.nodes n ≡ true → IfSome (if b then Some n else old) (λ n. is_in 1 c.config.nodes n ≡ true)
    by true e = e
    by false e = h
produce_in c p o old fits h = h

produced_in : (c : Script) (p : ℕ) (ls : List Line) (old : Option ℕ) → list_all (λ (l : Line). is_order c.config l.order) ls ≡ true → IfSome old (λ n. is_in 1 c.config.nodes n ≡ true)
    → IfSome (fold (produced_step p) old (map (λ (l : Line). l.order) ls)) (λ n. is_in 1 c.config.nodes n ≡ true)
produced_in c p [] old fits h = h
produced_in c p (l ∷ ls) old fits h =
    let t : (is_order c.config l.order ≡ true) × (list_all (λ (l : Line). is_order c.config l.order) ls ≡ true) = and_both (is_order c.config l.order) (list_all (λ (l : Line). is_order c.config l.order) ls) fits in
    produced_in c p ls (produced_step p old l.order) t.1 (produce_in c p l.order old t.0 h)

steady_in : (c : Script) (turns p n : ℕ) → IsScript c → is_steady c turns p n ≡ true → is_in 1 c.config.nodes n ≡ true
steady_in c turns p n script steady =
    let A : Bool = option_map_or (λ m. m == n) (produced p (orders c)) false in let B : Bool = each_follows (is_steady_after p n) [] (orders c) in let D : Bool = nat_le (4 * length (worker_orders c n)) turns in
    one (produced p (orders c)) (produced_in c p c.orders None script.orders tt) (and_both A B (and_both (A && B) D steady).0).0
  where
    one : (o : Option ℕ) → IfSome o (λ n. is_in 1 c.config.nodes n ≡ true) → option_map_or (λ m. m == n) o false ≡ true → is_in 1 c.config.nodes n ≡ true
    one None h e = absurd (no e)
      where
        no : false ≡ true → ⊥
        no e = cc
    one (Some m) h e = subst (λ k. is_in 1 c.config.nodes k ≡ true) (same_number m n e) h

-- what a closed table gives
pub is_run : (z : TableId) (c : Script) (turns : ℕ) (p : Pass) (s : Shelves) → ClosedIsLawful → ClosedIsWorked → Ran z c turns 1 p → s.script ≡ c → Closed c p.view s.places → IsRun c turns s
is_run z c turns p s lawful worked ran script closed = record {
  script = script;
  free = λ k less. let x = closed.each k less in ap is_held (ap entries_in x.there) ∙ x.rests.closed;
  fits = λ k less. let x = closed.each k less in subst (Fits c k) (sym (ap entries_in x.there)) x.own;
  lawful = lawful c p.view s.places closed;
  worked = worked c turns p.view s.places closed (λ q n here steady.
      let t : (nat_le 1 n ≡ true) × (nat_le n c.config.nodes ≡ true) = and_both (nat_le 1 n) (nat_le n c.config.nodes) (steady_in c turns q n closed.script steady) in
      ran.saw n q (at_most 1 n t.0) (at_most n c.config.nodes t.1) here steady);
}

pub is_run_of : (z : TableId) (c d : Script) (turns : ℕ) (p : Pass) (s : Shelves) → ClosedIsLawful → ClosedIsWorked → c ≡ d → Ran z c turns 1 p → s.script ≡ c → Closed c p.view s.places → IsRun d turns s
is_run_of z c d turns p s lawful worked same ran script closed = subst (λ e. IsRun e turns s) same (is_run z c turns p s lawful worked ran script closed)
