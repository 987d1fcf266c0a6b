-- Loops over the places of jobs.
use Rattle.std.proofs.Common.{◌≡◌, ℕ, zero, suc, ◌+◌, ◌-◌, ◌<◌, ◌≤◌, sym, ap, ◌∙◌, refl, subst, length, arith}
use Rattle.std.specs.Prelude.{Bool, true, false, List, [], ◌∷◌, ◌++◌, drop, map, slice_get, Some, None, if◌then◌else◌}
use Rattle.std.specs.Option.{option_map}
use Rattle.plain_laws.proofs.Members.{each_among}
use Rattle.plain_laws.proofs.Lists.{some_is}
use Rattle.yard_model.specs.declared.charter.Sending.{Sending}
use Rattle.yard_model.specs.declared.fact.Fact.{Fact}
use Rattle.yard_model.specs.declared.fact.Fact.TheVariants as fact
use Rattle.yard_model.specs.declared.incarnation.Incarnation.{Incarnation}
use Rattle.yard_model.specs.Words.{is_among}
use Rattle.yard_model.specs.Script.{Script}
use Rattle.pull_laws.specs.Pulled.{members, jobs, job_names, is_free, is_ready, first_ready, is_running, wire}
use Rattle.pull_laws.specs.Pulling.{Pulling, tell, post, for_each, where_some, none, give, assign_job, assign}
use Rattle.pull_laws.proofs.Small.{found}
use Rattle.pull_laws.proofs.Sound.{jobs_more}
use Rattle.pull_laws.proofs.Steps.{post_leads}
use Rattle.pull_cluster.specs.Cluster.{Cluster, Leads, name_at}
use Rattle.work_pulling.specs.Loops.{On, Assigning}
use Rattle.work_pulling.proofs.LeadsLaws.{leads_still, on_then, on_none, on_is, same_script}

-- The names of the jobs are those at their places.

abbrev pub AreNamed : Script → List Sending → Type 0
AreNamed c js = (i : ℕ) → i < length js → option_map (λ (j : Sending). j.entity) (slice_get js i) ≡ Some (name_at c i)

-- the rest from a place on
rest_named : (c : Script) (js : List Sending) (i k : ℕ) → k < length js → option_map (λ (j : Sending). j.entity) (slice_get js k) ≡ Some (name_at c i) → drop k (map (λ (j : Sending). j.entity) js) ≡ name_at c i ∷ drop (suc k) (map (λ (j : Sending). j.entity) js)
rest_named c [] i k lt e = absurd (below_none k lt)
  where
    below_none : (k : ℕ) → k < 0 → ⊥
    below_none k lt = omega (arith, lt)
rest_named c (j ∷ js) i zero lt e = ap (λ n. n ∷ map (λ (j : Sending). j.entity) js) (some_is j.entity (name_at c i) e)
rest_named c (j ∷ js) i (suc k) lt e = rest_named c js i k (omega (arith, lt)) e

pub drop_named : (c : Script) (js : List Sending) (i k : ℕ) → k < length js → option_map (λ (j : Sending). j.entity) (slice_get js k) ≡ Some (name_at c i) → drop k (map (λ (j : Sending). j.entity) js) ≡ name_at c i ∷ drop (k + 1) (map (λ (j : Sending). j.entity) js)
drop_named c js i k lt e = let one : suc k ≡ k + 1 = omega arith in rest_named c js i k lt e ∙ ap (λ n. name_at c i ∷ drop n (map (λ (j : Sending). j.entity) js)) one

pub drop_all : (js : List Sending) (k : ℕ) → length js ≤ k → drop k (map (λ (j : Sending). j.entity) js) ≡ []
drop_all [] zero le = refl
drop_all [] (suc k) le = refl
drop_all (j ∷ js) zero le = absurd (none_below (length js) le)
  where
    none_below : (n : ℕ) → suc n ≤ 0 → ⊥
    none_below n le = omega (arith, le)
drop_all (j ∷ js) (suc k) le = drop_all js k (omega (arith, le))

-- Assigning.

pub given_next : (e : List ℕ) (x : Incarnation) (s : Pulling) → is_free e s.told ≡ true → first_ready s.window s.told ≡ Some x → assign_job e s ≡ give e x s
given_next e x s free ready = ap (λ b. if b then where_some (give e) none (first_ready s.window s.told) s else s) free ∙ ap (λ o. where_some (give e) none o s) ready

pub not_free : (e : List ℕ) (s : Pulling) → is_free e s.told ≡ false → assign_job e s ≡ s
not_free e s taken = ap (λ b. if b then where_some (give e) none (first_ready s.window s.told) s else s) taken

pub none_ready : (es : List (List ℕ)) (s : Pulling) → first_ready s.window s.told ≡ None → for_each assign_job es s ≡ s
none_ready [] s e = refl
none_ready (x ∷ es) s e = ap (λ t. for_each assign_job es t) (by (is_free x s.told)) ∙ none_ready es s e
  where
    by : (b : Bool) → (if b then where_some (give x) none (first_ready s.window s.told) s else s) ≡ s
    by true = ap (λ o. where_some (give x) none o s) e
    by false = refl

-- a packet that is posted leaves the jobs as they are, and who has them
pub post_keeps_jobs : (f : ℕ → Fact) (s : Pulling) → ((k : ℕ) → jobs (s.told ++ f k ∷ []) ≡ jobs s.told) → jobs (post f s).told ≡ jobs s.told
post_keeps_jobs f s h = post_leads (λ t. jobs t ≡ jobs s.told) f s refl (h (length (wire s.told) + 1))

pub give_keeps_jobs : (e : List ℕ) (x : Incarnation) (s : Pulling) → jobs (give e x s).told ≡ jobs s.told
give_keeps_jobs e x s = post_keeps_jobs (λ k. fact.SentJob k x e) (tell (fact.Given e x) s) (λ k. jobs_more (s.told ++ fact.Given e x ∷ []) (fact.SentJob k x e)) ∙ jobs_more s.told (fact.Given e x)

-- jobs that aren't free are passed over
pub skips : (c : Script) (s : Pulling) (js : List Sending) (from : ℕ) (n : ℕ) → AreNamed c js → from + n ≤ length js → ((i : ℕ) → from ≤ i → i < from + n → is_free (name_at c i) s.told ≡ false)
    → for_each assign_job (drop from (map (λ (j : Sending). j.entity) js)) s ≡ for_each assign_job (drop (from + n) (map (λ (j : Sending). j.entity) js)) s
skips c s js from zero named within between = ap (λ k. for_each assign_job (drop k (map (λ (j : Sending). j.entity) js)) s) (omega arith)
skips c s js from (suc n) named within between =
    let here : from < length js = omega (arith, within) in
    ap (λ es. for_each assign_job es s) (drop_named c js from from here (named from here))
    ∙ (ap (λ t. for_each assign_job (drop (from + 1) (map (λ (j : Sending). j.entity) js)) t) (not_free (name_at c from) s (between from (omega arith) (omega arith)))
    ∙ (skips c s js (from + 1) n named (omega (arith, within)) (λ i a b. between i (omega (arith, a)) (omega (arith, b)))
    ∙ ap (λ k. for_each assign_job (drop k (map (λ (j : Sending). j.entity) js)) s) (omega arith)))

-- from one place to a later one
skips_to : (c : Script) (s : Pulling) (js : List Sending) (from to : ℕ) → AreNamed c js → from ≤ to → to ≤ length js → ((i : ℕ) → from ≤ i → i < to → is_free (name_at c i) s.told ≡ false)
    → for_each assign_job (drop from (map (λ (j : Sending). j.entity) js)) s ≡ for_each assign_job (drop to (map (λ (j : Sending). j.entity) js)) s
skips_to c s js from to named le within between =
    let is : from + (to - from) ≡ to = omega (arith, le) in
    skips c s js from (to - from) named (subst (λ k. k ≤ length js) (sym is) within) (λ i a b. between i a (subst (λ k. i < k) is b)) ∙ ap (λ k. for_each assign_job (drop k (map (λ (j : Sending). j.entity) js)) s) is

pub assigning_begins : (k : Cluster) (out : List Fact) (job : ℕ) → AreNamed k.script (jobs k.pulling.told) → job ≤ length (jobs k.pulling.told) → (job < length (jobs k.pulling.told) → is_free (name_at k.script job) k.pulling.told ≡ true)
    → ((i : ℕ) → 0 ≤ i → i < job → is_free (name_at k.script i) k.pulling.told ≡ false) → Assigning k k out out job
assigning_begins k out job named within it between = record {
  on = on_none k out;
  jobs_are = refl;
  left = sym (skips_to k.script k.pulling (jobs k.pulling.told) 0 job named (omega arith) within between);
  within = within;
  free = it;
}

pub assigning_next : (start now new : Cluster) (x y z : List Fact) (job next : ℕ) (who : Incarnation) → AreNamed start.script (jobs start.pulling.told) → Assigning start now x y job → job < length (jobs start.pulling.told)
    → first_ready now.pulling.window now.pulling.told ≡ Some who → Leads (give (name_at now.script job) who) now new y z
    → job + 1 ≤ next → next ≤ length (jobs new.pulling.told) → (next < length (jobs new.pulling.told) → is_free (name_at new.script next) new.pulling.told ≡ true)
    → ((i : ℕ) → job + 1 ≤ i → i < next → is_free (name_at new.script i) new.pulling.told ≡ false) → Assigning start new x z next
assigning_next start now new x y z job next who named a in_js ready l from within it between =
    let e : List ℕ = name_at now.script job in
    let js : List Sending = jobs start.pulling.told in
    let names : List (List ℕ) = map (λ (j : Sending). j.entity) js in
    let on : On start new x z = on_then (give e who) start now new x y z a.on l in
    let pulling_is : new.pulling ≡ give e who now.pulling = ap (λ k. k.pulling) l.new_is in
    let jobs_new : jobs new.pulling.told ≡ js = ap (λ s. jobs s.told) pulling_is ∙ (give_keeps_jobs e who now.pulling ∙ a.jobs_are) in
    let script_is : start.script ≡ now.script = sym (same_script start now x y a.on) in
    let here : job < length (jobs now.pulling.told) = subst (λ t. job < length t) (sym a.jobs_are) in_js in
    let first : drop job names ≡ e ∷ drop (job + 1) names = drop_named start.script js job job in_js (named job in_js) ∙ ap (λ c. name_at c job ∷ drop (job + 1) names) script_is in
    let was : for_each assign_job (drop job names) now.pulling ≡ for_each assign_job (drop (job + 1) names) new.pulling =
    ap (λ es. for_each assign_job es now.pulling) first ∙ ap (λ t. for_each assign_job (drop (job + 1) names) t) (given_next e who now.pulling (a.free here) ready ∙ sym pulling_is) in
    let in_new : AreNamed new.script js = subst (λ c. AreNamed c js) (sym (same_script start new x z on)) named in
    record {
      on = on;
      jobs_are = jobs_new;
      left = sym (skips_to new.script new.pulling js (job + 1) next in_new from (subst (λ t. next ≤ length t) jobs_new within) between) ∙ (sym was ∙ a.left);
      within = within;
      free = it;
    }

running_assigns : (s : Pulling) → is_running s.told ≡ true → for_each assign_job (job_names s.told) s ≡ assign s
running_assigns s e = sym (ap (λ b. if b then for_each assign_job (job_names s.told) s else s) e)

-- past the last job, or where no worker is ready
pub assigning_ends : (start now : Cluster) (x y : List Fact) (job : ℕ) → is_running start.pulling.told ≡ true → length (jobs start.pulling.told) ≤ job → Assigning start now x y job → Leads assign start now x y
assigning_ends start now x y job runs past a = on_is assign start now x y
    (ap (λ es. for_each assign_job es now.pulling) (sym (drop_all (jobs start.pulling.told) job past)) ∙ (a.left ∙ running_assigns start.pulling runs)) a.on

pub assigning_stops : (start now : Cluster) (x y : List Fact) (job : ℕ) → is_running start.pulling.told ≡ true → first_ready now.pulling.window now.pulling.told ≡ None → Assigning start now x y job → Leads assign start now x y
assigning_stops start now x y job runs none a = on_is assign start now x y
    (sym (none_ready (drop job (job_names start.pulling.told)) now.pulling none) ∙ (a.left ∙ running_assigns start.pulling runs)) a.on

pub ready_is_up : (window : ℕ) (t : List Fact) (x : Incarnation) → first_ready window t ≡ Some x → is_among x (members t) ≡ true
ready_is_up window t x e = found (is_ready window t) (λ y. is_among y (members t)) (members t) x (each_among (members t)) e

pub rests_assigns : (k : Cluster) (out : List Fact) → is_running k.pulling.told ≡ false → Leads assign k k out out
rests_assigns k out e = leads_still assign k out (ap (λ b. if b then for_each assign_job (job_names k.pulling.told) k.pulling else k.pulling) e)
