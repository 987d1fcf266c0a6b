-- What is given to a worker is posted again.
use Rattle.std.proofs.Common.{◌≡◌, ℕ, zero, suc, ◌+◌, ◌-◌, ◌<◌, ◌≤◌, sym, ap, ◌∙◌, refl, subst, length, arith}
use Rattle.std.specs.Prelude.{Bool, true, false, List, ◌∷◌, drop, filter, map, if◌then◌else◌}
use Rattle.yard_model.specs.declared.charter.Sending.{Sending}
use Rattle.yard_model.specs.declared.fact.Fact.{Fact}
use Rattle.yard_model.specs.declared.fact.Fact.TheVariants as fact
use Rattle.yard_model.specs.declared.incarnation.Incarnation.{Incarnation}
use Rattle.yard_model.specs.Script.{Script}
use Rattle.yard_model.specs.Words.{is_at}
use Rattle.pull_laws.specs.Pulled.{jobs, given, given_to, wire}
use Rattle.pull_laws.specs.Pulling.{Pulling, for_each, post_job}
use Rattle.pull_laws.proofs.Sound.{jobs_more, given_more}
use Rattle.pull_laws.proofs.Steps.{post_leads}
use Rattle.pull_cluster.specs.Cluster.{Cluster, Leads, name_at}
use Rattle.work_pulling.specs.Loops.{On, Posting}
use Rattle.work_pulling.proofs.JobLaws.{AreNamed, drop_named, drop_all, post_keeps_jobs}
use Rattle.work_pulling.proofs.LeadsLaws.{on_then, on_none, on_is, same_script}

abbrev names_of : List Sending → List (List ℕ)
names_of js = map (λ (j : Sending). j.entity) js

-- those that aren't picked are passed over
passes : (c : Script) (pick : List ℕ → Bool) (js : List Sending) (from n : ℕ) → AreNamed c js → from + n ≤ length js → ((i : ℕ) → from ≤ i → i < from + n → pick (name_at c i) ≡ false)
    → filter pick (drop from (names_of js)) ≡ filter pick (drop (from + n) (names_of js))
passes c pick js from zero named within between = ap (λ k. filter pick (drop k (names_of js))) (omega arith)
passes c pick js from (suc n) named within between =
    let here : from < length js = omega (arith, within) in
    ap (filter pick) (drop_named c js from from here (named from here))
    ∙ (ap (λ b. if b then name_at c from ∷ filter pick (drop (from + 1) (names_of js)) else filter pick (drop (from + 1) (names_of js))) (between from (omega arith) (omega arith))
    ∙ (passes c pick js (from + 1) n named (omega (arith, within)) (λ i a b. between i (omega (arith, a)) (omega (arith, b)))
    ∙ ap (λ k. filter pick (drop k (names_of js))) (omega arith)))

passes_to : (c : Script) (pick : List ℕ → Bool) (js : List Sending) (from to : ℕ) → AreNamed c js → from ≤ to → to ≤ length js → ((i : ℕ) → from ≤ i → i < to → pick (name_at c i) ≡ false)
    → filter pick (drop from (names_of js)) ≡ filter pick (drop to (names_of js))
passes_to c pick js from to named le within between =
    let is : from + (to - from) ≡ to = omega (arith, le) in
    passes c pick js from (to - from) named (subst (λ k. k ≤ length js) (sym is) within) (λ i a b. between i a (subst (λ k. i < k) is b)) ∙ ap (λ k. filter pick (drop k (names_of js))) is

post_keeps_given : (e y : List ℕ) (x : Incarnation) (s : Pulling) → given y (post_job x e s).told ≡ given y s.told
post_keeps_given e y x s = post_leads (λ t. given y t ≡ given y s.told) (λ k. fact.SentJob k x e) s refl (given_more y s.told (fact.SentJob (length (wire s.told) + 1) x e))

pub posting_begins : (x : Incarnation) (k : Cluster) (out : List Fact) (job : ℕ) → AreNamed k.script (jobs k.pulling.told) → job ≤ length (jobs k.pulling.told)
    → (job < length (jobs k.pulling.told) → is_at x (given (name_at k.script job) k.pulling.told) ≡ true) → ((i : ℕ) → 0 ≤ i → i < job → is_at x (given (name_at k.script i) k.pulling.told) ≡ false) → Posting x k k out out job
posting_begins x k out job named within it between = record {
  on = on_none k out;
  jobs_are = refl;
  given_are = λ e. refl;
  left = ap (λ es. for_each (post_job x) es k.pulling) (sym (passes_to k.script (λ e. is_at x (given e k.pulling.told)) (jobs k.pulling.told) 0 job named (omega arith) within between));
  within = within;
  given_is = it;
}

pub posting_next : (x : Incarnation) (start now new : Cluster) (a b d : List Fact) (job next : ℕ) → AreNamed start.script (jobs start.pulling.told) → Posting x start now a b job → job < length (jobs start.pulling.told)
    → Leads (post_job x (name_at now.script job)) now new b d → job + 1 ≤ next → next ≤ length (jobs new.pulling.told) → (next < length (jobs new.pulling.told) → is_at x (given (name_at new.script next) new.pulling.told) ≡ true)
    → ((i : ℕ) → job + 1 ≤ i → i < next → is_at x (given (name_at new.script i) new.pulling.told) ≡ false) → Posting x start new a d next
posting_next x start now new a b d job next named p in_js l from within it between =
    let e : List ℕ = name_at now.script job in
    let js : List Sending = jobs start.pulling.told in
    let pick : List ℕ → Bool = λ y. is_at x (given y start.pulling.told) in
    let here : job < length (jobs now.pulling.told) = subst (λ t. job < length t) (sym p.jobs_are) in_js in
    let on : On start new a d = on_then (post_job x e) start now new a b d p.on l in
    let pulling_is : new.pulling ≡ post_job x e now.pulling = ap (λ k. k.pulling) l.new_is in
    let jobs_new : jobs new.pulling.told ≡ js = ap (λ s. jobs s.told) pulling_is ∙ (post_keeps_jobs (λ k. fact.SentJob k x e) now.pulling (λ k. jobs_more now.pulling.told (fact.SentJob k x e)) ∙ p.jobs_are) in
    let given_new : (y : List ℕ) → given y new.pulling.told ≡ given y start.pulling.told = λ y. ap (λ s. given y s.told) pulling_is ∙ (post_keeps_given e y x now.pulling ∙ p.given_are y) in
    let script_is : start.script ≡ now.script = sym (same_script start now a b p.on) in
    let new_script : start.script ≡ new.script = sym (same_script start new a d on) in
    let first : drop job (names_of js) ≡ e ∷ drop (job + 1) (names_of js) = drop_named start.script js job job in_js (named job in_js) ∙ ap (λ c. name_at c job ∷ drop (job + 1) (names_of js)) script_is in
    let picked : pick e ≡ true = ap (is_at x) (sym (p.given_are e)) ∙ p.given_is here in
    let was : filter pick (drop job (names_of js)) ≡ e ∷ filter pick (drop (job + 1) (names_of js)) =
    ap (filter pick) first ∙ ap (λ b. if b then e ∷ filter pick (drop (job + 1) (names_of js)) else filter pick (drop (job + 1) (names_of js))) picked in
    let passed : filter pick (drop (job + 1) (names_of js)) ≡ filter pick (drop next (names_of js)) =
    passes_to new.script pick js (job + 1) next (subst (λ c. AreNamed c js) new_script named) from (subst (λ t. next ≤ length t) jobs_new within) (λ i f g. ap (is_at x) (sym (given_new (name_at new.script i))) ∙ between i f g) in
    record {
      on = on;
      jobs_are = jobs_new;
      given_are = given_new;
      left = ap (λ s. for_each (post_job x) (filter pick (drop next (names_of js))) s) pulling_is
          ∙ (ap (λ es. for_each (post_job x) es (post_job x e now.pulling)) (sym passed) ∙ (ap (λ es. for_each (post_job x) es now.pulling) (sym was) ∙ p.left));
      within = within;
      given_is = it;
    }

pub posting_ends : (x : Incarnation) (start now : Cluster) (a b : List Fact) (job : ℕ) → length (jobs start.pulling.told) ≤ job → Posting x start now a b job → Leads (for_each (post_job x) (given_to x start.pulling.told)) start now a b
posting_ends x start now a b job past p = on_is (for_each (post_job x) (given_to x start.pulling.told)) start now a b
    (ap (λ es. for_each (post_job x) (filter (λ e. is_at x (given e start.pulling.told)) es) now.pulling) (sym (drop_all (jobs start.pulling.told) job past)) ∙ p.left) p.on
