-- What a fact leaves as it is.
use Rattle.std.proofs.Common.{◌≡◌, ℕ, ◌+◌, ◌<◌, sym, ap, ◌∙◌, refl, subst, length}
use Rattle.std.specs.Prelude.{Bool, true, List, [], ◌∷◌, ◌++◌, Some, Result, Ok, Err, OnOk, slice_get, if◌then◌else◌}
use Rattle.std.specs.declared.alloc.AllocError.{AllocError}
use Rattle.plain_laws.proofs.Booleans.{true_is_not_false}
use Rattle.plain_laws.proofs.Members.{last_among}
use Rattle.yard_model.specs.declared.incarnation.Incarnation.{Incarnation}
use Rattle.yard_model.specs.Words.{is_among}
use Rattle.yard_model.specs.declared.charter.Order.{Order}
use Rattle.yard_model.specs.declared.charter.Order.TheVariants as order
use Rattle.yard_model.specs.declared.fact.Fact.{Fact}
use Rattle.yard_model.specs.declared.fact.Fact.TheVariants as fact
use Rattle.yard_model.specs.Script.{sends}
use Rattle.std.proofs.lemmas.List.Sums.{fold_push}
use Rattle.yard_model.specs.SlotReads.{epoch}
use Rattle.pull_laws.specs.Pulled.{has_done, jobs, members, packet, waiting, number_step}
use Rattle.pull_laws.specs.Pulling.{Pulling, tell, in_turn, post, post_done, do_once, job, take_packet, deliver, nothing, where_some, play, play_input, input}
use Rattle.pull_laws.proofs.Sound.{jobs_more, members_more, waiting_more, running_more, queue_more}
use Rattle.pull_laws.proofs.Small.{if_keeps}
use Rattle.pull_laws.proofs.Steps.{is_quiet}
use Rattle.job_board.specs.declared.parcel.Parcel.{Parcel}
use Rattle.job_board.specs.declared.parcel.Parcel.TheVariants as parcel
use Rattle.pull_cluster.specs.Cluster.{Cluster, Leads, IsOfJobs, name_at, parcel_fact}
use Rattle.work_pulling.specs.Orders.{IsNext}
use Rattle.work_pulling.proofs.LeadsLaws.{leads_as, leads_then}

-- a fact of jobs that are there
abbrev pub is_still : Fact → Bool
is_still (fact.Given e x) = true
is_still f = is_quiet f

pub jobs_stay : (t : List Fact) (f : Fact) → is_still f ≡ true → jobs (t ++ f ∷ []) ≡ jobs t
jobs_stay t (fact.Queued p e n c) q = absurd (true_is_not_false (sym q))
jobs_stay t f q = jobs_more t f

pub told_jobs : (f : Fact) (a b : Cluster) (x y : List Fact) (n : ℕ) → is_still f ≡ true → Leads (tell f) a b x y → n < length (jobs a.pulling.told) → n < length (jobs b.pulling.told)
told_jobs f a b x y n q l lt = subst (λ js. n < length js) (sym (ap (λ k. jobs k.pulling.told) l.new_is ∙ jobs_stay a.pulling.told f q)) lt

pub told_parcel : (f : Fact) (a b : Cluster) (x y : List Fact) (p : Parcel) → is_still f ≡ true → Leads (tell f) a b x y → IsOfJobs a.pulling.told p → IsOfJobs b.pulling.told p
told_parcel f a b x y (parcel.Ask w) q l h = tt
told_parcel f a b x y (parcel.Job w i) q l h = told_jobs f a b x y i q l h
told_parcel f a b x y (parcel.Done w i) q l h = told_jobs f a b x y i q l h

pub on_ok : {T E : Type 0} (r : Result T E) (P Q : Type 0) → (P → Q) → OnOk r P → OnOk r Q
on_ok (Ok x) P Q h p = h p
on_ok (Err e) P Q h p = tt

-- a packet is delivered, and what follows on it
pub delivered : (r : Result (Unit {0}) AllocError) (k : ℕ) (p : Parcel) (a b d : Cluster) (x y z : List Fact) → packet k a.pulling.told ≡ Some (parcel_fact a.script k p) → Leads (tell (fact.Got k)) a b x y
    → OnOk r (Leads (take_packet (parcel_fact b.script k p)) b d y z) → OnOk r (Leads (deliver k) a d x z)
delivered r k p a b d x y z is l q = on_ok r (Leads (take_packet (parcel_fact b.script k p)) b d y z) (Leads (deliver k) a d x z) (λ m.
    let script_is : b.script ≡ a.script = ap (λ w. w.script) l.new_is in
    leads_as (in_turn (tell (fact.Got k)) (take_packet (parcel_fact a.script k p))) (deliver k) a d x z
    (sym (ap (λ o. where_some (λ f. in_turn (tell (fact.Got k)) (take_packet f)) nothing o a.pulling) is))
    (leads_then (tell (fact.Got k)) (take_packet (parcel_fact a.script k p)) a b d x y z l (subst (λ c. Leads (take_packet (parcel_fact c k p)) b d y z) script_is m))) q

-- an order may be played after `at` as before
pub next_still : (n : ℕ) (a b : Cluster) (x y : List Fact) (o : Order) → Leads (tell (fact.At n)) a b x y → IsNext a o → IsNext b o
next_still n a b x y o l h = subst (λ k. IsNext k o) (sym l.new_is) (by o h)
  where
    by : (o : Order) → IsNext a o → IsNext (record { script = a.script; pulling = tell (fact.At n) a.pulling }) o
    by (order.Send p e d) h = (
      ap (λ js. slice_get (sends a.script 1) (length js + length (waiting (a.pulling.told ++ fact.At n ∷ [])))) (jobs_more a.pulling.told (fact.At n))
          ∙ (ap (λ ws. slice_get (sends a.script 1) (length (jobs a.pulling.told) + length ws)) (waiting_more a.pulling.told (fact.At n)) ∙ h.0),
      λ r. waiting_more a.pulling.told (fact.At n) ∙ h.1 (sym (running_more a.pulling.told (fact.At n)) ∙ r),
    )
    by (order.Up m) h = subst (λ k. k < 4294967295) (sym (fold_push (number_step m) 0 a.pulling.told (fact.At n))) h
    by (order.Produce p m) h = (h.0, subst (λ q. epoch q < 4294967295) (sym (queue_more a.pulling.told (fact.At n))) h.1)
    by o h = h

-- an order that is one input
pub one_input : (o : Order) → ((k : ℕ) → o ≡ order.Pump k → ⊥) → (s : Pulling) → play o s ≡ input (play_input o) s
one_input (order.Pump k) h s = absurd (h k refl)
one_input o h s = refl

-- a worker that came up is up
pub came_up : (x : Incarnation) (a b : Cluster) (y z : List Fact) → Leads (tell (fact.Up x)) a b y z → is_among x (members b.pulling.told) ≡ true
came_up x a b y z l = ap (λ k. is_among x (members k.pulling.told)) l.new_is ∙ (ap (is_among x) (members_more a.pulling.told (fact.Up x)) ∙ last_among x (members a.pulling.told))

-- a worker does a job once, and posts that it is done
pub did_jobs : (x : Incarnation) (e : List ℕ) (i : ℕ) (a b : Cluster) (y z : List Fact) → Leads (do_once x e) a b y z → i < length (jobs a.pulling.told) → i < length (jobs b.pulling.told)
did_jobs x e i a b y z l lt = subst (λ js. i < length js) (sym (ap (λ k. jobs k.pulling.told) l.new_is ∙ same)) lt
  where
    same : jobs (do_once x e a.pulling).told ≡ jobs a.pulling.told
    same = if_keeps (λ u. jobs u.told ≡ jobs a.pulling.told) (has_done x e a.pulling.told) a.pulling (tell (fact.Did x e) a.pulling) (λ h. refl) (λ h. jobs_more a.pulling.told (fact.Did x e))

pub did_posted : (r : Result (Unit {0}) AllocError) (x : Incarnation) (i : ℕ) (a b d : Cluster) (v y z : List Fact) → is_among x (members a.pulling.told) ≡ true → Leads (do_once x (name_at a.script i)) a b v y
    → OnOk r (Leads (post (λ k. parcel_fact b.script k (parcel.Done x i))) b d y z) → OnOk r (Leads (job x (name_at a.script i)) a d v z)
did_posted r x i a b d v y z up l q =
    let e : List ℕ = name_at a.script i in
    let script_is : b.script ≡ a.script = ap (λ k. k.script) l.new_is in
    on_ok r (Leads (post (λ k. parcel_fact b.script k (parcel.Done x i))) b d y z) (Leads (job x e) a d v z)
    (λ m. leads_as (in_turn (do_once x e) (post_done x e)) (job x e) a d v z (sym (ap (λ t. if t then in_turn (do_once x e) (post_done x e) a.pulling else a.pulling) up))
    (leads_then (do_once x e) (post_done x e) a b d v y z l (subst (λ c. Leads (post (λ k. parcel_fact c k (parcel.Done x i))) b d y z) script_is m))) q
