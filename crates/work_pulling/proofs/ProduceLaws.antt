-- The jobs that wait are queued when the producer begins to run.
use Rattle.std.proofs.Common.{◌≡◌, ℕ, suc, ◌+◌, ◌<◌, ◌≤◌, sym, ap, ◌∙◌, refl, length, arith}
use Rattle.std.specs.Prelude.{false, List, [], ◌∷◌, drop, if◌then◌else◌}
use Rattle.yard_model.specs.declared.charter.Sending.{Sending}
use Rattle.yard_model.specs.declared.fact.Fact.{Fact}
use Rattle.yard_model.specs.declared.fact.Fact.TheVariants as fact
use Rattle.yard_model.specs.declared.incarnation.Slot.TheVariants as slot
use Rattle.yard_model.specs.SlotReads.{epoch}
use Rattle.pull_laws.specs.Pulled.{queue, is_running, waiting}
use Rattle.pull_laws.specs.Pulling.{for_each, nothing, in_turn, queue_job, take_queue, produce}
use Rattle.pull_laws.proofs.Sound.{waiting_more, running_more}
use Rattle.pull_cluster.specs.Cluster.{Cluster, Leads}
use Rattle.work_pulling.specs.Loops.{Queueing}
use Rattle.work_pulling.proofs.LeadsLaws.{on_then, on_none, on_is}

pub queueing_begins : (start first : Cluster) (x y : List Fact) (n end : ℕ) → Leads (take_queue n) start first x y → length (waiting first.pulling.told) ≡ end → Queueing start first first x y 0 end
queueing_begins start first x y n end l many = record {
  on = on_then (take_queue n) start start first x x y (on_none start x) l;
  runs = ap (λ s. is_running s.told) (ap (λ k. k.pulling) l.new_is) ∙ running_more start.pulling.told (fact.Granted (slot.Queue 1) (epoch (queue start.pulling.told) + 1) (record { node = n; number = epoch (queue start.pulling.told) + 1 }));
  left = refl;
  many = zero_more (length (waiting first.pulling.told)) ∙ many;
}
  where
    zero_more : (n : ℕ) → 0 + n ≡ n
    zero_more n = omega arith

pub queueing_next : (start first now new : Cluster) (x y z : List Fact) (count end : ℕ) → Queueing start first now x y count end → count < end
    → ((j : Sending) (left : List Sending) → waiting now.pulling.told ≡ j ∷ left → Leads (queue_job j) now new y z) → Queueing start first new x z (count + 1) end
queueing_next start first now new x y z count end q lt l = by (waiting now.pulling.told) refl
  where
    none_left : (n m : ℕ) → n < m → n + 0 ≡ m → ⊥
    none_left n m lt e = omega (arith, lt, e)

    moved : (n k m : ℕ) → n + suc k ≡ m → n + 1 + k ≡ m
    moved n k m e = omega (arith, e)

    by : (ws : List Sending) → waiting now.pulling.told ≡ ws → Queueing start first new x z (count + 1) end
    by [] e = absurd (none_left count end lt (ap (λ w. count + length w) (sym e) ∙ q.many))
    by (j ∷ js) e =
        let m : Leads (queue_job j) now new y z = l j js e in
        let is : new.pulling ≡ queue_job j now.pulling = ap (λ k. k.pulling) m.new_is in
        let f : Fact = fact.Queued 1 j.entity 1 j.command in
        let waits : waiting new.pulling.told ≡ js = ap (λ s. waiting s.told) is ∙ (waiting_more now.pulling.told f ∙ ap dropped e) in
        record {
          on = on_then (queue_job j) start now new x y z q.on m;
          runs = ap (λ s. is_running s.told) is ∙ (running_more now.pulling.told f ∙ q.runs);
          left = ap (λ w. for_each queue_job w new.pulling) waits ∙ (ap (λ s. for_each queue_job js s) is ∙ (ap (λ w. for_each queue_job w now.pulling) (sym e) ∙ q.left));
          many = ap (λ w. count + 1 + length w) waits ∙ moved count (length js) end (ap (λ w. count + length w) (sym e) ∙ q.many);
        }
      where
        dropped : List Sending → List Sending
        dropped w = drop 1 w

-- some wait
pub queueing_some : (start first now : Cluster) (x y : List Fact) (count end : ℕ) → Queueing start first now x y count end → count < end → 0 < length (waiting now.pulling.told)
queueing_some start first now x y count end q lt = omega (arith, lt, q.many)

pub queueing_ends : (start first now : Cluster) (x y z : List Fact) (n count end : ℕ) → is_running start.pulling.told ≡ false → Leads (take_queue n) start first x y → Queueing start first now x z count end → end ≤ count → Leads (produce n) start now x z
queueing_ends start first now x y z n count end rests l q past = on_is (produce n) start now x z (all (waiting now.pulling.told) refl ∙ (q.left ∙ whole)) q.on
  where
    none_left : (n m k : ℕ) → n + suc k ≡ m → m ≤ n → ⊥
    none_left n m k e le = omega (arith, e, le)

    all : (ws : List Sending) → waiting now.pulling.told ≡ ws → now.pulling ≡ for_each queue_job (waiting now.pulling.told) now.pulling
    all [] e = ap (λ w. for_each queue_job w now.pulling) (sym e)
    all (j ∷ js) e = absurd (none_left count end (length js) (ap (λ w. count + length w) (sym e) ∙ q.many) past)

    is : first.pulling ≡ take_queue n start.pulling
    is = ap (λ k. k.pulling) l.new_is

    waits : waiting first.pulling.told ≡ waiting start.pulling.told
    waits = ap (λ s. waiting s.told) is ∙ waiting_more start.pulling.told (fact.Granted (slot.Queue 1) (epoch (queue start.pulling.told) + 1) (record { node = n; number = epoch (queue start.pulling.told) + 1 }))

    whole : for_each queue_job (waiting first.pulling.told) first.pulling ≡ produce n start.pulling
    whole = ap (λ w. for_each queue_job w first.pulling) waits ∙ (ap (λ s. for_each queue_job (waiting start.pulling.told) s) is ∙ sym (ap (λ b. if b then nothing start.pulling else in_turn (take_queue n) (for_each queue_job (waiting start.pulling.told)) start.pulling) rests))
