-- Packets are delivered one after another, the lowest first.
use Rattle.std.proofs.Common.{◌≡◌, ℕ, zero, suc, ◌+◌, ◌-◌, ◌<◌, ◌≤◌, sym, ap, ◌∙◌, refl, arith}
use Rattle.std.specs.Prelude.{Bool, true, false, List, [], ◌∷◌, Some, None, if◌then◌else◌}
use Rattle.plain_laws.proofs.Lists.{none_is_not_some, some_is}
use Rattle.yard_model.specs.declared.fact.Fact.{Fact}
use Rattle.yard_model.specs.Words.{is_empty}
use Rattle.pull_laws.specs.Pulled.{fresh}
use Rattle.pull_laws.specs.Pulling.{Pulling, none, nothing, input, go_on, deliver, deliver_next, drain, pump}
use Rattle.pull_cluster.specs.Cluster.{Cluster, Leads}
use Rattle.job_board.specs.Parcels.{lowest}
use Rattle.work_pulling.specs.Loops.{On, Draining}
use Rattle.work_pulling.proofs.LeadsLaws.{on_then, on_none, on_is}

pub none_lowest : (ks : List ℕ) → lowest ks ≡ None → ks ≡ []
none_lowest [] e = refl
none_lowest (k ∷ ks) e = absurd (none_is_not_some k (sym e))

pub some_lowest : (ks : List ℕ) (k : ℕ) → lowest ks ≡ Some k → (rest : List ℕ) × (ks ≡ k ∷ rest)
some_lowest [] k e = absurd (none_is_not_some k e)
some_lowest (j ∷ ks) k e = (ks, ap (λ i. i ∷ ks) (some_is j k e))

-- nothing is left
drains_none : (m : ℕ) (s : Pulling) → fresh s.told ≡ [] → drain m s ≡ s
drains_none zero s e = refl
drains_none (suc m) s e = ap (λ ks. go_on (deliver_next ks) (drain m) s) e ∙ by (drains_none m s e) s.full
  where
    by : drain m s ≡ s → (b : Bool) → (if b then s else drain m s) ≡ s
    by rest true = refl
    by rest false = rest

-- one more
drains_next : (m k : ℕ) (s : Pulling) → lowest (fresh s.told) ≡ Some k → drain (suc m) s ≡ go_on (input (deliver k)) (drain m) s
drains_next m k s e = let found : (rest : List ℕ) × (fresh s.told ≡ k ∷ rest) = some_lowest (fresh s.told) k e in ap (λ ks. go_on (deliver_next ks) (drain m) s) found.1

pub draining_begins : (start : Cluster) (x : List Fact) (end : ℕ) → Draining start start x x 0 end
draining_begins start x end = record { on = on_none start x; left = λ m e. ap (λ n. drain n start.pulling) (alone m end e) }
  where
    alone : (m n : ℕ) → 0 + m ≡ n → m ≡ n
    alone m n e = omega (arith, e)

-- what is delivered next
after_one : (now mid new : Cluster) (x y z : List Fact) (k : ℕ) → Leads (deliver k) now mid x y → Leads (input none) mid new y z → new.pulling ≡ input (deliver k) now.pulling
after_one now mid new x y z k l m = ap (λ c. c.pulling) m.new_is ∙ ap (λ c. input none c.pulling) l.new_is

pub draining_next : (start now mid new : Cluster) (w x y z : List Fact) (k count end : ℕ) → Draining start now w x count end → lowest (fresh now.pulling.told) ≡ Some k → Leads (deliver k) now mid x y → Leads (input none) mid new y z → new.pulling.full ≡ false → Draining start new w z (count + 1) end
draining_next start now mid new w x y z k count end d low l m going = record {
  on = on_then (input none) start mid new w y z (on_then (deliver k) start now mid w x y d.on l) m;
  left = λ n e. sym (goes n) ∙ (sym (drains_next n k now.pulling low) ∙ d.left (suc n) (moved n e));
}
  where
    is : new.pulling ≡ input (deliver k) now.pulling
    is = after_one now mid new x y z k l m

    moved : (n : ℕ) → count + 1 + n ≡ end → count + suc n ≡ end
    moved n e = omega (arith, e)

    goes : (n : ℕ) → go_on (input (deliver k)) (drain n) now.pulling ≡ drain n new.pulling
    goes n = ap (λ (t : Pulling). if t.full then t else drain n t) (sym is) ∙ ap (λ b. if b then new.pulling else drain n new.pulling) going

-- the trace stops
pub draining_full : (start now mid new : Cluster) (w x y z : List Fact) (k count end : ℕ) → Draining start now w x count end → count < end → lowest (fresh now.pulling.told) ≡ Some k → Leads (deliver k) now mid x y → Leads (input none) mid new y z → new.pulling.full ≡ true
    → (On start new w z) × (new.pulling ≡ drain end start.pulling)
draining_full start now mid new w x y z k count end d lt low l m full = (
  on_then (input none) start mid new w y z (on_then (deliver k) start now mid w x y d.on l) m,
  sym stops ∙ (sym (drains_next (end - count - 1) k now.pulling low) ∙ d.left (suc (end - count - 1)) (omega (arith, lt))),
)
  where
    is : new.pulling ≡ input (deliver k) now.pulling
    is = after_one now mid new x y z k l m

    stops : go_on (input (deliver k)) (drain (end - count - 1)) now.pulling ≡ new.pulling
    stops = ap (λ (t : Pulling). if t.full then t else drain (end - count - 1) t) (sym is) ∙ ap (λ b. if b then new.pulling else drain (end - count - 1) new.pulling) full

-- the packets of a pump, where there is one
drained : (n : ℕ) (s : Pulling) → is_empty (fresh s.told) ≡ false → drain n s ≡ pump n s
drained n s e = sym (ap (λ b. if b then nothing s else drain n s) e)

pub some_fresh : (ks : List ℕ) → (lowest ks ≡ None → ⊥) → is_empty ks ≡ false
some_fresh [] h = absurd (h refl)
some_fresh (k ∷ ks) h = refl

pub pumped : (start now : Cluster) (x z : List Fact) (n : ℕ) → (lowest (fresh start.pulling.told) ≡ None → ⊥) → On start now x z → now.pulling ≡ drain n start.pulling → Leads (pump n) start now x z
pumped start now x z n some on is = on_is (pump n) start now x z (is ∙ drained n start.pulling (some_fresh (fresh start.pulling.told) some)) on

pub draining_empty : (start now : Cluster) (x z : List Fact) (count end : ℕ) → Draining start now x z count end → count ≤ end → lowest (fresh now.pulling.told) ≡ None → now.pulling ≡ drain end start.pulling
draining_empty start now x z count end d le low = sym (drains_none (end - count) now.pulling (none_lowest (fresh now.pulling.told) low)) ∙ d.left (end - count) (omega (arith, le))

pub draining_ends : (start now : Cluster) (x z : List Fact) (count end : ℕ) → Draining start now x z count end → count ≤ end → end ≤ count → now.pulling ≡ drain end start.pulling
draining_ends start now x z count end d le ge = d.left 0 (omega (arith, le, ge))
