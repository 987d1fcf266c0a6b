-- Steps that lead on, one after another.
use Rattle.std.proofs.Common.{◌≡◌, sym, ap, ◌∙◌, refl}
use Rattle.std.specs.Prelude.{List, [], ◌++◌}
use Rattle.std.proofs.lemmas.List.{append-nil, append_assoc}
use Rattle.yard_model.specs.declared.fact.Fact.{Fact}
use Rattle.yard_model.specs.Script.{Script}
use Rattle.pull_laws.specs.Pulling.{Pulling, Step, in_turn}
use Rattle.pull_cluster.specs.Cluster.{Cluster, Leads}
use Rattle.work_pulling.specs.Loops.{On}

-- what does nothing here leads nowhere
pub leads_still : (p : Step) (k : Cluster) (out : List Fact) → p k.pulling ≡ k.pulling → Leads p k k out out
leads_still p k out e =
    let with_pulling : Pulling → Cluster = λ s. record { script = k.script; pulling = s } in
    record { new_is = ap with_pulling (sym e); facts = []; told_is = ap (λ s. s.told) e ∙ sym (append-nil k.pulling.told); out_is = sym (append-nil out) }

-- a step that is the same here
pub leads_as : (p q : Step) (a b : Cluster) (x y : List Fact) → p a.pulling ≡ q a.pulling → Leads p a b x y → Leads q a b x y
leads_as p q a b x y e l =
    let with_pulling : Pulling → Cluster = λ s. record { script = a.script; pulling = s } in
    record { new_is = l.new_is ∙ ap with_pulling e; facts = l.facts; told_is = ap (λ s. s.told) (sym e) ∙ l.told_is; out_is = l.out_is }

-- one step and then another
pub leads_then : (p q : Step) (a b d : Cluster) (x y z : List Fact) → Leads p a b x y → Leads q b d y z → Leads (in_turn p q) a d x z
leads_then p q a b d x y z l m =
    let s : b.pulling ≡ p a.pulling = ap (λ k. k.pulling) l.new_is in
    let c : b.script ≡ a.script = ap (λ k. k.script) l.new_is in
    let with_script : Script → Cluster = λ w. record { script = w; pulling = q b.pulling } in
    let with_pulling : Pulling → Cluster = λ w. record { script = a.script; pulling = q w } in
    record {
      new_is = m.new_is ∙ (ap with_script c ∙ ap with_pulling s);
      facts = l.facts ++ m.facts;
      told_is = ap (λ w. (q w).told) (sym s) ∙ (m.told_is ∙ (ap (λ w. w.told ++ m.facts) s ∙ (ap (λ t. t ++ m.facts) l.told_is ∙ append_assoc a.pulling.told l.facts m.facts)));
      out_is = m.out_is ∙ (ap (λ t. t ++ m.facts) l.out_is ∙ append_assoc x l.facts m.facts);
    }

-- some steps, and one more
pub on_then : (q : Step) (a b d : Cluster) (x y z : List Fact) → On a b x y → Leads q b d y z → On a d x z
on_then q a b d x y z l m = leads_as (in_turn (λ s. b.pulling) q) (λ s. d.pulling) a d x z (sym (ap (λ k. k.pulling) m.new_is)) (leads_then (λ s. b.pulling) q a b d x y z l m)

pub on_none : (a : Cluster) (x : List Fact) → On a a x x
on_none a x = leads_still (λ s. a.pulling) a x refl

-- what was reached is what a step leads to
pub on_is : (p : Step) (a b : Cluster) (x y : List Fact) → b.pulling ≡ p a.pulling → On a b x y → Leads p a b x y
on_is p a b x y e l = leads_as (λ s. b.pulling) p a b x y e l

pub same_script : (a b : Cluster) (x y : List Fact) → On a b x y → b.script ≡ a.script
same_script a b x y l = ap (λ k. k.script) l.new_is
