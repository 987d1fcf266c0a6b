use Rattle.std.proofs.Common.{◌≡◌, ◌∙◌, ℕ, ◌+◌, sym, ap, refl, subst, [], ◌∷◌, ◌++◌, List}
use Rattle.std.specs.Prelude.{true, false}
use Rattle.yard_model.specs.declared.fact.Fact.{Fact}
use Rattle.yard_model.specs.declared.fact.Fact.TheVariants as fact
use Rattle.pull_cluster.specs.Cluster.{Cluster}
use Rattle.pull_cluster.specs.Kept.{IsKept}
use Rattle.yard_model.specs.declared.incarnation.Slot.TheVariants as slot
use Rattle.yard_model.specs.SlotReads.{epoch}
use Rattle.yard_model.specs.Lawful.{is_held}
use Rattle.pull_laws.specs.Pulled.{queue, is_running}
use Rattle.yard_model.specs.Script.{Script}
use Rattle.yard_model.specs.Behaviour.{is_in}
use Rattle.yard_model.specs.declared.incarnation.Incarnation.{Incarnation}
use Rattle.pull_laws.specs.Pulling.{tell, take_queue}
use Rattle.pull_cluster.proofs.KeptLaws.{kept_reserved, kept_granted, leads_as, seen_of, told_leads}
use Rattle.pull_cluster.proofs.cluster.Cluster.tell_granted.Goals as goal

pub grant-requires-clause-free : goal.grant-requires-clause-free
grant-requires-clause-free c = ap is_held (c.push_entry.ensures.entries ∙ c.self.invariant.queue_is.entries_are) ∙ subst (λ (k : Cluster). is_running k.pulling.told ≡ false) (sym c.self.view_is) c.requires.rests

pub grant-requires-clause-node : goal.grant-requires-clause-node
grant-requires-clause-node c = ap (λ (s : Script). is_in 1 s.config.nodes c.args.node) (c.push_entry.ensures.script ∙ c.self.invariant.queue_is.script_is) ∙ subst (λ (k : Cluster). is_in 1 k.script.config.nodes c.args.node ≡ true) (sym c.self.view_is) c.requires.node

pub invariant_of-self : goal.invariant_of-self
invariant_of-self c = kept_reserved c.self.inside.charter c.self.inside.producer c.self.inside.story.told c.self.inside.queue c.push_entry.new.queue c.self.inside.sent c.self.inside.board c.self.inside.doers c.self.inside.numbers c.self.inside.parcels c.push_entry.ensures.script c.push_entry.ensures.producer c.push_entry.ensures.entries c.self.invariant

pub invariant_of-self-2 : goal.invariant_of-self-2
invariant_of-self-2 c =
    let who : Incarnation = (record { node = c.args.node; number = c.epoch-number.result + 1 }) in
    let number : c.grant.result ≡ c.epoch-number.result + 1 = c.grant.ensures.epoch ∙ (ap (λ l. epoch l + 1) c.push_entry.ensures.entries ∙ ap (λ n. n + 1) (sym c.epoch-number.ensures)) in
    subst (λ (t : List Fact). IsKept c.self.inside.charter c.self.inside.producer t c.grant.new.self c.self.inside.sent c.forget_asks.new.self c.self.inside.doers c.self.inside.numbers c.self.inside.parcels) (sym c.tell.ensures)
    (kept_granted c.self.inside.charter c.self.inside.producer c.self.inside.story.told c.push_entry.new.queue c.grant.new.self c.self.inside.sent c.self.inside.board c.free_given.new.self c.forget_asks.new.self c.self.inside.doers c.self.inside.numbers c.self.inside.parcels (c.epoch-number.result + 1) who
    c.grant.ensures.script c.grant.ensures.producer (c.grant.ensures.entries ∙ ap (λ n. c.push_entry.new.queue.entries ++ fact.Granted (slot.Queue c.push_entry.new.queue.producer) n who ∷ []) number) c.free_given.ensures c.forget_asks.ensures
    (kept_reserved c.self.inside.charter c.self.inside.producer c.self.inside.story.told c.self.inside.queue c.push_entry.new.queue c.self.inside.sent c.self.inside.board c.self.inside.doers c.self.inside.numbers c.self.inside.parcels c.push_entry.ensures.script c.push_entry.ensures.producer c.push_entry.ensures.entries c.self.invariant))

pub returns : goal.returns
returns c =
    let with_number : ℕ → Fact = λ n. fact.Granted (slot.Queue 1) (n + 1) (record { node = c.args.node; number = n + 1 }) in
    let with_producer : ℕ → Fact = λ p. fact.Granted (slot.Queue p) (c.epoch-number.result + 1) (record { node = c.args.node; number = c.epoch-number.result + 1 }) in
    let same : with_producer c.self.inside.producer ≡ with_number (epoch (queue c.args.self.now.pulling.told)) = ap with_producer c.self.invariant.first_is ∙ ap with_number (c.epoch-number.ensures ∙ (ap epoch c.self.invariant.queue_is.entries_are ∙ ap (λ (k : Cluster). epoch (queue k.pulling.told)) c.self.view_is)) in
    leads_as (tell (with_number (epoch (queue c.args.self.now.pulling.told)))) (take_queue c.args.node) c.args.self.now (seen_of c.self.inside.charter c.tell.new.self.told c.self.inside.full) c.args.out.now c.push_entry.new.out refl
    (told_leads c.self.inside.charter c.self.inside.story.told c.tell.new.self.told c.self.inside.full (with_number (epoch (queue c.args.self.now.pulling.told))) c.args.self.now c.args.out.now c.push_entry.new.out c.self.view_is (c.tell.ensures ∙ ap (λ f. c.self.inside.story.told ++ f ∷ []) same) (c.in_ok-push_entry.ensures.out ∙ ap (λ f. c.args.out.now ++ f ∷ []) same))
