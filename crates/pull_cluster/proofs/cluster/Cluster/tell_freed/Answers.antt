use Rattle.std.proofs.Common.{◌≡◌, ◌∙◌, ℕ, sym, ap, subst, [], ◌∷◌, ◌++◌, List}
use Rattle.std.specs.Prelude.{true}
use Rattle.yard_model.specs.declared.fact.Fact.{Fact}
use Rattle.yard_model.specs.declared.fact.Fact.TheVariants as fact
use Rattle.pull_cluster.specs.Cluster.{Cluster}
use Rattle.pull_cluster.specs.Kept.{IsKept}
use Rattle.yard_model.specs.declared.incarnation.Slot.TheVariants as slot
use Rattle.yard_model.specs.declared.incarnation.Cause.TheVariants as cause
use Rattle.yard_model.specs.SlotReads.{epoch}
use Rattle.yard_model.specs.Lawful.{is_held}
use Rattle.pull_laws.specs.Pulled.{queue, is_running}
use Rattle.pull_cluster.proofs.KeptLaws.{kept_reserved, kept_freed, told_leads}
use Rattle.pull_cluster.proofs.cluster.Cluster.tell_freed.Goals as goal

pub free-requires-clause-leased : goal.free-requires-clause-leased
free-requires-clause-leased c = ap is_held (c.push_entry.ensures.entries ∙ c.self.invariant.queue_is.entries_are) ∙ subst (λ (k : Cluster). is_running k.pulling.told ≡ true) (sym c.self.view_is) c.requires

pub invariant_of-self : goal.invariant_of-self
invariant_of-self c = kept_reserved c.self.inside.charter c.self.inside.producer c.self.inside.story.told c.self.inside.queue c.push_entry.new.queue c.self.inside.sent c.self.inside.board c.self.inside.doers c.self.inside.numbers c.self.inside.parcels c.push_entry.ensures.script c.push_entry.ensures.producer c.push_entry.ensures.entries c.self.invariant

pub invariant_of-self-2 : goal.invariant_of-self-2
invariant_of-self-2 c =
    subst (λ (t : List Fact). IsKept c.self.inside.charter c.self.inside.producer t c.free.new.self c.self.inside.sent c.free_given.new.self c.self.inside.doers c.self.inside.numbers c.self.inside.parcels) (sym c.tell.ensures)
    (kept_freed c.self.inside.charter c.self.inside.producer c.self.inside.story.told c.push_entry.new.queue c.free.new.self c.self.inside.sent c.self.inside.board c.free_given.new.self c.self.inside.doers c.self.inside.numbers c.self.inside.parcels c.epoch.result
    c.free.ensures.script c.free.ensures.producer (c.free.ensures.entries ∙ ap (λ n. c.push_entry.new.queue.entries ++ fact.Freed (slot.Queue c.push_entry.new.queue.producer) n cause.Released ∷ []) (ap epoch c.push_entry.ensures.entries ∙ sym c.epoch.ensures)) c.free_given.ensures
    (kept_reserved c.self.inside.charter c.self.inside.producer c.self.inside.story.told c.self.inside.queue c.push_entry.new.queue c.self.inside.sent c.self.inside.board c.self.inside.doers c.self.inside.numbers c.self.inside.parcels c.push_entry.ensures.script c.push_entry.ensures.producer c.push_entry.ensures.entries c.self.invariant))

pub returns : goal.returns
returns c =
    let with_producer : ℕ → Fact = λ p. fact.Freed (slot.Queue p) c.epoch.result cause.Released in
    let same : with_producer c.self.inside.producer ≡ fact.Freed (slot.Queue 1) (epoch (queue c.args.self.now.pulling.told)) cause.Released = ap with_producer c.self.invariant.first_is ∙ ap (λ n. fact.Freed (slot.Queue 1) n cause.Released) (c.epoch.ensures ∙ (ap epoch c.self.invariant.queue_is.entries_are ∙ ap (λ (k : Cluster). epoch (queue k.pulling.told)) c.self.view_is)) in
    told_leads c.self.inside.charter c.self.inside.story.told c.tell.new.self.told c.self.inside.full (fact.Freed (slot.Queue 1) (epoch (queue c.args.self.now.pulling.told)) cause.Released) c.args.self.now c.args.out.now c.push_entry.new.out c.self.view_is (c.tell.ensures ∙ ap (λ f. c.self.inside.story.told ++ f ∷ []) same) (c.in_ok-push_entry.ensures.out ∙ ap (λ f. c.args.out.now ++ f ∷ []) same)
