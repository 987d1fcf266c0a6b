use Rattle.std.proofs.Common.{◌≡◌, ◌∙◌, ◌<◌, sym, ap, subst, length, [], ◌∷◌, ◌++◌, List}
use Rattle.std.specs.Prelude.{true}
use Rattle.yard_model.specs.declared.fact.Fact.{Fact}
use Rattle.yard_model.specs.declared.fact.Fact.TheVariants as fact
use Rattle.pull_cluster.specs.Cluster.{Cluster}
use Rattle.pull_cluster.specs.Kept.{IsKept}
use Rattle.yard_model.specs.Words.{is_among}
use Rattle.pull_laws.specs.Pulled.{jobs, members, is_free}
use Rattle.pull_cluster.specs.Cluster.{name_at}
use Rattle.pull_cluster.proofs.SeatLaws.{whos_are}
use Rattle.pull_cluster.proofs.StateLaws.{states_long, free_at}
use Rattle.pull_cluster.proofs.KeptLaws.{kept_given, job_here, load_fits, told_leads}
use Rattle.pull_cluster.proofs.cluster.Cluster.tell_given.Goals as goal

pub give-requires-clause-within : goal.give-requires-clause-within
give-requires-clause-within c = subst (λ n. c.args.job < n) (sym (states_long c.self.inside.charter c.self.inside.story.told c.self.inside.board.states c.self.invariant.states_are)) (job_here c.self.inside.charter c.self.inside.story.told c.self.inside.queue c.self.inside.sent c.args.job c.self.invariant.queue_is (subst (λ (k : Cluster). c.args.job < length (jobs k.pulling.told)) (sym c.self.view_is) c.requires.queued))

pub give-requires-clause-free : goal.give-requires-clause-free
give-requires-clause-free c = free_at c.self.inside.charter c.self.inside.story.told c.self.inside.board.states c.args.job c.self.invariant.states_are (job_here c.self.inside.charter c.self.inside.story.told c.self.inside.queue c.self.inside.sent c.args.job c.self.invariant.queue_is (subst (λ (k : Cluster). c.args.job < length (jobs k.pulling.told)) (sym c.self.view_is) c.requires.queued)) (subst (λ (k : Cluster). is_free (name_at k.script c.args.job) k.pulling.told ≡ true) (sym c.self.view_is) c.requires.free)

pub give-requires-clause-up : goal.give-requires-clause-up
give-requires-clause-up c = ap (is_among c.args.who.now) (whos_are c.self.inside.story.told c.self.inside.board.seats c.self.invariant.seats_are) ∙ subst (λ (k : Cluster). is_among c.args.who.now (members k.pulling.told) ≡ true) (sym c.self.view_is) c.requires.up

pub give-requires-clause-few : goal.give-requires-clause-few
give-requires-clause-few c = load_fits c.self.inside.charter c.self.inside.story.told c.self.inside.board.states c.args.who.now c.self.invariant.pulled_is c.self.invariant.states_are

pub invariant_of-self : goal.invariant_of-self
invariant_of-self c = subst (λ (t : List Fact). IsKept c.self.inside.charter c.self.inside.producer t c.self.inside.queue c.self.inside.sent c.give.new.self c.self.inside.doers c.self.inside.numbers c.self.inside.parcels) (sym (c.tell.ensures ∙ ap (λ n. c.self.inside.story.told ++ fact.Given n c.args.who.now ∷ []) (c.name.ensures.value ∙ ap (λ (k : Cluster). name_at k.script c.args.job) (sym c.self.view_is))))
    (kept_given c.self.inside.charter c.self.inside.producer c.self.inside.story.told c.self.inside.queue c.self.inside.sent c.self.inside.board c.give.new.self c.self.inside.doers c.self.inside.numbers c.self.inside.parcels c.args.job c.args.who.now (subst (λ (k : Cluster). c.args.job < length (jobs k.pulling.told)) (sym c.self.view_is) c.requires.queued) (subst (λ (k : Cluster). is_free (name_at k.script c.args.job) k.pulling.told ≡ true) (sym c.self.view_is) c.requires.free) c.give.ensures c.self.invariant)

pub returns : goal.returns
returns c = told_leads c.self.inside.charter c.self.inside.story.told c.tell.new.self.told c.self.inside.full (fact.Given (name_at c.args.self.now.script c.args.job) c.args.who.now) c.args.self.now c.args.out.now c.push_copy.new.self c.self.view_is (c.tell.ensures ∙ ap (λ n. c.self.inside.story.told ++ fact.Given n c.args.who.now ∷ []) c.name.ensures.value) (c.in_ok-push_copy.ensures.ok ∙ ap (λ n. c.args.out.now ++ fact.Given n c.args.who.now ∷ []) c.name.ensures.value)
