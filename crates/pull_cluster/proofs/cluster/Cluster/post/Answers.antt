use Rattle.std.proofs.Common.{◌∙◌, ◌<◌, ◌≤◌, ◌+◌, sym, ap, subst, length, [], ◌∷◌, ◌++◌, List}
use Rattle.yard_model.specs.declared.fact.Fact.{Fact}
use Rattle.pull_cluster.specs.Cluster.{Cluster}
use Rattle.pull_cluster.specs.Kept.{IsKept}
use Rattle.yard_model.specs.World.{wire_limit}
use Rattle.pull_cluster.specs.Cluster.{MayPost, parcel_fact}
use Rattle.pull_cluster.proofs.KeptLaws.{kept_posted, known_of, jobs_of, full_leads, post_leads}
use Rattle.pull_cluster.proofs.cluster.Cluster.post.Goals as goal

pub fact_of-told-requires : goal.fact_of-told-requires
fact_of-told-requires c = jobs_of c.args.self.now.pulling.told c.args.parcel.now c.requires

pub invariant_of-self-2 : goal.invariant_of-self-2
invariant_of-self-2 c = subst (λ (t : List Fact). IsKept c.self.inside.charter c.self.inside.producer t c.self.inside.queue c.self.inside.sent c.self.inside.board c.self.inside.doers c.self.inside.numbers c.post.new.self) (sym (c.tell.ensures ∙ ap (λ f. c.self.inside.story.told ++ f ∷ []) (c.fact_of-told.ensures ∙ (ap (λ n. parcel_fact c.args.self.now.script (n + 1) c.args.parcel.now) c.len-count.ensures.value ∙ ap (λ (k : Cluster). parcel_fact k.script (length c.self.inside.parcels.posted + 1) c.args.parcel.now) (sym c.self.view_is)))))
    (kept_posted c.self.inside.charter c.self.inside.producer c.self.inside.story.told c.self.inside.queue c.self.inside.sent c.self.inside.board c.self.inside.doers c.self.inside.numbers c.self.inside.parcels c.post.new.self c.args.parcel.now c.in_ok-post.ensures.posted c.in_ok-post.ensures.fresh (known_of c.self.inside.story.told c.self.inside.board.seats c.args.parcel.now c.self.invariant.seats_are (subst (λ (k : Cluster). MayPost k.pulling.told c.args.parcel.now) (sym c.self.view_is) c.requires)) c.self.invariant)

pub returns-then-count-ge-LIMIT : goal.returns-then-count-ge-LIMIT
returns-then-count-ge-LIMIT c = full_leads c.self.inside.charter c.self.inside.story.told c.self.inside.full (λ k. parcel_fact c.args.self.now.script k c.args.parcel.now) c.self.inside.parcels c.args.self.now c.args.out.now c.self.view_is c.self.invariant.parcels_are (subst (λ n. wire_limit ≤ n) c.len-count.ensures.value c.if-count-ge-LIMIT.true)

pub returns : goal.returns
returns c = post_leads c.self.inside.charter c.self.inside.story.told c.tell.new.self.told c.self.inside.full c.args.parcel.now c.self.inside.parcels c.args.self.now c.args.out.now c.push_copy.new.self c.self.view_is c.self.invariant.parcels_are (subst (λ n. n < wire_limit) c.len-count.ensures.value c.if-count-ge-LIMIT.false) (c.tell.ensures ∙ ap (λ f. c.self.inside.story.told ++ f ∷ []) (c.fact_of-told.ensures ∙ (ap (λ n. parcel_fact c.args.self.now.script (n + 1) c.args.parcel.now) c.len-count.ensures.value ∙ ap (λ (k : Cluster). parcel_fact k.script (length c.self.inside.parcels.posted + 1) c.args.parcel.now) (sym c.self.view_is)))) (c.in_ok-push_copy.ensures.ok ∙ ap (λ f. c.args.out.now ++ f ∷ []) (c.fact_of-told.ensures ∙ (ap (λ n. parcel_fact c.args.self.now.script (n + 1) c.args.parcel.now) c.len-count.ensures.value ∙ ap (λ (k : Cluster). parcel_fact k.script (length c.self.inside.parcels.posted + 1) c.args.parcel.now) (sym c.self.view_is))))
