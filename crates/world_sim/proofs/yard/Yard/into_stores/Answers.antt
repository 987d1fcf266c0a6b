use Rattle.std.proofs.Common.{◌≡◌, refl, ap, sym, ◌∙◌, subst}
use Rattle.yard_model.specs.Script.{Script}
use Rattle.shard_store.specs.Stores.{lists_at}
use Rattle.world_sim.specs.Played.{AreFreed}
use Rattle.world_sim.specs.Stopped.{IsQuiet, IsStopped}
use Rattle.world_sim.proofs.StoresLaws.{all_free, none_leased, lists_home}
use Rattle.world_sim.proofs.yard.Yard.into_stores.Goals as goal

pub into_home-requires : goal.into_home-requires
into_home-requires g c =
    let w = c.requires.world.0 in
    let r = c.in-Ok.ensures.stopped w c.requires.world.1 in
    none_leased c.stop.new.self.book c.stop.new.self w.lists r.0 refl (subst (λ (x : Script). IsStopped (IsQuiet w) x.config.nodes w.lists c.stop.new.self r.0) (sym c.stop.ensures.script) r.1)

pub returns-in-Ok-clause-lists : goal.returns-in-Ok-clause-lists
returns-in-Ok-clause-lists g c = λ w f.
    let r = c.in-Ok.ensures.stopped w f in
    let stopped : IsStopped (IsQuiet w) c.stop.new.self.script.config.nodes w.lists c.stop.new.self r.0 = subst (λ (x : Script). IsStopped (IsQuiet w) x.config.nodes w.lists c.stop.new.self r.0) (sym c.stop.ensures.script) r.1 in
    let home : r.0.lists ≡ lists_at c.args.self.script.config c.into_home.result.1.places =
    sym (lists_home c.stop.new.self.book c.stop.new.self w.lists r.0 refl stopped)
    ∙ (ap (λ (x : Script). lists_at x.config c.stop.new.self.book.places) c.stop.ensures.script
    ∙ ap (lists_at c.args.self.script.config) (sym c.into_home.ensures.places)) in
    subst (AreFreed c.args.self.script w.lists) home (subst (λ (x : Script). AreFreed x w.lists r.0.lists) c.stop.ensures.script (all_free c.stop.new.self w.lists r.0 stopped))

pub returns-in-Ok-clause-script : goal.returns-in-Ok-clause-script
returns-in-Ok-clause-script g c =
    let r = c.in-Ok.ensures.stopped c.requires.world.0 c.requires.world.1 in
    c.into_home.ensures.script ∙ (r.1.firm_is.seen_is.book_is ∙ c.stop.ensures.script)

pub returns-in-Ok-clause-charter : goal.returns-in-Ok-clause-charter
returns-in-Ok-clause-charter g c = c.into_home.ensures.charter ∙ c.stop.ensures.script

pub returns-in-Ok-clause-same : goal.returns-in-Ok-clause-same
returns-in-Ok-clause-same g c = λ w f q.
    let r = c.in-Ok.ensures.stopped w f in
    let stopped : IsStopped (IsQuiet w) c.stop.new.self.script.config.nodes w.lists c.stop.new.self r.0 = subst (λ (x : Script). IsStopped (IsQuiet w) x.config.nodes w.lists c.stop.new.self r.0) (sym c.stop.ensures.script) r.1 in
    let home : r.0.lists ≡ lists_at c.args.self.script.config c.into_home.result.1.places =
    sym (lists_home c.stop.new.self.book c.stop.new.self w.lists r.0 refl stopped)
    ∙ (ap (λ (x : Script). lists_at x.config c.stop.new.self.book.places) c.stop.ensures.script
    ∙ ap (lists_at c.args.self.script.config) (sym c.into_home.ensures.places)) in
    sym home ∙ (stopped.still q).0
