use Rattle.std.proofs.Common.{◌-◌, length, ap, sym, ◌∙◌, subst}
use Rattle.std.specs.Prelude.{slice_index_or}
use Rattle.yard_model.specs.Genuine.{is_producer}
use Rattle.yard_model.specs.Script.{Script, names_in}
use Rattle.world_sim.specs.Yard.{Yard, IsSound}
use Rattle.world_sim.proofs.LeftLaws.{place_in, left_is}
use Rattle.world_sim.proofs.yard.Yard.is_left.Goals as goal

pub count_at-ordered-requires : goal.count_at-ordered-requires
count_at-ordered-requires g c = place_in _ c.requires.world.0 c.args.p (subst (λ v. IsSound v c.requires.world.0) (sym c.self.view_is) c.requires.world.1) (ap (λ (v : Yard). is_producer v.script c.args.p) c.self.view_is ∙ c.requires.producer)

pub returns : goal.returns
returns g c = λ w s. c.is_left_in.ensures ∙ left_is c.args.self.now w c.args.p c.count_at-ordered.result (names_in c.queue-store.result.now.script.orders) c.queue-store.result.now.entries s (c.count_at-ordered.ensures ∙ ap (λ (v : Yard). slice_index_or v.ordered (c.args.p - 1) 0) c.self.view_is)
    (ap (λ (x : Script). names_in x.orders) c.queue-store.ensures.script) (c.queue-store.ensures.list w s)

-- so many names does the script of the queue bring
pub is_left_in-requires : goal.is_left_in-requires
is_left_in-requires g c = ap length c.names.ensures.value ∙ ap (λ (x : Script). length (names_in x.orders)) (ap (λ (v : Yard). v.script) c.self.view_is ∙ sym c.queue-store.ensures.script)
