use Rattle.std.proofs.Common.{◌≤◌, ◌∙◌, sym, subst, refl, arith}
use Rattle.yard_model.specs.Script.{Script}
use Rattle.node_core.proofs.CrashLaws.{ended, ready_ends, room_of_shards}
use Rattle.room_laws.proofs.Limits.{few_producers}
use Rattle.node_core.proofs.actors.Actors.end.Goals as goal

pub let_shards_go-requires-clause-ending : goal.let_shards_go-requires-clause-ending
let_shards_go-requires-clause-ending g c = ready_ends c.args.self.now c.args.out.now.spare c.requires.ready

pub let_office_go-requires-clause-ending : goal.let_office_go-requires-clause-ending
let_office_go-requires-clause-ending g c = c.let_shards_go.ensures.ending

pub let_office_go-requires-clause-room : goal.let_office_go-requires-clause-room
let_office_go-requires-clause-room g c =
    let room = room_of_shards c.args.self.now c.let_shards_go.new.self _ _ c.args.out.now c.let_shards_go.new.out c.args.self.now.script c.knows.ensures.script c.requires.ready.room refl c.let_shards_go.ensures in
    omega (arith, room)

pub let_queues_go-requires-clause-room : goal.let_queues_go-requires-clause-room
let_queues_go-requires-clause-room g c =
    let script : Script = c.args.self.now.script in
    let room = room_of_shards c.args.self.now c.let_shards_go.new.self _ _ c.args.out.now c.let_shards_go.new.out script c.knows.ensures.script c.requires.ready.room refl c.let_shards_go.ensures in
    let less = c.let_office_go.ensures.room in
    let few : c.let_office_go.new.self.script.config.producers ≤ 32 = subst (λ (d : Script). d.config.producers ≤ 32) (sym (c.let_office_go.ensures.script_is ∙ c.let_shards_go.ensures.script_is)) (few_producers script c.knows.ensures.script) in
    omega (arith, room, less, few)

pub let_queues_go-requires-clause-ending : goal.let_queues_go-requires-clause-ending
let_queues_go-requires-clause-ending g c = c.let_office_go.ensures.ending

pub returns : goal.returns
returns g c = ended c.args.self.now c.let_shards_go.new.self c.let_office_go.new.self c.let_queues_go.new.self _ _ _ _ c.args.out.now c.let_shards_go.new.out c.let_office_go.new.out c.let_queues_go.new.out c.knows.ensures.set c.let_shards_go.ensures c.let_office_go.ensures c.let_queues_go.ensures
