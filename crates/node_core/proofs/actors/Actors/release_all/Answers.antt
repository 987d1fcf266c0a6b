use Rattle.std.proofs.Common.{◌≡◌, ◌<◌, length, sym, ap, subst, ◌∙◌, true, arith}
use Rattle.yard_model.specs.Genuine.{is_shard}
use Rattle.yard_model.specs.Region.{kept_of}
use Rattle.yard_model.specs.Script.{Script}
use Rattle.node_core.specs.Releasing.{LeavesRoom}
use Rattle.node_core.specs.Standing.{Standing}
use Rattle.node_core.proofs.ReleaseLaws.{releasing_first, releasing_next, released_all, room_left, some_left}
use Rattle.node_core.proofs.actors.Actors.release_all.Goals as goal

pub loop-init : goal.loop-init
loop-init g c = releasing_first c.args.out.now c.requires.routable c.requires.rooms c.requires.room

pub release_one-requires-clause-shard : goal.release_one-requires-clause-shard
release_one-requires-clause-shard g c = subst (λ (d : Script). is_shard d c.args.s ≡ true) (sym c.loop.invariant.went.script_is) c.requires.shard

pub release_one-requires-clause-routable : goal.release_one-requires-clause-routable
release_one-requires-clause-routable g c = c.loop.invariant.routable

pub release_one-requires-clause-rooms : goal.release_one-requires-clause-rooms
release_one-requires-clause-rooms g c =
    let all : c.kept_count-end.result ≡ length (kept_of c.args.self.now.state.region.kept c.args.s) = c.kept_count-end.ensures ∙ ap (λ (v : Standing). length (kept_of v.state.region.kept c.args.s)) c.self.view_is in
    (room_left (subst (λ n. c.loop.counter < n) all c.loop-test.true) c.loop.invariant).0

pub release_one-requires-clause-some : goal.release_one-requires-clause-some
release_one-requires-clause-some g c =
    let all : c.kept_count-end.result ≡ length (kept_of c.args.self.now.state.region.kept c.args.s) = c.kept_count-end.ensures ∙ ap (λ (v : Standing). length (kept_of v.state.region.kept c.args.s)) c.self.view_is in
    some_left (subst (λ n. c.loop.counter < n) all c.loop-test.true) c.loop.invariant

pub release_one-requires-clause-room : goal.release_one-requires-clause-room
release_one-requires-clause-room g c =
    let all : c.kept_count-end.result ≡ length (kept_of c.args.self.now.state.region.kept c.args.s) = c.kept_count-end.ensures ∙ ap (λ (v : Standing). length (kept_of v.state.region.kept c.args.s)) c.self.view_is in
    (room_left (subst (λ n. c.loop.counter < n) all c.loop-test.true) c.loop.invariant).1

pub loop-preserved : goal.loop-preserved
loop-preserved g c =
    let all : c.kept_count-end.result ≡ length (kept_of c.args.self.now.state.region.kept c.args.s) = c.kept_count-end.ensures ∙ ap (λ (v : Standing). length (kept_of v.state.region.kept c.args.s)) c.self.view_is in
    releasing_next (subst (λ n. c.loop.counter < n) all c.loop-test.true) c.loop.invariant c.release_one.ensures.went c.release_one.ensures.less c.release_one.ensures.room

pub returns-clause-went : goal.returns-clause-went
returns-clause-went g c =
    let all : c.kept_count-end.result ≡ length (kept_of c.args.self.now.state.region.kept c.args.s) = c.kept_count-end.ensures ∙ ap (λ (v : Standing). length (kept_of v.state.region.kept c.args.s)) c.self.view_is in
    let past = c.loop-test.false in
    let count = c.loop.invariant.count in
    let end : c.loop.counter ≡ length (kept_of c.args.self.now.state.region.kept c.args.s) = omega (arith, past, count, all) in
    released_all end c.requires.routable c.loop.invariant

pub returns-clause-leaves : goal.returns-clause-leaves
returns-clause-leaves g c =
    let all : c.kept_count-end.result ≡ length (kept_of c.args.self.now.state.region.kept c.args.s) = c.kept_count-end.ensures ∙ ap (λ (v : Standing). length (kept_of v.state.region.kept c.args.s)) c.self.view_is in
    let past = c.loop-test.false in
    let count = c.loop.invariant.count in
    let end : c.loop.counter ≡ length (kept_of c.args.self.now.state.region.kept c.args.s) = omega (arith, past, count, all) in
    subst (λ i. LeavesRoom c.args.s i c.args.self.now c.loop.self) end c.loop.invariant.leaves

pub returns-clause-spent : goal.returns-clause-spent
returns-clause-spent g c = c.loop.invariant.spent
