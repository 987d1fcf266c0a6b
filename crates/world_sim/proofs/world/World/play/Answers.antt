use Rattle.std.proofs.Common.{◌+◌, ap, sym, ◌∙◌, subst}
use Rattle.world_sim.specs.declared.fault.StepFault.TheVariants as fault
use Rattle.std.specs.Prelude.{slice_get, Some}
use Rattle.world_sim.specs.Played.{Played, Went, Filled, CutShort, LineSettles}
use Rattle.world_sim.specs.World.{given_in}
use Rattle.world_sim.proofs.WorldLaws.{backed_at, playing, of_playing, going_at, line_settles, seen, order_of_line, named_line, version_fits, ups_fit, ordered_fit, world_going, world_full, went, filled, cut_short}
use Rattle.world_sim.proofs.world.World.play.Goals as goal

pub play_line-requires-clause-world : goal.play_line-requires-clause-world
play_line-requires-clause-world g c = (_, backed_at c.standing_is_kept.ensures c.self.inside.script.value c.self.inside.yard c.self.inside.count c.self.inside.fault (playing c.self.inside.script.value (given_in c.self.inside.given) c.self.inside.yard c.self.inside.count c.self.inside.fault c.self.invariant (ap (λ (v : Played). v.given) c.self.view_is ∙ c.requires.new)) (ap (λ (v : Played). v.fault) c.self.view_is ∙ c.requires.going))

pub play_line-requires-clause-order : goal.play_line-requires-clause-order
play_line-requires-clause-order g c = order_of_line c.self.inside.script.value c.self.inside.yard c.self.inside.count c.self.inside.fault c.args.line.now (playing c.self.inside.script.value (given_in c.self.inside.given) c.self.inside.yard c.self.inside.count c.self.inside.fault c.self.invariant (ap (λ (v : Played). v.given) c.self.view_is ∙ c.requires.new)) (ap (λ (v : Played). v.fault) c.self.view_is ∙ c.requires.going)
    (ap (λ (v : Played). slice_get v.script.orders v.count) c.self.view_is ∙ c.requires.next)

pub play_line-requires-clause-named : goal.play_line-requires-clause-named
play_line-requires-clause-named g c = named_line c.self.inside.script.value c.self.inside.yard c.self.inside.count c.self.inside.fault c.args.line.now (playing c.self.inside.script.value (given_in c.self.inside.given) c.self.inside.yard c.self.inside.count c.self.inside.fault c.self.invariant (ap (λ (v : Played). v.given) c.self.view_is ∙ c.requires.new)) (ap (λ (v : Played). v.fault) c.self.view_is ∙ c.requires.going)
    (ap (λ (v : Played). slice_get v.script.orders v.count) c.self.view_is ∙ c.requires.next)

pub play_line-requires-clause-version : goal.play_line-requires-clause-version
play_line-requires-clause-version g c = version_fits c.self.inside.script.value c.self.inside.yard c.self.inside.count c.self.inside.fault c.args.line.now (playing c.self.inside.script.value (given_in c.self.inside.given) c.self.inside.yard c.self.inside.count c.self.inside.fault c.self.invariant (ap (λ (v : Played). v.given) c.self.view_is ∙ c.requires.new)) (ap (λ (v : Played). v.fault) c.self.view_is ∙ c.requires.going)
    (ap (λ (v : Played). slice_get v.script.orders v.count) c.self.view_is ∙ c.requires.next)

pub play_line-requires-clause-ups : goal.play_line-requires-clause-ups
play_line-requires-clause-ups g c = ups_fit c.self.inside.script.value c.self.inside.yard c.self.inside.count c.self.inside.fault c.args.line.now (playing c.self.inside.script.value (given_in c.self.inside.given) c.self.inside.yard c.self.inside.count c.self.inside.fault c.self.invariant (ap (λ (v : Played). v.given) c.self.view_is ∙ c.requires.new)) (ap (λ (v : Played). v.fault) c.self.view_is ∙ c.requires.going)
    (ap (λ (v : Played). slice_get v.script.orders v.count) c.self.view_is ∙ c.requires.next)

pub play_line-requires-clause-ordered : goal.play_line-requires-clause-ordered
play_line-requires-clause-ordered g c = ordered_fit c.self.inside.script.value c.self.inside.yard c.self.inside.count c.self.inside.fault c.args.line.now (playing c.self.inside.script.value (given_in c.self.inside.given) c.self.inside.yard c.self.inside.count c.self.inside.fault c.self.invariant (ap (λ (v : Played). v.given) c.self.view_is ∙ c.requires.new)) (ap (λ (v : Played). v.fault) c.self.view_is ∙ c.requires.going)
    (ap (λ (v : Played). slice_get v.script.orders v.count) c.self.view_is ∙ c.requires.next)

pub returns-in-Err-clause-answers : goal.returns-in-Err-clause-answers
returns-in-Err-clause-answers g c =
    let none = ap (λ (v : Played). v.fault) c.self.view_is ∙ c.requires.going in
    let e = c.in-Err.ensures in
    subst (λ (v : Played). CutShort v c.args.line.now c.args.out.now (record { script = c.self.inside.script.value; given = given_in c.self.inside.given; count = c.self.inside.count; fault = Some fault.OutOfMemory }) c.play_line.new.facts) c.self.view_is
    (cut_short c.self.inside.script.value (given_in c.self.inside.given) c.self.inside.count c.self.inside.fault c.args.line.now c.args.out.now c.play_line.new.facts none
    (e.told _ (backed_at c.standing_is_kept.ensures c.self.inside.script.value c.self.inside.yard c.self.inside.count c.self.inside.fault (playing c.self.inside.script.value (given_in c.self.inside.given) c.self.inside.yard c.self.inside.count c.self.inside.fault c.self.invariant (ap (λ (v : Played). v.given) c.self.view_is ∙ c.requires.new)) none)))

pub invariant_of-self-then-is_full : goal.invariant_of-self-then-is_full
invariant_of-self-then-is_full g c =
    let none = ap (λ (v : Played). v.fault) c.self.view_is ∙ c.requires.going in
    let e = c.in-Ok.ensures in
    of_playing c.self.inside.script.value (given_in c.self.inside.given) c.play_line.new.self (c.self.inside.count + 1) (Some fault.WireFull) (ap (λ (v : Played). v.given) c.self.view_is ∙ c.requires.new)
    (world_full c.standing_is_kept.ensures c.self.inside.script.value c.self.inside.yard c.play_line.new.self c.self.inside.count c.self.inside.fault c.args.line.now c.args.out.now c.play_line.new.facts (playing c.self.inside.script.value (given_in c.self.inside.given) c.self.inside.yard c.self.inside.count c.self.inside.fault c.self.invariant (ap (λ (v : Played). v.given) c.self.view_is ∙ c.requires.new)) none
    (ap (λ (v : Played). slice_get v.script.orders v.count) c.self.view_is ∙ c.requires.next)
    e
    (sym c.is_full.ensures ∙ c.if-is_full.true))

pub returns-then-is_full-clause-answers : goal.returns-then-is_full-clause-answers
returns-then-is_full-clause-answers g c =
    let none = ap (λ (v : Played). v.fault) c.self.view_is ∙ c.requires.going in
    let e = c.in-Ok.ensures in
    subst (λ (v : Played). Filled v c.args.line.now c.args.out.now (record { script = c.self.inside.script.value; given = given_in c.self.inside.given; count = c.self.inside.count + 1; fault = Some fault.WireFull }) c.play_line.new.facts) c.self.view_is
    (filled c.standing_is_kept.ensures c.self.inside.script.value (given_in c.self.inside.given) c.self.inside.yard c.play_line.new.self c.self.inside.count c.self.inside.fault c.args.line.now c.args.out.now c.play_line.new.facts (playing c.self.inside.script.value (given_in c.self.inside.given) c.self.inside.yard c.self.inside.count c.self.inside.fault c.self.invariant (ap (λ (v : Played). v.given) c.self.view_is ∙ c.requires.new)) none
    e
    (sym c.is_full.ensures ∙ c.if-is_full.true))

pub invariant_of-self-else-is_full : goal.invariant_of-self-else-is_full
invariant_of-self-else-is_full g c =
    let none = ap (λ (v : Played). v.fault) c.self.view_is ∙ c.requires.going in
    let e = c.in-Ok.ensures in
    of_playing c.self.inside.script.value (given_in c.self.inside.given) c.play_line.new.self (c.self.inside.count + 1) c.self.inside.fault (ap (λ (v : Played). v.given) c.self.view_is ∙ c.requires.new)
    (world_going c.standing_is_kept.ensures c.self.inside.script.value c.self.inside.yard c.play_line.new.self c.self.inside.count c.self.inside.fault c.self.inside.fault c.args.line.now c.args.out.now c.play_line.new.facts (playing c.self.inside.script.value (given_in c.self.inside.given) c.self.inside.yard c.self.inside.count c.self.inside.fault c.self.invariant (ap (λ (v : Played). v.given) c.self.view_is ∙ c.requires.new)) none
    (ap (λ (v : Played). slice_get v.script.orders v.count) c.self.view_is ∙ c.requires.next)
    e
    (sym c.is_full.ensures ∙ c.if-is_full.false) none)

pub returns-clause-answers : goal.returns-clause-answers
returns-clause-answers g c =
    let none = ap (λ (v : Played). v.fault) c.self.view_is ∙ c.requires.going in
    let e = c.in-Ok.ensures in
    subst (λ (v : Played). Went v c.args.line.now c.args.out.now (record { script = c.self.inside.script.value; given = given_in c.self.inside.given; count = c.self.inside.count + 1; fault = c.self.inside.fault }) c.play_line.new.facts) c.self.view_is
    (went c.standing_is_kept.ensures c.self.inside.script.value (given_in c.self.inside.given) c.self.inside.yard c.play_line.new.self c.self.inside.count c.self.inside.fault c.self.inside.fault c.args.line.now c.args.out.now c.play_line.new.facts (playing c.self.inside.script.value (given_in c.self.inside.given) c.self.inside.yard c.self.inside.count c.self.inside.fault c.self.invariant (ap (λ (v : Played). v.given) c.self.view_is ∙ c.requires.new)) none
    e
    (sym c.is_full.ensures ∙ c.if-is_full.false) none)

pub returns-clause-settles : goal.returns-clause-settles
returns-clause-settles g c =
    let none = ap (λ (v : Played). v.fault) c.self.view_is ∙ c.requires.going in
    let e = c.in-Ok.ensures in
    let plays = (playing c.self.inside.script.value (given_in c.self.inside.given) c.self.inside.yard c.self.inside.count c.self.inside.fault c.self.invariant (ap (λ (v : Played). v.given) c.self.view_is ∙ c.requires.new)) in
    subst (λ (v : Played). LineSettles v c.args.line.now) c.self.view_is
    (line_settles c.settle_line_settles.ensures (seen c.self.inside.script.value (given_in c.self.inside.given) c.self.inside.count c.self.inside.fault) c.args.line.now c.args.out.now _ c.play_line.new.facts plays.script_is (going_at c.self.inside.script.value c.self.inside.yard c.self.inside.count c.self.inside.fault plays none).0.full_is
    (went c.standing_is_kept.ensures c.self.inside.script.value (given_in c.self.inside.given) c.self.inside.yard c.play_line.new.self c.self.inside.count c.self.inside.fault c.self.inside.fault c.args.line.now c.args.out.now c.play_line.new.facts (playing c.self.inside.script.value (given_in c.self.inside.given) c.self.inside.yard c.self.inside.count c.self.inside.fault c.self.invariant (ap (λ (v : Played). v.given) c.self.view_is ∙ c.requires.new)) none
    e
    (sym c.is_full.ensures ∙ c.if-is_full.false) none))
