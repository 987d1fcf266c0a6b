use Rattle.std.proofs.Common.{rules, ◌≡◌, ℕ, ◌+◌, ◌<◌, sym, ap, ◌∙◌, refl, subst, Some, None}
use Rattle.std.specs.Prelude.{slice_get, true, false, Option}
use Rattle.yard_model.specs.Script.{Script}
use Rattle.work_pulling.specs.Played.{Played, Went, IsPlayed}
use Rattle.work_pulling.specs.declared.fault.PullFault.{PullFault}
use Rattle.work_pulling.specs.declared.fault.PullFault.TheVariants as fault
use Rattle.work_pulling.proofs.WorldLaws.{next_is, went, played_next, one_counts}
use Rattle.work_pulling.proofs.world.PullWorld.play.Goals as goal

abbrev the_played : Script → ℕ → Option PullFault → Played
the_played c n f = record { script = c; count = n; fault = f }

pub play_line-requires : goal.play_line-requires
play_line-requires c =
    let going : c.self.inside.fault ≡ None = ap (λ (w : Played). w.fault) c.self.view_is ∙ c.requires.going in
    let here : slice_get c.self.inside.script.value.orders c.self.inside.count ≡ Some c.args.line.now = subst (λ (w : Played). slice_get w.script.orders w.count ≡ Some c.args.line.now) (sym c.self.view_is) c.requires.next in
    let before : IsPlayed c.self.inside.script.value c.self.inside.cluster c.self.inside.count None = subst (λ f. IsPlayed c.self.inside.script.value c.self.inside.cluster c.self.inside.count f) going c.self.invariant in
    next_is c.line_is_next.ensures c.self.inside.script.value c.self.inside.cluster c.self.inside.count c.args.line.now before here

pub returns-in-Err : goal.returns-in-Err
returns-in-Err c = (record { fresh_is = c.requires.going; script_is = ap (λ (w : Played). w.script) c.self.view_is }, refl)

pub overflow_add-self : goal.overflow_add-self
overflow_add-self c =
    let going : c.self.inside.fault ≡ None = ap (λ (w : Played). w.fault) c.self.view_is ∙ c.requires.going in
    let here : slice_get c.self.inside.script.value.orders c.self.inside.count ≡ Some c.args.line.now = subst (λ (w : Played). slice_get w.script.orders w.count ≡ Some c.args.line.now) (sym c.self.view_is) c.requires.next in
    let before : IsPlayed c.self.inside.script.value c.self.inside.cluster c.self.inside.count None = subst (λ f. IsPlayed c.self.inside.script.value c.self.inside.cluster c.self.inside.count f) going c.self.invariant in
    let few : c.self.inside.count + 1 < 4294967296 = one_counts c.self.inside.script.value c.self.inside.count c.args.line.now before.pulled_is here in
    search (rules, few)

pub invariant_of-self-then-is_full : goal.invariant_of-self-then-is_full
invariant_of-self-then-is_full c =
    let going : c.self.inside.fault ≡ None = ap (λ (w : Played). w.fault) c.self.view_is ∙ c.requires.going in
    let here : slice_get c.self.inside.script.value.orders c.self.inside.count ≡ Some c.args.line.now = subst (λ (w : Played). slice_get w.script.orders w.count ≡ Some c.args.line.now) (sym c.self.view_is) c.requires.next in
    let before : IsPlayed c.self.inside.script.value c.self.inside.cluster c.self.inside.count None = subst (λ f. IsPlayed c.self.inside.script.value c.self.inside.cluster c.self.inside.count f) going c.self.invariant in
    played_next c.self.inside.script.value c.self.inside.cluster c.play_line.new.cluster c.self.inside.count c.args.line.now c.args.out.now c.play_line.new.out (Some fault.WireFull) before here c.in-Ok.ensures (sym c.is_full.ensures ∙ c.if-is_full.true)

pub returns-then-is_full : goal.returns-then-is_full
returns-then-is_full c =
    let going : c.self.inside.fault ≡ None = ap (λ (w : Played). w.fault) c.self.view_is ∙ c.requires.going in
    let here : slice_get c.self.inside.script.value.orders c.self.inside.count ≡ Some c.args.line.now = subst (λ (w : Played). slice_get w.script.orders w.count ≡ Some c.args.line.now) (sym c.self.view_is) c.requires.next in
    let before : IsPlayed c.self.inside.script.value c.self.inside.cluster c.self.inside.count None = subst (λ f. IsPlayed c.self.inside.script.value c.self.inside.cluster c.self.inside.count f) going c.self.invariant in
    let new : Played = record { script = c.self.inside.script.value; count = c.self.inside.count + 1; fault = Some fault.WireFull } in
    let told : Went (record { script = c.self.inside.script.value; count = c.self.inside.count; fault = None }) new c.args.out.now c.play_line.new.out true =
    subst (λ b. Went (record { script = c.self.inside.script.value; count = c.self.inside.count; fault = None }) new c.args.out.now c.play_line.new.out b) (sym c.is_full.ensures ∙ c.if-is_full.true) (went c.self.inside.script.value c.self.inside.cluster c.play_line.new.cluster c.self.inside.count c.args.line.now c.args.out.now c.play_line.new.out (Some fault.WireFull) before here c.in-Ok.ensures) in
    let old_is : record { script = c.self.inside.script.value; count = c.self.inside.count; fault = None } ≡ c.args.self.now = ap (λ f. the_played c.self.inside.script.value c.self.inside.count f) (sym going) ∙ c.self.view_is in
    (subst (λ (w : Played). Went w new c.args.out.now c.play_line.new.out true) old_is told, refl)

pub invariant_of-self-else-is_full : goal.invariant_of-self-else-is_full
invariant_of-self-else-is_full c =
    let going : c.self.inside.fault ≡ None = ap (λ (w : Played). w.fault) c.self.view_is ∙ c.requires.going in
    let here : slice_get c.self.inside.script.value.orders c.self.inside.count ≡ Some c.args.line.now = subst (λ (w : Played). slice_get w.script.orders w.count ≡ Some c.args.line.now) (sym c.self.view_is) c.requires.next in
    let before : IsPlayed c.self.inside.script.value c.self.inside.cluster c.self.inside.count None = subst (λ f. IsPlayed c.self.inside.script.value c.self.inside.cluster c.self.inside.count f) going c.self.invariant in
    let new : IsPlayed c.self.inside.script.value c.play_line.new.cluster (c.self.inside.count + 1) None =
    played_next c.self.inside.script.value c.self.inside.cluster c.play_line.new.cluster c.self.inside.count c.args.line.now c.args.out.now c.play_line.new.out None before here c.in-Ok.ensures (sym c.is_full.ensures ∙ c.if-is_full.false) in
    subst (λ f. IsPlayed c.self.inside.script.value c.play_line.new.cluster (c.self.inside.count + 1) f) (sym going) new

pub returns : goal.returns
returns c =
    let going : c.self.inside.fault ≡ None = ap (λ (w : Played). w.fault) c.self.view_is ∙ c.requires.going in
    let here : slice_get c.self.inside.script.value.orders c.self.inside.count ≡ Some c.args.line.now = subst (λ (w : Played). slice_get w.script.orders w.count ≡ Some c.args.line.now) (sym c.self.view_is) c.requires.next in
    let before : IsPlayed c.self.inside.script.value c.self.inside.cluster c.self.inside.count None = subst (λ f. IsPlayed c.self.inside.script.value c.self.inside.cluster c.self.inside.count f) going c.self.invariant in
    let new : Option PullFault → Played = λ f. record { script = c.self.inside.script.value; count = c.self.inside.count + 1; fault = f } in
    let told : Went (the_played c.self.inside.script.value c.self.inside.count None) (new c.self.inside.fault) c.args.out.now c.play_line.new.out false =
    subst (λ b. Went (the_played c.self.inside.script.value c.self.inside.count None) (new c.self.inside.fault) c.args.out.now c.play_line.new.out b) (sym c.is_full.ensures ∙ c.if-is_full.false) (went c.self.inside.script.value c.self.inside.cluster c.play_line.new.cluster c.self.inside.count c.args.line.now c.args.out.now c.play_line.new.out c.self.inside.fault before here c.in-Ok.ensures) in
    let old_is : the_played c.self.inside.script.value c.self.inside.count None ≡ c.args.self.now = ap (λ f. the_played c.self.inside.script.value c.self.inside.count f) (sym going) ∙ c.self.view_is in
    (subst (λ (w : Played). Went w (new c.self.inside.fault) c.args.out.now c.play_line.new.out false) old_is told, going)
