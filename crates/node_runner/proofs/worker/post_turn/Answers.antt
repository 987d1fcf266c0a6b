use Rattle.std.proofs.Common.{◌≡◌, ℕ, true, sym, ◌∙◌, subst}
use Rattle.std.specs.Prelude.{IfSome}
use Rattle.yard_model.specs.Script.{Script}
use Rattle.lease_table.specs.Belongs.{id_of, charter_of}
use Rattle.node_runner.specs.Entered.{is_member}
use Rattle.node_runner.specs.Progress.{StandsAt}
use Rattle.node_runner.proofs.worker.post_turn.Goals as goal

pub tell_roster-requires-clause-member : goal.tell_roster-requires-clause-member
tell_roster-requires-clause-member g c = subst (λ (y : Script). IfSome c.member-after.result (λ x. is_member y x ≡ true)) (sym c.requires.run.0) c.member-after.ensures

pub post_place-requires-clause-stands : goal.post_place-requires-clause-stands
post_place-requires-clause-stands g c =
    subst (λ (n : ℕ). StandsAt (id_of c.args.table.now) (charter_of c.args.table.now) n c.args.place.pass c.args.place.node) (sym (c.tell_roster.ensures.kept.1 ∙ c.release.ensures.kept.1 ∙ c.requires.own)) c.requires.stands
