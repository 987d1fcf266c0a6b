use Rattle.std.proofs.Common.{◌≡◌, true, sym, ap, ◌∙◌, subst}
use Rattle.std.specs.Prelude.{None, Some}
use Rattle.yard_model.specs.declared.incarnation.Slot.TheVariants as slot
use Rattle.yard_model.specs.Genuine.{is_shard}
use Rattle.yard_model.specs.Script.{Script}
use Rattle.actor_laws.specs.Hands.{held_list}
use Rattle.lease_table.specs.Belongs.{id_of, charter_of}
use Rattle.lease_table.specs.Fits.{home_of}
use Rattle.lease_table.specs.Leasing.{Met}
use Rattle.node_runner.specs.declared.offer.Confirmed.{Confirmed}
use Rattle.node_runner.proofs.Confirming.{own_vouches}
use Rattle.node_runner.proofs.Noted.{met_rested, met_published, met_sees, met_vouches}
use Rattle.node_runner.proofs.Shown.{shown_of}
use Rattle.node_runner.proofs.offer.see_record.Goals as goal

pub returns-in-Some-clause-seen : goal.returns-in-Some-clause-seen
returns-in-Some-clause-seen g c = λ yes.
    let y : Script = charter_of c.args.table.now in
    let r : Confirmed = c.args.confirmed.now in
    let home : c.home-shard.result ≡ home_of y r.entity = c.home-shard.ensures.home ∙ ap (λ (z : Script). home_of z r.entity) c.requires.charter in
    let shard : is_shard y c.home-shard.result ≡ true = ap (λ (z : Script). is_shard z c.home-shard.result) (sym c.requires.charter) ∙ c.home-shard.ensures.shard in
    own_vouches y c.args.me c.args.pass c.args.node.now.state r c.home-shard.result c.shard_ref.result.now.entries c.requires.published c.requires.rested.charter shard home
    (c.in-Some.ensures.store ∙ ap Some (sym c.shard_ref.ensures.entries)) (sym c.is_in_journal-is_seen.ensures ∙ yes)

pub returns-in-None-clause-rested : goal.returns-in-None-clause-rested
returns-in-None-clause-rested g c =
    let y : Script = charter_of c.args.table.now in
    let shard : is_shard y c.home-shard.result ≡ true = ap (λ (z : Script). is_shard z c.home-shard.result) (sym c.requires.charter) ∙ c.home-shard.ensures.shard in
    met_rested (id_of c.args.table.now) y c.args.me c.args.pass c.args.note c.meet_record.result c.args.node.now c.home-shard.result c.requires.rested shard c.in-None.ensures.store c.meet_record.ensures.none c.meet_record.ensures.table c.meet_record.ensures.met

pub returns-in-None-clause-published : goal.returns-in-None-clause-published
returns-in-None-clause-published g c =
    let y : Script = charter_of c.args.table.now in
    let shard : is_shard y c.home-shard.result ≡ true = ap (λ (z : Script). is_shard z c.home-shard.result) (sym c.requires.charter) ∙ c.home-shard.ensures.shard in
    met_published y c.args.pass c.args.note c.meet_record.result c.args.node.now.state c.home-shard.result shard c.in-None.ensures.store c.meet_record.ensures.met c.requires.published

pub returns-in-None-clause-sees : goal.returns-in-None-clause-sees
returns-in-None-clause-sees g c = met_sees c.args.me c.args.pass c.args.note c.meet_record.result c.home-shard.result c.meet_record.ensures.table c.meet_record.ensures.met

pub returns-in-None-clause-seen : goal.returns-in-None-clause-seen
returns-in-None-clause-seen g c = λ yes.
    let y : Script = charter_of c.args.table.now in
    let r : Confirmed = c.args.confirmed.now in
    let home : c.home-shard.result ≡ home_of y r.entity = c.home-shard.ensures.home ∙ ap (λ (z : Script). home_of z r.entity) c.requires.charter in
    met_vouches y c.args.me c.args.pass c.args.note c.meet_record.result r.entity r.producer r.number c.requires.rested.charter (subst (λ k. Met c.args.pass.view c.args.note.view k c.meet_record.result.view) home c.meet_record.ensures.met)
    (shown_of y c.args.packet.now.body r (Some c.args.note) c.requires.confirms c.requires.shown)
