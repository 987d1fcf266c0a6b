use Rattle.std.proofs.Common.{rules, ◌≡◌, true, sym, ap, ◌∙◌}
use Rattle.std.specs.Prelude.{Some}
use Rattle.yard_model.specs.Genuine.{is_shard}
use Rattle.yard_model.specs.Script.{Script}
use Rattle.lease_table.specs.declared.View.{View}
use Rattle.lease_table.specs.Belongs.{charter_of}
use Rattle.lease_table.specs.Fits.{recorded, home_of}
use Rattle.lease_table.specs.Lists.{seen_at}
use Rattle.node_runner.specs.declared.offer.Confirmed.{Confirmed}
use Rattle.node_runner.specs.Parcels.{is_shown}
use Rattle.node_runner.proofs.Confirming.{seen_of, shown_of}
use Rattle.node_runner.proofs.record.with_note.Goals as goal

pub returns-clause-shown : goal.returns-clause-shown
returns-clause-shown g c =
    let y : Script = charter_of c.args.table.now in
    let r : Confirmed = c.args.confirmed.now in
    let home : c.home-shard.result ≡ home_of y r.entity = c.home-shard.ensures.home ∙ ap (λ (z : Script). home_of z r.entity) c.requires.charter in
    let shard : is_shard y c.home-shard.result ≡ true = ap (λ (z : Script). is_shard z c.home-shard.result) (sym c.requires.charter) ∙ c.home-shard.ensures.shard in
    let there : c.is_recorded.result ≡ true = search rules in
    let seen = seen_of y c.args.pass c.args.node.now.state r c.home-shard.result c.requires.published shard home (c.is_recorded.ensures there) in
    ap (λ (z : Script). is_shown z c.args.packet.now.body (Some c.note-pass.result.1)) c.requires.run.0
    ∙ shown_of y c.args.packet.now.body r c.note-pass.result.1 c.requires.confirms (ap (λ (v : View). recorded r.entity r.producer r.number (seen_at v.seen (home_of y r.entity))) c.note-pass.ensures.note.1 ∙ seen)
