use Rattle.yard_model.specs.Script.{setting}
use Rattle.shard_store.specs.Stores.{lists_at}
use Rattle.live_run.proofs.ReportLaws.{entities_began, head_began, pairs_began, report_put}
use Rattle.live_run.proofs.reporting.write_report.Goals as goal

pub returns : goal.returns
returns g c =
    report_put (setting c.args.charter.now) (lists_at c.args.charter.now.config c.args.places.now) c.write_piece-2.result _ _ _ _ _
    c.in_ok-write_piece.ensures c.in_ok-write_entities.ensures c.in_ok-write_pairs.ensures c.write_piece-2.ensures

pub returns-in_err-write_piece : goal.returns-in_err-write_piece
returns-in_err-write_piece g c = head_began (setting c.args.charter.now) (lists_at c.args.charter.now.config c.args.places.now) c.from_residual.result _ _ c.from_residual.ensures.0 c.in_err-write_piece.ensures

pub returns-in_err-write_entities : goal.returns-in_err-write_entities
returns-in_err-write_entities g c =
    entities_began (setting c.args.charter.now) (lists_at c.args.charter.now.config c.args.places.now) c.from_residual-in_err-write_entities.result _ _ _ c.from_residual-in_err-write_entities.ensures.0
    c.in_ok-write_piece.ensures c.in_err-write_entities.ensures

pub returns-in_err-write_pairs : goal.returns-in_err-write_pairs
returns-in_err-write_pairs g c =
    pairs_began (setting c.args.charter.now) (lists_at c.args.charter.now.config c.args.places.now) c.from_residual-in_err-write_pairs.result _ _ _ _ c.from_residual-in_err-write_pairs.ensures.0
    c.in_ok-write_piece.ensures c.in_ok-write_entities.ensures c.in_err-write_pairs.ensures
