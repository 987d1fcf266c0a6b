use Rattle.bulk_gen.proofs.ConfirmedLaws.{none_confirmed}
use Rattle.bulk_gen.proofs.confirmed.Confirmed.new.Goals as goal

pub returns : goal.returns
returns c = none_confirmed _ _ _ c.in_ok-rows.ensures
