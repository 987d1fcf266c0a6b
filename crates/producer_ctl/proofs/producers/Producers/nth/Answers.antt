use Rattle.std.proofs.Common.{◌<◌, length, sym, subst}
use Rattle.yard_model.specs.Script.{setting}
use Rattle.producer_ctl.specs.Producing.{Producing}
use Rattle.producer_ctl.proofs.StoreLaws.{place_stands}
use Rattle.producer_ctl.proofs.producers.Producers.nth.Goals as goal

pub returns-clause-place : goal.returns-clause-place
returns-clause-place c = place_stands c.args.at c.name.result.now c.self.invariant.0 c.self.view_is (subst (λ (v : Producing). c.args.at < length (setting v.script).names) (sym c.self.view_is) c.requires.within) (sym c.name.ensures)
