use Rattle.std.proofs.Common.{sym, subst}
use Rattle.std.specs.Prelude.{List}
use Rattle.yard_model.specs.declared.packet.Message.{Message}
use Rattle.solo_run.specs.Knowledge.{KnowsAll}
use Rattle.solo_run.specs.Facts.{facts_of}
use Rattle.solo_run.proofs.KnownLaws.{knows_nothing}
use Rattle.solo_run.proofs.engine.Engine.new.Goals as goal

pub returns-clause-knows : goal.returns-clause-knows
returns-clause-knows c =
    subst (λ (l : List Message). KnowsAll c.args.config.now l (facts_of c.in_ok-lists.lists.items) c.new.result) (sym c.in_ok-posted.ensures)
    (knows_nothing c.args.config.now c.requires.some c.requires.most (facts_of c.in_ok-lists.lists.items) c.in_ok-lists.ensures c.new.result c.new.ensures.none c.new.ensures.kept)
