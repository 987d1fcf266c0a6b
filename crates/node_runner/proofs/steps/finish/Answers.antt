use Rattle.std.proofs.Common.{◌≡◌, subst}
use Rattle.std.specs.Prelude.{Option}
use Rattle.lease_table.specs.Belongs.{id_of, charter_of}
use Rattle.lease_table.specs.Leasing.{Idle}
use Rattle.node_core.specs.Standing.{Standing}
use Rattle.node_core.proofs.GaveLaws.{stays_same}
use Rattle.node_runner.specs.Progress.{StandsAt}
use Rattle.node_runner.specs.Rested.{Rested, ArePublished, means}
use Rattle.node_runner.proofs.Stepping.{all_seen, if_ok_both}
use Rattle.node_runner.proofs.steps.finish.Goals as goal

pub returns-in-None-clause-saw : goal.returns-in-None-clause-saw
returns-in-None-clause-saw g c = λ turns h.
    let idle : Idle (id_of c.args.table.now) (charter_of c.args.table.now) c.args.me c.args.place.pass = subst (λ (o : Option Standing). StandsAt (id_of c.args.table.now) (charter_of c.args.table.now) c.args.me c.args.place.pass o) c.in-None.is c.requires.stands in
    all_seen (charter_of c.args.table.now) turns c.args.me c.args.place.pass c.args.place.pass c.args.place.node idle.charter idle.charter (stays_same (means c.args.me c.args.place.pass)) h

pub returns-in-Some-clause-saw : goal.returns-in-Some-clause-saw
returns-in-Some-clause-saw g c =
    let up : Rested (id_of c.args.table.now) (charter_of c.args.table.now) c.args.me c.args.place.pass c.in-Some.node × ArePublished (charter_of c.args.table.now) c.args.place.pass c.in-Some.node.state =
    subst (λ (o : Option Standing). StandsAt (id_of c.args.table.now) (charter_of c.args.table.now) c.args.me c.args.place.pass o) c.in-Some.is c.requires.stands in
    if_ok_both c.crash.result (λ r idle sees. λ turns h. all_seen (charter_of c.args.table.now) turns c.args.me c.args.place.pass r c.args.place.node up.0.charter idle.charter sees h) c.crash.ensures.idle c.crash.ensures.sees
