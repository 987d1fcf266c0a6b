use Rattle.std.specs.Prelude.{◌≡◌}
use Rattle.program_words.specs.Forms.{form_on}
use Rattle.yard_top.specs.Disks.{platter}
use Rattle.yard_top.specs.Ends.{streams}
use Rattle.yard_top.specs.Ended.{Ended}
use Rattle.yard_top.proofs.NoneLaws.{if_none}
use Rattle.yard_top.proofs.program.run_words.Goals as goal

pub returns-in-None-clause-ended : goal.returns-in-None-clause-ended
returns-in-None-clause-ended g c =
    let ended : Ended (form_on c.args.words.now) g.D.Disk.tells
    (streams (g.S.Source.left c.args.source.now) (g.S.Source.faults c.args.source.now) (g.K.Sink.taken c.args.sink.now) (g.K.Sink.flushed c.args.sink.now) (g.K.Sink.faults c.args.sink.now))
    (streams (g.S.Source.left c.sharder_on.new.source) (g.S.Source.faults c.sharder_on.new.source) (g.K.Sink.taken c.sharder_on.new.sink) (g.K.Sink.flushed c.sharder_on.new.sink) (g.K.Sink.faults c.sharder_on.new.sink))
    (platter (g.D.Disk.content c.args.disk.now) (g.D.Disk.images c.args.disk.now) (g.D.Disk.faults c.args.disk.now))
    (platter (g.D.Disk.content c.sharder_on.new.disk) (g.D.Disk.images c.sharder_on.new.disk) (g.D.Disk.faults c.sharder_on.new.disk))
    (c.sharder_on.new.disk ≡ c.args.disk.now) c.sharder_on.result
    = record {
      ends = c.sharder_on.ensures.ends;
      number_reads_nothing = c.sharder_on.ensures.number_reads_nothing;
      safely = c.sharder_on.ensures.safely;
      complete = c.sharder_on.ensures.complete;
      faults = c.sharder_on.ensures.faults;
      on_disk = c.sharder_on.ensures.on_disk;
      no_disk = c.sharder_on.ensures.no_disk;
      untouched = c.sharder_on.ensures.untouched;
    } in
    if_none _ _ ended
