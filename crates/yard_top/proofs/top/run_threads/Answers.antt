use Rattle.std.proofs.Common.{◌∙◌, ◌<◌, ◌≤◌, arith}
use Rattle.yard_io.proofs.ToldLemmas.{front_whole}
use Rattle.yard_top.proofs.top.run_threads.Goals as goal

pub returns-in-Ok-write_live-clause-ends : goal.returns-in-Ok-write_live-clause-ends
returns-in-Ok-write_live-clause-ends g c =
    let written : g.K.Sink.faults c.args.sink.now ≤ g.K.Sink.faults c.write_live.new.sink = c.in-Ok-write_live.ensures.took.faults_are in
    let failed : g.K.Sink.faults c.write_live.new.sink < g.K.Sink.faults c.flush.new.self = c.in-Err-flush.ensures.cause in (
      omega (arith, written, failed),
      record {
        script = c.in-Ok.charter;
        came = c.in-Ok.ensures.script;
        text = c.in-Ok-write_live.ensures.text;
        is_text = c.in-Ok-write_live.ensures.is_text;
        begun = front_whole _ _ _ (c.in-Err-flush.ensures.kept ∙ c.in-Ok-write_live.ensures.took.taken_is);
      },
    )
