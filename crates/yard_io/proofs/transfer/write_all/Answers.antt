use Rattle.std.proofs.Common.{◌≡◌, ◌-◌, ◌<◌, ◌≤◌, length, ap, ◌∙◌, arith, take, drop}
use Rattle.std.proofs.lemmas.List.{length-drop}
use Rattle.yard_io.specs.Told.{followed_by}
use Rattle.yard_io.proofs.ToldLemmas.{followed_more, rest_is}
use Rattle.yard_io.proofs.transfer.write_all.Goals as goal

pub loop-preserved : goal.loop-preserved
loop-preserved g c =
    let i = c.loop.done in
    let n = c.in_ok-count.count in
    let xs = c.args.bytes.now in
    let is = rest_is i xs in
    let within : n ≤ length (drop i xs) = rw is at c.in_ok-count.ensures.within in
    let some : 0 < length (drop i xs) → 0 < n = rw is at c.in_ok-count.ensures.some in
    let long : length (drop i xs) ≡ length xs - i = length-drop i xs in
    let one : 0 < n = some (omega arith) in
    record {
      taken = rw is at c.in_ok-count.ensures.takes ∙ (ap (λ told. followed_by told (take n (drop i xs))) c.loop.invariant.taken ∙ followed_more (g.K.Sink.taken c.args.sink.now) xs i n);
      within = omega arith;
      far = omega arith;
      flushed = c.in_ok-count.ensures.flushed ∙ c.loop.invariant.flushed;
      faults = omega arith;
    }
