use Rattle.std.proofs.Common.{◌≡◌, ◌<◌, ◌∙◌, ◌+◌, ◌-◌, ◌++◌, List, ℕ, length, min, take, drop, ap, arith}
use Rattle.std.proofs.lemmas.List.{drop-append-le, take_at}
use Rattle.disk_log.specs.Window.{Ahead}
use Rattle.disk_log.proofs.ReadLaws.{came}
use Rattle.disk_log.proofs.window.Window.read_more.Goals as goal

pub returns-clause-came : goal.returns-clause-came
returns-clause-came g c =
    let i = c.self.inside in
    let w : Ahead = c.args.self.now in
    let end = i.place + length c.bytes.result.now in
    let space = c.read.new.buf in
    let count = c.at_most-count.result in
    let size_is : i.size ≡ w.size = ap (λ (v : Ahead). v.size) c.self.view_is in
    let place_is : i.place ≡ w.place = ap (λ (v : Ahead). v.place) c.self.view_is in
    let bytes_are : drop i.from i.bytes.items ≡ w.bytes = ap (λ (v : Ahead). v.bytes) c.self.view_is in
    let end_is : end ≡ w.place + length w.bytes = omega (arith, place_is, ap length c.bytes.ensures, ap length bytes_are) in
    let within : end < w.size = omega (arith, end_is, c.requires.room) in
    let full : length space ≡ i.space.len = omega (arith, c.read.auto.buf, c.as_mut_slice.ensures.len) in
    let room : 0 < length space = omega (arith, full, c.self.invariant.2) in
    let bytes : drop i.from c.extend_from_slice.new.self.items ≡ w.bytes ++ take count space =
    ap (drop i.from) c.in_ok-extend_from_slice.ensures.items ∙ (drop-append-le i.from i.bytes.items (take count c.deref.result.now) (omega (arith, c.self.invariant.0))
    ∙ (ap (λ (l : List ℕ). l ++ take count c.deref.result.now) bytes_are ∙ ap (λ (l : List ℕ). w.bytes ++ take count l) (c.deref.ensures.value ∙ take_at space (drop (length space) i.space.items) i.space.len full))) in
    came g.D.Disk.tells (g.D.Disk.content c.args.disk.now) w c.requires.ahead _ end c.in_ok-come.come count space end_is within c.in_ok-come.ensures.within c.in_ok-come.ensures.there c.in_ok-come.ensures.some room
    c.in_ok-come.ensures.front (c.at_most-count.ensures ∙ ap (λ (s : ℕ). min c.in_ok-come.come (s - end)) size_is) size_is place_is bytes
