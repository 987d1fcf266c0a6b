use Rattle.std.proofs.Common.{◌≡◌, ◌+◌, ◌-◌, ◌≤◌, ◌++◌, length, take, sym, ap, ◌∙◌, arith, length-take-le}
use Rattle.std.proofs.lemmas.List.{take_rest}
use Rattle.trace_text.proofs.Overlap.{overlap}
use Rattle.trace_text.proofs.room.put_ends.Goals as goal

pub returns-clause-items : goal.returns-clause-items
returns-clause-items g c =
    let bs = c.args.bytes.now in
    let at = c.args.at in
    let n = g.row.N in
    let r : c.put_bytes.result ≡ at + n = c.put_bytes.ensures.end ∙ ap (λ m. at + m) (length-take-le n bs c.requires.enough) in
    let first : take (at + n) c.put_bytes.new.cells ≡ take at c.args.cells.now ++ take n bs = ap (λ m. take m c.put_bytes.new.cells) (sym r) ∙ c.put_bytes.ensures.items in
    let long : at ≤ length c.args.cells.now = omega (arith, c.requires.room) in
    c.put_bytes-2.ensures.items
    ∙ ap (λ ys. take (at + (length bs - n)) c.put_bytes.new.cells ++ ys) (take_rest bs (length bs - n))
    ∙ overlap c.args.cells.now c.put_bytes.new.cells bs at n long c.requires.enough c.requires.short first
