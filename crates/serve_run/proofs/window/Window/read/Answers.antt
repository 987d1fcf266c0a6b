use Rattle.std.proofs.Common.{◌≡◌, ◌<◌, ◌++◌, ◌∙◌, List, ℕ, length, take, drop, ap, refl, arith}
use Rattle.std.proofs.lemmas.List.{drop-append-le}
use Rattle.std.proofs.lemmas.Result.{err_from_is_err_and}
use Rattle.serve_run.proofs.FaultLaws.{on_err}
use Rattle.serve_run.proofs.WindowLaws.{came_so, told_read}
use Rattle.serve_run.proofs.window.Window.read.Goals as goal

pub returns-in_err-extend_from_slice-clause-lost : goal.returns-in_err-extend_from_slice-clause-lost
returns-in_err-extend_from_slice-clause-lost g c =
    let p = err_from_is_err_and c.from_residual-in_err-extend_from_slice.result c.from_residual-in_err-extend_from_slice.ensures.1 in
    on_err c.from_residual-in_err-extend_from_slice.result p.0 p.1 (record {
      bytes = take c.in_ok-count.count c.read.new.buf;
      told = told_read (g.S.Source.left c.args.source.now) (g.S.Source.left c.read.new.self) c.args.piece.now c.read.new.buf c.in_ok-count.count c.in_ok-count.ensures.rest c.in_ok-count.ensures.front c.in_ok-count.ensures.there;
    })

pub returns-clause-came : goal.returns-clause-came
returns-clause-came g c =
    let i = c.self.inside in
    let bytes : List ℕ = take c.in_ok-count.count c.read.new.buf in
    let before : drop i.from i.bytes.items ≡ c.args.self.now = c.self.view_is ∙ c.forget.ensures in
    let after : drop i.from c.extend_from_slice.new.self.items ≡ c.args.self.now ++ bytes =
    ap (drop i.from) c.in_ok-extend_from_slice.ensures.items ∙ (drop-append-le i.from i.bytes.items bytes (omega (arith, c.self.invariant)) ∙ ap (λ (l : List ℕ). l ++ bytes) before) in
    let room : 0 < length c.read.new.buf = omega (arith, c.read.auto.buf, c.requires) in
    came_so (g.S.Source.left c.args.source.now) (g.S.Source.left c.read.new.self) c.args.self.now _ c.args.piece.now c.read.new.buf bytes c.in_ok-count.count c.in_ok-count.ensures.rest c.in_ok-count.ensures.front
    c.in_ok-count.ensures.there (λ z. c.in_ok-count.ensures.end z room) refl after
