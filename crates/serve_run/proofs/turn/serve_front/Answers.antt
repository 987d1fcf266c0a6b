use Rattle.std.proofs.Common.{◌∙◌, ap, refl, subst}
use Rattle.std.specs.Prelude.{length, not, take, IsTrue}
use Rattle.std.proofs.lemmas.Result.{err_from_is_err_and}
use Rattle.std.specs.Str.Lines.{lines}
use Rattle.yard_io.specs.Told.{TakesFront, followed_by}
use Rattle.yard_model.specs.Text.{Bytes}
use Rattle.disk_log.specs.Images.{LeavesOnly}
use Rattle.disk_log.specs.Rest.{HoldsPrefix}
use Rattle.serve_laws.specs.Served.{answers, frames, grouped}
use Rattle.serve_service.specs.Services.{has_settings}
use Rattle.serve_run.proofs.FaultLaws.{on_err}
use Rattle.serve_run.proofs.TurnLaws.{goes_group, stopped_group, stopped_told}
use Rattle.serve_run.proofs.turn.serve_front.Goals as goal

pub returns-in_err-next-clause-stopped : goal.returns-in_err-next-clause-stopped
returns-in_err-next-clause-stopped g c =
    let p = err_from_is_err_and c.from_residual.result c.from_residual.ensures.1 in
    on_err c.from_residual.result p.0 p.1 (λ left.
    stopped_group g.D.Disk.tells c.args.service.desk c.args.window.now c.args.end (not (has_settings c.args.service.desk)) c.requires.group left (g.K.Sink.taken c.args.sink.now) (g.K.Sink.flushed c.args.sink.now)
    (g.D.Disk.images c.args.disk.now) (g.K.Sink.taken c.args.sink.now) (g.D.Disk.images c.serve.new.disk) refl (g.met.D.Disk.timed c.serve.new.disk)
    (subst
    (λ (w : Bytes). IsTrue g.D.Disk.tells → LeavesOnly (g.D.Disk.images c.args.disk.now) (g.D.Disk.images c.serve.new.disk)
    (HoldsPrefix (frames (grouped c.args.service.desk (lines (take c.args.end w)))) (length (frames c.args.service.desk))))
    c.bytes.ensures c.serve.ensures.any_moment))

pub returns-in_err-tell-clause-stopped : goal.returns-in_err-tell-clause-stopped
returns-in_err-tell-clause-stopped g c =
    let p = err_from_is_err_and c.from_residual-in_err-tell.result c.from_residual-in_err-tell.ensures.1 in
    on_err c.from_residual-in_err-tell.result p.0 p.1 (λ left.
    stopped_told g.D.Disk.tells c.args.service.desk c.args.window.now c.args.end (not (has_settings c.args.service.desk)) c.requires.group left (g.K.Sink.taken c.args.sink.now) (g.K.Sink.flushed c.args.sink.now)
    (g.D.Disk.images c.args.disk.now) c.in_ok-next.next.desk c.in_ok-next.next.end (g.D.Disk.content c.serve.new.disk) c.in_ok-next.text.items (g.K.Sink.taken c.tell.new.sink) (g.D.Disk.images c.serve.new.disk)
    (c.in_ok-next.ensures.desk ∙ ap (λ (w : Bytes). grouped c.args.service.desk (lines (take c.args.end w))) c.bytes.ensures)
    (c.in_ok-next.ensures.text ∙ ap (λ (w : Bytes). answers c.args.service.desk (lines (take c.args.end w))) c.bytes.ensures)
    (subst (λ (t : Bytes). TakesFront (g.K.Sink.taken c.args.sink.now) (g.K.Sink.taken c.tell.new.sink) t) c.deref.ensures.value c.in_err-tell.ensures.front)
    c.in_ok-next.ensures.rests
    (subst
    (λ (w : Bytes). IsTrue g.D.Disk.tells → LeavesOnly (g.D.Disk.images c.args.disk.now) (g.D.Disk.images c.serve.new.disk)
    (HoldsPrefix (frames (grouped c.args.service.desk (lines (take c.args.end w)))) (length (frames c.args.service.desk))))
    c.bytes.ensures c.serve.ensures.any_moment))

pub returns-clause-goes : goal.returns-clause-goes
returns-clause-goes g c left =
    goes_group g.D.Disk.tells c.args.service.desk c.args.window.now c.args.end (not (has_settings c.args.service.desk)) c.requires.group left (g.K.Sink.taken c.args.sink.now) (g.K.Sink.flushed c.args.sink.now)
    (g.D.Disk.images c.args.disk.now) c.in_ok-next.next.desk c.pass.new.self c.in_ok-next.text.items (g.K.Sink.taken c.tell.new.sink) (g.K.Sink.flushed c.tell.new.sink) (g.D.Disk.images c.serve.new.disk)
    (c.in_ok-next.ensures.desk ∙ ap (λ (w : Bytes). grouped c.args.service.desk (lines (take c.args.end w))) c.bytes.ensures)
    c.pass.ensures
    (c.in_ok-next.ensures.text ∙ ap (λ (w : Bytes). answers c.args.service.desk (lines (take c.args.end w))) c.bytes.ensures)
    (c.in_ok-tell.ensures.told ∙ ap (λ (t : Bytes). followed_by (g.K.Sink.taken c.args.sink.now) t) c.deref.ensures.value)
    c.in_ok-tell.ensures.flushed
    (subst
    (λ (w : Bytes). IsTrue g.D.Disk.tells → LeavesOnly (g.D.Disk.images c.args.disk.now) (g.D.Disk.images c.serve.new.disk)
    (HoldsPrefix (frames (grouped c.args.service.desk (lines (take c.args.end w)))) (length (frames c.args.service.desk))))
    c.bytes.ensures c.serve.ensures.any_moment)
