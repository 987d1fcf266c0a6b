use Rattle.std.proofs.Common.{◌≡◌, ◌∙◌, ap, ap₂, sym, length, true}
use Rattle.std.specs.Prelude.{◌==◌}
use Rattle.std.specs.List.{list_all}
use Rattle.yard_model.specs.declared.incarnation.Slot.TheVariants as slot
use Rattle.yard_model.specs.Lawful.{own}
use Rattle.yard_model.specs.Script.{Script, names_in}
use Rattle.yard_model.specs.SlotReads.{confirmed, queued}
use Rattle.log_resume.proofs.DoneLaws.{all_queued, not_queued}
use Rattle.log_resume.proofs.done.sends_confirmed.Goals as goal

pub returns-then-total-sends : goal.returns-then-total-sends
returns-then-total-sends c =
    let lawful : own c.args.charter.now (slot.Queue c.args.producer) c.args.queue.now.entries ≡ true =
    ap₂ (λ (s : Script) n. own s (slot.Queue n) c.args.queue.now.entries) (sym c.requires.script) (sym c.requires.producer) ∙ c.entries.ensures.lawful in
    sym (not_queued c.sending_law.ensures c.args.charter.now c.args.producer c.args.queue.now.entries lawful (λ e. c.if-total-sends.true (c.total.ensures ∙ (e ∙ sym (ap length c.sends.ensures)))))

pub returns : goal.returns
returns c =
    let lawful : own c.args.charter.now (slot.Queue c.args.producer) c.args.queue.now.entries ≡ true =
    ap₂ (λ (s : Script) n. own s (slot.Queue n) c.args.queue.now.entries) (sym c.requires.script) (sym c.requires.producer) ∙ c.entries.ensures.lawful in
    c.is_caught_up.ensures ∙ (ap (λ (s : Script). list_all (λ e. confirmed e c.args.queue.now.entries == queued e c.args.queue.now.entries) (names_in s.orders)) c.requires.script
    ∙ all_queued c.sending_law.ensures c.args.charter.now c.args.producer c.args.queue.now.entries lawful (sym c.total.ensures ∙ (c.if-total-sends.false ∙ ap length c.sends.ensures)))
