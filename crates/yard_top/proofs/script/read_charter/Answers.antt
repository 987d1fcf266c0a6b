use Rattle.std.proofs.Common.{ap, sym, ◌∙◌, subst}
use Rattle.script_text.specs.Reading.{reading, TellsFault}
use Rattle.script_text.specs.declared.fault.ScriptFault.{ScriptFault}
use Rattle.yard_top.proofs.CameLaws.{came_end, all_came}
use Rattle.yard_top.proofs.script.read_charter.Goals as goal

pub returns-in-Ok-read_script-clause-script : goal.returns-in-Ok-read_script-clause-script
returns-in-Ok-read_script-clause-script g c =
    let spelled : _ = ap (reading c.args.mode) (sym c.as_slice.ensures.value) ∙ c.in-Ok-read_script.ensures.ok in
    record {
      input = c.in-Ok.bytes.items;
      came = record { bytes_are = c.in-Ok.ensures.bytes; end = came_end (g.S.Source.left c.args.source.now) c.in-Ok.bytes.items c.in-Ok.ensures.bytes; left = c.in-Ok.ensures.rest };
      all = all_came (g.S.Source.left c.args.source.now) c.args.mode c.in-Ok.bytes.items c.in-Ok-read_script.charter spelled c.in-Ok.ensures.bytes;
      spelled = spelled;
    }

pub returns-in-Err-At-clause-early : goal.returns-in-Err-At-clause-early
returns-in-Err-At-clause-early g c = record {
  input = c.in-Ok.bytes.items;
  came = record { bytes_are = c.in-Ok.ensures.bytes; end = came_end (g.S.Source.left c.args.source.now) c.in-Ok.bytes.items c.in-Ok.ensures.bytes; left = c.in-Ok.ensures.rest };
  refused = ap (reading c.args.mode) (sym c.as_slice.ensures.value) ∙ subst (λ (e : ScriptFault). TellsFault e (reading c.args.mode c.as_slice.result.now)) c.in-Err-At.field-0-is c.in-Err-At.ensures.at;
}
