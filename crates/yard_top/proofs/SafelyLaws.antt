-- What `replay` and `log` wrote, without a machine, from what they wrote.
use Rattle.std.proofs.Common.{◌≡◌, ℕ, List, sym, subst}
use Rattle.std.specs.Prelude.{Option, Some, None, IfSome}
use Rattle.script_text.specs.Reading.{Spelled, reading}
use Rattle.script_text.specs.declared.fault.Mode.{Mode}
use Rattle.script_text.specs.declared.fault.Mode.TheVariants as mode
use Rattle.yard_model.specs.Script.{Script}
use Rattle.play_laws.specs.SafeText.{SafeText}
use Rattle.program_words.specs.declared.forms.Form.{Form}
use Rattle.program_words.specs.declared.forms.Form.TheVariants as form
use Rattle.program_words.specs.declared.status.Status.{Status}
use Rattle.program_words.specs.declared.status.Status.TheVariants as status
use Rattle.yard_top.specs.Ends.{EndsAs, EndsOf, Streams, Wrote, Taken}
use Rattle.yard_top.specs.Safely.{IfTraced, IsSafely, WroteSafely}

spelled_whole : (m : Mode) (had : Option (List ℕ)) (input : List ℕ) (c : Script) → IfSome had (λ xs. input ≡ xs) → reading m input ≡ Spelled c → IfSome had (λ xs. reading m xs ≡ Spelled c)
spelled_whole m None input c all e = tt
spelled_whole m (Some xs) input c all e = subst (λ ys. reading m ys ≡ Spelled c) all e

of_form : (f : Form) (stop : Option ℕ) (had has : Option (List ℕ)) (before after : Taken) → Wrote f stop had has before after → IfTraced f (WroteSafely had before.bytes after.bytes)
of_form form.Replay stop had has before after w = record {
  script = w.script;
  spelled = spelled_whole mode.Replay had w.came.input w.script w.came.all w.came.spelled;
  text = w.text;
  written = w.written;
  safe = subst (SafeText w.script) (sym w.is_text) w.holds.0;
}
of_form form.Log stop had has before after w = record {
  script = w.script;
  spelled = spelled_whole mode.Log had w.came.input w.script w.came.all w.came.spelled;
  text = w.text;
  written = w.written;
  safe = subst (SafeText w.script) (sym w.is_text) w.holds.0;
}
of_form form.Solo stop had has before after w = tt
of_form form.ReplayJson stop had has before after w = tt
of_form (form.Bulk n) stop had has before after w = tt
of_form (form.Live n s) stop had has before after w = tt
of_form form.Pull stop had has before after w = tt
of_form (form.Daemon n) stop had has before after w = tt
of_form form.Resume stop had has before after w = tt
of_form form.Apply stop had has before after w = tt

of_some : (f : Form) (old new : Streams) (s : Status) → EndsAs f old new s → IsSafely (Some f) old new s
of_some f old new status.Ok e = of_form f None old.left new.left old.taken new.taken e
of_some f old new (status.WireFull line) e = of_form f (Some line) old.left new.left old.taken new.taken e
of_some f old new status.Usage e = tt
of_some f old new (status.Refused line why) e = tt
of_some f old new status.ReadFault e = tt
of_some f old new status.WriteFault e = tt
of_some f old new status.OutOfMemory e = tt
of_some f old new status.DiskFault e = tt
of_some f old new status.LogThere e = tt
of_some f old new (status.LogDamaged at) e = tt
of_some f old new (status.LogForeign batch) e = tt

of_none : (old new : Streams) (s : Status) → s ≡ status.Usage → IsSafely None old new s
of_none old new status.Usage e = tt
of_none old new status.Ok e = tt
of_none old new (status.WireFull line) e = tt
of_none old new (status.Refused line why) e = tt
of_none old new status.ReadFault e = tt
of_none old new status.WriteFault e = tt
of_none old new status.OutOfMemory e = tt
of_none old new status.DiskFault e = tt
of_none old new status.LogThere e = tt
of_none old new (status.LogDamaged at) e = tt
of_none old new (status.LogForeign batch) e = tt

pub safely : (o : Option Form) (old new : Streams) (s : Status) → EndsOf o old new s → IsSafely o old new s
safely None old new s e = of_none old new s e.0
safely (Some f) old new s e = of_some f old new s e
