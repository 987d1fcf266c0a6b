-- How a run ends whose text was written, or a front of it, from what became of the text.
use Rattle.std.proofs.Common.{◌≡◌, ℕ, List, sym, subst, ap, ◌∙◌, inl}
use Rattle.std.specs.Prelude.{Option, Some, None}
use Rattle.yard_io.specs.Told.{count_of, followed_by}
use Rattle.script_text.specs.Reading.{Reading, reading}
use Rattle.yard_model.specs.Script.{Script}
use Rattle.yard_model.specs.Text.{Bytes}
use Rattle.program_words.specs.Forms.{from_of}
use Rattle.program_words.specs.declared.forms.Form.{Form}
use Rattle.program_words.specs.declared.forms.Form.TheVariants as form
use Rattle.program_words.specs.declared.forms.ScriptFrom.{ScriptFrom}
use Rattle.program_words.specs.declared.forms.ScriptFrom.TheVariants as script_from
use Rattle.program_words.specs.declared.status.Status.{Status}
use Rattle.yard_top.specs.Ends.{Answers, EndsAs, HasScript, Holds, IsAnswered, IsCarriedOut, IsText, Streams, end_of, stops_at}

-- its whole text
pub written : (f : Form) (c : Script) (stop : Option ℕ) (text : Bytes) (old new : Streams) (s : Status) → HasScript (from_of f) old.left new.left c → stop ≡ stops_at f c → IsText f c text
    → new.taken.bytes ≡ followed_by old.taken.bytes text → new.taken.flushed ≡ count_of new.taken.bytes → Holds f c → s ≡ end_of stop → EndsAs f old new s
written f c stop text old new s came stops is_text bytes flushed holds ends = by stop stops ends
  where
    by : (o : Option ℕ) → o ≡ stops_at f c → s ≡ end_of o → EndsAs f old new s
    by None at e = subst (EndsAs f old new) (sym e) (record {
      script = c;
      came = came;
      stops = sym at;
      text = text;
      is_text = is_text;
      written = bytes;
      flushed = flushed;
      holds = holds;
    })
    by (Some line) at e = subst (EndsAs f old new) (sym e) (record {
      script = c;
      came = came;
      stops = sym at;
      text = text;
      is_text = is_text;
      written = bytes;
      flushed = flushed;
      holds = holds;
    })

-- A script that came is answered so.

carried : (f : Form) (c : Script) (s : Status) (stop : Option ℕ) → stop ≡ stops_at f c → s ≡ end_of stop → IsCarriedOut f c s
carried form.Log c s stop at e = tt
carried form.Resume c s stop at e = tt
carried form.Apply c s stop at e = tt
carried form.Solo c s stop at e = inl (e ∙ ap end_of at)
carried form.Replay c s stop at e = inl (e ∙ ap end_of at)
carried form.ReplayJson c s stop at e = inl (e ∙ ap end_of at)
carried (form.Bulk n) c s stop at e = inl (e ∙ ap end_of at)
carried (form.Live n t) c s stop at e = inl (e ∙ ap end_of at)
carried form.Pull c s stop at e = inl (e ∙ ap end_of at)
carried (form.Daemon n) c s stop at e = inl (e ∙ ap end_of at)

pub answered : (f : Form) (from : ScriptFrom) (c : Script) (had has : Option (List ℕ)) (s : Status) (stop : Option ℕ) → HasScript from had has c → stop ≡ stops_at f c → s ≡ end_of stop → IsAnswered f from had s
answered f (script_from.Input m) c None has s stop came at e = tt
answered f (script_from.Input m) c (Some xs) has s stop came at e =
    subst (λ (r : Reading). Answers f r s) (sym (ap (reading m) (sym came.came.bytes_are) ∙ came.spelled)) (carried f c s stop at e)
answered f (script_from.Number n) c had has s stop came at e = subst (λ (x : Script). IsCarriedOut f x s) came (carried f c s stop at e)
