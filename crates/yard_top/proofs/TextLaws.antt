-- What an answer says of the text of a form that needs a script alone, from what it says of the text.
use Rattle.std.proofs.Common.{◌≡◌, ◌≤◌, ℕ, List, inr, ap, arith}
use Rattle.std.specs.Prelude.{true, Option, Result, Ok, Err}
use Rattle.yard_model.specs.Script.{Script}
use Rattle.yard_model.specs.Text.{Bytes}
use Rattle.program_words.specs.declared.forms.Form.{Form}
use Rattle.program_words.specs.declared.forms.Form.TheVariants as form
use Rattle.run_parts.specs.declared.writing.WriteError.{WriteError}
use Rattle.run_parts.specs.declared.writing.WriteError.TheVariants as error
use Rattle.live_run.specs.Written.{WritesLive}
use Rattle.yard_top.specs.Ends.{IsText, HasScript, WroteFront}
use Rattle.program_words.specs.Forms.{from_of, is_bare}
use Rattle.yard_top.specs.Texts.{Gives, RanOut, TookSome}
use Rattle.run_parts.specs.Writing.{Sunk, Writes}

ran_out : (f : Form) (c : Script) (old new : Sunk) → is_bare f ≡ true → TookSome f c error.OutOfMemory old new → RanOut f c old new
ran_out form.Solo c old new alone some = some
ran_out form.Replay c old new alone some = some
ran_out form.ReplayJson c old new alone some = some
ran_out (form.Bulk n) c old new alone some = some
ran_out (form.Live n s) c old new alone some = cc
ran_out form.Log c old new alone some = cc
ran_out form.Resume c old new alone some = cc
ran_out form.Apply c old new alone some = cc
ran_out form.Pull c old new alone some = some
ran_out (form.Daemon n) c old new alone some = some

pub gives : {A : Type 0} (f : Form) (c : Script) (text : Bytes) (r : Result A WriteError) (old new : Sunk) → is_bare f ≡ true → IsText f c text → Writes text r old new → Gives f c r old new
gives f c text (Ok x) old new alone is w = record { text = text; is_text = is; took = w }
gives f c text (Err error.Failed) old new alone is w = record { text = text; is_text = is; front = w }
gives f c text (Err error.OutOfMemory) old new alone is w = ran_out f c old new alone (record { text = text; is_text = is; front = w })

-- the same of `live`
pub gives_live : {A : Type 0} (turns seed : ℕ) (c : Script) (r : Result A WriteError) (old new : Sunk) → WritesLive c turns r old new → Gives (form.Live turns seed) c r old new
gives_live turns seed c (Ok x) old new w = record { text = w.text; is_text = w.is_text; took = w.took }
gives_live turns seed c (Err error.Failed) old new w = record { text = w.text; is_text = w.is_text; front = w.front }
gives_live turns seed c (Err error.OutOfMemory) old new same =
    let faults : new.faults ≡ old.faults = ap (λ (s : Sunk). s.faults) same in
    record { taken_is = ap (λ (s : Sunk). s.taken) same; flushed_is = ap (λ (s : Sunk). s.flushed) same; faults_are = omega arith }

-- there was no memory, and a front of the text was taken, or nothing
pub wrote_front : (f : Form) (c : Script) (had has : Option (List ℕ)) (old new : Sunk) → HasScript (from_of f) had has c → RanOut f c old new
    → WroteFront f had has (record { bytes = old.taken; flushed = old.flushed }) (record { bytes = new.taken; flushed = new.flushed })
wrote_front form.Solo c had has old new came some = inr (record { script = c; came = came; text = some.text; is_text = some.is_text; begun = some.front.front })
wrote_front form.Replay c had has old new came some = inr (record { script = c; came = came; text = some.text; is_text = some.is_text; begun = some.front.front })
wrote_front form.ReplayJson c had has old new came some = inr (record { script = c; came = came; text = some.text; is_text = some.is_text; begun = some.front.front })
wrote_front (form.Bulk n) c had has old new came some = inr (record { script = c; came = came; text = some.text; is_text = some.is_text; begun = some.front.front })
wrote_front (form.Live n s) c had has old new came none = none.taken_is
wrote_front form.Log c had has old new came some = inr (record { script = c; came = came; text = some.text; is_text = some.is_text; begun = some.front.front })
wrote_front form.Resume c had has old new came none = none.taken_is
wrote_front form.Apply c had has old new came none = none.taken_is
wrote_front form.Pull c had has old new came some = inr (record { script = c; came = came; text = some.text; is_text = some.is_text; begun = some.front.front })
wrote_front (form.Daemon n) c had has old new came some = inr (record { script = c; came = came; text = some.text; is_text = some.is_text; begun = some.front.front })

pub flushed_stays : (f : Form) (c : Script) (old new : Sunk) → RanOut f c old new → new.flushed ≡ old.flushed
flushed_stays form.Solo c old new some = some.front.flushed_is
flushed_stays form.Replay c old new some = some.front.flushed_is
flushed_stays form.ReplayJson c old new some = some.front.flushed_is
flushed_stays (form.Bulk n) c old new some = some.front.flushed_is
flushed_stays (form.Live n s) c old new none = none.flushed_is
flushed_stays form.Pull c old new some = some.front.flushed_is
flushed_stays (form.Daemon n) c old new some = some.front.flushed_is
flushed_stays form.Log c old new some = some.front.flushed_is
flushed_stays form.Resume c old new none = none.flushed_is
flushed_stays form.Apply c old new none = none.flushed_is
