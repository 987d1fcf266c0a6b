-- The words that ask for a notice of the program itself: `--help` or `--version`, alone.
use Rattle.std.specs.Prelude.{ℕ, nat_eq, List, [], ◌∷◌, String, string_bytes, Option, Some, None, codes, if◌then◌else◌}
use Rattle.std.specs.Cmp.Lexicographic.{pointwise}
use Rattle.std.specs.declared.alloc.Global.{Global}
use Rattle.yard_model.specs.Text.{Bytes}
use Rattle.program_words.specs.declared.notice.Notice.{Notice}
use Rattle.program_words.specs.declared.notice.Notice.TheVariants as notice
use Rattle.program_words.specs.declared.notice.TheConstants.{HELP, VERSION}

abbrev pub notice_of_word : List ℕ → Option Notice
notice_of_word w =
    if pointwise nat_eq w (codes "--help") then Some notice.Help
    else if pointwise nat_eq w (codes "--version") then Some notice.Version
    else None

abbrev pub notice_in : List (String Global) → Option Notice
notice_in [] = None
notice_in (w ∷ []) = notice_of_word (string_bytes w)
notice_in (w ∷ v ∷ ws) = None

-- what is told: the text stands with the code
abbrev pub text_of : Notice → Bytes
text_of notice.Help = HELP.now
text_of notice.Version = VERSION.now
