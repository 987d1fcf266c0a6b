use Rattle.std.specs.Prelude.{ℕ, List, codes}
use Rattle.yard_io.specs.declared.transfer.ReadError.{ReadError}
use Rattle.yard_io.specs.declared.transfer.ReadError.TheVariants as read_error

-- how an error of reading is put into words
abbrev pub words_of : ReadError → List ℕ
words_of read_error.Failed = codes "a read failed"
words_of read_error.OutOfMemory = codes "out of memory"
