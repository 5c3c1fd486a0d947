-- What an entry holds.
--   spelled        the bytes of a spelling
--   spellings      the spellings of entries, in their order
use Rattle.std.specs.Prelude.{ℕ, List, map}
use Rattle.names.specs.declared.spelling.Spelling.{Spelling}

abbrev pub spelled : Spelling → List ℕ
spelled s = s.bytes.items

abbrev pub spellings : List Spelling → List (List ℕ)
spellings es = map spelled es
