-- What a text of the program holds.
--   text_lines   all its lines, as they are read
--   text_ahead   the items ahead: what is left of the line, and the lines to come
--   text_place   its place
--   MadeText     what making a text of some bytes answers: 49 exactly over 65,536 bytes, at 0, 0
use Rattle.std.specs.Prelude.{◌≡◌, ℕ, List, length, drop, Err, vec_items, MatchBool, Result, MatchResult, nat_lt}
use Rattle.lines.specs.Line.{Item, left}
use Rattle.sources.specs.declared.fault.Place.{Place}
use Rattle.sources.specs.declared.fault.PileRefusal.TheVariants.{TextTooLong}
use Rattle.sources.specs.declared.fault.PileFault.TheVariants.{Pile}
use Rattle.sources.specs.declared.text.Text.{Text}
use Rattle.sources.specs.declared.text.MakeFault.{MakeFault}
use Rattle.sources.specs.declared.text.MakeFault.TheVariants.{NoMemory, Refused}
use Rattle.sources.specs.Texts.{made_lines, whole}

abbrev pub text_lines : Text → List (List ℕ)
text_lines t = made_lines (vec_items t.bytes)

abbrev pub text_ahead : Text → List Item
text_ahead t = left t.cursor.state (drop t.cursor.taken (vec_items t.line)) (whole (made_lines (drop t.next (vec_items t.bytes))))

abbrev pub text_place : Text → Place
text_place t = record { line = t.number; bytes = t.cursor.taken }

abbrev pub origin : Place
origin = record { line = 0; bytes = 0 }

abbrev pub MadeText : List ℕ → Result Text MakeFault → Type 0
MadeText bs r =
    MatchBool (nat_lt 65536 (length bs)) (r ≡ Err (Refused (Pile TextTooLong origin)))
    (MatchResult r (λ t. (text_lines t ≡ made_lines bs) × (text_ahead t ≡ whole (made_lines bs)) × (text_place t ≡ origin)) (λ e. e ≡ NoMemory))
