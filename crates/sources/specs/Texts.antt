-- What a text is as a source.
--   lines_of                 the lines of a text: byte 10 ends one, and a last part without it is one if it is not empty
--   first_line, after_line   the bytes before the first byte 10, and those behind it
--   trimmed                  a line without its trailing bytes 32
--   made                     a line as it is read: trimmed, with byte 13 at its end
--   made_lines               all the lines of a text as they are read
--   total                    the bytes of some lines together
--   place_at                 the line and its byte at which the last of so many bytes stands
--   Begun                    how far a text's lines are begun
--   place_in                 the place in a text, by its lines and the items ahead: where the last byte stands that is taken or dropped
use Rattle.std.specs.Prelude.{◌≡◌, ℕ, zero, suc, ◌+◌, ◌-◌, ◌≤◌, cond, List, [], ◌∷◌, ◌++◌, map, length, drop, ◌==◌, nat_le, slice_index_or}
use Rattle.lines.specs.declared.piece.LineState.TheVariants.{NewLine}
use Rattle.lines.specs.Line.{Item, rest}
use Rattle.sources.specs.declared.fault.Place.{Place}
use Rattle.sources.specs.Ahead.{extent}

abbrev pub with_first : ℕ → List (List ℕ) → List (List ℕ)
with_first b [] = (b ∷ []) ∷ []
with_first b (l ∷ ls) = (b ∷ l) ∷ ls

abbrev pub lines_of : List ℕ → List (List ℕ)
lines_of [] = []
lines_of (b ∷ bs) = cond (b == 10) ([] ∷ lines_of bs) (with_first b (lines_of bs))

abbrev pub kept_before : ℕ → List ℕ → List ℕ
kept_before b [] = cond (b == 32) [] (b ∷ [])
kept_before b (c ∷ cs) = b ∷ c ∷ cs

abbrev pub trimmed : List ℕ → List ℕ
trimmed [] = []
trimmed (b ∷ bs) = kept_before b (trimmed bs)

abbrev pub made : List ℕ → List ℕ
made l = trimmed l ++ (13 ∷ [])

abbrev pub made_lines : List ℕ → List (List ℕ)
made_lines bs = map made (lines_of bs)

-- lines that nothing was read of yet
abbrev pub whole : List (List ℕ) → List Item
whole ls = map (rest NewLine) ls

abbrev pub total : List (List ℕ) → ℕ
total [] = 0
total (l ∷ ls) = length l + total ls

-- n lines are passed already
abbrev pub place_at : ℕ → List (List ℕ) → ℕ → Place
place_at n ls zero = record { line = n; bytes = 0 }
place_at n [] (suc p) = record { line = n; bytes = 0 }
place_at n (l ∷ ls) (suc p) = cond (nat_le (suc p) (length l)) (record { line = n + 1; bytes = suc p }) (place_at (n + 1) ls (suc p - length l))

abbrev pub place_in : List (List ℕ) → List Item → Place
place_in ls is = place_at 0 ls (total ls - extent is)

-- one line at a time

abbrev pub first_line : List ℕ → List ℕ
first_line [] = []
first_line (b ∷ bs) = cond (b == 10) [] (b ∷ first_line bs)

abbrev pub after_line : List ℕ → List ℕ
after_line [] = []
after_line (b ∷ bs) = cond (b == 10) bs (after_line bs)

-- so many lines of the text are begun, the last is this one, and the others are those of the bytes from next on
abbrev pub Begun : List ℕ → ℕ → List ℕ → ℕ → Type 0
Begun bs next line n = (n ≤ length (made_lines bs)) × (drop n (made_lines bs) ≡ made_lines (drop next bs)) × (slice_index_or ([] ∷ made_lines bs) n [] ≡ line)
