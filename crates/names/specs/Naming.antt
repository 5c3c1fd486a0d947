-- Spellings and their numbers.
--   Spellings      the spellings in the order in which they were entered: the first has the number 256
--   find           the number of a spelling, where the first of the list has the number k
--   number_in      the number of a spelling
--   spelling_in    the spelling of a number: none below 256, where the active characters are, and none past the end
--   taken_in       how many numbers are taken, those of the active characters with them
--   Entered        what comes of entering a spelling: its number and the spellings then, or a refusal
--   entered        entering a spelling that is short enough, by the number that it has, if any: at most 1,024 numbers are taken
--   enter          entering a spelling of at most 32 bytes
--   number_of      what is answered
--   names_after    the spellings after, as before where it was refused
--   enter_all      the spellings after some were entered in turn
--   Place          a place in the list, counted from 0
--   Distinct       no spelling stands at two places
--   first_names    the spellings of the sixteen primitives, numbers 256 to 271
--   fault_number   the number of a refusal
use Rattle.std.specs.Prelude.{◌≡◌, ℕ, ◌+◌, ◌-◌, ◌<◌, cond, List, [], ◌∷◌, ◌++◌, length, Some, None, Ok, Err, codes, Option, Result, nat_le, nat_lt, slice_index_or}
use Rattle.std.specs.List.{slice_get}
use Rattle.std.specs.Str.{bytes_eq}
use Rattle.names.specs.declared.fault.NamesFault.{NamesFault}
use Rattle.names.specs.declared.fault.NamesFault.TheVariants.{TooLong, Full}

abbrev pub Spellings : Type 0
Spellings = List (List ℕ)

abbrev pub find : ℕ → List ℕ → Spellings → Option ℕ
find k s [] = None
find k s (t ∷ ts) = cond (bytes_eq t s) (Some k) (find (k + 1) s ts)

abbrev pub number_in : Spellings → List ℕ → Option ℕ
number_in ns s = find 256 s ns

abbrev pub spelling_in : Spellings → ℕ → Option (List ℕ)
spelling_in ns n = cond (nat_le 256 n) (slice_get ns (n - 256)) None

abbrev pub taken_in : Spellings → ℕ
taken_in ns = 256 + length ns

pub data Entered : Type 0 where
  known : ℕ → Spellings → Entered
  refused : NamesFault → Entered

abbrev pub entered : Spellings → List ℕ → Option ℕ → Entered
entered ns s (Some n) = known n ns
entered ns s None = cond (nat_lt (taken_in ns) 1024) (known (taken_in ns) (ns ++ (s ∷ []))) (refused Full)

abbrev pub enter : Spellings → List ℕ → Entered
enter ns s = cond (nat_le (length s) 32) (entered ns s (number_in ns s)) (refused TooLong)

abbrev pub number_of : Entered → Result ℕ NamesFault
number_of (known n ns) = Ok n
number_of (refused f) = Err f

abbrev pub names_after : Spellings → Entered → Spellings
names_after ns (known n ms) = ms
names_after ns (refused f) = ns

abbrev pub enter_all : Spellings → Spellings → Spellings
enter_all ns [] = ns
enter_all ns (s ∷ ss) = enter_all (names_after ns (enter ns s)) ss

abbrev pub Place : Spellings → Type 0
Place ns = (i : ℕ) × (i < length ns)

abbrev pub Distinct : Spellings → Type 0
Distinct ns = (p q : Place ns) → slice_index_or ns p.0 [] ≡ slice_index_or ns q.0 [] → p.0 ≡ q.0

abbrev pub first_names : Spellings
first_names =
    codes "relax" ∷ codes "par" ∷ codes "def" ∷ codes "gdef" ∷ codes "let" ∷ codes "global" ∷ codes "long" ∷ codes "catcode"
    ∷ codes "begingroup" ∷ codes "endgroup" ∷ codes "expandafter" ∷ codes "ifx" ∷ codes "iftrue" ∷ codes "iffalse" ∷ codes "else" ∷ codes "fi"
    ∷ []

abbrev pub fault_number : NamesFault → ℕ
fault_number TooLong = 12
fault_number Full = 13
