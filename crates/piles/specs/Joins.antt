-- What a join of two sources is, given what each side is.
--   join_ahead   the items ahead: the first side's, then the second's
--   join_place   the place: that of the side read last (by_side: the one of two)
--   Reading      what one read, under categories and names, makes of a source
--   JoinReads    what one read makes of a join: it reads the first side, and where that answers nothing, the second
--   SecondReads what it makes of the second side, by what was ahead of the first
use Rattle.std.specs.Prelude.{◌≡◌, List, ◌++◌}
use Rattle.lines.specs.Line.{Categories, Item}
use Rattle.names.specs.Naming.{Spellings}
use Rattle.sources.specs.declared.fault.Place.{Place}
use Rattle.sources.specs.Ahead.{Ahead, none, fault, token, ahead_of}
use Rattle.piles.specs.declared.join.Side.{Side}
use Rattle.piles.specs.declared.join.Side.TheVariants.{First, Second}
use Rattle.piles.specs.declared.join.Join.{Join}

abbrev pub join_ahead : {A B : Type 0} → (A → List Item) → (B → List Item) → Join A B → List Item
join_ahead ahead₁ ahead₂ j = ahead₁ j.first ++ ahead₂ j.second

abbrev pub by_side : Side → Place → Place → Place
by_side First p q = p
by_side Second p q = q

abbrev pub join_place : {A B : Type 0} → (A → Place) → (B → Place) → Join A B → Place
join_place place₁ place₂ j = by_side j.last (place₁ j.first) (place₂ j.second)

abbrev pub Reading : Type 0 → Type 1
Reading S = Categories → Spellings → S → S → Type 0

abbrev pub SecondReads : {A B : Type 0} → Reading B → Ahead → Reading (Join A B)
SecondReads reads (none ms) cs ns j k = reads cs ns j.second k.second × (k.last ≡ Second)
SecondReads reads (fault e ms is) cs ns j k = (k.second ≡ j.second) × (k.last ≡ First)
SecondReads reads (token t ms is a) cs ns j k = (k.second ≡ j.second) × (k.last ≡ First)

abbrev pub JoinReads : {A B : Type 0} → (A → List Item) → Reading A → Reading B → Reading (Join A B)
JoinReads ahead reads₁ reads₂ cs ns j k = reads₁ cs ns j.first k.first × SecondReads reads₂ (ahead_of cs ns (ahead j.first)) cs ns j k
