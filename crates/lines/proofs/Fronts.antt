-- A line that is not empty, by its first byte.
use Rattle.std.proofs.Common.{◌≡◌, ℕ, ◌+◌, ◌-◌, ◌<◌, List, [], ◌∷◌, length, get_or, take, drop, ap, arith}
use Rattle.std.proofs.lemmas.List.{take_rest}
use Rattle.lines.specs.declared.piece.LineState.{LineState}
use Rattle.lines.specs.Line.{Categories, category, piece_by, piece_of, more_by, taken_of}

module _ (cs : Categories) (s : LineState) where
  pub piece_front : (l : List ℕ) → 0 < length l → piece_by cs s (get_or l 0 0) (take (length l - 1) (drop 1 l)) (category cs (get_or l 0 0)) ≡ piece_of cs s l
  piece_front [] h = absurd (omega arith)
  piece_front (b ∷ bs) h = ap (λ r. piece_by cs s b r (category cs b)) (take_rest (b ∷ bs) 1)

  pub taken_front : (l : List ℕ) → 0 < length l → 1 + more_by cs (take (length l - 1) (drop 1 l)) (category cs (get_or l 0 0)) ≡ taken_of cs s l
  taken_front [] h = absurd (omega arith)
  taken_front (b ∷ bs) h = ap (λ r. 1 + more_by cs r (category cs b)) (take_rest (b ∷ bs) 1)
