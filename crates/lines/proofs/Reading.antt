-- What a line gives is its first piece, and then what the bytes behind that give.
use Rattle.std.proofs.Common.{◌≡◌, ℕ, zero, suc, ◌+◌, List, [], ◌∷◌, drop, sym, refl, ap, ◌∙◌, one-add}
use Rattle.lines.specs.declared.piece.LineState.{LineState}
use Rattle.lines.specs.Pieces.{Shown, character, active, named, nothing, refused}
use Rattle.lines.specs.Line.{Categories, category, piece_of, more_by, state_after, Item, ready, rest, left, Pieces, none, invalid, given, name, onward, line, pieces, First}

module _ (cs : Categories) where
  line_taken : (bs : List ℕ) (n : ℕ) (s : LineState) (below : List Item) (more : Pieces) → line cs bs n s below more ≡ line cs (drop n bs) 0 s below more
  line_taken [] zero s below more = refl
  line_taken [] (suc n) s below more = refl
  line_taken (b ∷ bs) zero s below more = refl
  line_taken (b ∷ bs) (suc n) s below more = line_taken bs n s below more

  pub pieces_left : (s : LineState) (bs : List ℕ) (is : List Item) → pieces cs (left s bs is) ≡ line cs bs 0 s is (pieces cs is)
  pieces_left s [] is = refl
  pieces_left s (b ∷ bs) is = refl

  behind : (bs : List ℕ) (n : ℕ) (t : LineState) (is : List Item) → line cs bs n t is (pieces cs is) ≡ pieces cs (left t (drop n bs) is)
  behind bs n t is = line_taken bs n t is (pieces cs is) ∙ sym (pieces_left t (drop n bs) is)

  drop_first : (b : ℕ) (bs : List ℕ) (n : ℕ) → drop n bs ≡ drop (1 + n) (b ∷ bs)
  drop_first b bs n = rw (one-add n)

  first_of : (s : LineState) (b : ℕ) (bs : List ℕ) (is : List Item) → pieces cs (rest s (b ∷ bs) ∷ is) ≡ First cs s (b ∷ bs) is
  first_of s b bs is =
      let p = piece_of cs s (b ∷ bs) in
      let n = more_by cs bs (category cs b) in
      let t = state_after cs s p in
      ap (onward p (left t (drop n bs) is)) (behind bs n t is)
      ∙ ap (λ r. onward p (left t r is) (pieces cs (left t r is))) (drop_first b bs n)

  -- also of a line with no byte left, which gives nothing
  pub first_piece : (s : LineState) (bs : List ℕ) (is : List Item) → pieces cs (left s bs is) ≡ First cs s bs is
  first_piece s [] is = refl
  first_piece s (b ∷ bs) is = first_of s b bs is

  -- what stands behind a piece is what the items behind it give
  abbrev pub Behind : Pieces → Type 0
  Behind none = Unit {0}
  Behind (invalid is) = Unit {0}
  Behind (given t is ps) = ps ≡ pieces cs is
  Behind (name s is ps) = ps ≡ pieces cs is

  onward_behind : (p : Shown) (is : List Item) (more : Pieces) → more ≡ pieces cs is → Behind more → Behind (onward p is more)
  onward_behind (character c b) is more e h = e
  onward_behind (active b) is more e h = e
  onward_behind (named s) is more e h = e
  onward_behind nothing is more e h = h
  onward_behind refused is more e h = tt

  line_behind : (bs : List ℕ) (n : ℕ) (s : LineState) (is : List Item) → Behind (pieces cs is) → Behind (line cs bs n s is (pieces cs is))
  line_behind [] n s is h = h
  line_behind (b ∷ bs) zero s is h =
      let p = piece_of cs s (b ∷ bs) in
      let n = more_by cs bs (category cs b) in
      let t = state_after cs s p in
      onward_behind p (left t (drop n bs) is) (line cs bs n t is (pieces cs is)) (behind bs n t is) (line_behind bs n t is h)
  line_behind (b ∷ bs) (suc n) s is h = line_behind bs n s is h

  pub pieces_behind : (is : List Item) → Behind (pieces cs is)
  pieces_behind [] = tt
  pieces_behind (ready t ∷ is) = refl
  pieces_behind (rest s bs ∷ is) = line_behind bs 0 s is (pieces_behind is)
