-- Items behind others: what the first give comes first, and where they give nothing, what the others give.
use Rattle.std.specs.Prelude.{◌≡◌, ℕ, zero, suc, ◌+◌, List, [], ◌∷◌, ◌++◌, drop}
use Rattle.std.proofs.Math.Path.{refl}
use Rattle.std.proofs.Common.{sym, ap, ◌∙◌, arith}
use Rattle.lines.specs.declared.piece.LineState.{LineState}
use Rattle.lines.specs.Pieces.{Shown, character, active, named, nothing}
use Rattle.lines.specs.Pieces as piece
use Rattle.lines.specs.Line as line
use Rattle.lines.specs.Line.{Categories, category, piece_of, more_by, state_after, Item, ready, rest, left, Pieces, invalid, given, name, onward, pieces}
use Rattle.names.specs.Naming.{Spellings, Entered, known, refused, enter}
use Rattle.sources.specs.Ahead.{Ahead, none, fault, token, by_number, numbered, ahead_of, extent}

pub extent_append : (is js : List Item) → extent (is ++ js) ≡ extent is + extent js
extent_append [] js = omega arith
extent_append (ready t ∷ is) js = omega (arith, extent_append is js)
extent_append (rest s bs ∷ is) js = omega (arith, extent_append is js)

left_append : (s : LineState) (bs : List ℕ) (is js : List Item) → left s bs is ++ js ≡ left s bs (is ++ js)
left_append s [] is js = refl
left_append s (b ∷ bs) is js = refl

-- pieces, with the items behind each put before others, and what these give at the end
abbrev pub before : List Item → Pieces → Pieces → Pieces
before js more line.none = more
before js more (invalid is) = invalid (is ++ js)
before js more (given t is ps) = given t (is ++ js) (before js more ps)
before js more (name s is ps) = name s (is ++ js) (before js more ps)

onward_before : (js : List Item) (more : Pieces) (p : Shown) (is : List Item) (ps : Pieces) → onward p (is ++ js) (before js more ps) ≡ before js more (onward p is ps)
onward_before js more (character c b) is ps = refl
onward_before js more (active b) is ps = refl
onward_before js more (named s) is ps = refl
onward_before js more nothing is ps = refl
onward_before js more piece.refused is ps = refl

module _ (cs : Categories) (js : List Item) (more : Pieces) where
  line_before : (bs : List ℕ) (n : ℕ) (s : LineState) (is : List Item) (ps : Pieces) → line.line cs bs n s (is ++ js) (before js more ps) ≡ before js more (line.line cs bs n s is ps)
  line_before [] n s is ps = refl
  line_before (b ∷ bs) zero s is ps =
      let p = piece_of cs s (b ∷ bs) in
      let n = more_by cs bs (category cs b) in
      let t = state_after cs s p in
      ap (λ (l : List Item). onward p l (line.line cs bs n t (is ++ js) (before js more ps))) (sym (left_append t (drop n bs) is js))
      ∙ ap (onward p (left t (drop n bs) is ++ js)) (line_before bs n t is ps)
      ∙ onward_before js more p (left t (drop n bs) is) (line.line cs bs n t is ps)
  line_before (b ∷ bs) (suc n) s is ps = line_before bs n s is ps

pub pieces_append : (cs : Categories) (is js : List Item) → pieces cs (is ++ js) ≡ before js (pieces cs js) (pieces cs is)
pieces_append cs [] js = refl
pieces_append cs (ready t ∷ is) js = ap (given t (is ++ js)) (pieces_append cs is js)
pieces_append cs (rest s bs ∷ is) js = ap (line.line cs bs 0 s (is ++ js)) (pieces_append cs is js) ∙ line_before cs js (pieces cs js) bs 0 s is (pieces cs is)

-- what is ahead of items with others behind them, by what is ahead of the first alone
abbrev pub Over : Categories → Spellings → List Item → Ahead → Ahead → Type 0
Over cs ns js (none ms) b = (b ≡ ahead_of cs ns js) × (ms ≡ ns)
Over cs ns js (fault e ms is) b = b ≡ fault e ms (is ++ js)
Over cs ns js (token t ms is a) b = (more : Ahead) × (b ≡ token t ms (is ++ js) more)

module _ (cs : Categories) (ns : Spellings) (js : List Item) where
  name_over : (e : Entered) (is : List Item) (more after : Spellings → Ahead) → Over cs ns js (by_number e ns is more) (by_number e ns (is ++ js) after)
  name_over (known n ms) is more after = (after ms, refl)
  name_over (refused f) is more after = refl

  pieces_over : (ps : Pieces) → Over cs ns js (numbered ps ns) (numbered (before js (pieces cs js) ps) ns)
  unfolding ahead_of
  pieces_over line.none = (refl, refl)
  pieces_over (invalid is) = refl
  pieces_over (given t is ps) = (numbered (before js (pieces cs js) ps) ns, refl)
  pieces_over (name s is ps) = name_over (enter ns s) is (λ ms. numbered ps ms) (λ ms. numbered (before js (pieces cs js) ps) ms)

  pub over : (is : List Item) → Over cs ns js (ahead_of cs ns is) (ahead_of cs ns (is ++ js))
  unfolding ahead_of
  over is = rw (pieces_append cs is js) (pieces_over (pieces cs is))
