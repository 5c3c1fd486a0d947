-- What one piece of a line does to the tokens ahead.
use Rattle.std.proofs.Common.{◌≡◌, ℕ, ◌+◌, ◌-◌, ◌<◌, ◌≤◌, List, length, take, drop, Option, Result, refl, ap, ◌∙◌, arith}
use Rattle.std.proofs.lemmas.List.{drop-drop, take_rest, length-drop}
use Rattle.tokens.specs.declared.token.Token.{Token}
use Rattle.lines.specs.declared.piece.LineState.{LineState}
use Rattle.lines.specs.Pieces as piece
use Rattle.lines.specs.Pieces.{Shown, character, active, named, nothing}
use Rattle.lines.specs.Line.{Categories, Item, left, piece_of, taken_of, state_after, onward, pieces}
use Rattle.lines.proofs.Reading.{first_piece}
use Rattle.lines.proofs.Bounds.{taken_within, taken_some}
use Rattle.names.specs.Naming.{Spellings, Entered, known, refused, enter, names_after}
use Rattle.sources.specs.declared.fault.ReadRefusal.{ReadRefusal}
use Rattle.sources.specs.Ahead.{by_number, numbered, ahead_of, piece_token, piece_names, entered_token, Unnamed, Turned}

module _ (cs : Categories) where
  name_turned : (ns : Spellings) (is : List Item) (e : Entered) → Turned cs (by_number e ns is (λ ms. numbered (pieces cs is) ms)) (entered_token e) (names_after ns e) is
  unfolding ahead_of
  name_turned ns is (known n ms) = refl
  name_turned ns is (refused f) = refl

  piece_turned : (p : Shown) (ns : Spellings) (is : List Item) → Turned cs (numbered (onward p is (pieces cs is)) ns) (piece_token ns p) (piece_names ns p) is
  unfolding ahead_of
  piece_turned (character c b) ns is = refl
  piece_turned (active b) ns is = refl
  piece_turned (named s) ns is = name_turned ns is (enter ns s)
  piece_turned nothing ns is = refl
  piece_turned piece.refused ns is = refl

  pub turned : (s : LineState) (bs : List ℕ) (ns : Spellings) (is : List Item)
      → Turned cs (ahead_of cs ns (left s bs is)) (piece_token ns (piece_of cs s bs)) (piece_names ns (piece_of cs s bs)) (left (state_after cs s (piece_of cs s bs)) (drop (taken_of cs s bs) bs) is)
  unfolding ahead_of
  turned s bs ns is = rw (first_piece cs s bs is) (piece_turned (piece_of cs s bs) ns (left (state_after cs s (piece_of cs s bs)) (drop (taken_of cs s bs) bs) is))

name_unnamed : (ns : Spellings) (e : Entered) → Unnamed (entered_token e) ns (names_after ns e)
name_unnamed ns (known n ms) = tt
name_unnamed ns (refused f) = tt

pub unnamed : (ns : Spellings) (p : Shown) → Unnamed (piece_token ns p) ns (piece_names ns p)
unnamed ns (character c b) = tt
unnamed ns (active b) = tt
unnamed ns (named s) = name_unnamed ns (enter ns s)
unnamed ns nothing = refl
unnamed ns piece.refused = tt

module _ (cs : Categories) (line : List ℕ) (t n : ℕ) (s u : LineState) (p : Shown) (ns ms : Spellings) (r : Result (Option Token) ReadRefusal) where
  -- one turn of a loop over the pieces of a line
  pub turn : p ≡ piece_of cs s (take (length line - t) (drop t line)) → n ≡ taken_of cs s (take (length line - t) (drop t line)) → u ≡ state_after cs s p
      → r ≡ piece_token ns p → ms ≡ piece_names ns p
      → (is : List Item) → Turned cs (ahead_of cs ns (left s (drop t line) is)) r ms (left u (drop (t + n) line) is)
  turn lexed took state answer after is =
      let e : p ≡ piece_of cs s (drop t line) = lexed ∙ ap (piece_of cs s) (take_rest line t) in
      let k : n ≡ taken_of cs s (drop t line) = took ∙ ap (taken_of cs s) (take_rest line t) in
      rw (answer, after, state, k, ← drop-drop (taken_of cs s (drop t line)) t line, e) (turned cs s (drop t line) ns is)

  pub turn_unnamed : r ≡ piece_token ns p → ms ≡ piece_names ns p → Unnamed r ns ms
  turn_unnamed answer after = rw (answer, after) (unnamed ns p)

  pub turn_some : n ≡ taken_of cs s (take (length line - t) (drop t line)) → t < length line → t < t + n
  turn_some took h =
      let d : 0 < length (take (length line - t) (drop t line)) = rw (take_rest line t, length-drop t line) (omega arith) in
      omega (arith, taken_some cs s (take (length line - t) (drop t line)) d)

  pub turn_within : n ≡ taken_of cs s (take (length line - t) (drop t line)) → t < length line → t + n ≤ length line
  turn_within took h =
      let d : length (take (length line - t) (drop t line)) ≡ length line - t = ap length (take_rest line t) ∙ length-drop t line in
      omega (arith, taken_within cs s (take (length line - t) (drop t line)))
