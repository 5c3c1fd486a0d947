-- A text's lines, one more begun.
use Rattle.std.proofs.Common.{◌≡◌, ℕ, ◌+◌, ◌-◌, ◌<◌, ◌≤◌, eqb, ◌⊎◌, List, [], ◌∷◌, length, get_or, take, drop, sym, refl, ap, ◌∙◌, inl, inr, add-one, arith}
use Rattle.std.proofs.lemmas.List.{drop_more, drop_all, drop-drop, take_rest, length-drop, length-map}
use Rattle.std.proofs.lemmas.Bool.{cases_lt, cond_both}
use Rattle.lines.specs.declared.piece.LineState.{LineState}
use Rattle.lines.specs.declared.piece.LineState.TheVariants.{NewLine}
use Rattle.lines.specs.Line.{Item, rest, left}
use Rattle.sources.specs.Texts.{with_first, lines_of, first_line, after_line, made, made_lines, whole, Begun}
use Rattle.sources.specs.Placing.{made_line as made_some}
use Rattle.sources.proofs.Splits.{made_first}

-- a list that is not used up at n goes on with its element there
pub drop_step : (ls : List (List ℕ)) (n : ℕ) (l : List ℕ) (ms : List (List ℕ)) → drop n ls ≡ l ∷ ms → (n < length ls) × (drop (n + 1) ls ≡ ms) × (get_or ls n [] ≡ l)
drop_step ls n l ms e = go (cases_lt n (length ls))
  where
    go : (n < length ls) ⊎ (length ls ≤ n) → (n < length ls) × (drop (n + 1) ls ≡ ms) × (get_or ls n [] ≡ l)
    go (inl h) = let d = drop_more ls n [] h in (h, cc, cc)
    go (inr h) = let d = drop_all n ls h in let z : ◌≡◌ {A = ℕ} 0 1 = cc in absurd (omega arith)

with_first_length : (b : ℕ) (ls : List (List ℕ)) → length (with_first b ls) ≤ length ls + 1
with_first_length b [] = omega arith
with_first_length b (l ∷ ls) = omega arith

lines_count : (bs : List ℕ) → length (lines_of bs) ≤ length bs
lines_count [] = omega arith
lines_count (b ∷ bs) =
    cond_both (eqb b 10) ([] ∷ lines_of bs) (with_first b (lines_of bs)) (λ ls. length ls ≤ length (b ∷ bs))
    (λ _. omega (arith, lines_count bs)) (λ _. omega (arith, lines_count bs, with_first_length b (lines_of bs)))

pub lines_within : (bs : List ℕ) → length (made_lines bs) ≤ length bs
lines_within bs = omega (arith, length-map (lines_of bs) made, lines_count bs)

pub left_some : (s : LineState) (bs : List ℕ) (below : List Item) → 0 < length bs → left s bs below ≡ rest s bs ∷ below
left_some s [] below h = absurd (omega arith)
left_some s (b ∷ bs) below h = refl

module _ (bs line : List ℕ) (next n : ℕ) (h : Begun bs next line n) (p : next < length bs) where
  -- the first line of what is left, as the code has it
  abbrev Part : List ℕ
  Part = take (length bs - next) (drop next bs)

  part_some : 0 < length (drop next bs)
  part_some = rw (length-drop next bs) (omega arith)

  ahead_of : (r : ℕ) → drop r Part ≡ after_line Part → made_lines (drop next bs) ≡ made (first_line Part) ∷ made_lines (drop (next + r) bs)
  ahead_of r after =
      let e : Part ≡ drop next bs = take_rest bs next in
      let a : after_line (drop next bs) ≡ drop (next + r) bs = ap after_line (sym e) ∙ sym after ∙ ap (drop r) e ∙ drop-drop r next bs in
      made_first (drop next bs) part_some ∙ ap (λ l. made (first_line l) ∷ made_lines (after_line (drop next bs))) (sym e) ∙ ap (λ l. made (first_line Part) ∷ made_lines l) a

  pub begun_more : (r : ℕ) (made_line : List ℕ) → drop r Part ≡ after_line Part → made_line ≡ made (first_line Part) → Begun bs (next + r) made_line (n + 1)
  begun_more r made_line after e =
      let s = drop_step (made_lines bs) n (made (first_line Part)) (made_lines (drop (next + r) bs)) (h.1 ∙ ahead_of r after) in
      (omega (arith, s.0), s.1, rw (add-one n, e) s.2)

  pub ahead_same : (r : ℕ) (made_line : List ℕ) → drop r Part ≡ after_line Part → made_line ≡ made (first_line Part)
      → left NewLine made_line (whole (made_lines (drop (next + r) bs))) ≡ whole (made_lines (drop next bs))
  ahead_same r made_line after e =
      let s : 0 < length made_line = rw e (made_some (first_line Part)) in
      left_some NewLine made_line (whole (made_lines (drop (next + r) bs))) s ∙ ap (λ l. rest NewLine l ∷ whole (made_lines (drop (next + r) bs))) e ∙ ap whole (sym (ahead_of r after))

pub left_none : (s : LineState) (bs : List ℕ) (n : ℕ) (below : List Item) → length bs ≤ n → left s (drop n bs) below ≡ below
left_none s bs n below h = rw (drop_all n bs h)
