-- The place in a text, by how far its lines are begun and the last of them is read.
use Rattle.std.specs.Prelude.{◌≡◌, ℕ, zero, suc, ◌+◌, ◌-◌, ◌<◌, ◌≤◌, ◌⊎◌, List, [], ◌∷◌, map, length, take, drop, ◌==◌, slice_index_or, refl}
use Rattle.std.proofs.Common.{ap, ◌∙◌, inl, inr, zero-add, arith}
use Rattle.std.proofs.lemmas.List.{length-drop, get_or-map, length_push, length-map}
use Rattle.std.proofs.lemmas.Bool.{le-leb, lt-leb, cond_both}
use Rattle.lines.specs.declared.piece.LineState.{LineState}
use Rattle.lines.specs.Line.{Item, left}
use Rattle.sources.specs.Ahead.{extent}
use Rattle.sources.specs.Texts.{with_first, lines_of, kept_before, trimmed, made, made_lines, whole, total, place_at, place_in, Begun}

extent_left : (s : LineState) (bs : List ℕ) (is : List Item) → extent (left s bs is) ≡ length bs + extent is
extent_left s [] is = omega arith
extent_left s (b ∷ bs) is = refl

extent_whole : (ls : List (List ℕ)) → extent (whole ls) ≡ total ls
extent_whole [] = refl
extent_whole (l ∷ ls) = ap (λ n. length l + n) (extent_whole ls)

-- d bytes into the line behind k others
place_at_lem : (ls : List (List ℕ)) (m k d : ℕ) → k < length ls → 0 < d → d ≤ length (slice_index_or ls k []) → place_at m ls (total (take k ls) + d) ≡ record { line = m + suc k; bytes = d }
place_at_lem [] m k d h p e = absurd (omega arith)
place_at_lem (l ∷ ls) m zero zero h p e = absurd (omega arith)
place_at_lem (l ∷ ls) m zero (suc d) h p e = rw (zero-add (suc d), le-leb (suc d) (length l) e)
place_at_lem (l ∷ ls) m (suc k) d h p e = go (total (take k ls)) (place_at_lem ls (m + 1) k d (omega arith) p e)
  where
    go : (t : ℕ) → place_at (m + 1) ls (t + d) ≡ record { line = m + 1 + suc k; bytes = d } → place_at m (l ∷ ls) (length l + t + d) ≡ record { line = m + suc (suc k); bytes = d }
    go t f = behind (length l + t + d) (omega arith) (t + d) (omega arith) f
      where
        sums : m + 1 + suc k ≡ m + suc (suc k)
        sums = omega arith

        behind : (n : ℕ) → length l < n → (q : ℕ) → n - length l ≡ q → place_at (m + 1) ls q ≡ record { line = m + 1 + suc k; bytes = d } → place_at m (l ∷ ls) n ≡ record { line = m + suc (suc k); bytes = d }
        behind zero a q b f = absurd (omega arith)
        behind (suc n) a q b f = rw (lt-leb (suc n) (length l) a, b) (f ∙ ap (λ j. record { line = j; bytes = d }) sums)

-- the bytes of lines, up to one and behind
total_split : (ls : List (List ℕ)) (k : ℕ) → k < length ls → total ls ≡ total (take k ls) + (length (slice_index_or ls k []) + total (drop (suc k) ls))
total_split [] k h = absurd (omega arith)
total_split (l ∷ ls) zero h = omega arith
total_split (l ∷ ls) (suc k) h = omega (arith, total_split ls k (omega arith))

pub made_line : (l : List ℕ) → 0 < length (made l)
made_line l = omega (arith, length_push (trimmed l) 13)

-- every line is made with byte 13 at its end, so none is empty
lines_some : (bs : List ℕ) (k : ℕ) → k < length (made_lines bs) → 0 < length (slice_index_or (made_lines bs) k [])
lines_some bs k h =
    let n : k < length (lines_of bs) = omega (arith, length-map (lines_of bs) made) in
    rw (get_or-map made (lines_of bs) k [] [] n) (made_line (slice_index_or (lines_of bs) k []))

-- lines of which the first n are begun, the last of them read so far
module _ (ls rem : List (List ℕ)) (line : List ℕ) (taken : ℕ) (s : LineState) (inside : taken ≤ length line) where
  pub place_of : (n : ℕ) → n ≤ length ls → drop n ls ≡ rem → slice_index_or ([] ∷ ls) n [] ≡ line → (0 < n → 0 < taken) → place_in ls (left s (drop taken line) (whole rem)) ≡ record { line = n; bytes = taken }
  place_of zero h r e p =
      let z : taken ≡ 0 = omega (arith, ap length e) in
      let x : extent (left s (drop taken line) (whole rem)) ≡ total ls = extent_left s (drop taken line) (whole rem) ∙ (let d = length-drop taken line in let w = extent_whole rem in let t = ap total r in omega (arith, ap length e)) in
      let q : total ls - extent (left s (drop taken line) (whole rem)) ≡ 0 = omega arith in
      rw (q, z)
  place_of (suc k) h r e p =
      let x : extent (left s (drop taken line) (whole rem)) ≡ (length line - taken) + total rem = extent_left s (drop taken line) (whole rem) ∙ (let d = length-drop taken line in let w = extent_whole rem in omega arith) in
      let t = total_split ls k h in
      let q : total ls - extent (left s (drop taken line) (whole rem)) ≡ total (take k ls) + taken = omega (arith, ap length e, ap total r) in
      let b : taken ≤ length (slice_index_or ls k []) = omega (arith, ap length e) in
      let z : 0 + suc k ≡ suc k = omega arith in
      rw q (place_at_lem ls 0 k taken h (p (omega arith)) b ∙ ap (λ j. record { line = j; bytes = taken }) z)

  -- no more bytes are ahead than the lines have
  pub extent_of : (n : ℕ) → n ≤ length ls → drop n ls ≡ rem → slice_index_or ([] ∷ ls) n [] ≡ line → extent (left s (drop taken line) (whole rem)) ≤ total ls
  extent_of zero h r e = omega (arith, extent_left s (drop taken line) (whole rem), length-drop taken line, extent_whole rem, ap length e, ap total r)
  extent_of (suc k) h r e = omega (arith, extent_left s (drop taken line) (whole rem), length-drop taken line, extent_whole rem, ap length e, ap total r, total_split ls k h)

-- a place behind some byte of the line, or at the end of the line
pub text_place_lem : (bs line : List ℕ) (next n taken : ℕ) (s : LineState) → Begun bs next line n → taken ≤ length line → (0 < taken) ⊎ (taken ≡ length line)
    → place_in (made_lines bs) (left s (drop taken line) (whole (made_lines (drop next bs)))) ≡ record { line = n; bytes = taken }
text_place_lem bs line next n taken s h w p = place_of (made_lines bs) (made_lines (drop next bs)) line taken s w n h.0 h.1 h.2 (go n h.0 h.2 p)
  where
    go : (n : ℕ) → n ≤ length (made_lines bs) → slice_index_or ([] ∷ made_lines bs) n [] ≡ line → (0 < taken) ⊎ (taken ≡ length line) → 0 < n → 0 < taken
    go n a e (inl q) z = q
    go zero a e (inr q) z = absurd (omega arith)
    go (suc k) a e (inr q) z = omega (arith, lines_some bs k a, ap length e)

-- a text's lines have at most one byte more than the text
trimmed_length : (l : List ℕ) → length (trimmed l) ≤ length l
trimmed_length [] = omega arith
trimmed_length (b ∷ bs) = kept b (trimmed bs) (trimmed_length bs)
  where
    kept : (b : ℕ) (l : List ℕ) → length l ≤ length bs → length (kept_before b l) ≤ length (b ∷ bs)
    kept b [] h = cond_both (b == 32) [] (b ∷ []) (λ l. length l ≤ length (b ∷ bs)) (λ _. omega arith) (λ _. omega arith)
    kept b (c ∷ cs) h = omega arith

ended : List (List ℕ) → ℕ
ended [] = 0
ended (l ∷ ls) = length l + 1 + ended ls

total_made : (ls : List (List ℕ)) → total (map made ls) ≤ ended ls
unfolding ended
total_made [] = omega arith
total_made (l ∷ ls) = omega (arith, total_made ls, trimmed_length l, length_push (trimmed l) 13)

ended_first : (b : ℕ) (ls : List (List ℕ)) (n : ℕ) → ended ls ≤ n + 1 → ended (with_first b ls) ≤ suc n + 1
unfolding ended
ended_first b [] n h = omega arith
ended_first b (l ∷ ls) n h = omega arith

ended_lines : (bs : List ℕ) → ended (lines_of bs) ≤ length bs + 1
unfolding ended
ended_lines [] = omega arith
ended_lines (b ∷ bs) =
    cond_both (b == 10) ([] ∷ lines_of bs) (with_first b (lines_of bs)) (λ ls. ended ls ≤ length (b ∷ bs) + 1)
    (λ _. omega (arith, ended_lines bs)) (λ _. ended_first b (lines_of bs) (length bs) (ended_lines bs))

pub total_lines : (bs : List ℕ) → total (made_lines bs) ≤ length bs + 1
total_lines bs = omega (arith, total_made (lines_of bs), ended_lines bs)
