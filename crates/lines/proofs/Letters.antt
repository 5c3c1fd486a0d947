-- A run of letters, as the library has a run of elements that pass a test.
use Rattle.std.proofs.Common.{◌≡◌, ◌+◌, ◌<◌, ◌≤◌, length, true, false, ℕ, List, [], ◌∷◌, ◌++◌, get_or, take, drop, refl, sym, ap, cond, ◌∙◌, arith}
use Rattle.std.specs.List.{prefix_len}
use Rattle.std.proofs.lemmas.List.{take_more, drop_more, append_assoc, append-nil, take_all, drop_all}
use Rattle.std.proofs.lemmas.List.Sums.{take_while-cons, prefix_len-le-length}
use Rattle.lines.specs.Line.{Categories, category, is_letter, letters, escaped}

module _ (cs : Categories) where
  abbrev pub count : List ℕ → ℕ
  count l = prefix_len (λ b. is_letter (category cs b)) l

  pub count_within : (l : List ℕ) → count l ≤ length l
  count_within l = prefix_len-le-length (λ b. is_letter (category cs b)) l

  letters_run : (l : List ℕ) → take (count l) l ≡ letters cs l
  letters_run [] = refl
  letters_run (b ∷ bs) = take_while-cons (λ b. is_letter (category cs b)) b bs ∙ ap (λ r. cond (is_letter (category cs b)) (b ∷ r) []) (letters_run bs)

  some_escaped : (l : List ℕ) → 0 < count l → take (count l) l ≡ escaped cs l
  some_escaped [] h = refl
  some_escaped (b ∷ bs) h = letters_run (b ∷ bs) ∙ elim (is_letter (category cs b)) as (λ v. 0 < cond v (1 + count bs) 0 → cond v (b ∷ letters cs bs) [] ≡ b ∷ cond v (letters cs bs) []) [ true ↦ λ _. refl | false ↦ λ h. absurd (omega arith) ] h

  -- so many letters, if there are any, are what an escape takes
  pub count_escaped : (n : ℕ) (l : List ℕ) → n ≡ count l → (n ≡ 0 → ⊥) → take n l ≡ escaped cs l
  count_escaped n l e h = rw e (some_escaped l (omega arith))

-- a run of letters, told by how far it goes
module _ (cs : Categories) (l : List ℕ) (i : ℕ) (h : i < length l) where
  pub letter_more : is_letter (category cs (get_or l i 0)) ≡ true → take (i + 1) l ++ letters cs (drop (i + 1) l) ≡ take i l ++ letters cs (drop i l)
  letter_more e = rw (take_more l i 0 h, append_assoc (take i l), drop_more l i 0 h, e)

  pub letter_stop : is_letter (category cs (get_or l i 0)) ≡ false → take i l ++ letters cs (drop i l) ≡ take i l
  letter_stop e = rw (drop_more l i 0 h, e) (append-nil (take i l))

pub letters_all : (cs : Categories) (l : List ℕ) (i : ℕ) → length l ≤ i → take i l ++ letters cs (drop i l) ≡ letters cs l → take (length l) l ≡ letters cs l
letters_all cs l i h e = take_all (length l) l refl_le ∙ sym (append-nil l) ∙ (rw (take_all i l h, drop_all i l h) at e)
  where
    refl_le : length l ≤ length l
    refl_le = omega arith
