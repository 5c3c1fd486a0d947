-- Lines of a text, one at a time, and their trailing blanks.
use Rattle.std.proofs.Common.{◌≡◌, ◌==◌, not, ℕ, zero, suc, ◌+◌, ◌-◌, ◌<◌, ◌≤◌, Bool, true, false, cond, eqb, List, [], ◌∷◌, ◌++◌, map, length, get_or, take, drop, sym, refl, ap, subst, ◌∙◌, inl, inr, arith}
use Rattle.std.proofs.lemmas.List.{take_more, drop_more, append_assoc, append-nil, take_all, drop_all, take-take, length-take}
use Rattle.std.proofs.lemmas.Bool.{cases_eq, eq-eqb, ne_eqb}
use Rattle.std.specs.List.{position_or_len, suffix_len}
use Rattle.std.proofs.lemmas.List.Sums.{take_while-cons, prefix_len-le-length, suffix_len-take_yes, suffix_len-take_no, suffix_len-le-length}
use Rattle.sources.specs.Texts.{with_first, lines_of, first_line, after_line, kept_before, trimmed, made, made_lines}

-- the first line, as the library has what stands before the first byte 10, and after it
abbrev pub count : List ℕ → ℕ
count l = position_or_len (λ b. b == 10) l

pub count_within : (l : List ℕ) → count l ≤ length l
count_within l = prefix_len-le-length (λ b. not (b == 10)) l

pub line_before : (l : List ℕ) → take (count l) l ≡ first_line l
line_before [] = refl
line_before (b ∷ bs) =
    take_while-cons (λ b. not (b == 10)) b bs
    ∙ elim (b == 10) as (λ v. cond (not v) (b ∷ take (count bs) bs) [] ≡ cond v [] (b ∷ first_line bs)) [ true ↦ refl | false ↦ ap (λ r. b ∷ r) (line_before bs) ]

pub line_after : (l : List ℕ) → drop (count l + 1) l ≡ after_line l
line_after [] = refl
line_after (b ∷ bs) = elim (b == 10) as (λ v. drop (cond (not v) (1 + count bs) 0 + 1) (b ∷ bs) ≡ cond v bs (after_line bs)) [ true ↦ refl | false ↦ ap (λ m. drop m (b ∷ bs)) next ∙ line_after bs ]
  where
    next : 1 + count bs + 1 ≡ suc (count bs + 1)
    next = omega arith

-- the first line, told by how far it goes
module _ (l : List ℕ) (i : ℕ) (h : i < length l) where
  pub line_more : (get_or l i 0 ≡ 10 → ⊥) → (take (i + 1) l ++ first_line (drop (i + 1) l) ≡ take i l ++ first_line (drop i l)) × (after_line (drop (i + 1) l) ≡ after_line (drop i l))
  line_more e = (rw (take_more l i 0 h, append_assoc (take i l), drop_more l i 0 h, ne_eqb (get_or l i 0) 10 e), rw (drop_more l i 0 h, ne_eqb (get_or l i 0) 10 e))

  pub line_stop : get_or l i 0 ≡ 10 → (take i l ++ first_line (drop i l) ≡ take i l) × (after_line (drop i l) ≡ drop (i + 1) l)
  line_stop e = (rw (drop_more l i 0 h, eq-eqb (get_or l i 0) 10 e) (append-nil (take i l)), rw (drop_more l i 0 h, eq-eqb (get_or l i 0) 10 e))

pub line_end : (l : List ℕ) (i : ℕ) → length l ≤ i → (take i l ++ first_line (drop i l) ≡ take (length l) l) × (after_line (drop i l) ≡ drop (length l + 1) l)
line_end l i h =
    let n : length l ≤ length l = omega arith in
    let m : length l ≤ length l + 1 = omega arith in
    (rw (drop_all i l h, take_all i l h, take_all (length l) l n) (append-nil l), rw (drop_all i l h, drop_all (length l + 1) l m))

first_by : (b : ℕ) (t : Bool) (bs : List ℕ) → ((c : ℕ) (cs : List ℕ) → bs ≡ c ∷ cs → lines_of bs ≡ first_line bs ∷ lines_of (after_line bs))
    → cond t ([] ∷ lines_of bs) (with_first b (lines_of bs)) ≡ cond t [] (b ∷ first_line bs) ∷ lines_of (cond t bs (after_line bs))
first_by b true bs h = refl
first_by b false [] h = refl
first_by b false (c ∷ cs) h = ap (with_first b) (h c cs refl)

pub lines_first : (b : ℕ) (bs : List ℕ) → lines_of (b ∷ bs) ≡ first_line (b ∷ bs) ∷ lines_of (after_line (b ∷ bs))
lines_first b [] = first_by b (eqb b 10) [] (λ c cs e. absurd (let n = ap length e in omega arith))
lines_first b (c ∷ cs) = first_by b (eqb b 10) (c ∷ cs) (λ _ _ _. lines_first c cs)

-- trailing blanks
pub trimmed_blank : (l : List ℕ) → trimmed (l ++ (32 ∷ [])) ≡ trimmed l
trimmed_blank [] = refl
trimmed_blank (b ∷ bs) = ap (kept_before b) (trimmed_blank bs)

pub trimmed_other : (l : List ℕ) (b : ℕ) → (b ≡ 32 → ⊥) → trimmed (l ++ (b ∷ [])) ≡ l ++ (b ∷ [])
trimmed_other [] b e = rw (ne_eqb b 32 e)
trimmed_other (c ∷ []) b e = ap (kept_before c) (trimmed_other [] b e)
trimmed_other (c ∷ d ∷ l) b e = ap (kept_before c) (trimmed_other (d ∷ l) b e)

-- the last of n bytes
last_of : (l : List ℕ) (n : ℕ) → 0 < n → n ≤ length l → take n l ≡ take (n - 1) l ++ (get_or l (n - 1) 0 ∷ [])
last_of l n p h =
    let e : n - 1 + 1 ≡ n = omega arith in
    let k : n - 1 < length l = omega arith in
    ap (λ m. take m l) (sym e) ∙ take_more l (n - 1) 0 k

pub kept_stop : (l : List ℕ) (n : ℕ) → 0 < n → n ≤ length l → (get_or l (n - 1) 0 ≡ 32 → ⊥) → take n l ≡ trimmed (take n l)
kept_stop l n p h e = last_of l n p h ∙ sym (trimmed_other (take (n - 1) l) (get_or l (n - 1) 0) e) ∙ ap trimmed (sym (last_of l n p h))

pub kept_less : (l : List ℕ) (n : ℕ) → 0 < n → n ≤ length l → get_or l (n - 1) 0 ≡ 32 → trimmed (take (n - 1) l) ≡ trimmed (take n l)
kept_less l n p h e = sym (trimmed_blank (take (n - 1) l)) ∙ ap (λ b. trimmed (take (n - 1) l ++ (b ∷ []))) (sym e) ∙ ap trimmed (sym (last_of l n p h))

-- a line without the blanks at its end, as the library counts them
abbrev pub blanks : List ℕ → ℕ
blanks l = suffix_len (λ b. b == 32) l

kept_step : (l : List ℕ) (n : ℕ) → 0 < n → n ≤ length l → take (n - 1 - blanks (take (n - 1) l)) l ≡ trimmed (take (n - 1) l) → take (n - blanks (take n l)) l ≡ trimmed (take n l)
kept_step l n p h more = elim (cases_eq (get_or l (n - 1) 0) 32) [
  | inl e ↦ ap (λ k. take k l) (one_less e) ∙ more ∙ kept_less l n p h e
  | inr e ↦ ap (λ k. take k l) (all_kept e) ∙ kept_stop l n p h e
]
  where
    one_less : get_or l (n - 1) 0 ≡ 32 → n - blanks (take n l) ≡ n - 1 - blanks (take (n - 1) l)
    one_less e = omega (arith, suffix_len-take_yes (λ b. b == 32) l n 0 p h (eq-eqb (get_or l (n - 1) 0) 32 e))

    all_kept : (get_or l (n - 1) 0 ≡ 32 → ⊥) → n - blanks (take n l) ≡ n
    all_kept e = omega (arith, suffix_len-take_no (λ b. b == 32) l n 0 p h (ne_eqb (get_or l (n - 1) 0) 32 e))

kept_run : (l : List ℕ) (n : ℕ) → n ≤ length l → take (n - blanks (take n l)) l ≡ trimmed (take n l)
kept_run l zero h = refl
kept_run l (suc n) h = kept_step l (suc n) (omega arith) h (subst (λ m. take (m - blanks (take m l)) l ≡ trimmed (take m l)) before (kept_run l n (omega arith)))
  where
    before : n ≡ suc n - 1
    before = omega arith

pub blanks_within : (l : List ℕ) → blanks (take (count l) l) ≤ count l
blanks_within l = omega (arith, suffix_len-le-length (λ b. b == 32) (take (count l) l), length-take (count l) l)

-- the first line of what is not empty, as it is made
pub made_first : (l : List ℕ) → 0 < length l → made_lines l ≡ made (first_line l) ∷ made_lines (after_line l)
made_first [] h = absurd (omega arith)
made_first (b ∷ bs) h = ap (map made) (lines_first b bs)

-- what is kept of the first line, of n bytes
pub kept_of : (l : List ℕ) (n k : ℕ) → take n l ≡ first_line l → k ≤ n → take k (take n l) ≡ trimmed (take n l) → take k l ≡ trimmed (first_line l)
kept_of l n k e h f = sym (take-take k n l h) ∙ f ∙ ap trimmed e

-- what is kept of the first line
pub kept_first : (l : List ℕ) → take (count l - blanks (take (count l) l)) l ≡ trimmed (first_line l)
kept_first l = kept_run l (count l) (count_within l) ∙ ap trimmed (line_before l)
