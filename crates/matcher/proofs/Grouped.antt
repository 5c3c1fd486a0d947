-- One group, by its first and last token and what stands between.
use Rattle.std.proofs.Common.{◌≡◌, ℕ, ◌+◌, ◌-◌, ◌<◌, ◌≤◌, Bool, true, false, ◌&&◌, ◌⊎◌, List, [], ◌∷◌, ◌++◌, length, get_or, take, drop, sym, refl, ap, ◌∙◌, inl, inr, arith}
use Rattle.std.proofs.lemmas.List.{take_more, take_all, length-drop, get_or-drop, drop_more, drop-drop}
use Rattle.std.proofs.lemmas.Bool.{cases_lt, both_ways, cond-true}
use Rattle.std.proofs.Math.Bool.{and-false}
use Rattle.tokens.specs.declared.token.Token.{Token}
use Rattle.matching.specs.Braces.{is_open, is_close, is_balanced}
use Rattle.matching.specs.Dividing.{front, ends_closed, within, is_group, stripped}

front_push : (ts : List Token) (c : Token) → front (ts ++ c ∷ []) ≡ ts
front_push [] c = refl
front_push (t ∷ []) c = refl
front_push (t ∷ (u ∷ ts)) c = ap (λ (r : List Token). t ∷ r) (front_push (u ∷ ts) c)

closed_push : (ts : List Token) (c : Token) → ends_closed (ts ++ c ∷ []) ≡ is_close c
closed_push [] c = refl
closed_push (t ∷ []) c = refl
closed_push (t ∷ (u ∷ ts)) c = closed_push (u ∷ ts) c

pub group_short : (ts : List Token) → length ts < 2 → is_group ts ≡ false
group_short [] h = refl
group_short (t ∷ []) h = and-false (is_open t)
group_short (t ∷ (u ∷ ts)) h = absurd (omega arith)

module _ (ts : List Token) (k : Token) (h : 2 ≤ length ts) where
  inner : List Token
  inner = take (length ts - 1 - 1) (drop 1 ts)

  last_of : Token
  last_of = get_or ts (length ts - 1) k

  split : ts ≡ get_or ts 0 k ∷ (take (length ts - 1 - 1) (drop 1 ts) ++ get_or ts (length ts - 1) k ∷ [])
  split =
      let l : length ts - 1 - 1 < length (drop 1 ts) = omega (arith, length-drop 1 ts) in
      let e : length ts - 1 - 1 + 1 ≡ length (drop 1 ts) = omega (arith, length-drop 1 ts) in
      let n : 1 + (length ts - 1 - 1) ≡ length ts - 1 = omega arith in
      let m : drop 1 ts ≡ take (length ts - 1 - 1) (drop 1 ts) ++ get_or ts (length ts - 1) k ∷ [] =
      sym (take_all (length (drop 1 ts)) (drop 1 ts) (omega arith)) ∙ ap (λ (i : ℕ). take i (drop 1 ts)) (sym e) ∙ take_more (drop 1 ts) (length ts - 1 - 1) k l ∙ ap (λ (x : Token). take (length ts - 1 - 1) (drop 1 ts) ++ x ∷ []) (get_or-drop 1 ts (length ts - 1 - 1) k ∙ ap (λ (i : ℕ). get_or ts i k) n) in
      drop_more ts 0 k (omega arith) ∙ ap (λ (r : List Token). get_or ts 0 k ∷ r) m

  pub group_is : is_group ts ≡ (is_open (get_or ts 0 k) && (is_close (get_or ts (length ts - 1) k) && is_balanced (take (length ts - 1 - 1) (drop 1 ts))))
  group_is =
      ap is_group split
      ∙ ap (λ (b : Bool). is_open (get_or ts 0 k) && (b && is_balanced (front (take (length ts - 1 - 1) (drop 1 ts) ++ get_or ts (length ts - 1) k ∷ [])))) (closed_push (take (length ts - 1 - 1) (drop 1 ts)) (get_or ts (length ts - 1) k))
      ∙ ap (λ (r : List Token). is_open (get_or ts 0 k) && (is_close (get_or ts (length ts - 1) k) && is_balanced r)) (front_push (take (length ts - 1 - 1) (drop 1 ts)) (get_or ts (length ts - 1) k))

  pub within_is : within ts ≡ take (length ts - 1 - 1) (drop 1 ts)
  within_is = ap within split ∙ front_push (take (length ts - 1 - 1) (drop 1 ts)) (get_or ts (length ts - 1) k)

pub group_long : (ts : List Token) → is_group ts ≡ true → 2 ≤ length ts
group_long ts h = go (cases_lt (length ts) 2)
  where
    go : (length ts < 2) ⊎ (2 ≤ length ts) → 2 ≤ length ts
    go (inl l) = absurd (both_ways (is_group ts) (group_short ts l) h)
    go (inr l) = l

-- what stands within a group that stands from a place on
pub group_part : (ts : List Token) (from n : ℕ) (k : Token) → n ≡ length ts → from ≤ n → is_group (drop from ts) ≡ true → take (n - 1 - (from + 1)) (drop (from + 1) ts) ≡ stripped (drop from ts)
group_part ts from n k e h g =
    let l : 2 ≤ length (drop from ts) = group_long (drop from ts) g in
    let m : length (drop from ts) - 1 - 1 ≡ n - 1 - (from + 1) = omega (arith, length-drop from ts) in
    sym (cond-true (is_group (drop from ts)) _ _ g
    ∙ within_is (drop from ts) k l
    ∙ ap (λ (i : ℕ). take i (drop 1 (drop from ts))) m
    ∙ ap (take (n - 1 - (from + 1))) (drop-drop 1 from ts))
