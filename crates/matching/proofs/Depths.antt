-- What the tests of tokens tell, and the depth of lists of tokens.
use Rattle.std.proofs.Common.{◌≡◌, ℕ, zero, suc, ◌+◌, ◌≤◌, Bool, true, false, not, ◌&&◌, ◌||◌, eqb, List, [], ◌∷◌, ◌++◌, length, Some, None, Option, sym, refl, ap, ◌∙◌, arith}
use Rattle.std.proofs.lemmas.Bool.{both_ways, eqb-true, eq-eqb, and_parts, and_from, or_parts, or_from, cond_both, false≢true}
use Rattle.tokens.specs.declared.token_category.TokenCategory.{TokenCategory}
use Rattle.tokens.specs.declared.token_category.TokenCategory.TheVariants as of_token
use Rattle.tokens.specs.declared.token.Token.{Token}
use Rattle.tokens.specs.declared.token.Token.TheVariants.{Name, Character}
use Rattle.tokens.specs.Categories.{token_number_of, token_category_of}
use Rattle.matching.specs.Braces.{is_open, is_close, is_blank, is_par, same_token, is_front, has_par, has_close, lowered, passed, deeper_from, deeper, Balanced, is_zero, is_balanced}
use Rattle.matching.specs.Dividing.{front, ends_closed, is_group, within, stripped, Permitted}

category_back : (c : TokenCategory) → token_category_of (token_number_of c) ≡ Some c
category_back of_token.Open = refl
category_back of_token.Close = refl
category_back of_token.Math = refl
category_back of_token.Align = refl
category_back of_token.Parameter = refl
category_back of_token.Superscript = refl
category_back of_token.Subscript = refl
category_back of_token.Space = refl
category_back of_token.Letter = refl
category_back of_token.Other = refl

same_category : (c d : TokenCategory) → token_number_of c ≡ token_number_of d → c ≡ d
same_category c d e =
    let f : Some c ≡ Some d = sym (category_back c) ∙ ap token_category_of e ∙ category_back d in
    cc

pub same_token_lem : (t u : Token) → same_token t u ≡ true → t ≡ u
same_token_lem (Name n) (Name m) h = ap Name (eqb-true n m h)
same_token_lem (Name n) (Character c b) h = absurd (false≢true h)
same_token_lem (Character c b) (Name n) h = absurd (false≢true h)
same_token_lem (Character c b) (Character d e) h =
    let parts = and_parts (eqb (token_number_of c) (token_number_of d)) (eqb b e) h in
    let p : c ≡ d = same_category c d (eqb-true (token_number_of c) (token_number_of d) parts.0) in
    let q : b ≡ e = eqb-true b e parts.1 in
    cc

pub token_same : (t : Token) → same_token t t ≡ true
token_same (Name n) = eq-eqb n n refl
token_same (Character c b) = and_from (eqb (token_number_of c) (token_number_of c)) (eqb b b) (eq-eqb (token_number_of c) (token_number_of c) refl) (eq-eqb b b refl)

-- e begins d
abbrev pub Front : List Token → List Token → Type 0
Front e d = (d' : List Token) × (d ≡ e ++ d')

pub front_true : (e d : List Token) → is_front e d ≡ true → Front e d
front_true [] d h = (d, refl)
front_true (t ∷ e) [] h = absurd (false≢true h)
front_true (t ∷ e) (x ∷ d) h =
    let parts = and_parts (same_token t x) (is_front e d) h in
    let p : t ≡ x = same_token_lem t x parts.0 in
    let i : Front e d = front_true e d parts.1 in
    let q : d ≡ e ++ i.0 = i.1 in
    (i.0, cc)

pub front_is : (e d : List Token) → Front e d → is_front e d ≡ true
front_is [] d f = refl
front_is (t ∷ e) [] f = let q : [] ≡ t ∷ (e ++ f.0) = f.1 in let z : ◌≡◌ {A = ℕ} 0 1 = cc in absurd (omega arith)
front_is (t ∷ e) (x ∷ d) f =
    let q : x ∷ d ≡ t ∷ (e ++ f.0) = f.1 in
    let p : x ≡ t = cc in
    let r : d ≡ e ++ f.0 = cc in
    and_from (same_token t x) (is_front e d) (rw p (token_same t)) (front_is e d (f.0, r))

-- ---- braces and names

open_is : (t : Token) → is_open t ≡ true → is_par t ≡ false
open_is (Name n) h = absurd (false≢true h)
open_is (Character c b) h = refl

pub close_is : (t : Token) → is_close t ≡ true → is_par t ≡ false
close_is (Name n) h = absurd (false≢true h)
close_is (Character c b) h = refl

pub close_not_open : (t : Token) → is_close t ≡ true → is_open t ≡ false
close_not_open (Name n) h = refl
close_not_open (Character c b) h = rw (eqb-true (token_number_of c) 2 h)

pub open_not_close : (t : Token) → is_open t ≡ true → is_close t ≡ false
open_not_close (Name n) h = refl
open_not_close (Character c b) h = rw (eqb-true (token_number_of c) 1 h)

pub blank_not_open : (t : Token) → is_blank t ≡ true → is_open t ≡ false
blank_not_open (Name n) h = refl
blank_not_open (Character c b) h = rw (eqb-true (token_number_of c) 10 (and_parts (eqb (token_number_of c) 10) (eqb b 32) h).0)

or_append : (b all x y : Bool) → all ≡ (x || y) → (b || all) ≡ ((b || x) || y)
or_append true all x y e = refl
or_append false all x y e = e

pub par_append : (xs ys : List Token) → has_par (xs ++ ys) ≡ (has_par xs || has_par ys)
par_append [] ys = refl
par_append (t ∷ xs) ys = or_append (is_par t) (has_par (xs ++ ys)) (has_par xs) (has_par ys) (par_append xs ys)

pub close_append : (xs ys : List Token) → has_close (xs ++ ys) ≡ (has_close xs || has_close ys)
close_append [] ys = refl
close_append (t ∷ xs) ys = or_append (is_close t) (has_close (xs ++ ys)) (has_close xs) (has_close ys) (close_append xs ys)

front_par : (ts : List Token) → ends_closed ts ≡ true → has_par ts ≡ has_par (front ts)
front_par [] h = refl
front_par (t ∷ []) h = or_from (is_par t) false (close_is t h) refl
front_par (t ∷ (u ∷ ts)) h = ap (λ (b : Bool). is_par t || b) (front_par (u ∷ ts) h)

pub stripped_par : (ts : List Token) → has_par (stripped ts) ≡ has_par ts
stripped_par ts = cond_both (is_group ts) _ _ (λ (r : List Token). has_par r ≡ has_par ts) (one ts) (λ _. refl)
  where
    one : (us : List Token) → is_group us ≡ true → has_par (within us) ≡ has_par us
    one [] h = refl
    one (t ∷ us) h =
        let parts = and_parts (is_open t) _ h in
        let shut = and_parts (ends_closed us) _ parts.1 in
        rw (open_is t parts.0) (sym (front_par us shut.0))

module _ (long : Bool) where
  pub permitted_front : (xs ys : List Token) → Permitted long (xs ++ ys) → Permitted long xs
  permitted_front xs ys h = go long (has_par xs) refl (rw (par_append xs ys) at h)
    where
      go : (l b : Bool) → has_par xs ≡ b → (not l && (has_par xs || has_par ys)) ≡ false → (not l && has_par xs) ≡ false
      go true b e f = refl
      go false true e f = absurd (false≢true (sym f ∙ ap (λ (c : Bool). c || has_par ys) e))
      go false false e f = e

  pub permitted_close : (xs : List Token) (c : Token) → is_close c ≡ true → Permitted long xs → Permitted long (xs ++ c ∷ [])
  permitted_close xs c h p =
      let e : has_par (xs ++ c ∷ []) ≡ has_par xs = par_append xs (c ∷ []) ∙ ap (λ (b : Bool). has_par xs || (b || false)) (close_is c h) ∙ or_false (has_par xs) in
      ap (λ (b : Bool). not long && b) e ∙ p
    where
      or_false : (b : Bool) → (b || false) ≡ b
      or_false true = refl
      or_false false = refl

-- ---- depths

pub deeper_append : (o : Option ℕ) (ts us : List Token) → deeper_from o (ts ++ us) ≡ deeper_from (deeper_from o ts) us
deeper_append o [] us = refl
deeper_append o (t ∷ ts) us = deeper_append (passed o t) ts us

pub deeper_none : (ts : List Token) → deeper_from None ts ≡ None
deeper_none [] = refl
deeper_none (t ∷ ts) = deeper_none ts

pub none_not_some : (o : Option ℕ) (n : ℕ) → o ≡ None → o ≡ Some n → ⊥
none_not_some o n e f = let z : ◌≡◌ {A = ℕ} 0 1 = cc in omega arith

-- tokens that close no brace have a depth behind them
passed_some : (t : Token) (n : ℕ) → is_close t ≡ false → (m : ℕ) × (passed (Some n) t ≡ Some m)
passed_some t n h =
    cond_both (is_open t) _ _ (λ (r : Option ℕ). (m : ℕ) × (r ≡ Some m)) (λ _. (suc n, refl))
    (λ _. cond_both (is_close t) _ _ (λ (r : Option ℕ). (m : ℕ) × (r ≡ Some m)) (λ e. absurd (both_ways (is_close t) h e)) (λ _. (n, refl)))

pub deeper_some : (d : List Token) (n : ℕ) → has_close d ≡ false → (m : ℕ) × (deeper n d ≡ Some m)
deeper_some [] n h = (n, refl)
deeper_some (t ∷ d) n h =
    let parts = or_parts (is_close t) (has_close d) h in
    let i : (m : ℕ) × (passed (Some n) t ≡ Some m) = passed_some t n parts.0 in
    let j : (m : ℕ) × (deeper i.0 d ≡ Some m) = deeper_some d i.0 parts.1 in
    (j.0, ap (λ (o : Option ℕ). deeper_from o d) i.1 ∙ j.1)

-- each brace that is to close takes a token
Near : ℕ → Option ℕ → Type 0
Near n None = Unit {0}
Near n (Some k) = n ≤ k + 1

lowered_near : (n : ℕ) → Near n (lowered n)
unfolding Near
lowered_near zero = tt
lowered_near (suc n) = omega arith

passed_near : (t : Token) (n : ℕ) → Near n (passed (Some n) t)
unfolding Near
passed_near t n =
    cond_both (is_open t) _ _ (Near n) (λ _. omega arith)
    (λ _. cond_both (is_close t) _ _ (Near n) (λ _. lowered_near n) (λ _. omega arith))

pub deeper_room : (ts : List Token) (n m : ℕ) → deeper n ts ≡ Some m → n ≤ m + length ts
unfolding Near
deeper_room [] n m h = let e : n ≡ m = cc in omega arith
deeper_room (t ∷ ts) n m h = go (passed (Some n) t) (passed_near t n) h (λ k e. deeper_room ts k m e)
  where
    go : (o : Option ℕ) → Near n o → deeper_from o ts ≡ Some m → ((k : ℕ) → deeper k ts ≡ Some m → k ≤ m + length ts) → n ≤ m + length (t ∷ ts)
    go None near e rest = absurd (none_not_some (deeper_from None ts) m (deeper_none ts) e)
    go (Some k) near e rest = let r : k ≤ m + length ts = rest k e in omega arith

-- a balanced list that begins so has room for the braces that are to close
pub balanced_room : (s w : List Token) (n : ℕ) → deeper 0 s ≡ Some n → Balanced (s ++ w) → n ≤ length w
balanced_room s w n h b =
    let e : deeper_from (deeper 0 s) w ≡ Some 0 = sym (deeper_append (Some 0) s w) ∙ b in
    let f : deeper n w ≡ Some 0 = sym (ap (λ (o : Option ℕ). deeper_from o w) h) ∙ e in
    omega (arith, deeper_room w n 0 f)

-- a front of what has a depth has one
pub front_depth : (s w : List Token) (m : ℕ) → deeper 0 (s ++ w) ≡ Some m → deeper 0 s ≡ None → ⊥
front_depth s w m e n =
    none_not_some (deeper 0 (s ++ w)) m (deeper_append (Some 0) s w ∙ ap (λ (o : Option ℕ). deeper_from o w) n ∙ deeper_none w) e

pub balanced_true : (ts : List Token) → is_balanced ts ≡ true → Balanced ts
balanced_true ts h = go (deeper 0 ts) h
  where
    go : (o : Option ℕ) → is_zero o ≡ true → o ≡ Some 0
    go None e = absurd (false≢true e)
    go (Some n) e = ap Some (eqb-true n 0 e)

pub is_balanced_lem : (ts : List Token) → Balanced ts → is_balanced ts ≡ true
is_balanced_lem ts h = ap is_zero h

-- ---- one token more

pub deeper_push : (ts : List Token) (t : Token) → deeper 0 (ts ++ t ∷ []) ≡ passed (deeper 0 ts) t
deeper_push ts t = deeper_append (Some 0) ts (t ∷ [])

pub passed_close : (c : Token) (n : ℕ) → is_close c ≡ true → passed (Some n) c ≡ lowered n
passed_close c n h = rw (close_not_open c h, h)

-- a token behind which there is no depth closes the last brace
pub closes_last : (t : Token) (n : ℕ) → passed (Some n) t ≡ None → (is_close t ≡ true) × (n ≡ 0)
closes_last t n =
    cond_both (is_open t) _ _ (λ (r : Option ℕ). r ≡ None → (is_close t ≡ true) × (n ≡ 0)) (λ _ e. absurd (none_not_some _ (suc n) e refl))
    (λ _. cond_both (is_close t) _ _ (λ (r : Option ℕ). r ≡ None → (is_close t ≡ true) × (n ≡ 0)) (λ h e. (h, low n e)) (λ _ e. absurd (none_not_some _ n e refl)))
  where
    low : (k : ℕ) → lowered k ≡ None → k ≡ 0
    low zero e = refl
    low (suc k) e = absurd (none_not_some _ k e refl)
