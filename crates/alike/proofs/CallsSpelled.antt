-- Tokens that are the same as spelled: the tests of a call cannot tell them apart, if no spelling has two numbers and the first names have theirs.
--   eqb_same             the tests of two pairs of numbers, of which each is equal if the other is
--   spelled_past         a number with a spelling is no active character's
--   name_back            the same with the sides exchanged
--   names_equal          the fellows of one number are equal; names_test, two numbers are equal if their fellows are, by the test of it
--   first_name           a first name is its own fellow
--   spelled_respectful   the tests of a call respect the same as spelled
use Rattle.std.proofs.Common.{◌≡◌, ℕ, ◌<◌, Bool, true, false, eqb, List, None, codes, sym, refl, ◌∙◌, arith, eq-eqb, ne_eqb, eqb-true}
use borrow.Author.Tests.{eqb-false, lt-leb}
use Rattle.tokens.specs.declared.token.Token.{Token}
use Rattle.names.specs.Naming.{Spellings, spelling_in, first_names}
use Rattle.matching.specs.Braces.{is_open, is_close, is_blank, is_par, same_token}
use Rattle.alike.specs.Same.{Spells, SameName, active, alike, SameToken, same_name, same_character}
use Rattle.alike.specs.Laws.{Sound}
use Rattle.alike.proofs.CallsSame.{Respectful}

-- by the test of the first pair
eqb_by : (k l m n : ℕ) → (k ≡ l → m ≡ n) → (m ≡ n → k ≡ l) → (b : Bool) → eqb k l ≡ b → eqb k l ≡ eqb m n
eqb_by k l m n f g true e = e ∙ sym (eq-eqb m n (f (eqb-true k l e)))
eqb_by k l m n f g false e = e ∙ sym (ne_eqb m n (λ h. eqb-false k l e (g h)))

pub eqb_same : (k l m n : ℕ) → (k ≡ l → m ≡ n) → (m ≡ n → k ≡ l) → eqb k l ≡ eqb m n
eqb_same k l m n f g = eqb_by k l m n f g (eqb k l) refl

pub spelled_past : (ns : Spellings) (n : ℕ) (s : List ℕ) → Spells ns n s → n < 256 → ⊥
spelled_past ns n s h l =
    let none : spelling_in ns n ≡ None = rw (lt-leb 256 n l) refl in
    let z : ◌≡◌ {A = ℕ} 0 1 = cc (h, none) in omega arith

pub name_back : {ms ns : Spellings} {m n : ℕ} → SameName ms ns m n → SameName ns ms n m
name_back (active l) = active l
name_back (alike s p q) = alike s q p

pub names_equal : {ms ns : Spellings} {k l m n : ℕ} → Sound ns → SameName ms ns k m → SameName ms ns l n → k ≡ l → m ≡ n
names_equal right (active a) (active b) e = e
names_equal {ms = ms} right (active {n = k} a) (alike {m = l} s p q) e = absurd (spelled_past ms l s p (omega arith))
names_equal {ms = ms} {k = k} right (alike s p q) (active b) e = absurd (spelled_past ms k s p (omega arith))
names_equal {ms = ms} {ns = ns} {k = k} {l = l} {m = m} {n = n} right (alike s p q) (alike t v w) e =
    let there : Spells ms k t = rw e v in
    let spelled : Spells ns m t = cc (p, q, there) in
    right.once m n t spelled w

module _ {ms ns : Spellings} (left : Sound ms) (right : Sound ns) where
  pub names_test : {k l m n : ℕ} → SameName ms ns k m → SameName ms ns l n → eqb k l ≡ eqb m n
  names_test {k} {l} {m} {n} r s = eqb_same k l m n (names_equal right r s) (names_equal left (name_back r) (name_back s))

  pub first_name : (n : ℕ) (s : List ℕ) → Spells first_names n s → SameName ms ns n n
  first_name n s h = alike s (left.fixed n s h) (right.fixed n s h)

  opens_same : {t u : Token} → SameToken ms ns t u → is_open t ≡ is_open u
  opens_same (same_name r) = refl
  opens_same same_character = refl

  closes_same : {t u : Token} → SameToken ms ns t u → is_close t ≡ is_close u
  closes_same (same_name r) = refl
  closes_same same_character = refl

  blank_same : {t u : Token} → SameToken ms ns t u → is_blank t ≡ is_blank u
  blank_same (same_name r) = refl
  blank_same same_character = refl

  par_same : {t u : Token} → SameToken ms ns t u → is_par t ≡ is_par u
  par_same (same_name r) = names_test r (first_name 257 (codes "par") refl)
  par_same same_character = refl

  token_same : {t u v w : Token} → SameToken ms ns t u → SameToken ms ns v w → same_token t v ≡ same_token u w
  token_same (same_name r) (same_name s) = names_test r s
  token_same (same_name r) same_character = refl
  token_same same_character (same_name s) = refl
  token_same same_character same_character = refl

  pub spelled_respectful : Respectful (SameToken ms ns)
  spelled_respectful = record {
    opens = opens_same;
    closes = closes_same;
    blank = blank_same;
    par = par_same;
    same = token_same;
  }
