-- Two lists that are related member by member, under any relation; and a test that is the same on both sides.
--   cond_same, cond_alike   what one test chooses on both sides; what two equal tests choose
--   each_on                 a weaker relation relates them too; each_each_on, of lists of lists
--   each_length             they are as long as one another
--   each_++                 with more behind them that is related
--   each_end                with one more member behind them
--   each_at                 their members at one index, and the same default past the end
use Rattle.std.proofs.Common.{◌≡◌, ℕ, zero, suc, Bool, true, false, cond, List, [], ◌∷◌, ◌++◌, length, get_or, refl, ap, subst}
use Rattle.alike.specs.Same.{Each, no_more, and}

pub cond_same : {A : Type 0} (S : A → A → Type 0) {x y z w : A} (b : Bool) → S x y → S z w → S (cond b x z) (cond b y w)
cond_same S true p q = p
cond_same S false p q = q

pub cond_alike : {A : Type 0} (S : A → A → Type 0) {x y z w : A} {b c : Bool} → b ≡ c → S x y → S z w → S (cond b x z) (cond c y w)
cond_alike S {x} {y} {z} {w} {b} {c} e p q = subst (λ (d : Bool). S (cond b x z) (cond d y w)) e (cond_same S b p q)

pub each_on : {A : Type 0} {S T : A → A → Type 0} → ((a b : A) → S a b → T a b) → {xs ys : List A} → Each S xs ys → Each T xs ys
each_on f no_more = no_more
each_on f (and {a = a} {b = b} r p) = and (f a b r) (each_on f p)

pub each_each_on : {A : Type 0} {S T : A → A → Type 0} → ((a b : A) → S a b → T a b) → {xs ys : List (List A)} → Each (Each S) xs ys → Each (Each T) xs ys
each_each_on f no_more = no_more
each_each_on f (and r p) = and (each_on f r) (each_each_on f p)

module _ {A : Type 0} {S : A → A → Type 0} where
  pub each_length : {xs ys : List A} → Each S xs ys → length xs ≡ length ys
  each_length no_more = refl
  each_length (and r p) = ap suc (each_length p)

  pub each_++ : {xs ys vs ws : List A} → Each S xs ys → Each S vs ws → Each S (xs ++ vs) (ys ++ ws)
  each_++ no_more q = q
  each_++ (and r p) q = and r (each_++ p q)

  pub each_end : {xs ys : List A} {a b : A} → Each S xs ys → S a b → Each S (xs ++ a ∷ []) (ys ++ b ∷ [])
  each_end p r = each_++ p (and r no_more)

  pub each_at : {xs ys : List A} {d e : A} → Each S xs ys → S d e → (n : ℕ) → S (get_or xs n d) (get_or ys n e)
  each_at no_more h n = h
  each_at (and r p) h zero = r
  each_at (and r p) h (suc n) = each_at p h n
