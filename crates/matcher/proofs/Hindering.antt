-- What `allowed` is, by what the code tests.
use Rattle.std.proofs.Common.{◌≡◌, ℕ, ◌+◌, ◌≤◌, Bool, true, false, cond, not, ◌&&◌, ◌||◌, leb, List, [], ◌∷◌, ◌++◌, length, Some, None, Option, sym, refl, ap, ◌∙◌, arith}
use Rattle.std.proofs.lemmas.Bool.{leb-true, false≢true}
use Rattle.std.proofs.Math.Bool.{or-false}
use Rattle.tokens.specs.declared.token.Token.{Token}
use Rattle.matching.specs.declared.refusal.MatcherRefusal.{MatcherRefusal}
use Rattle.matching.specs.declared.refusal.MatcherRefusal.TheVariants.{Par, TooLong}
use Rattle.matching.specs.Braces.{is_par, has_par, passed, deeper}
use Rattle.matching.specs.Dividing.{Permitted, most}
use Rattle.matching.specs.Matching.{on, Progress, Step, refuse, fewest, allowed, in_group, ended, grouped, feed}
use Rattle.matching.proofs.Depths.{par_append, deeper_push}
use Rattle.matcher.specs.Hindering.{hindrance}

abbrev pub by : Step → Option MatcherRefusal → Step
by s None = s
by s (Some r) = refuse r

by_tests : (a b : Bool) (s : Step) → cond a (refuse Par) (cond b s (refuse TooLong)) ≡ by s (cond a (Some Par) (cond b None (Some TooLong)))
by_tests true b s = refl
by_tests false true s = refl
by_tests false false s = refl

module _ (long : Bool) where
  pub allowed_is : (p : Progress) (held : List Token) (least : ℕ) (s : Step) (par : Bool) (n : ℕ) → (not long && has_par held) ≡ (not long && par) → p.counted + least + fewest p.later ≡ n → allowed most long p held least s ≡ by s (hindrance long par n)
  allowed_is p held least s par n e f =
      ap (λ (a : Bool). cond a (refuse Par) (cond (leb (p.counted + least + fewest p.later) most) s (refuse TooLong))) e
      ∙ ap (λ (k : ℕ). cond (not long && par) (refuse Par) (cond (leb k most) s (refuse TooLong))) f
      ∙ by_tests (not long && par) (leb n 4096) s

  -- nothing hinders
  none_by : (a b : Bool) → cond a (Some Par) (cond b None (Some TooLong)) ≡ None → (a ≡ false) × (b ≡ true)
  none_by true b e = let z : ◌≡◌ {A = ℕ} 0 1 = cc in absurd (omega arith)
  none_by false true e = (refl, refl)
  none_by false false e = let z : ◌≡◌ {A = ℕ} 0 1 = cc in absurd (omega arith)

  pub unhindered : (par : Bool) (n : ℕ) → hindrance long par n ≡ None → ((not long && par) ≡ false) × (n ≤ 4096)
  unhindered par n e = let k = none_by (not long && par) (leb n 4096) e in (k.0, leb-true n 4096 k.1)

  -- tokens behind permitted ones
  pub par_more : (s w : List Token) → Permitted long s → (not long && has_par (s ++ w)) ≡ (not long && has_par w)
  par_more s w h = ap (λ (b : Bool). not long && b) (par_append s w) ∙ go long (has_par s) h
    where
      go : (l b : Bool) → (not l && b) ≡ false → (not l && (b || has_par w)) ≡ (not l && has_par w)
      go true b e = refl
      go false true e = absurd (false≢true (sym e))
      go false false e = refl

  pub par_one : (t : Token) → (not long && has_par (t ∷ [])) ≡ (not long && is_par t)
  par_one t = ap (λ (b : Bool). not long && b) (or-false (is_par t))

  -- ---- a token in a group

  module _ (p : Progress) (inner : List Token) (depth : ℕ) (t : Token) (deep : deeper 0 inner ≡ Some depth) where
    behind : deeper 0 (inner ++ t ∷ []) ≡ passed (Some depth) t
    behind = deeper_push inner t ∙ ap (λ (o : Option ℕ). passed o t) deep

    pub group_closes : passed (Some depth) t ≡ None → feed long (in_group p inner) t ≡ ended p inner (length inner + 2)
    group_closes e = ap (grouped most long p inner (inner ++ t ∷ [])) (behind ∙ e)

    pub group_deeper : (m : ℕ) → passed (Some depth) t ≡ Some m → deeper 0 (inner ++ t ∷ []) ≡ Some m
    group_deeper m e = behind ∙ e

    pub group_on : (m n : ℕ) → passed (Some depth) t ≡ Some m → Permitted long inner → p.counted + (length (inner ++ t ∷ []) + 2 + m) + fewest p.later ≡ n → feed long (in_group p inner) t ≡ by (on (in_group p (inner ++ t ∷ []))) (hindrance long (is_par t) n)
    group_on m n e ok f =
        ap (grouped most long p inner (inner ++ t ∷ [])) (behind ∙ e)
        ∙ allowed_is p (inner ++ t ∷ []) (length (inner ++ t ∷ []) + 2 + m) (on (in_group p (inner ++ t ∷ []))) (is_par t) n (par_more inner (t ∷ []) ok ∙ par_one t) f

    pub group_permitted : Permitted long inner → (not long && is_par t) ≡ false → Permitted long (inner ++ t ∷ [])
    group_permitted ok e = par_more inner (t ∷ []) ok ∙ par_one t ∙ e
