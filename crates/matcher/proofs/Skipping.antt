-- A token before an undelimited argument that is not blank.
use Rattle.std.proofs.Common.{◌≡◌, ℕ, ◌+◌, Bool, true, false, cond, not, ◌&&◌, [], ◌∷◌, sym, refl, ap, ◌∙◌}
use Rattle.std.proofs.lemmas.Bool.{cond-true, cond-false, false≢true}
use Rattle.tokens.specs.declared.token.Token.{Token}
use Rattle.tokens.specs.declared.token.Token.TheVariants.{Name, Character}
use Rattle.matching.specs.declared.refusal.MatcherRefusal.TheVariants.{Unmatched}
use Rattle.matching.specs.Braces.{is_open, is_close, is_blank, is_par}
use Rattle.matching.specs.Dividing.{most}
use Rattle.matching.specs.Matching.{on, Progress, refuse, fewest, allowed, skipping, in_group, ended, feed}
use Rattle.matcher.specs.Hindering.{hindrance}
use Rattle.matcher.proofs.Hindering.{by, allowed_is, par_one}

open_par : (t : Token) → is_open t ≡ true → is_par t ≡ false
open_par (Name n) h = absurd (false≢true h)
open_par (Character c b) h = refl

module _ (long : Bool) (p : Progress) (t : Token) (plain : is_blank t ≡ false) where
  pub skip_closes : is_close t ≡ true → feed long (skipping p) t ≡ refuse Unmatched
  skip_closes h = cond-false (is_blank t) _ _ plain ∙ cond-true (is_close t) _ _ h

  unclosed : is_close t ≡ false → feed long (skipping p) t ≡ cond (is_open t) (allowed most long p [] 2 (on (in_group p []))) (allowed most long p (t ∷ []) 1 (ended p (t ∷ []) 1))
  unclosed h = cond-false (is_blank t) _ _ plain ∙ cond-false (is_close t) _ _ h

  pub skip_next : is_close t ≡ false → (b : Bool) → is_open t ≡ b → (n : ℕ) → p.counted + cond b 2 1 + fewest p.later ≡ n → feed long (skipping p) t ≡ by (cond b (on (in_group p [])) (ended p (t ∷ []) 1)) (hindrance long (is_par t) n)
  skip_next h true e n f =
      unclosed h ∙ cond-true (is_open t) _ _ e ∙ allowed_is long p [] 2 (on (in_group p [])) (is_par t) n (sym (ap (λ (b : Bool). not long && b) (open_par t e))) f
  skip_next h false e n f =
      unclosed h ∙ cond-false (is_open t) _ _ e ∙ allowed_is long p (t ∷ []) 1 (ended p (t ∷ []) 1) (is_par t) n (par_one long t) f
