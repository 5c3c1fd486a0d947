-- One more argument in the space of a call.
use Rattle.std.proofs.Common.{◌≡◌, ℕ, ◌+◌, ◌<◌, true, List, [], ◌∷◌, ◌++◌, length, take, vec_items, vec_len, Vec, sym, refl, ap, ◌∙◌, arith}
use Rattle.tokens.specs.declared.token.Token.{Token}
use Rattle.matching.specs.Matching.{on, Progress, skipping, in_run, following, ended}
use Rattle.matcher.specs.declared.span.Span.{Span}
use Rattle.matcher.specs.Spans.{parts_of, all_within}
use Rattle.matcher.proofs.Buffers.{all_before}
use Rattle.matcher.proofs.Parts.{parts_same}

abbrev pub progress : List (List Token) → ℕ → List (List Token) → Progress
progress args n ds = record { finished = args; counted = n; later = ds }

pub at_skipping : (args : List (List Token)) (n : ℕ) (d : List Token) (ds : List (List Token)) → d ≡ [] → following args n (d ∷ ds) ≡ on (skipping (progress args n ds))
at_skipping args n d ds e = ap (λ (x : List Token). following args n (x ∷ ds)) e

pub at_run : (args : List (List Token)) (n : ℕ) (d : List Token) (ds : List (List Token)) → 0 < length d → following args n (d ∷ ds) ≡ on (in_run (progress args n ds) d [])
at_run args n [] ds h = absurd (omega arith)
at_run args n (x ∷ d) ds h = refl

module _ {Z Y : Type 0} (v w : Vec Token Z) (spans : Vec Span Y) (h : all_within (vec_len v) (vec_items spans) ≡ true) (e : take (vec_len v) (vec_items w) ≡ vec_items v) where
  pub same_arguments : parts_of (vec_items w) (vec_items spans) ≡ parts_of (vec_items v) (vec_items spans)
  same_arguments = parts_same (vec_len v) (vec_items w) (vec_items v) (vec_items spans) h (e ∙ sym (all_before v (vec_len v) refl))

  pub one_more_lem : (all : List (List Token)) (a : List Token) (n m : ℕ) (ds : List (List Token)) → all ≡ parts_of (vec_items w) (vec_items spans) ++ a ∷ [] → ended (progress (parts_of (vec_items v) (vec_items spans)) n ds) a m ≡ following all (n + m) ds
  one_more_lem all a n m ds f = ap (λ (args : List (List Token)). following args (n + m) ds) (ap (λ (args : List (List Token)). args ++ a ∷ []) (sym same_arguments) ∙ sym f)
