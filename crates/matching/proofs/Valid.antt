-- What holds of each phase that is reached.
use Rattle.std.proofs.Common.{◌≡◌, ℕ, ◌+◌, ◌<◌, ◌≤◌, Bool, true, false, not, ◌&&◌, leb, List, [], ◌∷◌, ◌++◌, length, Some, refl, ap, ◌∙◌, arith}
use Rattle.std.proofs.lemmas.List.{length-append}
use Rattle.std.proofs.lemmas.Bool.{cond_both, cond-true, cond-false, le-leb, leb-true}
use Rattle.tokens.specs.declared.token.Token.{Token}
use Rattle.matching.specs.declared.refusal.MatcherRefusal.TheVariants.{Par, TooLong}
use Rattle.matching.specs.Braces.{has_close, has_par, deeper, Balanced}
use Rattle.matching.specs.Dividing.{Permitted}
use Rattle.matching.specs.Matching.{on, out, Progress, Phase, text_before, skipping, in_group, in_run, Step, refuse, following, awaiting, fewest, allowed, settled}
use Rattle.matching.specs.Laws.{NoneCloses}

-- the delimiter stands nowhere in the tokens, outside braces
abbrev pub Unfinished : List Token → List Token → Type 0
Unfinished d u = (r rest : List Token) → u ≡ r ++ (d ++ rest) → Balanced r → ⊥

pub record ValidGroup (limit : ℕ) (long : Bool) (p : Progress) (u : List Token) : Type 0 where
  pub plain : NoneCloses p.later
  pub depth : ℕ
  pub deep : deeper 0 u ≡ Some depth
  pub permitted : Permitted long u
  pub fits : p.counted + (length u + 2 + depth) + fewest p.later ≤ limit

pub record ValidRun (limit : ℕ) (long : Bool) (p : Progress) (d u : List Token) : Type 0 where
  pub plain : NoneCloses p.later
  pub opens : has_close d ≡ false
  pub some : 0 < length d
  pub unfinished : Unfinished d u
  pub depth : ℕ
  pub deep : deeper 0 (settled d u) ≡ Some depth
  pub permitted : Permitted long (settled d u)
  pub fits : p.counted + (length (settled d u) + depth) + fewest p.later ≤ limit

abbrev pub Valid : ℕ → Bool → Phase → Type 0
Valid limit long (text_before x xs ds) = NoneCloses ds × (fewest ds ≤ limit)
Valid limit long (skipping p) = NoneCloses p.later × (p.counted + 1 + fewest p.later ≤ limit)
Valid limit long (in_group p u) = ValidGroup limit long p u
Valid limit long (in_run p d u) = ValidRun limit long p d u

abbrev pub ValidStep : ℕ → Bool → Step → Type 0
ValidStep limit long (on h) = Valid limit long h
ValidStep limit long (out o) = Unit {0}

pub permitted_none : (long : Bool) → Permitted long []
permitted_none true = refl
permitted_none false = refl

pub following_valid : (limit : ℕ) (long : Bool) (f : List (List Token)) (k : ℕ) (ds : List (List Token)) → NoneCloses ds → k + fewest ds ≤ limit → ValidStep limit long (following f k ds)
following_valid limit long f k [] c h = tt
following_valid limit long f k ([] ∷ ds) c h = (c.1, omega arith)
following_valid limit long f k ((x ∷ d) ∷ ds) c h =
    record {
      plain = c.1;
      opens = c.0;
      some = omega arith;
      unfinished = λ r rest e b. absurd (omega (arith, ap length e, length-append r ((x ∷ d) ++ rest)));
      depth = 0;
      deep = refl;
      permitted = permitted_none long;
      fits = omega arith;
    }

pub awaiting_valid : (limit : ℕ) (long : Bool) (xs : List Token) (ds : List (List Token)) → NoneCloses ds → fewest ds ≤ limit → ValidStep limit long (awaiting xs ds)
awaiting_valid limit long [] ds c h = following_valid limit long [] 0 ds c (omega arith)
awaiting_valid limit long (x ∷ xs) ds c h = (c, h)

-- ---- `allowed`

module _ (limit : ℕ) (long : Bool) (p : Progress) (now : List Token) (least : ℕ) (step : Step) where
  pub allowed_on : Permitted long now → p.counted + least + fewest p.later ≤ limit → allowed limit long p now least step ≡ step
  allowed_on h f =
      cond-false (not long && has_par now) _ _ h ∙ cond-true (leb (p.counted + least + fewest p.later) limit) _ _ (le-leb (p.counted + least + fewest p.later) limit f)

  pub allowed_both : (P : Step → Type 0) → P (refuse Par) → P (refuse TooLong) → (Permitted long now → p.counted + least + fewest p.later ≤ limit → P step) → P (allowed limit long p now least step)
  allowed_both P par long' both =
      cond_both (not long && has_par now) _ _ P (λ _. par)
      (λ h. cond_both (leb (p.counted + least + fewest p.later) limit) _ _ P (λ f. both h (leb-true (p.counted + least + fewest p.later) limit f)) (λ _. long'))
