-- The text before the first parameter: what may follow so that the tokens begin with it.
use Rattle.std.proofs.Common.{◌≡◌, ℕ, ◌+◌, Bool, true, List, [], ◌∷◌, ◌++◌, length, Some, None, Option, sym, refl, subst}
use Rattle.std.proofs.lemmas.Bool.{cond_both, cond-true}
use Rattle.tokens.specs.declared.token.Token.{Token}
use Rattle.matching.specs.declared.refusal.MatcherRefusal.TheVariants.{Differs, Unmatched, Par, TooLong}
use Rattle.matching.specs.Braces.{is_open, is_close, is_blank, same_token, deeper}
use Rattle.matching.specs.Dividing.{Parameters, stripped}
use Rattle.matching.specs.Matching.{on, out, Progress, Phase, text_before, skipping, in_group, in_run, Outcome, matched, refused, Step, refuse, following, ended, awaiting, begin, settled, is_complete, skipped, grouped, ran, feed_within, Run, still, over, matching_within}
use Rattle.matching.specs.Laws.{Begun}
use Rattle.matching.proofs.Depths.{same_token_lem, token_same}
use Rattle.matching.proofs.Valid.{allowed_both}

abbrev pub Heads : Step → List Token → Type 0
Heads (on (text_before x xs ds)) us = (rest : List Token) × (us ≡ x ∷ (xs ++ rest))
Heads (on (skipping p)) us = Unit {0}
Heads (on (in_group p u)) us = Unit {0}
Heads (on (in_run p d u)) us = Unit {0}
Heads (out (matched args)) us = Unit {0}
Heads (out (refused Differs)) us = ⊥
Heads (out (refused Unmatched)) us = Unit {0}
Heads (out (refused Par)) us = Unit {0}
Heads (out (refused TooLong)) us = Unit {0}

following_heads : (f : List (List Token)) (k : ℕ) (ds : List (List Token)) (us : List Token) → Heads (following f k ds) us
following_heads f k [] us = tt
following_heads f k ([] ∷ ds) us = tt
following_heads f k ((x ∷ d) ∷ ds) us = tt

heads_awaiting : (xs : List Token) (ds : List (List Token)) (us : List Token) → Heads (awaiting xs ds) us → (rest : List Token) × (us ≡ xs ++ rest)
heads_awaiting [] ds us h = (us, refl)
heads_awaiting (x ∷ xs) ds us h = h

awaiting_heads : (xs : List Token) (ds : List (List Token)) (us : List Token) → (rest : List Token) × (us ≡ xs ++ rest) → Heads (awaiting xs ds) us
awaiting_heads [] ds us h = following_heads [] 0 ds us
awaiting_heads (x ∷ xs) ds us h = h

out_heads : (o : Outcome) (us vs : List Token) → Heads (out o) us → Heads (out o) vs
out_heads (matched args) us vs h = tt
out_heads (refused Differs) us vs h = h
out_heads (refused Unmatched) us vs h = tt
out_heads (refused Par) us vs h = tt
out_heads (refused TooLong) us vs h = tt

module _ (limit : ℕ) (long : Bool) where
  -- behind the text before nothing is asked any more

  group_past : (p : Progress) (u u' us : List Token) (o : Option ℕ) → Heads (grouped limit long p u u' o) us
  group_past p u u' us None = following_heads _ _ p.later us
  group_past p u u' us (Some n) = allowed_both limit long p u' (length u' + 2 + n) (on (in_group p u')) (λ (s : Step). Heads s us) tt tt (λ _ _. tt)

  run_past : (p : Progress) (d u us : List Token) (o : Option ℕ) → Heads (ran limit long p d u o) us
  run_past p d u us None = tt
  run_past p d u us (Some n) =
      allowed_both limit long p (settled d u) (length (settled d u) + n) _ (λ (s : Step). Heads s us) tt tt
      (λ _ _. cond_both (is_complete d u) (ended p (stripped (settled d u)) (length (settled d u))) (on (in_run p d u)) (λ (s : Step). Heads s us) (λ _. following_heads _ _ p.later us) (λ _. tt))

  skip_past : (p : Progress) (t : Token) (us : List Token) → Heads (skipped limit long p t) us
  skip_past p t us =
      cond_both (is_blank t) _ _ P (λ _. tt) (λ _. cond_both (is_close t) _ _ P (λ _. tt) (λ _. cond_both (is_open t) _ _ P
      (λ _. allowed_both limit long p [] 2 (on (in_group p [])) P tt tt (λ _ _. tt))
      (λ _. allowed_both limit long p (t ∷ []) 1 (ended p (t ∷ []) 1) P tt tt (λ _ _. following_heads _ _ p.later us))))
    where
      P : Step → Type 0
      P s = Heads s us

  heads_fed : (h : Phase) (t : Token) (us : List Token) → Heads (on h) (t ∷ us) → Heads (feed_within limit long h t) us
  heads_fed (text_before x xs ds) t us c =
      let e : t ∷ us ≡ x ∷ (xs ++ c.0) = c.1 in
      let same : x ≡ t = cc in
      let yes_same : same_token x t ≡ true = subst (λ (y : Token). same_token x y ≡ true) same (token_same x) in
      subst (λ (s : Step). Heads s us) (sym (cond-true (same_token x t) _ _ yes_same)) (awaiting_heads xs ds us (c.0, cc))
  heads_fed (skipping p) t us c = skip_past p t us
  heads_fed (in_group p u) t us c = group_past p u (u ++ t ∷ []) us (deeper 0 (u ++ t ∷ []))
  heads_fed (in_run p d u) t us c = run_past p d (u ++ t ∷ []) us (deeper 0 (settled d (u ++ t ∷ [])))

  heads_unfed : (h : Phase) (t : Token) (us : List Token) → Heads (feed_within limit long h t) us → Heads (on h) (t ∷ us)
  heads_unfed (text_before x xs ds) t us =
      cond_both (same_token x t) (awaiting xs ds) (refuse Differs) (λ (s : Step). Heads s us → Heads (on (text_before x xs ds)) (t ∷ us))
      (λ h c.
      let r : (rest : List Token) × (us ≡ xs ++ rest) = heads_awaiting xs ds us c in
      let e : us ≡ xs ++ r.0 = r.1 in
      let same : x ≡ t = same_token_lem x t h in
      (r.0, cc))
      (λ _ c. absurd c)
  heads_unfed (skipping p) t us = λ _. tt
  heads_unfed (in_group p u) t us = λ _. tt
  heads_unfed (in_run p d u) t us = λ _. tt

  abbrev HeadsRun : Run → List Token → Type 0
  HeadsRun (still h) us = Heads (on h) us
  HeadsRun (over o left) us = Heads (out o) us

  heads_along : (s : Step) (ts us : List Token) → Heads s (ts ++ us) → HeadsRun (matching_within limit long s ts) us
  heads_along (out o) ts us c = out_heads o (ts ++ us) us c
  heads_along (on h) [] us c = c
  heads_along (on h) (t ∷ ts) us c = heads_along (feed_within limit long h t) ts us (heads_fed h t (ts ++ us) c)

  heads_back : (s : Step) (ts us : List Token) → HeadsRun (matching_within limit long s ts) us → Heads s (ts ++ us)
  heads_back (out o) ts us c = out_heads o us (ts ++ us) c
  heads_back (on h) [] us c = c
  heads_back (on h) (t ∷ ts) us c = heads_unfed h t (ts ++ us) (heads_back (feed_within limit long h t) ts us c)

  module _ (p : Parameters) (ts : List Token) (o : Outcome) (e : matching_within limit long (begin p) ts ≡ over o []) where
    pub begun : (more : List Token) → Begun p (ts ++ more) → Heads (out o) more
    begun more b = subst (λ (r : Run). HeadsRun r more) e (heads_along (begin p) ts more (awaiting_heads p.before p.delimiters (ts ++ more) b))

    pub begun_back : (more : List Token) → Heads (out o) more → Begun p (ts ++ more)
    begun_back more h = heads_awaiting p.before p.delimiters (ts ++ more) (heads_back (begin p) ts more (subst (λ (r : Run). HeadsRun r more) (sym e) h))
