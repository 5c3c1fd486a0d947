-- What a step tells of the same step under a larger limit, and for a long macro.
use Rattle.std.proofs.Common.{◌≡◌, ℕ, ◌+◌, ◌≤◌, Bool, true, cond, not, ◌&&◌, leb, List, [], ◌∷◌, ◌++◌, length, Some, None, Option, sym, refl, ap, ◌∙◌, subst, arith}
use Rattle.std.proofs.lemmas.Bool.{cond_both, cond-true, cond-false, leb-true}
use Rattle.tokens.specs.declared.token.Token.{Token}
use Rattle.matching.specs.declared.refusal.MatcherRefusal.TheVariants.{Differs, Unmatched, Par, TooLong}
use Rattle.matching.specs.Braces.{is_open, is_close, is_blank, has_par, same_token, deeper}
use Rattle.matching.specs.Dividing.{stripped, Permitted}
use Rattle.matching.specs.Matching.{on, out, Progress, Phase, text_before, skipping, in_group, in_run, matched, refused, Step, refuse, following, ended, awaiting, fewest, allowed, settled, is_complete, skipped, grouped, ran, feed_within, still, matching_within}
use Rattle.matching.proofs.Valid.{allowed_on}

abbrev pub Unrefused : Step → Type 0
Unrefused (on h) = Unit {0}
Unrefused (out (matched args)) = Unit {0}
Unrefused (out (refused r)) = ⊥

following_unrefused : (f : List (List Token)) (k : ℕ) (ds : List (List Token)) → Unrefused (following f k ds)
following_unrefused f k [] = tt
following_unrefused f k ([] ∷ ds) = tt
following_unrefused f k ((x ∷ d) ∷ ds) = tt

awaiting_unrefused : (xs : List Token) (ds : List (List Token)) → Unrefused (awaiting xs ds)
awaiting_unrefused [] ds = following_unrefused [] 0 ds
awaiting_unrefused (x ∷ xs) ds = tt

module _ (limit : ℕ) (long : Bool) where
  -- what is permitted stays so
  abbrev pub Eases : Bool → Type 0
  Eases l = (now : List Token) → Permitted long now → Permitted l now

  abbrev pub Family : Type 0
  Family = ℕ → Bool → Step

  abbrev pub Told : Family → Step → Type 0
  Told F (on h) = (most : ℕ) (l : Bool) → limit ≤ most → Eases l → F most l ≡ on h
  Told F (out (matched args)) = Unit {0}
  Told F (out (refused Differs)) = Unit {0}
  Told F (out (refused Unmatched)) = (most : ℕ) (l : Bool) → F most l ≡ refuse Unmatched
  Told F (out (refused Par)) = ((most : ℕ) → F most long ≡ refuse Par) × ((most : ℕ) × (limit ≤ most) × Unrefused (F most true))
  Told F (out (refused TooLong)) = (most : ℕ) × (limit ≤ most) × Unrefused (F most long)

  told_step : (F : Family) (s : Step) → ((most : ℕ) (l : Bool) → limit ≤ most → Eases l → F most l ≡ s) → Unrefused s → Told F s
  told_step F (on h) e u = e
  told_step F (out (matched args)) e u = tt
  told_step F (out (refused r)) e u = absurd u

  told_same : (F G : Family) (s : Step) → ((most : ℕ) (l : Bool) → F most l ≡ G most l) → Told G s → Told F s
  told_same F G (on h) e t = λ most l m p. e most l ∙ t most l m p
  told_same F G (out (matched args)) e t = tt
  told_same F G (out (refused Differs)) e t = tt
  told_same F G (out (refused Unmatched)) e t = λ most l. e most l ∙ t most l
  told_same F G (out (refused Par)) e t = (λ most. e most long ∙ t.0 most, (t.1.0, t.1.1, subst Unrefused (sym (e t.1.0 true)) t.1.2))
  told_same F G (out (refused TooLong)) e t = (t.0, t.1, subst Unrefused (sym (e t.0 long)) t.2)

  module _ (p : Progress) (now : List Token) (least : ℕ) (s : Step) (u : Unrefused s) where
    abbrev need : ℕ
    need = p.counted + least + fewest p.later

    abbrev Under : Family
    Under most l = allowed most l p now least s

    told_allowed : Told Under (allowed limit long p now least s)
    told_allowed =
        cond_both (not long && has_par now) _ _ (Told Under)
        (λ h. (λ most. cond-true (not long && has_par now) _ _ h, (limit + need, omega arith, subst Unrefused (sym (allowed_on (limit + need) true p now least s refl (omega arith))) u)))
        (λ h. cond_both (leb need limit) _ _ (Told Under)
        (λ f. told_step Under s (λ most l m e. allowed_on most l p now least s (e now h) (omega (arith, leb-true need limit f))) u)
        (λ _. (limit + need, omega arith, subst Unrefused (sym (allowed_on (limit + need) long p now least s h (omega arith))) u)))

  told_skipped : (p : Progress) (t : Token) → Told (λ most l. skipped most l p t) (skipped limit long p t)
  told_skipped p t =
      cond_both (is_blank t) _ _ (Told F) (λ b. told_step F (on (skipping p)) (λ most l _ _. cond-true (is_blank t) _ _ b) tt)
      (λ b. cond_both (is_close t) _ _ (Told F) (λ c most l. cond-false (is_blank t) _ _ b ∙ cond-true (is_close t) _ _ c)
      (λ c. cond_both (is_open t) _ _ (Told F)
      (λ o. told_same F (λ most l. allowed most l p [] 2 (on (in_group p []))) (allowed limit long p [] 2 (on (in_group p []))) (λ most l. cond-false (is_blank t) _ _ b ∙ cond-false (is_close t) _ _ c ∙ cond-true (is_open t) _ _ o) (told_allowed p [] 2 (on (in_group p [])) tt))
      (λ o. told_same F (λ most l. allowed most l p (t ∷ []) 1 (ended p (t ∷ []) 1)) (allowed limit long p (t ∷ []) 1 (ended p (t ∷ []) 1)) (λ most l. cond-false (is_blank t) _ _ b ∙ cond-false (is_close t) _ _ c ∙ cond-false (is_open t) _ _ o) (told_allowed p (t ∷ []) 1 (ended p (t ∷ []) 1) (following_unrefused _ _ p.later)))))
    where
      F : Family
      F most l = skipped most l p t

  told_grouped : (p : Progress) (u v : List Token) (o : Option ℕ) → Told (λ most l. grouped most l p u v o) (grouped limit long p u v o)
  told_grouped p u v None = told_step (λ most l. ended p u (length u + 2)) (ended p u (length u + 2)) (λ most l _ _. refl) (following_unrefused _ _ p.later)
  told_grouped p u v (Some n) = told_allowed p v (length v + 2 + n) (on (in_group p v)) tt

  told_ran : (p : Progress) (d u : List Token) (o : Option ℕ) → Told (λ most l. ran most l p d u o) (ran limit long p d u o)
  told_ran p d u None = λ most l. refl
  told_ran p d u (Some n) =
      told_allowed p (settled d u) (length (settled d u) + n) (cond (is_complete d u) (ended p (stripped (settled d u)) (length (settled d u))) (on (in_run p d u)))
      (cond_both (is_complete d u) _ _ Unrefused (λ _. following_unrefused _ _ p.later) (λ _. tt))

  pub told : (h : Phase) (t : Token) → Told (λ most l. feed_within most l h t) (feed_within limit long h t)
  told (text_before x xs ds) t =
      cond_both (same_token x t) (awaiting xs ds) (refuse Differs) (Told (λ most l. feed_within most l (text_before x xs ds) t))
      (λ e. told_step (λ most l. feed_within most l (text_before x xs ds) t) (awaiting xs ds) (λ most l _ _. cond-true (same_token x t) _ _ e) (awaiting_unrefused xs ds))
      (λ _. tt)
  told (skipping p) t = told_skipped p t
  told (in_group p u) t = told_grouped p u (u ++ t ∷ []) (deeper 0 (u ++ t ∷ []))
  told (in_run p d u) t = told_ran p d (u ++ t ∷ []) (deeper 0 (settled d (u ++ t ∷ [])))

  -- it goes on under a larger limit where it goes on under this one
  module _ (most : ℕ) (l : Bool) (more : limit ≤ most) (eases : Eases l) where
    pub still_eased : (s : Step) (ts : List Token) (h : Phase) → matching_within limit long s ts ≡ still h → matching_within most l s ts ≡ still h
    still_eased (out o) ts h e = let z : ◌≡◌ {A = ℕ} 0 1 = cc in absurd (omega arith)
    still_eased (on g) [] h e = e
    still_eased (on g) (t ∷ ts) h e = go (feed_within limit long g t) (told g t) e (λ k f. still_eased (on k) ts h f)
      where
        go : (s : Step) → Told (λ n b. feed_within n b g t) s → matching_within limit long s ts ≡ still h → ((k : Phase) → matching_within limit long (on k) ts ≡ still h → matching_within most l (on k) ts ≡ still h) → matching_within most l (feed_within most l g t) ts ≡ still h
        go (on k) w f rec = ap (λ (s : Step). matching_within most l s ts) (w most l more eases) ∙ rec k f
        go (out o) w f rec = let z : ◌≡◌ {A = ℕ} 0 1 = cc in absurd (omega arith)
