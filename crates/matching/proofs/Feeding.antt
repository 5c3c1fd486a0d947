-- A token read in a phase: what may follow is what may follow behind the step, in the phases before a delimited argument's.
use Rattle.std.proofs.Common.{◌≡◌, ℕ, ◌+◌, ◌≤◌, Bool, true, false, ◌⊎◌, List, [], ◌∷◌, ◌++◌, length, sym, refl, ap, ◌∙◌, subst, inl, inr, arith}
use Rattle.std.proofs.lemmas.Bool.{both_ways, cond_both, cond-true, cond-false, and_parts, and_from, cases_Bool}
use Rattle.tokens.specs.declared.token.Token.{Token}
use Rattle.matching.specs.declared.refusal.MatcherRefusal.TheVariants.{Differs}
use Rattle.matching.specs.Braces.{is_open, is_close, is_blank, same_token, all_blank, Balanced}
use Rattle.matching.specs.Dividing.{Taken, single, group, Permitted}
use Rattle.matching.specs.Matching.{on, Progress, text_before, skipping, in_group, Step, refuse, ended, awaiting, fewest, allowed, skipped, feed_within}
use Rattle.matching.proofs.Splits.{one_more_lem}
use Rattle.matching.proofs.Depths.{same_token_lem, token_same, blank_not_open, open_not_close}
use Rattle.matching.proofs.Resting.{Single, Group, taken_by, Rest, Taking, Grouping, Completes, Comes, taking, taking_back, rest_fits, comes_next, next_comes}
use Rattle.matching.proofs.Valid.{Valid, ValidStep, permitted_none, following_valid, awaiting_valid, allowed_on, allowed_both}

module _ (limit : ℕ) (long : Bool) where
  -- ---- the text before

  pub awaiting_comes : (xs : List Token) (ds : List (List Token)) (us rest : List Token) (args : List (List Token)) → us ≡ xs ++ rest → Rest limit long [] 0 ds rest args → Comes limit long (awaiting xs ds) us args
  awaiting_comes [] ds us rest args e r = comes_next limit long [] 0 ds us args (subst (λ (ws : List Token). Rest limit long [] 0 ds ws args) (sym e) r)
  awaiting_comes (x ∷ xs) ds us rest args e r = (rest, e, r)

  pub comes_awaiting : (xs : List Token) (ds : List (List Token)) (us : List Token) (args : List (List Token)) → fewest ds ≤ limit → Comes limit long (awaiting xs ds) us args → (rest : List Token) × (us ≡ xs ++ rest) × Rest limit long [] 0 ds rest args
  comes_awaiting [] ds us args h c = (us, refl, next_comes limit long [] 0 ds us args (omega arith) c)
  comes_awaiting (x ∷ xs) ds us args h c = c

  module _ (x : Token) (xs : List Token) (ds : List (List Token)) (t : Token) (us : List Token) (args : List (List Token)) where
    pub before_fed : Completes limit long (text_before x xs ds) (t ∷ us) args → Comes limit long (feed_within limit long (text_before x xs ds) t) us args
    before_fed c =
        let e : t ∷ us ≡ x ∷ (xs ++ c.0) = c.1 in
        let same : x ≡ t = cc in
        let same_test : same_token x t ≡ true = subst (λ (y : Token). same_token x y ≡ true) same (token_same x) in
        subst (λ (s : Step). Comes limit long s us args) (sym (cond-true (same_token x t) _ _ same_test)) (awaiting_comes xs ds us c.0 args (cc) c.2)

    pub before_unfed : Valid limit long (text_before x xs ds) → Comes limit long (feed_within limit long (text_before x xs ds) t) us args → Completes limit long (text_before x xs ds) (t ∷ us) args
    before_unfed v =
        cond_both (same_token x t) (awaiting xs ds) (refuse Differs) (λ (s : Step). Comes limit long s us args → Completes limit long (text_before x xs ds) (t ∷ us) args)
        (λ h c.
        let r : (rest : List Token) × (us ≡ xs ++ rest) × Rest limit long [] 0 ds rest args = comes_awaiting xs ds us args v.1 c in
        let e : us ≡ xs ++ r.0 = r.1 in
        let same : x ≡ t = same_token_lem x t h in
        (r.0, cc, r.2))
        (λ _ c. absurd c)

    pub before_kept : Valid limit long (text_before x xs ds) → ValidStep limit long (feed_within limit long (text_before x xs ds) t)
    before_kept v = cond_both (same_token x t) (awaiting xs ds) (refuse Differs) (ValidStep limit long) (λ _. awaiting_valid limit long xs ds v.0 v.1) (λ _. tt)

  -- ---- blanks before an undelimited argument

  open_not_blank : (t : Token) → is_open t ≡ true → is_blank t ≡ false
  open_not_blank t h = go (cases_Bool (is_blank t))
    where
      go : (is_blank t ≡ true) ⊎ (is_blank t ≡ false) → is_blank t ≡ false
      go (inl b) = absurd (both_ways (is_open t) (blank_not_open t b) h)
      go (inr b) = b

  module _ (p : Progress) where
    Skips : Token → List Token → List (List Token) → Type 0
    Skips t us args = Comes limit long (skipped limit long p t) us args

    at_blank_lem : (t : Token) → is_blank t ≡ true → skipped limit long p t ≡ on (skipping p)
    at_blank_lem t h = cond-true (is_blank t) _ _ h

    at_open : (t : Token) → is_open t ≡ true → skipped limit long p t ≡ allowed limit long p [] 2 (on (in_group p []))
    at_open t h = cond-false (is_blank t) _ _ (open_not_blank t h) ∙ cond-false (is_close t) _ _ (open_not_close t h) ∙ cond-true (is_open t) _ _ h

    at_other : (t : Token) → is_blank t ≡ false → is_open t ≡ false → is_close t ≡ false → skipped limit long p t ≡ allowed limit long p (t ∷ []) 1 (ended p (t ∷ []) 1)
    at_other t b o c = cond-false (is_blank t) _ _ b ∙ cond-false (is_close t) _ _ c ∙ cond-false (is_open t) _ _ o

    -- a blank more in front changes nothing
    blank_fed : (b : Token) (front rest a : List Token) (n : ℕ) (args : List (List Token)) → is_blank b ≡ true → Taken [] front a n → Permitted long a → Rest limit long (p.finished ++ a ∷ []) (p.counted + n) p.later rest args → Skips b (front ++ rest) args
    unfolding Skips
    blank_fed b front rest a n args h t ok r =
        subst (λ (s : Step). Comes limit long s (front ++ rest) args) (sym (at_blank_lem b h))
        (taking_back limit long p.finished p.counted [] p.later (front ++ rest) args (record { front = front; rest = rest; argument = a; count = n; tokens = refl; taken = t; permitted = ok; rests = r }))

    single_fed : (blanks : List Token) (x : Token) (rest : List Token) (args : List (List Token)) (t : Token) (us : List Token) → t ∷ us ≡ (blanks ++ x ∷ []) ++ rest → all_blank blanks ≡ true → is_blank x ≡ false → is_open x ≡ false → is_close x ≡ false → Permitted long (x ∷ []) → Rest limit long (p.finished ++ (x ∷ []) ∷ []) (p.counted + 1) p.later rest args → Skips t us args
    unfolding Skips
    single_fed [] x rest args t us e b nb np nc ok r =
        let et : x ≡ t = cc in
        let eu : rest ≡ us = cc in
        let fits : p.counted + 1 + fewest p.later ≤ limit = rest_fits limit long _ _ _ rest args r in
        let s : skipped limit long p x ≡ ended p (x ∷ []) 1 = at_other x nb np nc ∙ allowed_on limit long p (x ∷ []) 1 (ended p (x ∷ []) 1) ok fits in
        let c : Comes limit long (skipped limit long p x) rest args = subst (λ (s : Step). Comes limit long s rest args) (sym s) (comes_next limit long (p.finished ++ (x ∷ []) ∷ []) (p.counted + 1) p.later rest args r) in
        subst (λ (y : Token). Skips y us args) et (subst (λ (ws : List Token). Skips x ws args) eu c)
    single_fed (y ∷ blanks) x rest args t us e b nb np nc ok r =
        let parts = and_parts (is_blank y) (all_blank blanks) b in
        let et : y ≡ t = cc in
        let eu : (blanks ++ x ∷ []) ++ rest ≡ us = cc in
        let c : Skips y ((blanks ++ x ∷ []) ++ rest) args = blank_fed y (blanks ++ x ∷ []) rest (x ∷ []) 1 args parts.0 (single blanks x parts.1 nb np nc) ok r in
        subst (λ (z : Token). Skips z us args) et (subst (λ (ws : List Token). Skips y ws args) eu c)

    group_fed : (blanks : List Token) (o : Token) (a : List Token) (c : Token) (rest : List Token) (args : List (List Token)) (t : Token) (us : List Token) → t ∷ us ≡ (blanks ++ o ∷ (a ++ c ∷ [])) ++ rest → all_blank blanks ≡ true → is_open o ≡ true → Balanced a → is_close c ≡ true → Permitted long a → Rest limit long (p.finished ++ a ∷ []) (p.counted + (length a + 2)) p.later rest args → Skips t us args
    unfolding Skips
    group_fed [] o a c rest args t us e b op bal cl ok r =
        let et : o ≡ t = cc in
        let eu : (a ++ c ∷ []) ++ rest ≡ us = cc in
        let all : p.counted + (length a + 2) + fewest p.later ≤ limit = rest_fits limit long _ _ _ rest args r in
        let s : skipped limit long p o ≡ on (in_group p []) = at_open o op ∙ allowed_on limit long p [] 2 (on (in_group p [])) (permitted_none long) (omega arith) in
        let g : Grouping limit long p [] us args = record { inner = a; right = c; rest = rest; tokens = sym eu ∙ one_more_lem a c rest; balanced = bal; closes = cl; permitted = ok; rests = r } in
        subst (λ (z : Token). Skips z us args) et (subst (λ (s : Step). Comes limit long s us args) (sym s) g)
    group_fed (y ∷ blanks) o a c rest args t us e b op bal cl ok r =
        let parts = and_parts (is_blank y) (all_blank blanks) b in
        let et : y ≡ t = cc in
        let eu : (blanks ++ o ∷ (a ++ c ∷ [])) ++ rest ≡ us = cc in
        let k : Skips y ((blanks ++ o ∷ (a ++ c ∷ [])) ++ rest) args = blank_fed y (blanks ++ o ∷ (a ++ c ∷ [])) rest a (length a + 2) args parts.0 (group blanks o a c parts.1 op bal cl) ok r in
        subst (λ (z : Token). Skips z us args) et (subst (λ (ws : List Token). Skips y ws args) eu k)

    module _ (t : Token) (us : List Token) (args : List (List Token)) where
      pub skipping_fed : Completes limit long (skipping p) (t ∷ us) args → Comes limit long (feed_within limit long (skipping p) t) us args
      unfolding Skips
      skipping_fed c = go (taken_by k.taken)
        where
          k : Taking limit long p.finished p.counted [] p.later (t ∷ us) args
          k = taking limit long p.finished p.counted [] p.later (t ∷ us) args c

          go : Single k.front k.argument k.count ⊎ Group k.front k.argument k.count → Comes limit long (skipped limit long p t) us args
          go (inl s) =
              single_fed s.blanks s.token k.rest args t us (k.tokens ∙ ap (λ (ws : List Token). ws ++ k.rest) s.tokens) s.blank s.not_blank s.not_open s.not_close
              (subst (Permitted long) s.argument k.permitted)
              (subst (λ (n : ℕ). Rest limit long (p.finished ++ (s.token ∷ []) ∷ []) (p.counted + n) p.later k.rest args) s.count (subst (λ (a : List Token). Rest limit long (p.finished ++ a ∷ []) (p.counted + k.count) p.later k.rest args) s.argument k.rests))
          go (inr g) =
              group_fed g.blanks g.left k.argument g.right k.rest args t us (k.tokens ∙ ap (λ (ws : List Token). ws ++ k.rest) g.tokens) g.blank g.opens g.balanced g.closes k.permitted
              (subst (λ (n : ℕ). Rest limit long (p.finished ++ k.argument ∷ []) (p.counted + n) p.later k.rest args) g.count k.rests)

      Took : Type 0
      Took = Rest limit long p.finished p.counted ([] ∷ p.later) (t ∷ us) args

      blank_unfed : is_blank t ≡ true → Completes limit long (skipping p) us args → Took
      unfolding Took
      blank_unfed b c = go (taken_by k.taken)
        where
          k : Taking limit long p.finished p.counted [] p.later us args
          k = taking limit long p.finished p.counted [] p.later us args c

          more : Taken [] (t ∷ k.front) k.argument k.count → Took
          more w = taking_back limit long p.finished p.counted [] p.later (t ∷ us) args (record { front = t ∷ k.front; rest = k.rest; argument = k.argument; count = k.count; tokens = ap (λ (ws : List Token). t ∷ ws) k.tokens; taken = w; permitted = k.permitted; rests = k.rests })

          go : Single k.front k.argument k.count ⊎ Group k.front k.argument k.count → Took
          go (inl s) =
              more (subst (λ (n : ℕ). Taken [] (t ∷ k.front) k.argument n) (sym s.count)
              (subst (λ (a : List Token). Taken [] (t ∷ k.front) a 1) (sym s.argument)
              (subst (λ (ws : List Token). Taken [] (t ∷ ws) (s.token ∷ []) 1) (sym s.tokens)
              (single (t ∷ s.blanks) s.token (and_from (is_blank t) (all_blank s.blanks) b s.blank) s.not_blank s.not_open s.not_close))))
          go (inr g) =
              more (subst (λ (n : ℕ). Taken [] (t ∷ k.front) k.argument n) (sym g.count)
              (subst (λ (ws : List Token). Taken [] (t ∷ ws) k.argument (length k.argument + 2)) (sym g.tokens)
              (group (t ∷ g.blanks) g.left k.argument g.right (and_from (is_blank t) (all_blank g.blanks) b g.blank) g.opens g.balanced g.closes)))

      open_unfed : is_open t ≡ true → Grouping limit long p [] us args → Took
      unfolding Took
      open_unfed o g =
          taking_back limit long p.finished p.counted [] p.later (t ∷ us) args (record {
            front = t ∷ (g.inner ++ g.right ∷ []);
            rest = g.rest;
            argument = g.inner;
            count = length g.inner + 2;
            tokens = ap (λ (ws : List Token). t ∷ ws) (g.tokens ∙ sym (one_more_lem g.inner g.right g.rest));
            taken = group [] t g.inner g.right refl o g.balanced g.closes;
            permitted = g.permitted;
            rests = g.rests;
          })

      other_unfed : is_blank t ≡ false → is_open t ≡ false → is_close t ≡ false → Permitted long (t ∷ []) → p.counted + 1 + fewest p.later ≤ limit → Comes limit long (ended p (t ∷ []) 1) us args → Took
      unfolding Took
      other_unfed b o c ok fits k =
          taking_back limit long p.finished p.counted [] p.later (t ∷ us) args (record {
            front = t ∷ [];
            rest = us;
            argument = t ∷ [];
            count = 1;
            tokens = refl;
            taken = single [] t refl b o c;
            permitted = ok;
            rests = next_comes limit long (p.finished ++ (t ∷ []) ∷ []) (p.counted + 1) p.later us args fits k;
          })

      pub skipping_unfed : Comes limit long (feed_within limit long (skipping p) t) us args → Completes limit long (skipping p) (t ∷ us) args
      unfolding Took
      skipping_unfed =
          cond_both (is_blank t) _ _ To (λ b c. blank_unfed b c)
          (λ b. cond_both (is_close t) _ _ To (λ _ c. absurd c)
          (λ s. cond_both (is_open t) _ _ To
          (λ o. allowed_both limit long p [] 2 (on (in_group p [])) To (λ c. absurd c) (λ c. absurd c) (λ _ _ c. open_unfed o c))
          (λ o. allowed_both limit long p (t ∷ []) 1 (ended p (t ∷ []) 1) To (λ c. absurd c) (λ c. absurd c) (λ ok f c. other_unfed b o s ok f c))))
        where
          To : Step → Type 0
          To s = Comes limit long s us args → Took

      pub skipping_kept : Valid limit long (skipping p) → ValidStep limit long (feed_within limit long (skipping p) t)
      skipping_kept v =
          cond_both (is_blank t) _ _ (ValidStep limit long) (λ _. v)
          (λ b. cond_both (is_close t) _ _ (ValidStep limit long) (λ _. tt)
          (λ s. cond_both (is_open t) _ _ (ValidStep limit long)
          (λ o. allowed_both limit long p [] 2 (on (in_group p [])) (ValidStep limit long) tt tt (λ ok f. record { plain = v.0; depth = 0; deep = refl; permitted = ok; fits = omega arith }))
          (λ o. allowed_both limit long p (t ∷ []) 1 (ended p (t ∷ []) 1) (ValidStep limit long) tt tt (λ ok f. following_valid limit long (p.finished ++ (t ∷ []) ∷ []) (p.counted + 1) p.later v.0 f))))
