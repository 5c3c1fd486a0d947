-- A token read in a delimited argument.
use Rattle.std.proofs.Common.{◌≡◌, ℕ, ◌+◌, ◌<◌, ◌≤◌, Bool, true, false, not, ◌&&◌, ◌⊎◌, List, [], ◌∷◌, ◌++◌, length, Some, None, Option, sym, refl, ap, ◌∙◌, subst, inl, inr, arith}
use Rattle.std.proofs.lemmas.List.{append_assoc, append-nil, append_cancel_right, length-append, nil_from_length}
use Rattle.std.proofs.lemmas.Bool.{both_ways, cond_both, cases_lt, eqb-true, eq-eqb}
use Rattle.tokens.specs.declared.token.Token.{Token}
use Rattle.matching.specs.Braces.{deeper, Balanced}
use Rattle.matching.specs.Dividing.{stripped, First, Permitted}
use Rattle.matching.specs.Matching.{on, Progress, in_run, Step, ended, fewest, settled, is_complete, ran, feed_within}
use Rattle.matching.proofs.Splits.{overlap, inside, one_more_lem}
use Rattle.matching.proofs.Depths.{Front, stripped_par, permitted_front, balanced_room, front_depth}
use Rattle.matching.proofs.Settling.{Parted, parted, least}
use Rattle.matching.proofs.Resting.{Rest, Running, Completes, Comes, rest_fits, comes_next, next_comes}
use Rattle.matching.proofs.Valid.{Unfinished, ValidRun, ValidStep, following_valid, allowed_on, allowed_both}

pub permitted_whole : (long : Bool) (run : List Token) → Permitted long (stripped run) → Permitted long run
permitted_whole long run h = ap (λ (b : Bool). not long && b) (sym (stripped_par run)) ∙ h

pub permitted_stripped : (long : Bool) (run : List Token) → Permitted long run → Permitted long (stripped run)
permitted_stripped long run h = ap (λ (b : Bool). not long && b) (stripped_par run) ∙ h

-- the settled part of tokens is in every run that goes on from them
module _ (d u m run : List Token) (e : u ++ m ≡ run ++ d) (b : Balanced run) where
  settled_short : length (settled d u) ≤ length run
  settled_short = go (cases_lt (length run) (length u))
    where
      part : Parted d u (settled d u)
      part = parted d u

      go : (length run < length u) ⊎ (length u ≤ length run) → length (settled d u) ≤ length run
      go (inl l) =
          let o = overlap run d u m (sym e) (omega arith) in
          least d u run o.0 (sym o.1) b (m, o.2)
      go (inr l) = omega (arith, length-append (settled d u) part.0, ap length part.1)

  pub settled_in : (w : List Token) × (run ≡ settled d u ++ w)
  settled_in =
      let part = parted d u in
      let f : settled d u ++ (part.0 ++ m) ≡ run ++ d = sym (append_assoc (settled d u) part.0 m) ∙ ap (λ (k : List Token). k ++ m) part.1 ∙ e in
      let o = overlap (settled d u) (part.0 ++ m) run d f settled_short in
      (o.0, o.1)

-- the delimiter is complete
pub complete : (d u : List Token) → 0 < length d → is_complete d u ≡ true → (u ≡ settled d u ++ d) × Balanced (settled d u)
complete d u some h = go part.2
  where
    part : Parted d u (settled d u)
    part = parted d u

    long : length part.0 ≡ length d
    long = omega (arith, eqb-true (length u) (length (settled d u) + length d) h, length-append (settled d u) part.0, ap length part.1)

    go : (part.0 ≡ []) ⊎ (Balanced (settled d u) × Front part.0 d) → (u ≡ settled d u ++ d) × Balanced (settled d u)
    go (inl e) = absurd (omega (arith, ap length e, long))
    go (inr i) =
        let rest : List Token = i.1.0 in
        let f : d ≡ part.0 ++ rest = i.1.1 in
        let none : rest ≡ [] = nil_from_length rest (omega (arith, long, ap length f, length-append part.0 rest)) in
        let same : d ≡ part.0 = f ∙ ap (λ (k : List Token). part.0 ++ k) none ∙ append-nil part.0 in
        (sym part.1 ∙ ap (λ (k : List Token). settled d u ++ k) (sym same), i.0)

pub complete_since : (d u r : List Token) → 0 < length d → u ≡ r ++ d → Balanced r → is_complete d u ≡ true
complete_since d u r some e b =
    eq-eqb (length u) (length (settled d u) + length d) (go part.2)
  where
    part : Parted d u (settled d u)
    part = parted d u

    low : length (settled d u) ≤ length r
    low = least d u r d (sym e) b ([], sym (append-nil d))

    go : (part.0 ≡ []) ⊎ (Balanced (settled d u) × Front part.0 d) → length u ≡ length (settled d u) + length d
    go (inl n) = absurd (omega (arith, low, ap length n, ap length e, length-append r d, ap length part.1, length-append (settled d u) part.0))
    go (inr i) =
        omega (arith, low, ap length i.1.1, length-append part.0 i.1.0, ap length e, length-append r d, ap length part.1, length-append (settled d u) part.0)

pub grown : (limit : ℕ) (long : Bool) (p : Progress) (d u : List Token) (t : Token) (us : List Token) (args : List (List Token)) → Running limit long p d (u ++ t ∷ []) us args → Running limit long p d u (t ∷ us) args
grown limit long p d u t us args c =
    record {
      run = c.run;
      more = t ∷ c.more;
      rest = c.rest;
      tokens = ap (λ (ws : List Token). t ∷ ws) c.tokens;
      joined = sym (one_more_lem u t c.more) ∙ c.joined;
      balanced = c.balanced;
      first = c.first;
      permitted = c.permitted;
      rests = c.rests;
    }

module _ (limit : ℕ) (long : Bool) (p : Progress) (d u : List Token) (t : Token) (us : List Token) (args : List (List Token)) (v : ValidRun limit long p d u) where
  Behind : Step → Type 0
  Behind s = Comes limit long s us args

  -- ---- what followed follows

  module _ (run m rest : List Token) (tokens : us ≡ m ++ rest) (joined : (u ++ t ∷ []) ++ m ≡ run ++ d) (b : Balanced run) (first : First d run) (ok : Permitted long (stripped run)) (r : Rest limit long (p.finished ++ stripped run ∷ []) (p.counted + length run) p.later rest args) where
    fed_complete : is_complete d (u ++ t ∷ []) ≡ true → Behind (ended p (stripped (settled d (u ++ t ∷ []))) (length (settled d (u ++ t ∷ []))))
    unfolding Behind
    fed_complete h =
        let s : List Token = settled d (u ++ t ∷ []) in
        let c = complete d (u ++ t ∷ []) v.some h in
        let e : run ++ d ≡ s ++ (d ++ m) = sym joined ∙ ap (λ (k : List Token). k ++ m) c.0 ∙ append_assoc s d m in
        let none : m ≡ [] = first s m e c.1 in
        let same : run ≡ s = append_cancel_right run s d (e ∙ ap (λ (k : List Token). s ++ (d ++ k)) none ∙ ap (λ (k : List Token). s ++ k) (append-nil d)) in
        let eu : rest ≡ us = sym (tokens ∙ ap (λ (k : List Token). k ++ rest) none) in
        let r' : Rest limit long (p.finished ++ stripped s ∷ []) (p.counted + length s) p.later rest args =
        subst (λ (k : List Token). Rest limit long (p.finished ++ stripped k ∷ []) (p.counted + length k) p.later rest args) same r in
        comes_next limit long (p.finished ++ stripped s ∷ []) (p.counted + length s) p.later us args (subst (λ (k : List Token). Rest limit long (p.finished ++ stripped s ∷ []) (p.counted + length s) p.later k args) eu r')

    fed_on : Behind (on (in_run p d (u ++ t ∷ [])))
    unfolding Behind
    fed_on = record { run = run; more = m; rest = rest; tokens = tokens; joined = joined; balanced = b; first = first; permitted = ok; rests = r }

    fed_by : (o : Option ℕ) → deeper 0 (settled d (u ++ t ∷ [])) ≡ o → Behind (ran limit long p d (u ++ t ∷ []) o)
    unfolding Behind
    fed_by None shut =
        let i = settled_in d (u ++ t ∷ []) m run joined b in
        absurd (front_depth (settled d (u ++ t ∷ [])) i.0 0 (subst Balanced i.1 b) shut)
    fed_by (Some n) deep =
        let s : List Token = settled d (u ++ t ∷ []) in
        let i = settled_in d (u ++ t ∷ []) m run joined b in
        let may : Permitted long s = permitted_front long s i.0 (subst (Permitted long) i.1 (permitted_whole long run ok)) in
        let room : n ≤ length i.0 = balanced_room s i.0 n deep (subst Balanced i.1 b) in
        let all : p.counted + length run + fewest p.later ≤ limit = rest_fits limit long _ _ _ rest args r in
        let fits : p.counted + (length s + n) + fewest p.later ≤ limit = omega (arith, ap length i.1, length-append s i.0) in
        subst Behind (sym (allowed_on limit long p s (length s + n) _ may fits))
        (cond_both (is_complete d (u ++ t ∷ [])) _ _ Behind fed_complete (λ _. fed_on))

  fed_more : (run more rest : List Token) → t ∷ us ≡ more ++ rest → u ++ more ≡ run ++ d → Balanced run → First d run → Permitted long (stripped run) → Rest limit long (p.finished ++ stripped run ∷ []) (p.counted + length run) p.later rest args → Behind (feed_within limit long (in_run p d u) t)
  unfolding Behind
  fed_more run [] rest tokens joined b first ok r =
      absurd (v.unfinished run [] (sym (append-nil u) ∙ joined ∙ ap (λ (k : List Token). run ++ k) (sym (append-nil d))) b)
  fed_more run (x ∷ m) rest tokens joined b first ok r =
      let et : t ≡ x = cc in
      let eu : us ≡ m ++ rest = cc in
      let j : (u ++ t ∷ []) ++ m ≡ run ++ d = one_more_lem u t m ∙ ap (λ (y : Token). u ++ y ∷ m) et ∙ joined in
      fed_by run m rest eu j b first ok r (deeper 0 (settled d (u ++ t ∷ []))) refl

  pub run_fed : Completes limit long (in_run p d u) (t ∷ us) args → Comes limit long (feed_within limit long (in_run p d u) t) us args
  unfolding Behind
  run_fed c = fed_more c.run c.more c.rest c.tokens c.joined c.balanced c.first c.permitted c.rests

  -- ---- what follows followed

  To : Step → Type 0
  To s = Comes limit long s us args → Running limit long p d u (t ∷ us) args

  unfed_complete : (n : ℕ) → Permitted long (settled d (u ++ t ∷ [])) → p.counted + (length (settled d (u ++ t ∷ [])) + n) + fewest p.later ≤ limit → is_complete d (u ++ t ∷ []) ≡ true → To (ended p (stripped (settled d (u ++ t ∷ []))) (length (settled d (u ++ t ∷ []))))
  unfolding To
  unfed_complete n ok fits h k =
      let s : List Token = settled d (u ++ t ∷ []) in
      let c = complete d (u ++ t ∷ []) v.some h in
      record {
        run = s;
        more = t ∷ [];
        rest = us;
        tokens = refl;
        joined = c.0;
        balanced = c.1;
        first = λ r rest e b. inside u t r d rest (c.0 ∙ e) (λ rest' e'. v.unfinished r rest' e' b);
        permitted = permitted_stripped long s ok;
        rests = next_comes limit long (p.finished ++ stripped s ∷ []) (p.counted + length s) p.later us args (omega arith) k;
      }

  unfed_on : To (on (in_run p d (u ++ t ∷ [])))
  unfolding To
  unfed_on c = grown limit long p d u t us args c

  unfed_by : (o : Option ℕ) → To (ran limit long p d (u ++ t ∷ []) o)
  unfolding To
  unfed_by None = λ c. absurd c
  unfed_by (Some n) =
      allowed_both limit long p (settled d (u ++ t ∷ [])) (length (settled d (u ++ t ∷ [])) + n) _ To (λ c. absurd c) (λ c. absurd c)
      (λ ok fits. cond_both (is_complete d (u ++ t ∷ [])) _ _ To (unfed_complete n ok fits) (λ _. unfed_on))

  pub run_unfed : Comes limit long (feed_within limit long (in_run p d u) t) us args → Completes limit long (in_run p d u) (t ∷ us) args
  unfolding To
  run_unfed c = unfed_by (deeper 0 (settled d (u ++ t ∷ []))) c

  -- ---- the phase behind is valid

  still_unfinished : is_complete d (u ++ t ∷ []) ≡ false → Unfinished d (u ++ t ∷ [])
  still_unfinished h r rest e b =
      let none : rest ≡ [] = inside u t r d rest e (λ rest' e'. v.unfinished r rest' e' b) in
      both_ways (is_complete d (u ++ t ∷ [])) h (complete_since d (u ++ t ∷ []) r v.some (e ∙ ap (λ (k : List Token). r ++ (d ++ k)) none ∙ ap (λ (k : List Token). r ++ k) (append-nil d)) b)

  kept_by : (o : Option ℕ) → deeper 0 (settled d (u ++ t ∷ [])) ≡ o → ValidStep limit long (ran limit long p d (u ++ t ∷ []) o)
  kept_by None shut = tt
  kept_by (Some n) deep =
      allowed_both limit long p (settled d (u ++ t ∷ [])) (length (settled d (u ++ t ∷ [])) + n) _ (ValidStep limit long) tt tt
      (λ ok fits. cond_both (is_complete d (u ++ t ∷ [])) _ _ (ValidStep limit long)
      (λ _. following_valid limit long (p.finished ++ stripped (settled d (u ++ t ∷ [])) ∷ []) (p.counted + length (settled d (u ++ t ∷ []))) p.later v.plain (omega arith))
      (λ h. record { plain = v.plain; opens = v.opens; some = v.some; unfinished = still_unfinished h; depth = n; deep = deep; permitted = ok; fits = fits }))

  pub run_kept : ValidStep limit long (feed_within limit long (in_run p d u) t)
  run_kept = kept_by (deeper 0 (settled d (u ++ t ∷ []))) refl
