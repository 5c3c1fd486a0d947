-- The steps of a call at related tokens are the same.
--   following_same, ended_same, awaiting_same  the next parameter begins; an argument is finished; the text before is awaited
--   begin_same        the start of a call
--   allowed_same      a step, unless it is refused
--   skipped_same, grouped_same, ran_same  before an undelimited argument; in its group; in a delimited argument
--   fed_within, fed   the step at a token, under any limit; under that of a call
use Rattle.std.proofs.Common.{◌≡◌, ℕ, ◌+◌, Bool, not, ◌&&◌, leb, List, [], ◌∷◌, ◌++◌, length, Some, None, Option, refl, ap}
use Rattle.tokens.specs.declared.token.Token.{Token}
use Rattle.matching.specs.Braces.{has_par, deeper}
use Rattle.matching.specs.Dividing.{Parameters, most, stripped}
use Rattle.matching.specs.Matching.{Progress, Phase, Step, following, ended, awaiting, begin, fewest, allowed, settled, skipped, grouped, ran, feed_within, feed}
use Rattle.alike.specs.Same.{Each, no_more, and}
use Rattle.alike.proofs.CallsEach.{cond_alike, each_length, each_end}
use Rattle.alike.proofs.CallsSame.{Respectful, same_on, same_out, SameMove, SameProgress, SamePhase, same_text, same_skipping, same_group, same_run, SameOutcome, same_matched, same_refused, SameStep, SameParameters}
use Rattle.alike.proofs.CallsTokens.{has_par_same, deeper_same, stripped_same, settled_same, is_complete_same, fewest_same}

module _ {R : Token → Token → Type 0} where
  pub following_same : {args others ds es : List (List Token)} {m n : ℕ} → Each (Each R) args others → m ≡ n → Each (Each R) ds es
      → SameStep R (following args m ds) (following others n es)
  following_same a c no_more = same_out (same_matched a)
  following_same a c (and no_more p) = same_on (same_skipping (record { finished = a; counted = c; later = p }))
  following_same a c (and (and r d) p) = same_on (same_run (record { finished = a; counted = c; later = p }) (and r d) no_more)

  pub ended_same : {p q : Progress} {a b : List Token} {m n : ℕ} → SameProgress R p q → Each R a b → m ≡ n → SameStep R (ended p a m) (ended q b n)
  ended_same h a c = following_same (each_end h.finished a) (cc (h.counted, c)) h.later

  pub awaiting_same : {xs ys : List Token} {ds es : List (List Token)} → Each R xs ys → Each (Each R) ds es → SameStep R (awaiting xs ds) (awaiting ys es)
  awaiting_same no_more d = following_same no_more refl d
  awaiting_same (and r p) d = same_on (same_text r p d)

  pub begin_same : {p q : Parameters} → SameParameters R p q → SameStep R (begin p) (begin q)
  begin_same h = awaiting_same h.before h.delimiters

module _ {R : Token → Token → Type 0} (k : Respectful R) (limit : ℕ) (long : Bool) where
  par_same : {a b : List Token} → Each R a b → (not long && has_par a) ≡ (not long && has_par b)
  par_same p = ap (λ (b : Bool). not long && b) (has_par_same k p)

  fits_same : {p q : Progress} {m n : ℕ} → SameProgress R p q → m ≡ n
      → leb (p.counted + m + fewest p.later) limit ≡ leb (q.counted + n + fewest q.later) limit
  fits_same h e = cc (h.counted, e, fewest_same k h.later)

  pub allowed_same : {p q : Progress} {a b : List Token} {m n : ℕ} {s z : Step} → SameProgress R p q → Each R a b → m ≡ n → SameStep R s z
      → SameStep R (allowed limit long p a m s) (allowed limit long q b n z)
  allowed_same h a e s = cond_alike (SameStep R) (par_same a) (same_out same_refused) (cond_alike (SameStep R) (fits_same h e) s (same_out same_refused))

  pub skipped_same : {p q : Progress} {t u : Token} → SameProgress R p q → R t u → SameStep R (skipped limit long p t) (skipped limit long q u)
  skipped_same h r =
      cond_alike (SameStep R) (k.blank r) (same_on (same_skipping h))
      (cond_alike (SameStep R) (k.closes r) (same_out same_refused)
      (cond_alike (SameStep R) (k.opens r) (allowed_same h no_more refl (same_on (same_group h no_more)))
      (allowed_same h (and r no_more) refl (ended_same h (and r no_more) refl))))

  pub grouped_same : {p q : Progress} {xs ys vs ws : List Token} (o : Option ℕ) → SameProgress R p q → Each R xs ys → Each R vs ws
      → SameStep R (grouped limit long p xs vs o) (grouped limit long q ys ws o)
  grouped_same None h x v = ended_same h x (ap (λ (n : ℕ). n + 2) (each_length x))
  grouped_same (Some m) h x v = allowed_same h v (ap (λ (n : ℕ). n + 2 + m) (each_length v)) (same_on (same_group h v))

  complete_same : {p q : Progress} {d e xs ys : List Token} → SameProgress R p q → Each R d e → Each R xs ys
      → SameStep R (ended p (stripped (settled d xs)) (length (settled d xs))) (ended q (stripped (settled e ys)) (length (settled e ys)))
  complete_same h d x = ended_same h (stripped_same k (settled_same k d x)) (each_length (settled_same k d x))

  pub ran_same : {p q : Progress} {d e xs ys : List Token} (o : Option ℕ) → SameProgress R p q → Each R d e → Each R xs ys
      → SameStep R (ran limit long p d xs o) (ran limit long q e ys o)
  ran_same None h d x = same_out same_refused
  ran_same (Some m) h d x =
      allowed_same h (settled_same k d x) (ap (λ (n : ℕ). n + m) (each_length (settled_same k d x)))
      (cond_alike (SameStep R) (is_complete_same k d x) (complete_same h d x) (same_on (same_run h d x)))

  pub fed_within : {h j : Phase} {t u : Token} → SamePhase R h j → R t u → SameStep R (feed_within limit long h t) (feed_within limit long j u)
  fed_within (same_text s xs ds) r = cond_alike (SameStep R) (k.same s r) (awaiting_same xs ds) (same_out same_refused)
  fed_within (same_skipping h) r = skipped_same h r
  fed_within {u = u} (same_group {ys = ys} h x) r =
      rw (deeper_same k 0 (each_end x r)) (grouped_same (deeper 0 (ys ++ u ∷ [])) h x (each_end x r))
  fed_within {u = u} (same_run {e = e} {ys = ys} h d x) r =
      rw (deeper_same k 0 (settled_same k d (each_end x r))) (ran_same (deeper 0 (settled e (ys ++ u ∷ []))) h d (each_end x r))

pub fed : {R : Token → Token → Type 0} → Respectful R → (long : Bool) {h j : Phase} {t u : Token} → SamePhase R h j → R t u
    → SameMove (SamePhase R) (SameOutcome R) (feed long h t) (feed long j u)
fed k long h r = fed_within k most long h r
