-- A call's reading on two sides, over a relation on tokens.
--   Respectful       a relation that the tests of a call cannot look through: related tokens pass the same tests, and are the same as related ones
--   SameMove         two moves: on in related phases, or out with related outcomes
--   SameProgress, SamePhase, SameOutcome  what is read so far, where a call's reading is, what it comes to
--   SameStep         two steps of a call
--   SameParameters   the parameters of two parameter texts
--   progress_on, phase_on, outcome_on, move_on, step_on_lem, parameters_on  a weaker relation relates them too
use Rattle.std.proofs.Common.{◌≡◌, List}
use Rattle.tokens.specs.declared.token.Token.{Token}
use Rattle.matching.specs.declared.refusal.MatcherRefusal.{MatcherRefusal}
use Rattle.matching.specs.Braces.{is_open, is_close, is_blank, is_par, same_token}
use Rattle.matching.specs.Dividing.{Parameters}
use Rattle.matching.specs.Matching.{Move, on, out, Progress, Phase, text_before, skipping, in_group, in_run, Outcome, matched, refused, Step}
use Rattle.alike.specs.Same.{Each}
use Rattle.alike.proofs.CallsEach.{each_on, each_each_on}

pub record Respectful (R : Token → Token → Type 0) : Type 0 where
  pub opens : {t u : Token} → R t u → is_open t ≡ is_open u
  pub closes : {t u : Token} → R t u → is_close t ≡ is_close u
  pub blank : {t u : Token} → R t u → is_blank t ≡ is_blank u
  pub par : {t u : Token} → R t u → is_par t ≡ is_par u
  pub same : {t u v w : Token} → R t u → R v w → same_token t v ≡ same_token u w

pub data SameMove {P O : Type 0} (InPhase : P → P → Type 0) (InOutcome : O → O → Type 0) : Move P O → Move P O → Type 0 where
  same_on : {h k : P} → InPhase h k → SameMove InPhase InOutcome (on h) (on k)
  same_out : {x y : O} → InOutcome x y → SameMove InPhase InOutcome (out x) (out y)

pub record SameProgress (R : Token → Token → Type 0) (p q : Progress) : Type 0 where
  pub finished : Each (Each R) p.finished q.finished
  pub counted : p.counted ≡ q.counted
  pub later : Each (Each R) p.later q.later

pub data SamePhase (R : Token → Token → Type 0) : Phase → Phase → Type 0 where
  same_text : {x y : Token} {xs ys : List Token} {ds es : List (List Token)} → R x y → Each R xs ys → Each (Each R) ds es
      → SamePhase R (text_before x xs ds) (text_before y ys es)
  same_skipping : {p q : Progress} → SameProgress R p q → SamePhase R (skipping p) (skipping q)
  same_group : {p q : Progress} {xs ys : List Token} → SameProgress R p q → Each R xs ys → SamePhase R (in_group p xs) (in_group q ys)
  same_run : {p q : Progress} {d e xs ys : List Token} → SameProgress R p q → Each R d e → Each R xs ys → SamePhase R (in_run p d xs) (in_run q e ys)

pub data SameOutcome (R : Token → Token → Type 0) : Outcome → Outcome → Type 0 where
  same_matched : {xs ys : List (List Token)} → Each (Each R) xs ys → SameOutcome R (matched xs) (matched ys)
  same_refused : {e : MatcherRefusal} → SameOutcome R (refused e) (refused e)

abbrev pub SameStep : (Token → Token → Type 0) → Step → Step → Type 0
SameStep R = SameMove (SamePhase R) (SameOutcome R)

pub record SameParameters (R : Token → Token → Type 0) (p q : Parameters) : Type 0 where
  pub before : Each R p.before q.before
  pub delimiters : Each (Each R) p.delimiters q.delimiters

pub move_on : {P O : Type 0} {I J : P → P → Type 0} {K L : O → O → Type 0} → ((h k : P) → I h k → J h k) → ((x y : O) → K x y → L x y)
    → {m n : Move P O} → SameMove I K m n → SameMove J L m n
move_on f g (same_on {h = h} {k = k} r) = same_on (f h k r)
move_on f g (same_out {x = x} {y = y} r) = same_out (g x y r)

module _ {R Q : Token → Token → Type 0} (f : (t u : Token) → R t u → Q t u) where
  pub progress_on : {p q : Progress} → SameProgress R p q → SameProgress Q p q
  progress_on h = record { finished = each_each_on f h.finished; counted = h.counted; later = each_each_on f h.later }

  pub phase_on : {h k : Phase} → SamePhase R h k → SamePhase Q h k
  phase_on (same_text {x = x} {y = y} r xs ds) = same_text (f x y r) (each_on f xs) (each_each_on f ds)
  phase_on (same_skipping h) = same_skipping (progress_on h)
  phase_on (same_group h xs) = same_group (progress_on h) (each_on f xs)
  phase_on (same_run h d xs) = same_run (progress_on h) (each_on f d) (each_on f xs)

  pub outcome_on : {x y : Outcome} → SameOutcome R x y → SameOutcome Q x y
  outcome_on (same_matched xs) = same_matched (each_each_on f xs)
  outcome_on same_refused = same_refused

  pub step_on_lem : {s z : Step} → SameStep R s z → SameStep Q s z
  step_on_lem h = move_on (λ j k r. phase_on r) (λ x y r. outcome_on r) h

  pub parameters_on : {p q : Parameters} → SameParameters R p q → SameParameters Q p q
  parameters_on h = record { before = each_on f h.before; delimiters = each_each_on f h.delimiters }
