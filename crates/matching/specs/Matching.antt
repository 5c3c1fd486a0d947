-- How a call's tokens are divided as they are read, one by one.
--   Move                    one step of what is read token by token: go on in a phase, or out with an outcome
--   Progress                the finished arguments in their order, how many tokens count for them, and the delimiters of the parameters behind the present one
--   Phase                   where a call's reading is. text_before: the next token of the text before the first parameter, what is left of that text, and the
--                           delimiters; skipping: at blanks before an undelimited argument; in_group: behind the brace of its group, with the tokens behind it;
--                           in_run: in a delimited argument, with its delimiter and all tokens read for both
--   Outcome                 the arguments, or a refusal
--   Step, refuse            a move of a call; the one that refuses
--   following               the next parameter begins, or all arguments are there
--   ended                   an argument is finished
--   awaiting                what is left of the text before is awaited, or the first parameter begins
--   begin                   the step at the start of a call
--   fewest                  how many tokens some parameters take at least: one for each that is undelimited
--   allowed                 a step, unless the tokens that are in the argument now, or how many count for it at least, are refused
--   settled                 the part of a delimited argument's tokens that is in the argument whatever follows: all, but for the longest end that
--                           begins the delimiter (or is it) outside braces; settled_from: the same, where some tokens are in it for certain
--   is_complete             whether the delimiter is that end
--   skipped, grouped, ran   the step at a token before an undelimited argument; in its group; in a delimited argument
--   feed, matching          the step at a token, the steps at many: `long` says whether the macro is long
--   feed_within, matching_within  the same under another limit than 4,096 tokens
--   Run                     what many steps come to: still on in a phase, or over with an outcome and the tokens that were not read
use Rattle.std.specs.Prelude.{ℕ, ◌+◌, Bool, cond, not, ◌&&◌, List, [], ◌∷◌, ◌++◌, length, Some, None, Option, ◌==◌, nat_le}
use Rattle.tokens.specs.declared.token.Token.{Token}
use Rattle.matching.specs.declared.refusal.MatcherRefusal.{MatcherRefusal}
use Rattle.matching.specs.declared.refusal.MatcherRefusal.TheVariants.{Differs, Unmatched, Par, TooLong}
use Rattle.matching.specs.Braces.{is_open, is_close, is_blank, same_token, is_front, has_par, deeper, is_balanced}
use Rattle.matching.specs.Dividing.{Parameters, stripped, most}

pub data Move (P O : Type 0) : Type 0 where
  on : P → Move P O
  out : O → Move P O

pub record Progress : Type 0 where
  pub finished : List (List Token)
  pub counted : ℕ
  pub later : List (List Token)

pub data Phase : Type 0 where
  text_before : Token → List Token → List (List Token) → Phase
  skipping : Progress → Phase
  in_group : Progress → List Token → Phase
  in_run : Progress → List Token → List Token → Phase

pub data Outcome : Type 0 where
  matched : List (List Token) → Outcome
  refused : MatcherRefusal → Outcome

abbrev pub Step : Type 0
Step = Move Phase Outcome

abbrev pub refuse : MatcherRefusal → Step
refuse r = out (refused r)

abbrev pub following : List (List Token) → ℕ → List (List Token) → Step
following args n [] = out (matched args)
following args n ([] ∷ ds) = on (skipping (record { finished = args; counted = n; later = ds }))
following args n ((x ∷ d) ∷ ds) = on (in_run (record { finished = args; counted = n; later = ds }) (x ∷ d) [])

abbrev pub ended : Progress → List Token → ℕ → Step
ended p a n = following (p.finished ++ a ∷ []) (p.counted + n) p.later

abbrev pub awaiting : List Token → List (List Token) → Step
awaiting [] ds = following [] 0 ds
awaiting (x ∷ xs) ds = on (text_before x xs ds)

abbrev pub begin : Parameters → Step
begin p = awaiting p.before p.delimiters

abbrev pub fewest : List (List Token) → ℕ
fewest [] = 0
fewest ([] ∷ ds) = 1 + fewest ds
fewest ((x ∷ d) ∷ ds) = fewest ds

abbrev pub allowed : ℕ → Bool → Progress → List Token → ℕ → Step → Step
allowed limit long p now least step =
    cond (not long && has_par now) (refuse Par)
    (cond (nat_le (p.counted + least + fewest p.later) limit) step (refuse TooLong))

abbrev pub settled_from : List Token → List Token → List Token → List Token
settled_from d r [] = r
settled_from d r (t ∷ e) = cond (is_balanced r && is_front (t ∷ e) d) r (settled_from d (r ++ t ∷ []) e)

abbrev pub settled : List Token → List Token → List Token
settled d run = settled_from d [] run

abbrev pub is_complete : List Token → List Token → Bool
is_complete d run = length run == length (settled d run) + length d

abbrev pub skipped : ℕ → Bool → Progress → Token → Step
skipped limit long p t =
    cond (is_blank t) (on (skipping p))
    (cond (is_close t) (refuse Unmatched)
    (cond (is_open t) (allowed limit long p [] 2 (on (in_group p [])))
    (allowed limit long p (t ∷ []) 1 (ended p (t ∷ []) 1))))

-- by the depth behind the last of the tokens: none, the group closes
abbrev pub grouped : ℕ → Bool → Progress → List Token → List Token → Option ℕ → Step
grouped limit long p inner more None = ended p inner (length inner + 2)
grouped limit long p inner more (Some n) = allowed limit long p more (length more + 2 + n) (on (in_group p more))

-- by the depth behind the settled tokens
abbrev pub ran : ℕ → Bool → Progress → List Token → List Token → Option ℕ → Step
ran limit long p d run None = refuse Unmatched
ran limit long p d run (Some n) =
    allowed limit long p (settled d run) (length (settled d run) + n)
    (cond (is_complete d run) (ended p (stripped (settled d run)) (length (settled d run))) (on (in_run p d run)))

abbrev pub feed_within : ℕ → Bool → Phase → Token → Step
feed_within limit long (text_before x xs ds) t = cond (same_token x t) (awaiting xs ds) (refuse Differs)
feed_within limit long (skipping p) t = skipped limit long p t
feed_within limit long (in_group p inner) t = grouped limit long p inner (inner ++ t ∷ []) (deeper 0 (inner ++ t ∷ []))
feed_within limit long (in_run p d run) t = ran limit long p d (run ++ t ∷ []) (deeper 0 (settled d (run ++ t ∷ [])))

pub data Run : Type 0 where
  still : Phase → Run
  over : Outcome → List Token → Run

abbrev pub matching_within : ℕ → Bool → Step → List Token → Run
matching_within limit long (out o) ts = over o ts
matching_within limit long (on h) [] = still h
matching_within limit long (on h) (t ∷ ts) = matching_within limit long (feed_within limit long h t) ts

abbrev pub feed : Bool → Phase → Token → Step
feed long h t = feed_within most long h t

abbrev pub matching : Bool → Step → List Token → Run
matching long s ts = matching_within most long s ts
