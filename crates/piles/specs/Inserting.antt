-- Putting tokens and words in front of what is put back already.
--   known, known_if   a token that may come from outside: a character, or a name whose number is taken
--   known_token       the token of a word, if it has one that may come from outside
--   tokens_of         the tokens of words, if each word has one (both_of: a first and the others)
--   Put               what comes of putting some: all that is put back then, or a refusal
--   put_back          putting tokens in front: at most 4,096 are put back at a time
--   insert            putting words in front: each is looked at first (insert_by: by their tokens)
--   put_answer        what is answered, at a place
--   held_after        what is put back after, as before where it was refused
--   first_bad         where the first word stands that has no such token, if the first of all has the place k (bad_by: by its token)
--   tokens_in         the tokens of those words that are tokens
use Rattle.std.specs.Prelude.{ℕ, ◌+◌, cond, List, [], ◌∷◌, ◌++◌, length, Some, None, Ok, Err, Option, Result, nat_le, nat_lt}
use Rattle.std.specs.Option.{option_to_list}
use Rattle.tokens.specs.declared.token.Token.{Token}
use Rattle.tokens.specs.declared.token.Token.TheVariants.{Name, Character}
use Rattle.tokens.specs.Words.{token_of}
use Rattle.names.specs.Naming.{Spellings, taken_in}
use Rattle.sources.specs.declared.fault.Place.{Place}
use Rattle.sources.specs.declared.fault.PileRefusal.{PileRefusal}
use Rattle.sources.specs.declared.fault.PileRefusal.TheVariants.{NoToken, PutBackFull}
use Rattle.sources.specs.declared.fault.PileFault.{PileFault}
use Rattle.sources.specs.declared.fault.PileFault.TheVariants.{Pile}

abbrev pub known : Spellings → Token → Option Token
known ns (Name n) = cond (nat_lt n (taken_in ns)) (Some (Name n)) None
known ns (Character c b) = Some (Character c b)

abbrev pub known_if : Spellings → Option Token → Option Token
known_if ns None = None
known_if ns (Some t) = known ns t

abbrev pub known_token : Spellings → ℕ → Option Token
known_token ns w = known_if ns (token_of w)

abbrev pub both_of : Option Token → Option (List Token) → Option (List Token)
both_of None o = None
both_of (Some t) None = None
both_of (Some t) (Some ts) = Some (t ∷ ts)

abbrev pub tokens_of : Spellings → List ℕ → Option (List Token)
tokens_of ns [] = Some []
tokens_of ns (w ∷ ws) = both_of (known_token ns w) (tokens_of ns ws)

pub data Put : Type 0 where
  put : List Token → Put
  refused : PileRefusal → Put

abbrev pub put_back : List Token → List Token → Put
put_back ts held = cond (nat_le (length ts + length held) 4096) (put (ts ++ held)) (refused PutBackFull)

abbrev pub insert_by : Option (List Token) → List Token → Put
insert_by None held = refused NoToken
insert_by (Some ts) held = put_back ts held

abbrev pub insert : Spellings → List ℕ → List Token → Put
insert ns ws held = insert_by (tokens_of ns ws) held

abbrev pub put_answer : Place → Put → Result Unit PileFault
put_answer p (put ts) = Ok tt
put_answer p (refused r) = Err (Pile r p)

abbrev pub held_after : List Token → Put → List Token
held_after held (put ts) = ts
held_after held (refused r) = held

-- the code's loops: one word at a time

abbrev pub bad_by : ℕ → Option Token → Option ℕ → Option ℕ
bad_by k None more = Some k
bad_by k (Some t) more = more

abbrev pub first_bad : ℕ → Spellings → List ℕ → Option ℕ
first_bad k ns [] = None
first_bad k ns (w ∷ ws) = bad_by k (known_token ns w) (first_bad (k + 1) ns ws)

abbrev pub tokens_in : List ℕ → List Token
tokens_in [] = []
tokens_in (w ∷ ws) = option_to_list (token_of w) ++ tokens_in ws
