-- Assignments.
--   scope_of                      the scope of an assignment
--   name_feed                     blanks are skipped, and a name is taken, if one is there
--   named                         the name is taken, else 31
--   recorded_as                   an assignment to a name or code is recorded in the book, or refused by it
--   defining, letting, recoding   the three kinds of assignment, behind the token that begins them
--   let_feed                      spaces, one = and one space are passed, and a token is taken
--   subject_feed                  \catcode's quote and the token behind it
--   byte_of                       the code that this token stands for: a character's, an active one's, that of a name of one byte
--   number_feed                   an optional = and digits up to 15, with the token behind them
use Rattle.std.specs.Prelude.{ℕ, ◌+◌, ◌*◌, Bool, true, false, cond, ◌||◌, List, [], ◌∷◌, Some, None, Ok, Err, Option, Result, nat_le, nat_lt}
use Rattle.tokens.specs.declared.token.Token.{Token}
use Rattle.tokens.specs.declared.token.Token.TheVariants.{Name, Character}
use Rattle.matching.specs.Matching.{Move, on, out}
use Rattle.tokens.specs.declared.category.Category.{Category}
use Rattle.tokens.specs.Categories.{category_of}
use Rattle.tokens.specs.declared.answer.Scope.{Scope}
use Rattle.tokens.specs.declared.answer.Scope.TheVariants as scope
use Rattle.tokens.specs.declared.answer.Entry.{Entry}
use Rattle.tokens.specs.declared.answer.Entry.TheVariants as entry
use Rattle.tokens.specs.declared.answer.Answer.TheVariants.{Assigned}
use Rattle.names.specs.Naming.{Spellings, spelling_in}
use Rattle.sources.specs.declared.fault.PileRefusal.TheVariants.{NoRoom}
use Rattle.piles.specs.Inserting as piles
use Rattle.piles.specs.Inserting.{Put, put_back}
use Rattle.matching.specs.Braces.{is_blank}
use Rattle.book.specs.declared.fault.BookFault.{BookFault}
use Rattle.book.specs.declared.fault.BookFault.TheVariants.{DefinitionTooLong}
use Rattle.book.specs.Books.{BookState, name_answer, after_name, code_answer, after_code, define_answer, after_define}
use Rattle.driving.specs.Drives.{drive}
use Rattle.rules.specs.declared.refusal.GulletRefusal.TheVariants.{BadDefinition, BadCatcode}
use Rattle.driving.specs.declared.status.Status.TheVariants.{Normal, Defining}
use Rattle.rules.specs.declared.phases.Letting.{Letting}
use Rattle.rules.specs.declared.phases.Letting.TheVariants.{BeforeEquals, BehindEquals, BehindSpace}
use Rattle.rules.specs.declared.phases.Subject.{Subject}
use Rattle.rules.specs.declared.phases.Subject.TheVariants.{BeforeQuote, BehindQuote}
use Rattle.rules.specs.declared.phases.Number.{Number}
use Rattle.rules.specs.declared.phases.Number.TheVariants.{BeforeNumber, BeforeDigit, InDigits}
use Rattle.rules.specs.declared.phases.Assignment.{Assignment}
use Rattle.rules.specs.declared.phases.Assignment.TheVariants.{Define, Let, Catcode}
use Rattle.rules.specs.Refusals.{book, gullet, pile}
use Rattle.rules.specs.Readers.{Position, Reader, put}
use Rattle.rules.specs.States.{State, state, Stepped, ends, refuse, finished, ahead, meanings_of}
use Rattle.rules.specs.Tokens.{Meanings, meaning, is_space, is_equals, is_quote, digit_of}
use Rattle.rules.specs.Defining.{Defined, defines, broken, too_long, in_text, definition_feed}

abbrev pub scope_of : Bool → Scope
scope_of true = scope.Global
scope_of false = scope.Local

-- the book after an assignment, by its answer; no task is pending behind one, and where it is refused the tokens read are lost, also one
-- that was to be put back
abbrev pub recorded_as : State → Reader → Position → Scope → Entry → BookState → Result (Unit {0}) BookFault → Stepped
recorded_as s r back sc e b (Ok _) = ends r (Assigned sc e) (state back b s.conditionals [])
recorded_as s r back sc e b (Err f) = refuse s r Normal (book f)

-- the name behind \def, \gdef and \let
abbrev pub name_feed : Unit {0} → Token → Move (Unit {0}) (Option ℕ)
name_feed u (Name n) = out (Some n)
name_feed u (Character c x) = cond (is_blank (Character c x)) (on tt) (out None)

abbrev pub named_by : State → (ℕ → Reader → Stepped) → Option ℕ → Reader → Stepped
named_by s more None r = refuse s r Normal (gullet BadDefinition)
named_by s more (Some n) r = more n r

abbrev pub named : State → Reader → (ℕ → Reader → Stepped) → Stepped
named s r more = finished s Normal (drive name_feed (on tt) r (ahead s r)) (named_by s more)

-- \def and \gdef
abbrev pub defined_as : State → ℕ → Scope → Bool → Defined → Reader → Stepped
defined_as s n sc long (defines ps bs) r = recorded_as s r r.stands sc (entry.Name n) (after_define sc n long ps bs s.book) (define_answer sc n long ps bs s.book)
defined_as s n sc long broken r = refuse s r Defining (gullet BadDefinition)
defined_as s n sc long too_long r = refuse s r Defining (book DefinitionTooLong)

abbrev pub defining : State → Reader → Scope → Bool → Stepped
defining s r sc long =
    named s r (λ n q. finished s Defining (drive (definition_feed (meanings_of s.book)) (on (in_text [] 0)) q (ahead s q)) (defined_as s n sc long))

-- \let
abbrev pub let_feed : Meanings → Letting → Token → Move Letting Token
let_feed f BeforeEquals t = cond (is_space f t) (on BeforeEquals) (cond (is_equals t) (on BehindEquals) (out t))
let_feed f BehindEquals t = cond (is_space f t) (on BehindSpace) (out t)
let_feed f BehindSpace t = out t

abbrev pub let_as : State → ℕ → Scope → Token → Reader → Stepped
let_as s n sc t r =
    recorded_as s r r.stands sc (entry.Name n) (after_name sc n (meaning (meanings_of s.book) t) s.book) (name_answer sc n (meaning (meanings_of s.book) t) s.book)

abbrev pub letting : State → Reader → Scope → Stepped
letting s r sc = named s r (λ n q. finished s Normal (drive (let_feed (meanings_of s.book)) (on BeforeEquals) q (ahead s q)) (let_as s n sc))

-- \catcode
abbrev pub subject_feed : Subject → Token → Move Subject (Option Token)
subject_feed BeforeQuote t = cond (is_quote t) (on BehindQuote) (out None)
subject_feed BehindQuote t = out (Some t)

abbrev pub one_byte : Option (List ℕ) → Option ℕ
one_byte None = None
one_byte (Some []) = None
one_byte (Some (b ∷ [])) = Some b
one_byte (Some (b ∷ (c ∷ bs))) = None

abbrev pub byte_of : Spellings → Token → Option ℕ
byte_of ns (Character c x) = Some x
byte_of ns (Name n) = cond (nat_lt n 256) (Some n) (one_byte (spelling_in ns n))

abbrev pub one_digit : ℕ → ℕ → Move Number (Option (ℕ × Token))
one_digit v d = cond (nat_le (v * 10 + d) 15) (on (InDigits (v * 10 + d))) (out None)

abbrev pub first_digit : Option ℕ → Move Number (Option (ℕ × Token))
first_digit None = out None
first_digit (Some d) = one_digit 0 d

abbrev pub next_digit : ℕ → Token → Option ℕ → Move Number (Option (ℕ × Token))
next_digit v t None = out (Some (v, t))
next_digit v t (Some d) = one_digit v d

abbrev pub number_feed : Number → Token → Move Number (Option (ℕ × Token))
number_feed BeforeNumber t = cond (is_equals t) (on BeforeDigit) (first_digit (digit_of t))
number_feed BeforeDigit t = first_digit (digit_of t)
number_feed (InDigits v) t = next_digit v t (digit_of t)

abbrev pub recoded_as : State → ℕ → Scope → Reader → Position → Option Category → Stepped
recoded_as s x sc r back None = refuse s r Normal (gullet BadCatcode)
recoded_as s x sc r back (Some c) = recorded_as s r back sc (entry.Code x c) (after_code sc x c s.book) (code_answer sc x c s.book)

-- the token behind the digits is put back
abbrev pub recoded_over : State → ℕ → Scope → ℕ → Reader → Put → Stepped
recoded_over s x sc v r (piles.put held) = recoded_as s x sc r (put r.stands held) (category_of v)
recoded_over s x sc v r (piles.refused e) = refuse s r Normal (pile NoRoom)

abbrev pub recoded_by : State → ℕ → Scope → Option (ℕ × Token) → Reader → Stepped
recoded_by s x sc None r = refuse s r Normal (gullet BadCatcode)
recoded_by s x sc (Some n) r =
    cond (is_space (meanings_of s.book) n.1) (recoded_as s x sc r r.stands (category_of n.0))
    (recoded_over s x sc n.0 r (put_back (n.1 ∷ []) r.stands.held))

abbrev pub recoding_of : State → Scope → Reader → Option ℕ → Stepped
recoding_of s sc r None = refuse s r Normal (gullet BadCatcode)
recoding_of s sc r (Some x) = finished s Normal (drive number_feed (on BeforeNumber) r (ahead s r)) (recoded_by s x sc)

abbrev pub recoding_by : State → Scope → Option Token → Reader → Stepped
recoding_by s sc None r = refuse s r Normal (gullet BadCatcode)
recoding_by s sc (Some t) r = recoding_of s sc r (byte_of r.stands.names t)

abbrev pub recoding : State → Reader → Scope → Stepped
recoding s r sc = finished s Normal (drive subject_feed (on BeforeQuote) r (ahead s r)) (recoding_by s sc)

-- an assignment under prefixes; \long is lawful before \def and \gdef only, which is tested before
abbrev pub assign : State → Reader → Bool → Bool → Assignment → Stepped
assign s r g long (Define h) = defining s r (scope_of (g || h)) long
assign s r g long Let = letting s r (scope_of g)
assign s r g long Catcode = recoding s r (scope_of g)
