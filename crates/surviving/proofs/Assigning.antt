-- What assignments do.
--   macro_given_lem, let_given_lem  what a list of tokens gives a name is what was read, for the name and then behind it
--   Gives     a meaning gives a name what the tokens behind it say
--   defined, let_as_lem, recoded  the book records an assignment, or refuses it
--   defines_name, lets_name, recodes  the three kinds of assignment
--   assigns   an assignment behind a token whose meaning gives so
use Rattle.std.proofs.Common.{◌≡◌, ℕ, ◌+◌, Bool, true, false, cond, ◌||◌, ltb, List, [], ◌∷◌, ◌++◌, length, Some, None, Err, Option, Result, sym, refl, ap, ◌∙◌, subst, append-nil}
use Rattle.tokens.specs.declared.category.Category.{Category}
use Rattle.tokens.specs.Categories.{category_of}
use Rattle.tokens.specs.declared.token.Token.{Token}
use Rattle.matching.specs.Matching.{on}
use Rattle.tokens.specs.declared.answer.Scope.{Scope}
use Rattle.tokens.specs.declared.answer.Entry.TheVariants as entry
use Rattle.tokens.specs.declared.stored.ParameterWord.{ParameterWord}
use Rattle.tokens.specs.declared.stored.BodyWord.{BodyWord}
use Rattle.piles.specs.Inserting as piles
use Rattle.piles.specs.Inserting.{Put, put_back}
use Rattle.tables.specs.Table.{Op, refused}
use Rattle.book.specs.declared.fault.BookFault.{BookFault}
use Rattle.book.specs.declared.fault.BookFault.TheVariants.{DefinitionTooLong, WordsFull, RecordsFull}
use Rattle.book.specs.Faults.{answered}
use Rattle.book.specs.Meanings.{Means, macro}
use Rattle.book.specs.Scopes.{operation}
use Rattle.book.specs.Books.{BookState, after, naming, coding, defining}
use Rattle.driving.specs.declared.status.Status.TheVariants.{Normal, Defining}
use Rattle.driving.specs.Drives.{drive}
use Rattle.rules.specs.declared.phases.Letting.TheVariants.{BeforeEquals}
use Rattle.rules.specs.declared.phases.Subject.TheVariants.{BeforeQuote}
use Rattle.rules.specs.declared.phases.Number.TheVariants.{BeforeNumber}
use Rattle.rules.specs.declared.phases.Assignment.{Assignment}
use Rattle.rules.specs.declared.phases.Assignment.TheVariants as assignment
use Rattle.rules.specs.Readers.{Position, Reader}
use Rattle.rules.specs.States.{State, finished, ahead, meanings_of}
use Rattle.rules.specs.Tokens.{Meanings, meaning, is_space}
use Rattle.rules.specs.Defining.{Defined, defines, broken, too_long, in_text, definition_feed}
use Rattle.rules.specs.Assigning as rule
use Rattle.rules.specs.Assigning.{recorded_as, name_feed, named_by, defined_as, let_feed, let_as, subject_feed, number_feed, byte_of, recoded_as, recoded_over, recoded_by, recoding_of, recoding_by, assign}
use Rattle.surviving.specs.Diaries.{list_stream, behind_name, macro_of, macro_given, token_meaning, let_given, is_long, given_by}
use Rattle.surviving.proofs.Reading.{Again, reading}
use Rattle.surviving.proofs.Leaving.{Named, given_in, Steps, Behind, onward, given_is}

macro_given_lem : (f : Meanings) (long : Bool) (n : ℕ) (ps : List ParameterWord) (bs : List BodyWord) (ts us : List Token)
    → Again name_feed (on tt) (Some n) ts → Again (definition_feed f) (on (in_text [] 0)) (defines ps bs) us
    → macro_given f long (ts ++ us) ≡ macro long ps bs
macro_given_lem f long n ps bs ts us h k =
    ap (λ d. let more : List Token = behind_name d in macro_of long (drive (definition_feed f) (on (in_text [] 0)) more (list_stream more))) (h us)
    ∙ ap (λ (vs : List Token). macro_of long (drive (definition_feed f) (on (in_text [] 0)) vs (list_stream vs))) (sym (append-nil us))
    ∙ ap (macro_of long) (k [])

let_given_lem : (f : Meanings) (n : ℕ) (t : Token) (ts us : List Token)
    → Again name_feed (on tt) (Some n) ts → Again (let_feed f) (on BeforeEquals) t us
    → let_given f (ts ++ us) ≡ meaning f t
let_given_lem f n t ts us h k =
    ap (λ d. let more : List Token = behind_name d in token_meaning f (drive (let_feed f) (on BeforeEquals) more (list_stream more))) (h us)
    ∙ ap (λ (vs : List Token). token_meaning f (drive (let_feed f) (on BeforeEquals) vs (list_stream vs))) (sym (append-nil us))
    ∙ ap (token_meaning f) (k [])

abbrev pub Gives : Meanings → Means → Assignment → Type 0
Gives f m (assignment.Define g) = (long : Bool) (more : List Token) → given_by f long more m ≡ macro_given f long more
Gives f m assignment.Let = (long : Bool) (more : List Token) → given_by f long more m ≡ let_given f more
Gives f m assignment.Catcode = Unit {0}

module _ (s : State) where
  abbrev Given : Reader → Means
  Given r = given_in (meanings_of s.book) s.tasks r.read

  -- the book records them or refuses

  defined : (r : Reader) (sc : Scope) (n : ℕ) (long : Bool) (ps : List ParameterWord) (bs : List BodyWord) → Given r ≡ macro long ps bs
      → Steps s (defined_as s n sc long (defines ps bs) r)
  defined r sc n long ps bs e =
      go (ltb 2048 (length ps + length bs)) (ltb 16384 (s.book.words + (length ps + length bs))) (refused 2048 s.book.names o) refl
    where
      o : Op Means
      o = operation sc n (macro long ps bs)

      answer : Bool → Bool → Bool → Result (Unit {0}) BookFault
      answer x y z = cond x (Err DefinitionTooLong) (cond y (Err WordsFull) (answered z RecordsFull))

      b : BookState
      b = defining (length ps + length bs) o s.book

      go : (x y z : Bool) → refused 2048 s.book.names o ≡ z
          → Steps s (recorded_as s r r.stands sc (entry.Name n) (after (answer x y z) s.book b) (answer x y z))
      go true y z h = (refl, refl)
      go false true z h = (refl, refl)
      go false false true h = (refl, refl)
      go false false false h =
          (subst (λ m. Named s.book b (operation sc n m)) (sym e) (record { allowed = h; names = refl; codes = refl; groups = refl }), refl)

  let_as_lem : (r : Reader) (sc : Scope) (n : ℕ) (t : Token) → Given r ≡ meaning (meanings_of s.book) t → Steps s (let_as s n sc t r)
  let_as_lem r sc n t e = go (refused 2048 s.book.names o) refl
    where
      o : Op Means
      o = operation sc n (meaning (meanings_of s.book) t)

      go : (z : Bool) → refused 2048 s.book.names o ≡ z
          → Steps s (recorded_as s r r.stands sc (entry.Name n) (after (answered z RecordsFull) s.book (naming o s.book)) (answered z RecordsFull))
      go true h = (refl, refl)
      go false h =
          (subst (λ m. Named s.book (naming o s.book) (operation sc n m)) (sym e) (record { allowed = h; names = refl; codes = refl; groups = refl }), refl)

  recoded : (r : Reader) (back : Position) (sc : Scope) (x : ℕ) (c : Option Category) → Steps s (recoded_as s x sc r back c)
  recoded r back sc x None = (refl, refl)
  recoded r back sc x (Some c) = go (refused 2048 s.book.codes o) refl
    where
      o : Op Category
      o = operation sc x c

      go : (z : Bool) → refused 2048 s.book.codes o ≡ z
          → Steps s (recorded_as s r back sc (entry.Code x c) (after (answered z RecordsFull) s.book (coding o s.book)) (answered z RecordsFull))
      go true h = (refl, refl)
      go false h = (record { allowed = h; names = refl; codes = refl; groups = refl }, refl)

  -- the tokens of each are read

  module _ {m : Means} {r : Reader} (h : Behind s m [] r) where
    defines_name : (sc : Scope) (long : Bool) → is_long s.tasks ≡ long → (global : Bool) → Gives (meanings_of s.book) m (assignment.Define global)
        → Steps s (rule.defining s r sc long)
    defines_name sc long l global gives =
        reading s Normal name_feed (named_by s (λ n q. finished s Defining (drive (definition_feed f) (on (in_text [] 0)) q (ahead s q)) (defined_as s n sc long)))
        (Steps s) (λ q c. (refl, refl)) (on tt) r name
      where
        f : Meanings
        f = meanings_of s.book

        text : (n : ℕ) (ts : List Token) → Again name_feed (on tt) (Some n) ts → (q : Reader) → Behind s m ts q
            → (o : Defined) (p : Reader) (us : List Token) → p.read ≡ q.read ++ us → Again (definition_feed f) (on (in_text [] 0)) o us
            → Steps s (defined_as s n sc long o p)
        text n ts a q j (defines ps bs) p us e b =
            defined p sc n long ps bs
            (given_is (onward j p us e) ∙ gives (is_long s.tasks) (ts ++ us)
            ∙ ap (λ (l : Bool). macro_given f l (ts ++ us)) l ∙ macro_given_lem f long n ps bs ts us a b)
        text n ts a q j broken p us e b = (refl, refl)
        text n ts a q j too_long p us e b = (refl, refl)

        name : (o : Option ℕ) (q : Reader) (ts : List Token) → q.read ≡ r.read ++ ts → Again name_feed (on tt) o ts
            → Steps s (named_by s (λ n q. finished s Defining (drive (definition_feed f) (on (in_text [] 0)) q (ahead s q)) (defined_as s n sc long)) o q)
        name None q ts e a = (refl, refl)
        name (Some n) q ts e a =
            reading s Defining (definition_feed f) (defined_as s n sc long) (Steps s) (λ p c. (refl, refl)) (on (in_text [] 0)) q
            (text n ts a q (onward h q ts e))

    lets_name : (sc : Scope) → Gives (meanings_of s.book) m assignment.Let → Steps s (rule.letting s r sc)
    lets_name sc gives =
        reading s Normal name_feed (named_by s (λ n q. finished s Normal (drive (let_feed f) (on BeforeEquals) q (ahead s q)) (let_as s n sc)))
        (Steps s) (λ q c. (refl, refl)) (on tt) r name
      where
        f : Meanings
        f = meanings_of s.book

        name : (o : Option ℕ) (q : Reader) (ts : List Token) → q.read ≡ r.read ++ ts → Again name_feed (on tt) o ts
            → Steps s (named_by s (λ n q. finished s Normal (drive (let_feed f) (on BeforeEquals) q (ahead s q)) (let_as s n sc)) o q)
        name None q ts e a = (refl, refl)
        name (Some n) q ts e a =
            reading s Normal (let_feed f) (let_as s n sc) (Steps s) (λ p c. (refl, refl)) (on BeforeEquals) q
            (λ t p us i b. let_as_lem p sc n t (given_is (onward (onward h q ts e) p us i) ∙ gives (is_long s.tasks) (ts ++ us) ∙ let_given_lem f n t ts us a b))

  recodes : (r : Reader) (sc : Scope) → Steps s (rule.recoding s r sc)
  recodes r sc = reading s Normal subject_feed (recoding_by s sc) (Steps s) (λ q c. (refl, refl)) (on BeforeQuote) r (λ o q ts e a. subject o q)
    where
      over : (x v : ℕ) (q : Reader) (p : Put) → Steps s (recoded_over s x sc v q p)
      over x v q (piles.put held) = recoded q _ sc x (category_of v)
      over x v q (piles.refused e) = (refl, refl)

      number : (x : ℕ) (o : Option (ℕ × Token)) (q : Reader) → Steps s (recoded_by s x sc o q)
      number x None q = (refl, refl)
      number x (Some n) q = go (is_space (meanings_of s.book) n.1)
        where
          go : (b : Bool)
              → Steps s (cond b (recoded_as s x sc q q.stands (category_of n.0)) (recoded_over s x sc n.0 q (put_back (n.1 ∷ []) q.stands.held)))
          go true = recoded q q.stands sc x (category_of n.0)
          go false = over x n.0 q (put_back (n.1 ∷ []) q.stands.held)

      code : (q : Reader) (x : Option ℕ) → Steps s (recoding_of s sc q x)
      code q None = (refl, refl)
      code q (Some x) = reading s Normal number_feed (recoded_by s x sc) (Steps s) (λ p c. (refl, refl)) (on BeforeNumber) q (λ o p ts e a. number x o p)

      subject : (o : Option Token) (q : Reader) → Steps s (recoding_by s sc o q)
      subject None q = (refl, refl)
      subject (Some t) q = code q (byte_of q.stands.names t)

  pub assigns : {m : Means} {r : Reader} → Behind s m [] r → (global long : Bool) → is_long s.tasks ≡ long → (a : Assignment)
      → Gives (meanings_of s.book) m a → Steps s (assign s r global long a)
  assigns h global long l (assignment.Define g) gives = defines_name h (rule.scope_of (global || g)) long l g gives
  assigns h global long l assignment.Let gives = lets_name h (rule.scope_of global) gives
  assigns {r = r} h global long l assignment.Catcode gives = recodes r (rule.scope_of global)
