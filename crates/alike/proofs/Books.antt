-- Books that are the same as spelled: their answers are the same, but that one may have no words left.
--   SameBook     two books; how many words are used may differ
--   SameGiven    two answers to a definition or an assignment
use Rattle.std.proofs.Common.{◌≡◌, ℕ, ◌+◌, Bool, true, false, cond, ltb, List, length, Err, Result, ap, subst}
use Rattle.tokens.specs.declared.category.Category.{Category}
use Rattle.tokens.specs.declared.stored.ParameterWord.{ParameterWord}
use Rattle.tokens.specs.declared.stored.BodyWord.{BodyWord}
use Rattle.tokens.specs.declared.answer.GroupKind.{GroupKind}
use Rattle.tokens.specs.declared.answer.Scope.{Scope}
use Rattle.names.specs.Naming.{Spellings}
use Rattle.tables.specs.Table as table
use Rattle.tables.specs.Table.{opened, closed, step}
use Rattle.book.specs.declared.fault.BookFault.{BookFault}
use Rattle.book.specs.declared.fault.BookFault.TheVariants.{DefinitionTooLong, WordsFull, RecordsFull}
use Rattle.book.specs.Faults.{answered}
use Rattle.book.specs.Meanings.{Means, macro}
use Rattle.book.specs.Scopes.{operation, record_answer}
use Rattle.book.specs.Books.{BookState, open_answer, opening, close_answer, closing, naming, name_answer, coding, code_answer, if_room, define_answer, defining, without}
use Rattle.alike.specs.Same.{SameName, Each}
use Rattle.alike.specs.Laws.{SameParameterWord, SameBodyWord, SameMeaning, same_macro, SameTables}
use Rattle.alike.proofs.CallsEach.{each_length}
use Rattle.alike.proofs.Growing.{Both, Onward, tables_on}
use Rattle.alike.proofs.Tables.{same_opened_lem, same_closed_lem, same_refused, same_assigned_lem}

pub record SameBook (ms ns : Spellings) (a b : BookState) : Type 0 where
  pub names : SameTables ms ns a.names b.names
  pub codes : a.codes ≡ b.codes
  pub groups : a.groups ≡ b.groups

pub book_on : {ms ns os ps : Spellings} {a b : BookState} → Onward ms ns os ps → SameBook ms ns a b → SameBook os ps a b
book_on o r = record { names = tables_on o r.names; codes = r.codes; groups = r.groups }

pub data SameGiven : Result (Unit {0}) BookFault → Result (Unit {0}) BookFault → Type 0 where
  same_given : {x : Result (Unit {0}) BookFault} → SameGiven x x
  words_left : {y : Result (Unit {0}) BookFault} → SameGiven (Err WordsFull) y
  words_right : {x : Result (Unit {0}) BookFault} → SameGiven x (Err WordsFull)

pub as_given : {x y : Result (Unit {0}) BookFault} → x ≡ y → SameGiven x y
as_given {x} e = subst (λ (z : Result (Unit {0}) BookFault). SameGiven x z) e same_given

module _ {ms ns : Spellings} (w : Both ms ns) {a b : BookState} (r : SameBook ms ns a b) where
  pub same_open_answer : open_answer a ≡ open_answer b
  same_open_answer = rw r.groups

  pub same_opening : (k : GroupKind) → SameBook ms ns (opening k a) (opening k b)
  same_opening k = record { names = same_opened_lem w a.names b.names r.names; codes = ap opened r.codes; groups = rw r.groups }

  pub same_close_answer : (k : GroupKind) → close_answer k a ≡ close_answer k b
  same_close_answer k = rw r.groups

  pub same_closing : SameBook ms ns (closing a) (closing b)
  same_closing = record { names = same_closed_lem w a.names b.names r.names; codes = ap closed r.codes; groups = ap without r.groups }

  module _ (sc : Scope) {m n : ℕ} (k : SameName ms ns m n) where
    same_record_answer : (x y : Means) → record_answer a.names (operation sc m x) ≡ record_answer b.names (operation sc n y)
    same_record_answer x y = ap (λ (z : Bool). answered z RecordsFull) (same_refused w a.names b.names r.names k sc x y)

    pub same_name_answer : (x y : Means) → SameGiven (name_answer sc m x a) (name_answer sc n y b)
    same_name_answer x y = as_given (same_record_answer x y)

    pub same_naming : {x y : Means} → SameMeaning ms ns x y → SameBook ms ns (naming (operation sc m x) a) (naming (operation sc n y) b)
    same_naming v = record { names = same_assigned_lem w a.names b.names r.names k sc v; codes = r.codes; groups = r.groups }

    module _ (long : Bool) {ps qs : List ParameterWord} {bs cs : List BodyWord} (p : Each (SameParameterWord ms ns) ps qs) (c : Each (SameBodyWord ms ns) bs cs) where
      same_count : length ps + length bs ≡ length qs + length cs
      same_count = let x = each_length p in let y = each_length c in cc

      -- one number of words, and whether it passes the limits
      room : (x : Result (Unit {0}) BookFault) (big left right : Bool) → SameGiven (cond big (Err DefinitionTooLong) (cond left (Err WordsFull) x)) (cond big (Err DefinitionTooLong) (cond right (Err WordsFull) x))
      room x true left right = same_given
      room x false true right = words_left
      room x false false true = words_right
      room x false false false = same_given

      pub same_define_answer : SameGiven (define_answer sc m long ps bs a) (define_answer sc n long qs cs b)
      same_define_answer =
          subst (λ (x : Result (Unit {0}) BookFault). SameGiven (define_answer sc m long ps bs a) (if_room (length qs + length cs) b x)) (same_record_answer (macro long ps bs) (macro long qs cs))
          (subst (λ (l : ℕ). SameGiven (define_answer sc m long ps bs a) (if_room l b (name_answer sc m (macro long ps bs) a))) same_count
          (room (name_answer sc m (macro long ps bs) a) (ltb 2048 (length ps + length bs)) (ltb 16384 (a.words + (length ps + length bs))) (ltb 16384 (b.words + (length ps + length bs)))))

      pub same_defining : SameBook ms ns (defining (length ps + length bs) (operation sc m (macro long ps bs)) a) (defining (length qs + length cs) (operation sc n (macro long qs cs)) b)
      same_defining = record { names = same_assigned_lem w a.names b.names r.names k sc (same_macro p c); codes = r.codes; groups = r.groups }

  module _ (sc : Scope) (x : ℕ) (c : Category) where
    pub same_code_answer : code_answer sc x c a ≡ code_answer sc x c b
    same_code_answer = ap (λ (s : table.State Category). record_answer s (operation sc x c)) r.codes

    pub same_coding : SameBook ms ns (coding (operation sc x c) a) (coding (operation sc x c) b)
    same_coding = record { names = r.names; codes = ap (λ (s : table.State Category). step s (operation sc x c)) r.codes; groups = r.groups }
