-- A definition is read alike on both sides.
--   SameDefinition   two places in the reading of a definition
--   SameDefined      two outcomes of it
use Rattle.std.proofs.Common.{◌≡◌, ℕ, zero, suc, ◌+◌, Bool, ◌&&◌, ltb, leb, List, length, Some, None, Option, ap, subst}
use Rattle.tokens.specs.declared.token.Token.{Token}
use Rattle.matching.specs.Matching.{Move}
use Rattle.tokens.specs.declared.stored.ParameterWord.{ParameterWord}
use Rattle.tokens.specs.declared.stored.BodyWord.{BodyWord}
use Rattle.names.specs.Naming.{Spellings}
use Rattle.tables.specs.Table as table
use Rattle.book.specs.Meanings.{Means}
use Rattle.rules.specs.Tokens.{is_hash, digit_of}
use Rattle.rules.specs.Defining.{Definition, in_text, hash_in_text, in_body, hash_in_body, Defined, defines, broken, too_long, room, one_more, closing, referring, definition_feed}
use Rattle.alike.specs.Same.{SameToken, Each, no_more}
use Rattle.alike.specs.Laws as law
use Rattle.alike.specs.Laws.{SameParameterWord, SameBodyWord, SameTables}
use Rattle.alike.proofs.CallsEach.{each_on, each_end, each_length, cond_same, cond_alike}
use Rattle.alike.proofs.CallsSame.{SameMove, same_on, same_out}
use Rattle.alike.proofs.Growing.{Both, Onward, parameter_word_on, body_word_on, tables_on}
use Rattle.alike.proofs.Fellows.{same_tests}
use Rattle.alike.proofs.Driving.{Respects}
use Rattle.alike.proofs.Tokens.{meanings, meaning_of, same_character_lem, same_explicit, same_digit}

pub data SameDefinition (ms ns : Spellings) : Definition → Definition → Type 0 where
  same_text : {ps qs : List ParameterWord} {k : ℕ} → Each (SameParameterWord ms ns) ps qs → SameDefinition ms ns (in_text ps k) (in_text qs k)
  same_text_hash : {ps qs : List ParameterWord} {k : ℕ} → Each (SameParameterWord ms ns) ps qs → SameDefinition ms ns (hash_in_text ps k) (hash_in_text qs k)
  same_body : {ps qs : List ParameterWord} {bs cs : List BodyWord} {k d : ℕ} → Each (SameParameterWord ms ns) ps qs → Each (SameBodyWord ms ns) bs cs → SameDefinition ms ns (in_body ps k bs d) (in_body qs k cs d)
  same_body_hash : {ps qs : List ParameterWord} {bs cs : List BodyWord} {k d : ℕ} → Each (SameParameterWord ms ns) ps qs → Each (SameBodyWord ms ns) bs cs → SameDefinition ms ns (hash_in_body ps k bs d) (hash_in_body qs k cs d)

pub data SameDefined (ms ns : Spellings) : Defined → Defined → Type 0 where
  same_defines : {ps qs : List ParameterWord} {bs cs : List BodyWord} → Each (SameParameterWord ms ns) ps qs → Each (SameBodyWord ms ns) bs cs → SameDefined ms ns (defines ps bs) (defines qs cs)
  same_broken : SameDefined ms ns broken broken
  same_long : SameDefined ms ns too_long too_long

definition_on : {ms ns os ps : Spellings} {p q : Definition} → Onward ms ns os ps → SameDefinition ms ns p q → SameDefinition os ps p q
definition_on o (same_text p) = same_text (each_on (parameter_word_on o) p)
definition_on o (same_text_hash p) = same_text_hash (each_on (parameter_word_on o) p)
definition_on o (same_body p b) = same_body (each_on (parameter_word_on o) p) (each_on (body_word_on o) b)
definition_on o (same_body_hash p b) = same_body_hash (each_on (parameter_word_on o) p) (each_on (body_word_on o) b)

abbrev DefinitionMove : Spellings → Spellings → Move Definition Defined → Move Definition Defined → Type 0
DefinitionMove ms ns = SameMove (SameDefinition ms ns) (SameDefined ms ns)

module _ {ms ns : Spellings} where
  same_room : (m n : ℕ) {x y : Definition} → m ≡ n → SameDefinition ms ns x y → DefinitionMove ms ns (room m x) (room n y)
  same_room m n e s = cond_alike (DefinitionMove ms ns) (ap (λ (k : ℕ). ltb k 2048) e) (same_on s) (same_out same_long)

  module _ {ps qs : List ParameterWord} (k : ℕ) (p : Each (SameParameterWord ms ns) ps qs) where
    same_more : {bs cs : List BodyWord} {v w : BodyWord} (d : ℕ) → Each (SameBodyWord ms ns) bs cs → SameBodyWord ms ns v w → DefinitionMove ms ns (one_more ps k bs v d) (one_more qs k cs w d)
    same_more {bs} {cs} d b c = same_room (length ps + length bs) (length qs + length cs) (let x = each_length p in let y = each_length b in cc) (same_body p (each_end b c))

    same_closing : {bs cs : List BodyWord} {t u : Token} (d : ℕ) → Each (SameBodyWord ms ns) bs cs → SameToken ms ns t u → DefinitionMove ms ns (closing ps k bs t d) (closing qs k cs u d)
    same_closing zero b c = same_out (same_defines p b)
    same_closing (suc d) b c = same_more d b (law.same_token c)

    same_referring : {bs cs : List BodyWord} (d : ℕ) (o : Option ℕ) → Each (SameBodyWord ms ns) bs cs → DefinitionMove ms ns (referring ps k bs d o) (referring qs k cs d o)
    same_referring d None b = same_out same_broken
    same_referring d (Some n) b = cond_same (DefinitionMove ms ns) (leb 1 n && leb n k) (same_more d b law.same_reference) (same_out same_broken)

  module _ (w : Both ms ns) (s z : table.State Means) (r : SameTables ms ns s z) where
    same_hash : {t u : Token} → SameToken ms ns t u → is_hash (meanings s) t ≡ is_hash (meanings z) u
    same_hash c = same_character_lem 6 (meaning_of w s z r c)

    definition_fed : {p q : Definition} {t u : Token} → SameDefinition ms ns p q → SameToken ms ns t u → DefinitionMove ms ns (definition_feed (meanings s) p t) (definition_feed (meanings z) q u)
    definition_fed {t = t} {u = u} (same_text {ps = ps} {qs = qs} p) c =
        cond_alike (DefinitionMove ms ns) ((same_tests w).opens c) (same_on (same_body p no_more))
        (cond_alike (DefinitionMove ms ns) ((same_tests w).closes c) (same_out same_broken)
        (cond_alike (DefinitionMove ms ns) (same_hash c) (same_on (same_text_hash p))
        (same_room (length ps) (length qs) (each_length p) (same_text (each_end p (law.same_token c))))))
    definition_fed {t = t} {u = u} (same_text_hash {ps = ps} {qs = qs} {k = k} p) c =
        cond_alike (DefinitionMove ms ns) (ap (λ (b : Bool). ltb k 9 && b) (same_explicit 12 (48 + suc k) c))
        (same_room (length ps) (length qs) (each_length p) (same_text (each_end p law.same_parameter))) (same_out same_broken)
    definition_fed {t = t} {u = u} (same_body {k = k} {d = d} p b) c =
        cond_alike (DefinitionMove ms ns) ((same_tests w).opens c) (same_more k p (suc d) b (law.same_token c))
        (cond_alike (DefinitionMove ms ns) ((same_tests w).closes c) (same_closing k p d b c)
        (cond_alike (DefinitionMove ms ns) (same_hash c) (same_on (same_body_hash p b)) (same_more k p d b (law.same_token c))))
    definition_fed {t = t} {u = u} (same_body_hash {ps = ps} {qs = qs} {bs = bs} {cs = cs} {k = k} {d = d} p b) c =
        cond_alike (DefinitionMove ms ns) (same_hash c) (same_more k p d b (law.same_token c))
        (subst (λ (o : Option ℕ). DefinitionMove ms ns (referring ps k bs d (digit_of t)) (referring qs k cs d o)) (same_digit c) (same_referring k p d (digit_of t) b))

pub definition_respects : {ms ns : Spellings} (s z : table.State Means) → SameTables ms ns s z → Respects SameDefinition SameDefined ms ns (definition_feed (meanings s)) (definition_feed (meanings z))
definition_respects s z r = record {
  phase_on = λ os ps qs rs p q o e. definition_on o e;
  fed = λ os ps p q t u o w e c. definition_fed w s z (tables_on o r) e c;
}
