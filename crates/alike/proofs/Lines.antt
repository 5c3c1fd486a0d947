-- Items that differ in the numbers of ready names alone give pieces that differ in those alone.
use Rattle.std.proofs.Common.{◌≡◌, ℕ, zero, suc, ◌<◌, ◌≤◌, List, [], ◌∷◌, length, drop, refl, inl, inr, arith}
use Rattle.std.proofs.lemmas.List.{get_or_past}
use Rattle.std.proofs.lemmas.Bool.{cases_lt}
use Rattle.tokens.specs.declared.category.Category.{Category}
use Rattle.tokens.specs.declared.category.Category.TheVariants.{Escape, Open, Close, Math, Align, EndLine, Parameter, Superscript, Subscript, Ignored, Space, Letter, Other, Active, Comment, Invalid}
use Rattle.tokens.specs.declared.token.Token.{Token}
use Rattle.lines.specs.declared.piece.LineState.{LineState}
use Rattle.lines.specs.declared.piece.LineState.TheVariants.{NewLine, MidLine, SkipBlanks}
use Rattle.lines.specs.Pieces.{Shown, character, active, named, nothing, refused}
use Rattle.lines.specs.Line.{Categories, category, at_end_line, at_blank, piece_by, piece_of, more_by, state_after, Item, left, Pieces, none, invalid, given, name, onward, line, pieces}
use Rattle.names.specs.Naming.{Spellings}
use Rattle.alike.specs.Same as same
use Rattle.alike.specs.Same.{SameToken, same_name, same_character, SameItem, same_ready, same_rest, Each, no_more, and}

pub data SamePieces (ms ns : Spellings) : Pieces → Pieces → Type 0 where
  none_left : SamePieces ms ns none none
  both_invalid : {is js : List Item} → Each (SameItem ms ns) is js → SamePieces ms ns (invalid is) (invalid js)
  both_given : {t u : Token} {is js : List Item} {k l : Pieces} → SameToken ms ns t u → Each (SameItem ms ns) is js → SamePieces ms ns k l → SamePieces ms ns (given t is k) (given u js l)
  both_name : {s : List ℕ} {is js : List Item} {k l : Pieces} → Each (SameItem ms ns) is js → SamePieces ms ns k l → SamePieces ms ns (name s is k) (name s js l)

-- an active character has the number of a byte
abbrev Byte : Shown → Type 0
Byte (character c b) = Unit {0}
Byte (active b) = b < 256
Byte (named s) = Unit {0}
Byte nothing = Unit {0}
Byte refused = Unit {0}

end_byte : (s : LineState) → Byte (at_end_line s)
end_byte NewLine = tt
end_byte MidLine = tt
end_byte SkipBlanks = tt

blank_byte : (s : LineState) → Byte (at_blank s)
blank_byte NewLine = tt
blank_byte MidLine = tt
blank_byte SkipBlanks = tt

module _ (cs : Categories) (few : length cs ≤ 256) where
  active_byte : (b : ℕ) → category cs b ≡ Active → b < 256
  active_byte b e = elim (cases_lt b 256) [ inl l ↦ l | inr g ↦ absurd (past g) ]
    where
      past : 256 ≤ b → ⊥
      past g = let p : category cs b ≡ Escape = get_or_past cs b Escape (omega arith) in let z : ◌≡◌ {A = ℕ} 0 1 = cc in omega arith

  by_byte : (s : LineState) (b : ℕ) (bs : List ℕ) (c : Category) → category cs b ≡ c → Byte (piece_by cs s b bs c)
  by_byte s b bs Escape e = tt
  by_byte s b bs Open e = tt
  by_byte s b bs Close e = tt
  by_byte s b bs Math e = tt
  by_byte s b bs Align e = tt
  by_byte s b bs EndLine e = end_byte s
  by_byte s b bs Parameter e = tt
  by_byte s b bs Superscript e = tt
  by_byte s b bs Subscript e = tt
  by_byte s b bs Ignored e = tt
  by_byte s b bs Space e = blank_byte s
  by_byte s b bs Letter e = tt
  by_byte s b bs Other e = tt
  by_byte s b bs Active e = active_byte b e
  by_byte s b bs Comment e = tt
  by_byte s b bs Invalid e = tt

  module _ {ms ns : Spellings} where
    same_left : {is js : List Item} (s : LineState) (bs : List ℕ) → Each (SameItem ms ns) is js → Each (SameItem ms ns) (left s bs is) (left s bs js)
    same_left s [] r = r
    same_left s (b ∷ bs) r = and same_rest r

    same_onward : {is js : List Item} {k l : Pieces} (p : Shown) → Byte p → Each (SameItem ms ns) is js → SamePieces ms ns k l → SamePieces ms ns (onward p is k) (onward p js l)
    same_onward (character c b) h r k = both_given same_character r k
    same_onward (active b) h r k = both_given (same_name (same.active h)) r k
    same_onward (named s) h r k = both_name r k
    same_onward nothing h r k = k
    same_onward refused h r k = both_invalid r

    same_line : {is js : List Item} {k l : Pieces} (bs : List ℕ) (n : ℕ) (s : LineState) → Each (SameItem ms ns) is js → SamePieces ms ns k l → SamePieces ms ns (line cs bs n s is k) (line cs bs n s js l)
    same_line [] n s r k = k
    same_line (b ∷ bs) zero s r k =
        let p = piece_of cs s (b ∷ bs) in
        let n = more_by cs bs (category cs b) in
        let t = state_after cs s p in
        same_onward p (by_byte s b bs (category cs b) refl) (same_left t (drop n bs) r) (same_line bs n t r k)
    same_line (b ∷ bs) (suc n) s r k = same_line bs n s r k

    pub same_pieces : {is js : List Item} → Each (SameItem ms ns) is js → SamePieces ms ns (pieces cs is) (pieces cs js)
    same_pieces no_more = none_left
    same_pieces (and (same_ready c) r) = both_given c r (same_pieces r)
    same_pieces (and (same_rest {s = s} {bs = bs}) r) = same_line bs 0 s r (same_pieces r)
