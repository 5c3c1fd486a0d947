-- The tokens ahead of two readers over the same items are the same as spelled.
--   SameReader   two readers of a call under way: one token at least is read, so fewer than 4,096 are put back
--   SameStream   two streams, from some names on; where either is out of numbers, nothing more is said
use Rattle.std.proofs.Common.{ℕ, ◌≤◌, List, [], ◌∷◌, ◌++◌, map, length, arith}
use Rattle.tokens.specs.declared.token.Token.{Token}
use Rattle.lines.specs.Line.{Categories, Item, ready, rest, Pieces, pieces}
use Rattle.names.specs.declared.fault.NamesFault.TheVariants.{Full}
use Rattle.names.specs.Naming.{Spellings, Entered}
use Rattle.sources.specs.declared.fault.ReadRefusal.{ReadRefusal}
use Rattle.sources.specs.declared.fault.ReadRefusal.TheVariants as read
use Rattle.sources.specs.Ahead.{Ahead, by_number, numbered, ahead_of}
use Rattle.driving.specs.Streams.{Stream, nothing, broken, token}
use Rattle.rules.specs.Readers.{Position, position, Reader, reader, below_stream, held_stream, stream_at}
use Rattle.alike.specs.Same.{alike, SameToken, same_name, SameItem, same_ready, Each, no_more, and}
use Rattle.alike.specs.Laws.{items_of}
use Rattle.alike.proofs.Names.{EnteringBoth, both_known, both_long, full_left, full_right, entering_both}
use Rattle.alike.proofs.Growing.{Both, Onward, stay, further, token_on, items_on}
use Rattle.alike.proofs.Lines.{SamePieces, none_left, both_invalid, both_given, both_name, same_pieces}

pub record SameReader (r q : Reader) : Type 0 where
  pub sound : Both r.stands.names q.stands.names
  pub few : (length r.stands.held ≤ 4095) × (length q.stands.held ≤ 4095)
  pub items : Each (SameItem r.stands.names q.stands.names) (items_of r.stands) (items_of q.stands)

pub data SameStream : Spellings → Spellings → Stream Reader → Stream Reader → Type 0 where
  same_nothing : {ms ns : Spellings} {r q : Reader} → Onward ms ns r.stands.names q.stands.names → SameReader r q → SameStream ms ns (nothing r) (nothing q)
  same_broken : {ms ns : Spellings} {e : ReadRefusal} {r q : Reader} → Onward ms ns r.stands.names q.stands.names → SameReader r q → SameStream ms ns (broken e r) (broken e q)
  fault_left : {ms ns : Spellings} {r : Reader} {b : Stream Reader} → SameStream ms ns (broken (read.Names Full) r) b
  fault_right : {ms ns : Spellings} {r : Reader} {a : Stream Reader} → SameStream ms ns a (broken (read.Names Full) r)
  same_token_lem : {ms ns : Spellings} {t u : Token} {r q : Reader} {a b : Stream Reader}
      → Onward ms ns r.stands.names q.stands.names → SameReader r q → SameToken r.stands.names q.stands.names t u
      → SameStream r.stands.names q.stands.names a b → SameStream ms ns (token t r a) (token u q b)

-- readers with nothing put back
module _ {os ps : Spellings} {is js : List Item} where
  bare : (xs ys : List Token) → Both os ps → Each (SameItem os ps) is js → SameReader (reader (position os [] is) xs) (reader (position ps [] js) ys)
  bare xs ys w r = record { sound = w; few = (omega arith, omega arith); items = r }

  same_entered : {s : List ℕ} {d e : Entered} (f g : Spellings → Ahead) (xs ys : List Token) → Both os ps → Each (SameItem os ps) is js
      → ((qs rs : Spellings) → Onward os ps qs rs → Both qs rs → (xs ys : List Token) → SameStream qs rs (below_stream xs (f qs)) (below_stream ys (g rs)))
      → EnteringBoth os ps s d e → SameStream os ps (below_stream xs (by_number d os is f)) (below_stream ys (by_number e ps js g))
  same_entered {s} f k xs ys w r more (both_known {os = qs} {ps = rs} g h a b x y) =
      let o : Onward os ps qs rs = record { first = g; second = h } in
      let v : Both qs rs = record { left = a; right = b } in
      same_token_lem o (record { sound = v; few = (omega arith, omega arith); items = items_on o r }) (same_name (alike s x y)) (more qs rs o v _ _)
  same_entered f g xs ys w r more both_long = same_broken stay (bare xs ys w r)
  same_entered f g xs ys w r more full_left = fault_left
  same_entered f g xs ys w r more full_right = fault_right

same_below : {ms ns : Spellings} {k l : Pieces} → SamePieces ms ns k l → (os ps : Spellings) → Onward ms ns os ps → Both os ps → (xs ys : List Token) → SameStream os ps (below_stream xs (numbered k os)) (below_stream ys (numbered l ps))
same_below none_left os ps o w xs ys = same_nothing stay (bare xs ys w no_more)
same_below (both_invalid r) os ps o w xs ys = same_broken stay (bare xs ys w (items_on o r))
same_below (both_given c r k) os ps o w xs ys = same_token_lem stay (bare _ _ w (items_on o r)) (token_on o _ _ c) (same_below k os ps o w _ _)
same_below (both_name {s = s} {k = k} {l = l} r h) os ps o w xs ys =
    same_entered (λ ms. numbered k ms) (λ ms. numbered l ms) xs ys w (items_on o r) (λ qs rs p v zs vs. same_below h qs rs (further o p) v zs vs) (entering_both os ps w.left w.right s)

module _ (cs : Categories) (size : length cs ≤ 256) {os ps : Spellings} (w : Both os ps) where
  abbrev from : Spellings → List Token → List Item → List Token → Stream Reader
  from ns ts is xs = held_stream ns ts is xs (λ zs. below_stream zs (numbered (pieces cs is) ns))

  same_held : (ts us : List Token) (is js : List Item) (xs ys : List Token) → length ts ≤ 4096 → length us ≤ 4096
      → Each (SameItem os ps) (map ready ts ++ is) (map ready us ++ js) → SameStream os ps (from os ts is xs) (from ps us js ys)
  same_held [] [] is js xs ys f g r = same_below (same_pieces cs size r) os ps stay w xs ys
  same_held [] (u ∷ us) (ready t ∷ is) js xs ys f g (and (same_ready c) r) =
      same_token_lem stay (record { sound = w; few = (omega arith, omega arith); items = r }) c (same_held [] us is js _ _ (omega arith) (omega arith) r)
  same_held [] (u ∷ us) [] js xs ys f g r = elim r [ ]
  same_held [] (u ∷ us) (rest z bs ∷ is) js xs ys f g (and c r) = elim c [ ]
  same_held (t ∷ ts) [] is [] xs ys f g r = elim r [ ]
  same_held (t ∷ ts) [] is (rest z bs ∷ js) xs ys f g (and c r) = elim c [ ]
  same_held (t ∷ ts) [] is (ready u ∷ js) xs ys f g (and (same_ready c) r) =
      same_token_lem stay (record { sound = w; few = (omega arith, omega arith); items = r }) c (same_held ts [] is js _ _ (omega arith) (omega arith) r)
  same_held (t ∷ ts) (u ∷ us) is js xs ys f g (and (same_ready c) r) =
      same_token_lem stay (record { sound = w; few = (omega arith, omega arith); items = r }) c (same_held ts us is js _ _ (omega arith) (omega arith) r)

pub same_stream : (cs : Categories) → length cs ≤ 256 → (p q : Position) (xs ys : List Token) → Both p.names q.names
    → length p.held ≤ 4096 → length q.held ≤ 4096 → Each (SameItem p.names q.names) (items_of p) (items_of q)
    → SameStream p.names q.names (stream_at cs p xs) (stream_at cs q ys)
unfolding ahead_of
same_stream cs size p q xs ys w f g r = same_held cs size w p.held q.held p.below q.below xs ys f g r
