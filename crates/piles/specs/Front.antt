-- Ready tokens in front of items.
use Rattle.std.specs.Prelude.{◌≡◌, ◌+◌, List, [], ◌∷◌, ◌++◌, map, length, Some, Ok, refl}
use Rattle.std.proofs.Common.{arith}
use Rattle.tokens.specs.declared.token.Token.{Token}
use Rattle.lines.specs.Line.{Categories, Item, ready}
use Rattle.names.specs.Naming.{Spellings}
use Rattle.sources.specs.declared.fault.Place.{Place}
use Rattle.sources.specs.Ahead.{ahead_of, head_answer, head_names, head_items, extent}
use Rattle.piles.specs.declared.put_back.PutBack.{PutBack}
use Rattle.piles.specs.Joins.{Reading}
use Rattle.piles.specs.Helds.{held_tokens}
use Rattle.piles.specs.PutBacks.{ReadsBehind}

pub extent_ready : (ts : List Token) (is : List Item) → extent (map ready ts ++ is) ≡ length ts + extent is
extent_ready [] is = omega arith
extent_ready (t ∷ ts) is = omega (arith, extent_ready ts is)

pub front_read : (cs : Categories) (ns : Spellings) (p : Place) (hs ts : List Token) (t : Token) (is : List Item) → hs ≡ t ∷ ts
    → (Ok (Some t) ≡ head_answer p (ahead_of cs ns (map ready hs ++ is))) × (ns ≡ head_names (ahead_of cs ns (map ready hs ++ is))) × (map ready ts ++ is ≡ head_items (ahead_of cs ns (map ready hs ++ is)))
unfolding ahead_of
front_read cs ns p hs ts t is e = rw e (refl, refl, refl)

pub front_reads : {S : Type 0} (reads : Reading S) (cs : Categories) (ns : Spellings) (p q : PutBack S) (hs : List Token) (t : Token) → hs ≡ t ∷ held_tokens q.held → q.below ≡ p.below → ReadsBehind reads hs cs ns p q
front_reads reads cs ns p q hs t e b = rw e (refl, b)
