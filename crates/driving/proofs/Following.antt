-- What is ahead after a read is what followed the token read.
use Rattle.std.proofs.Common.{◌≡◌, ℕ, List, Some, None, Ok, Err, refl, ap, arith}
use Rattle.tokens.specs.declared.token.Token.{Token}
use Rattle.lines.specs.Line as line
use Rattle.lines.specs.Line.{Categories, Item, Pieces, invalid, given, name, pieces}
use Rattle.lines.proofs.Reading.{Behind, pieces_behind}
use Rattle.names.specs.Naming.{Spellings, Entered, known, refused, enter}
use Rattle.sources.specs.declared.fault.Place.{Place}
use Rattle.sources.specs.declared.fault.PileFault.{PileFault}
use Rattle.sources.specs.declared.fault.PileFault.TheVariants.{Line}
use Rattle.sources.specs.Ahead.{Ahead, none, fault, token, by_number, numbered, ahead_of, head_answer, head_names, head_items}
use Rattle.driving.specs.Streams as driving
use Rattle.driving.specs.Streams.{nothing, standing, stream_of, stream, Takes}

module _ (cs : Categories) where
  -- what stands behind a token is what the items behind it give
  abbrev pub Follows : Ahead → Type 0
  Follows (none ns) = Unit {0}
  Follows (fault e ns is) = Unit {0}
  Follows (token t ns is a) = a ≡ ahead_of cs ns is

  numbered_entered : (ns : Spellings) (is : List Item) (ps : Pieces) (d : Entered) → ps ≡ pieces cs is → Follows (by_number d ns is (λ ms. numbered ps ms))
  unfolding ahead_of
  numbered_entered ns is ps (known n ms) e = ap (λ (q : Pieces). numbered q ms) e
  numbered_entered ns is ps (refused f) e = tt

  numbered_follows : (ns : Spellings) (ps : Pieces) → Behind cs ps → Follows (numbered ps ns)
  unfolding ahead_of
  numbered_follows ns line.none h = tt
  numbered_follows ns (invalid is) h = tt
  numbered_follows ns (given t is ps) h = ap (λ (q : Pieces). numbered q ns) h
  numbered_follows ns (name s is ps) h = numbered_entered ns is ps (enter ns s) h

  pub ahead_follows : (ns : Spellings) (is : List Item) → Follows (ahead_of cs ns is)
  unfolding ahead_of
  ahead_follows ns is = numbered_follows ns (pieces cs is) (pieces_behind cs is)

  -- what a read answers and leaves says what was ahead
  module _ (p : Place) (ms : Spellings) (js : List Item) where
    some_by : (a : Ahead) (t : Token) → Follows a → Ok (Some t) ≡ head_answer p a → ms ≡ head_names a → js ≡ head_items a → stream_of a ≡ driving.token t (standing ms js) (stream cs ms js)
    some_by (none ns) t h e f g = let z : ◌≡◌ {A = ℕ} 0 1 = cc in absurd (omega arith)
    some_by (fault x ns is) t h e f g = let z : ◌≡◌ {A = ℕ} 0 1 = cc in absurd (omega arith)
    some_by (token u ns is b) t h e f g = let k : t ≡ u = cc in rw (h, k, f, g)

    none_by : (a : Ahead) → Ok None ≡ head_answer p a → ms ≡ head_names a → js ≡ head_items a → stream_of a ≡ nothing (standing ms js)
    none_by (none ns) e f g = rw (f, g)
    none_by (fault x ns is) e f g = let z : ◌≡◌ {A = ℕ} 0 1 = cc in absurd (omega arith)
    none_by (token u ns is b) e f g = let z : ◌≡◌ {A = ℕ} 0 1 = cc in absurd (omega arith)

    fault_by : (a : Ahead) (x : PileFault) → Err x ≡ head_answer p a → ms ≡ head_names a → js ≡ head_items a → Takes cs (stream_of a) p (Err x) ms js
    fault_by (none ns) x e f g = let z : ◌≡◌ {A = ℕ} 0 1 = cc in absurd (omega arith)
    fault_by (fault r ns is) x e f g = let k : x ≡ Line (record { refusal = r; place = p }) = cc in rw (k, f, g) (refl, refl)
    fault_by (token u ns is b) x e f g = let z : ◌≡◌ {A = ℕ} 0 1 = cc in absurd (omega arith)

    pub some_taken : (ns : Spellings) (is : List Item) (t : Token) → Ok (Some t) ≡ head_answer p (ahead_of cs ns is) → ms ≡ head_names (ahead_of cs ns is) → js ≡ head_items (ahead_of cs ns is) → stream cs ns is ≡ driving.token t (standing ms js) (stream cs ms js)
    some_taken ns is t e f g = some_by (ahead_of cs ns is) t (ahead_follows ns is) e f g

    pub none_taken : (ns : Spellings) (is : List Item) → Ok None ≡ head_answer p (ahead_of cs ns is) → ms ≡ head_names (ahead_of cs ns is) → js ≡ head_items (ahead_of cs ns is) → stream cs ns is ≡ nothing (standing ms js)
    none_taken ns is e f g = none_by (ahead_of cs ns is) e f g

    pub fault_taken : (ns : Spellings) (is : List Item) (x : PileFault) → Err x ≡ head_answer p (ahead_of cs ns is) → ms ≡ head_names (ahead_of cs ns is) → js ≡ head_items (ahead_of cs ns is) → Takes cs (stream cs ns is) p (Err x) ms js
    fault_taken ns is x e f g = fault_by (ahead_of cs ns is) x e f g
