-- What a put-back has ahead is what the rules say, and a rule that is fed it comes to the same.
use Rattle.std.proofs.Common.{◌≡◌, List, [], ◌∷◌, ◌++◌, map, refl, ap}
use Rattle.tokens.specs.declared.token.Token.{Token}
use Rattle.matching.specs.Matching.{Move, on, out}
use Rattle.lines.specs.Line.{Categories, Item, ready}
use Rattle.names.specs.Naming.{Spellings}
use Rattle.sources.specs.declared.fault.Place.{Place}
use Rattle.sources.specs.Ahead as ahead
use Rattle.sources.specs.Ahead.{Ahead, ahead_of}
use Rattle.driving.specs.Streams.{Stream, nothing, broken, token, Standing, standing, stream_of, stream}
use Rattle.driving.specs.Drives.{Driven, came, ended, failed, drive, stands_at, answer_of}
use Rattle.rules.specs.Readers.{Position, Reader, below_stream, held_stream, stream_at}

module _ {A B : Type 0} (f : A → B) where
  abbrev pub stream_by : Stream A → Stream B
  stream_by (nothing a) = nothing (f a)
  stream_by (broken e a) = broken e (f a)
  stream_by (token t a s) = token t (f a) (stream_by s)

  abbrev pub driven_by : {O : Type 0} → Driven O A → Driven O B
  driven_by (came o a) = came o (f a)
  driven_by (ended a) = ended (f a)
  driven_by (failed e a) = failed e (f a)

  pub drive_by : {P O : Type 0} (feed : P → Token → Move P O) (m : Move P O) (a : A) (s : Stream A) → drive feed m (f a) (stream_by s) ≡ driven_by (drive feed m a s)
  drive_by feed (out o) a s = refl
  drive_by feed (on p) a (nothing b) = refl
  drive_by feed (on p) a (broken e b) = refl
  drive_by feed (on p) a (token t b s) = drive_by feed (feed p t) b s

  pub stands_by : {O : Type 0} (d : Driven O A) → stands_at (driven_by d) ≡ f (stands_at d)
  stands_by (came o a) = refl
  stands_by (ended a) = refl
  stands_by (failed e a) = refl

  pub answer_by : {O : Type 0} (p : Place) (d : Driven O A) → answer_of p (driven_by d) ≡ answer_of p d
  answer_by p (came o a) = refl
  answer_by p (ended a) = refl
  answer_by p (failed e a) = refl

abbrev pub items_at : Position → List Item
items_at p = map ready p.held ++ p.below

abbrev pub forget : Reader → Standing
forget r = standing r.stands.names (items_at r.stands)

below_forgets : (read : List Token) (a : Ahead) → stream_by forget (below_stream read a) ≡ stream_of a
below_forgets read (ahead.none ns) = refl
below_forgets read (ahead.fault e ns is) = refl
below_forgets read (ahead.token t ns is a) = ap (token t (standing ns is)) (below_forgets (read ++ t ∷ []) a)

held_forgets : (cs : Categories) (ns : Spellings) (ts : List Token) (is : List Item) (read : List Token) → stream_by forget (held_stream ns ts is read (λ more. below_stream more (ahead_of cs ns is))) ≡ stream_of (ahead_of cs ns (map ready ts ++ is))
unfolding ahead_of
held_forgets cs ns [] is read = below_forgets read (ahead_of cs ns is)
held_forgets cs ns (t ∷ ts) is read = ap (token t (standing ns (map ready ts ++ is))) (held_forgets cs ns ts is (read ++ t ∷ []))

pub stream_forgets : (cs : Categories) (p : Position) (read : List Token) → stream_by forget (stream_at cs p read) ≡ stream cs p.names (items_at p)
stream_forgets cs p read = held_forgets cs p.names p.held p.below read
