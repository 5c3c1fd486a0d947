-- One turn of a rule that is fed: a token read and fed, or none to read.
use Rattle.std.proofs.Common.{◌≡◌, suc, List, Err, sym, refl, ap, ◌∙◌}
use Rattle.tokens.specs.declared.token.Token.{Token}
use Rattle.matching.specs.Matching.{Move, on}
use Rattle.lines.specs.Line.{Categories, Item}
use Rattle.names.specs.Naming.{Spellings}
use Rattle.sources.specs.declared.fault.Place.{Place}
use Rattle.sources.specs.declared.fault.PileFault.{PileFault}
use Rattle.sources.specs.declared.fault.PileFault.TheVariants.{Line, Pile}
use Rattle.driving.specs.Streams.{Stream, token, Standing, standing, Takes}
use Rattle.driving.specs.Drives.{drive, stands_at, answer_of, Reached, size}

pub token_size : {B : Type 0} (s more : Stream B) (t : Token) (b : B) → s ≡ token t b more → size s ≡ suc (size more)
token_size s more t b e = ap size e

module _ {P O S : Type 0} (reads : Spellings → S → S → Type 0) (feed : P → Token → Move P O) (p : P) (s : Stream Standing) where
  -- a token was ahead: the rule goes on from its move
  module _ (more : Stream Standing) (t : Token) (b : Standing) (m : Move P O) (e : s ≡ token t b more) (f : m ≡ feed p t) where
    pub drive_token : (here : Standing) → drive feed (on p) here s ≡ drive feed m b more
    drive_token here = ap (drive feed (on p) here) e ∙ ap (λ k. drive feed k b more) (sym f)

    pub reached_token : (ns : Spellings) (x z y : S) → reads ns x z → Reached reads feed m b.names more z y → Reached reads feed (on p) ns s x y
    reached_token ns x z y h r = rw e (z, h, rw f at r)

  -- none was ahead
  pub drive_short : (cs : Categories) (q : Place) (f : PileFault) (ms : Spellings) (js : List Item) (here : Standing) → Takes cs s q (Err f) ms js
      → (Err f ≡ answer_of q (drive feed (on p) here s)) × (standing ms js ≡ stands_at (drive feed (on p) here s))
  drive_short cs q (Line f) ms js here h = rw h.0 (ap (λ r. Err (Line (record { refusal = f.refusal; place = r }))) h.1, refl)
  drive_short cs q (Pile r k) ms js here h = rw h.0 (rw (h.1, h.2), refl)

  pub reached_short : (cs : Categories) (q : Place) (f : PileFault) (ms : Spellings) (js : List Item) (ns : Spellings) (x y : S) → Takes cs s q (Err f) ms js → reads ns x y → Reached reads feed (on p) ns s x y
  reached_short cs q (Line f) ms js ns x y h r = rw h.0 r
  reached_short cs q (Pile f k) ms js ns x y h r = rw h.0 r
