-- How many tokens stay put back when a rule is fed from a put-back, and where reading then stands.
use Rattle.std.proofs.Common.{◌≡◌, List, [], ◌∷◌, ◌++◌, map, sym, refl, ap, ◌∙◌, subst}
use Rattle.tokens.specs.declared.token.Token.{Token}
use Rattle.matching.specs.Matching.{Move, on, out}
use Rattle.lines.specs.Line.{Categories, Item, ready}
use Rattle.names.specs.Naming.{Spellings}
use Rattle.sources.specs.declared.fault.Place.{Place}
use Rattle.sources.specs.Ahead as ahead
use Rattle.sources.specs.Ahead.{Ahead, ahead_of}
use Rattle.piles.specs.declared.put_back.PutBack.{PutBack}
use Rattle.piles.specs.Helds.{held_tokens}
use Rattle.piles.specs.Joins.{Reading}
use Rattle.piles.specs.PutBacks.{ReadsBehind, PutBackReads}
use Rattle.driving.specs.Streams as streams
use Rattle.driving.specs.Streams.{Stream, Standing, standing, stream_of, stream}
use Rattle.driving.specs.Drives.{Driven, drive, stands_at, answer_of, Reached}
use Rattle.rules.specs.Readers.{Position, position, Reader, reader, below_stream, held_stream, stream_at}
use Rattle.gullet.specs.Fed.{Onward, stays, further}
use Rattle.gullet.proofs.Streaming.{driven_by, drive_by, stands_by, answer_by, items_at, forget, stream_forgets}

module _ {S P O : Type 0} (reads : Reading S) (cs : Categories) (feed : P → Token → Move P O) where
  abbrev Comes : Move P O → Spellings → Ahead → PutBack S → PutBack S → Type 0
  Comes m ns a x y = Reached (PutBackReads reads cs) feed m ns (stream_of a) x y

  -- with nothing put back nothing is
  empty_read : (ns : Spellings) (x y : PutBack S) → held_tokens x.held ≡ [] → PutBackReads reads cs ns x y → held_tokens y.held ≡ []
  empty_read ns x y e h = (subst (λ (hs : List Token). ReadsBehind reads hs cs ns x y) e h).0

  below_held : (m : Move P O) (ns : Spellings) (a : Ahead) (x y : PutBack S) (r : Reader) (read : List Token) → held_tokens x.held ≡ [] → r.stands.held ≡ [] → Comes m ns a x y
      → held_tokens y.held ≡ (stands_at (drive feed m r (below_stream read a))).stands.held
  below_held (out o) ns a x y r read e f h = ap (λ (z : PutBack S). held_tokens z.held) h ∙ e ∙ sym f
  below_held (on p) ns (ahead.none ms) x y r read e f h = empty_read ns x y e h
  below_held (on p) ns (ahead.fault b ms is) x y r read e f h = empty_read ns x y e h
  below_held (on p) ns (ahead.token t ms is a) x y r read e f h =
      below_held (feed p t) ms a h.0 y (reader (position ms [] is) (read ++ t ∷ [])) (read ++ t ∷ []) (empty_read ns x h.0 e h.1) refl h.2

  held_held : (m : Move P O) (ns : Spellings) (ts : List Token) (is : List Item) (x y : PutBack S) (r : Reader) (read : List Token) → held_tokens x.held ≡ ts → r.stands.held ≡ ts
      → Comes m ns (ahead_of cs ns (map ready ts ++ is)) x y
      → held_tokens y.held ≡ (stands_at (drive feed m r (held_stream ns ts is read (λ more. below_stream more (ahead_of cs ns is))))).stands.held
  unfolding ahead_of
  held_held m ns [] is x y r read e f h = below_held m ns (ahead_of cs ns is) x y r read e f h
  held_held (out o) ns (t ∷ ts) is x y r read e f h = ap (λ (z : PutBack S). held_tokens z.held) h ∙ e ∙ sym f
  held_held (on p) ns (t ∷ ts) is x y r read e f h =
      let w = subst (λ (hs : List Token). ReadsBehind reads hs cs ns x h.0) e h.1 in
      held_held (feed p t) ns ts is h.0 y (reader (position ns ts is) (read ++ t ∷ [])) (read ++ t ∷ []) w.0 refl h.2

same_below : (ts : List Token) (is js : List Item) → map ready ts ++ is ≡ map ready ts ++ js → is ≡ js
same_below [] is js e = e
same_below (t ∷ ts) is js e = let f : map ready ts ++ is ≡ map ready ts ++ js = cc in same_below ts is js f

-- where reading stands once a rule was fed from a put-back: names and items as the driver tells, tokens put back as the reads tell
module _ {S P O : Type 0} (ahead : S → List Item) (reads : Reading S) (cs : Categories) (feed : P → Token → Move P O) where
  pub stands_then : (m : Move P O) (ns ms : Spellings) (x y : PutBack S) (read : List Token)
      → let p : Position = position ns (held_tokens x.held) (ahead x.below) in
      let d : Driven O Standing = drive feed m (standing ns (items_at p)) (stream cs ns (items_at p)) in
      ms ≡ (stands_at d).names → items_at (position ms (held_tokens y.held) (ahead y.below)) ≡ (stands_at d).items
      → Reached (PutBackReads reads cs) feed m ns (stream cs ns (items_at p)) x y
      → position ms (held_tokens y.held) (ahead y.below) ≡ (stands_at (drive feed m (reader p read) (stream_at cs p read))).stands
  stands_then m ns ms x y read names items reached =
      let p : Position = position ns (held_tokens x.held) (ahead x.below) in
      let d : Driven O Reader = drive feed m (reader p read) (stream_at cs p read) in
      let by : drive feed m (standing ns (items_at p)) (stream cs ns (items_at p)) ≡ driven_by forget d =
      ap (drive feed m (standing ns (items_at p))) (sym (stream_forgets cs p read)) ∙ drive_by forget feed m (reader p read) (stream_at cs p read) in
      let at : stands_at (drive feed m (standing ns (items_at p)) (stream cs ns (items_at p))) ≡ forget (stands_at d) = ap stands_at by ∙ stands_by forget d in
      let held : held_tokens y.held ≡ (stands_at d).stands.held = held_held reads cs feed m ns (held_tokens x.held) (ahead x.below) x y (reader p read) read refl refl reached in
      let n : ms ≡ (stands_at d).stands.names = names ∙ ap (λ (z : Standing). z.names) at in
      let i : map ready (held_tokens y.held) ++ ahead y.below ≡ map ready (stands_at d).stands.held ++ (stands_at d).stands.below = items ∙ ap (λ (z : Standing). z.items) at in
      let j : map ready (stands_at d).stands.held ++ ahead y.below ≡ map ready (stands_at d).stands.held ++ (stands_at d).stands.below =
      ap (λ (ts : List Token). map ready ts ++ ahead y.below) (sym held) ∙ i in
      let b : ahead y.below ≡ (stands_at d).stands.below = same_below (stands_at d).stands.held (ahead y.below) (stands_at d).stands.below j in
      rw (n, held, b)

pub answer_then : {P O : Type 0} (cs : Categories) (feed : P → Token → Move P O) (m : Move P O) (p : Position) (read : List Token) (l : Place)
    → answer_of l (drive feed m (standing p.names (items_at p)) (stream cs p.names (items_at p))) ≡ answer_of l (drive feed m (reader p read) (stream_at cs p read))
answer_then cs feed m p read l =
    ap (λ s. answer_of l (drive feed m (standing p.names (items_at p)) s)) (sym (stream_forgets cs p read))
    ∙ ap (answer_of l) (drive_by forget feed m (reader p read) (stream_at cs p read))
    ∙ answer_by forget l (drive feed m (reader p read) (stream_at cs p read))

-- the reads that a rule makes of a put-back go on in the source below

module _ {S : Type 0} (reads : Reading S) (cs : Categories) where
  behind_onward : (hs : List Token) (ns : Spellings) (x m : PutBack S) (y : S) → ReadsBehind reads hs cs ns x m → Onward (reads cs) m.below y → Onward (reads cs) x.below y
  behind_onward [] ns x m y h o = further ns h.1 o
  behind_onward (t ∷ ts) ns x m y h o = subst (λ (z : S). Onward (reads cs) z y) h.1 o

  pub reached_onward : {P O : Type 0} (feed : P → Token → Move P O) (m : Move P O) (ns : Spellings) (s : Stream Standing) (x y : PutBack S)
      → Reached (PutBackReads reads cs) feed m ns s x y → Onward (reads cs) x.below y.below
  reached_onward feed (out o) ns s x y h = stays (ap (λ (z : PutBack S). z.below) h)
  reached_onward feed (on p) ns (streams.nothing b) x y h = behind_onward (held_tokens x.held) ns x y y.below h (stays refl)
  reached_onward feed (on p) ns (streams.broken e b) x y h = behind_onward (held_tokens x.held) ns x y y.below h (stays refl)
  reached_onward feed (on p) ns (streams.token t b s) x y h =
      behind_onward (held_tokens x.held) ns x h.0 y.below h.1 (reached_onward feed (feed p t) b.names s h.0 y h.2)

  pub onward_both : {x y z : S} → Onward (reads cs) x y → Onward (reads cs) y z → Onward (reads cs) x z
  onward_both {z = z} (stays e) o = subst (λ (w : S). Onward (reads cs) w z) e o
  onward_both (further ns h more) o = further ns h (onward_both more o)
