-- The tokens that a call reads, and that a rule driven over them as a list comes to the same.
--   Accumulates        behind each token of a stream its reader has read that token too
--   ahead_accumulates  what is ahead of a reader does
--   Again              a rule comes to an outcome over these tokens, whatever follows them
--   reading            what holds of every end of a reading: of each outcome over the tokens read, and of each refusal
use Rattle.std.proofs.Common.{◌≡◌, List, [], ◌∷◌, ◌++◌, sym, refl, ap, ◌∙◌, append_assoc, append-nil}
use Rattle.tokens.specs.declared.token.Token.{Token}
use Rattle.matching.specs.Matching.{Move, on, out}
use Rattle.lines.specs.Line.{Categories, Item}
use Rattle.names.specs.Naming.{Spellings}
use Rattle.sources.specs.declared.fault.PileRefusal.TheVariants.{Ended}
use Rattle.sources.specs.Ahead as below
use Rattle.sources.specs.Ahead.{Ahead, ahead_of}
use Rattle.driving.specs.declared.status.Status.{Status}
use Rattle.driving.specs.Streams.{Stream, nothing, broken, token}
use Rattle.driving.specs.Drives.{came, drive}
use Rattle.rules.specs.Refusals.{Cause, read, pile}
use Rattle.rules.specs.Readers.{Position, Reader, below_stream, held_stream, tokens_from}
use Rattle.rules.specs.States.{State, Stepped, refuse, finished, categories_of, ahead}
use Rattle.surviving.specs.Diaries.{list_stream}

abbrev pub Accumulates : List Token → Stream Reader → Type 0
Accumulates ts (nothing r) = r.read ≡ ts
Accumulates ts (broken e r) = r.read ≡ ts
Accumulates ts (token t r s) = (r.read ≡ ts ++ t ∷ []) × Accumulates r.read s

below_accumulates : (ts : List Token) (a : Ahead) → Accumulates ts (below_stream ts a)
below_accumulates ts (below.none ns) = refl
below_accumulates ts (below.fault e ns is) = refl
below_accumulates ts (below.token t ns is a) = (refl, below_accumulates (ts ++ t ∷ []) a)

held_accumulates : (ns : Spellings) (hs : List Token) (is : List Item) (ts : List Token) (more : List Token → Stream Reader)
    → ((us : List Token) → Accumulates us (more us)) → Accumulates ts (held_stream ns hs is ts more)
held_accumulates ns [] is ts more h = h ts
held_accumulates ns (t ∷ hs) is ts more h = (refl, held_accumulates ns hs is (ts ++ t ∷ []) more h)

pub ahead_accumulates : (cs : Categories) (r : Reader) → Accumulates r.read (tokens_from cs r)
ahead_accumulates cs r =
    let p : Position = r.stands in
    held_accumulates p.names p.held p.below r.read (λ us. below_stream us (ahead_of cs p.names p.below))
    (λ us. below_accumulates us (ahead_of cs p.names p.below))

abbrev pub Again : {P O : Type 0} → (P → Token → Move P O) → Move P O → O → List Token → Type 0
Again feed m o ts = (more : List Token) → drive feed m (ts ++ more) (list_stream (ts ++ more)) ≡ came o more

module _ {P O : Type 0} (s : State) (st : Status) (feed : P → Token → Move P O) (end : O → Reader → Stepped) (Q : Stepped → Type 0)
    (lost : (r : Reader) (c : Cause) → Q (refuse s r st c)) where
  fed : (m : Move P O) (r : Reader) (a : Stream Reader) → Accumulates r.read a
      → ((o : O) (q : Reader) (ts : List Token) → q.read ≡ r.read ++ ts → Again feed m o ts → Q (end o q))
      → Q (finished s st (drive feed m r a) end)
  fed (out o) r a h k = k o r [] (sym (append-nil r.read)) (λ more. refl)
  fed (on p) r (nothing b) h k = lost b (pile Ended)
  fed (on p) r (broken e b) h k = lost b (read e)
  fed (on p) r (token t b a) h k =
      fed (feed p t) b a h.1
      (λ o q ts e f. k o q (t ∷ ts) (e ∙ ap (λ (us : List Token). us ++ ts) h.0 ∙ append_assoc r.read (t ∷ []) ts) f)

  pub reading : (m : Move P O) (r : Reader)
      → ((o : O) (q : Reader) (ts : List Token) → q.read ≡ r.read ++ ts → Again feed m o ts → Q (end o q))
      → Q (finished s st (drive feed m r (ahead s r)) end)
  reading m r k = fed m r (ahead s r) (ahead_accumulates (categories_of s.book) r) k
