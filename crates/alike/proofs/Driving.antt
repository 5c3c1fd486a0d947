-- An automaton that tells no names apart but by spelling is driven to the same outcome by the same tokens.
--   Respects     two automata, fed related tokens in related phases, make related moves
--   SameDriven   two ways that an automaton was driven from some names on; where either is out of numbers, nothing more is said
use Rattle.tokens.specs.declared.token.Token.{Token}
use Rattle.matching.specs.Matching.{Move}
use Rattle.names.specs.declared.fault.NamesFault.TheVariants.{Full}
use Rattle.names.specs.Naming.{Spellings}
use Rattle.sources.specs.declared.fault.ReadRefusal.{ReadRefusal}
use Rattle.sources.specs.declared.fault.ReadRefusal.TheVariants as read
use Rattle.driving.specs.Streams.{Stream}
use Rattle.driving.specs.Drives.{Driven, came, ended, failed, drive}
use Rattle.rules.specs.Readers.{Reader}
use Rattle.alike.specs.Same.{SameToken}
use Rattle.alike.proofs.CallsSame.{SameMove, same_on, same_out}
use Rattle.alike.proofs.Growing.{Both, Onward, further}
use Rattle.alike.proofs.Streams.{SameReader, SameStream, same_nothing, same_broken, fault_left, fault_right, same_token_lem}

pub data SameDriven {O : Type 0} (Outcome : Spellings → Spellings → O → O → Type 0) (ms ns : Spellings) : Driven O Reader → Driven O Reader → Type 0 where
  same_came : {x y : O} {r q : Reader} → Onward ms ns r.stands.names q.stands.names → SameReader r q → Outcome r.stands.names q.stands.names x y
      → SameDriven Outcome ms ns (came x r) (came y q)
  same_ended : {r q : Reader} → Onward ms ns r.stands.names q.stands.names → SameReader r q → SameDriven Outcome ms ns (ended r) (ended q)
  same_failed : {e : ReadRefusal} {r q : Reader} → Onward ms ns r.stands.names q.stands.names → SameReader r q → SameDriven Outcome ms ns (failed e r) (failed e q)
  failed_left : {r : Reader} {b : Driven O Reader} → SameDriven Outcome ms ns (failed (read.Names Full) r) b
  failed_right : {r : Reader} {a : Driven O Reader} → SameDriven Outcome ms ns a (failed (read.Names Full) r)

module _ {P O : Type 0} (Phase : Spellings → Spellings → P → P → Type 0) (Outcome : Spellings → Spellings → O → O → Type 0) where
  -- the two sides' automata may differ, as where each looks into its own table; they are fed under names onward from ms and ns
  pub record Respects (ms ns : Spellings) (f g : P → Token → Move P O) : Type 0 where
    pub phase_on : (os ps qs rs : Spellings) (p q : P) → Onward os ps qs rs → Phase os ps p q → Phase qs rs p q
    pub fed : (os ps : Spellings) (p q : P) (t u : Token) → Onward ms ns os ps → Both os ps → Phase os ps p q → SameToken os ps t u → SameMove (Phase os ps) (Outcome os ps) (f p t) (g q u)

  module _ (ms ns : Spellings) (f g : P → Token → Move P O) (h : Respects ms ns f g) where
    pub same_drive : {a b : Stream Reader} {d e : Move P O} (r q : Reader) → Onward ms ns r.stands.names q.stands.names → SameReader r q
        → SameStream r.stands.names q.stands.names a b
        → SameMove (Phase r.stands.names q.stands.names) (Outcome r.stands.names q.stands.names) d e
        → SameDriven Outcome ms ns (drive f d r a) (drive g e q b)
    same_drive r q o s k (same_out x) = same_came o s x
    same_drive r q o s (same_nothing j z) (same_on x) = same_ended (further o j) z
    same_drive r q o s (same_broken j z) (same_on x) = same_failed (further o j) z
    same_drive r q o s fault_left (same_on x) = failed_left
    same_drive r q o s fault_right (same_on x) = failed_right
    same_drive r q o s (same_token_lem {t = t} {u = u} {r = l} {q = m} j z c k) (same_on {h = x} {k = y} v) =
        let e = further o j in
        same_drive l m e z k (h.fed l.stands.names m.stands.names x y t u e z.sound (h.phase_on r.stands.names q.stands.names l.stands.names m.stands.names x y j v) c)
