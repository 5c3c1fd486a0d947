-- What a read answers and leaves, by what was ahead.
use Rattle.std.proofs.Common.{◌≡◌, ℕ, ◌<◌, ◌⊎◌, List, [], Some, None, Ok, Err, vec_items, vec_len, Option, Result, sym, refl, ap, ◌∙◌, inl, inr, arith}
use lib.ListN
use Rattle.tokens.specs.declared.token.Token.{Token}
use Rattle.lines.specs.Line.{Categories, Item}
use Rattle.names.specs.Naming.{Spellings}
use Rattle.sources.specs.declared.fault.Place.{Place}
use Rattle.sources.specs.declared.fault.LineFault.{LineFault}
use Rattle.sources.specs.declared.fault.PileFault.{PileFault}
use Rattle.sources.specs.declared.fault.PileFault.TheVariants.{Line}
use Rattle.sources.specs.declared.text.Text.{Text}
use Rattle.sources.specs.Ahead.{Ahead, none, fault, token, ahead_of, head_answer, head_names, head_items, Turned, Unnamed, Onward}
use Rattle.sources.specs.Texts.{place_in}
use Rattle.sources.specs.Texted.{text_ahead, text_place, text_lines}
use Rattle.sources.specs.Placing.{text_place_lem}

module _ (p : Place) (a : Ahead) where
  abbrev pub Answered : Result (Option Token) PileFault → Spellings → List Item → Type 0
  Answered r ns is = (r ≡ head_answer p a) × (ns ≡ head_names a) × (is ≡ head_items a)

  pub some_answered : (t : Token) (ns : Spellings) (is : List Item) (more : Ahead) → a ≡ token t ns is more → Answered (Ok (Some t)) ns is
  some_answered t ns is more e = rw e (refl, refl, refl)

  pub fault_answered : (e : LineFault) (ns : Spellings) (is : List Item) → a ≡ fault e.refusal ns is → e.place ≡ p → Answered (Err (Line e)) ns is
  fault_answered e ns is f q = rw f (ap (λ (x : Place). Err (Line (record { refusal = e.refusal; place = x }))) q, refl, refl)

  pub none_answered : (cs : Categories) (ns : Spellings) (is : List Item) → a ≡ ahead_of cs ns is → is ≡ [] → Answered (Ok None) ns is
  unfolding ahead_of
  none_answered cs ns is e f = let g : a ≡ none ns = rw f at e in rw (g, f) (refl, refl, refl)

pub text_placed : (t : Text) → (0 < t.cursor.taken) ⊎ (t.cursor.taken ≡ vec_len t.line) → text_place t ≡ place_in (text_lines t) (text_ahead t)
text_placed t h =
    let w = t.line.ok.0 in
    let i = t.within in
    sym (text_place_lem (vec_items t.bytes) (vec_items t.line) t.next t.number t.cursor.taken t.cursor.state t.begun (omega arith) (at h))
  where
    at : (0 < t.cursor.taken) ⊎ (t.cursor.taken ≡ vec_len t.line) → (0 < t.cursor.taken) ⊎ (t.cursor.taken ≡ lib.ListN.length (vec_items t.line))
    at (inl p) = inl p
    at (inr p) = inr (p ∙ t.line.ok.0)

-- what a line's read said, once its answer is known
module _ (cs : Categories) (a : Ahead) (ns ms : Spellings) (is : List Item) (o : Option Token) where
  pub turned_some : (t : Token) → o ≡ Some t → Turned cs a (Ok o) ns is → a ≡ token t ns is (ahead_of cs ns is)
  turned_some t e h = rw e at h

  pub turned_none : o ≡ None → Turned cs a (Ok o) ns is → a ≡ ahead_of cs ns is
  turned_none e h = rw e at h

  pub unnamed_none : o ≡ None → Unnamed (Ok o) ns ms → ms ≡ ns
  unnamed_none e h = rw e at h

pub onward_some : (n all : ℕ) (o : Option Token) (t : Token) → o ≡ Some t → Onward (Ok o) 0 n all → 0 < n
onward_some n all o t e h = rw e at h
