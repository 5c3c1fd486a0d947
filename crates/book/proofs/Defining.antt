-- A definition: its words come after all others, so no meaning held before changes.
use Rattle.std.proofs.Common.{◌≡◌, ℕ, ◌+◌, ◌≤◌, Bool, true, false, cond, ◌&&◌, leb, List, ◌++◌, length, take, drop, Ok, Err, Result, sym, refl, ap, ◌∙◌, subst, arith}
use Rattle.std.proofs.lemmas.List.{drop_at, take_all, drop-append-le, take-append-le, length-drop}
use Rattle.std.proofs.lemmas.Bool.{and_parts, and_from, leb-true, le-leb}
use Rattle.tokens.specs.declared.answer.Scope.{Scope}
use Rattle.tokens.specs.declared.answer.Scope.TheVariants.{Local, Global}
use Rattle.tables.specs.Table.{State, refused, tried}
use Rattle.tables.specs.Reading.{read_by, Holds}
use Rattle.tables.proofs.Reading.{read_needs, read_records, read_same, holds_more}
use Rattle.book.specs.declared.fault.BookFault.{BookFault}
use Rattle.tokens.specs.declared.stored.ParameterWord.{ParameterWord}
use Rattle.tokens.specs.declared.stored.BodyWord.{BodyWord}
use Rattle.book.specs.declared.meaning.Span.{Span}
use Rattle.book.specs.declared.meaning.Macro as of_macro
use Rattle.book.specs.declared.meaning.Held.{Held}
use Rattle.book.specs.declared.meaning.Held.TheVariants.{Plain, Macro}
use Rattle.book.specs.Faults.{answered}
use Rattle.book.specs.Meanings.{macro, part, means_of, within}
use Rattle.book.specs.Scopes.{operation}
use Rattle.book.proofs.Calling.{state_read, holds_tried}

-- what an assignment is refused for is not its value
pub refused_read : {V W : Type 0} (f : V → W) (limit : ℕ) (s : State V) (scope : Scope) (k : ℕ) (v : V) (w : W)
    → refused limit (read_by f s) (operation scope k w) ≡ refused limit s (operation scope k v)
refused_read f limit s Local k v w = λ i. read_needs f s k i && leb limit (read_records f s i)
refused_read f limit s Global k v w = refl

-- past two tests that were not met
pub past_checks : (x y : Bool) (f g : BookFault) (rest : Result (Unit {0}) BookFault)
    → ◌≡◌ {A = Result (Unit {0}) BookFault} (Ok tt) (cond x (Err f) (cond y (Err g) (Ok tt))) → cond x (Err f) (cond y (Err g) rest) ≡ rest
past_checks true y f g rest e = absurd (let z : ◌≡◌ {A = ℕ} 0 1 = cc in omega arith)
past_checks false true f g rest e = absurd (let z : ◌≡◌ {A = ℕ} 0 1 = cc in omega arith)
past_checks false false f g rest e = refl

pub was_refused : (x : Bool) (f e : BookFault) → Err e ≡ answered x f → (x ≡ true) × (e ≡ f)
was_refused true f e h = (refl, cc)
was_refused false f e h = absurd (let z : ◌≡◌ {A = ℕ} 0 1 = cc in omega arith)

pub was_done : (x : Bool) (f : BookFault) → Ok tt ≡ answered x f → x ≡ false
was_done true f h = absurd (let z : ◌≡◌ {A = ℕ} 0 1 = cc in omega arith)
was_done false f h = refl

-- a part of a list that grows at its end, and the new end itself
part_kept : {X : Type 0} (s : Span) (xs ys : List X) → s.start + s.count ≤ length xs → part s (xs ++ ys) ≡ part s xs
part_kept s xs ys h =
    let a : s.start ≤ length xs = omega arith in
    let b : s.count ≤ length (drop s.start xs) = simp length-drop (omega arith) in
    ap (take s.count) (drop-append-le s.start xs ys a) ∙ take-append-le s.count (drop s.start xs) ys b

part_new : {X : Type 0} (n : ℕ) (xs ys : List X) → n ≡ length xs → part (record { start = n; count = length ys }) (xs ++ ys) ≡ ys
part_new n xs ys e = ap (take (length ys)) (drop_at xs ys n (sym e)) ∙ take_all (length ys) ys (omega arith)

module _ (ps ps' : List ParameterWord) (bs bs' : List BodyWord) (n m : ℕ) (ns : n ≡ length ps) (ms : m ≡ length bs) where
  abbrev pub place : Bool → of_macro.Macro
  place long = record { long = long; parameters = record { start = n; count = length ps' }; body = record { start = m; count = length bs' } }

  pub place_means : (long : Bool) → means_of (ps ++ ps') (bs ++ bs') (Macro (place long)) ≡ macro long ps' bs'
  place_means long = λ i. macro long (part_new n ps ps' ns i) (part_new m bs bs' ms i)

  means_kept : (v : Held) → within n m v ≡ true → means_of (ps ++ ps') (bs ++ bs') v ≡ means_of ps bs v
  means_kept (Plain x) h = refl
  means_kept (Macro p) h =
      let q = and_parts (leb (p.parameters.start + p.parameters.count) n) (leb (p.body.start + p.body.count) m) h in
      let a = leb-true (p.parameters.start + p.parameters.count) n q.0 in
      let b = leb-true (p.body.start + p.body.count) m q.1 in
      λ i. macro p.long (part_kept p.parameters ps ps' (omega arith) i) (part_kept p.body bs bs' (omega arith) i)

  -- the names after a definition
  pub defined : (qs : List ParameterWord) (cs : List BodyWord) → qs ≡ ps ++ ps' → cs ≡ bs ++ bs'
      → (s t : State Held) (scope : Scope) (k : ℕ) (long : Bool) → Holds (within n m) s → t ≡ tried 2048 s (operation scope k (Macro (place long)))
      → read_by (means_of qs cs) t ≡ tried 2048 (read_by (means_of ps bs) s) (operation scope k (macro long ps' bs'))
  defined qs cs e f s t scope k long h g =
      (λ i. read_by (means_of (e i) (f i)) (g i))
      ∙ state_read (means_of (ps ++ ps') (bs ++ bs')) 2048 s scope k (Macro (place long))
      ∙ (λ i. tried 2048 (read_same (within n m) (means_of (ps ++ ps') (bs ++ bs')) (means_of ps bs) means_kept s h i) (operation scope k (place_means long i)))

  -- all held meanings lie within the words, the new one too
  module _ (n' m' : ℕ) (nl : n' ≡ n + length ps') (ml : m' ≡ m + length bs') where
    within_more : (v : Held) → within n m v ≡ true → within n' m' v ≡ true
    within_more (Plain x) h = refl
    within_more (Macro p) h =
        let q = and_parts (leb (p.parameters.start + p.parameters.count) n) (leb (p.body.start + p.body.count) m) h in
        let a = leb-true (p.parameters.start + p.parameters.count) n q.0 in
        let b = leb-true (p.body.start + p.body.count) m q.1 in
        and_from (leb (p.parameters.start + p.parameters.count) n') (leb (p.body.start + p.body.count) m')
        (le-leb (p.parameters.start + p.parameters.count) n' (omega arith)) (le-leb (p.body.start + p.body.count) m' (omega arith))

    pub defined_within : (s t : State Held) (scope : Scope) (k : ℕ) (long : Bool) → Holds (within n m) s
        → t ≡ tried 2048 s (operation scope k (Macro (place long))) → Holds (within n' m') t
    defined_within s t scope k long h g =
        let q : within n' m' (Macro (place long)) ≡ true = and_from (leb (n + length ps') n') (leb (m + length bs') m') (le-leb (n + length ps') n' (omega arith)) (le-leb (m + length bs') m' (omega arith)) in
        subst (Holds (within n' m')) (sym g) (holds_tried (within n' m') 2048 s scope k (Macro (place long)) (holds_more (within n m) (within n' m') within_more s h) q)
