-- What the calls of a book do to its state.
use Rattle.std.proofs.Common.{◌≡◌, ℕ, ◌+◌, ◌-◌, ◌<◌, Bool, true, false, cond, eqb, ltb, List, [], ◌∷◌, ◌++◌, reverse, length, get_or, is_some, Some, None, Ok, Err, Option, sym, refl, ap, ◌∙◌, arith}
use Rattle.std.specs.Option.{option_to_list}
use Rattle.std.proofs.lemmas.List.{reverse-append, length-reverse, get_or-reverse}
use Rattle.std.proofs.lemmas.Bool.{ltb-false}
use Rattle.tokens.specs.declared.answer.GroupKind.{GroupKind}
use Rattle.tokens.specs.declared.answer.Scope.{Scope}
use Rattle.tokens.specs.declared.answer.Scope.TheVariants.{Local, Global}
use Rattle.tables.specs.Table.{State, Op, refused, step, tried}
use Rattle.tables.specs.Reading.{read_by, op_by, Holds}
use Rattle.tables.proofs.Reading.{read_refused, read_tried, holds_local, holds_global}
use Rattle.book.specs.declared.fault.BookFault.{BookFault}
use Rattle.book.specs.declared.fault.BookFault.TheVariants.{RecordsFull}
use Rattle.tokens.specs.Words.{group_number}
use Rattle.book.specs.Books.{BookState, after, naming, innermost, is_innermost, without}
use Rattle.book.specs.Faults.{answered}
use Rattle.book.specs.Meanings.{Means}
use Rattle.book.specs.Scopes.{operation, record_answer}

module _ {V W : Type 0} (f : V → W) where
  pub op_read : (scope : Scope) (k : ℕ) (v : V) → op_by f (operation scope k v) ≡ operation scope k (f v)
  op_read Local k v = refl
  op_read Global k v = refl

  -- an assignment as its reading sees it: its answer and its state
  pub answer_read : (limit : ℕ) (s : State V) (scope : Scope) (k : ℕ) (v : V) (e : BookFault)
      → answered (refused limit s (operation scope k v)) e ≡ answered (refused limit (read_by f s) (operation scope k (f v))) e
  answer_read limit s scope k v e =
      ap (λ b. answered b e) (sym (read_refused f limit s (operation scope k v)) ∙ ap (refused limit (read_by f s)) (op_read scope k v))

  pub state_read : (limit : ℕ) (s : State V) (scope : Scope) (k : ℕ) (v : V)
      → read_by f (tried limit s (operation scope k v)) ≡ tried limit (read_by f s) (operation scope k (f v))
  state_read limit s scope k v = read_tried f limit s (operation scope k v) ∙ ap (tried limit (read_by f s)) (op_read scope k v)

pub holds_tried : {V : Type 0} (p : V → Bool) (limit : ℕ) (s : State V) (scope : Scope) (k : ℕ) (v : V) → Holds p s → p v ≡ true
    → Holds p (tried limit s (operation scope k v))
holds_tried p limit s Local k v h q = holds_local p limit s k v h q
holds_tried p limit s Global k v h q = holds_global p limit s k v h q

-- a call that is refused if a test holds
module _ (test : Bool) (f : BookFault) (was does : BookState) where
  pub if_refused : test ≡ true → (Err f ≡ answered test f) × (was ≡ after (answered test f) was does)
  if_refused e = (ap (λ x. answered x f) (sym e), ap (λ x. after (answered x f) was does) (sym e))

  pub if_done : test ≡ false → (Ok tt ≡ answered test f) × (does ≡ after (answered test f) was does)
  if_done e = (ap (λ x. answered x f) (sym e), ap (λ x. after (answered x f) was does) (sym e))

-- an assignment to a name, refused or done
pub names_after_lem : (b : BookState) (o : Op Means)
    → record { names = tried 2048 b.names o; codes = b.codes; groups = b.groups; words = b.words } ≡ after (record_answer b.names o) b (naming o b)
names_after_lem b o = go (refused 2048 b.names o)
  where
    go : (x : Bool) → record { names = cond x b.names (step b.names o); codes = b.codes; groups = b.groups; words = b.words } ≡ after (answered x RecordsFull) b (naming o b)
    go true = refl
    go false = refl

-- kinds that lie outermost first, told innermost first
pub kinds_pushed : (ks : List GroupKind) (k : GroupKind) → reverse (ks ++ k ∷ []) ≡ k ∷ reverse ks
kinds_pushed ks k = reverse-append ks (k ∷ [])

pub kinds_popped : (ys : List GroupKind) (r : Option GroupKind) → is_some r ≡ ltb 0 (length (ys ++ option_to_list r)) → reverse ys ≡ without (reverse (ys ++ option_to_list r))
kinds_popped [] None h = refl
kinds_popped (y ∷ ys) None h = absurd (omega (arith, ltb-false 0 (length (y ∷ (ys ++ []))) (sym h)))
kinds_popped ys (Some k) h = rw (kinds_pushed ys k)

head_is : (ks : List GroupKind) (k : GroupKind) → 0 < length ks → Some (get_or ks 0 k) ≡ innermost ks
head_is [] k h = absurd (omega arith)
head_is (j ∷ ks) k h = refl

none_is : (ks : List GroupKind) → length ks ≡ 0 → None ≡ innermost ks
none_is [] h = refl
none_is (k ∷ ks) h = absurd (omega arith)

pub last_is : (ks : List GroupKind) (k : GroupKind) → 0 < length ks → k ≡ get_or ks (length ks - 1) k → Some k ≡ innermost (reverse ks)
last_is ks k h e =
    let n : length ks - 1 - 0 ≡ length ks - 1 = omega arith in
    let f : get_or (reverse ks) 0 k ≡ k = get_or-reverse ks 0 k h ∙ ap (λ m. get_or ks m k) n ∙ sym e in
    let z : 0 < length (reverse ks) = rw length-reverse h in
    ap Some (sym f) ∙ head_is (reverse ks) k z

pub is_innermost_lem : (ks : List GroupKind) (k kind : GroupKind) → Some k ≡ innermost ks
    → (eqb (group_number k) (group_number kind) ≡ is_innermost kind ks) × (0 < length ks)
is_innermost_lem [] k kind e = absurd (let z : ◌≡◌ {A = ℕ} 0 1 = cc in omega arith)
is_innermost_lem (j ∷ ks) k kind e = let f : k ≡ j = cc in (ap (λ i. eqb (group_number i) (group_number kind)) f, omega arith)

pub nothing_is : (ks : List GroupKind) → length ks ≡ 0 → None ≡ innermost (reverse ks)
nothing_is ks h = none_is (reverse ks) (length-reverse ks ∙ h)

pub one_popped : (a n : ℕ) (r : Option GroupKind) → is_some r ≡ true → a + length (option_to_list r) ≡ n → a + 1 ≡ n
one_popped a n None e h = absurd (let z : ◌≡◌ {A = ℕ} 0 1 = cc in omega arith)
one_popped a n (Some k) e h = h
