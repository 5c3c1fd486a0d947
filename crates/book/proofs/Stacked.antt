-- Save records in one list, oldest first, with a base for each group: the innermost base first.
use Rattle.std.proofs.Common.{◌≡◌, ℕ, zero, suc, ◌+◌, ◌-◌, ◌<◌, ◌≤◌, true, false, cond, not, eqb, ltb, leb, List, [], ◌∷◌, ◌++◌, reverse, length, get_or, take, drop, replicate, vec_items, vec_len, sym, refl, ap, ◌∙◌, subst, arith}
use Rattle.std.proofs.lemmas.List.{reverse-append, length-reverse, take-append-drop, length-take-le, take_all, drop_all, take-append-le, drop-append-le, length-drop, drop_more}
use Rattle.std.proofs.lemmas.Bool.{and_parts, and_from, leb-true, le-leb, eqb-true, ltb-true, lt-ltb}
use Rattle.tables.specs.declared.Entry.{Entry}
use Rattle.tables.specs.declared.Saved.{Saved}
use Rattle.tables.specs.Table.{Table, recorded, records_in, records, needs_in, restored, undone, put, is_zero}
use Rattle.book.specs.declared.grouped.Grouped.{Grouped}
use Rattle.book.specs.Bases.{bounded, groups_of, keys_below}
use Rattle.book.specs.Tabled.{state_of}

-- bounds
pub bounded_head : (n b : ℕ) (bs : List ℕ) → bounded n (b ∷ bs) ≡ true → (b ≤ n) × (bounded b bs ≡ true)
bounded_head n b bs h = let p = and_parts (leb b n) (bounded b bs) h in (leb-true b n p.0, p.1)

pub bounded_cons : (n b : ℕ) (bs : List ℕ) → b ≤ n → bounded b bs ≡ true → bounded n (b ∷ bs) ≡ true
bounded_cons n b bs h k = and_from (leb b n) (bounded b bs) (le-leb b n h) k

pub bounded_more : (n m : ℕ) (bs : List ℕ) → 0 < length bs → n ≤ m → bounded n bs ≡ true → bounded m bs ≡ true
bounded_more n m [] e l h = absurd (omega arith)
bounded_more n m (b ∷ bs) e l h = let p = bounded_head n b bs h in let q = p.0 in bounded_cons m b bs (omega arith) p.1

module _ {V : Type 0} where
  pub groups_length : (bs : List ℕ) (ss : List (Saved V)) → length (groups_of bs ss) ≡ length bs
  groups_length [] ss = refl
  groups_length (b ∷ bs) ss = ap suc (groups_length bs (take b ss))

  pub groups_records : (bs : List ℕ) (ss : List (Saved V)) → bounded (length ss) bs ≡ true → records_in (groups_of bs ss) ≡ length ss
  groups_records [] ss h = sym (eqb-true (length ss) 0 h)
  groups_records (b ∷ bs) ss h =
      let p = bounded_head (length ss) b bs h in
      let q = p.0 in
      let t : length (take b ss) ≡ b = length-take-le b ss q in
      let r : records_in (groups_of bs (take b ss)) ≡ length (take b ss) = groups_records bs (take b ss) (rw t p.1) in
      omega (arith, length-reverse (drop b ss), length-drop b ss)

  pub groups_pushed : (bs : List ℕ) (ss : List (Saved V)) (r : Saved V) → bounded (length ss) bs ≡ true
      → groups_of bs (ss ++ r ∷ []) ≡ recorded r (groups_of bs ss)
  groups_pushed [] ss r h = refl
  groups_pushed (b ∷ bs) ss r h =
      let q = (bounded_head (length ss) b bs h).0 in
      rw (drop-append-le b ss (r ∷ []) q, take-append-le b ss (r ∷ []) q, reverse-append (drop b ss) (r ∷ []))

  pub groups_opened : (bs : List ℕ) (ss : List (Saved V)) (n : ℕ) → n ≡ length ss → groups_of (n ∷ bs) ss ≡ [] ∷ groups_of bs ss
  groups_opened bs ss n e =
      let h : length ss ≤ n = omega arith in
      rw (drop_all n ss h, take_all n ss h)

  -- in a group, a record is needed unless the level is the group's depth
  pub needs_in_lem : (bs : List ℕ) (ss : List (Saved V)) (e : Entry V) (level depth : ℕ) → level ≡ e.level → depth ≡ length bs → 0 < depth
      → not (eqb level depth) ≡ needs_in (groups_of bs ss) e
  needs_in_lem [] ss e level depth f h k = absurd (omega arith)
  needs_in_lem (b ∷ bs) ss e level depth f h k =
      let m : depth ≡ suc (length (groups_of bs (take b ss))) = h ∙ ap suc (sym (groups_length bs (take b ss))) in
      λ i. not (eqb (f i) (m i))

  pub needs_none : (bs : List ℕ) (ss : List (Saved V)) (e : Entry V) → length bs ≡ 0 → false ≡ needs_in (groups_of bs ss) e
  needs_none [] ss e h = refl
  needs_none (b ∷ bs) ss e h = absurd (omega arith)

  -- keys
  pub keys_push : (n : ℕ) (ss : List (Saved V)) (r : Saved V) → keys_below n ss ≡ true → r.key < n → keys_below n (ss ++ r ∷ []) ≡ true
  keys_push n [] r h k = and_from (ltb r.key n) true (lt-ltb r.key n k) refl
  keys_push n (s ∷ ss) r h k =
      let p = and_parts (ltb s.key n) (keys_below n ss) h in
      and_from (ltb s.key n) (keys_below n (ss ++ r ∷ [])) p.0 (keys_push n ss r p.1 k)

  pub keys_front : (n : ℕ) (ss ts : List (Saved V)) → keys_below n (ss ++ ts) ≡ true → keys_below n ss ≡ true
  keys_front n [] ts h = refl
  keys_front n (s ∷ ss) ts h =
      let p = and_parts (ltb s.key n) (keys_below n (ss ++ ts)) h in
      and_from (ltb s.key n) (keys_below n ss) p.0 (keys_front n ss ts p.1)

  pub keys_take : (n b : ℕ) (ss : List (Saved V)) → keys_below n ss ≡ true → keys_below n (take b ss) ≡ true
  keys_take n b ss h = keys_front n (take b ss) (drop b ss) (rw take-append-drop h)

  pub keys_at : (n i : ℕ) (ss : List (Saved V)) (r : Saved V) → keys_below n ss ≡ true → i < length ss → r ≡ get_or ss i r → r.key < n
  keys_at n i [] r h l e = absurd (omega arith)
  keys_at n zero (s ∷ ss) r h l e = rw e (ltb-true s.key n (and_parts (ltb s.key n) (keys_below n ss) h).0)
  keys_at n (suc i) (s ∷ ss) r h l e = keys_at n i ss r (and_parts (ltb s.key n) (keys_below n ss) h).1 (omega arith) e

  pub keys_end : (n : ℕ) (ss : List (Saved V)) (r : Saved V) → keys_below n (ss ++ r ∷ []) ≡ true → r.key < n
  keys_end n [] r h = ltb-true r.key n (and_parts (ltb r.key n) true h).0
  keys_end n (s ∷ ss) r h = keys_end n ss r (and_parts (ltb s.key n) (keys_below n (ss ++ r ∷ [])) h).1

  keys_back : (n : ℕ) (ss ts : List (Saved V)) → keys_below n (ss ++ ts) ≡ true → keys_below n ts ≡ true
  keys_back n [] ts h = h
  keys_back n (s ∷ ss) ts h = keys_back n ss ts (and_parts (ltb s.key n) (keys_below n (ss ++ ts)) h).1

  pub keys_drop : (n b : ℕ) (ss : List (Saved V)) → keys_below n ss ≡ true → keys_below n (drop b ss) ≡ true
  keys_drop n b ss h = keys_back n (take b ss) (drop b ss) (rw take-append-drop h)

  -- records are undone from the end on
  pub undone_end : (ss : List (Saved V)) (r : Saved V) (t : Table V) → undone (reverse (ss ++ r ∷ [])) t ≡ undone (reverse ss) (restored r t)
  undone_end ss r t = ap (λ (rs : List (Saved V)). undone rs t) (reverse-append ss (r ∷ []))

  pub undone_none : (ss : List (Saved V)) (t : Table V) → length ss ≡ 0 → t ≡ undone (reverse ss) t
  undone_none [] t e = refl
  undone_none (s ∷ ss) t e = absurd (omega arith)

  -- records undone from the end down: one more
  undone_last : (rs : List (Saved V)) (r : Saved V) (t : Table V) → undone (rs ++ r ∷ []) t ≡ restored r (undone rs t)
  undone_last [] r t = refl
  undone_last (s ∷ rs) r t = undone_last rs r (restored s t)

  pub undone_more : (i : ℕ) (ss : List (Saved V)) (r : Saved V) (t : Table V) → 0 < i → i ≤ length ss → r ≡ get_or ss (i - 1) r
      → restored r (undone (reverse (drop i ss)) t) ≡ undone (reverse (drop (i - 1) ss)) t
  undone_more i ss r t h l e =
      let k : i - 1 < length ss = omega arith in
      let n : i - 1 + 1 ≡ i = omega arith in
      let f : drop (i - 1) ss ≡ r ∷ drop i ss = drop_more ss (i - 1) r k ∙ (λ j. sym e j ∷ drop (n j) ss) in
      sym (undone_last (reverse (drop i ss)) r t)
      ∙ ap (λ (rs : List (Saved V)). undone rs t) (sym (reverse-append (r ∷ []) (drop i ss)) ∙ ap reverse (sym f))

-- a record undone where the present value is not global
pub restored_over : {V : Type 0} (r : Saved V) (t : Table V) (n : ℕ) → n ≡ (t r.key).level → (n ≡ 0 → ⊥) → put t r.key r.entry ≡ restored r t
restored_over r t zero e h = absurd (h refl)
restored_over r t (suc n) e h = ap (λ k. cond (is_zero k) t (put t r.key r.entry)) e

-- the innermost base taken off
pub bases_popped : (xs ys : List ℕ) (b : ℕ) → xs ≡ ys ++ b ∷ [] → reverse xs ≡ b ∷ reverse ys
bases_popped xs ys b e = ap reverse e ∙ reverse-append ys (b ∷ [])

-- of a grouped table: how many records and how many groups its state has
module _ {V : Type 0} (d : Entry V) (t : Grouped V) where
  pub records_of : vec_len t.saved.held ≡ records (state_of d t)
  records_of =
      let bs = reverse (vec_items t.bases.held) in
      t.saved.held.ok.0
      ∙ sym (groups_records bs (vec_items t.saved.held) (subst (λ (n : ℕ). bounded n bs ≡ true) t.saved.held.ok.0 t.based))

  pub depth_of : vec_len t.bases.held ≡ length (state_of d t).groups
  depth_of = t.bases.held.ok.0 ∙ sym (length-reverse (vec_items t.bases.held)) ∙ sym (groups_length (reverse (vec_items t.bases.held)) (vec_items t.saved.held))

-- first levels
pub zeros : (n k d : ℕ) → d ≡ 0 → get_or (replicate n 0) k d ≡ 0
zeros zero k d e = e
zeros (suc n) zero d e = refl
zeros (suc n) (suc k) d e = zeros n k d e
