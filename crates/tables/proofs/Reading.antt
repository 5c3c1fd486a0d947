-- A table read through a function does what the table does; what holds of its values goes on holding.
use Rattle.std.proofs.Common.{◌≡◌, ℕ, suc, ◌+◌, Bool, true, false, cond, not, ◌&&◌, eqb, leb, List, [], ◌∷◌, map, length, sym, refl, ap, ◌∙◌}
use mathlib.Core.Path.{fun_ext}
use Rattle.std.proofs.lemmas.Bool.{and_parts, and_from, cond_both}
use Rattle.tables.specs.declared.Entry.{Entry}
use Rattle.tables.specs.declared.Saved.{Saved}
use Rattle.tables.specs.Table.{Table, Groups, State, Op, open_group, close_group, assign_locally, assign_globally, is_zero, put, restored, undone, closed, closed_in, needs_in, needs_record, recorded, assigned, records, records_in, none_open, refused, step, tried, new}
use Rattle.tables.specs.Reading.{entry_by, saved_by, read_by, op_by, all_saved, all_in, Holds}

module _ {V W : Type 0} (f : V → W) where
  abbrev table_by : Table V → Table W
  table_by t k = entry_by f (t k)

  length_map : {X Y : Type 0} (h : X → Y) (xs : List X) → length (map h xs) ≡ length xs
  length_map h [] = refl
  length_map h (x ∷ xs) = ap suc (length_map h xs)

  read_cond : (b : Bool) (x y : Entry V) → entry_by f (cond b x y) ≡ cond b (entry_by f x) (entry_by f y)
  read_cond true x y = refl
  read_cond false x y = refl

  read_put : (t : Table V) (k : ℕ) (e : Entry V) → table_by (put t k e) ≡ put (table_by t) k (entry_by f e)
  read_put t k e = fun_ext λ j. read_cond (eqb j k) e (t j)

  read_restored : (r : Saved V) (t : Table V) → table_by (restored r t) ≡ restored (saved_by f r) (table_by t)
  read_restored r t = go (is_zero (t r.key).level)
    where
      go : (b : Bool) → table_by (cond b t (put t r.key r.entry)) ≡ cond b (table_by t) (put (table_by t) r.key (entry_by f r.entry))
      go true = refl
      go false = read_put t r.key r.entry

  read_undone : (rs : List (Saved V)) (t : Table V) → table_by (undone rs t) ≡ undone (map (saved_by f) rs) (table_by t)
  read_undone [] t = refl
  read_undone (r ∷ rs) t = read_undone rs (restored r t) ∙ ap (undone (map (saved_by f) rs)) (read_restored r t)

  pub read_closed : (s : State V) → read_by f (closed s) ≡ closed (read_by f s)
  read_closed s = go s.groups
    where
      go : (gs : Groups V) → read_by f (closed_in s.table gs) ≡ closed_in (table_by s.table) (map (map (saved_by f)) gs)
      go [] = refl
      go (g ∷ gs) = λ i. record { table = read_undone g s.table i; groups = map (map (saved_by f)) gs }

  pub read_needs : (s : State V) (k : ℕ) → needs_record (read_by f s) k ≡ needs_record s k
  read_needs s k = go s.groups
    where
      go : (gs : Groups V) → needs_in (map (map (saved_by f)) gs) (entry_by f (s.table k)) ≡ needs_in gs (s.table k)
      go [] = refl
      go (g ∷ gs) = ap (λ n. not (eqb (s.table k).level (suc n))) (length_map (map (saved_by f)) gs)

  pub read_records : (s : State V) → records (read_by f s) ≡ records s
  read_records s = go s.groups
    where
      go : (gs : Groups V) → records_in (map (map (saved_by f)) gs) ≡ records_in gs
      go [] = refl
      go (g ∷ gs) = λ i. length_map (saved_by f) g i + go gs i

  read_none : (gs : Groups V) → none_open (map (map (saved_by f)) gs) ≡ none_open gs
  read_none [] = refl
  read_none (g ∷ gs) = refl

  pub read_refused : (limit : ℕ) (s : State V) (o : Op V) → refused limit (read_by f s) (op_by f o) ≡ refused limit s o
  read_refused limit s open_group = refl
  read_refused limit s close_group = read_none s.groups
  read_refused limit s (assign_locally k v) = λ i. read_needs s k i && leb limit (read_records s i)
  read_refused limit s (assign_globally k v) = refl

  read_recorded : (b : Bool) (r : Saved V) (gs : Groups V)
      → map (map (saved_by f)) (cond b (recorded r gs) gs) ≡ cond b (recorded (saved_by f r) (map (map (saved_by f)) gs)) (map (map (saved_by f)) gs)
  read_recorded true r [] = refl
  read_recorded true r (g ∷ gs) = refl
  read_recorded false r gs = refl

  read_step : (s : State V) (o : Op V) → read_by f (step s o) ≡ step (read_by f s) (op_by f o)
  read_step s open_group = refl
  read_step s close_group = read_closed s
  read_step s (assign_locally k v) =
      let old : Saved V = record { key = k; entry = s.table k } in
      let gs : Groups W = map (map (saved_by f)) s.groups in
      (λ i. record {
        table = read_put s.table k (record { value = v; level = length s.groups }) i;
        groups = read_recorded (needs_record s k) old s.groups i;
      })
      ∙ (λ i. record {
        table = put (table_by s.table) k (record { value = f v; level = sym (length_map (map (saved_by f)) s.groups) i });
        groups = cond (sym (read_needs s k) i) (recorded (saved_by f old) gs) gs;
      })
  read_step s (assign_globally k v) = λ i. record { table = read_put s.table k (record { value = v; level = 0 }) i; groups = map (map (saved_by f)) s.groups }

  pub read_tried : (limit : ℕ) (s : State V) (o : Op V) → read_by f (tried limit s o) ≡ tried limit (read_by f s) (op_by f o)
  read_tried limit s o = go (refused limit s o) ∙ (λ i. cond (sym (read_refused limit s o) i) (read_by f s) (step (read_by f s) (op_by f o)))
    where
      go : (b : Bool) → read_by f (cond b s (step s o)) ≡ cond b (read_by f s) (step (read_by f s) (op_by f o))
      go true = refl
      go false = read_step s o

-- two readings that agree on every value that a state holds
module _ {V W : Type 0} (p : V → Bool) (f h : V → W) (same : (v : V) → p v ≡ true → f v ≡ h v) where
  same_saved : (rs : List (Saved V)) → all_saved p rs ≡ true → map (saved_by f) rs ≡ map (saved_by h) rs
  same_saved [] e = refl
  same_saved (r ∷ rs) e =
      let q = and_parts (p r.entry.value) (all_saved p rs) e in
      λ i. record { key = r.key; entry = record { value = same r.entry.value q.0 i; level = r.entry.level } } ∷ same_saved rs q.1 i

  same_groups : (gs : Groups V) → all_in p gs ≡ true → map (map (saved_by f)) gs ≡ map (map (saved_by h)) gs
  same_groups [] e = refl
  same_groups (g ∷ gs) e =
      let q = and_parts (all_saved p g) (all_in p gs) e in
      λ i. same_saved g q.0 i ∷ same_groups gs q.1 i

  pub read_same : (s : State V) → Holds p s → read_by f s ≡ read_by h s
  read_same s e = λ i. record { table = λ k. record { value = same (s.table k).value (e.0 k) i; level = (s.table k).level }; groups = same_groups s.groups e.1 i }

module _ {V : Type 0} (p : V → Bool) where
  holds_put : (t : Table V) (k : ℕ) (e : Entry V) → ((j : ℕ) → p (t j).value ≡ true) → p e.value ≡ true → (j : ℕ) → p (put t k e j).value ≡ true
  holds_put t k e h q j = cond_both (eqb j k) e (t j) (λ x. p x.value ≡ true) (λ _. q) (λ _. h j)

  holds_restored : (r : Saved V) (t : Table V) → ((j : ℕ) → p (t j).value ≡ true) → p r.entry.value ≡ true → (j : ℕ) → p (restored r t j).value ≡ true
  holds_restored r t h q = go (is_zero (t r.key).level)
    where
      go : (b : Bool) (j : ℕ) → p (cond b t (put t r.key r.entry) j).value ≡ true
      go true = h
      go false = holds_put t r.key r.entry h q

  holds_undone : (rs : List (Saved V)) (t : Table V) → ((j : ℕ) → p (t j).value ≡ true) → all_saved p rs ≡ true → (j : ℕ) → p (undone rs t j).value ≡ true
  holds_undone [] t h e = h
  holds_undone (r ∷ rs) t h e =
      let q = and_parts (p r.entry.value) (all_saved p rs) e in
      holds_undone rs (restored r t) (holds_restored r t h q.0) q.1

  pub holds_closed : (s : State V) → Holds p s → Holds p (closed s)
  holds_closed s h = go s.groups h.1
    where
      go : (gs : Groups V) → all_in p gs ≡ true → Holds p (closed_in s.table gs)
      go [] e = (h.0, refl)
      go (g ∷ gs) e = let q = and_parts (all_saved p g) (all_in p gs) e in (holds_undone g s.table h.0 q.0, q.1)

  holds_recorded : (b : Bool) (r : Saved V) (gs : Groups V) → all_in p gs ≡ true → p r.entry.value ≡ true → all_in p (cond b (recorded r gs) gs) ≡ true
  holds_recorded true r [] e q = refl
  holds_recorded true r (g ∷ gs) e q =
      let h = and_parts (all_saved p g) (all_in p gs) e in
      and_from (p r.entry.value && all_saved p g) (all_in p gs) (and_from (p r.entry.value) (all_saved p g) q h.0) h.1
  holds_recorded false r gs e q = e

  pub holds_assigned : (s : State V) (k : ℕ) (v : V) → Holds p s → p v ≡ true → Holds p (assigned s k v)
  holds_assigned s k v h q = (
    holds_put s.table k (record { value = v; level = length s.groups }) h.0 q,
    holds_recorded (needs_record s k) (record { key = k; entry = s.table k }) s.groups h.1 (h.0 k),
  )

  pub holds_new : (first : ℕ → V) → ((k : ℕ) → p (first k) ≡ true) → Holds p (new first)
  holds_new first h = (h, refl)

  -- an assignment, local or global, done or refused
  pub holds_local : (limit : ℕ) (s : State V) (k : ℕ) (v : V) → Holds p s → p v ≡ true → Holds p (tried limit s (assign_locally k v))
  holds_local limit s k v h q = cond_both (refused limit s (assign_locally k v)) s (assigned s k v) (Holds p) (λ _. h) (λ _. holds_assigned s k v h q)

  pub holds_global : (limit : ℕ) (s : State V) (k : ℕ) (v : V) → Holds p s → p v ≡ true → Holds p (tried limit s (assign_globally k v))
  holds_global limit s k v h q = (holds_put s.table k (record { value = v; level = 0 }) h.0 q, h.1)

-- what holds by one test holds by a weaker one
module _ {V : Type 0} (p q : V → Bool) (more : (v : V) → p v ≡ true → q v ≡ true) where
  more_saved : (rs : List (Saved V)) → all_saved p rs ≡ true → all_saved q rs ≡ true
  more_saved [] e = refl
  more_saved (r ∷ rs) e =
      let h = and_parts (p r.entry.value) (all_saved p rs) e in
      and_from (q r.entry.value) (all_saved q rs) (more r.entry.value h.0) (more_saved rs h.1)

  more_groups : (gs : Groups V) → all_in p gs ≡ true → all_in q gs ≡ true
  more_groups [] e = refl
  more_groups (g ∷ gs) e =
      let h = and_parts (all_saved p g) (all_in p gs) e in
      and_from (all_saved q g) (all_in q gs) (more_saved g h.0) (more_groups gs h.1)

  pub holds_more : (s : State V) → Holds p s → Holds q s
  holds_more s h = (λ k. more (s.table k).value (h.0 k), more_groups s.groups h.1)
