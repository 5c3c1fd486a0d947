-- The invariant: after any number of closings the table is what the diary then tells, levels included.
use Rattle.std.proofs.Common.{◌≡◌, ℕ, suc, ◌≤◌, Bool, true, false, cond, not, eqb, List, [], ◌∷◌, length, sym, refl, ap, ◌∙◌, subst, inl, inr, zero-le, arith}
use mathlib.Core.Path.{fun_ext}
use Rattle.std.proofs.lemmas.Bool.{eqb-true, cond_both}
use Rattle.tables.specs.declared.Entry.{Entry}
use Rattle.tables.specs.declared.Saved.{Saved}
use Rattle.tables.specs.Table.{Table, Groups, State, Op, open_group, close_group, assign_locally, assign_globally, is_zero, put, undone, needs_in, recorded, refused, step, run, done, new}
use Rattle.tables.specs.Diary.{Diary, opening, local, global, struck, written, diary_from, survivor}
use Rattle.tables.proofs.OneKey.{restored_at, undone_at, undone_at_lem, global_stays, forgets}

module _ {V : Type 0} where
  abbrev pub openings : Diary V → ℕ
  openings [] = 0
  openings (opening ∷ d) = suc (openings d)
  openings (local k v ∷ d) = openings d
  openings (global k v ∷ d) = openings d

  cond_value : (b : Bool) (x y : Entry V) → (cond b x y).value ≡ cond b x.value y.value
  cond_value true x y = refl
  cond_value false x y = refl

  abbrev pub at_level : V → ℕ → Entry V
  at_level v n = record { value = v; level = n }

  -- a global assignment before a closing, or after it
  undone_global : (rs : List (Saved V)) (t : Table V) (k : ℕ) (v : V) → undone rs (put t k (at_level v 0)) ≡ put (undone rs t) k (at_level v 0)
  undone_global rs t k v = fun_ext λ j. undone_at_lem rs (put t k (at_level v 0)) j ∙ go j (eqb j k)
    where
      go : (j : ℕ) (b : Bool) → undone_at j rs (cond b (at_level v 0) (t j)) ≡ cond b (at_level v 0) (undone rs t j)
      go j true = global_stays rs j (at_level v 0) refl
      go j false = sym (undone_at_lem rs t j)

module _ {V : Type 0} (first : ℕ → V) where
  -- the survivor with its level: the openings left below it, or 0 if it is global
  abbrev pub told : Diary V → Table V
  told [] k = record { value = first k; level = 0 }
  told (opening ∷ d) k = told d k
  told (local j v ∷ d) k = put (told d) j (at_level v (openings d)) k
  told (global j v ∷ d) k = put (told d) j (at_level v 0) k

  pub told_value : (d : Diary V) (k : ℕ) → (told d k).value ≡ survivor first d k
  told_value [] k = refl
  told_value (opening ∷ d) k = told_value d k
  told_value (local j v ∷ d) k = cond_value (eqb k j) _ (told d k) ∙ ap (cond (eqb k j) v) (told_value d k)
  told_value (global j v ∷ d) k = cond_value (eqb k j) _ (told d k) ∙ ap (cond (eqb k j) v) (told_value d k)

  told_level : (d : Diary V) (k : ℕ) → (told d k).level ≤ openings d
  told_level [] k = zero-le
  told_level (opening ∷ d) k = let h = told_level d k in omega arith
  told_level (local j v ∷ d) k = cond_both (eqb k j) _ (told d k) (λ x. x.level ≤ openings d) (λ e. omega arith) (λ e. told_level d k)
  told_level (global j v ∷ d) k = cond_both (eqb k j) _ (told d k) (λ x. x.level ≤ openings d) (λ e. zero-le) (λ e. told_level d k)

  abbrev pub Tells : Table V → Groups V → Diary V → Type 0
  Tells t [] d = (t ≡ told d) × (0 ≡ openings d)
  Tells t (g ∷ gs) d = (t ≡ told d) × (suc (length gs) ≡ openings d) × Tells (undone g t) gs (struck d)

  abbrev pub StateTells : State V → Diary V → Type 0
  StateTells s d = Tells s.table s.groups d

  pub tells : (t : Table V) (gs : Groups V) (d : Diary V) → Tells t gs d → t ≡ told d
  tells t [] d h = h.0
  tells t (g ∷ gs) d h = h.0

  pub depth : (t : Table V) (gs : Groups V) (d : Diary V) → Tells t gs d → length gs ≡ openings d
  depth t [] d h = h.1
  depth t (g ∷ gs) d h = h.1

  -- no entry is of a higher level than the innermost group
  lower : (t : Table V) (gs : Groups V) (d : Diary V) (k : ℕ) → Tells t gs d → (t k).level ≤ length gs
  lower t gs d k h =
      let p : (t k).level ≡ (told d k).level = ap (λ (u : Table V). (u k).level) (tells t gs d h) in
      omega (arith, told_level d k, depth t gs d h)

  -- the innermost group's records after a local assignment
  abbrev kept : Table V → List (Saved V) → Groups V → ℕ → List (Saved V)
  kept t g gs k = cond (needs_in (g ∷ gs) (t k)) (record { key = k; entry = t k } ∷ g) g

  -- a local assignment, undone by the closing of its group
  pub assigned_undone : (t : Table V) (g : List (Saved V)) (gs : Groups V) (d : Diary V) → Tells t (g ∷ gs) d → (k : ℕ) (v : V)
      → undone (kept t g gs k) (put t k (at_level v (suc (length gs)))) ≡ undone g t
  assigned_undone t g gs d h k v =
      fun_ext λ j. undone_at_lem (kept t g gs k) (put t k now_held) j ∙ go j (eqb j k) refl (eqb (t k).level n) refl ∙ sym (undone_at_lem g t j)
    where
      n : ℕ
      n = suc (length gs)

      now_held : Entry V
      now_held = at_level v n

      old : Saved V
      old = record { key = k; entry = t k }

      same : (t k).level ≡ n → undone_at k g now_held ≡ undone_at k g (t k)
      same e = elim (forgets g k) [
        | inl f ↦
            let p : (undone g t k).level ≡ (t k).level = ap (λ (x : Entry V). x.level) (undone_at_lem g t k ∙ f (t k)) in
            absurd (omega (arith, lower (undone g t) gs (struck d) k h.2))
        | inr f ↦ f now_held (t k) refl (ap is_zero e)
      ]

      back : (j : ℕ) (b : Bool) → eqb j k ≡ b → restored_at j old (cond b now_held (t j)) ≡ t j
      back j true e = rw e (ap t (sym (eqb-true j k e)))
      back j false e = rw e

      go : (j : ℕ) (b : Bool) → eqb j k ≡ b → (c : Bool) → eqb (t k).level n ≡ c
          → undone_at j (cond (not c) (old ∷ g) g) (cond b now_held (t j)) ≡ undone_at j g (t j)
      go j true e true f = subst (λ i. undone_at i g now_held ≡ undone_at i g (t i)) (sym (eqb-true j k e)) (same (eqb-true (t k).level n f))
      go j false e true f = refl
      go j b e false f = ap (undone_at j g) (back j b e)

  tells_global : (t : Table V) (gs : Groups V) (d : Diary V) (k : ℕ) (v : V) → Tells t gs d
      → Tells (put t k (at_level v 0)) gs (global k v ∷ d)
  tells_global t [] d k v h = (ap (λ u. put u k (at_level v 0)) h.0, h.1)
  tells_global t (g ∷ gs) d k v h = (
    ap (λ u. put u k (at_level v 0)) h.0,
    h.1,
    subst (λ u. Tells u gs (global k v ∷ struck d)) (sym (undone_global g t k v)) (tells_global (undone g t) gs (struck d) k v h.2),
  )

  -- the groups after a local assignment: the records of the innermost change
  kept_in : (t : Table V) (g : List (Saved V)) (gs : Groups V) (k : ℕ) (b : Bool)
      → cond b (recorded (record { key = k; entry = t k }) (g ∷ gs)) (g ∷ gs) ≡ cond b (record { key = k; entry = t k } ∷ g) g ∷ gs
  kept_in t g gs k true = refl
  kept_in t g gs k false = refl

  pub kept_all : (t : Table V) (g : List (Saved V)) (gs : Groups V) (k : ℕ)
      → cond (needs_in (g ∷ gs) (t k)) (recorded (record { key = k; entry = t k }) (g ∷ gs)) (g ∷ gs) ≡ kept t g gs k ∷ gs
  kept_all t g gs k = kept_in t g gs k (needs_in (g ∷ gs) (t k))

  tells_step : (t : Table V) (gs : Groups V) (d : Diary V) (o : Op V) (limit : ℕ) → refused limit (record { table = t; groups = gs }) o ≡ false
      → Tells t gs d → StateTells (step (record { table = t; groups = gs }) o) (written d o)
  tells_step t gs d open_group limit e h = (tells t gs d h, ap suc (depth t gs d h), h)
  tells_step t [] d close_group limit e h = absurd (let z : ◌≡◌ {A = ℕ} 0 1 = cc in omega arith)
  tells_step t (g ∷ gs) d close_group limit e h = h.2
  tells_step t [] d (assign_locally k v) limit e h = (λ i. put (h.0 i) k (at_level v (h.1 i)), h.1)
  tells_step t (g ∷ gs) d (assign_locally k v) limit e h =
      subst (λ u. Tells (put t k (at_level v (suc (length gs)))) u (local k v ∷ d)) (sym (kept_all t g gs k)) (
        λ i. put (h.0 i) k (at_level v (h.1 i)),
        h.1,
        subst (λ u. Tells u gs (struck d)) (sym (assigned_undone t g gs d h k v)) h.2,
      )
  tells_step t gs d (assign_globally k v) limit e h = tells_global t gs d k v h

  pub tells_done : (limit : ℕ) (s : State V) (d : Diary V) (o : Op V) → refused limit s o ≡ false → StateTells s d → StateTells (step s o) (written d o)
  tells_done limit s d o e h = tells_step s.table s.groups d o limit e h

  pub tells_run : (limit : ℕ) (os : List (Op V)) (s : State V) (d : Diary V) → StateTells s d
      → StateTells (run limit s os) (diary_from d (done limit s os))
  tells_run limit [] s d h = h
  tells_run limit (o ∷ os) s d h =
      go (refused limit s o) refl (tells_run limit os s d h) (λ k. tells_run limit os (step s o) (written d o) k)
    where
      go : (b : Bool) → refused limit s o ≡ b → StateTells (run limit s os) (diary_from d (done limit s os))
          → (StateTells (step s o) (written d o) → StateTells (run limit (step s o) os) (diary_from (written d o) (done limit (step s o) os)))
          → StateTells (run limit (cond b s (step s o)) os) (diary_from d (cond b (done limit s os) (o ∷ done limit (step s o) os)))
      go true e same next = same
      go false e same next = next (tells_done limit s d o e h)

  pub tells_new : StateTells (new first) []
  tells_new = (refl, refl)
