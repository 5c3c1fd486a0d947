-- What the undoing of a group does to the entry of one key.
use Rattle.std.proofs.Common.{◌≡◌, ℕ, Bool, true, false, cond, eqb, ◌⊎◌, List, [], ◌∷◌, refl, ap, ◌∙◌, inl, inr}
use Rattle.std.proofs.lemmas.Bool.{eqb-true}
use Rattle.tables.specs.declared.Entry.{Entry}
use Rattle.tables.specs.declared.Saved.{Saved}
use Rattle.tables.specs.Table.{Table, is_zero, put, restored, undone}

module _ {V : Type 0} where
  -- one record undone, as the key j with the entry x sees it
  abbrev pub restored_at : ℕ → Saved V → Entry V → Entry V
  restored_at j r x = cond (eqb j r.key) (cond (is_zero x.level) x r.entry) x

  abbrev pub undone_at : ℕ → List (Saved V) → Entry V → Entry V
  undone_at j [] x = x
  undone_at j (r ∷ rs) x = undone_at j rs (restored_at j r x)

  restored_at_lem : (r : Saved V) (t : Table V) (j : ℕ) → restored r t j ≡ restored_at j r (t j)
  restored_at_lem r t j = go (eqb j r.key) refl (is_zero (t r.key).level) refl
    where
      go : (b : Bool) → eqb j r.key ≡ b → (z : Bool) → is_zero (t r.key).level ≡ z
          → cond z t (put t r.key r.entry) j ≡ cond b (cond (is_zero (t j).level) (t j) r.entry) (t j)
      go true e true f = rw (eqb-true j r.key e, f)
      go true e false f = rw e (rw (eqb-true j r.key e, f))
      go false e true f = refl
      go false e false f = rw e

  pub undone_at_lem : (rs : List (Saved V)) (t : Table V) (j : ℕ) → undone rs t j ≡ undone_at j rs (t j)
  undone_at_lem [] t j = refl
  undone_at_lem (r ∷ rs) t j = undone_at_lem rs (restored r t) j ∙ ap (undone_at j rs) (restored_at_lem r t j)

  -- what is global stays
  pub global_stays : (rs : List (Saved V)) (j : ℕ) (x : Entry V) → is_zero x.level ≡ true → undone_at j rs x ≡ x
  global_stays [] j x z = refl
  global_stays (r ∷ rs) j x z = ap (undone_at j rs) (go (eqb j r.key)) ∙ global_stays rs j x z
    where
      go : (b : Bool) → cond b (cond (is_zero x.level) x r.entry) x ≡ x
      go true = rw z
      go false = refl

  -- a group leaves an entry alone, or forgets every local one alike
  abbrev Alone : ℕ → (Entry V → Entry V) → Type 0
  Alone j f = (x : Entry V) → f x ≡ x

  abbrev Alike : ℕ → (Entry V → Entry V) → Type 0
  Alike j f = (x y : Entry V) → is_zero x.level ≡ false → is_zero y.level ≡ false → f x ≡ f y

  pub forgets : (rs : List (Saved V)) (j : ℕ) → Alone j (undone_at j rs) ⊎ Alike j (undone_at j rs)
  forgets [] j = inl (λ x. refl)
  forgets (r ∷ rs) j = go (eqb j r.key) (forgets rs j)
    where
      at : Bool → Entry V → Entry V
      at b x = undone_at j rs (cond b (cond (is_zero x.level) x r.entry) x)

      go : (b : Bool) → Alone j (undone_at j rs) ⊎ Alike j (undone_at j rs) → Alone j (at b) ⊎ Alike j (at b)
      go true h = inr (λ x y p q. rw (p, q))
      go false h = h
