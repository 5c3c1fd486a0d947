-- Tables that are the same as spelled: what numbers hold, and what an assignment and the end of a group make of them.
--   SameTable   two tables without their save records
use Rattle.std.proofs.Common.{◌≡◌, ℕ, Bool, true, false, cond, eqb, ◌⊎◌, List, sym, refl, ap, ◌∙◌, subst, inl, inr}
use Rattle.std.proofs.lemmas.Bool.{eqb-true, eqb-false, eq-eqb, ne_eqb}
use Rattle.names.specs.Naming.{Spellings}
use Rattle.tables.specs.declared.Entry.{Entry}
use Rattle.tables.specs.declared.Saved.{Saved}
use Rattle.tables.specs.Table as table
use Rattle.tables.specs.Table.{Table, Groups, is_zero, put, restored, undone, opened, closed_in, closed, needs_in, needs_record, recorded, saved_in, assigned, assigned_globally, records_in, refused, step}
use Rattle.tokens.specs.declared.answer.Scope.{Scope}
use Rattle.tokens.specs.declared.answer.Scope.TheVariants.{Local, Global}
use Rattle.book.specs.Meanings.{Means, undefined}
use Rattle.book.specs.Scopes.{operation}
use Rattle.alike.specs.Same.{SameName, Each, no_more, and}
use Rattle.alike.specs.Laws.{SameMeaning, same_undefined, SameEntry, SameSaved, SameTables}
use Rattle.alike.proofs.CallsEach.{each_length, cond_alike}
use Rattle.alike.proofs.Growing.{Both}
use Rattle.alike.proofs.Fellows.{one_left, one_right}

abbrev Fresh : Entry Means → Type 0
Fresh e = (e.value ≡ undefined) × (e.level ≡ 0)

-- each key is as at first, or has a fellow on the other side with the same entry
abbrev Covered : (ℕ → ℕ → Type 0) → (Entry Means → Entry Means → Type 0) → Table Means → Table Means → Type 0
Covered N E t u = (m : ℕ) → Fresh (t m) ⊎ ((n : ℕ) × N m n × E (t m) (u n))

pub record SameTable (ms ns : Spellings) (t u : Table Means) : Type 0 where
  pub there : Covered (SameName ms ns) (SameEntry ms ns) t u
  pub back : Covered (λ n m. SameName ms ns m n) (λ e d. SameEntry ms ns d e) u t

-- an assignment, from either side
module _ (N : ℕ → ℕ → Type 0) (E : Entry Means → Entry Means → Type 0) (t u : Table Means) (m n : ℕ) (d e : Entry Means) (r : N m n) (q : E d e) (one : (k : ℕ) → N k n → k ≡ m) where
  covered_put : Covered N E t u → Covered N E (put t m d) (put u n e)
  covered_put c k = go (eqb k m) refl (c k)
    where
      other : (l : ℕ) → eqb k m ≡ false → N k l → eqb l n ≡ false
      other l x h = ne_eqb l n (λ f. eqb-false k m x (one k (subst (λ (z : ℕ). N k z) f h)))

      go : (b : Bool) → eqb k m ≡ b → Fresh (t k) ⊎ ((l : ℕ) × N k l × E (t k) (u l)) → Fresh (cond b d (t k)) ⊎ ((l : ℕ) × N k l × E (cond b d (t k)) (cond (eqb l n) e (u l)))
      go true x h = inr (n, subst (λ (z : ℕ). N z n) (sym (eqb-true k m x)) r, rw (eq-eqb n n refl) q)
      go false x (inl f) = inl f
      go false x (inr h) = inr (h.0, h.1, rw (other h.0 x h.1) h.2)

module _ {ms ns : Spellings} (w : Both ms ns) where
  fresh_same : (d e : Entry Means) → Fresh d → Fresh e → SameEntry ms ns d e
  fresh_same d e f g = record { value = rw (f.0, g.0) same_undefined; level = f.1 ∙ sym g.1 }

  pub entry_of : (t u : Table Means) → SameTable ms ns t u → {m n : ℕ} → SameName ms ns m n → SameEntry ms ns (t m) (u n)
  entry_of t u r {m} {n} s = there (r.there m)
    where
      back : Fresh (t m) → Fresh (u n) ⊎ ((k : ℕ) × SameName ms ns k n × SameEntry ms ns (t k) (u n)) → SameEntry ms ns (t m) (u n)
      back e (inl d) = fresh_same (t m) (u n) e d
      back e (inr h) = subst (λ (x : ℕ). SameEntry ms ns (t x) (u n)) (one_left w h.1 s) h.2

      there : Fresh (t m) ⊎ ((k : ℕ) × SameName ms ns m k × SameEntry ms ns (t m) (u k)) → SameEntry ms ns (t m) (u n)
      there (inl e) = back e (r.back n)
      there (inr h) = subst (λ (x : ℕ). SameEntry ms ns (t m) (u x)) (one_right w h.1 s) h.2

  same_put : (t u : Table Means) {m n : ℕ} {d e : Entry Means} → SameTable ms ns t u → SameName ms ns m n → SameEntry ms ns d e → SameTable ms ns (put t m d) (put u n e)
  same_put t u {m} {n} {d} {e} r s q = record {
    there = covered_put (SameName ms ns) (SameEntry ms ns) t u m n d e s q (λ k h. one_left w h s) r.there;
    back = covered_put (λ l k. SameName ms ns k l) (λ x y. SameEntry ms ns y x) u t n m e d s q (λ k h. one_right w h s) r.back;
  }

  same_restored : (t u : Table Means) (x y : Saved Means) → SameTable ms ns t u → SameSaved ms ns x y → SameTable ms ns (restored x t) (restored y u)
  same_restored t u x y r s =
      cond_alike (SameTable ms ns) (ap is_zero (entry_of t u r s.key).level) r (same_put t u r s.key s.entry)

  same_undone : {xs ys : List (Saved Means)} (t u : Table Means) → SameTable ms ns t u → Each (SameSaved ms ns) xs ys → SameTable ms ns (undone xs t) (undone ys u)
  same_undone t u r no_more = r
  same_undone t u r (and {a = x} {b = y} s q) = same_undone (restored x t) (restored y u) (same_restored t u x y r s) q

  pub same_entries : {s z : table.State Means} → SameTables ms ns s z → SameTable ms ns s.table z.table
  same_entries r = record { there = r.there; back = r.back }

  with_saved : (s z : table.State Means) → SameTable ms ns s.table z.table → Each (Each (SameSaved ms ns)) s.groups z.groups → SameTables ms ns s z
  with_saved s z r g = record { there = r.there; back = r.back; saved = g }

  pub same_opened_lem : (s z : table.State Means) → SameTables ms ns s z → SameTables ms ns (opened s) (opened z)
  same_opened_lem s z r = with_saved (opened s) (opened z) (same_entries r) (and no_more r.saved)

  same_closed_in : {gs hs : Groups Means} (t u : Table Means) → SameTable ms ns t u → Each (Each (SameSaved ms ns)) gs hs → SameTables ms ns (closed_in t gs) (closed_in u hs)
  same_closed_in t u r no_more = with_saved _ _ r no_more
  same_closed_in t u r (and g gs) = with_saved _ _ (same_undone t u r g) gs

  pub same_closed_lem : (s z : table.State Means) → SameTables ms ns s z → SameTables ms ns (closed s) (closed z)
  same_closed_lem s z r = same_closed_in s.table z.table (same_entries r) r.saved

  -- records

  same_records : {gs hs : Groups Means} → Each (Each (SameSaved ms ns)) gs hs → records_in gs ≡ records_in hs
  same_records no_more = refl
  same_records (and g gs) = let a = each_length g in let b = same_records gs in cc

  needs_in_lem : {gs hs : Groups Means} (d e : Entry Means) → Each (Each (SameSaved ms ns)) gs hs → SameEntry ms ns d e → needs_in gs d ≡ needs_in hs e
  needs_in_lem d e no_more s = refl
  needs_in_lem d e (and g gs) s = let a = each_length gs in let b = s.level in cc

  module _ (s z : table.State Means) (r : SameTables ms ns s z) {m n : ℕ} (k : SameName ms ns m n) where
    same_needs : needs_record s m ≡ needs_record z n
    same_needs = needs_in_lem (s.table m) (z.table n) r.saved (entry_of s.table z.table (same_entries r) k)

    same_recorded : {gs hs : Groups Means} → Each (Each (SameSaved ms ns)) gs hs → Each (Each (SameSaved ms ns)) (recorded (record { key = m; entry = s.table m }) gs) (recorded (record { key = n; entry = z.table n }) hs)
    same_recorded no_more = no_more
    same_recorded (and g gs) = and (and (record { key = k; entry = entry_of s.table z.table (same_entries r) k }) g) gs

    same_saved_in : Each (Each (SameSaved ms ns)) (saved_in s m) (saved_in z n)
    same_saved_in = cond_alike (Each (Each (SameSaved ms ns))) same_needs (same_recorded r.saved) r.saved

    pub same_refused : (sc : Scope) (x y : Means) → refused 2048 s (operation sc m x) ≡ refused 2048 z (operation sc n y)
    same_refused Local x y = let a = same_needs in let b = same_records r.saved in cc
    same_refused Global x y = refl

    pub same_assigned_lem : (sc : Scope) {x y : Means} → SameMeaning ms ns x y → SameTables ms ns (step s (operation sc m x)) (step z (operation sc n y))
    same_assigned_lem Local {x} {y} v =
        with_saved (assigned s m x) (assigned z n y) (same_put s.table z.table (same_entries r) k (record { value = v; level = each_length r.saved })) same_saved_in
    same_assigned_lem Global {x} {y} v =
        with_saved (assigned_globally s m x) (assigned_globally z n y) (same_put s.table z.table (same_entries r) k (record { value = v; level = refl })) r.saved
