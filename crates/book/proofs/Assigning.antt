-- A local assignment, by what it needs.
use Rattle.std.proofs.Common.{◌≡◌, ℕ, ◌<◌, ◌≤◌, true, false, cond, leb, length, Ok, Err, sym, ap, ◌∙◌}
use Rattle.std.proofs.lemmas.Bool.{and_from, and_left, and_right, le-leb, lt-leb, cond-true, cond-false}
use Rattle.tables.specs.Table.{State, put, recorded, needs_record, records, assigned, assign_locally, refused, tried}
use Rattle.book.specs.declared.fault.BookFault.{BookFault}
use Rattle.book.specs.Faults.{answered}

module _ {V : Type 0} (limit : ℕ) (s : State V) (k : ℕ) (v : V) where
  -- a record is needed, and there is none
  pub local_full : (f : BookFault) → needs_record s k ≡ true → limit ≤ records s
      → (Err f ≡ answered (refused limit s (assign_locally k v)) f) × (s ≡ tried limit s (assign_locally k v))
  local_full f n h =
      let r : refused limit s (assign_locally k v) ≡ true = and_from (needs_record s k) (leb limit (records s)) n (le-leb limit (records s) h) in
      (ap (λ b. answered b f) (sym r), sym (cond-true (refused limit s (assign_locally k v)) s (assigned s k v) r))

  module _ (depth : ℕ) (e : depth ≡ length s.groups) where
    done : (f : BookFault) → refused limit s (assign_locally k v) ≡ false
        → (Ok tt ≡ answered (refused limit s (assign_locally k v)) f) × (assigned s k v ≡ tried limit s (assign_locally k v))
    done f r = (ap (λ b. answered b f) (sym r), sym (cond-false (refused limit s (assign_locally k v)) s (assigned s k v) r))

    -- a record is needed, and taken
    pub local_saved : (f : BookFault) → needs_record s k ≡ true → records s < limit
        → (Ok tt ≡ answered (refused limit s (assign_locally k v)) f)
        × (record { table = put s.table k (record { value = v; level = depth }); groups = recorded (record { key = k; entry = s.table k }) s.groups } ≡ tried limit s (assign_locally k v))
    local_saved f n h =
        let p = done f (and_right (needs_record s k) (leb limit (records s)) (lt-leb limit (records s) h)) in (
          p.0,
          (λ i. record { table = put s.table k (record { value = v; level = e i }); groups = cond (sym n i) (recorded (record { key = k; entry = s.table k }) s.groups) s.groups }) ∙ p.1,
        )

    -- no record is needed
    pub local_plain : (f : BookFault) → needs_record s k ≡ false
        → (Ok tt ≡ answered (refused limit s (assign_locally k v)) f)
        × (record { table = put s.table k (record { value = v; level = depth }); groups = s.groups } ≡ tried limit s (assign_locally k v))
    local_plain f n =
        let p = done f (and_left (needs_record s k) (leb limit (records s)) n) in (
          p.0,
          (λ i. record { table = put s.table k (record { value = v; level = e i }); groups = cond (sym n i) (recorded (record { key = k; entry = s.table k }) s.groups) s.groups }) ∙ p.1,
        )
