-- The laws of a table of groups, from the invariant.
use Rattle.std.proofs.Common.{◌≡◌, ℕ, zero, suc, ◌<◌, Bool, true, false, cond, T, List, [], ◌∷◌, ◌++◌, length, refl, ap, ◌∙◌, arith}
use Rattle.tables.specs.declared.Saved.{Saved}
use Rattle.tables.specs.Table.{Table, Groups, State, Op, open_group, close_group, assign_locally, assign_globally, none_open, recorded, opened, closed, closed_in, assigned, refused, tried, run, done, new}
use Rattle.tables.specs.Diary.{Diary, written, diary_of}
use Rattle.tables.specs.Laws.{balanced, nothing_global, Survives, LeavesNoTrace}
use Rattle.tables.proofs.Told.{Tells, StateTells, tells, told_value, assigned_undone, kept_all, tells_done, tells_run, tells_new}

pub survives : (V : Type 0) → Survives V
survives V limit first os k =
    let s : State V = run limit (new first) os in
    let d : Diary V = diary_of (done limit (new first) os) in
    ap (λ (t : Table V). (t k).value) (tells first s.table s.groups d (tells_run first limit os (new first) [] (tells_new first))) ∙ told_value first d k

module _ {V : Type 0} (limit : ℕ) where
  run_append : (s : State V) (a b : List (Op V)) → run limit s (a ++ b) ≡ run limit (run limit s a) b
  run_append s [] b = refl
  run_append s (o ∷ a) b = run_append (tried limit s o) a b

  abbrev closes : ℕ → State V → State V
  closes zero s = s
  closes (suc n) s = closes n (closed s)

  -- a closing with a group open is not refused
  open_there : (gs : Groups V) → 0 < length gs → none_open gs ≡ false
  open_there [] h = absurd (omega arith)
  open_there (g ∷ gs) h = refl

  tried_closed : (s : State V) → 0 < length s.groups → tried limit s close_group ≡ closed s
  tried_closed s h = rw (open_there s.groups h)

  under : (gs : Groups V) (t : Table V) (n : ℕ) → suc n < length gs → n < length (closed_in t gs).groups
  under [] t n h = absurd (omega arith)
  under (g ∷ gs) t n h = omega arith

  length_recorded : (r : Saved V) (gs : Groups V) → length (recorded r gs) ≡ length gs
  length_recorded r [] = refl
  length_recorded r (g ∷ gs) = refl

  length_saved : (s : State V) (k : ℕ) (b : Bool) (r : Saved V) → length (cond b (recorded r s.groups) s.groups) ≡ length s.groups
  length_saved s k true r = length_recorded r s.groups
  length_saved s k false r = refl

  module _ (first : ℕ → V) where
    -- a local assignment and then a closing: as the closing alone
    closed_assigned : (t : Table V) (gs : Groups V) (d : Diary V) → Tells first t gs d → 0 < length gs → (k : ℕ) (v : V)
        → closed (assigned (record { table = t; groups = gs }) k v) ≡ closed_in t gs
    closed_assigned t [] d h deep k v = absurd (omega arith)
    closed_assigned t (g ∷ gs) d h deep k v =
        ap (λ us. closed_in (assigned (record { table = t; groups = g ∷ gs }) k v).table us) (kept_all first t g gs k)
        ∙ (λ i. record { table = assigned_undone first t g gs d h k v i; groups = gs })

    -- n groups are open above the one that is to be closed
    bracket : (os : List (Op V)) (n : ℕ) (s : State V) (d : Diary V) → StateTells first s d → n < length s.groups
        → T (balanced n os) → T (nothing_global os) → tried limit (run limit s os) close_group ≡ closes (suc n) s
    bracket [] zero s d h deep b l = tried_closed s deep
    bracket [] (suc n) s d h deep b l = absurd b
    bracket (open_group ∷ os) n s d h deep b l =
        bracket os (suc n) (opened s) (written d open_group) (tells_done first limit s d open_group refl h) (omega arith) b l
    bracket (close_group ∷ os) zero s d h deep b l = absurd b
    bracket (close_group ∷ os) (suc n) s d h deep b l =
        let e : 0 < length s.groups = omega arith in
        ap (λ u. tried limit (run limit u os) close_group) (tried_closed s e)
        ∙ bracket os n (closed s) (written d close_group) (tells_done first limit s d close_group (open_there s.groups e) h) (under s.groups s.table n deep) b l
    bracket (assign_locally k v ∷ os) n s d h deep b l =
        go (refused limit s (assign_locally k v)) refl (bracket os n s d h deep b l)
        (λ t. bracket os n (assigned s k v) (written d (assign_locally k v)) t (rw length_saved deep) b l)
      where
        go : (r : Bool) → refused limit s (assign_locally k v) ≡ r → tried limit (run limit s os) close_group ≡ closes (suc n) s
            → (StateTells first (assigned s k v) (written d (assign_locally k v)) → tried limit (run limit (assigned s k v) os) close_group ≡ closes (suc n) (assigned s k v))
            → tried limit (run limit (cond r s (assigned s k v)) os) close_group ≡ closes (suc n) s
        go true e same next = same
        go false e same next =
            next (tells_done first limit s d (assign_locally k v) e h)
            ∙ ap (closes n) (closed_assigned s.table s.groups d h (omega arith) k v)
    bracket (assign_globally k v ∷ os) n s d h deep b l = absurd l

pub leaves_no_trace : (V : Type 0) → LeavesNoTrace V
leaves_no_trace V limit first before inner b l =
    let s : State V = run limit (new first) before in
    let d : Diary V = diary_of (done limit (new first) before) in
    let h : StateTells first s d = tells_run first limit before (new first) [] (tells_new first) in
    run_append limit (new first) before (open_group ∷ (inner ++ (close_group ∷ [])))
    ∙ run_append limit (opened s) inner (close_group ∷ [])
    ∙ bracket limit first inner 0 (opened s) (written d open_group) (tells_done first limit s d open_group refl h) (omega arith) b l
