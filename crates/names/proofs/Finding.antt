-- Where `find` finds a spelling, and what `enter` makes of it.
use Rattle.std.proofs.Common.{◌≡◌, ℕ, zero, suc, ◌+◌, ◌<◌, ◌≤◌, Bool, true, false, cond, ltb, leb, ◌⊎◌, List, [], ◌∷◌, ◌++◌, length, get_or, take, Some, None, Option, sym, refl, ap, ◌∙◌, inl, inr, add-zero, arith}
use Rattle.std.specs.Str.{bytes_eq}
use Rattle.std.proofs.lemmas.Slice.Eq.{bytes_eq-Decides}
use Rattle.std.proofs.lemmas.List.{length_push, get_or_push, get_or_append_left, take-append-le}
use Rattle.std.proofs.lemmas.Bool.{cases_lt, lt-ltb, le-ltb, cond-true, cond-false, cond_both}
use Rattle.std.proofs.lemmas.Bool.Decides.{not_from_Decides}
use Rattle.names.specs.declared.fault.NamesFault.TheVariants.{Full}
use Rattle.names.specs.Naming.{Spellings, find, number_in, taken_in, Entered, known, refused, entered, enter, names_after, Distinct}

-- what the answer of a search tells
data Told (k : ℕ) (s : List ℕ) (ns : Spellings) : Option ℕ → Type 0 where
  absent : ((i : ℕ) → i < length ns → get_or ns i [] ≡ s → ⊥) → Told k s ns None
  present : {n : ℕ} (i : ℕ) → n ≡ k + i → i < length ns → get_or ns i [] ≡ s → Told k s ns (Some n)

module _ (k : ℕ) (s t : List ℕ) (ts : Spellings) where
  further : (r : Option ℕ) → (t ≡ s → ⊥) → Told (k + 1) s ts r → Told k s (t ∷ ts) r
  further None ne (absent h) = absent apart
    where
      apart : (i : ℕ) → i < length (t ∷ ts) → get_or (t ∷ ts) i [] ≡ s → ⊥
      apart zero l e = ne e
      apart (suc i) l e = h i (omega arith) e
  further (Some n) ne (present i e l h) = present (suc i) (omega arith) (omega arith) h

  first : (b : Bool) → bytes_eq t s ≡ b → Told (k + 1) s ts (find (k + 1) s ts) → Told k s (t ∷ ts) (cond b (Some k) (find (k + 1) s ts))
  first true e h = present 0 (sym (add-zero k)) (omega arith) ((bytes_eq-Decides t s).0 e)
  first false e h = further (find (k + 1) s ts) (not_from_Decides (bytes_eq t s) (bytes_eq-Decides t s) e) h

told : (k : ℕ) (s : List ℕ) (ns : Spellings) → Told k s ns (find k s ns)
told k s [] = absent (λ i h e. omega arith)
told k s (t ∷ ts) = first k s t ts (bytes_eq t s) refl (told (k + 1) s ts)

module _ (k : ℕ) (s : List ℕ) (ns : Spellings) where
  pub find_none : ((i : ℕ) → i < length ns → get_or ns i [] ≡ s → ⊥) → find k s ns ≡ None
  find_none h = go (find k s ns) (told k s ns)
    where
      go : (r : Option ℕ) → Told k s ns r → r ≡ None
      go None t = refl
      go (Some n) (present i e l x) = absurd (h i l x)

  pub find_at : Distinct ns → (i : ℕ) → i < length ns → get_or ns i [] ≡ s → find k s ns ≡ Some (k + i)
  find_at d i l h = go (find k s ns) (told k s ns)
    where
      go : (r : Option ℕ) → Told k s ns r → r ≡ Some (k + i)
      go None (absent f) = absurd (f i l h)
      go (Some n) (present j e m x) = ap Some (e ∙ ap (λ j. k + j) (d (j, m) (i, l) (x ∙ sym h)))

  pub none_found : find k s ns ≡ None → (i : ℕ) → i < length ns → get_or ns i [] ≡ s → ⊥
  none_found e = go (find k s ns) e (told k s ns)
    where
      go : (r : Option ℕ) → r ≡ None → Told k s ns r → (i : ℕ) → i < length ns → get_or ns i [] ≡ s → ⊥
      go None x (absent f) = f
      go (Some n) x t = let z : ◌≡◌ {A = ℕ} 0 1 = cc in omega arith

module _ (ns : Spellings) (s : List ℕ) where
  pub entered_full : length ns ≡ 768 → entered ns s None ≡ refused Full
  entered_full h = cond-false (ltb (taken_in ns) 1024) _ _ (le-ltb (taken_in ns) 1024 (omega arith))

  pub entered_new : length ns < 768 → entered ns s None ≡ known (taken_in ns) (ns ++ (s ∷ []))
  entered_new h = cond-true (ltb (taken_in ns) 1024) _ _ (lt-ltb (taken_in ns) 1024 (omega arith))

-- a spelling that was nowhere is at the last place alone
pub distinct_push : (ns : Spellings) (s : List ℕ) → Distinct ns → ((i : ℕ) → i < length ns → get_or ns i [] ≡ s → ⊥) → Distinct (ns ++ (s ∷ []))
distinct_push ns s d new (i, l) (j, m) e = go (cases_lt i (length ns)) (cases_lt j (length ns))
  where
    many : length (ns ++ (s ∷ [])) ≡ length ns + 1
    many = length_push ns s

    old : (k : ℕ) → k < length ns → get_or (ns ++ (s ∷ [])) k [] ≡ get_or ns k []
    old k h = get_or_append_left ns (s ∷ []) [] k h

    last : (k : ℕ) → k < length (ns ++ (s ∷ [])) → length ns ≤ k → get_or (ns ++ (s ∷ [])) k [] ≡ s
    last k h g = get_or_push ns s [] k (omega (arith, many))

    go : (i < length ns) ⊎ (length ns ≤ i) → (j < length ns) ⊎ (length ns ≤ j) → i ≡ j
    go (inl a) (inl b) = d (i, a) (j, b) (sym (old i a) ∙ e ∙ old j b)
    go (inl a) (inr b) = absurd (new i a (sym (old i a) ∙ e ∙ last j m b))
    go (inr a) (inl b) = absurd (new j b (sym (old j b) ∙ sym e ∙ last i l a))
    go (inr a) (inr b) = omega (arith, many)

-- entering keeps what is there, and puts at most the spelling at the end
pub names_kept : (ns : Spellings) (s : List ℕ) → (names_after ns (enter ns s) ≡ ns) ⊎ (names_after ns (enter ns s) ≡ ns ++ (s ∷ []))
names_kept ns s = cond_both (leb (length s) 32) _ _ Keeps (λ _. short (number_in ns s)) (λ _. inl refl)
  where
    Keeps : Entered → Type 0
    Keeps e = (names_after ns e ≡ ns) ⊎ (names_after ns e ≡ ns ++ (s ∷ []))

    short : (r : Option ℕ) → Keeps (entered ns s r)
    short (Some n) = inl refl
    short None = cond_both (ltb (taken_in ns) 1024) _ _ Keeps (λ _. inr refl) (λ _. inl refl)

pub names_grow : (ns : Spellings) (s : List ℕ) → length ns ≤ length (names_after ns (enter ns s))
names_grow ns s = elim (names_kept ns s) [ inl e ↦ omega (arith, ap length e) | inr e ↦ omega (arith, ap length e, length_push ns s) ]

-- what stands first stays first
pub front_kept : (ns : Spellings) (s : List ℕ) (k : ℕ) → k ≤ length ns → take k (names_after ns (enter ns s)) ≡ take k ns
front_kept ns s k h = elim (names_kept ns s) [ inl e ↦ ap (take k) e | inr e ↦ ap (take k) e ∙ take-append-le k ns (s ∷ []) h ]
