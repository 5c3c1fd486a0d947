-- Entering a spelling keeps the names sound, keeps what each number spells, and gives a number that spells it.
use Rattle.std.proofs.Common.{◌≡◌, ℕ, zero, suc, ◌+◌, ◌-◌, ◌≤◌, Bool, true, false, cond, ltb, leb, ◌⊎◌, List, [], ◌∷◌, ◌++◌, length, Some, None, Option, sym, refl, ap, ◌∙◌, inl, inr, arith}
use Rattle.std.specs.List.{slice_get}
use Rattle.std.specs.Str.{bytes_eq}
use Rattle.std.proofs.lemmas.Slice.Eq.{bytes_eq-Decides}
use Rattle.std.proofs.lemmas.Bool.Decides.{not_from_Decides}
use Rattle.std.proofs.lemmas.Bool.{leb-true, le-leb, cond-true}
use Rattle.names.specs.declared.fault.NamesFault.TheVariants.{TooLong, Full}
use Rattle.names.specs.Naming.{Spellings, find, taken_in, Entered, known, refused, entered, enter}
use Rattle.alike.specs.Same.{Spells}
use Rattle.alike.specs.Laws.{Sound}

-- each number of ns spells the same under ms
pub record Grows (ns ms : Spellings) : Type 0 where
  pub kept : (n : ℕ) (s : List ℕ) → Spells ns n s → Spells ms n s

-- what stands at a place

pub spells_place : (ns : Spellings) (n : ℕ) (s : List ℕ) → Spells ns n s → (256 ≤ n) × (slice_get ns (n - 256) ≡ Some s)
spells_place ns n s h = go (leb 256 n) refl h
  where
    go : (b : Bool) → leb 256 n ≡ b → cond b (slice_get ns (n - 256)) None ≡ Some s → (256 ≤ n) × (slice_get ns (n - 256) ≡ Some s)
    go true e h = (leb-true 256 n e, h)
    go false e h = let z : ◌≡◌ {A = ℕ} 0 1 = cc in absurd (omega arith)

pub place_spells : (ns : Spellings) (n : ℕ) (s : List ℕ) → 256 ≤ n → slice_get ns (n - 256) ≡ Some s → Spells ns n s
place_spells ns n s l h = cond-true (leb 256 n) (slice_get ns (n - 256)) None (le-leb 256 n l) ∙ h

place_number : (ns : Spellings) (i : ℕ) (s : List ℕ) → slice_get ns i ≡ Some s → Spells ns (256 + i) s
place_number ns i s h = let e : 256 + i - 256 ≡ i = omega arith in place_spells ns (256 + i) s (omega arith) (rw e h)

nth_more : (ns ms : Spellings) (i : ℕ) (s : List ℕ) → slice_get ns i ≡ Some s → slice_get (ns ++ ms) i ≡ Some s
nth_more [] ms i s h = let z : ◌≡◌ {A = ℕ} 0 1 = cc in absurd (omega arith)
nth_more (x ∷ ns) ms zero s h = h
nth_more (x ∷ ns) ms (suc i) s h = nth_more ns ms i s h

nth_last : (ns : Spellings) (s : List ℕ) → slice_get (ns ++ (s ∷ [])) (length ns) ≡ Some s
nth_last [] s = refl
nth_last (x ∷ ns) s = nth_last ns s

nth_split : (ns : Spellings) (s t : List ℕ) (i : ℕ) → slice_get (ns ++ (s ∷ [])) i ≡ Some t → (slice_get ns i ≡ Some t) ⊎ ((i ≡ length ns) × (t ≡ s))
nth_split [] s t zero h = inr (refl, cc)
nth_split [] s t (suc i) h = let z : ◌≡◌ {A = ℕ} 0 1 = cc in absurd (omega arith)
nth_split (x ∷ ns) s t zero h = inl h
nth_split (x ∷ ns) s t (suc i) h = go (nth_split ns s t i h)
  where
    go : (slice_get ns i ≡ Some t) ⊎ ((i ≡ length ns) × (t ≡ s)) → (slice_get ns i ≡ Some t) ⊎ ((suc i ≡ suc (length ns)) × (t ≡ s))
    go (inl a) = inl a
    go (inr e) = inr (ap suc e.0, e.1)

-- finding

pub data Finding (k : ℕ) (s : List ℕ) (ns : Spellings) : Option ℕ → Type 0 where
  is_at : {n : ℕ} (i : ℕ) → n ≡ k + i → slice_get ns i ≡ Some s → Finding k s ns (Some n)
  is_not : ((i : ℕ) → slice_get ns i ≡ Some s → ⊥) → Finding k s ns None

not_here : (s t : List ℕ) (ts : Spellings) → (t ≡ s → ⊥) → ((j : ℕ) → slice_get ts j ≡ Some s → ⊥) → (i : ℕ) → slice_get (t ∷ ts) i ≡ Some s → ⊥
not_here s t ts ne f zero h = ne (cc)
not_here s t ts ne f (suc i) h = f i h

found_next : (k : ℕ) (s t : List ℕ) (ts : Spellings) {o : Option ℕ} → (t ≡ s → ⊥) → Finding (k + 1) s ts o → Finding k s (t ∷ ts) o
found_next k s t ts ne (is_at i e h) = is_at (suc i) (omega arith) h
found_next k s t ts ne (is_not f) = is_not (not_here s t ts ne f)

pub finding : (k : ℕ) (s : List ℕ) (ns : Spellings) → Finding k s ns (find k s ns)
finding k s [] = is_not (λ i h. let z : ◌≡◌ {A = ℕ} 0 1 = cc in omega arith)
finding k s (t ∷ ts) = go (bytes_eq t s) refl (finding (k + 1) s ts)
  where
    go : (b : Bool) → bytes_eq t s ≡ b → Finding (k + 1) s ts (find (k + 1) s ts) → Finding k s (t ∷ ts) (cond b (Some k) (find (k + 1) s ts))
    go true e h = is_at 0 (omega arith) (ap Some ((bytes_eq-Decides t s).0 e))
    go false e h = found_next k s t ts (not_from_Decides (bytes_eq t s) (bytes_eq-Decides t s) e) h

-- entering

pub data Entering (ns : Spellings) (s : List ℕ) : Entered → Type 0 where
  is_known : {n : ℕ} {ms : Spellings} → Grows ns ms → Sound ms → Spells ms n s → Entering ns s (known n ms)
  is_full : Entering ns s (refused Full)

module _ (ns : Spellings) (s : List ℕ) (new : (i : ℕ) → slice_get ns i ≡ Some s → ⊥) where
  abbrev longer : Spellings
  longer = ns ++ (s ∷ [])

  grown : Grows ns longer
  grown = record { kept = λ n t h. place_spells longer n t (spells_place ns n t h).0 (nth_more ns (s ∷ []) (n - 256) t (spells_place ns n t h).1) }

  -- a number of the longer list is an old one, or the new one of the new spelling
  pub split : (n : ℕ) (t : List ℕ) → Spells longer n t → Spells ns n t ⊎ ((n ≡ 256 + length ns) × (t ≡ s))
  split n t h = go (spells_place longer n t h).0 (nth_split ns s t (n - 256) (spells_place longer n t h).1)
    where
      go : 256 ≤ n → (slice_get ns (n - 256) ≡ Some t) ⊎ ((n - 256 ≡ length ns) × (t ≡ s)) → Spells ns n t ⊎ ((n ≡ 256 + length ns) × (t ≡ s))
      go l (inl a) = inl (place_spells ns n t l a)
      go l (inr e) = inr (omega arith, e.1)

  absent : (n : ℕ) (t : List ℕ) → Spells ns n t → t ≡ s → ⊥
  absent n t h e = new (n - 256) ((spells_place ns n t h).1 ∙ ap Some e)

  longer_sound : Sound ns → Sound longer
  longer_sound o = record { once = λ m n t a b. go m n t (split m t a) (split n t b); fixed = λ n t h. grown.kept n t (o.fixed n t h) }
    where
      go : (m n : ℕ) (t : List ℕ) → Spells ns m t ⊎ ((m ≡ 256 + length ns) × (t ≡ s)) → Spells ns n t ⊎ ((n ≡ 256 + length ns) × (t ≡ s)) → m ≡ n
      go m n t (inl a) (inl b) = o.once m n t a b
      go m n t (inl a) (inr e) = absurd (absent m t a e.1)
      go m n t (inr d) (inl b) = absurd (absent n t b d.1)
      go m n t (inr d) (inr e) = d.0 ∙ sym e.0

  entering_new : Sound ns → (b : Bool) → Entering ns s (cond b (known (taken_in ns) longer) (refused Full))
  entering_new o true = is_known grown (longer_sound o) (place_number longer (length ns) s (nth_last ns s))
  entering_new o false = is_full

pub entering_short : (ns : Spellings) → Sound ns → (s : List ℕ) → Entering ns s (entered ns s (find 256 s ns))
entering_short ns o s = go (finding 256 s ns)
  where
    go : {f : Option ℕ} → Finding 256 s ns f → Entering ns s (entered ns s f)
    go (is_at i e h) = is_known (record { kept = λ n t h. h }) o (rw e (place_number ns i s h))
    go (is_not f) = entering_new ns s f o (ltb (taken_in ns) 1024)

-- entering one spelling on both sides: numbers that spell it, too long on both, or no number left on one
pub data EnteringBoth (ms ns : Spellings) (s : List ℕ) : Entered → Entered → Type 0 where
  both_known : {m n : ℕ} {os ps : Spellings} → Grows ms os → Grows ns ps → Sound os → Sound ps → Spells os m s → Spells ps n s → EnteringBoth ms ns s (known m os) (known n ps)
  both_long : EnteringBoth ms ns s (refused TooLong) (refused TooLong)
  full_left : {e : Entered} → EnteringBoth ms ns s (refused Full) e
  full_right : {e : Entered} → EnteringBoth ms ns s e (refused Full)

joined : {ms ns : Spellings} {s : List ℕ} {d e : Entered} → Entering ms s d → Entering ns s e → EnteringBoth ms ns s d e
joined (is_known g a h) (is_known j b k) = both_known g j a b h k
joined (is_known g a h) is_full = full_right
joined is_full y = full_left

pub entering_both : (ms ns : Spellings) → Sound ms → Sound ns → (s : List ℕ) → EnteringBoth ms ns s (enter ms s) (enter ns s)
entering_both ms ns a b s = go (leb (length s) 32)
  where
    go : (c : Bool) → EnteringBoth ms ns s (cond c (entered ms s (find 256 s ms)) (refused TooLong)) (cond c (entered ns s (find 256 s ns)) (refused TooLong))
    go true = joined (entering_short ms a s) (entering_short ns b s)
    go false = both_long
