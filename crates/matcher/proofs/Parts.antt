-- Parts of a list by spans.
use Rattle.std.proofs.Common.{◌≡◌, ℕ, zero, suc, ◌+◌, ◌-◌, ◌≤◌, true, leb, List, [], ◌∷◌, ◌++◌, length, take, drop, Some, sym, refl, ap, ◌∙◌, arith}
use Rattle.std.specs.Option.{option_map}
use Rattle.std.specs.List.{slice_get}
use Rattle.std.proofs.lemmas.List.{drop-take, take-take}
use Rattle.std.proofs.lemmas.Bool.{and_parts, and_from, leb-true, le-leb}
use Rattle.tokens.specs.declared.token.Token.{Token}
use Rattle.matcher.specs.declared.span.Span.{Span}
use Rattle.matcher.specs.Spans.{part_of, parts_of, all_within}

pub parts_length : (ts : List Token) (ss : List Span) → length (parts_of ts ss) ≡ length ss
parts_length ts [] = refl
parts_length ts (s ∷ ss) = ap suc (parts_length ts ss)

pub parts_nth : (ts : List Token) (ss : List Span) (i : ℕ) → slice_get (parts_of ts ss) i ≡ option_map (part_of ts) (slice_get ss i)
parts_nth ts [] i = refl
parts_nth ts (s ∷ ss) zero = refl
parts_nth ts (s ∷ ss) (suc i) = parts_nth ts ss i

pub within_nth : (n : ℕ) (ss : List Span) (i : ℕ) (s : Span) → all_within n ss ≡ true → slice_get ss i ≡ Some s → (s.from ≤ s.to) × (s.to ≤ n)
within_nth n [] i s h e = let z : ◌≡◌ {A = ℕ} 0 1 = cc in absurd (omega arith)
within_nth n (x ∷ ss) zero s h e =
    let k : x ≡ s = cc in
    let p = and_parts (leb x.from x.to) _ h in
    let q = and_parts (leb x.to n) _ p.1 in
    (rw k at (leb-true x.from x.to p.0), rw k at (leb-true x.to n q.0))
within_nth n (x ∷ ss) (suc i) s h e =
    let p = and_parts (leb x.from x.to) _ h in
    let q = and_parts (leb x.to n) _ p.1 in
    within_nth n ss i s q.1 e

pub within_more : (n m : ℕ) (ss : List Span) → n ≤ m → all_within n ss ≡ true → all_within m ss ≡ true
within_more n m [] l h = refl
within_more n m (x ∷ ss) l h =
    let p = and_parts (leb x.from x.to) _ h in
    let q = and_parts (leb x.to n) _ p.1 in
    let u : x.to ≤ m = omega (arith, leb-true x.to n q.0) in
    and_from (leb x.from x.to) _ p.0 (and_from (leb x.to m) _ (le-leb x.to m u) (within_more n m ss l q.1))

pub within_push : (n : ℕ) (ss : List Span) (s : Span) → s.from ≤ s.to → s.to ≤ n → all_within n ss ≡ true → all_within n (ss ++ s ∷ []) ≡ true
within_push n [] s f t h = and_from (leb s.from s.to) _ (le-leb s.from s.to f) (and_from (leb s.to n) _ (le-leb s.to n t) refl)
within_push n (x ∷ ss) s f t h =
    let p = and_parts (leb x.from x.to) _ h in
    let q = and_parts (leb x.to n) _ p.1 in
    and_from (leb x.from x.to) _ p.0 (and_from (leb x.to n) _ q.0 (within_push n ss s f t q.1))

pub parts_push : (ts : List Token) (ss : List Span) (s : Span) → parts_of ts (ss ++ s ∷ []) ≡ parts_of ts ss ++ part_of ts s ∷ []
parts_push ts [] s = refl
parts_push ts (x ∷ ss) s = ap (λ (r : List (List Token)). part_of ts x ∷ r) (parts_push ts ss s)

part_front : (ts : List Token) (f t : ℕ) → f ≤ t → take (t - f) (drop f ts) ≡ drop f (take t ts)
part_front ts f t h =
    let e : f + (t - f) ≡ t = omega arith in
    sym (drop-take f (t - f) ts) ∙ ap (λ (k : ℕ). drop f (take k ts)) e

pub part_same : (n : ℕ) (xs ys : List Token) (f t : ℕ) → f ≤ t → t ≤ n → take n xs ≡ take n ys → take (t - f) (drop f xs) ≡ take (t - f) (drop f ys)
part_same n xs ys f t h k e =
    part_front xs f t h ∙ ap (drop f) (sym (take-take t n xs k) ∙ ap (take t) e ∙ take-take t n ys k) ∙ sym (part_front ys f t h)

-- spans within the first n tokens see no others
pub parts_same : (n : ℕ) (xs ys : List Token) (ss : List Span) → all_within n ss ≡ true → take n xs ≡ take n ys → parts_of xs ss ≡ parts_of ys ss
parts_same n xs ys [] h e = refl
parts_same n xs ys (x ∷ ss) h e =
    let p = and_parts (leb x.from x.to) _ h in
    let q = and_parts (leb x.to n) _ p.1 in
    let one = part_same n xs ys x.from x.to (leb-true x.from x.to p.0) (leb-true x.to n q.0) e in
    let more = parts_same n xs ys ss q.1 e in
    ap (λ (r : List Token). r ∷ parts_of xs ss) one ∙ ap (λ (r : List (List Token)). part_of ys x ∷ r) more
