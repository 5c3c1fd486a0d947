-- A list that holds a stack, the newest last: written at its end, and read from its end.
use Rattle.std.proofs.Common.{◌≡◌, ℕ, ◌-◌, ◌<◌, ◌≤◌, true, false, ltb, List, [], ◌∷◌, ◌++◌, map, reverse, length, get_or, set, is_some, Some, None, Option, sym, refl, ap, ◌∙◌, arith}
use Rattle.std.specs.Option.{option_map, option_to_list}
use Rattle.std.proofs.lemmas.List.{reverse-append, reverse-reverse, length-reverse, length_push, get_or-reverse}
use Rattle.std.proofs.lemmas.Bool.{ltb-false, lt-ltb, le-ltb, cond-true, cond-false}
use Rattle.pending.specs.Fronts.{front, behind, refronted, joining}

pub front_map : {X Y : Type 0} (f : X → Y) (xs : List X) → option_map f (front xs) ≡ front (map f xs)
front_map f [] = refl
front_map f (x ∷ xs) = refl

pub behind_map : {X Y : Type 0} (f : X → Y) (xs : List X) → map f (behind xs) ≡ behind (map f xs)
behind_map f [] = refl
behind_map f (x ∷ xs) = refl

pub refronted_map : {X Y : Type 0} (f : X → Y) (y : X) (xs : List X) → map f (refronted y xs) ≡ refronted (f y) (map f xs)
refronted_map f y [] = refl
refronted_map f y (x ∷ xs) = refl

module _ {X : Type 0} where
  pub pushed : (xs : List X) (x : X) → reverse (xs ++ (x ∷ [])) ≡ x ∷ reverse xs
  pushed xs x = reverse-append xs (x ∷ [])

  pub fronted : (x : X) (xs : List X) → reverse (x ∷ xs) ≡ reverse xs ++ (x ∷ [])
  fronted x xs = reverse-append (x ∷ []) xs

  -- one more joins where there is room, and only there
  pub joins : (most : ℕ) (x : X) (xs : List X) → length xs < most → (true ≡ ltb (length xs) most) × (x ∷ xs ≡ joining most x xs)
  joins most x xs h = let e = lt-ltb (length xs) most h in (sym e, sym (cond-true (ltb (length xs) most) (x ∷ xs) xs e))

  pub stays : (most : ℕ) (x : X) (xs : List X) → most ≤ length xs → (false ≡ ltb (length xs) most) × (xs ≡ joining most x xs)
  stays most x xs h = let e = le-ltb (length xs) most h in (sym e, sym (cond-false (ltb (length xs) most) (x ∷ xs) xs e))

  pub popped : (ys : List X) (r : Option X) → is_some r ≡ ltb 0 (length (ys ++ option_to_list r)) → (r ≡ front (reverse (ys ++ option_to_list r))) × (reverse ys ≡ behind (reverse (ys ++ option_to_list r)))
  popped [] None h = (refl, refl)
  popped (y ∷ ys) None h = absurd (omega (arith, ltb-false 0 (length (y ∷ (ys ++ []))) (sym h)))
  popped ys (Some x) h = (rw (pushed ys x), rw (pushed ys x))

  head_of : (xs : List X) (x : X) → 0 < length xs → Some (get_or xs 0 x) ≡ front xs
  head_of [] x h = absurd (omega arith)
  head_of (y ∷ ys) x h = refl

  pub none_last : (xs : List X) → length xs ≡ 0 → None ≡ front (reverse xs)
  none_last [] h = refl
  none_last (y ∷ ys) h = absurd (omega arith)

  pub some_last : (xs : List X) (x : X) → 0 < length xs → x ≡ get_or xs (length xs - 1) x → Some x ≡ front (reverse xs)
  some_last xs x h e =
      let k : length xs - 1 - 0 ≡ length xs - 1 = omega arith in
      let f : get_or (reverse xs) 0 x ≡ x = get_or-reverse xs 0 x h ∙ ap (λ n. get_or xs n x) k ∙ sym e in
      let z : 0 < length (reverse xs) = rw length-reverse h in
      ap Some (sym f) ∙ head_of (reverse xs) x z

  set_end : (ys : List X) (y x : X) → set (ys ++ (y ∷ [])) (length ys) x ≡ ys ++ (x ∷ [])
  set_end [] y x = refl
  set_end (z ∷ ys) y x = ap (λ l. z ∷ l) (set_end ys y x)

  set_front : (x : X) (zs : List X) → reverse (set (reverse zs) (length (reverse zs) - 1) x) ≡ refronted x zs
  set_front x [] = refl
  set_front x (z ∷ zs) =
      let n : length (reverse zs ++ (z ∷ [])) - 1 ≡ length (reverse zs) = omega (arith, length_push (reverse zs) z) in
      ap (λ l. reverse (set l (length l - 1) x)) (fronted z zs)
      ∙ ap (λ k. reverse (set (reverse zs ++ (z ∷ [])) k x)) n
      ∙ ap reverse (set_end (reverse zs) z x)
      ∙ reverse-append (reverse zs) (x ∷ [])
      ∙ ap (λ l. x ∷ l) (reverse-reverse zs)

  pub set_last : (xs : List X) (x : X) → reverse (set xs (length xs - 1) x) ≡ refronted x (reverse xs)
  set_last xs x = ap (λ l. reverse (set l (length l - 1) x)) (sym (reverse-reverse xs)) ∙ set_front x (reverse xs)
