-- What a stack of conditionals promises, said of their parts.
use Rattle.std.proofs.Common.{◌≡◌, ℕ, ◌-◌, ◌<◌, ltb, List, [], ◌∷◌, ◌++◌, map, reverse, length, get_or, is_some, Some, None, Option, ap, ◌∙◌, arith, option_map}
use denote.Ref.{MutBor}
use Rattle.std.specs.Option.{option_to_list}
use Rattle.std.specs.List.{ItemMut}
use Rattle.std.proofs.lemmas.List.{length-map}
use Rattle.arrayvec.specs.ArrayVec.{array_vec_len}
use Rattle.pending.specs.declared.conditional.Conditional.{Conditional}
use Rattle.pending.specs.declared.stack.Stack.{Stack}
use Rattle.pending.specs.Fronts.{front, behind, refronted}
use Rattle.pending.specs.Opened.{part_in, parts_of}
use Rattle.pending.specs.Stacked.{items_of, with_newest}
use Rattle.pending.proofs.Ends.{front_map, behind_map, refronted_map, pushed, popped, none_last, some_last, set_last}

pub parts_count : {n : ℕ} (s : Stack Conditional n) → length (parts_of s) ≡ length (items_of s)
parts_count s = length-map (items_of s) part_in

pub innermost_part : {n : ℕ} (s : Stack Conditional n) → option_map part_in (front (items_of s)) ≡ front (parts_of s)
innermost_part s = front_map part_in (items_of s)

pub parts_pushed : (xs : List Conditional) (c : Conditional) → map part_in (reverse (xs ++ (c ∷ []))) ≡ part_in c ∷ map part_in (reverse xs)
parts_pushed xs c = ap (map part_in) (pushed xs c)

pub parts_popped : (ys : List Conditional) (r : Option Conditional) → is_some r ≡ ltb 0 (length (ys ++ option_to_list r))
    → (option_map part_in r ≡ front (map part_in (reverse (ys ++ option_to_list r)))) × (map part_in (reverse ys) ≡ behind (map part_in (reverse (ys ++ option_to_list r))))
parts_popped ys r h =
    let p = popped ys r h in
    let zs = reverse (ys ++ option_to_list r) in
    (ap (option_map part_in) p.0 ∙ front_map part_in zs, ap (map part_in) p.1 ∙ behind_map part_in zs)

pub part_none : (xs : List Conditional) → length xs ≡ 0 → None ≡ front (map part_in (reverse xs))
part_none xs h = ap (option_map part_in) (none_last xs h) ∙ front_map part_in (reverse xs)

pub part_some : (xs : List Conditional) (c : Conditional) → 0 < length xs → c ≡ get_or xs (length xs - 1) c → Some (part_in c) ≡ front (map part_in (reverse xs))
part_some xs c h e = ap (option_map part_in) (some_last xs c h e) ∙ front_map part_in (reverse xs)

pub part_lent : {n : ℕ} (s : Stack Conditional n) (r : Option (MutBor Conditional)) → ItemMut s.held.items 0 (array_vec_len s.held - 1) r → option_map (λ x. part_in x.now) r ≡ front (parts_of s)
part_lent s None h = part_none s.held.items (omega (arith, h.3))
part_lent s (Some x) h = part_some s.held.items x.now h.3.0 h.1

-- what the conditionals are once the innermost, lent, was changed
pub parts_changed : {n : ℕ} (s : Stack Conditional n) (c : Conditional) → parts_of (with_newest s c) ≡ refronted (part_in c) (parts_of s)
parts_changed s c = ap (map part_in) (set_last s.held.items c) ∙ refronted_map part_in c (reverse s.held.items)
