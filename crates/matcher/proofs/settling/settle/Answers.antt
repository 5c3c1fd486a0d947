use Rattle.std.proofs.Common.{◌≡◌, ℕ, ◌+◌, ◌-◌, ◌<◌, ◌≤◌, Bool, true, false, ◌&&◌, List, [], ◌∷◌, length, get_or, take, drop, sym, refl, ap, ◌∙◌, subst, add_assoc, arith}
use Rattle.std.proofs.lemmas.List.{drop_all, drop_more, drop-drop, get_or-drop, take_rest}
use Rattle.tokens.specs.declared.stored.ParameterWord.TheVariants as word
use Rattle.std.proofs.lemmas.Bool.{and_left, and_right, false≢true}
use Rattle.tokens.specs.declared.token.Token.{Token}
use Rattle.tokens.specs.declared.token.Token.TheVariants.{Name}
use Rattle.tokens.specs.declared.stored.ParameterWord.{ParameterWord}
use Rattle.matching.specs.Braces.{is_front, is_balanced}
use Rattle.matching.specs.Matching.{settled_from}
use Rattle.matcher.specs.declared.mark.Mark.{Mark}
use Rattle.matcher.specs.Marks.{delimiter_in, begins, Marked}
use Rattle.matcher.proofs.Settle.{not_front, front_on, deep_unbalanced, turn, turn_none, place_found}
use Rattle.matcher.proofs.settling.settle.Goals as goal
use Rattle.matcher.proofs.settling.settle.Goals.{then-mark-gt0-via-then-mark-gt0, then-mark-gt0-via-else-mark-gt0+then-not-stands}

-- what holds at the mark of the inner loop
At : List Token → List ParameterWord → Mark → Mark → Type 0
At u ws from m = Marked u from.at m × (settled_from (delimiter_in ws) (take from.at u) (drop from.at u) ≡ settled_from (delimiter_in ws) (take m.at u) (drop m.at u))

-- what is told of a token behind the mark
stood : (u : List Token) (at m j : ℕ) (d : List Token) (b : Bool) → at ≡ m → b ≡ begins (get_or (take (length u - m) (drop m u)) j (Name 0)) d → begins (get_or u (at + j) (Name 0)) d ≡ b
stood u at m j d b same e =
    ap (λ (n : ℕ). begins (get_or u (n + j) (Name 0)) d) same
    ∙ ap (λ (t : Token). begins t d) (sym (get_or-drop m u j (Name 0)))
    ∙ ap (λ (ts : List Token). begins (get_or ts j (Name 0)) d) (sym (take_rest u m))
    ∙ sym e

-- a token that does not stand in the delimiter fails the test
untrue : (u : List Token) (d e : List Token) (at j : ℕ) (k : Token) → at + j < length u → is_front (drop at u) d ≡ is_front (drop (at + j) u) e → begins (get_or u (at + j) k) e ≡ false → (is_balanced (take at u) && is_front (drop at u) d) ≡ false
untrue u d e at j k h f b =
    and_right (is_balanced (take at u)) (is_front (drop at u) d)
    (f ∙ ap (λ (ts : List Token). is_front ts e) (drop_more u (at + j) k h) ∙ not_front (get_or u (at + j) k) (drop (at + j + 1) u) e b)

-- one that does goes on
true_on : (t : Token) (ts : List Token) (ws more : List ParameterWord) → begins t (delimiter_in ws) ≡ true → ((w : ParameterWord) (rest : List ParameterWord) → ws ≡ w ∷ rest → more ≡ rest) → is_front (t ∷ ts) (delimiter_in ws) ≡ is_front ts (delimiter_in more)
true_on t ts [] more b f = absurd (false≢true b)
true_on t ts (word.Token x ∷ ws) more b f = front_on t ts x (delimiter_in ws) b ∙ ap (λ (m : List ParameterWord). is_front ts (delimiter_in m)) (sym (f (word.Token x) ws refl))
true_on t ts (word.Parameter ∷ ws) more b f = absurd (false≢true b)

tail_is : (ws : List ParameterWord) (j : ℕ) (w : ParameterWord) (rest : List ParameterWord) → drop j ws ≡ w ∷ rest → drop (j + 1) ws ≡ rest
tail_is ws j w rest e = sym (drop-drop 1 j ws) ∙ ap (drop 1) e

pub place-preserved : goal.place-preserved
unfolding At
place-preserved c =
    let i = c.delimiter.invariant in
    let u = c.args.run.now in
    let at = c.delimiter.mark.at in
    let d = delimiter_in c.args.delimiter.words.now in
    let here : At u c.args.delimiter.words.now c.args.from c.delimiter.mark = subst (At u c.args.delimiter.words.now c.args.from) (sym i.0) c.place.invariant in
    let same : at ≡ c.place.mark.at = ap (λ (m : Mark). m.at) i.0 in
    let l : at + c.delimiter.place < length u = omega (arith, same, c.delimiter-test.true) in
    let un : (is_balanced (take at u) && is_front (drop at u) d) ≡ false = elim c.then-mark-gt0.branch [
      | then-mark-gt0-via-then-mark-gt0 w ↦ and_left (is_balanced (take at u)) (is_front (drop at u) d) (deep_unbalanced d u at c.delimiter.mark.depth here.0.deep w.if-mark-gt0.true)
      | then-mark-gt0-via-else-mark-gt0+then-not-stands w ↦ untrue u d _ at c.delimiter.place (Name 0) l i.1 (stood u at c.place.mark.at c.delimiter.place _ false same w.if-not-stands.ensures)
    ] in
    turn d u c.args.from.at c.delimiter.mark (Name 0) (settled_from d (take c.args.from.at u) (drop c.args.from.at u)) here.0 (omega (arith, l)) here.1 un c.in-Some.next (sym c.in-Some.ensures)

pub delimiter-preserved : goal.delimiter-preserved
delimiter-preserved c =
    let i = c.delimiter.invariant in
    let u = c.args.run.now in
    let ws = c.args.delimiter.words.now in
    let at = c.delimiter.mark.at in
    let j = c.delimiter.place in
    let same : at ≡ c.place.mark.at = ap (λ (m : Mark). m.at) i.0 in
    let l : at + j < length u = omega (arith, same, c.delimiter-test.true) in
    let t = get_or u (at + j) (Name 0) in (
      i.0,
      i.1
          ∙ ap (λ (ts : List Token). is_front ts (delimiter_in (drop j ws))) (drop_more u (at + j) (Name 0) l)
          ∙ true_on t (drop (at + j + 1) u) (drop j ws) (drop (j + 1) ws) (stood u at c.place.mark.at j _ true same c.if-not-stands.ensures) (tail_is ws j)
          ∙ ap (λ (k : ℕ). is_front (drop k u) (delimiter_in (drop (j + 1) ws))) (add_assoc at j 1),
      (λ _. omega (arith, c.if-mark-gt0.false)),
    )

pub returns-in_default : goal.returns-in_default
unfolding At
returns-in_default c =
    let i = c.delimiter.invariant in
    let u = c.args.run.now in
    let at = c.delimiter.mark.at in
    let d = delimiter_in c.args.delimiter.words.now in
    let here : At u c.args.delimiter.words.now c.args.from c.delimiter.mark = subst (At u c.args.delimiter.words.now c.args.from) (sym i.0) c.place.invariant in
    let same : at ≡ c.place.mark.at = ap (λ (m : Mark). m.at) i.0 in
    let l : at + c.delimiter.place < length u = omega (arith, same, c.delimiter-test.true) in
    let un : (is_balanced (take at u) && is_front (drop at u) d) ≡ false = elim c.then-mark-gt0.branch [
      | then-mark-gt0-via-then-mark-gt0 w ↦ and_left (is_balanced (take at u)) (is_front (drop at u) d) (deep_unbalanced d u at c.delimiter.mark.depth here.0.deep w.if-mark-gt0.true)
      | then-mark-gt0-via-else-mark-gt0+then-not-stands w ↦ untrue u d _ at c.delimiter.place (Name 0) l i.1 (stood u at c.place.mark.at c.delimiter.place _ false same w.if-not-stands.ensures)
    ] in
    turn_none d u c.args.from.at c.delimiter.mark (Name 0) (settled_from d (take c.args.from.at u) (drop c.args.from.at u)) here.0 (omega (arith, l)) here.1 un (sym c.in_default.ensures)

pub returns-after-delimiter : goal.returns-after-delimiter
unfolding At
returns-after-delimiter c =
    let i = c.delimiter.invariant in
    let u = c.args.run.now in
    let at = c.delimiter.mark.at in
    let j = c.delimiter.place in
    let ws = c.args.delimiter.words.now in
    let here : At u ws c.args.from c.delimiter.mark = subst (At u ws c.args.from) (sym i.0) c.place.invariant in
    let same : at ≡ c.place.mark.at = ap (λ (m : Mark). m.at) i.0 in
    let past : length u ≤ at + j = omega (arith, same, c.delimiter-test.false) in
    let f : is_front (drop at u) (delimiter_in ws) ≡ true = i.1 ∙ ap (λ (ts : List Token). is_front ts (delimiter_in (drop j ws))) (drop_all (at + j) u past) in
    (here.0, here.1 ∙ place_found (delimiter_in ws) u c.delimiter.mark.depth at (Name 0) here.0.within here.0.deep f (λ l. i.2 (omega arith)))
