use Rattle.std.proofs.Common.{◌≡◌, ℕ, ◌+◌, ◌-◌, ◌<◌, ◌≤◌, List, length, take, drop, vec_items, sym, refl, ap, ◌∙◌, subst, arith}
use Rattle.std.proofs.lemmas.List.{drop_all}
use Rattle.sources.specs.Texts.{made_lines, whole, made, first_line, after_line, Begun}
use Rattle.sources.proofs.Beginning.{begun_more, ahead_same, left_none, lines_within}
use Rattle.sources.proofs.text.Text.begin_line.Goals as goal
use Rattle.sources.proofs.text.Text.begin_line.Goals.{After-first_line}

pub returns-then-self-len : goal.returns-then-self-len
returns-then-self-len c =
    let t = c.args.self.now in
    let v = t.bytes.ok.0 in
    let w = t.line.ok.0 in
    let h : length (vec_items t.bytes) ≤ t.next = omega arith in
    let p : length (vec_items t.line) ≤ t.cursor.taken = omega arith in
    record {
      ahead = refl;
      bytes = refl;
      test = (c.requires, left_none t.cursor.state (vec_items t.line) t.cursor.taken (whole (made_lines (drop t.next (vec_items t.bytes)))) p ∙ ap (λ l. whole (made_lines l)) (drop_all t.next (vec_items t.bytes) h));
    }

pub overflow_add-self-2 : goal.overflow_add-self-2
overflow_add-self-2 c =
    let t = c.args.self.now in
    let v = t.bytes.ok.0 in
    let s = t.small in
    omega (arith, t.begun.0, lines_within (vec_items t.bytes))

-- one more line is begun
module _ (c : goal.After-first_line) where
  bytes : List ℕ
  bytes = vec_items c.args.self.now.bytes

  inside : c.args.self.now.next < length bytes
  unfolding bytes
  inside = let v = c.args.self.now.bytes.ok.0 in omega (arith, c.len.ensures, c.if-self-len.false)

  after : drop c.first_line.result (take (length bytes - c.args.self.now.next) (drop c.args.self.now.next bytes)) ≡ after_line (take (length bytes - c.args.self.now.next) (drop c.args.self.now.next bytes))
  unfolding bytes
  after = subst (λ (l : List ℕ). drop c.first_line.result (take (length l - c.args.self.now.next) (drop c.args.self.now.next l)) ≡ after_line (take (length l - c.args.self.now.next) (drop c.args.self.now.next l))) c.deref.ensures.value c.first_line.ensures.after

  line : vec_items c.first_line.new.line ≡ made (first_line (take (length bytes - c.args.self.now.next) (drop c.args.self.now.next bytes)))
  unfolding bytes
  line = subst (λ (l : List ℕ). vec_items c.first_line.new.line ≡ made (first_line (take (length l - c.args.self.now.next) (drop c.args.self.now.next l)))) c.deref.ensures.value c.first_line.ensures.items

  more : Begun bytes (c.args.self.now.next + c.first_line.result) (vec_items c.first_line.new.line) (c.args.self.now.number + 1)
  unfolding bytes after line inside
  more = begun_more bytes (vec_items c.args.self.now.line) c.args.self.now.next c.args.self.now.number c.args.self.now.begun inside c.first_line.result (vec_items c.first_line.new.line) after line

pub invariant_of-self-2 : goal.invariant_of-self-2
unfolding more bytes
invariant_of-self-2 c = record {
  small = c.args.self.now.small;
  room = omega (arith, c.args.self.now.room, c.first_line.ensures.capacity);
  within = omega arith;
  begun = more c;
}

pub returns : goal.returns
unfolding bytes after line inside
returns c =
    let t = c.args.self.now in
    let b : goal.After-first_line = (goal.at.returns c).After-first_line in
    let w = t.line.ok.0 in
    let p : length (vec_items t.line) ≤ t.cursor.taken = omega (arith, c.requires) in
    record {
      ahead = ahead_same (bytes b) (vec_items t.line) t.next t.number t.begun (inside b) c.first_line.result (vec_items c.first_line.new.line) (after b) (line b)
          ∙ sym (left_none t.cursor.state (vec_items t.line) t.cursor.taken (whole (made_lines (drop t.next (vec_items t.bytes)))) p);
      bytes = refl;
      test = (omega (arith, c.first_line.ensures.some), omega (arith, c.len.ensures, c.if-self-len.false));
    }
