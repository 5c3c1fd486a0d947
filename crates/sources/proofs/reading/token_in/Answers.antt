use Rattle.std.proofs.Common.{◌≡◌, ◌≤◌, List, [], length, drop, sym, ap, ◌∙◌, arith}
use Rattle.std.proofs.lemmas.List.{drop_all}
use Rattle.lines.specs.Line.{Item, left}
use Rattle.names.specs.Spelled.{listed}
use Rattle.sources.specs.Ahead.{ahead_of}
use Rattle.sources.proofs.reading.token_in.Goals as goal

pub returns : goal.returns
returns c =
    let h : length c.args.line.now ≤ c.pieces.cursor.taken = omega arith in
    let d : drop c.pieces.cursor.taken c.args.line.now ≡ [] = drop_all c.pieces.cursor.taken c.args.line.now h in
    let over : (is : List Item) → left c.pieces.cursor.state (drop c.pieces.cursor.taken c.args.line.now) is ≡ is = λ is. ap (λ r. left c.pieces.cursor.state r is) d in
    record {
      reads = λ is. (sym (c.pieces.invariant.3 is) ∙ ap (ahead_of c.args.categories.now (listed c.pieces.names)) (over is), over is);
      unnamed = c.pieces.invariant.2;
      onward = omega arith;
      within = omega arith;
    }
