use Rattle.lines.specs.Pieces.{shown}
use Rattle.names.specs.Spelled.{listed}
use Rattle.sources.proofs.Turns.{turn, turn_unnamed, turn_some, turn_within}
use Rattle.sources.proofs.reading.piece_in.Goals as goal

pub returns : goal.returns
returns c =
    let cs = c.args.categories.now in
    let line = c.args.line.now in
    let t = c.args.cursor.now.taken in
    let n = c.lexed-count.result.1 in
    let s = c.args.cursor.now.state in
    let u = c.state_after-cursor.result in
    let p = shown c.lexed-count.result.0 in
    let ns = listed c.args.names.now in
    let ms = listed c.token_of.new.names in
    let took = c.lexed-count.ensures.taken in
    record {
      turned = turn cs line t n s u p ns ms c.token_of.result c.lexed-count.ensures.piece took c.state_after-cursor.ensures c.token_of.ensures.answer c.token_of.ensures.names;
      unnamed = turn_unnamed cs line t n s u p ns ms c.token_of.result c.token_of.ensures.answer c.token_of.ensures.names;
      onward = turn_some cs line t n s u p ns ms c.token_of.result took c.requires;
      within = turn_within cs line t n s u p ns ms c.token_of.result took c.requires;
    }
