-- No more tokens are ahead than there are bytes and ready tokens.
use Rattle.std.proofs.Common.{ℕ, zero, suc, ◌+◌, ◌≤◌, List, [], ◌∷◌, length, drop, arith}
use Rattle.lines.specs.declared.piece.LineState.{LineState}
use Rattle.lines.specs.Pieces.{Shown, character, active, named, nothing, refused}
use Rattle.lines.specs.Line as line
use Rattle.lines.specs.Line.{Categories, category, piece_of, more_by, state_after, Item, ready, rest, left, Pieces, invalid, given, name, onward, pieces}
use Rattle.names.specs.Naming as naming
use Rattle.names.specs.Naming.{Spellings, Entered, known, enter}
use Rattle.sources.specs.Ahead.{by_number, numbered, ahead_of, extent}
use Rattle.driving.specs.Streams.{stream_of, stream}
use Rattle.driving.specs.Drives.{size}

-- how many tokens pieces give, where no name is refused
abbrev count : Pieces → ℕ
count line.none = 0
count (invalid is) = 0
count (given t is ps) = suc (count ps)
count (name s is ps) = suc (count ps)

onward_count : (p : Shown) (is : List Item) (more : Pieces) → count (onward p is more) ≤ suc (count more)
onward_count (character c b) is more = omega arith
onward_count (active b) is more = omega arith
onward_count (named s) is more = omega arith
onward_count nothing is more = omega arith
onward_count refused is more = omega arith

line_count : (cs : Categories) (bs : List ℕ) (n : ℕ) (s : LineState) (below : List Item) (more : Pieces) → count (line.line cs bs n s below more) ≤ length bs + count more
line_count cs [] n s below more = omega arith
line_count cs (b ∷ bs) zero s below more =
    let p = piece_of cs s (b ∷ bs) in
    let n = more_by cs bs (category cs b) in
    let t = state_after cs s p in
    omega (arith, onward_count p (left t (drop n bs) below) (line.line cs bs n t below more), line_count cs bs n t below more)
line_count cs (b ∷ bs) (suc n) s below more = omega (arith, line_count cs bs n s below more)

pieces_count : (cs : Categories) (is : List Item) → count (pieces cs is) ≤ extent is
pieces_count cs [] = omega arith
pieces_count cs (ready t ∷ is) = omega (arith, pieces_count cs is)
pieces_count cs (rest s bs ∷ is) = omega (arith, line_count cs bs 0 s is (pieces cs is), pieces_count cs is)

entered_size : (d : Entered) (ns : Spellings) (is : List Item) (ps : Pieces) → ((ms : Spellings) → size (stream_of (numbered ps ms)) ≤ count ps) → size (stream_of (by_number d ns is (λ ms. numbered ps ms))) ≤ suc (count ps)
entered_size (known n ms) ns is ps h = omega (arith, h ms)
entered_size (naming.refused f) ns is ps h = omega arith

numbered_size : (ps : Pieces) (ns : Spellings) → size (stream_of (numbered ps ns)) ≤ count ps
numbered_size line.none ns = omega arith
numbered_size (invalid is) ns = omega arith
numbered_size (given t is ps) ns = omega (arith, numbered_size ps ns)
numbered_size (name s is ps) ns = entered_size (enter ns s) ns is ps (λ ms. numbered_size ps ms)

pub stream_size : (cs : Categories) (ns : Spellings) (is : List Item) → size (stream cs ns is) ≤ extent is
unfolding ahead_of
stream_size cs ns is = omega (arith, numbered_size (pieces cs is) ns, pieces_count cs is)
