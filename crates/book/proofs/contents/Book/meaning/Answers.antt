use Rattle.std.proofs.Common.{vec_len, ap, ◌∙◌}
use Rattle.book.specs.Beyond.{no_meaning}
use Rattle.book.specs.Meanings.{within}
use Rattle.book.specs.Said.{read}
use Rattle.book.proofs.contents.Book.meaning.Goals as goal

pub meaning-requires : goal.meaning-requires
meaning-requires c =
    let b = c.args.self.now in
    ap (within (vec_len b.words.parameters.held) (vec_len b.words.bodies.held)) (c.value.ensures no_meaning) ∙ b.lying.0 c.args.name

pub returns : goal.returns
returns c = c.meaning.ensures ∙ ap (read c.args.self.now.words) (c.value.ensures no_meaning)
