use Rattle.std.proofs.Common.{◌≡◌, Some, sym}
use Rattle.tokens.specs.Words.{answer_word, HeldAnswer}
use Rattle.tokens.proofs.Answering.{answer_back}
use Rattle.tokens.proofs.answer.Answer.word.Goals as goal

pub returns-in-Assigned : goal.returns-in-Assigned
returns-in-Assigned c =
    let e : Some c.word_of-in-Assigned.result ≡ answer_word c.args.self = cc in
    let h : HeldAnswer c.args.self = rw c.in-Assigned.is c.bits-in-Assigned.ensures.held in
    record { value = e; back = answer_back c.args.self h c.word_of-in-Assigned.result (sym e) }
