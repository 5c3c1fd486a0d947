use Rattle.std.proofs.Common.{◌≡◌, ℕ, ◌+◌, ◌<◌, true, false, List, [], ◌∷◌, length, get_or, drop, ap, ◌∙◌, arith}
use Rattle.std.proofs.lemmas.Bool.{cond-true, cond-false}
use Rattle.std.proofs.lemmas.List.{drop_all, drop_more}
use Rattle.std.proofs.lemmas.Result.{err_from_is_err_and}
use Rattle.tokens.specs.declared.token.Token.{Token}
use Rattle.tokens.specs.declared.token.Token.TheVariants.{Name}
use Rattle.tokens.specs.declared.stored.ParameterWord.{ParameterWord}
use Rattle.tokens.specs.declared.stored.ParameterWord.TheVariants as word
use Rattle.names.specs.Spelled.{listed}
use Rattle.matching.specs.declared.refusal.MatcherRefusal.TheVariants.{Differs}
use Rattle.matching.specs.Braces.{same_token}
use Rattle.matching.specs.Matching.{text_before, awaiting}
use Rattle.matcher.specs.Marks.{delimiter_in}
use Rattle.matcher.proofs.Going.{stay, onward, turned, fails, refuses, read, unread}
use Rattle.matcher.proofs.before.text_before.Goals as goal

-- what stands before the next parameter, by the next word
token_at : (ws : List ParameterWord) (i : ℕ) (d : ParameterWord) (x : Token) → i < length ws → get_or ws i d ≡ word.Token x → delimiter_in (drop i ws) ≡ x ∷ delimiter_in (drop (i + 1) ws)
token_at ws i d x h e = ap delimiter_in (drop_more ws i d h ∙ ap (λ y. y ∷ drop (i + 1) ws) e)

none_at : (ws : List ParameterWord) (i : ℕ) (d : ParameterWord) → i < length ws → get_or ws i d ≡ word.Parameter → delimiter_in (drop i ws) ≡ []
none_at ws i d h e = ap delimiter_in (drop_more ws i d h ∙ ap (λ y. y ∷ drop (i + 1) ws) e)

pub words-init : goal.words-init
words-init g c = λ long ds. stay _ _ _ _ long _ _ _

pub words-preserved : goal.words-preserved
words-preserved g c =
    let ws = c.args.words.now in
    let e = token_at ws c.words.word-index (word.Token (Name 0)) c.in-Token.wanted c.words-test.true c.in-Token.is in
    let t = c.in_ok-token.ensures in
    let same : same_token c.in-Token.wanted c.in_ok-token.token ≡ true = grind (arith, c.if-ne.ensures) in
    let rest = delimiter_in (drop (c.words.word-index + 1) ws) in
    λ long ds.
    onward _ _ _ _ long (turned _ _ _ _ long (c.words.invariant long ds) (ap (λ ts. awaiting ts ds) e))
    (turned _ _ _ _ long (read _ _ _ _ long (text_before c.in-Token.wanted rest ds) _ _ (listed c.needed.new.names) c.needed.new.source c.in_ok-token.token t.takes t.reads)
    (cond-true (same_token c.in-Token.wanted c.in_ok-token.token) _ _ same))

pub returns-in_default : goal.returns-in_default
returns-in_default g c = λ long ds. turned _ _ _ _ long (c.words.invariant long ds) (ap (λ ts. awaiting ts ds) (none_at c.args.words.now c.words.word-index (word.Token (Name 0)) c.words-test.true c.in_default.is))

pub returns-then-ne : goal.returns-then-ne
returns-then-ne g c =
    let ws = c.args.words.now in
    let e = token_at ws c.words.word-index (word.Token (Name 0)) c.in-Token.wanted c.words-test.true c.in-Token.is in
    let t = c.in_ok-token.ensures in
    let other : same_token c.in-Token.wanted c.in_ok-token.token ≡ false = grind (arith, c.if-ne.ensures) in
    let rest = delimiter_in (drop (c.words.word-index + 1) ws) in
    λ long ds. rw c.place.ensures (refuses _ _ _ _ long Differs (onward _ _ _ _ long (turned _ _ _ _ long (c.words.invariant long ds) (ap (λ ts. awaiting ts ds) e)) (read _ _ _ _ long (text_before c.in-Token.wanted rest ds) _ _ (listed c.needed.new.names) c.needed.new.source c.in_ok-token.token t.takes t.reads))
    (cond-false (same_token c.in-Token.wanted c.in_ok-token.token) _ _ other))

pub returns-in_err-token : goal.returns-in_err-token
returns-in_err-token g c =
    let ws = c.args.words.now in
    let e = token_at ws c.words.word-index (word.Token (Name 0)) c.in-Token.wanted c.words-test.true c.in-Token.is in
    let t = c.in_err-token.ensures in
    let rest = delimiter_in (drop (c.words.word-index + 1) ws) in
    let p = err_from_is_err_and c.from_residual.result c.from_residual.ensures.1 in
    λ long ds. rw (p.1, p.2) (fails _ _ _ _ long (turned _ _ _ _ long (c.words.invariant long ds) (ap (λ ts. awaiting ts ds) e)) (unread _ _ _ _ long (text_before c.in-Token.wanted rest ds) _ _ (listed c.needed.new.names) c.needed.new.source c.in_err-token.field-0.0 t.takes t.reads))

pub returns : goal.returns
returns g c = λ long ds. turned _ _ _ _ long (c.words.invariant long ds) (ap (λ ws. awaiting (delimiter_in ws) ds) (drop_all c.words.word-index c.args.words.now c.words-test.false))
