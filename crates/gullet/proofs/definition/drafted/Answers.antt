use Rattle.std.proofs.Common.{◌≡◌, suc, ◌<◌, Err, sym, refl, ap, ◌∙◌, arith}
use Rattle.std.proofs.lemmas.Result.{err_from_is_err_and}
use Rattle.matching.specs.Matching.{on, out}
use Rattle.names.specs.Spelled.{listed}
use Rattle.book.specs.Said.{book_of}
use Rattle.driving.specs.Streams.{Standing, stream, standing}
use Rattle.driving.specs.Drives.{stands_at, answer_of, size}
use Rattle.rules.specs.Defining.{definition_feed}
use Rattle.rules.specs.States.{meanings_of}
use Rattle.gullet.specs.Drafts.{view, end_of, defined_of}
use Rattle.driving.proofs.Turns.{token_size, drive_token, reached_token, drive_short, reached_short}
use Rattle.gullet.proofs.definition.drafted.Goals as goal

pub tokens-init : goal.tokens-init
tokens-init g c = rw c.clear.ensures.items (refl, λ y r. r)

pub returns-in_err-token : goal.returns-in_err-token
returns-in_err-token g c =
    let cs = c.args.categories.now in
    let ns = listed c.tokens.names in
    let ms = listed c.needed.new.names in
    let js = g.S.Source.ahead c.needed.new.source in
    let place = g.S.Source.place c.needed.new.source in
    let s = stream cs ns (g.S.Source.ahead c.tokens.source) in
    let here = standing ns (g.S.Source.ahead c.tokens.source) in
    let reads = g.S.Source.reads cs in
    let feed = definition_feed (meanings_of (book_of c.args.book.now)) in
    let at = view c.tokens.draft in
    let f = c.in_err-token.field-0.0 in
    let t = c.in_err-token.ensures in
    let r = err_from_is_err_and c.from_residual.result c.from_residual.ensures.1 in
    let d = drive_short reads feed at s cs place f ms js here t.takes in
    record {
      answer = ap (λ k. defined_of k c.tokens.draft) (r.1 ∙ ap Err r.2) ∙ d.0 ∙ ap (answer_of place) c.tokens.invariant.0;
      names = ap (λ (b : Standing). b.names) (d.1 ∙ ap stands_at c.tokens.invariant.0);
      items = ap (λ (b : Standing). b.items) (d.1 ∙ ap stands_at c.tokens.invariant.0);
      reached = c.tokens.invariant.1 c.needed.new.source (reached_short reads feed at s cs place f ms js ns c.tokens.source c.needed.new.source t.takes t.reads);
    }

pub tokens-smaller : goal.tokens-smaller
tokens-smaller g c =
    let cs = c.args.categories.now in
    let s = stream cs (listed c.tokens.names) (g.S.Source.ahead c.tokens.source) in
    let more = stream cs (listed c.needed.new.names) (g.S.Source.ahead c.needed.new.source) in
    let n : size s ≡ suc (size more) = token_size s more c.in_ok-token.token (standing (listed c.needed.new.names) (g.S.Source.ahead c.needed.new.source)) c.in_ok-token.ensures.takes in
    let h : size more < size s = omega arith in
    h

pub tokens-preserved : goal.tokens-preserved
tokens-preserved g c =
    let cs = c.args.categories.now in
    let ns = listed c.tokens.names in
    let ms = listed c.needed.new.names in
    let js = g.S.Source.ahead c.needed.new.source in
    let s = stream cs ns (g.S.Source.ahead c.tokens.source) in
    let more = stream cs ms js in
    let here = standing ns (g.S.Source.ahead c.tokens.source) in
    let b = standing ms js in
    let reads = g.S.Source.reads cs in
    let feed = definition_feed (meanings_of (book_of c.args.book.now)) in
    let at = view c.tokens.draft in
    let t = c.in_ok-token.token in
    let e = c.in_ok-token.ensures in
    let m = on (view c.feed.new.self) in
    let f = c.in-Continue.ensures in (
      sym (drive_token reads feed at s more t b m e.takes f here) ∙ c.tokens.invariant.0,
      λ y r. c.tokens.invariant.1 y (reached_token reads feed at s more t b m e.takes f ns c.tokens.source c.needed.new.source y e.reads r),
    )

pub returns-in-Break : goal.returns-in-Break
returns-in-Break g c =
    let cs = c.args.categories.now in
    let ns = listed c.tokens.names in
    let ms = listed c.needed.new.names in
    let js = g.S.Source.ahead c.needed.new.source in
    let place = g.S.Source.place c.needed.new.source in
    let s = stream cs ns (g.S.Source.ahead c.tokens.source) in
    let more = stream cs ms js in
    let here = standing ns (g.S.Source.ahead c.tokens.source) in
    let b = standing ms js in
    let reads = g.S.Source.reads cs in
    let feed = definition_feed (meanings_of (book_of c.args.book.now)) in
    let at = view c.tokens.draft in
    let t = c.in_ok-token.token in
    let e = c.in_ok-token.ensures in
    let m = out (end_of c.in-Break.end c.feed.new.self) in
    let f = c.in-Break.ensures in
    let d = sym (drive_token reads feed at s more t b m e.takes f here) ∙ c.tokens.invariant.0 in
    record {
      answer = ap (answer_of place) d;
      names = ap (λ k. (stands_at {B = Standing} k).names) d;
      items = ap (λ k. (stands_at {B = Standing} k).items) d;
      reached = c.tokens.invariant.1 c.needed.new.source (reached_token reads feed at s more t b m e.takes f ns c.tokens.source c.needed.new.source c.needed.new.source e.reads refl);
    }
