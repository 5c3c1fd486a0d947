use Rattle.std.proofs.Common.{◌≡◌, List, Some, None, Option, Ok, Err, Result, MatchOption, refl, rules}
use Rattle.std.specs.Result.{IsErrAnd}
use Rattle.std.proofs.lemmas.Result.{err_from_is_err_and}
use Rattle.tokens.specs.declared.token.Token.{Token}
use Rattle.lines.specs.Line.{Categories, Item}
use Rattle.names.specs.Naming.{Spellings}
use Rattle.names.specs.Spelled.{listed}
use Rattle.sources.specs.declared.fault.Place.{Place}
use Rattle.sources.specs.declared.fault.PileRefusal.TheVariants.{Ended}
use Rattle.sources.specs.declared.fault.PileFault.{PileFault}
use Rattle.sources.specs.declared.fault.PileFault.TheVariants.{Pile}
use Rattle.sources.specs.Ahead.{ahead_of, head_answer, head_names, head_items}
use Rattle.driving.specs.Streams.{stream, Takes}
use Rattle.driving.proofs.Following.{some_taken, none_taken, fault_taken}
use Rattle.driving.proofs.taking.needed.Goals as goal

-- what a read answers, where none is a fault
taken : (cs : Categories) (q : Place) (ms : Spellings) (js : List Item) (ns : Spellings) (is : List Item) (o : Option Token) (r : Result Token PileFault) (P : PileFault → Type 0) → ((f : PileFault) → P f → f ≡ Pile Ended q)
    → MatchOption o (IsErrAnd r P) (λ x. r ≡ Ok x) → Ok o ≡ head_answer q (ahead_of cs ns is) → ms ≡ head_names (ahead_of cs ns is) → js ≡ head_items (ahead_of cs ns is) → Takes cs (stream cs ns is) q r ms js
taken cs q ms js ns is (Some t) r P f m a n i = rw m (some_taken cs q ms js ns is t a n i)
taken cs q ms js ns is None (Err x) P f m a n i = rw (f x m) (none_taken cs q ms js ns is a n i, refl, refl)
taken cs q ms js ns is None (Ok t) P f m a n i = absurd m

pub returns-in_err-read : goal.returns-in_err-read
returns-in_err-read g c =
    let e = c.in_err-read.ensures in
    let f = c.in_err-read.field-0.0 in
    let p = err_from_is_err_and c.from_residual.result c.from_residual.ensures.1 in
    let t = fault_taken c.args.categories.now (g.S.Source.place c.read.new.self) (listed c.read.new.names) (g.S.Source.ahead c.read.new.self) (listed c.args.names.now) (g.S.Source.ahead c.args.source.now) f e.answer e.names e.items in
    record {
      takes = rw (p.1, p.2) t;
      reads = e.reads;
    }

pub returns-clause-takes : goal.returns-clause-takes
returns-clause-takes g c =
    let e = c.in_ok-read.ensures in
    taken c.args.categories.now (g.S.Source.place c.read.new.self) (listed c.read.new.names) (g.S.Source.ahead c.read.new.self) (listed c.args.names.now) (g.S.Source.ahead c.args.source.now) c.in_ok-read.field-0 c.ok_or_else.result _ (λ f k. search rules) c.ok_or_else.ensures.cases e.answer e.names e.items
