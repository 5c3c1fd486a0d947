use Rattle.std.proofs.Common.{◌<◌, IsOk, IfOk, Result, Ok, Err, sym, ap, ◌∙◌, arith}
use Rattle.indexmap.specs.IndexSet.{spare}
use Rattle.names.specs.Naming.{names_after}
use Rattle.names.specs.Spelled.{held}
use Rattle.names.proofs.Finding.{entered_new}
use Rattle.names.proofs.Entering.{held_long, held_push, more_after, distinct_after}
use Rattle.names.proofs.table.Table.add.Goals as goal

when_ok : {T E : Type 0} (P : Type 0) (r : Result T E) → IsOk r → IfOk r (λ _. P) → P
when_ok P (Ok x) h p = p
when_ok P (Err e) h p = cc

pub invariant_of-self : goal.invariant_of-self
invariant_of-self c =
    let t = c.args.self.now in
    let e = c.args.spelling in
    let u = c.insert.new.self in
    let fits : 0 < spare t.entries = omega (arith, t.few, t.room, c.len-count.ensures.len) in
    let put = when_ok _ c.insert.result (c.insert.ensures.succeeds fits) c.insert.ensures.keys in
    let more = more_after t e c.requires.absent u.keys put in record {
      few = omega (arith, t.few, c.len-count.ensures.len);
      room = omega (arith, t.room, c.insert.ensures.spare);
      distinct = distinct_after t e c.requires.absent u.keys put;
    }

pub returns-clause-names : goal.returns-clause-names
returns-clause-names c =
    let t = c.args.self.now in
    let e = c.args.spelling in
    let put = rw c.unwrap.ensures at c.insert.ensures.keys in
    let k = entered_new (held t) e.bytes.items (omega (arith, held_long t, t.few, c.len-count.ensures.len)) in
    held_push t e c.requires.absent c.insert.new.self.keys put ∙ sym (ap (names_after (held t)) k)
