use Rattle.std.proofs.Common.{◌<◌, ◌≤◌, sym, refl, ap, ◌∙◌, arith}
use Rattle.tables.specs.declared.Entry.{Entry}
use Rattle.tables.specs.Table.{State, put, records}
use Rattle.book.specs.declared.fault.BookFault.TheVariants.{RecordsFull}
use Rattle.book.specs.declared.grouped.Grouped.{Grouped}
use Rattle.book.specs.Tabled.{state_of, size, depth}
use Rattle.book.proofs.Stacked.{records_of, depth_of}
use Rattle.book.proofs.Assigning.{local_full, local_saved, local_plain}
use Rattle.book.proofs.grouped.Grouped.assign_locally.Goals as goal
use Rattle.book.proofs.grouped.Grouped.assign_locally.Goals.{then-needs_record+else-len-ge-RECORDS, else-needs_record}

pub returns-then-len-ge-RECORDS : goal.returns-then-len-ge-RECORDS
returns-then-len-ge-RECORDS g c =
    let t = c.args.self.now in
    let full = λ (d : Entry _).
    let n = records_of d t in
    let h : 2048 ≤ records (state_of d t) = omega (arith, c.if-len-ge-RECORDS.true, c.len.ensures) in
    local_full 2048 (state_of d t) c.args.key c.args.value RecordsFull (sym (c.if-needs_record.ensures.answer d)) h in
    record { answer = λ d. (full d).0; state = λ d. (full d).1; sizes = (refl, refl) }

pub returns : goal.returns
returns g c =
    let t = c.args.self.now in
    let k = c.args.key in
    let v = c.args.value in
    let n = c.len-level.result in
    let after : State _ → State _ = λ u. record { table = put u.table k (record { value = v; level = n }); groups = u.groups } in
    let e = λ (d : Entry _). c.len-level.ensures ∙ depth_of d t in
    elim c.if-needs_record.branch [
      | then-needs_record+else-len-ge-RECORDS w ↦
          let taken = λ (d : Entry _).
          let m = records_of d t in
          let h : records (state_of d t) < 2048 = omega (arith, w.if-len-ge-RECORDS.false, w.len.ensures) in
          local_saved 2048 (state_of d t) k v n (e d) RecordsFull (sym (w.if-needs_record.ensures.answer d)) h in
          record {
            answer = λ d. (taken d).0;
            state = λ d. c.put.ensures.state d ∙ ap (λ (x : Grouped _). after (state_of d x)) w.self-is ∙ ap after (w.save.ensures.state d) ∙ (taken d).1;
            sizes = (
              c.put.ensures.sizes.0 ∙ ap (λ (x : Grouped _). size x) w.self-is ∙ w.save.ensures.sizes.0,
              c.put.ensures.sizes.1 ∙ ap (λ (x : Grouped _). depth x) w.self-is ∙ w.save.ensures.sizes.1,
            );
          }
      | else-needs_record w ↦
          let plain = λ (d : Entry _). local_plain 2048 (state_of d t) k v n (e d) RecordsFull (sym (w.if-needs_record.ensures.answer d)) in
          record {
            answer = λ d. (plain d).0;
            state = λ d. c.put.ensures.state d ∙ ap (λ (x : Grouped _). after (state_of d x)) w.self-is ∙ (plain d).1;
            sizes = (
              c.put.ensures.sizes.0 ∙ ap (λ (x : Grouped _). size x) w.self-is,
              c.put.ensures.sizes.1 ∙ ap (λ (x : Grouped _). depth x) w.self-is,
            );
          }
    ]
