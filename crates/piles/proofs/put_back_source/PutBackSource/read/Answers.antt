use Rattle.std.proofs.Common.{refl}
use Rattle.names.specs.Spelled.{listed}
use Rattle.piles.specs.Helds.{held_tokens}
use Rattle.piles.specs.Front.{front_read, front_reads}
use Rattle.piles.proofs.put_back_source.PutBackSource.read.Goals as goal

pub returns-in-Some : goal.returns-in-Some
returns-in-Some g c =
    let p = c.args.self.now in
    let e = c.in-Some.ensures.items in
    let h = front_read c.args.categories.now (listed c.args.names.now) (g.S.Source.place p.below) (held_tokens p.held) (held_tokens c.take.new.self) c.in-Some.token (g.S.Source.ahead p.below) e in
    record {
      answer = h.0;
      names = h.1;
      items = h.2;
      reads = front_reads g.S.Source.reads c.args.categories.now (listed c.args.names.now) p _ (held_tokens p.held) c.in-Some.token e refl;
    }
