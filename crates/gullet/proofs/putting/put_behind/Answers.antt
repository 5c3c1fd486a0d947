use Rattle.std.proofs.Common.{◌≡◌, ◌+◌, ◌<◌, ◌≤◌, ◌++◌, length, Err, refl, ap, ◌∙◌, arith, length-append}
use Rattle.sources.specs.declared.fault.PileRefusal.TheVariants.{PutBackFull}
use Rattle.sources.specs.declared.fault.PileFault.TheVariants.{Pile}
use Rattle.piles.specs.Inserting.{refused, put_back}
use Rattle.piles.specs.Helds.{held_tokens}
use Rattle.gullet.proofs.Puts.{puts, puts_not, puts_both, held_few}
use Rattle.gullet.proofs.putting.put_behind.Goals as goal
use Rattle.gullet.proofs.putting.put_behind.Goals.{then-res-room-via-then-res-room, then-res-room-via-else-res-room+then-waiting-room}

pub returns-then-res-room : goal.returns-then-res-room
returns-then-res-room g c =
    let ws = c.args.waiting.now in
    let rs = c.args.res.now in
    let hs = held_tokens c.args.source.now.held in
    let h = c.held.ensures in
    let s = c.saturating_sub-room.ensures in
    let over : 4096 < length (ws ++ rs) + length hs =
    elim c.then-res-room.branch [
      | then-res-room-via-then-res-room w ↦ omega (arith, length-append ws rs, w.if-res-room.true)
      | then-res-room-via-else-res-room+then-waiting-room w ↦ omega (arith, length-append ws rs, w.if-res-room.false, w.if-waiting-room.true)
    ] in
    let e : put_back (ws ++ rs) hs ≡ refused PutBackFull = puts_not (ws ++ rs) hs over in
    record {
      answer = rw e (ap (λ p. Err (Pile PutBackFull p)) c.place.ensures);
      held = rw e;
      below = refl;
    }

pub returns : goal.returns
returns g c =
    let ws = c.args.waiting.now in
    let rs = c.args.res.now in
    let hs = held_tokens c.args.source.now.held in
    let h = c.held.ensures in
    let s = c.saturating_sub-room.ensures in
    let fits : length ws + length rs + length hs ≤ 4096 = omega (arith, c.if-res-room.false, c.if-waiting-room.false, held_few c.args.source.now.held) in
    let all : length (ws ++ rs) + length hs ≤ 4096 = omega (arith, length-append ws rs) in
    record {
      answer = rw (puts (ws ++ rs) hs all);
      held = c.put_back-2.ensures.held ∙ rw c.put_back.ensures.held (puts_both ws rs hs fits);
      below = c.put_back-2.ensures.below ∙ c.put_back.ensures.below;
    }
