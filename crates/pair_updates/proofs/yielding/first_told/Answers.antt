use Rattle.std.proofs.Common.{arith, get_or, refl}
use Rattle.pair_updates.proofs.PassedPairs.{below_yielded, yields_below}
use Rattle.pair_updates.proofs.yielding.first_told.Goals as goal

pub returns-then-k-members : goal.returns-then-k-members
returns-then-k-members c =
    let members = c.args.members.now in
    let above = c.args.above.now in
    record {
      first = λ z late lt y. c.next_seen-k.ensures.before z late (omega (arith, lt, c.if-k-members.true))
          (below_yielded c.args._leads.now c.args.pair.now c.requires.few c.requires.all c.requires.pair (get_or members z 0) (get_or above z 0)
          (c.requires.active.each z lt) y);
      seen = c.next_seen-k.ensures.seen;
    }

pub returns : goal.returns
returns c =
    let m = c.args._leads.now in
    let x = c.args.pair.now in
    let members = c.args.members.now in
    let above = c.args.above.now in
    record {
      first = record {
        stands = record {
          at = c.next_seen-k.result;
          late = c.next_seen-k.ensures.late;
          within = omega (arith, c.next_seen-k.ensures.bound, c.if-k-members.false, c.requires.active.len);
          is = refl;
        };
        yields = yields_below m x c.requires.few c.requires.all c.requires.pair (get_or members c.next_seen-k.result 0)
            (get_or above c.next_seen-k.result 0)
            (c.requires.active.each c.next_seen-k.result (omega (arith, c.next_seen-k.ensures.bound, c.if-k-members.false, c.requires.active.len)))
            (c.next_seen-k.ensures.found (omega (arith, c.next_seen-k.ensures.bound, c.if-k-members.false, c.requires.active.len)));
        before = λ z late lt y. c.next_seen-k.ensures.before z late lt
            (below_yielded m x c.requires.few c.requires.all c.requires.pair (get_or members z 0) (get_or above z 0)
            (c.requires.active.each z (omega (arith, lt, c.next_seen-k.ensures.bound, c.if-k-members.false, c.requires.active.len))) y);
      };
      seen = c.next_seen-k.ensures.seen;
    }
