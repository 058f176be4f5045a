use Rattle.std.proofs.Common.{arith, length, subst, ◌<◌}
use Rattle.std.proofs.lemmas.List.{take_all}
use Rattle.term_lists.proofs.Parts.{Each_member}
use Rattle.pivot_table.specs.Law.{told}
use Rattle.dense_reduction.proofs.Claimed.{claimed_lost, claimed_none, claimed_won}
use Rattle.dense_reduction.specs.LostRows.{AreClaimed}
use Rattle.dense_reduction.proofs.claiming.claim_rows.Goals as goal
use Rattle.dense_reduction.proofs.claiming.claim_rows.Goals.{in-None, in-Some+in_ok-push-in-Some}

pub loop-number-preserved : goal.loop-number-preserved
loop-number-preserved c = record {
  seat = c.claim_row.ensures.seat;
  claimed =
      let rows = c.args.shared.rows.now in
      let mine = c.args.mine.now in
      let i = c.loop-number.number-index in
      let lt : i < length mine = omega (arith, c.loop-number-test.true) in
      let old = told c.loop-number.seat in
      let new = told c.claim_row.new.seat in
      elim c.match-claim_row.branch [
        | in-None w ↦
            rw w.lost-is
            (claimed_won rows mine old new c.loop-number.lost.items i 0 lt c.claim_row.ensures.follows c.loop-number.invariant.claimed
            (rw w.in-None.is at c.claim_row.ensures.claimed))
        | in-Some+in_ok-push-in-Some w ↦
            rw w.lost-is
            (claimed_lost rows mine old new c.loop-number.lost.items w.push.new.self.items w.in-Some.one i 0 lt
            c.claim_row.ensures.follows c.loop-number.invariant.claimed (rw w.in-Some.is at c.claim_row.ensures.claimed) w.in_ok-push-in-Some.ensures.items)
      ];
}

pub loop-number-init : goal.loop-number-init
loop-number-init c = record {
  seat = c.requires.seat;
  claimed = claimed_none c.args.shared.rows.now c.args.mine.now (told c.args.seat.now) c.in_ok-lost.lost.items c.in_ok-lost.ensures.items;
}

pub claim_row-requires-clause-number : goal.claim_row-requires-clause-number
claim_row-requires-clause-number c =
    Each_member (λ m. m < length c.args.shared.rows.now) c.args.mine.now c.loop-number.number-index 0 c.requires.mine c.loop-number-test.true

pub returns-clause-claimed : goal.returns-clause-claimed
returns-clause-claimed c =
    subst (λ xs. AreClaimed c.args.shared.rows.now xs (told c.loop-number.seat) c.loop-number.lost.items)
    (take_all c.loop-number.number-index c.args.mine.now c.loop-number-test.false) c.loop-number.invariant.claimed

pub claim_row-requires-clause-known : goal.claim_row-requires-clause-known
claim_row-requires-clause-known c = c.requires.known
