use Rattle.std.proofs.Common.{arith, ◌≡◌}
use Rattle.term_tables.proofs.Sums.{ranked_more, ranked_none, ranked_residues}
use Rattle.term_tables.specs.Digits.{packed_sum}
use Rattle.term_tables.proofs.unpacking.ranked_slots.Goals as goal

pub loop-slot-preserved-in_ok-push : goal.loop-slot-preserved-in_ok-push
loop-slot-preserved-in_ok-push c =
    let p = c.args.ring.now.modulus.value in
    let bs = c.args.bases.now in
    let parts = c.in-Some.ensures.cases.0 in
    record {
      residues = rw c.in_ok-push.ensures.items (ranked_residues p c.loop-slot.terms.items _ c.loop-slot.invariant.residues c.residue_of-residue.ensures.small);
      sum = λ n. rw c.in_ok-push.ensures.items
          (ranked_more n p bs c.loop-slot.terms.items c.in-Some.slot.now.0 c.rank.result c.in-Some.slot.now.1 c.residue_of-residue.result (packed_sum n bs c.in-Some.more.now) (packed_sum n bs c.args.slots.now) c.residue_of-residue.ensures.value
          (rw parts at (c.loop-slot.invariant.sum n)));
    }

pub loop-slot-preserved : goal.loop-slot-preserved
loop-slot-preserved c =
    let p = c.args.ring.now.modulus.value in
    let bs = c.args.bases.now in
    let parts = c.in-Some.ensures.cases.0 in
    let none : c.residue_of-residue.result ≡ 0 = omega arith in
    record {
      residues = c.loop-slot.invariant.residues;
      sum = λ n.
          ranked_none n p bs c.loop-slot.terms.items c.in-Some.slot.now.0 c.in-Some.slot.now.1 c.residue_of-residue.result (packed_sum n bs c.in-Some.more.now) (packed_sum n bs c.args.slots.now) c.residue_of-residue.ensures.value
          none (rw parts at (c.loop-slot.invariant.sum n));
    }
