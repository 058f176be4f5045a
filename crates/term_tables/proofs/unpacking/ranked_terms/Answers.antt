use Rattle.std.proofs.Common.{arith, ◌+◌, ◌≡◌}
use Rattle.term_tables.proofs.Sums.{ranked_more, ranked_none, ranked_residues}
use Rattle.term_tables.specs.Tables.{table_sum}
use Rattle.term_tables.proofs.unpacking.ranked_terms.Goals.{else-residue-ne0, then-residue-ne0+in_ok-push}
use Rattle.term_tables.proofs.unpacking.ranked_terms.Goals as goal

pub loop-sum-preserved : goal.loop-sum-preserved
loop-sum-preserved c =
    let p = c.args.ring.now.modulus.value in
    let bs = c.args.bases.now in
    let parts = c.in-Some.ensures.cases.0 in
    elim c.if-residue-ne0.branch [
      | then-residue-ne0+in_ok-push w ↦
          record {
            reach = (let inv = c.loop-sum.invariant.reach in let len = c.in-Some.ensures.cases.1 in omega arith);
            residues = rw (w.terms-is, w.in_ok-push.ensures.items) (ranked_residues p c.loop-sum.terms.items _ c.loop-sum.invariant.residues c.residue_of-residue.ensures.small);
            sum = λ n. rw (w.terms-is, w.in_ok-push.ensures.items)
                (ranked_more n p bs c.loop-sum.terms.items c.loop-sum.k w.rank.result c.in-Some.sum.now c.residue_of-residue.result (table_sum n bs (c.loop-sum.k + 1) c.in-Some.more.now) (table_sum n bs 0 c.args.sums.now) c.residue_of-residue.ensures.value
                (rw parts at (c.loop-sum.invariant.sum n)));
          }
      | else-residue-ne0 w ↦
          record {
            reach = (let inv = c.loop-sum.invariant.reach in let len = c.in-Some.ensures.cases.1 in omega arith);
            residues = rw w.terms-is c.loop-sum.invariant.residues;
            sum = λ n. rw w.terms-is
                (ranked_none n p bs c.loop-sum.terms.items c.loop-sum.k c.in-Some.sum.now c.residue_of-residue.result (table_sum n bs (c.loop-sum.k + 1) c.in-Some.more.now) (table_sum n bs 0 c.args.sums.now) c.residue_of-residue.ensures.value
                (let zero_is : c.residue_of-residue.result ≡ 0 = (let f = w.if-residue-ne0.false in omega arith) in zero_is) (rw parts at (c.loop-sum.invariant.sum n)));
          }
    ]
