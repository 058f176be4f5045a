use Rattle.std.proofs.Common.{ap, arith, get_or, length, ◌%◌}
use Rattle.order_change.proofs.Items.{one_more_item}
use Rattle.order_change.proofs.sums.Sums.reduced.Goals as goal

pub loop-k-init : goal.loop-k-init
loop-k-init c = record { long = ap length c.in_ok-residues.ensures.items; same = λ j lt. absurd (omega (arith, lt)) }

pub loop-k-preserved : goal.loop-k-preserved
loop-k-preserved c =
    let next = one_more_item (λ j. get_or c.args.self.now j 0 % c.args.modulus.now.value) c.loop-k.residues.items c.push.new.self.items c.residue_at.result
    c.loop-k.k
    c.in_ok-push.ensures.items c.loop-k.invariant.long c.loop-k.invariant.same c.residue_at.ensures.value in
    record { long = next.0; same = next.1 }
