use Rattle.std.proofs.Common.{◌≡◌, arith, rules}
use Rattle.risen_counts.specs.Counts.{next_count}
use Rattle.byte_ports.proofs.std_ports.read_again.Goals as goal

pub returns-then-ne-clause-cause : goal.returns-then-ne-clause-cause
returns-then-ne-clause-cause g c =
    let counted : c.read_once.new.faults ≡ next_count c.args.faults.now = search rules in
    record { later = omega (arith, c.read_once.ensures.later, c.loop.invariant.1); failed = omega (arith, counted) }
