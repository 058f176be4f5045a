use Rattle.std.proofs.Common.{◌≡◌, arith, rules}
use Rattle.risen_counts.specs.Counts.{next_count}
use Rattle.byte_ports.proofs.std_ports.write_again.Goals as goal

pub returns-then-ne-clause-cause : goal.returns-then-ne-clause-cause
returns-then-ne-clause-cause g c =
    let counted : c.write_once.new.faults ≡ next_count c.args.faults.now = search rules in
    record { later = omega (arith, c.write_once.ensures.later, c.loop.invariant.0); failed = omega (arith, counted) }
