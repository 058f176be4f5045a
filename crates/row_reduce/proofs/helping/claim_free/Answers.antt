use Rattle.std.proofs.Common.{length, ◌<◌}
use Rattle.row_reduce.proofs.Lowered.{Each_range}
use Rattle.row_reduce.proofs.helping.claim_free.Goals as goal

pub claim_each-requires-clause-free : goal.claim_each-requires-clause-free
claim_each-requires-clause-free c =
    Each_range (λ m. m < length c.args.shared.rows.now) c.args.free.now c.min-first.result (length c.args.free.now) c.requires.free

pub claim_each-requires-2-clause-free : goal.claim_each-requires-2-clause-free
claim_each-requires-2-clause-free c = Each_range (λ m. m < length c.args.shared.rows.now) c.args.free.now 0 c.min-first.result c.requires.free
