use Rattle.std.proofs.Common.{subst, sym, ℕ}
use Rattle.formal_sums.specs.FormalSums.{Each}
use Rattle.term_lists.specs.Rings.{variables}
use Rattle.basis_steps.specs.Divisions.{IsMonicMember}
use Rattle.basis_steps.specs.Updates.{QueuesPairs}
use Rattle.basis_steps.specs.States.{vectors}
use Rattle.basis_core.specs.Jobs.{pairs_of}
use Rattle.basis_core.specs.Members.{Shared, members_of, setting_of}
use Rattle.basis_core.proofs.putting.add_members.Goals as goal

pub add_pairs-requires-clause-monic : goal.add_pairs-requires-clause-monic
add_pairs-requires-clause-monic c =
    subst (λ (sh : Shared). Each (IsMonicMember (setting_of (variables sh.ring) sh))
    (vectors (members_of (variables sh.ring) c.make_rows.new.members.list))) (sym c.in_default.ensures.shared) c.in_default.ensures.monic

pub returns-clause-queues : goal.returns-clause-queues
returns-clause-queues c =
    subst (λ (z : Shared × ℕ). QueuesPairs c.args.pairs.now.update (setting_of (variables z.0.ring) z.0) z.1
    (vectors (members_of (variables z.0.ring) c.make_rows.new.members.list)) (pairs_of c.args.pairs.now.queue) c.args.pairs.now.dropped
    (pairs_of c.add_pairs.new.pairs.queue) c.add_pairs.new.pairs.dropped)
    (λ i. (c.in_default.ensures.shared i, c.len-first.ensures i)) c.in_default-add_pairs.ensures.queues
