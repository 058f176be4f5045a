use Rattle.std.proofs.Common.{subst, sym, ◌∙◌}
use Rattle.term_lists.specs.Rings.{variables}
use Rattle.term_lists.specs.Vectors.{sum_of}
use Rattle.syzygy_engine.specs.Marking.{StandOneByOne}
use Rattle.syzygy_engine.proofs.KernelSteps.{kernel_kept}
use Rattle.syzygy_engine.proofs.Standing.{stand_next}
use Rattle.syzygy_engine.proofs.lowering.take_member.Goals as goal

pub returns-clause-stand : goal.returns-clause-stand
returns-clause-stand c = λ G h.
    let ring = c.args.ring.now in
    let kept = sym (c.is_from.ensures (variables ring)) ∙ c.if-not-is_from.false in
    rw c.in_ok-push.ensures.items
    (subst (StandOneByOne ring _) (sym (kernel_kept c.args.position G (sum_of (variables ring) c.args.v) kept))
    (stand_next ring c.args.kernel.now.items _ c.in_ok-lowered_vector.field-0 _ h c.in_ok-lowered_vector.ensures.sum))

pub lowered_vector-requires-clause-terms : goal.lowered_vector-requires-clause-terms
lowered_vector-requires-clause-terms c = c.requires
