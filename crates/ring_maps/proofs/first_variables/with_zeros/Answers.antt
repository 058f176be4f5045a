use Rattle.std.proofs.Common.{ap, ◌++◌, ◌∙◌}
use Rattle.ring_maps.proofs.GraphRings.{with_zeros_same}
use Rattle.ring_maps.proofs.first_variables.with_zeros.Goals as goal

pub returns-clause-same : goal.returns-clause-same
returns-clause-same c =
    with_zeros_same c.args.count _ c.args.exponents.now _ _ c.requires
    (c.in_ok-extend_from_slice.ensures.items ∙ ap (λ z. z ++ c.args.exponents.now) c.clear.ensures.items) c.in_ok-resize.ensures.items
