use Rattle.std.proofs.Common.{subst, sym}
use Rattle.term_lists.specs.FrontVariables.{with_front}
use Rattle.term_lists.specs.Vectors.{AreTermsOver}
use Rattle.ideal_ops.proofs.OneMoreVariable.{front_vector, over_with_front}
use Rattle.ideal_ops.proofs.front.in_front.Goals as goal

pub with_front-requires : goal.with_front-requires
with_front-requires c =
    let v = c.args.v.now in
    subst (λ r. AreTermsOver r (with_front v)) (sym c.requires.front) (over_with_front c.args._ring.now v c.requires.vector)

pub returns : goal.returns
returns c = front_vector c.args._ring.now c.args.front.now c.args.v.now c.in_ok-with_front.field-0 c.requires.front c.in_ok-with_front.ensures.vector c.in_ok-with_front.ensures.sum
