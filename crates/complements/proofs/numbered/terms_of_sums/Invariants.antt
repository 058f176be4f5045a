use Rattle.std.proofs.Common.{drop}
use Rattle.numbered_sums.specs.KeySums.{AreTouched}
use Rattle.complements.specs.Combining.{AreTermsBeside}
use Rattle.complements.proofs.numbered.terms_of_sums.Given as goal

abbrev pub invariant-loop-one : goal.invariant-loop-one
invariant-loop-one l = record {
  beside : AreTermsBeside l.ring l.numbers l.fn.sums.items l.sums.items l.terms.items;
  rest : AreTouched l.touched l.sums.items;
}

abbrev pub invariant-loop-number : goal.invariant-loop-number
invariant-loop-number l = record {
  beside : AreTermsBeside l.ring l.numbers l.fn.sums.items l.sums.items l.terms.items;
  rest : AreTouched (drop l.number-index l.touched) l.sums.items;
}
