use Rattle.std.proofs.Common.{length, ◌<◌, ◌≡◌}
use Rattle.term_lists.specs.Rings.{variables}
use Rattle.check_texts.proofs.products.multiple_of.Given as goal

abbrev pub invariant-loop-factor : goal.invariant-loop-factor
invariant-loop-factor l = (l.residue < l.ring.modulus.value) × (length l.exponents.items ≡ variables l.ring)
