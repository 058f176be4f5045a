use Rattle.formal_sums.specs.FormalSums.{Each}
use Rattle.term_lists.specs.Rings.{ring_comparison}
use Rattle.term_lists.specs.Vectors.{AreVectorsOver, HasPositions}
use Rattle.member_products.specs.Generators.{AreGenerators}
use Rattle.check_texts.proofs.vectors.vectors_of.Given as goal

abbrev pub invariant-loop-part : goal.invariant-loop-part
invariant-loop-part l = AreGenerators l.ring l.rank l.list × AreVectorsOver l.ring (ring_comparison l.ring) l.list × Each (HasPositions l.rank) l.list
