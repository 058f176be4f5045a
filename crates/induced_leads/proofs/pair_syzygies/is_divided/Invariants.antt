use Rattle.std.proofs.Common.{take}
use Rattle.monomials.specs.Exponents.{Divides, exponents_of}
use Rattle.formal_sums.specs.FormalSums.{Each}
use Rattle.term_lists.specs.Rings.{variables}
use Rattle.induced_leads.proofs.pair_syzygies.is_divided.Given as goal

abbrev pub invariant-loop-k : goal.invariant-loop-k
invariant-loop-k l = let n = variables l.ring in Each (λ k. Divides (exponents_of n k.exponents) (exponents_of n l.m.exponents) → ⊥) (take l.k-index l.kept)
