use Rattle.std.proofs.Common.{get_or, ℕ, ◌<◌, ◌≡◌}
use Rattle.term_lists.specs.Rings.{variables}
use Rattle.term_lists.specs.Vectors.{key_of}
use Rattle.module_vectors.specs.Trails.{kept_product_lead}
use Rattle.pair_criteria.specs.declared.pair.Pair.{Pair as CodePair}
use Rattle.basis_core.specs.Rows.{vectors_in}
use Rattle.basis_core.proofs.trails.find_pair.Given as goal

-- no lcm so far is the lead
abbrev pub invariant-loop-pair : goal.invariant-loop-pair
invariant-loop-pair l =
    (k : ℕ) (x : CodePair) → k < l.pair-index → x ≡ get_or l.pairs k x
    → kept_product_lead (variables l.members.shared.ring) (vectors_in l.members.list) l.product ≡ key_of (variables l.members.shared.ring) x.lcm → ⊥
