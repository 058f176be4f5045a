use Rattle.std.proofs.Common.{get_or, ℕ, ◌<◌, ◌≡◌}
use Rattle.term_lists.specs.Rings.{variables}
use Rattle.term_lists.specs.Vectors.{key_of}
use Rattle.module_vectors.specs.Trails.{kept_product_lead}
use Rattle.monomials.specs.Exponents.{exponents_of}
use Rattle.formal_sums.specs.FormalSums.{shift}
use Rattle.term_lists.specs.declared.key.Key.{Key as CodeKey}
use Rattle.basis_core.specs.Rows.{vectors_in}
use Rattle.basis_core.proofs.trails.is_in_product.Given as goal

-- no key so far is the lead
abbrev pub invariant-loop-term : goal.invariant-loop-term
invariant-loop-term l =
    (k : ℕ) (t : CodeKey × ℕ) → k < l.term-index → t ≡ get_or l.term-items k t
    → kept_product_lead (variables l.members.shared.ring) (vectors_in l.members.list) l.of
    ≡ shift (exponents_of (variables l.members.shared.ring) l.product.1.exponents) (key_of (variables l.members.shared.ring) t.0) → ⊥
