use Rattle.std.proofs.Common.{IfOk, [], ap, length, subst, sym, ℕ, ◌++◌, ◌<◌, ◌∙◌, ◌∷◌, ◌≡◌}
use Rattle.std.specs.Prelude.{slice_index}
use Rattle.formal_sums.proofs.WeightedSums.{Each_append}
use Rattle.formal_sums.specs.FormalSums.{Each, IsSame}
use Rattle.monomials.specs.Exponents.{exponents_of}
use Rattle.monomial_orders.specs.Kept.{IsWeighed, monomials}
use Rattle.term_lists.specs.Rings.{ring_comparison}
use Rattle.term_lists.specs.Vectors.{IsVector, key_of, sum_of}
use Rattle.term_lists.specs.declared.key.Key.{Key as CodeKey}
use Rattle.change_laws.specs.Combinations.{expansion}
use Rattle.order_change.proofs.Items.{length_monomials}
use Rattle.order_change.proofs.Stepping.{terms_last}
use Rattle.order_change.proofs.change.member.Goals as goal

pub from_terms-requires : goal.from_terms-requires
from_terms-requires c =
    let ring = c.args.ring.now in
    let ws = ring.weights in
    let n = length ws in
    let p = ring.modulus.value in
    let key : CodeKey = record { position = 0; monomial = c.in_ok-try_copy.field-0 } in
    let y : CodeKey × ℕ = (key, 1) in
    let e : c.push.new.self.items ≡ c.in_ok-terms.terms.items ++ y ∷ [] = c.in_ok-push.ensures.items in
    let weighed : IsWeighed n ws c.in_ok-try_copy.field-0 = subst (IsWeighed n ws) (sym c.in_ok-try_copy.ensures.ok) c.requires.monomial in
    subst (λ z. Each (λ (t : CodeKey × ℕ). IsWeighed z ws t.0.monomial × (t.1 < p)) c.push.new.self.items) ring.weighted
    (subst (Each (λ (t : CodeKey × ℕ). IsWeighed n ws t.0.monomial × (t.1 < p))) (sym e)
    (Each_append (λ (t : CodeKey × ℕ). IsWeighed n ws t.0.monomial × (t.1 < p)) c.in_ok-terms.terms.items (y ∷ []) c.in_ok-terms.ensures.terms ((weighed, c.domain.ensures.above_one), tt)))

pub returns-clause-vector : goal.returns-clause-vector
returns-clause-vector c =
    let ring = c.args.ring.now in
    subst (λ z. IfOk c.from_terms.result (IsVector z ring.weights ring.modulus.value (ring_comparison ring z))) (sym ring.weighted) c.from_terms.ensures.vector

pub returns-clause-sum : goal.returns-clause-sum
returns-clause-sum c =
    let ring = c.args.ring.now in
    let ws = ring.weights in
    let n = length ws in
    let p = ring.modulus.value in
    let list = c.args.list.now in
    let m = c.args.m.now in
    let f = slice_index c.args.residues.now in
    let key : CodeKey = record { position = 0; monomial = c.in_ok-try_copy.field-0 } in
    let y : CodeKey × ℕ = (key, 1) in
    let e : c.push.new.self.items ≡ c.in_ok-terms.terms.items ++ y ∷ [] = c.in_ok-push.ensures.items in
    let is : key_of n key ≡ (0, exponents_of n m.exponents) = ap (λ x. (0, exponents_of n x.exponents)) c.in_ok-try_copy.ensures.ok in
    let whole : sum_of n c.push.new.self.items ≡ expansion (monomials n list ++ exponents_of n m.exponents ∷ []) f =
    ap (sum_of n) e ∙ terms_last (monomials n list) f c.in_ok-terms.terms.items y (exponents_of n m.exponents) c.in_ok-terms.ensures.sum is (sym (ap f (length_monomials n list) ∙ c.requires.one)) in
    subst (λ w. IfOk c.from_terms.result (λ v. IsSame p (sum_of n v) w)) whole
    (subst (λ z. IfOk c.from_terms.result (λ v. IsSame p (sum_of z v) (sum_of z c.push.new.self.items))) (sym ring.weighted) c.from_terms.ensures.same)
