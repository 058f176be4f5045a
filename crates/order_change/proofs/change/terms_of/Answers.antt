use Rattle.std.proofs.Common.{[], ap, arith, get_or, length, subst, sym, ℕ, ◌++◌, ◌<◌, ◌∙◌, ◌∷◌, ◌≡◌, ◌≤◌}
use Rattle.std.specs.Prelude.{slice_index}
use Rattle.formal_sums.proofs.WeightedSums.{Each_append}
use Rattle.formal_sums.specs.FormalSums.{Each}
use Rattle.monomials.specs.Exponents.{exponents_of, unit}
use Rattle.monomial_orders.specs.Kept.{IsWeighed, monomials}
use Rattle.term_lists.specs.Vectors.{key_of, sum_of}
use Rattle.term_lists.specs.declared.key.Key.{Key as CodeKey}
use Rattle.change_laws.specs.Combinations.{expansion}
use Rattle.order_change.proofs.Items.{item_at, length_monomials}
use Rattle.order_change.proofs.Stepping.{take_whole, terms_more}
use Rattle.order_change.proofs.change.terms_of.Goals as goal

pub loop-k-init : goal.loop-k-init
loop-k-init c =
    let ws = c.args.weights.now in
    let n = length ws in
    record {
      terms = subst (Each (λ (t : CodeKey × ℕ). IsWeighed n ws t.0.monomial × (t.1 < c.args.modulus.now.value))) (sym c.new-terms.ensures.items) tt;
      sum = ap (sum_of n) c.new-terms.ensures.items;
    }

pub loop-k-preserved : goal.loop-k-preserved
loop-k-preserved c =
    let ws = c.args.weights.now in
    let n = length ws in
    let p = c.args.modulus.now.value in
    let list = c.args.list.now in
    let k = c.loop-k.k in
    let g = c.index-list-k.result in
    let lt : k < length list = omega arith in
    let key : CodeKey = record { position = 0; monomial = c.in_ok-try_copy.field-0 } in
    let y : CodeKey × ℕ = (key, c.at.result) in
    let e : c.push.new.self.items ≡ c.loop-k.terms.items ++ y ∷ [] = c.in_ok-push.ensures.items in
    let weighed : IsWeighed n ws c.in_ok-try_copy.field-0 = subst (IsWeighed n ws) (sym c.in_ok-try_copy.ensures.ok) (c.requires.list k g lt (sym c.index-list-k.is)) in
    let small : c.at.result < p = subst (λ z. z < p) (sym c.at.ensures) (c.requires.residues k) in
    let is : key_of n key ≡ (0, get_or (monomials n list) k (unit n)) =
    ap (λ m. (0, exponents_of n m.exponents)) c.in_ok-try_copy.ensures.ok ∙ ap (λ z. (0, z)) (sym (item_at n list k g lt c.index-list-k.is)) in
    record {
      terms = subst (Each (λ (t : CodeKey × ℕ). IsWeighed n ws t.0.monomial × (t.1 < p))) (sym e)
          (Each_append (λ (t : CodeKey × ℕ). IsWeighed n ws t.0.monomial × (t.1 < p)) c.loop-k.terms.items (y ∷ []) c.loop-k.invariant.terms ((weighed, small), tt));
      sum = ap (sum_of n) e ∙ terms_more (monomials n list) (slice_index c.args.residues.now) c.loop-k.terms.items y k c.loop-k.invariant.sum (omega (arith, lt, length_monomials n list)) is c.at.ensures;
    }

pub returns-clause-sum : goal.returns-clause-sum
returns-clause-sum c =
    let n = length c.args.weights.now in
    let le : length (monomials n c.args.list.now) ≤ c.loop-k.k = omega (arith, c.loop-k-test.false, length_monomials n c.args.list.now) in
    c.loop-k.invariant.sum ∙ ap (λ z. expansion z (slice_index c.args.residues.now)) (take_whole (monomials n c.args.list.now) c.loop-k.k le)
