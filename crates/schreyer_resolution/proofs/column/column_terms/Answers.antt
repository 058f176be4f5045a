use Rattle.std.proofs.Common.{[], ap, ap₂, append_assoc, map, subst, sym, ◌++◌, ◌<◌, ◌∙◌, ◌∷◌}
use Rattle.formal_sums.specs.FormalSums.{Each}
use Rattle.vector_division.specs.declared.reduction.ScaledProduct.{ScaledProduct}
use Rattle.term_lists.specs.declared.key.Key.{Key as CodeKey}
use Rattle.schreyer_resolution.specs.Columns.{negated_term}
use Rattle.schreyer_resolution.proofs.column.column_terms.Goals as goal

pub loop-quotient-init : goal.loop-quotient-init
loop-quotient-init c =
    let m = c.args.modulus.now.value in
    record {
      items = ap₂ (λ xs qs. xs ++ map (negated_term m) qs) c.in_ok-terms.ensures c.from_vec-rest.ensures.items;
      known = subst (Each (λ (q : ScaledProduct). q.residue < m)) (sym c.from_vec-rest.ensures.items) c.requires;
    }

pub neg-requires : goal.neg-requires
neg-requires c =
    let m = c.args.modulus.now.value in
    (subst (Each (λ (q : ScaledProduct). q.residue < m)) c.in-Some.ensures.items c.loop-quotient.invariant.known).0

pub loop-quotient-preserved : goal.loop-quotient-preserved
loop-quotient-preserved c =
    let m = c.args.modulus.now.value in
    let q = c.in-Some.quotient in
    let key : CodeKey = record { position = q.index; monomial = q.monomial } in
    let old = c.loop-quotient.terms.items in
    let left = map (negated_term m) c.pop_front.new.self.items in
    record {
      items = ap (λ xs. xs ++ left) c.in_ok-push.ensures.items
          ∙ append_assoc old ((key, c.neg.result) ∷ []) left
          ∙ ap (λ r. old ++ (key, r) ∷ left) c.neg.ensures.value
          ∙ sym (ap (λ qs. old ++ map (negated_term m) qs) c.in-Some.ensures.items)
          ∙ c.loop-quotient.invariant.items;
      known = (subst (Each (λ (z : ScaledProduct). z.residue < m)) c.in-Some.ensures.items c.loop-quotient.invariant.known).1;
    }
