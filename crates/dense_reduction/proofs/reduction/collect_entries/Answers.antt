use Rattle.std.proofs.Common.{ap, arith, get_or, length, subst, sym, take, ◌*◌, ◌+◌, ◌++◌, ◌<◌, ◌∙◌, ◌∷◌, ◌≡◌, []}
use Rattle.residues.specs.Residues.{IsCongruent}
use Rattle.monomials.specs.Exponents.{unit}
use Rattle.formal_sums.specs.FormalSums.{IsSame, scale}
use Rattle.row_matrix.specs.Rows.{AreEntries, row_sum}
use Rattle.dense_reduction.proofs.Entries.{entries_push, entries_widen}
use Rattle.dense_reduction.proofs.Reducing.{collect_none, collect_one}
use Rattle.dense_reduction.specs.Dense.{dense_sum}
use Rattle.dense_reduction.proofs.reduction.collect_entries.Goals as goal
use Rattle.dense_reduction.proofs.reduction.collect_entries.Goals.{then-product-ne0+in_ok-push, else-product-ne0}

pub loop-i-preserved : goal.loop-i-preserved
loop-i-preserved c =
    let p = c.args.modulus.now.value in
    let i = c.loop-i.i in
    let f = c.args.factor in
    let numbers = c.args.numbers.now in
    let kept : c.in_ok-count.count ≡ length numbers = c.in_ok-count.ensures in
    let lt : i < length numbers = omega (arith, c.loop-i-test.true, kept) in
    let is : IsCongruent p c.product_of-product.result (f * get_or numbers i 0) = c.product_of-product.ensures.congruent in
    elim c.if-product-ne0.branch [
      | then-product-ne0+in_ok-push w ↦ (
          let e : c.if-product-ne0.entries.items ≡ c.loop-i.entries.items ++ (i, c.product_of-product.result) ∷ [] = ap (λ v. v.items) w.entries-is ∙ w.in_ok-push.ensures.items in
          let ne : c.product_of-product.result ≡ 0 → ⊥ = w.if-product-ne0.true in
          record {
            entries = subst (AreEntries p 0 (i + 1)) (sym e) (entries_push p 0 i c.product_of-product.result c.loop-i.entries.items c.loop-i.invariant.entries (omega arith) c.product_of-product.ensures.small);
            sum = λ n key. subst (λ es. IsSame p (row_sum key es) (scale f (unit n) (dense_sum key 0 (take (i + 1) numbers)))) (sym e)
                (collect_one key f i c.product_of-product.result c.loop-i.entries.items numbers lt is (c.loop-i.invariant.sum n key));
          })
      | else-product-ne0 w ↦ (
          let e : c.if-product-ne0.entries.items ≡ c.loop-i.entries.items = ap (λ v. v.items) w.entries-is in
          let z : c.product_of-product.result ≡ 0 = w.if-product-ne0.false in
          record {
            entries = subst (AreEntries p 0 (i + 1)) (sym e) (entries_widen p 0 i (i + 1) c.loop-i.entries.items (omega arith) c.loop-i.invariant.entries);
            sum = λ n key. subst (λ es. IsSame p (row_sum key es) (scale f (unit n) (dense_sum key 0 (take (i + 1) numbers)))) (sym e)
                (collect_none key f i c.product_of-product.result c.loop-i.entries.items numbers lt is z (c.loop-i.invariant.sum n key));
          })
    ]
