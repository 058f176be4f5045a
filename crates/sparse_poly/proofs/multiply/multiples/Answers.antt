use Rattle.std.proofs.Common.{List, [], ap, arith, get_or, length, refl, subst, sym, take, ℕ, ◌++◌, ◌+◌, ◌<◌, ◌∙◌, ◌∷◌, ◌≡◌}
use Rattle.std.proofs.lemmas.List.{take_all, take_more}
use Rattle.term_lists.specs.declared.key.Key.{Key as CodeKey}
use Rattle.module_vectors.specs.declared.product.Product.{Product}
use Rattle.sparse_poly.proofs.Multiplying.{AreMultiples_push}
use Rattle.sparse_poly.specs.Multiples.{AreTermMultiples}
use Rattle.sparse_poly.proofs.multiply.multiples.Goals as goal

pub loop-term-init : goal.loop-term-init
loop-term-init c = let e = c.in_ok-products.ensures.items in rw e tt

step :
    (v terms : List (CodeKey × ℕ)) (xs ys : List Product) (i : ℕ) (t : CodeKey × ℕ) (x : Product)
    → i < length terms → t ≡ get_or terms i t → ys ≡ xs ++ x ∷ [] → x.residue ≡ t.1
    → x.monomial.now ≡ t.0.monomial → x.vector.now ≡ v → AreTermMultiples v (take i terms) xs
    → AreTermMultiples v (take (i + 1) terms) ys
step v terms xs ys i t x lt e d a b c h =
    let q : take (i + 1) terms ≡ take i terms ++ t ∷ [] = take_more terms i t lt ∙ ap (λ u. take i terms ++ u ∷ []) (sym e) in
    rw (q, d) (AreMultiples_push v (take i terms) xs t x a b c h)

pub loop-term-preserved : goal.loop-term-preserved
loop-term-preserved c =
    step c.args.v.now c.args.terms.now c.loop-term.products.items c.push.new.self.items c.loop-term.term-index c.term-item.result _
    (omega arith) c.term-item.is c.in_ok-push.ensures.items refl refl refl c.loop-term.invariant

pub returns : goal.returns
returns c =
    subst (λ ts. AreTermMultiples c.args.v.now ts c.loop-term.products.items) (take_all c.loop-term.term-index c.args.terms.now c.loop-term-test.false) c.loop-term.invariant
