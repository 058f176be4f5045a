use Rattle.std.proofs.Common.{List, arith, inl, inr, length, refl, reverse, subst, sym, ℕ, ◌<◌, ◌∷◌, ◌≡◌, ◌⊎◌, ◌-◌}
use Rattle.term_lists.specs.Rings.{variables}
use Rattle.term_lists.specs.declared.key.Key.{Key as CodeKey}
use Rattle.module_vectors.specs.Trails.{IsInProduct, IsKeptProduct, KeptProduct, no_product, kept_product_lead, kept_at}
use Rattle.pair_criteria.specs.declared.pair.Pair.{Pair as CodePair}
use Rattle.basis_core.specs.Chains.{IsChainTo}
use Rattle.basis_core.specs.Rows.{vectors_in}
use Rattle.bases.proofs.Meeting.{turn_at}
use Rattle.formal_sums.specs.FormalSums.{Key}
use Rattle.basis_core.proofs.Chaining.{chain_before, each_item, kept_item, last_chain, pushed_chain, step_is}
use Rattle.basis_core.proofs.trails.trace_to_pair.Goals as goal
use Rattle.pair_criteria.specs.Pairs.{IsLcmOf}

pub loop-pair-init : goal.loop-pair-init
loop-pair-init c =
    let n : ℕ = variables c.args.members.now.shared.ring in
    let ws : List ℕ = c.args.members.now.shared.ring.weights in
    let vs : List (List (CodeKey × ℕ)) = vectors_in c.args.members.now.list in
    let all : List KeptProduct = c.args.all.now in
    let at : ℕ = length all - 1 in
    record {
      within = omega (arith, c.requires.some);
      chain = subst (λ (z : List KeptProduct). IsChainTo n ws vs all (kept_at all at) (kept_at all at ∷ reverse z)) (sym c.requires.none)
          (last_chain n ws vs all c.requires.all c.requires.some);
    }

pub find_pair-requires-clause-nonzero : goal.find_pair-requires-clause-nonzero
find_pair-requires-clause-nonzero c = c.requires.nonzero

pub find_pair-requires-clause-pairs : goal.find_pair-requires-clause-pairs
find_pair-requires-clause-pairs c = c.requires.pairs

pub find_pair-requires-clause-variables : goal.find_pair-requires-clause-variables
find_pair-requires-clause-variables c = c.requires.variables

pub find_pair-requires-clause-unit : goal.find_pair-requires-clause-unit
find_pair-requires-clause-unit c = c.requires.unit

pub find_pair-requires-clause-product : goal.find_pair-requires-clause-product
find_pair-requires-clause-product c =
    each_item (IsKeptProduct (variables c.args.members.now.shared.ring) c.args.members.now.shared.ring.weights (vectors_in c.args.members.now.list))
    c.args.all.now c.loop-pair.at c.index-all-at.result c.requires.all c.loop-pair.invariant.within c.index-all-at.is

pub returns-in-Some : goal.returns-in-Some
returns-in-Some c =
    let n : ℕ = variables c.args.members.now.shared.ring in
    let vs : List (List (CodeKey × ℕ)) = vectors_in c.args.members.now.list in
    let there : c.index-all-at.result ≡ kept_at c.args.all.now c.loop-pair.at =
    step_is c.args.all.now c.loop-pair.at c.index-all-at.result c.loop-pair.invariant.within c.index-all-at.is in
    record {
      first = kept_at c.args.all.now c.loop-pair.at;
      chain_is = pushed_chain (variables c.args.members.now.shared.ring) c.args.members.now.shared.ring.weights (vectors_in c.args.members.now.list)
          c.args.all.now c.loop-pair.at c.index-all-at.result c.loop-pair.chain.items c.push_product.new.products.items
          c.loop-pair.invariant.within c.index-all-at.is c.in_ok-push_product.ensures c.loop-pair.invariant.chain;
      pair = c.in-Some.pair.now;
      indices = refl;
      lcm = subst (λ (s : KeptProduct). IsLcmOf n c.args.pairs.now (kept_product_lead n vs s) c.in-Some.pair.now) there c.in-Some.ensures.some;
    }

pub find_earlier-at-requires-clause-some : goal.find_earlier-at-requires-clause-some
find_earlier-at-requires-clause-some c =
    let n : ℕ = variables c.args.members.now.shared.ring in
    let vs : List (List (CodeKey × ℕ)) = vectors_in c.args.members.now.list in
    let there : c.index-all-at.result ≡ kept_at c.args.all.now c.loop-pair.at =
    step_is c.args.all.now c.loop-pair.at c.index-all-at.result c.loop-pair.invariant.within c.index-all-at.is in
    let go : (((x : CodePair) × IsLcmOf n c.args.pairs.now (kept_product_lead n vs (kept_at c.args.all.now c.loop-pair.at)) x)
    ⊎ ((j : ℕ) × (j < c.loop-pair.at) × IsInProduct n vs (kept_product_lead n vs (kept_at c.args.all.now c.loop-pair.at)) (kept_at c.args.all.now j)))
    → (j : ℕ) × (j < c.loop-pair.at) × IsInProduct n vs (kept_product_lead n vs (kept_at c.args.all.now c.loop-pair.at)) (kept_at c.args.all.now j) =
    λ z. elim z [
      | inl x ↦ absurd (c.in_default.ensures.none x.0 (subst (λ (s : KeptProduct). IsLcmOf n c.args.pairs.now (kept_product_lead n vs s) x.0) (sym there) x.1))
      | inr h ↦ h
    ] in
    go (turn_at (λ (k : Key n). (x : CodePair) × IsLcmOf n c.args.pairs.now k x) (IsInProduct n vs) (kept_product_lead n vs) no_product c.args.all.now
    c.requires.traced c.loop-pair.at c.loop-pair.invariant.within)

pub loop-pair-preserved : goal.loop-pair-preserved
loop-pair-preserved c =
    let n : ℕ = variables c.args.members.now.shared.ring in
    let ws : List ℕ = c.args.members.now.shared.ring.weights in
    let vs : List (List (CodeKey × ℕ)) = vectors_in c.args.members.now.list in
    let all : List KeptProduct = c.args.all.now in
    let j : ℕ = c.find_earlier-at.result in
    let within : j < length all = omega (arith, c.find_earlier-at.ensures.earlier, c.loop-pair.invariant.within) in
    record {
      within = within;
      chain = chain_before n ws vs all (kept_at all c.loop-pair.at) (kept_at all j) (reverse c.push_product.new.products.items)
          (pushed_chain (variables c.args.members.now.shared.ring) c.args.members.now.shared.ring.weights (vectors_in c.args.members.now.list)
          c.args.all.now c.loop-pair.at c.index-all-at.result c.loop-pair.chain.items c.push_product.new.products.items
          c.loop-pair.invariant.within c.index-all-at.is c.in_ok-push_product.ensures c.loop-pair.invariant.chain)
          (kept_item (IsKeptProduct n ws vs) all j c.requires.all within) c.find_earlier-at.ensures.met;
    }
