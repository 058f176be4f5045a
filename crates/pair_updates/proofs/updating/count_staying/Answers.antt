use Rattle.std.proofs.Common.{List, [], ap, drop, get_or, length, refl, subst, sym, take, ◌++◌, ◌+◌, ◌<◌, ◌∙◌, ◌∷◌, ◌≡◌, ℕ}
use Rattle.std.proofs.lemmas.List.{drop_more, take_more}
use Rattle.pair_criteria.specs.declared.pair.Pair.{Pair as CodePair}
use Rattle.pair_updates.proofs.CriterionTests.{not_true}
use Rattle.pair_updates.proofs.StayingPairs.{none_looked_at, one_stays}
use Rattle.pair_updates.proofs.Swapping.{none_dropped, none_taken}
use Rattle.pair_updates.specs.Pairs.{pairs_of}
use Rattle.pair_updates.specs.Updating.{Staying}
use Rattle.pair_updates.proofs.updating.count_staying.Goals as goal

pub loop-k-init : goal.loop-k-init
loop-k-init c = λ drops.
    let m = c.args.leads.now in
    let pairs = c.args.pairs.now in
    subst (λ (l : List CodePair). Staying m c.args.h (pairs_of pairs) drops l (drop 0 pairs) drops) (sym (none_taken pairs))
    (subst (λ (l : List CodePair). Staying m c.args.h (pairs_of pairs) drops [] l drops) (sym (none_dropped pairs))
    (none_looked_at m c.args.h (pairs_of pairs) drops pairs refl c.requires.real c.requires.earlier))

-- the pair at place k, and those behind it
behind : (q : List CodePair) (k : ℕ) (x : CodePair) → k < length q → x ≡ get_or q k x → drop k q ≡ x ∷ drop (k + 1) q
behind q k x lt is = drop_more q k x lt ∙ ap (λ z. z ∷ drop (k + 1) q) (sym is)

pub leaves_by_row-requires-clause-later : goal.leaves_by_row-requires-clause-later
leaves_by_row-requires-clause-later c =
    let m = c.args.leads.now in
    let q : List CodePair = c.args.pairs.now in
    let k = c.loop-k.k in
    let x : CodePair = c.index-pairs-k.result in
    let s = subst (λ (l : List CodePair). Staying m c.args.h (pairs_of q) [] (take k q) l []) (behind q k x c.loop-k-test.true c.index-pairs-k.is)
    (c.loop-k.invariant []) in
    s.within.0.1

pub loop-k-preserved : goal.loop-k-preserved
loop-k-preserved c = λ drops.
    let m = c.args.leads.now in
    let q : List CodePair = c.args.pairs.now in
    let k = c.loop-k.k in
    let x : CodePair = c.index-pairs-k.result in
    let s = subst (λ (l : List CodePair). Staying m c.args.h (pairs_of q) drops (take k q) l drops) (behind q k x c.loop-k-test.true c.index-pairs-k.is)
    (c.loop-k.invariant drops) in
    let more : take (k + 1) q ≡ take k q ++ (x ∷ []) = take_more q k x c.loop-k-test.true ∙ ap (λ z. take k q ++ (z ∷ [])) (sym c.index-pairs-k.is) in
    subst (λ (l : List CodePair). Staying m c.args.h (pairs_of q) drops l (drop (k + 1) q) drops) (sym more)
    (one_stays m c.args.h (pairs_of q) drops (take k q) x (drop (k + 1) q) drops s (λ l. not_true _ c.if-leaves_by_row.false (c.leaves_by_row.ensures.1 l)))
