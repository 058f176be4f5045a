use Rattle.std.proofs.Common.{List, [], ap, drop, subst, sym, take, ◌++◌, ◌+◌, ◌∙◌, ◌∷◌, ◌≡◌}
use Rattle.std.proofs.lemmas.List.{drop_more, map-append}
use Rattle.basis_steps.specs.Pairs.{Drop}
use Rattle.pair_criteria.specs.declared.pair.Pair.{Pair as CodePair}
use Rattle.pair_updates.proofs.CriterionTests.{not_true}
use Rattle.pair_updates.proofs.StayingPairs.{one_leaves, one_stays}
use Rattle.pair_updates.proofs.Swapping.{drop_behind, take_swapped}
use Rattle.pair_updates.specs.Dropping.{drops_of}
use Rattle.pair_updates.specs.Updating.{Staying}
use Rattle.pair_updates.specs.declared.dropped.Dropped.{Dropped}
use Rattle.pair_updates.proofs.updating.stay_or_drop.Goals as goal

-- one more is dropped
one_more : (ds es : List Dropped) (d : Dropped) → es ≡ ds ++ (d ∷ []) → drops_of ds ++ (((d.i, d.j), d.k) ∷ []) ≡ drops_of es
one_more ds es d e = sym (ap drops_of e ∙ map-append (λ (d : Dropped). ((d.i, d.j), d.k)) ds (d ∷ []))

pub returns-then-leaves_for-clause-staying : goal.returns-then-leaves_for-clause-staying
returns-then-leaves_for-clause-staying c = λ whole drops s.
    let q : List CodePair = c.args.pairs.now.items in
    let x : CodePair = c.index-x.result.now in
    let front : drop c.args.next q ≡ x ∷ drop (c.args.next + 1) q =
    drop_more q c.args.next x c.requires.next ∙ ap (λ z. z ∷ drop (c.args.next + 1) q) (sym c.index-x.ensures) in
    subst (λ (ds : List Drop). Staying c.args.leads.now c.args.h whole drops (take c.args.kept q) (drop (c.args.next + 1) q) ds)
    (one_more c.args.dropped.now.items c.push.new.self.items (record { i = x.i; j = x.j; k = c.args.h }) c.in_ok-push.ensures.items)
    (one_leaves c.args.leads.now c.args.h whole drops (take c.args.kept q) x (drop (c.args.next + 1) q) (drops_of c.args.dropped.now.items)
    (subst (λ (l : List CodePair). Staying c.args.leads.now c.args.h whole drops (take c.args.kept q) l (drops_of c.args.dropped.now.items)) front s)
    (c.leaves_for.ensures.0 c.if-leaves_for.true))

pub returns-clause-staying : goal.returns-clause-staying
returns-clause-staying c = λ whole drops s.
    let q : List CodePair = c.args.pairs.now.items in
    let x : CodePair = c.index-x.result.now in
    let front : drop c.args.next q ≡ x ∷ drop (c.args.next + 1) q =
    drop_more q c.args.next x c.requires.next ∙ ap (λ z. z ∷ drop (c.args.next + 1) q) (sym c.index-x.ensures) in
    let kept : take (c.args.kept + 1) c.swap.new.self.items ≡ take c.args.kept q ++ (x ∷ []) =
    ap (take (c.args.kept + 1)) c.swap.ensures.items ∙ take_swapped q c.args.kept c.args.next x c.requires.kept c.requires.next c.index-x.ensures in
    let rest : drop (c.args.next + 1) c.swap.new.self.items ≡ drop (c.args.next + 1) q =
    ap (drop (c.args.next + 1)) c.swap.ensures.items ∙ drop_behind q c.args.kept c.args.next c.requires.kept in
    subst (λ (l : List CodePair). Staying c.args.leads.now c.args.h whole drops l (drop (c.args.next + 1) c.swap.new.self.items)
    (drops_of c.args.dropped.now.items)) (sym kept)
    (subst (λ (l : List CodePair). Staying c.args.leads.now c.args.h whole drops (take c.args.kept q ++ (x ∷ [])) l (drops_of c.args.dropped.now.items))
    (sym rest)
    (one_stays c.args.leads.now c.args.h whole drops (take c.args.kept q) x (drop (c.args.next + 1) q) (drops_of c.args.dropped.now.items)
    (subst (λ (l : List CodePair). Staying c.args.leads.now c.args.h whole drops (take c.args.kept q) l (drops_of c.args.dropped.now.items)) front s)
    (λ l. not_true _ c.if-leaves_for.false (c.leaves_for.ensures.1 l))))
