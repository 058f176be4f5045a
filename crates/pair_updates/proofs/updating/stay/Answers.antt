use Rattle.std.proofs.Common.{List, [], arith, drop, refl, subst, sym, take, ◌∙◌, ◌≡◌}
use Rattle.std.proofs.lemmas.List.{drop_all}
use Rattle.pair_criteria.specs.declared.pair.Pair.{Pair as CodePair}
use Rattle.pair_updates.specs.Dropping.{drops_of}
use Rattle.formal_sums.specs.FormalSums.{Each}
use Rattle.pair_updates.specs.Pairs.{AreIndices, IsRealPair, pairs_of}
use Rattle.pair_updates.specs.Updating.{Staying}
use Rattle.pair_updates.proofs.updating.stay.Goals as goal

pub count_staying-staying-requires : goal.count_staying-staying-requires
count_staying-staying-requires c =
    let pairs : List CodePair = c.args.pairs.now.items in
    record {
      within = c.requires.within;
      real = subst (λ (l : List CodePair). Each (IsRealPair c.args.leads.now) l) (sym c.deref.ensures.value) c.requires.real;
      earlier = subst (λ (l : List CodePair). Each (AreIndices c.args.h) (pairs_of l)) (sym c.deref.ensures.value) c.requires.earlier;
    }

pub loop-next-init : goal.loop-next-init
loop-next-init c =
    let drops = drops_of c.args.dropped.now.items in
    record {
      staying = subst (λ (l : List CodePair). Staying c.args.leads.now c.args.h (pairs_of l) drops (take c.count_staying-staying.result l)
          (drop c.count_staying-staying.result l) drops) c.deref.ensures.value (c.count_staying-staying.ensures.staying drops);
      kept = omega arith;
      len = refl;
    }

pub stay_or_drop-requires : goal.stay_or_drop-requires
stay_or_drop-requires c =
    let s = c.loop-next.invariant.staying in
    record {
      within = c.requires.within;
      kept = c.loop-next.invariant.kept;
      next = omega (arith, c.loop-next-test.true, c.len-next-end.ensures, c.loop-next.invariant.len);
      real = s.rest_real;
      earlier = s.within;
    }

pub loop-next-preserved : goal.loop-next-preserved
loop-next-preserved c = record {
  staying = c.in_ok-kept.ensures.staying (pairs_of c.args.pairs.now.items) (drops_of c.args.dropped.now.items) c.loop-next.invariant.staying;
  kept = omega (arith, c.in_ok-kept.ensures.few, c.loop-next.invariant.kept);
  len = c.stay_or_drop.ensures.len ∙ c.loop-next.invariant.len;
}

pub returns : goal.returns
returns c =
    let none : drop c.loop-next.next c.loop-next.pairs.items ≡ [] =
    drop_all c.loop-next.next c.loop-next.pairs.items
    (omega (arith, c.loop-next-test.false, c.len-next-end.ensures, c.loop-next.invariant.len)) in
    subst (λ (l : List CodePair). Staying c.args.leads.now c.args.h (pairs_of c.args.pairs.now.items) (drops_of c.args.dropped.now.items) l []
    (drops_of c.loop-next.dropped.items)) (sym c.truncate.ensures.items)
    (subst (λ (l : List CodePair). Staying c.args.leads.now c.args.h (pairs_of c.args.pairs.now.items) (drops_of c.args.dropped.now.items)
    (take c.loop-next.kept c.loop-next.pairs.items) l (drops_of c.loop-next.dropped.items)) none c.loop-next.invariant.staying)
