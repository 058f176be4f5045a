use Rattle.std.proofs.Common.{[], ap, subst, sym, ◌++◌, ◌∙◌, ◌∷◌, ◌≡◌}
use Rattle.residues.specs.Residues.{IsDomain}
use Rattle.formal_sums.proofs.Sameness.{IsSame_of}
use Rattle.formal_sums.specs.FormalSums.{Each}
use Rattle.term_lists.specs.Rings.{variables}
use Rattle.term_lists.specs.Vectors.{IsVector, sum_of}
use Rattle.vector_division.specs.Runs.{AreBelow, IsOver, total}
use Rattle.vector_division.proofs.Topping.{Each_split, adding_more, merged_below, total-push}
use Rattle.vector_division.proofs.buckets.Buckets.into_run.Goals as goal

pub loop-run-init : goal.loop-run-init
loop-run-init g c =
    let ring = g.F.Frame.over c.args.frame.now in
    let n = variables ring in
    let compare = g.F.Frame.compare c.args.frame.now n in
    let P = IsVector n ring.weights ring.modulus.value compare in
    let new = c.pop.new.self.items in
    let last = c.in-Some.last in
    let whole : c.args.self ≡ new ++ last ∷ [] = sym c.self.view_is ∙ c.in-Some.ensures.items in
    let each = Each_split P new last (subst (Each P) whole c.requires) in
    record {
      runs = each.0;
      vector = each.1;
      sum = IsSame_of ring.modulus.value _ _ (sym (ap (total n) whole ∙ total-push n new last));
      below = λ k b. Each_split (λ r. IsOver compare k (sum_of n r)) new last (subst (AreBelow n compare k) whole b);
    }

pub merge_runs-requires-clause-left : goal.merge_runs-requires-clause-left
merge_runs-requires-clause-left g c =
    let ring = g.F.Frame.over c.args.frame.now in
    let n = variables ring in
    let P = IsVector n ring.weights ring.modulus.value (g.F.Frame.compare c.args.frame.now n) in
    (Each_split P c.pop-in-loop-run.new.self.items c.in-Some-pop.run' (subst (Each P) c.in-Some-pop.ensures.items c.loop-run.invariant.runs)).1

pub loop-run-preserved : goal.loop-run-preserved
loop-run-preserved g c =
    let ring = g.F.Frame.over c.args.frame.now in
    let n = variables ring in
    let p = ring.modulus.value in
    let compare = g.F.Frame.compare c.args.frame.now n in
    let order = g.met.F.Frame.laws c.args.frame.now n 0 in
    let P = IsVector n ring.weights p compare in
    let domain = subst (λ r. IsDomain r.modulus.value) c.ring.ensures c.domain.ensures.domain in
    let new = c.pop-in-loop-run.new.self.items in
    let run = c.in-Some-pop.run' in
    let whole = c.in-Some-pop.ensures.items in
    record {
      runs = (Each_split P new run (subst (Each P) whole c.loop-run.invariant.runs)).0;
      vector = c.in_ok-sum.ensures.vector;
      sum = adding_more n ring.weights p compare domain order c.loop-run.runs.items new run c.loop-run.sum c.in_ok-sum.sum _ whole
          c.in_ok-sum.ensures.sum c.loop-run.invariant.sum;
      below = λ k b.
          let h = c.loop-run.invariant.below k b in
          let s = Each_split (λ r. IsOver compare k (sum_of n r)) new run (subst (AreBelow n compare k) whole h.0) in (
            s.0,
            merged_below n ring.weights p compare domain order k c.in_ok-sum.sum run c.loop-run.sum
                c.in_ok-sum.ensures.vector c.in_ok-sum.ensures.sum s.1 h.1,
          );
    }

pub returns-clause-below : goal.returns-clause-below
returns-clause-below g c = λ k b. (c.loop-run.invariant.below k b).1
