use Rattle.std.proofs.Common.{append-nil, subst, sym, ◌++◌, ◌∙◌}
use Rattle.formal_sums.specs.FormalSums.{IsSame}
use Rattle.term_lists.specs.Rings.{variables}
use Rattle.term_lists.specs.Vectors.{IsVectorOver, sum_of}
use Rattle.vector_division.specs.Runs.{IsOver, total}
use Rattle.schreyer_resolution.proofs.column.put_covered.Goals as goal

pub add-requires-clause-runs : goal.add-requires-clause-runs
add-requires-clause-runs g c = c.requires.runs

pub add-requires-clause-run : goal.add-requires-clause-run
add-requires-clause-run g c =
    subst (IsVectorOver (g.F.Frame.over c.args.frame.now) (g.F.Frame.compare c.args.frame.now)) (append-nil c.in_ok-kept.kept ∙ sym c.from_vect.ensures) c.in_ok-kept.ensures.vector

pub returns : goal.returns
returns g c =
    let ring = g.F.Frame.over c.args.frame.now in
    let n = variables ring in
    record {
      kept = c.in_ok-kept.kept;
      sifted = c.in_ok-kept.ensures;
      runs = c.in_ok-add.ensures.runs;
      sum = subst (λ b. IsSame ring.modulus.value (total n c.add.new.self) (total n c.args.buckets.now ++ sum_of n b)) c.from_vect.ensures c.in_ok-add.ensures.sum;
      below = λ k below over. c.in_ok-add.ensures.below k below (subst (λ v. IsOver (g.F.Frame.compare c.args.frame.now n) k (sum_of n v)) (sym c.from_vect.ensures) over);
    }

pub covered_terms-requires-clause-vectors : goal.covered_terms-requires-clause-vectors
covered_terms-requires-clause-vectors g c = c.requires.vectors

pub covered_terms-requires-clause-index : goal.covered_terms-requires-clause-index
covered_terms-requires-clause-index g c = c.requires.index

pub covered_terms-requires-clause-vector : goal.covered_terms-requires-clause-vector
covered_terms-requires-clause-vector g c = c.requires.vector
