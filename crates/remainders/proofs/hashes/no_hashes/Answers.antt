use Rattle.std.proofs.Common.{[], arith, subst, sym, ◌∷◌, ◌≡◌}
use Rattle.formal_sums.proofs.WeightedSums.{Each_append}
use Rattle.formal_sums.specs.FormalSums.{Each}
use Rattle.row_matrix.specs.Told.{HashesShown}
use Rattle.remainders.proofs.Hashing.{hashed_none}
use Rattle.remainders.proofs.hashes.no_hashes.Goals as goal

pub loop-preserved : goal.loop-preserved
loop-preserved c = record {
  count = omega arith;
  room = omega arith;
  none = subst (Each (λ (h : HashesShown). h.hashes ≡ [])) (sym c.push_reserved.ensures.items)
      (Each_append _ c.loop.hashes.items (c.new.result ∷ []) c.loop.invariant.none (c.new.ensures, tt));
}

pub returns : goal.returns
returns c = hashed_none c.args.list.now c.loop.hashes.items (omega arith) c.loop.invariant.none
