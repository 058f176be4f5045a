use Rattle.std.proofs.Common.{length}
use Rattle.hilbert_series.proofs.Loops.{shorter_again, shorter_permuted, ok_more}
use Rattle.hilbert_series.specs.Generators.{IsShorter}
use Rattle.hilbert_series.proofs.generators.without_multiples.Goals as goal

pub without_earlier_multiples-requires : goal.without_earlier_multiples-requires
without_earlier_multiples-requires c =
    let ws = c.args.weights.now in
    record {
      generators = (shorter_permuted (length ws) ws c.args.list.items c.sort_by_key.new.self.items c.sort_by_key.ensures.permutation c.requires.generators).generators;
    }

pub returns : goal.returns
returns c =
    let ws = c.args.weights.now in
    let sorted = c.sort_by_key.new.self.items in
    record {
      shorter = ok_more (λ v. IsShorter (length ws) ws sorted v.items) (λ v. IsShorter (length ws) ws c.args.list.items v.items)
          c.without_earlier_multiples.result
          (λ v s. shorter_again (length ws) ws c.args.list.items sorted v.items
          (shorter_permuted (length ws) ws c.args.list.items sorted c.sort_by_key.ensures.permutation c.requires.generators) s)
          c.without_earlier_multiples.ensures.shorter;
    }
