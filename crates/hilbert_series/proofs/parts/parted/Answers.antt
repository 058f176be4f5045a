use Rattle.std.proofs.Common.{length, refl}
use Rattle.hilbert_series.proofs.Sieves.{parted_from}
use Rattle.hilbert_series.proofs.parts.parted.Goals as goal

pub returns : goal.returns
returns c = record {
  parted = parted_from (length c.args.weights.now) c.args.weights.now c.args.done.now c.args.list.now c.sieve.new.first.items c.sieve.new.other.items
      c.as_slice-3.result.now c.as_slice-4.result.now c.as_slice-5.result.now c.in_ok-both.both.items c.push_copies.new.to.items
      c.push_copies-2.new.to.items c.requires.done c.requires.apart c.in_ok-sieve.ensures.ok c.as_slice-3.ensures.value c.as_slice-4.ensures.value
      (c.if-not-are_apart.ensures refl) c.in_ok-both.ensures.items c.in_ok-push_copies.ensures.ok c.as_slice-5.ensures.value c.in_ok-push_copies-2.ensures.ok;
}

pub sieve-requires-clause-generators : goal.sieve-requires-clause-generators
sieve-requires-clause-generators c = c.requires.generators
