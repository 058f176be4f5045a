use Rattle.std.proofs.Common.{arith, w64, ◌<◌}
use Rattle.std.proofs.lemmas.Nat.Bits.{bit_at-trailing_zeros}
use Rattle.pair_queue.proofs.Words.{has_in_word}
use Rattle.pair_queue.proofs.row.has_without.Goals as goal

pub returns-clause-some : goal.returns-clause-some
returns-clause-some c = λ t.
    let word = c.flags_without.result in
    let some : 0 < word = grind arith in
    let (low, here, below) = bit_at-trailing_zeros w64 word some c.flags_without.type_inv in
    has_in_word c.args.mine.now c.args.theirs.now c.args.index word _ low here c.flags_without.ensures
