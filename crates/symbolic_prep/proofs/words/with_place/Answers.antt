use Rattle.std.proofs.Common.{arith}
use Rattle.vector_division.proofs.Masking.{bit_added, bit_skipped}
use Rattle.symbolic_prep.proofs.words.with_place.Goals as goal

pub returns : goal.returns
returns c = λ places h is. bit_skipped places c.args.word c.args.at (omega (arith, is)) h

pub returns-then-exponent-t : goal.returns-then-exponent-t
returns-then-exponent-t c = λ places h is. bit_added places c.args.word c.args.at (omega arith) (omega (arith, is)) h
