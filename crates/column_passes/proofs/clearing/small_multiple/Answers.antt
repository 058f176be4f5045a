use Rattle.std.proofs.Common.{[], arith, subst, sym}
use Rattle.std.proofs.lemmas.List.{take_all}
use Rattle.term_lists.specs.Vectors.{StandsFor}
use Rattle.column_passes.specs.Clearing.{multiple_of}
use Rattle.column_passes.proofs.Clearings.{clear_more, stop_of}
use Rattle.column_passes.proofs.clearing.small_multiple.Goals as goal

pub loop-term-preserved : goal.loop-term-preserved
loop-term-preserved c =
    let ring = c.args.ring.now in
    record {
      vector = c.in-Ok.ensures.vector;
      sum = clear_more ring c.args.row c.args.inverse c.args.w.now c.args.terms.now c.loop-term.out c.clear_term.new.out c.loop-term.term-index
          c.term-item.result []
          (omega arith) c.term-item.is c.loop-term.invariant.sum c.in-Ok.ensures.sum;
    }

pub clear_term-requires-clause-inverse : goal.clear_term-requires-clause-inverse
clear_term-requires-clause-inverse c = c.requires.inverse

pub clear_term-requires-clause-column : goal.clear_term-requires-clause-column
clear_term-requires-clause-column c = c.requires.column

pub clear_term-requires-clause-vector : goal.clear_term-requires-clause-vector
clear_term-requires-clause-vector c = c.loop-term.invariant.vector

pub returns-clause-vector : goal.returns-clause-vector
returns-clause-vector c = c.loop-term.invariant.vector

pub returns-clause-sum : goal.returns-clause-sum
returns-clause-sum c =
    let ring = c.args.ring.now in
    subst (λ z. StandsFor ring c.loop-term.out (multiple_of ring c.args.row c.args.inverse c.args.w.now z))
    (take_all c.loop-term.term-index c.args.terms.now (omega arith)) c.loop-term.invariant.sum

pub returns-in-Err-clause-stop : goal.returns-in-Err-clause-stop
returns-in-Err-clause-stop c =
    let terms = c.args.terms.now in
    let i = c.loop-term.term-index in
    let t = c.term-item.result in
    stop_of c.args.row c.args.w.now terms t c.in-Err.stop (i, c.loop-term-test.true, sym c.term-item.is) c.in-Err.ensures.stop
