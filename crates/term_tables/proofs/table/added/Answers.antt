use Rattle.std.proofs.Common.{arith}
use Rattle.residues.proofs.Congruences.{IsCongruent_of}
use Rattle.term_tables.proofs.Sums.{added_less}
use Rattle.term_tables.proofs.table.added.Goals.{else-sum-square, then-sum-square}
use Rattle.term_tables.proofs.table.added.Goals as goal

pub returns : goal.returns
returns c = λ p zero_is. elim c.if-sum-square.branch [
  | then-sum-square w ↦ IsCongruent_of p _ _ (let e = w.rest-is in omega arith)
  | else-sum-square w ↦
      (let e = w.rest-is in let le = w.if-sum-square.false in added_less p c.args.square c.args.sum c.if-sum-square.rest c.args.c le e zero_is)
]
