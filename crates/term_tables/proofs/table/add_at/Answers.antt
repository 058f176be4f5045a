use Rattle.std.proofs.Common.{arith, length, subst, ◌+◌, ◌<◌, ◌∙◌}
use Rattle.std.proofs.lemmas.List.{get_or_default}
use Rattle.residues.specs.Residues.{IsCongruent}
use Rattle.term_tables.proofs.Sums.{table_set}
use Rattle.term_tables.proofs.table.add_at.Goals as goal

pub returns-clause-sum : goal.returns-clause-sum
returns-clause-sum c = λ n p bs z.
    let place : c.args.k < length c.args.sums.now.items = omega arith in
    table_set n p bs c.args.sums.now.items c.args.k c.added.result c.args.c place
    (subst (λ x. IsCongruent p c.added.result (c.args.c + x)) (c.index.ensures ∙ get_or_default c.args.sums.now.items c.args.k c.index.result.now 0 place) (c.added.ensures p z))
