use Rattle.std.proofs.Common.{subst, sym}
use Rattle.script_parse.specs.Tests.{IsOperationStated}
use Rattle.script_parse.proofs.operation_line.operation_of.Goals as goal

pub returns-in-Two : goal.returns-in-Two
returns-in-Two c = subst (λ o. IsOperationStated c.args.ring.now c.args.line.now o c.args.polynomials.now c.of_two.result) (sym c.in-Two.is) (c.of_two.ensures c.args.ring.now c.args.polynomials.now)

pub returns-in-Eliminate : goal.returns-in-Eliminate
returns-in-Eliminate c = subst (λ o. IsOperationStated c.args.ring.now c.args.line.now o c.args.polynomials.now c.elimination.result) (sym c.in-Eliminate.is) (c.elimination.ensures c.args.ring.now c.args.polynomials.now)

pub returns-in-Syzygies : goal.returns-in-Syzygies
returns-in-Syzygies c = subst (λ o. IsOperationStated c.args.ring.now c.args.line.now o c.args.polynomials.now c.syzygies.result) (sym c.in-Syzygies.is) (c.syzygies.ensures c.args.ring.now c.args.polynomials.now)

pub by_polynomial-requires-clause-workable : goal.by_polynomial-requires-clause-workable
by_polynomial-requires-clause-workable c = c.requires.workable
