use Rattle.std.specs.Prelude.{length}
use Rattle.script_parse.proofs.Working.{positions_of_terms}
use Rattle.script_parse.proofs.values.vector_value.Goals as goal

pub returns-clause-positions : goal.returns-clause-positions
returns-clause-positions c = positions_of_terms (λ v. v) c.args.ring.now (length c.args.polynomials.now) c.in_ok-terms.terms.items c.from_terms.result c.in_ok-terms.ensures.positions c.from_terms.ensures.vector c.from_terms.ensures.same

pub entry_terms-requires : goal.entry_terms-requires
entry_terms-requires c = c.requires
