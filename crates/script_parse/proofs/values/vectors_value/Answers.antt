use Rattle.script_forms.proofs.Pieces.{none_more}
use Rattle.script_parse.proofs.Stating.{chunks_end}
use Rattle.script_parse.proofs.values.vectors_value.Goals as goal

pub returns : goal.returns
returns c =
    chunks_end c.args.ring.now c.args.line.now c.args.rank c.args.polynomials.now c.loop-rest.rest.now c.loop-rest.list (none_more c.loop-rest.rest.now c.is_empty.result c.is_empty.ensures c.loop-rest-test.false)
    c.loop-rest.invariant
