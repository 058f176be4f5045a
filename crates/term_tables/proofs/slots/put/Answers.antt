use Rattle.std.proofs.Common.{subst, ◌+◌, ◌∙◌}
use Rattle.std.proofs.lemmas.List.{get_or_default}
use Rattle.residues.specs.Residues.{IsCongruent}
use Rattle.term_tables.proofs.Sums.{slot_set}
use Rattle.term_tables.specs.Tables.{IsOpen, no_slot}
use Rattle.term_tables.proofs.slots.put.Goals as goal

pub returns-clause-sum : goal.returns-clause-sum
returns-clause-sum c = λ n p bs z done.
    let slots = c.args.slots.now.items in
    let found = subst (λ xs. IsOpen xs c.args.key c.in-Some.i) c.deref.ensures.value c.in-Some.ensures in
    slot_set n p bs slots c.args.key c.in-Some.i c.added.result c.args.c found
    (subst (λ t. IsCongruent p c.added.result (c.args.c + t.1)) (c.index.ensures ∙ get_or_default slots c.in-Some.i c.index.result.now no_slot found.below) (c.added.ensures p z))
