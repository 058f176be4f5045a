use Rattle.command_words.proofs.Numbers.{read_number, read_nothing}
use Rattle.command_words.proofs.words.number_of.Goals as goal

pub returns-in-Some-clause-number : goal.returns-in-Some-clause-number
returns-in-Some-clause-number c =
    read_number _ _ _ _ _ c.in-Some.ensures.none (λ x e. (c.in-Some.ensures.value x e).0) c.if-least-number.true c.if-number-most.true

pub returns-in_default-3-clause-number : goal.returns-in_default-3-clause-number
returns-in_default-3-clause-number c = read_nothing _ _ _ _ (λ x e. (c.in_default.ensures.value x e).1.0)
