use Rattle.column_passes.proofs.clearing.sum_of_two.Goals as goal

pub returns-then-is_empty-clause-vector : goal.returns-then-is_empty-clause-vector
returns-then-is_empty-clause-vector c = c.requires.left

pub returns-then-is_empty-2-clause-vector : goal.returns-then-is_empty-2-clause-vector
returns-then-is_empty-2-clause-vector c = c.requires.right

pub returns-clause-vector : goal.returns-clause-vector
returns-clause-vector c = c.in_ok-add.ensures.vector

pub returns-clause-sum : goal.returns-clause-sum
returns-clause-sum c = c.in_ok-add.ensures.sum

pub add-requires-clause-left : goal.add-requires-clause-left
add-requires-clause-left c = c.requires.left

pub add-requires-clause-right : goal.add-requires-clause-right
add-requires-clause-right c = c.requires.right
