use Rattle.sparse_poly.proofs.multiply.mul.Goals as goal

pub mul_in-requires-clause-left : goal.mul_in-requires-clause-left
mul_in-requires-clause-left g c = c.requires.left

pub mul_in-requires-clause-right : goal.mul_in-requires-clause-right
mul_in-requires-clause-right g c = c.requires.right

pub mul_in-requires-clause-left_polynomial : goal.mul_in-requires-clause-left_polynomial
mul_in-requires-clause-left_polynomial g c = c.requires.left_polynomial

pub mul_in-requires-clause-right_polynomial : goal.mul_in-requires-clause-right_polynomial
mul_in-requires-clause-right_polynomial g c = c.requires.right_polynomial
