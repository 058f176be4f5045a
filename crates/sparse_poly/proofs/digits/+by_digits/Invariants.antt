use Rattle.sparse_poly.proofs.digits.+by_digits.Given as goal

-- the exponent is divided by the modulus
abbrev pub decreases-by_digits : goal.decreases-by_digits
decreases-by_digits g l = l.n
