use Rattle.sparse_poly.proofs.power.+raised.Given as goal

-- the exponent is halved
abbrev pub decreases-raised : goal.decreases-raised
decreases-raised g l = l.n
