use Rattle.row_matrix.proofs.placing.place_matrix.Goals as goal

pub number_columns-requires : goal.number_columns-requires
number_columns-requires g c = c.requires.monomials
