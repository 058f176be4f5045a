use Rattle.poly_text.proofs.vector.append_next_term.Goals as goal

pub append_term-requires : goal.append_term-requires
append_term-requires c = c.requires
