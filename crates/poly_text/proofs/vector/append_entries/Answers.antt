use Rattle.poly_text.proofs.vector.append_entries.Goals as goal

pub append_each-requires : goal.append_each-requires
append_each-requires c = c.requires
