use Rattle.induced_leads.proofs.head.lift_exponents.Goals as goal

pub add_exponents-requires : goal.add_exponents-requires
add_exponents-requires c = c.requires
