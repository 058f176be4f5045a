use Rattle.session_values.proofs.texts.push_listing.Goals as goal

pub append_listing-written-requires : goal.append_listing-written-requires
append_listing-written-requires c = c.requires
