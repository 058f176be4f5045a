use Rattle.session_values.proofs.Values.{kept_as_many}
use Rattle.session_lang.proofs.session.Session.give.Goals as goal

pub give_name-requires : goal.give_name-requires
give_name-requires c = kept_as_many c.self.inside.ring c.self.inside.names c.self.inside.stored.items c.self.invariant
