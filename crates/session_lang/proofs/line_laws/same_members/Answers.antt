use Rattle.session_lang.proofs.OneBasis.{members_once, members_printed}
use Rattle.session_lang.proofs.RingNames.{stated_names}
use Rattle.session_lang.proofs.line_laws.same_members.Goals as goal

pub returns : goal.returns
returns c = record { names = stated_names; printed = members_printed; same = members_once }
