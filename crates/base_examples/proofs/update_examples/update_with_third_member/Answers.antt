use Rattle.base_examples.proofs.ThirdMember.{third_member}
use Rattle.base_examples.proofs.update_examples.update_with_third_member.Goals as goal

pub returns : goal.returns
returns c = third_member
