use Rattle.formal_sums.proofs.Combining.{IsMember_each, IsMember_same}
use Rattle.formal_sums.proofs.Sameness.{IsSame_sym}
use Rattle.formal_sums.proofs.module_laws.same_members.Goals as goal

pub returns : goal.returns
returns c = λ n p F H pos h. record {
  inside = λ i lt. IsMember_same H _ _ (IsSame_sym (h i)) (IsMember_each p H i);
  outside = λ i lt. IsMember_same F _ _ (h i) (IsMember_each p F i);
}
