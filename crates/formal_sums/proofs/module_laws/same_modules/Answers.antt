use Rattle.std.proofs.Common.{[], get_or}
use Rattle.formal_sums.proofs.Combining.{IsMember_itself, IsMember_through}
use Rattle.formal_sums.proofs.module_laws.same_modules.Goals as goal

pub returns : goal.returns
returns c = λ n p F H pos. (
  λ h v. (λ a. IsMember_through pos H F h.inside v a, λ a. IsMember_through pos F H h.outside v a),
  λ e. record { inside = λ i lt. (e (get_or F i [])).0 (IsMember_itself p F i lt); outside = λ i lt. (e (get_or H i [])).1 (IsMember_itself p H i lt) },
)
