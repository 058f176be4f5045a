use Rattle.session_values.proofs.Dividing.{member_by_normal_form, normal_form_by_division}
use Rattle.session_values.proofs.kept_bases.normal_form.Goals as goal

pub returns-in-Ok-clause-normal : goal.returns-in-Ok-clause-normal
returns-in-Ok-clause-normal c = λ rank list reduced.
    let ring = c.args.ring.now in
    let left = c.in-Ok.ensures.remainder in
    normal_form_by_division ring rank list c.args.basis.now (c.lawful_setting.ensures rank) reduced c.args.v.now c.in-Ok.rest left.cofactors left.sum c.in-Ok.ensures.rest left.free

pub returns-in-Ok-clause-member : goal.returns-in-Ok-clause-member
returns-in-Ok-clause-member c = λ rank list reduced.
    let ring = c.args.ring.now in
    let left = c.in-Ok.ensures.remainder in
    member_by_normal_form ring rank list c.args.v.now c.in-Ok.rest (c.lawful_setting.ensures rank)
    (normal_form_by_division ring rank list c.args.basis.now (c.lawful_setting.ensures rank) reduced c.args.v.now c.in-Ok.rest left.cofactors left.sum c.in-Ok.ensures.rest left.free)
