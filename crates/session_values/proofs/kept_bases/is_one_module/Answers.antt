use Rattle.std.proofs.Common.{sym, ◌∙◌}
use Rattle.session_values.proofs.OneModule.{equal_where_one}
use Rattle.session_values.proofs.kept_bases.is_one_module.Goals as goal

pub returns : goal.returns
returns c = λ rank first second f s l r.
    let e = equal_where_one c.args.ring.now rank first second c.args.left.now c.args.right.now (c.lawful_setting.ensures rank) (c.one_basis.ensures rank) f s l r in (
      λ t. e.0 (sym c.as_slice.ensures ∙ c.is_same_list.ensures.0 t ∙ c.as_slice-2.ensures),
      λ m. c.is_same_list.ensures.1 (c.as_slice.ensures ∙ e.1 m ∙ sym c.as_slice-2.ensures),
    )
