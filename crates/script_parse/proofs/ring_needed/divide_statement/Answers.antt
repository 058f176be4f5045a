use Rattle.std.proofs.Common.{subst}
use Rattle.script_forms.specs.Forms.{IsLineOf}
use Rattle.script_forms.specs.declared.form.Head.TheVariants as heads
use Rattle.script_parse.proofs.Stating.{lift_says, member_says, normal_says}
use Rattle.script_parse.proofs.ring_needed.divide_statement.Goals as goal

pub returns-in-NormalForm : goal.returns-in-NormalForm
returns-in-NormalForm c = λ w is.
    normal_says c.args.ring.now c.args.line.now c.args.polynomials.now c.args.value c.in_ok-name.name c.in-Ok.vector c.in_ok-name.ensures c.in-Ok.ensures.vector c.in-Ok.ensures.positions c.in-Ok.ensures.entries w
    (subst (λ d. IsLineOf (heads.Divide d c.args.value) c.args.polynomials.now w) c.in-NormalForm.is is)

pub returns-in-Member : goal.returns-in-Member
returns-in-Member c = λ w is.
    member_says c.args.ring.now c.args.line.now c.args.polynomials.now c.args.value c.in_ok-name.name c.in-Ok.vector c.in_ok-name.ensures c.in-Ok.ensures.vector c.in-Ok.ensures.positions c.in-Ok.ensures.entries w
    (subst (λ d. IsLineOf (heads.Divide d c.args.value) c.args.polynomials.now w) c.in-Member.is is)

pub returns-in-Lift : goal.returns-in-Lift
returns-in-Lift c = λ w is.
    lift_says c.args.ring.now c.args.line.now c.args.polynomials.now c.args.value c.in_ok-name.name c.in-Ok.vector c.in_ok-name.ensures c.in-Ok.ensures.vector c.in-Ok.ensures.positions c.in-Ok.ensures.entries w
    (subst (λ d. IsLineOf (heads.Divide d c.args.value) c.args.polynomials.now w) c.in-Lift.is is)

pub name_of-requires : goal.name_of-requires
name_of-requires c = c.requires.ascii

pub vector_value-requires : goal.vector_value-requires
vector_value-requires c = c.requires.workable
