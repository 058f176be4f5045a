use Rattle.std.proofs.Common.{[], ap, refl, sym, ◌++◌, ◌∙◌, ◌∷◌}
use Rattle.poly_text.specs.Texts.{names_of, poly_text}
use Rattle.script_parse.specs.declared.stated.Statement.TheVariants as statements
use Rattle.groebner_iface.specs.declared.stop.OpStop.TheVariants as causes
use Rattle.session_lang.proofs.Performing.{was_done, was_stopped}
use Rattle.session_lang.proofs.session.Session.show.Goals as goal

pub returns-in-Ok : goal.returns-in-Ok
returns-in-Ok c count kept =
    let text = poly_text (names_of c.in-Some.ring) c.args.shown.now ++ 10 ∷ [] in
    let stated = ap (λ s. s.ring) (sym c.self.view_is) ∙ c.in-Some.is in
    was_done c.args.self.now (statements.Show c.args.shown.now) c.args.self.now c.args.out.now c.push_line.new.out count count kept kept
    text (refl, (c.in-Some.ring, stated, refl)) c.in-Ok.ensures.ok refl refl

pub returns-in-Err : goal.returns-in-Err
returns-in-Err c count kept =
    was_stopped c.args.self.now (statements.Show c.args.shown.now) c.args.self.now c.args.out.now c.push_line.new.out count count kept kept
    causes.Memory refl c.in-Err.ensures.err (refl, refl)
