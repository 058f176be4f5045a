use Rattle.std.proofs.Common.{ap, length, subst, sym, ◌∙◌, ◌≡◌, refl}
use Rattle.std.proofs.lemmas.Option.{same_Some}
use Rattle.std.proofs.lemmas.Result.{IfErr-weaker, on_ok_weaker}
use Rattle.term_lists.specs.Rings.{variables}
use Rattle.groebner_iface.proofs.CallingRuns.{more_stops}
use Rattle.session_values.specs.Kept.{IsListOver, IsPolynomialOver}
use Rattle.session_lang.proofs.Performing.{expressed_performed}
use Rattle.session_lang.proofs.session.Session.express.Goals as goal

pub push_expression-requires-clause-images : goal.push_expression-requires-clause-images
push_expression-requires-clause-images g c κs within =
    let h = c.requires in
    let stated = ap (λ s. s.ring) (sym c.self.view_is) ∙ c.in-Some.is in
    subst (λ r. IsListOver r 1 c.args.images.now) (same_Some _ _ (sym h.1 ∙ stated)) h.3.0

pub push_expression-requires-clause-count : goal.push_expression-requires-clause-count
push_expression-requires-clause-count g c κs within =
    let h = c.requires in
    let stated = ap (λ s. s.ring) (sym c.self.view_is) ∙ c.in-Some.is in
    subst (λ r. length c.args.images.now ≡ variables r) (same_Some _ _ (sym h.1 ∙ stated)) h.3.1

pub push_expression-requires-clause-polynomial : goal.push_expression-requires-clause-polynomial
push_expression-requires-clause-polynomial g c κs within =
    let h = c.requires in
    let stated = ap (λ s. s.ring) (sym c.self.view_is) ∙ c.in-Some.is in
    subst (λ r. IsPolynomialOver r c.args.f.now) (same_Some _ _ (sym h.1 ∙ stated)) h.2

pub returns-clause-performed : goal.returns-clause-performed
returns-clause-performed g c =
    let ring = c.in-Some.ring in
    let stated = ap (λ s. s.ring) (sym c.self.view_is) ∙ c.in-Some.is in
    let called = c.push_expression.result in
    let e = c.push_expression.ensures in
    expressed_performed called c.done.result c.args.f.now c.args.images.now c.done.ensures.ok c.done.ensures.err
    (on_ok_weaker called (λ t. (t.0, (ring, stated, t.1), t.2)) e.text) e.unwritten e.same
    (IfErr-weaker called _ _ (more_stops _ _ _ _ _ _ _ _ (λ r m l h. (ring, stated, h)) (λ t h. (ring, stated, h))) e.stop)

pub returns-clause-runs : goal.returns-clause-runs
returns-clause-runs g c = (1, refl, c.push_expression.ensures.runs)
