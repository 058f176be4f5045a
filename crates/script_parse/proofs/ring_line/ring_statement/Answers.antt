use Rattle.std.proofs.Common.{ap, ap₂, inl, inr, length, map, subst, sym, ◌∙◌}
use Rattle.script_forms.specs.RingForms.{ring_line_of}
use Rattle.script_parse.specs.Refusals.{HasOtherWeights}
use Rattle.script_parse.specs.Statements.{weights_stated}
use Rattle.script_parse.specs.Tests.{IsGood, repeats}
use Rattle.script_parse.proofs.Answering.{no_fault, no_modulus, no_ring, ring_made}
use Rattle.script_parse.proofs.Texts.{own_texts, repeats_says}
use Rattle.script_parse.proofs.ring_line.ring_statement.Goals as goal

pub returns-then-has_repeat : goal.returns-then-has_repeat
returns-then-has_repeat c = λ ring infos.
    let line = c.args.line.now in
    let twice = ap (repeats line) (sym c.deref.ensures.value) ∙ sym c.has_repeat.ensures ∙ c.if-has_repeat.true in
    no_ring ring infos line (ring_line_of c.args.form.now) (inr (inl (repeats_says line c.args.form.now.names.items twice)))

pub returns-in_default-modulus_of : goal.returns-in_default-modulus_of
returns-in_default-modulus_of c = λ ring infos.
    let line = c.args.line.now in
    let r = ring_line_of c.args.form.now in
    let n = c.len-n.result in
    let many = c.len-n.ensures ∙ sym c.deref.ensures.len ∙ ap length c.deref.ensures.value in
    let once = ap (repeats line) (sym c.deref.ensures.value) ∙ sym c.has_repeat.ensures ∙ c.if-has_repeat.false in
    let ts = c.deref-2.result.now in
    let weights = subst (IsGood (weights_stated line n ts) (HasOtherWeights line n ts)) c.in-Some-2.is c.in_ok-weights.ensures in
    let fit = subst (λ l. HasOtherWeights line n l → ⊥) c.deref-2.ensures.value weights.1 in
    no_modulus ring infos line r (no_fault line r n many c.if-n-gt-VARIABLES.false once c.in-Some.ensures.1 fit) c.in_default-modulus_of.ensures.none

pub returns : goal.returns
returns c = λ ring infos.
    let line = c.args.line.now in
    let r = ring_line_of c.args.form.now in
    let n = c.len-n.result in
    let many = c.len-n.ensures ∙ sym c.deref.ensures.len ∙ ap length c.deref.ensures.value in
    let once = ap (repeats line) (sym c.deref.ensures.value) ∙ sym c.has_repeat.ensures ∙ c.if-has_repeat.false in
    let ts = c.deref-2.result.now in
    let weights = subst (IsGood (weights_stated line n ts) (HasOtherWeights line n ts)) c.in-Some-2.is c.in_ok-weights.ensures in
    let fit = subst (λ l. HasOtherWeights line n l → ⊥) c.deref-2.ensures.value weights.1 in
    ring_made ring infos line r _ (no_fault line r n many c.if-n-gt-VARIABLES.false once c.in-Some.ensures.1 fit) c.in-Some-modulus_of.modulus.table
    (record {
      modulus_is = c.in-Some-modulus_of.ensures.found;
      names_are = c.in_ok-names_of.ensures ∙ ap (map _) c.deref-3.ensures.value ∙ own_texts line r.names c.requires;
      order_is = c.in-Some.ensures.0;
      module_order_is = c.module_order_stated.ensures;
      weights_are = weights.0 ∙ ap₂ (weights_stated line) many c.deref-2.ensures.value;
    })
