use Rattle.std.proofs.Common.{[], ap, ap₂, append_assoc, arith, get_or, length, suc, take, zero, ℕ, ◌++◌, ◌+◌, ◌<◌, ◌∙◌, ◌∷◌, ◌≡◌}
use Rattle.term_lists.specs.declared.key.Key.{Key as CodeKey}
use Rattle.syzygy_engine.proofs.Standing.{Terms}
use Rattle.ideal_ops.specs.Components.{raised_terms}
use Rattle.std.proofs.Common.{append-nil, sym}
use Rattle.std.proofs.lemmas.List.{take_all}
use Rattle.ideal_ops.proofs.stacking.push_raised.Goals as goal

-- one more term behind
raised_next :
    (by : ℕ) (old items : Terms) (i : ℕ) (x : CodeKey × ℕ) → i < length items → x ≡ get_or items i x
    → (old ++ raised_terms by (take i items)) ++ (record { position = by + x.0.position; monomial = x.0.monomial }, x.1) ∷ []
    ≡ old ++ raised_terms by (take (i + 1) items)
raised_next by old items i x lt e =
    let s : suc i ≡ i + 1 = omega arith in
    append_assoc old (raised_terms by (take i items)) _ ∙ ap (λ z. old ++ z) (go items i lt e ∙ ap (λ z. raised_terms by (take z items)) s)
  where
    go :
        (items : Terms) (i : ℕ) → i < length items → x ≡ get_or items i x
        → raised_terms by (take i items) ++ (record { position = by + x.0.position; monomial = x.0.monomial }, x.1) ∷ [] ≡ raised_terms by (take (suc i) items)
    go [] i lt e = absurd (omega (arith, lt))
    go (y ∷ ys) zero lt e = ap (λ z. (record { position = by + z.0.position; monomial = z.0.monomial }, z.1) ∷ []) e
    go (y ∷ ys) (suc i) lt e = ap (λ z. (record { position = by + y.0.position; monomial = y.0.monomial }, y.1) ∷ z) (go ys i (omega (arith, lt)) e)

pub loop-term-preserved : goal.loop-term-preserved
loop-term-preserved c =
    let by = c.args.by in
    let x = c.term-item.result in
    c.in_ok-push.ensures.items
    ∙ ap₂ (λ xs (key : CodeKey). xs ++ (record { position = by + x.0.position; monomial = key.monomial }, x.1) ∷ []) c.loop-term.invariant c.in_ok-key.ensures.ok
    ∙ raised_next by c.args.terms.now.items c.terms-term-items.result.now c.loop-term.term-index x c.loop-term-test.true c.term-item.is

pub loop-term-init : goal.loop-term-init
loop-term-init c = sym (append-nil c.args.terms.now.items)

pub returns : goal.returns
returns c =
    c.loop-term.invariant
    ∙ ap (λ l. c.args.terms.now.items ++ raised_terms c.args.by l) (take_all c.loop-term.term-index c.terms-term-items.result.now c.loop-term-test.false ∙
    c.terms-term-items.ensures)
