use Rattle.std.proofs.Common.{List, [], ap, arith, length, length-append, subst, suc, sym, zero, ℕ, ◌++◌, ◌+◌, ◌<◌, ◌∷◌, ◌≡◌}
use Rattle.monomial_orders.specs.Kept.{AreWeights}
use Rattle.check_texts.proofs.rings.variables_of.Goals as goal

weights_more : (ws : List ℕ) (w : ℕ) → AreWeights ws → 0 < w → AreWeights (ws ++ w ∷ [])
weights_more [] w h some zero lt = some
weights_more [] w h some (suc k) lt = absurd (omega arith)
weights_more (v ∷ ws) w h some zero lt = h 0 (omega arith)
weights_more (v ∷ ws) w h some (suc k) lt = weights_more ws w (λ j l. h (suc j) (omega arith)) some k (omega arith)

one_longer : {X : Type 0} (old new : List X) (x : X) → new ≡ old ++ x ∷ [] → length new ≡ length old + 1
one_longer old new x e = omega (arith, ap length e, length-append old (x ∷ []))

pub loop-variable-preserved : goal.loop-variable-preserved
loop-variable-preserved c =
    let names = one_longer c.loop-variable.names.items c.push.new.self.items _ c.in_ok-push.ensures.items in
    let weights = one_longer c.loop-variable.weights.items c.push-in-loop-variable.new.self.items _ c.in_ok-push-2.ensures.items in (
      omega (arith, names, weights, c.loop-variable.invariant.0),
      subst AreWeights (sym c.in_ok-push-2.ensures.items)
          (weights_more c.loop-variable.weights.items c.in-Some-weight_of.weight c.loop-variable.invariant.1 c.in-Some-weight_of.ensures),
    )
