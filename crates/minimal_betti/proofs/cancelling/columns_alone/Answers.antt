use Rattle.std.proofs.Common.{[], ap, ap₂, append_assoc, map, sym, ◌++◌, ◌∙◌, ◌∷◌}
use Rattle.minimal_betti.specs.declared.carried.Carried.{Carried}
use Rattle.minimal_betti.proofs.cancelling.columns_alone.Goals as goal

pub loop-map-init : goal.loop-map-init
loop-map-init c = ap₂ (λ xs (ms : _). xs ++ map (λ (m : Carried). m.columns) ms) c.in_ok-columns.ensures.items c.from_vec-rest.ensures.items

pub loop-map-preserved : goal.loop-map-preserved
loop-map-preserved c =
    let old = c.loop-map.columns.items in
    let tail = map (λ (m : Carried). m.columns) c.pop_front.new.self.items in
    ap (λ xs. xs ++ tail) c.in_ok-push.ensures.items ∙ append_assoc old (c.in-Some.map.columns ∷ []) tail
    ∙ ap (λ ms. old ++ map (λ (m : Carried). m.columns) ms) (sym c.in-Some.ensures.items) ∙ c.loop-map.invariant
