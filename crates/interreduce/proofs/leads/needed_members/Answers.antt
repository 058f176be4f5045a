use Rattle.std.proofs.Common.{[], drop, false, get_or, length, refl, subst, subst₂, sym, take, true, ◌++◌, ◌+◌, ◌<◌, ◌∷◌, ◌≡◌, ◌≤◌}
use Rattle.std.proofs.lemmas.List.{drop_all, drop_more, get_or_default, take_all}
use Rattle.std.specs.Prelude.{Contains}
use Rattle.formal_sums.proofs.WeightedSums.{Each_append}
use Rattle.formal_sums.specs.FormalSums.{Each}
use Rattle.term_lists.proofs.Scaling.{take_item}
use Rattle.term_lists.proofs.Parts.{Each_member}
use Rattle.term_lists.specs.Rings.{variables}
use Rattle.vector_division.proofs.Looping.{have_variables}
use Rattle.vector_division.specs.Progress.{HaveVariables}
use Rattle.interreduce.specs.Leads.{AreNeededSoFar, HaveLeads, IsCoveredBy, LeadsRise}
use Rattle.interreduce.proofs.Choosing.{needed_all, needed_push, needed_skip, needed_start}
use Rattle.interreduce.proofs.leads.needed_members.Goals as goal
use Rattle.interreduce.proofs.leads.needed_members.Goals.{then-not-is_covered+in_ok-push, else-not-is_covered+in_ok-push-2}

pub is_covered-requires-clause-variables : goal.is_covered-requires-clause-variables
is_covered-requires-clause-variables g c =
    let ring = g.F.Frame.over c.args.frame.now in
    let n = variables ring in
    (n, have_variables n ring.weights ring.modulus.value (g.F.Frame.compare c.args.frame.now n) (g.L.Vectors.listed c.args.list.now) c.requires)

pub loop-i-preserved : goal.loop-i-preserved
loop-i-preserved g c =
    let ring = g.F.Frame.over c.args.frame.now in
    let n = variables ring in
    let compare = g.F.Frame.compare c.args.frame.now n in
    let laws = g.met.F.Frame.laws c.args.frame.now n 0 in
    let list = g.L.Vectors.listed c.args.list.now in
    let order = c.deref-i-items.result.now in
    let i = c.loop-i.i-index in
    let lt : i < length order = c.loop-i-test.true in
    let x = get_or order i 0 in
    let vars : HaveVariables n list = have_variables n ring.weights ring.modulus.value compare list c.requires in
    let so_far : AreNeededSoFar n compare list (take i order) (x ∷ drop (i + 1) order) c.loop-i.kept.items = subst (λ z. AreNeededSoFar n compare list (take i order) z c.loop-i.kept.items) (drop_more order i 0 lt) c.loop-i.invariant.needed in
    let more : take (i + 1) order ≡ take i order ++ x ∷ [] = take_item order i x lt (get_or_default order i 0 x lt) in
    let rest = drop (i + 1) order in
    let within : Each (λ j. j < length list) order = subst (Each (λ j. j < length list)) (sym c.deref-i-items.ensures.value) c.in_ok-order.ensures.within in
    let leads : HaveLeads list order = subst (HaveLeads list) (sym c.deref-i-items.ensures.value) c.in_ok-order.ensures.leads in
    elim c.if-not-is_covered.branch [
      | then-not-is_covered+in_ok-push w ↦
          let free : IsCoveredBy n list c.loop-i.kept.items x → ⊥ = λ covered. let t : false ≡ true = (w.if-not-is_covered.ensures n vars).1 (subst (λ z. IsCoveredBy n list z x) (sym c.deref.ensures.value) covered) in cc in
          record {
            needed = subst (λ z. AreNeededSoFar n compare list (take (i + 1) order) rest z.items) (sym w.kept-is)
                (subst₂ (λ a b. AreNeededSoFar n compare list a rest b) (sym more) (sym w.in_ok-push.ensures.items)
                (needed_push n compare list laws (take i order) rest c.loop-i.kept.items x so_far (Each_member (λ j. j < length list) order i 0 within lt) (Each_member (λ j. 0 < length (get_or list j [])) order i 0 leads lt) free));
            others = subst (λ z. Each (λ j. j < length list) z.items) (sym w.others-is) c.loop-i.invariant.others;
          }
      | else-not-is_covered+in_ok-push-2 w ↦
          let covered : IsCoveredBy n list c.loop-i.kept.items x = subst (λ z. IsCoveredBy n list z x) c.deref.ensures.value ((w.if-not-is_covered.ensures n vars).0 refl) in
          record {
            needed = subst (λ z. AreNeededSoFar n compare list (take (i + 1) order) rest z.items) (sym w.kept-is)
                (subst (λ a. AreNeededSoFar n compare list a rest c.loop-i.kept.items) (sym more) (needed_skip n compare list (take i order) rest c.loop-i.kept.items x so_far covered));
            others = subst (λ z. Each (λ j. j < length list) z.items) (sym w.others-is)
                (subst (Each (λ j. j < length list)) (sym w.in_ok-push-2.ensures.items)
                (Each_append _ c.loop-i.others.items (x ∷ []) c.loop-i.invariant.others (Each_member (λ j. j < length list) order i 0 within lt, tt)));
          }
    ]

pub returns-clause-needed : goal.returns-clause-needed
returns-clause-needed g c =
    let n = variables (g.F.Frame.over c.args.frame.now) in
    let compare = g.F.Frame.compare c.args.frame.now n in
    let list = g.L.Vectors.listed c.args.list.now in
    let order = c.deref-i-items.result.now in
    let i = c.loop-i.i-index in
    let le : length order ≤ i = c.loop-i-test.false in
    let so_far : AreNeededSoFar n compare list order [] c.loop-i.kept.items = subst₂ (λ a b. AreNeededSoFar n compare list a b c.loop-i.kept.items) (take_all i order le) (drop_all i order le) c.loop-i.invariant.needed in
    needed_all n compare list order c.loop-i.kept.items so_far (λ j lt some. subst (λ z. Contains z j) (sym c.deref-i-items.ensures.value) (c.in_ok-order.ensures.all j lt some))

pub by_ascending_lead-requires : goal.by_ascending_lead-requires
by_ascending_lead-requires g c = c.requires

pub loop-i-init : goal.loop-i-init
loop-i-init g c =
    let n = variables (g.F.Frame.over c.args.frame.now) in
    let compare = g.F.Frame.compare c.args.frame.now n in
    let list = g.L.Vectors.listed c.args.list.now in
    let order = c.deref-i-items.result.now in
    record {
      needed = subst (AreNeededSoFar n compare list [] order) (sym c.new-kept.ensures.items)
          (needed_start n compare list order (subst (LeadsRise n compare list) (sym c.deref-i-items.ensures.value) c.in_ok-order.ensures.rises));
      others = subst (Each (λ j. j < length list)) (sym c.new-others.ensures.items) tt;
    }

pub is_covered-requires-clause-divisors : goal.is_covered-requires-clause-divisors
is_covered-requires-clause-divisors g c =
    subst (Each (λ j. j < length (g.L.Vectors.listed c.args.list.now))) (sym c.deref.ensures.value) c.loop-i.invariant.needed.within

pub is_covered-requires-clause-multiple : goal.is_covered-requires-clause-multiple
is_covered-requires-clause-multiple g c =
    let list = g.L.Vectors.listed c.args.list.now in
    Each_member (λ j. j < length list) c.deref-i-items.result.now c.loop-i.i-index 0
    (subst (Each (λ j. j < length list)) (sym c.deref-i-items.ensures.value) c.in_ok-order.ensures.within) c.loop-i-test.true

pub is_covered-requires-clause-leads : goal.is_covered-requires-clause-leads
is_covered-requires-clause-leads g c =
    subst (HaveLeads (g.L.Vectors.listed c.args.list.now)) (sym c.deref.ensures.value) c.loop-i.invariant.needed.leads

pub is_covered-requires-clause-some : goal.is_covered-requires-clause-some
is_covered-requires-clause-some g c =
    let list = g.L.Vectors.listed c.args.list.now in
    Each_member (λ j. 0 < length (get_or list j [])) c.deref-i-items.result.now c.loop-i.i-index 0
    (subst (HaveLeads list) (sym c.deref-i-items.ensures.value) c.in_ok-order.ensures.leads) c.loop-i-test.true
