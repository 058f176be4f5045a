use Rattle.std.proofs.Common.{[], ap, append-nil, append_assoc, length, refl, subst, sym, ◌++◌, ◌<◌, ◌∙◌, ◌∷◌, ◌≡◌}
use Rattle.std.proofs.lemmas.List.{length-set}
use Rattle.formal_sums.specs.FormalSums.{Each}
use Rattle.dense_reduction.specs.Rests.{rows_left}
use Rattle.row_reduce.proofs.Lowered.{none_popped}
use Rattle.row_reduce.specs.Echelons.{with_left}
use Rattle.row_reduce.specs.Passes.{places}
use Rattle.row_reduce.proofs.elimination.put_all.Goals as goal

pub loop-left-preserved : goal.loop-left-preserved
loop-left-preserved c =
    let v = c.loop-left.invariant in
    let put = c.in_ok-put_left.ensures in
    let old = c.loop-left.state in
    let new = c.put_left.new.state in
    let l = c.in-Some.left in
    let rest = c.pop_front.new.self.items in
    let size : length old.rows.items ≡ length new.rows.items = sym (length-set old.rows.items l.number l.row) ∙ ap length (sym put.rows) in
    record {
      rows = ap (λ xs. with_left xs rest) put.rows ∙ subst (λ xs. with_left old.rows.items xs ≡ with_left c.args.state.now.rows.items c.args.passed.left.items) c.in-Some.ensures.items v.rows;
      leads = put.leads;
      held = put.held ∙ v.held;
      pending = ap (λ xs. xs ++ places rest) put.pending ∙ append_assoc old.pending.items (l.number ∷ []) (places rest)
          ∙ subst (λ xs. old.pending.items ++ places xs ≡ places c.args.passed.left.items) c.in-Some.ensures.items v.pending;
      within = subst (λ n. Each (λ k. k < n) (places rest)) size (subst (λ xs. Each (λ k. k < length old.rows.items) (places xs)) c.in-Some.ensures.items v.within).1;
      some = (subst (λ xs. Each (λ r. 0 < length r.entries) (rows_left xs)) c.in-Some.ensures.items v.some).1;
    }

pub loop-left-init : goal.loop-left-init
loop-left-init c =
    let rows = c.args.state.now.rows.items in
    let rest = c.from_vec-rest.result.items in
    let same = c.from_vec-rest.ensures.items in
    record {
      rows = ap (with_left rows) same;
      leads = c.requires.leads;
      held = refl;
      pending = ap (λ xs. xs ++ places rest) c.clear.ensures.items ∙ ap places same;
      within = subst (λ xs. Each (λ k. k < length rows) (places xs)) (sym same) c.requires.within;
      some = subst (λ xs. Each (λ r. 0 < length r.entries) (rows_left xs)) (sym same) c.requires.some;
    }

pub put_left-requires-clause-within : goal.put_left-requires-clause-within
put_left-requires-clause-within c =
    (subst (λ xs. Each (λ k. k < length c.loop-left.state.rows.items) (places xs)) c.in-Some.ensures.items c.loop-left.invariant.within).0

pub put_left-requires-clause-some : goal.put_left-requires-clause-some
put_left-requires-clause-some c =
    (subst (λ xs. Each (λ r. 0 < length r.entries) (rows_left xs)) c.in-Some.ensures.items c.loop-left.invariant.some).0

pub returns-clause-rows : goal.returns-clause-rows
returns-clause-rows c =
    let state = c.loop-left.state in
    let none = none_popped c.loop-left.rest.items c.pop_front.new.self.items c.in_default.ensures.items c.in_default.ensures.rest in
    subst (λ xs. with_left state.rows.items xs ≡ with_left c.args.state.now.rows.items c.args.passed.left.items) none c.loop-left.invariant.rows

pub returns-clause-pending : goal.returns-clause-pending
returns-clause-pending c =
    let pending = c.loop-left.state.pending.items in
    let none = none_popped c.loop-left.rest.items c.pop_front.new.self.items c.in_default.ensures.items c.in_default.ensures.rest in
    let put = subst (λ xs. pending ++ places xs ≡ places c.args.passed.left.items) none c.loop-left.invariant.pending in
    c.in_ok-append.ensures.items ∙ ap (λ xs. xs ++ c.args.later.items) (sym (append-nil pending) ∙ put)
