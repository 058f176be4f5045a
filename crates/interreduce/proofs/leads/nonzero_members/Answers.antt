use Rattle.std.proofs.Common.{[], arith, get_or, length, subst, sym, ℕ, ◌+◌, ◌<◌, ◌∙◌, ◌≡◌, ◌≤◌, ◌∷◌}
use Rattle.std.specs.Prelude.{Contains}
use Rattle.std.specs.Vec.{vec_capacity, vec_len}
use Rattle.formal_sums.proofs.WeightedSums.{Each_append}
use Rattle.formal_sums.specs.FormalSums.{Each}
use Rattle.interreduce.specs.Leads.{HaveLeads}
use Rattle.interreduce.proofs.Choosing.{passed_all, pushed_all}
use Rattle.interreduce.proofs.leads.nonzero_members.Goals as goal
use Rattle.interreduce.proofs.leads.nonzero_members.Goals.{then-not-is_empty, else-not-is_empty}

pub loop-i-preserved : goal.loop-i-preserved
loop-i-preserved g c =
    let list = g.L.Vectors.listed c.args.list.now in
    let xs = c.loop-i.found.items in
    let i = c.loop-i.i in
    let lt : i < length list = omega arith in
    let same : c.terms.result.now ≡ get_or list i [] = c.terms.ensures ∙ c.at.ensures in
    elim c.if-not-is_empty.branch [
      | then-not-is_empty w ↦
          let some : 0 < length (get_or list i []) = subst (λ v. 0 < length v) same (grind (arith, c.is_empty.ensures, w.if-not-is_empty.true)) in
          let is = w.push_reserved.ensures.items in
          subst (λ z. record { count : vec_len z ≤ i + 1; room : length list ≤ vec_capacity z; within : Each (λ k. k < length list) z.items; leads : HaveLeads list z.items; all : (k : ℕ) → k < i + 1 → 0 < length (get_or list k []) → Contains z.items k }) (sym w.found-is)
          (record {
            count = omega arith;
            room = omega arith;
            within = subst (Each (λ k. k < length list)) (sym is) (Each_append _ xs (i ∷ []) c.loop-i.invariant.within (lt, tt));
            leads = subst (HaveLeads list) (sym is) (Each_append _ xs (i ∷ []) c.loop-i.invariant.leads (some, tt));
            all = λ k l s. subst (λ z. Contains z k) (sym is) (pushed_all (λ m. 0 < length (get_or list m [])) xs i c.loop-i.invariant.all k l s);
          })
      | else-not-is_empty w ↦
          let none : (0 < length (get_or list i []) → ⊥) = λ some. let h : 0 < length c.terms.result.now = subst (λ v. 0 < length v) (sym same) some in grind (arith, h, c.is_empty.ensures, w.if-not-is_empty.false) in
          subst (λ z. record { count : vec_len z ≤ i + 1; room : length list ≤ vec_capacity z; within : Each (λ k. k < length list) z.items; leads : HaveLeads list z.items; all : (k : ℕ) → k < i + 1 → 0 < length (get_or list k []) → Contains z.items k }) (sym w.found-is)
          (record {
            count = omega (arith, c.loop-i.invariant.count);
            room = c.loop-i.invariant.room;
            within = c.loop-i.invariant.within;
            leads = c.loop-i.invariant.leads;
            all = λ k l s. passed_all (λ m. 0 < length (get_or list m [])) xs i none c.loop-i.invariant.all k l s;
          })
    ]
