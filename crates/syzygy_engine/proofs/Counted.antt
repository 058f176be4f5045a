-- How many runs an answer takes, by the order of modules
use Rattle.std.proofs.Common.{ap, arith, subst, suc, sym, ℕ, ◌∙◌, ◌≡◌, ◌≤◌}
use Rattle.monomial_orders.specs.declared.order.ModOrder.{ModOrder}
use Rattle.monomial_orders.specs.declared.order.ModOrder.TheVariants.{Pot, Top}
use Rattle.term_lists.specs.declared.ring.Ring.{Ring}
use Rattle.risen_counts.specs.Counts.{RoseAtMost, next_count}
use Rattle.syzygy_engine.specs.Kernels.{runs_in_module_order, runs_in_order}

-- one run is within that number
pub one_run : (ring : Ring) (before now : ℕ) → RoseAtMost 1 before now → RoseAtMost (runs_in_order ring) before now
one_run ring before now a = record { times = a.times; within = within ring.module_order; counted = a.counted }
  where
    within : (order : ModOrder) → a.times ≤ runs_in_module_order order
    within Pot = a.within
    within Top = let few : a.times ≤ 1 = a.within in omega (arith, few)

-- where the order is term over position, so is one more behind it
pub one_run_more :
    (ring : Ring) (before between now : ℕ)
    → ring.module_order ≡ Top → RoseAtMost 1 before between → now ≡ next_count between → RoseAtMost (runs_in_order ring) before now
one_run_more ring before between now top a next = record {
  times = suc a.times;
  within =
      let few : a.times ≤ 1 = a.within in
      let two : suc a.times ≤ 2 = omega (arith, few) in
      subst (λ order. suc a.times ≤ runs_in_module_order order) (sym top) two;
  counted = next ∙ ap next_count a.counted;
}
