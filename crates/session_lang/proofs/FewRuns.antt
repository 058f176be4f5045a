-- How few runs a line makes
use Rattle.std.proofs.Common.{Bool, List, None, Option, Some, [], ap, arith, cond, false, nat_eq, refl, true, ℕ, ◌*◌, ◌+◌, ◌∙◌, ◌∷◌, ◌≡◌, ◌≤◌}
use Rattle.std.specs.Cmp.Lexicographic.{pointwise}
use Rattle.std.specs.Prelude.{string_bytes}
use Rattle.monomial_orders.specs.declared.order.ModOrder.{ModOrder}
use Rattle.monomial_orders.specs.declared.order.ModOrder.TheVariants.{Pot, Top}
use Rattle.term_lists.specs.declared.ring.Ring.{Ring}
use Rattle.script_parse.specs.declared.stated.Statement.{Statement}
use Rattle.script_parse.specs.declared.stated.Statement.TheVariants as statements
use Rattle.session_lang.specs.Runs.{MayRun, runs_for, runs_for_both, runs_to_keep}
use Rattle.session_values.specs.Names.{ScriptState, Value, after_run, value_named, with_basis}
use Rattle.session_values.specs.Operations.{TaskShown, colon, eliminate, intersect, multiply, preimage, quotient, saturate, sum, syzygies}
use Rattle.session_values.specs.Runs.{most_runs}
use Rattle.syzygy_engine.specs.Kernels.{runs_in_module_order, runs_in_order}

abbrev with_own : Value → Value
with_own v = record { name = v.name; rank = v.rank; list = v.list; kept = true }

-- none is left where the basis is kept
module _ (name : List ℕ) where
  kept_among : (values : List Value) → runs_to_keep (value_named (with_basis name values) name) ≡ 0
  kept_among [] = refl
  kept_among (v ∷ values) = by_test (pointwise nat_eq v.name name) refl (kept_among values)
    where
      by_test :
          (b : Bool) → pointwise nat_eq v.name name ≡ b → runs_to_keep (value_named (with_basis name values) name) ≡ 0
          → runs_to_keep (value_named (cond b (with_own v ∷ values) (v ∷ with_basis name values)) name) ≡ 0
      by_test true e later = ap (λ b. runs_to_keep (cond b (Some (with_own v)) (value_named values name))) e
      by_test false e later = ap (λ b. runs_to_keep (cond b (Some v) (value_named (with_basis name values) name))) e ∙ later

pub none_once_kept : (before : ScriptState) (name : List ℕ) → runs_for (after_run name before) name ≡ 0
none_once_kept before name = kept_among name before.values

-- one at most for a value
to_keep : (o : Option Value) → runs_to_keep o ≤ 1
to_keep None = omega arith
to_keep (Some v) = by_mark v.kept
  where
    by_mark : (b : Bool) → cond b 0 1 ≤ 1
    by_mark true = omega arith
    by_mark false = omega arith

pub one_for_value : (before : ScriptState) (name : List ℕ) → runs_for before name ≤ 1
one_for_value before name = to_keep (value_named before.values name)

-- whatever stands for it twice
pub one_for_both : (before : ScriptState) (name : List ℕ) → runs_for_both before name name ≤ 1
one_for_both before name = no_more (runs_for before name) (runs_for (after_run name before) name) (one_for_value before name) (none_once_kept before name)
  where
    no_more : (first second : ℕ) → first ≤ 1 → second ≡ 0 → first + second ≤ 1
    no_more first second a b = omega (arith, a, b)

-- two at most for an answer in the ring's order, and for an operation
in_order : (order : ModOrder) → runs_in_module_order order ≤ 2
in_order Pot = omega arith
in_order Top = omega arith

of_work : (ring : Ring) (work : TaskShown) → most_runs ring work ≤ 2
of_work ring (sum rank left right) = omega arith
of_work ring (multiply rank left right) = omega arith
of_work ring (intersect rank left right) = omega arith
of_work ring (colon rank left right) = in_order ring.module_order
of_work ring (quotient rank list f) = in_order ring.module_order
of_work ring (saturate rank list f) = omega arith
of_work ring (eliminate rank list k) = omega arith
of_work ring (syzygies rank list) = in_order ring.module_order
of_work ring (preimage images list) = omega arith

within : (few most : ℕ) → most ≡ few → few ≤ 2 → most ≤ 5
within few most e h = omega (arith, e, h)

two_values : (left right most : ℕ) → most ≡ left + right → left ≤ 1 → right ≤ 1 → most ≤ 5
two_values left right most e l r = omega (arith, e, l, r)

value_and_twice : (one two most : ℕ) → most ≡ one + 2 * two → one ≤ 1 → two ≤ 2 → most ≤ 5
value_and_twice one two most e a b = omega (arith, e, a, b)

at_most_two : (few : ℕ) → few ≤ 1 → few ≤ 2
at_most_two few h = omega (arith, h)

module _ (before : ScriptState) (most : ℕ) where
  no_run : most ≡ 0 → most ≤ 5
  no_run e = within 0 most e (omega arith)

  one_run : most ≡ 1 → most ≤ 5
  one_run e = within 1 most e (omega arith)

  of_value : (name : List ℕ) → most ≡ runs_for before name → most ≤ 5
  of_value name e = within (runs_for before name) most e (at_most_two (runs_for before name) (one_for_value before name))

  of_both : (first second : List ℕ) → most ≡ runs_for_both before first second → most ≤ 5
  of_both first second e =
      two_values (runs_for before first) (runs_for (after_run first before) second) most e (one_for_value before first)
      (one_for_value (after_run first before) second)

  of_operation : (ring : Ring) (work : TaskShown) → most ≡ most_runs ring work → most ≤ 5
  of_operation ring work e = within (most_runs ring work) most e (of_work ring work)

  of_ext : (ring : Ring) (name : List ℕ) → most ≡ runs_for before name + 2 * runs_in_order ring → most ≤ 5
  of_ext ring name e =
      value_and_twice (runs_for before name) (runs_in_order ring) most e (one_for_value before name) (in_order ring.module_order)

  pub five_at_most : (statement : Statement) → MayRun before statement most → most ≤ 5
  five_at_most statements.Nothing h = no_run h
  five_at_most (statements.Ring ring) h = no_run h
  five_at_most (statements.Show v) h = no_run h
  five_at_most (statements.Ideal name list) h = no_run h
  five_at_most (statements.Module name rank list) h = no_run h
  five_at_most (statements.Gens name) h = no_run h
  five_at_most (statements.Gb name) h = of_value (string_bytes name) h
  five_at_most (statements.Size name) h = of_value (string_bytes name) h
  five_at_most (statements.NormalForm name v) h = of_value (string_bytes name) h
  five_at_most (statements.Member name v) h = of_value (string_bytes name) h
  five_at_most (statements.Hilbert name) h = of_value (string_bytes name) h
  five_at_most (statements.Resolution name) h = of_value (string_bytes name) h
  five_at_most (statements.Minimal name) h = of_value (string_bytes name) h
  five_at_most (statements.Betti name) h = of_value (string_bytes name) h
  five_at_most (statements.Regularity name) h = of_value (string_bytes name) h
  five_at_most (statements.Change name order) h = of_value (string_bytes name) h
  five_at_most (statements.Equal first second) h = of_both (string_bytes first) (string_bytes second) h
  five_at_most (statements.Let name operation) h = of_operation h.0 h.1 h.3
  five_at_most (statements.Lift name v) h = one_run h
  five_at_most (statements.Express f images) h = one_run h
  five_at_most (statements.Ext name step) h = of_ext h.0 (string_bytes name) h.2
