-- Values that operations give
use Rattle.std.proofs.Common.{List, None, Some, ap, ap₂, arith, length, subst, subst₂, sym, ℕ, ◌∙◌, ◌≡◌, ◌≤◌}
use Rattle.std.specs.Global.{Global}
use Rattle.std.specs.Prelude.{String, string_bytes}
use Rattle.std.proofs.lemmas.Option.{same_Some}
use Rattle.term_lists.specs.declared.key.Key.{Key}
use Rattle.term_lists.specs.declared.ring.Ring.{Ring}
use Rattle.script_parse.specs.declared.operation.Operation.{Operation}
use Rattle.script_parse.specs.declared.operation.Operation.TheVariants as operations
use Rattle.session_lang.proofs.OneAnswer.{one_value}
use Rattle.session_lang.specs.Fitting.{AreGiven, AreImages, IsWithPolynomial, IsOperable}
use Rattle.session_values.specs.Kept.{IsListOver, IsPolynomialOver, IsSound, IsValueRank}
use Rattle.session_values.specs.Names.{ScriptState}
use Rattle.session_values.specs.Operations.{IsResult, TaskShown, WorksOn, colon, eliminate, intersect, multiply, preimage, quotient, result_rank, saturate, sum, syzygies}
use Rattle.session_values.specs.Tasks.{IsOperand, IsReady}

abbrev Lists : Type 0
Lists = List (List (Key × ℕ))

-- the result is a value
pub sound_result :
    (ring : Ring) (work : TaskShown) (rank : ℕ) (list : List (List (Key × ℕ))) → rank ≡ result_rank work → IsValueRank (result_rank work)
    → IsResult ring work list → IsSound ring rank (record { list = list; basis = Some list })
sound_result ring work rank list e ranked r =
    subst (λ m. IsSound ring m (record { list = list; basis = Some list })) (sym e)
    (record { ranked = ranked; vectors = r.basis.vectors; positions = r.basis.positions; basis = r.basis })

-- so is a typed list
pub sound_list :
    (ring : Ring) (rank : ℕ) (list : List (List (Key × ℕ))) → IsValueRank rank → IsListOver ring rank list
    → IsSound ring rank (record { list = list; basis = None })
sound_list ring rank list ranked h = record { ranked = ranked; vectors = h.0; positions = h.1; basis = tt }

-- ---- operations on operands
module _ (before : ScriptState) (over : Ring) where
  abbrev IsOf : String Global → ℕ → Lists → Type 0
  IsOf name rank list = IsOperand before name over rank list

  abbrev Does : Operation → TaskShown → Type 0
  Does x work = WorksOn before x over work × IsReady over work

  -- the ranks of two operands pass the test
  ranks_pass :
      (Test : ℕ → ℕ → Type 0) (a b : String Global) (m n : ℕ) (left right : Lists) → AreGiven before (string_bytes a) (string_bytes b) Test
      → IsOf a m left → IsOf b n right → Test m n
  ranks_pass Test a b m n left right h f g =
      let x = one_value before (string_bytes a) h.0 over h.1 f.value h.3 f.has in
      let y = one_value before (string_bytes b) h.0 over h.2 g.value h.4 g.has in
      subst₂ Test (ap (λ v. v.rank) x ∙ sym f.rank_is) (ap (λ v. v.rank) y ∙ sym g.rank_is) h.5

  same_rank :
      (a b : String Global) (m n : ℕ) (left right : Lists) → AreGiven before (string_bytes a) (string_bytes b) (λ r s. r ≡ s) → IsOf a m left → IsOf b n right
      → IsListOver over m right
  same_rank a b m n left right h f g = subst (λ r. IsListOver over r right) (sym (ranks_pass (λ r s. r ≡ s) a b m n left right h f g)) g.vectors

  written : (F : ℕ → Lists → Lists → TaskShown) (m n : ℕ) (k l p q : Lists) → m ≡ n → k ≡ l → p ≡ q → F m k p ≡ F n l q
  written F m n k l p q e f g = λ i. F (e i) (f i) (g i)

  pub sum_does :
      (a b : String Global) (m n : ℕ) (left right : Lists) → IsOperable before (operations.Sum a b) → IsOf a m left → IsOf b n right
      → Does (operations.Sum a b) (sum m left right)
  sum_does a b m n left right h f g = (
    (f.value, g.value, f.has, g.has, written sum m f.value.rank left f.value.list right g.value.list f.rank_is f.list_is g.list_is),
    ((f.vectors, same_rank a b m n left right h f g), f.ranked),
  )

  pub product_does :
      (a b : String Global) (m n : ℕ) (left right : Lists) → IsOperable before (operations.Product a b) → IsOf a m left → IsOf b n right
      → Does (operations.Product a b) (multiply n left right)
  product_does a b m n left right h f g =
      let le = ranks_pass (λ r s. r ≤ 1) a b m n left right h f g in
      let ge = f.ranked.0 in
      let e : m ≡ 1 = omega (arith, le, ge) in (
        (f.value, g.value, f.has, g.has, written multiply n g.value.rank left f.value.list right g.value.list g.rank_is f.list_is g.list_is),
        ((subst (λ r. IsListOver over r left) e f.vectors, g.vectors), g.ranked),
      )

  pub intersect_does :
      (a b : String Global) (m n : ℕ) (left right : Lists) → IsOperable before (operations.Intersect a b) → IsOf a m left → IsOf b n right
      → Does (operations.Intersect a b) (intersect m left right)
  intersect_does a b m n left right h f g = (
    (f.value, g.value, f.has, g.has, written intersect m f.value.rank left f.value.list right g.value.list f.rank_is f.list_is g.list_is),
    ((f.vectors, same_rank a b m n left right h f g, f.ranked), f.ranked),
  )

  pub colon_does :
      (a b : String Global) (m n : ℕ) (left right : Lists) → IsOperable before (operations.Colon a b) → IsOf a m left → IsOf b n right
      → Does (operations.Colon a b) (colon m left right)
  colon_does a b m n left right h f g = (
    (f.value, g.value, f.has, g.has, written colon m f.value.rank left f.value.list right g.value.list f.rank_is f.list_is g.list_is),
    ((f.vectors, same_rank a b m n left right h f g, f.ranked), (omega arith, omega arith)),
  )

  -- a polynomial that is stated is over the ring
  polynomial_over : (a : String Global) (m : ℕ) (list : Lists) (f : List (Key × ℕ)) → IsWithPolynomial before (string_bytes a) f → IsOf a m list → IsPolynomialOver over f
  polynomial_over a m list f h g =
      let e : h.0 ≡ over = same_Some _ _ (sym h.2.stated ∙ g.has.stated) in
      subst (λ r. IsPolynomialOver r f) e (h.3, h.4)

  pub quotient_does :
      (a : String Global) (m : ℕ) (list : Lists) (f : List (Key × ℕ)) → IsOperable before (operations.Quotient a f) → IsOf a m list
      → Does (operations.Quotient a f) (quotient m list f)
  quotient_does a m list f h g = (
    (g.value, g.has, ap₂ (λ r l. quotient r l f) g.rank_is g.list_is),
    ((g.vectors, polynomial_over a m list f h g, g.ranked), g.ranked),
  )

  pub saturate_does :
      (a : String Global) (m : ℕ) (list : Lists) (f : List (Key × ℕ)) → IsOperable before (operations.Saturate a f) → IsOf a m list
      → Does (operations.Saturate a f) (saturate m list f)
  saturate_does a m list f h g = (
    (g.value, g.has, ap₂ (λ r l. saturate r l f) g.rank_is g.list_is),
    ((g.vectors, polynomial_over a m list f h g, g.ranked), g.ranked),
  )

  pub eliminate_does :
      (a : String Global) (m : ℕ) (list : Lists) (k : ℕ) → IsOf a m list → Does (operations.Eliminate a k) (eliminate m list k)
  eliminate_does a m list k g = ((g.value, g.has, ap₂ (λ r l. eliminate r l k) g.rank_is g.list_is), (g.vectors, g.ranked))

  pub syzygies_does :
      (a : String Global) (m : ℕ) (list : Lists) → IsOperable before (operations.Syzygies a) → IsOf a m list → Does (operations.Syzygies a) (syzygies m list)
  syzygies_does a m list h g =
      let x = one_value before (string_bytes a) h.0 over h.1 g.value h.2 g.has in (
        (g.value, g.has, ap₂ (λ r l. syzygies r l) g.rank_is g.list_is),
        ((g.vectors, g.ranked), subst (λ l. IsValueRank (length l)) (ap (λ v. v.list) x ∙ sym g.list_is) h.3),
      )

  pub preimage_does :
      (a : String Global) (m : ℕ) (list images : Lists) → IsOperable before (operations.Preimage a images) → IsOf a m list
      → Does (operations.Preimage a images) (preimage images list)
  preimage_does a m list images h g =
      let x = one_value before (string_bytes a) h.0 over h.1 g.value h.2 g.has in
      let le = subst (λ r. r ≤ 1) (ap (λ v. v.rank) x ∙ sym g.rank_is) h.3 in
      let ge = g.ranked.0 in
      let one : m ≡ 1 = omega (arith, le, ge) in
      let these = subst (λ r. AreImages r images) (same_Some _ _ (sym h.2.stated ∙ g.has.stated)) h.4 in (
        (g.value, g.has, ap (preimage images) g.list_is),
        ((these.0, these.1, subst (λ r. IsListOver over r list) one g.vectors), (omega arith, omega arith)),
      )
