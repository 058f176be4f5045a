-- Between which columns of a map the leads at one position stand, and the last of them that divides a key
use Rattle.std.specs.Prelude.{List, None, Option, Some, [], get_or, length, ℕ, ◌+◌, ◌<◌, ◌≡◌, ◌≤◌}
use Rattle.formal_sums.specs.FormalSums.{Key}
use Rattle.orders.specs.KeyOrders.{KeyDivides}
use Rattle.term_lists.specs.Vectors.{sums_of}
use Rattle.term_lists.specs.declared.key.Key.{Key as CodeKey}
use Rattle.module_vectors.specs.Trails.{KeptProduct, lead_at}
use Rattle.vector_division.specs.Divisions.{IsUncovered}
use Rattle.vector_division.specs.Marks.{IsMarkOf}
use Rattle.vector_division.specs.Progress.{IsDivisor}
use Rattle.vector_division.specs.declared.marks.Mark.{Mark}
use Rattle.induced_leads.specs.Reaching.{OccurInLead}
use Rattle.induced_leads.specs.declared.divisors.LeadIndex.{LeadIndex}
use Rattle.induced_leads.specs.declared.divisors.Span.{Span}

-- j stands in the span of this position
pub record IsSpannedAt (spans : List Span) (position j : ℕ) : Type 0 where
  pub span : Span
  pub known : position < length spans
  pub is : span ≡ get_or spans position span
  pub from : span.from ≤ j
  pub to : j < span.to

-- what stood in a span still does, and all of this one stands in that of the position
pub record IsWidened (position : ℕ) (more : Span) (old new : List Span) : Type 0 where
  pub kept : (p j : ℕ) → IsSpannedAt old p j → IsSpannedAt new p j
  pub added : (j : ℕ) → more.from ≤ j → j < more.to → IsSpannedAt new position j

-- a mark for each column
pub record AreMarks (columns : List (List (CodeKey × ℕ))) (marks : List Mark) : Type 0 where
  pub count : length marks ≡ length columns
  pub each : (i : ℕ) (m : Mark) → i < length columns → m ≡ get_or marks i m → IsMarkOf (get_or columns i []) m

-- the bits of each column's lead
pub record AreVariables (columns : List (List (CodeKey × ℕ))) (variables : List ℕ) : Type 0 where
  pub count : length variables ≡ length columns
  pub each : (i : ℕ) → i < length columns → OccurInLead (get_or columns i []) (get_or variables i 0)

-- the marks and bits are those of the columns, and each column stands in the span of its lead's position
pub record IsIndexOf (columns : List (List (CodeKey × ℕ))) (index : LeadIndex) : Type 0 where
  pub marks : AreMarks columns index.marks.items
  pub variables : AreVariables columns index.variables.items
  pub spans : (n j : ℕ) → j < length columns → 0 < length (get_or columns j []) → IsSpannedAt index.spans.items (lead_at n columns j).0 j

-- none of the columns from `end` on has its lead at this position
abbrev pub ArePast : List (List (CodeKey × ℕ)) → ℕ → ℕ → Type 0
ArePast columns position end =
    (n j : ℕ) → end ≤ j → j < length columns → 0 < length (get_or columns j []) → (lead_at n columns j).0 ≡ position → ⊥

-- none of the vectors from i on that are not zero has a lead that divides k
abbrev pub AreTriedFrom : (n : ℕ) → List (List (CodeKey × ℕ)) → Key n → ℕ → Type 0
AreTriedFrom n list k i = (j : ℕ) → i ≤ j → j < length list → 0 < length (get_or list j []) → KeyDivides (lead_at n list j) k → ⊥

-- a product with the lead k, of the last vector that has one, or none where no lead of the list divides k
abbrev pub IsFoundLast : (n : ℕ) → List ℕ → List (List (CodeKey × ℕ)) → Key n → Option KeptProduct → Type 0
IsFoundLast n ws list k None = IsUncovered (sums_of n list) k
IsFoundLast n ws list k (Some s) = IsDivisor n ws list k s × AreTriedFrom n list k (s.0 + 1)
