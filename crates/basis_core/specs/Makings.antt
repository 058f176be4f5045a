-- The members that rows make, and where a row is not divided
use Rattle.std.specs.Prelude.{Contains, List, ⊤, ◌++◌, ◌∷◌, ◌≡◌, ℕ}
use Rattle.term_lists.specs.Rings.{variables}
use Rattle.module_vectors.specs.Trails.{KeptProduct, last_product}
use Rattle.module_vectors.specs.declared.trail.KeptTrail.{KeptTrail}
use Rattle.module_vectors.specs.declared.trail.WorkStop.{WorkStop}
use Rattle.module_vectors.specs.declared.trail.WorkStop.TheVariants.{Memory, Degree}
use Rattle.member_products.specs.declared.member.Reduct.{Reduct as CodeReduct}
use Rattle.formal_sums.specs.FormalSums.{Each}
use Rattle.basis_steps.specs.States.{vectors}
use Rattle.basis_core.specs.Jobs.{pairs_of}
use Rattle.basis_core.specs.Outcomes.{OutcomeShown, indexed_product_of}
use Rattle.basis_core.specs.Stops.{IsTrailBy, trail_of}
use Rattle.basis_steps.specs.Divisions.{MakesMembers}
use Rattle.basis_core.specs.declared.row_division.RowStop.{RowStop}
use Rattle.basis_core.specs.declared.row_division.RowStop.TheVariants as reasons
use Rattle.basis_core.specs.declared.row_division.RowTrail.{RowTrail}
use Rattle.basis_core.specs.Members.{IsMemberShown, Shared, MemberShown, members_of, reduct_rows_of, setting_of}
use Rattle.basis_core.specs.Rows.{IsRowTrail, RowStops}

-- the later members are the earlier ones and those that the rows make
pub record HaveMadeRows (n : ℕ) (shared : Shared) (ms : List MemberShown) (rows : List CodeReduct) (after : List MemberShown) : Type 0 where
  pub made : List MemberShown
  pub same : after ≡ ms ++ made
  pub makes : MakesMembers (setting_of n shared) (vectors (members_of n ms)) (reduct_rows_of n rows) (members_of n made)

-- the rows before one of them are divided, and that one stops
pub record StopsRow (n : ℕ) (shared : Shared) (ms : List MemberShown) (rows : List CodeReduct) (after : List MemberShown) (stop : RowStop) : Type 0 where
  pub before : List CodeReduct
  pub row : CodeReduct
  pub later : List CodeReduct
  pub split : rows ≡ before ++ row ∷ later
  pub made : HaveMadeRows n shared ms before after
  pub stops : RowStops n shared.ring.weights after row.vector stop

-- one of the rows stops with these members
abbrev pub StopsOne : (n : ℕ) (ws : List ℕ) → List MemberShown → List CodeReduct → RowStop → Type 0
StopsOne n ws ms rows reasons.Memory = ⊤
StopsOne n ws ms rows (reasons.Degree t) = (row : CodeReduct) × Contains rows row × IsRowTrail n ws ms row.vector t.products.items t.last

-- the trail ends as these products do
pub record TrailEndsAs (n : ℕ) (products : List KeptProduct) (t : KeptTrail) : Type 0 where
  pub first : KeptProduct
  pub later : List KeptProduct
  pub products_are : products ≡ first ∷ later
  pub last : (trail_of n t).last ≡ indexed_product_of n (last_product first later)

-- Degree comes where the row has stopped by the degree, with a trail by these members that starts with a pair of the job and ends as the row's does
abbrev pub StopsAt : Shared → List MemberShown → OutcomeShown → RowStop → WorkStop → Type 0
StopsAt shared ms o row Memory = ⊤
StopsAt shared ms o reasons.Memory (Degree t) = ⊥
StopsAt shared ms o (reasons.Degree r) (Degree t) = IsTrailBy shared ms (pairs_of o.job.pairs) t × TrailEndsAs (variables shared.ring) r.products.items t

-- the outcome is stopped by the degree: at the members that the rows before one of them make, with a trail by these that starts
-- with a pair of the job and ends as that row's does
pub record StopsOutcome (n : ℕ) (shared : Shared) (ms : List MemberShown) (o : OutcomeShown) (t : KeptTrail) : Type 0 where
  pub after : List MemberShown
  pub tracked : Each (IsMemberShown shared) after
  pub row : RowTrail
  pub stops : StopsRow n shared ms o.rows after (reasons.Degree row)
  pub trail : IsTrailBy shared after (pairs_of o.job.pairs) t
  pub ends : TrailEndsAs n row.products.items t

-- Degree comes with such a trail alone
abbrev pub StopsWork : (n : ℕ) → Shared → List MemberShown → OutcomeShown → WorkStop → Type 0
StopsWork n shared ms o Memory = ⊤
StopsWork n shared ms o (Degree t) = StopsOutcome n shared ms o t
