-- What the calls for Ext modules say
use Rattle.std.specs.Prelude.{List, ℕ, ◌≡◌, ◌⊎◌}
use Rattle.term_lists.specs.declared.key.Key.{Key}
use Rattle.term_lists.specs.declared.ring.Ring.{Ring}
use Rattle.ext_laws.specs.Transposes.{rank_at}
use Rattle.resolution_maps.specs.Inducing.{Columns}
use Rattle.ext_modules.specs.Ext.{IsExt}
use Rattle.ext_modules.specs.declared.presentation.Ext.{Ext}
use Rattle.session_values.specs.Extending.{AreMapsTo, IsExtendingRun}
use Rattle.session_values.specs.Names.{Value}
use Rattle.session_reports.specs.Parts.{IsRunToKeep}

-- the answer is the Ext module at this step of the resolution of a basis, and this the rank of the module at the step
pub record IsExtAnswer (ring : Ring) (rank : ℕ) (basis : List (List (Key × ℕ))) (step : ℕ) (rank_there : ℕ) (answer : Ext) : Type 0 where
  pub maps : Columns
  pub resolution : AreMapsTo ring rank basis step maps
  pub rank_is : rank_there ≡ rank_at rank maps step
  pub ext : IsExt ring rank maps step answer

-- the runs of an Ext module of a value: the one for its reduced basis, if that is not yet kept, and those behind its resolution
abbrev pub IsRunToExtend : Ring → Value → ℕ → Ring → ℕ → List (List (Key × ℕ)) → Type 0
IsRunToExtend over value step ring rank list = IsRunToKeep over value ring rank list ⊎ IsExtendingRun over value step ring rank list
