-- What is kept of a value beside its name
use Rattle.std.specs.Prelude.{List, None, Option, Some, ℕ}
use Rattle.term_lists.specs.declared.key.Key.{Key}
use Rattle.session_values.specs.declared.stored.Basis.{Basis}
use Rattle.session_values.specs.declared.stored.Basis.TheVariants as bases

-- the list as it was given, and its reduced basis where there is one
pub record StoredShown : Type 0 where
  pub list : List (List (Key × ℕ))
  pub basis : Option (List (List (Key × ℕ)))

-- the reduced basis of a list, from how the code has it
abbrev pub basis_of : List (List (Key × ℕ)) → Basis → Option (List (List (Key × ℕ)))
basis_of list bases.Unknown = None
basis_of list bases.Itself = Some list
basis_of list (bases.Found basis) = Some basis
