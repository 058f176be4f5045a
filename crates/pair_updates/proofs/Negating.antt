-- The negation of a test
use Rattle.std.proofs.Common.{Bool, false, not, refl, true}
use Rattle.std.specs.Prelude.{IsTrue}
use Rattle.std.proofs.lemmas.Bool.{false≢true}

pub not_both : (b : Bool) → IsTrue (not b) → IsTrue b → ⊥
not_both true e t = false≢true e
not_both false e t = false≢true t

pub not_of : (b : Bool) → (IsTrue b → ⊥) → IsTrue (not b)
not_of true h = absurd (h refl)
not_of false h = refl
