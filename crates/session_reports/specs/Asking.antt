-- Questions in the code
use Rattle.std.specs.Prelude.{List, ℕ, ⊤}
use Rattle.term_lists.specs.Rings.{ring_comparison}
use Rattle.term_lists.specs.Vectors.{IsVectorOver}
use Rattle.term_lists.specs.declared.key.Key.{Key}
use Rattle.term_lists.specs.declared.ring.Ring.{Ring}
use Rattle.module_vectors.specs.declared.trail.KeptTrail.{KeptTrail}
use Rattle.vector_division.specs.Divisions.{IsDivisionTrail}
use Rattle.groebner_iface.specs.Runs.{IsReducedBasisOf}
use Rattle.groebner_iface.specs.declared.stop.OpStop.{OpStop}
use Rattle.groebner_iface.specs.declared.stop.OpStop.TheVariants as causes
use Rattle.session_values.specs.Answers.{Asked, basis, member, normal_form, sizes_of_basis}
use Rattle.session_values.specs.Names.{Value}
use Rattle.session_reports.specs.declared.answers.Question.{Question}
use Rattle.session_reports.specs.declared.answers.Question.TheVariants as questions

-- what is asked
abbrev pub asked_of : Question → Asked
asked_of questions.Basis = basis
asked_of questions.Sizes = sizes_of_basis
asked_of (questions.NormalForm v) = normal_form v.now
asked_of (questions.Member v) = member v.now

-- the vector, if there is one, is one over the ring
abbrev pub IsAskedOver : Ring → Asked → Type 0
IsAskedOver ring basis = ⊤
IsAskedOver ring sizes_of_basis = ⊤
IsAskedOver ring (normal_form v) = IsVectorOver ring (ring_comparison ring) v
IsAskedOver ring (member v) = IsVectorOver ring (ring_comparison ring) v

-- a trail of the division of the vector, if one is asked about, by the basis
abbrev pub DividesBy : Ring → Asked → List (List (Key × ℕ)) → KeptTrail → Type 0
DividesBy ring basis G t = ⊥
DividesBy ring sizes_of_basis G t = ⊥
DividesBy ring (normal_form v) G t = IsDivisionTrail ring v G t
DividesBy ring (member v) G t = IsDivisionTrail ring v G t

-- a trail of that division by the reduced basis of a value
abbrev pub IsTrailOf : Ring → Value → Asked → KeptTrail → Type 0
IsTrailOf ring value asked t =
    (G : List (List (Key × ℕ))) × IsReducedBasisOf ring value.rank value.list G × DividesBy ring asked G t

-- why there is no answer from the basis
abbrev pub AnswerStops : Ring → Asked → List (List (Key × ℕ)) → OpStop → Type 0
AnswerStops ring asked G causes.Memory = ⊤
AnswerStops ring asked G causes.Pairs = ⊥
AnswerStops ring asked G causes.Degree = ⊥
AnswerStops ring asked G (causes.Trail t) = DividesBy ring asked G t
