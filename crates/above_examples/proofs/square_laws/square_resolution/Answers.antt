use Rattle.resolution_laws.proofs.OneResolution.{canonical_unique}
use Rattle.above_examples.proofs.SquareBasis.{generators_ranked, plane_lawful}
use Rattle.above_examples.proofs.SquareMaps.{square_canonical}
use Rattle.above_examples.specs.Square.{resolution, square_generators, square_setting}
use Rattle.above_examples.proofs.square_laws.square_resolution.Goals as goal

pub returns : goal.returns
returns c = record {
  itself = square_canonical;
  alone = λ maps h. canonical_unique square_setting plane_lawful square_generators generators_ranked maps resolution h square_canonical;
}
