use Rattle.map_laws.proofs.Images.{preimage_law}
use Rattle.map_laws.proofs.graph_laws.preimages.Goals as goal

pub returns : goal.returns
returns c = λ n m S ws F L R G v two lawful rank size f l. preimage_law S ws F lawful rank two f L R G v l
