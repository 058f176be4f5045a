use Rattle.std.proofs.Common.{[], ◌++◌}
use Rattle.map_laws.proofs.Images.{found_law, graph_run, image_law, kernel_members, one_law}
use Rattle.map_laws.proofs.KernelBasis.{second_free, second_reduced}
use Rattle.map_laws.specs.Graphs.{graph_list}
use Rattle.map_laws.proofs.graph_laws.expressions.Goals as goal

pub returns : goal.returns
returns c = record {
  image = λ n m S ws F G g w two lawful rank size f r b rest kept. image_law S ws F lawful rank two f G b g w rest.member kept;
  found = λ n m S ws F G g v w two lawful rank size f r b rest v_rank e. found_law S ws F lawful rank two f G b g v w rest v_rank e;
  kernel = λ n m S vs F G two lawful rank order weights size f b. second_reduced S vs lawful two order weights (graph_list S.modulus m F []) G (graph_run S (vs ++ vs) F lawful rank two f [] G tt b);
  members = λ n m S ws F G v two lawful rank size f b. kernel_members S ws F lawful rank two f G b v;
  free = λ n m S vs F G g w two lawful rank order weights size f b rest kept. second_free S vs lawful two order weights (graph_list S.modulus m F []) G (graph_run S (vs ++ vs) F lawful rank two f [] G tt b) w rest.free kept;
  one = λ n S F K u v lawful rank basis all ru rv fu fv e. one_law S F K u v lawful basis all ru rv fu fv e;
}
