use Rattle.script_tokens.proofs.Cuts as cuts
use Rattle.script_tokens.proofs.Texts.{have_texts}
use Rattle.script_tokens.proofs.one_cut.Goals as goal

pub returns : goal.returns
returns c = record { some = cuts.some_cut; tokens = cuts.one_cut; stray = cuts.one_stop; apart = cuts.cut_or_stop; texts = have_texts }
