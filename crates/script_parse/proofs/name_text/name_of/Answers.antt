use Rattle.std.specs.Prelude.{string_bytes}
use Rattle.script_parse.proofs.Texts.{own_name}
use Rattle.script_parse.proofs.name_text.name_of.Goals as goal

pub returns : goal.returns
returns c = own_name (λ name. string_bytes name) c.text.result.now c.args.line.now c.args.token c.from_utf8_lossy.result c.text.ensures c.requires c.from_utf8_lossy.ensures.lossy
