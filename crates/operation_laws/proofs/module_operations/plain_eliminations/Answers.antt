use Rattle.operation_laws.proofs.Running.{elimination_setting-none}
use Rattle.operation_laws.proofs.module_operations.plain_eliminations.Goals as goal

pub returns : goal.returns
returns c = elimination_setting-none
