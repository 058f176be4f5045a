-- What an error is.
use Rattle.std.proofs.Common.{◌≡◌, ℕ, Result, Err}
use Rattle.session_top.specs.declared.early.Early.{Early}
use Rattle.session_top.specs.declared.early.Early.TheVariants as early

pub same_error : (a b : Early) → ◌≡◌ {A = Result Unit Early} (Err a) (Err b) → a ≡ b
same_error a b e = cc

-- want of memory is no failed write, and no failed read
pub no_write_of_memory : (n : ℕ) → ◌≡◌ {A = Result Unit Early} (Err (early.NoMemory n)) (Err early.WriteFault) → ⊥
no_write_of_memory n e = cc

pub no_read_of_memory : (n : ℕ) → ◌≡◌ {A = Result Unit Early} (Err (early.NoMemory n)) (Err early.ReadFault) → ⊥
no_read_of_memory n e = cc
