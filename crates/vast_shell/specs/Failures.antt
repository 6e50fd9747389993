-- What ends a run.
use Rattle.std.specs.Prelude.{ℕ, List, codes}
use Rattle.std.specs.declared.io.ErrorKind.{ErrorKind}
use Rattle.std.specs.declared.io.ErrorKind.TheVariants.{OutOfMemory}
use Rattle.vast_shell.specs.declared.failure.Failure.{Failure}
use Rattle.vast_shell.specs.declared.failure.Failure.TheVariants.{Memory, Read, Write, Lines}

-- the line that tells it
abbrev pub failure_line : Failure → List ℕ
failure_line Memory = codes "out of memory\n"
failure_line Read = codes "read fault\n"
failure_line Write = codes "write fault\n"
failure_line Lines = codes "too many lines\n"

-- what it is where a read fails by an error of this kind
abbrev pub read_failure : ErrorKind → Failure
read_failure OutOfMemory = Memory
read_failure _ = Read
