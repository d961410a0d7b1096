-- The status with which the program ends.
use Rattle.std.specs.Prelude.{ℕ}
use Rattle.script_runner.specs.declared.status.Status.{Status}
use Rattle.script_runner.specs.declared.status.Status.TheVariants.{Done, Usage, BadDocument, ReadFault, WriteFault, OutOfMemory, Down, BadStore}

abbrev pub code_of : Status → ℕ
code_of Done = 0
code_of Usage = 1
code_of (BadDocument line) = 2
code_of ReadFault = 3
code_of (WriteFault done) = 4
code_of (OutOfMemory done) = 5
code_of (Down len) = 6
code_of (BadStore area at) = 7
