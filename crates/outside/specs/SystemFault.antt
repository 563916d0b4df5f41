-- What an error of the system means for a read of a file (our choice).
use Rattle.std.specs.declared.io.ErrorKind.{ErrorKind}
use Rattle.std.specs.declared.io.ErrorKind.TheVariants.{OutOfMemory}
use Rattle.outside.specs.declared.files.FileFault.{FileFault}
use Rattle.outside.specs.declared.files.FileFault.TheVariants.{Failed, Memory}

-- out of memory where the system says so, and a failed read everywhere else
abbrev pub fault_of : ErrorKind → FileFault
fault_of OutOfMemory = Memory
fault_of kind = Failed
