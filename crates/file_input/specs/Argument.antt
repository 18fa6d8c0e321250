-- The file of the definitions below that an argument's file stands for: that of its descriptor.
use Rattle.std.specs.Prelude.{ℤ, Option, Some, None}
use Rattle.std.specs.Fd.{file_raw_fd}
use Rattle.std.specs.declared.fs.File.{File}

unfoldable pub argument_file : Option File → Option ℤ
argument_file (Some opened) = Some (file_raw_fd opened)
argument_file None = None
