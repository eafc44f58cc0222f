use Rattle.std.proofs.Common.{◌≡◌, drop}
use Rattle.outside.specs.Shelf.{bytes_of}
use Rattle.outside.specs.Kept.{files_of}
use Rattle.outside.proofs.memory_shelf.first_named.Given as goal

-- No file before this one has the name.
abbrev pub invariant-loop-file : goal.invariant-loop-file
invariant-loop-file l = bytes_of (files_of (drop l.file-index l.files)) l.name ≡ bytes_of (files_of l.files) l.name
