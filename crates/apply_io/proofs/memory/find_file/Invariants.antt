use Rattle.std.proofs.Common.{◌≡◌, drop}
use Rattle.apply_io.specs.Files.{content, files_of}
use Rattle.apply_io.proofs.memory.find_file.Given as goal

-- what is left of the list has the same file
abbrev pub invariant-loop-file : goal.invariant-loop-file
invariant-loop-file l =
    content (files_of (drop l.file-index l.files)) l.name ≡ content (files_of l.files) l.name
