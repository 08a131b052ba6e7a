-- What a folder tells of its files.
use Rattle.std.specs.Prelude.{◌≡◌, ℕ, ◌<◌, ◌≤◌, List, [], ◌∷◌, length, take, drop, Result, IfOk, None, Some, if◌then◌else◌, ⊤, option_and_then, map, string_bytes, String, Vec}
use Rattle.std.specs.Str.{bytes_eq}
use Rattle.std.specs.declared.option.Option.{Option}
use Rattle.std.specs.declared.alloc.Global.{Global}

-- names and contents of files; the first of a name counts
abbrev pub Files : Type 0
Files = List (List ℕ × List ℕ)

-- the content of the file of this name, where there is one
abbrev pub content : Files → List ℕ → Option (List ℕ)
content [] name = None
content (f ∷ files) name = if bytes_eq f.0 name then Some f.1 else content files name

-- the content of the named file, where the folder tells its files and has it
abbrev pub told_content : Option Files → List ℕ → Option (List ℕ)
told_content told name = option_and_then (λ files. content files name) told

-- files that are told stay as they were, and go on being told
abbrev pub KeepsFiles : Option Files → Option Files → Type 0
KeepsFiles None new = ⊤
KeepsFiles (Some files) new = new ≡ Some files

-- `Ok(n)` gave the n bytes of the file from a place on, and with room none only at its end; a missing file is not read
abbrev pub GivesFrom : Option (List ℕ) → ℕ → ℕ → List ℕ → Type 0
GivesFrom None at n buf = length buf ≡ 0
GivesFrom (Some bytes) at n buf = (take n buf ≡ take n (drop at bytes)) × (n ≤ length (drop at bytes)) × (n ≡ 0 → 0 < length buf → length bytes ≤ at)

-- the same of the named file, where the folder tells its files
pub record GivesBytes (told : Option Files) (name : List ℕ) (at n : ℕ) (buf : List ℕ) : Type 0 where
  pub bytes : (files : Files) → told ≡ Some files → GivesFrom (content files name) at n buf

-- a read of the named file gave its bytes from a place on
abbrev pub ReadsFile : {E : Type 0} → Option Files → List ℕ → ℕ → Result ℕ E → List ℕ → Type 0
ReadsFile told name at result buf = IfOk result (λ n. GivesBytes told name at n buf)

-- the files of a list of names and contents
abbrev pub files_of : List (String Global × Vec ℕ Global) → Files
files_of xs = map (λ f. (string_bytes f.0, f.1.items)) xs
