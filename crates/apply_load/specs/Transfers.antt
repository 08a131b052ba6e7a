-- Files that are read whole, or one byte past their limits.
use Rattle.std.specs.Prelude.{◌≡◌, ℕ, ◌+◌, ◌<◌, ◌≤◌, List, length, take, drop, Some}
use Rattle.std.specs.declared.option.Option.{Option}
use Rattle.apply_io.specs.Files.{Files, content}

-- these bytes stand in the named file at a place, and they are none only at its end; a folder that tells its files has it
pub record IsPart (told : Option Files) (name : List ℕ) (at : ℕ) (bytes : List ℕ) : Type 0 where
  pub part : (files : Files) → told ≡ Some files → (file : List ℕ) × (content files name ≡ Some file) × (bytes ≡ take (length bytes) (drop at file)) × (length bytes ≤ length (drop at file)) × (length bytes ≡ 0 → length file ≤ at)

-- these bytes are the front of the named file, which is there if they are any, where the folder tells its files
pub record IsFront (told : Option Files) (name : List ℕ) (bytes : List ℕ) : Type 0 where
  pub front : (files : Files) (file : List ℕ) → told ≡ Some files → content files name ≡ Some file → (bytes ≡ take (length bytes) file) × (length bytes ≤ length file)
  pub found : (files : Files) → told ≡ Some files → 0 < length bytes → (file : List ℕ) × (content files name ≡ Some file)

-- the named file is there, and these bytes are the file, or as much of it as the limit and one byte more, where the folder tells its files
pub record IsRead (limit : ℕ) (told : Option Files) (name : List ℕ) (bytes : List ℕ) : Type 0 where
  pub whole : (files : Files) → told ≡ Some files → (file : List ℕ) × (content files name ≡ Some file) × (bytes ≡ take (limit + 1) file)
