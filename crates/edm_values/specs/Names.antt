-- Simple identifiers (CSDL JSON 4.01, section 15.2), as this profile has them.
use Rattle.std.specs.Prelude.{ℕ, ◌==◌, ◌&&◌, ◌||◌, Bool, not, List, [], ◌∷◌, length, slice_index, nat_le, codes}
use Rattle.std.specs.List.{list_all}
use Rattle.std.specs.Char.{is_ascii_alphabetic, is_ascii_alphanumeric}
use Rattle.edm_values.specs.Lists.{is_one_of}

-- a name, as its bytes
abbrev pub Name : Type 0
Name = List ℕ

-- a path of names; the empty one is the place of an instance's own entity
abbrev pub Path : Type 0
Path = List Name

-- the words of expressions and pipelines, which are no names
abbrev pub reserved_words : List (List ℕ)
reserved_words = codes "and" ∷ codes "or" ∷ codes "not" ∷ codes "eq" ∷ codes "ne" ∷ codes "gt" ∷ codes "ge" ∷ codes "lt" ∷ codes "le" ∷ codes "add" ∷ codes "sub" ∷ codes "mul" ∷ codes "null" ∷ codes "true" ∷ codes "false" ∷ codes "as" ∷ codes "with" ∷ codes "asc" ∷ codes "desc" ∷ []

-- the text is one of these words
abbrev pub is_reserved : List ℕ → Bool
is_reserved t = is_one_of reserved_words t

-- a letter or `_`
abbrev pub begins_name : ℕ → Bool
begins_name b = is_ascii_alphabetic b || b == 95

-- a letter, a digit or `_`
abbrev pub goes_on_name : ℕ → Bool
goes_on_name b = is_ascii_alphanumeric b || b == 95

-- a letter or `_`, then letters, digits or `_`, at most 128 bytes, and no reserved word
abbrev pub is_name : List ℕ → Bool
is_name t = begins_name (slice_index t 0) && list_all goes_on_name t && nat_le (length t) 128 && not (is_reserved t)
