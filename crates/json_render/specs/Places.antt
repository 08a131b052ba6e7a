-- The parts of rows and of shapes as they are seen from a place on their paths.
use Rattle.std.specs.Prelude.{ℕ, zero, suc, if◌then◌else◌, Bool, true, false, not, List, [], ◌∷◌, map, filter, filter_map, Option, Some, None}
use Rattle.edm_values.specs.Lists.{same_text, sorted, text_before}
use Rattle.edm_values.specs.Names.{Name, Path}
use Rattle.json_render.specs.Bodies.{is_here}
use Rattle.json_render.specs.declared.entries.Part.{Part}
use Rattle.json_render.specs.declared.entries.Entry.{Entry}

-- a part of a row or shape: the next name of its path, and the names behind that one
pub record NamedPart : Type 0 where
  pub name : Name
  pub rest : Path
  pub part : Part

-- an entry of the program
abbrev pub seen : Entry → NamedPart
seen e = record { name = e.name.now; rest = e.rest.now; part = e.part }

-- entries of the program
abbrev pub named_parts : List Entry → List NamedPart
named_parts es = map seen es

-- a prefix or a column with this path, if it goes on
abbrev pub part_on : Part → Path → Option NamedPart
part_on (Part.Property k p) rest = None
part_on (Part.Prefix k) [] = None
part_on (Part.Prefix k) (n ∷ rest) = Some (record { name = n; rest = rest; part = Part.Prefix k })
part_on (Part.Column k kind) [] = None
part_on (Part.Column k kind) (n ∷ rest) = Some (record { name = n; rest = rest; part = Part.Column k kind })

-- the part seen from behind the name, if its path goes on
abbrev pub next_part : NamedPart → Option NamedPart
next_part e = part_on e.part e.rest

-- the parts seen from behind the name
abbrev pub next_parts : List NamedPart → List NamedPart
next_parts es = filter_map next_part es

-- the path ends with the name
abbrev pub is_ended : NamedPart → Bool
is_ended e = is_here e.rest

-- the part is a column
abbrev pub is_column_part : Part → Bool
is_column_part (Part.Prefix k) = false
is_column_part (Part.Column k kind) = true
is_column_part (Part.Property k p) = false

-- it is a column
abbrev pub is_column : NamedPart → Bool
is_column e = is_column_part e.part

-- a part with this path behind the name belongs to the segment of the name
abbrev pub part_inside : Part → Path → Bool
part_inside (Part.Prefix k) rest = true
part_inside (Part.Column k kind) rest = not (is_here rest)
part_inside (Part.Property k p) rest = false

-- it belongs to the segment of the name: a prefix, or a column further on
abbrev pub goes_inside : NamedPart → Bool
goes_inside e = part_inside e.part e.rest

-- those that belong to the segment of the name
abbrev pub inside_of : List NamedPart → List NamedPart
inside_of es = filter goes_inside es

-- one stands before the other by byte order of names
abbrev pub name_before : NamedPart → NamedPart → Bool
name_before a b = text_before a.name b.name

-- the parts in byte order of names
abbrev pub sorted_parts : List NamedPart → List NamedPart
sorted_parts es = sorted name_before es

-- how many from the front have this name
abbrev pub run_of : Name → List NamedPart → ℕ
run_of n [] = zero
run_of n (e ∷ es) = if same_text e.name n then suc (run_of n es) else zero

-- how many from the front have the name of the first
abbrev pub first_run : List NamedPart → ℕ
first_run [] = zero
first_run (e ∷ es) = suc (run_of e.name es)
