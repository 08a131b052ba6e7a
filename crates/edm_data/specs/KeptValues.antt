-- Values that are kept in a list of their kind.
use Rattle.std.specs.Prelude.{List, map}
use Rattle.edm_values.specs.declared.Value.{Value}
use Rattle.edm_data.specs.NumberedTexts.{numbered_values}
use Rattle.edm_data.specs.declared.values.Kept.{Kept}
use Rattle.edm_data.specs.declared.values.Kept.TheVariants.{Bools, Ints, Decs, Texts, Numbered, Days, Mixed}

-- the values of a list of their kind
abbrev pub values_kept : Kept → List Value
values_kept (Bools list) = map Value.Bool list.items
values_kept (Ints list) = map Value.Int list.items
values_kept (Decs list) = map Value.Dec list.items
values_kept (Texts list) = map Value.Text list
values_kept (Numbered list) = numbered_values list
values_kept (Days list) = map Value.Day list.items
values_kept (Mixed list) = list.items
