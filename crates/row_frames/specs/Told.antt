-- Values that hang on the text of one property.
use Rattle.std.specs.Prelude.{ℕ, List, Option, map, option_and_then, slice_get, unwrap_or}
use Rattle.edm_values.specs.declared.Value.{Value}
use Rattle.edm_values.specs.Values.{seen_value}
use Rattle.apply_meaning.specs.Instances.{binary, call1, call2}
use Rattle.row_frames.specs.Blocks.{unary}
use Rattle.row_frames.specs.declared.told.Operation.{Operation}
use Rattle.row_frames.specs.declared.told.Operation.TheVariants as of
use Rattle.row_frames.specs.declared.told.TextValues.{TextValues}

-- the value at the number of the entity at a place, and another where there is none
abbrev pub at_number : List Value → Value → List ℕ → Option ℕ → Value
at_number vs null numbers at = unwrap_or (option_and_then (slice_get vs) (option_and_then (slice_get numbers) at)) null

-- the value for the text of the entity at a place
abbrev pub told_at : TextValues → Option ℕ → Value
told_at d at = at_number (map (λ v. seen_value v) d.values.items) (seen_value d.null) d.numbers.now at

-- what an operation makes of a value
abbrev pub operated : Operation → Value → Value
operated (of.Unary o) v = unary o v
operated (of.Binary o b) v = binary o v (seen_value b)
operated (of.BinaryOf o a) v = binary o (seen_value a) v
operated (of.Call1 f) v = call1 f v
operated (of.Call2 f b) v = call2 f v (seen_value b)
