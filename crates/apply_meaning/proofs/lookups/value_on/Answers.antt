use Rattle.std.proofs.Common.{◌≡◌, ◌∙◌, ◌++◌, ◌∷◌, [], ap, sym, Option, Some, None}
use Rattle.std.specs.Prelude.{option_and_then, unwrap_or}
use Rattle.edm_values.specs.declared.Value.{Value}
use Rattle.edm_values.specs.Names.{Name, Path}
use Rattle.edm_data.specs.Worlds.{World, Entity}
use Rattle.apply_meaning.specs.Instances.{named_value, value_behind, value_on}
use Rattle.apply_meaning.proofs.lookups.value_on.Goals as goal

-- what the last name of a path leads to from where the others led
last-of : (w : World) (e : Entity) (names front : Path) (last : Name) (o : Option Entity) → names ≡ front ++ last ∷ [] → value_behind w (front ++ last ∷ []) e ≡ option_and_then (named_value w last) o → unwrap_or (option_and_then (named_value w last) o) Value.Null ≡ value_on w e names
last-of w e names front last o h k = ap (λ v. unwrap_or v Value.Null) (sym k) ∙ ap (value_on w e) (sym h)

pub returns-in-Some-entity_behind : goal.returns-in-Some-entity_behind
returns-in-Some-entity_behind c =
    c.named_value.ensures
    ∙ last-of c.args.store.now c.args.e c.args.names.now c.in-Some.front.now c.in-Some.last.now (Some c.in-Some-entity_behind.at) c.in-Some.ensures.cases.0 (c.in-Some-entity_behind.ensures.value c.in-Some.last.now)

pub returns-in-None : goal.returns-in-None
returns-in-None c = last-of c.args.store.now c.args.e c.args.names.now c.in-Some.front.now c.in-Some.last.now None c.in-Some.ensures.cases.0 (c.in-None.ensures.value c.in-Some.last.now)
