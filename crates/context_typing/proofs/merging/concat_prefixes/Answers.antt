use Rattle.std.proofs.Common.{◌≡◌, ◌∙◌, IfOk, Option, List, ap, subst, sym, map}
use Rattle.std.specs.Prelude.{option_and_then, option_map}
use Rattle.edm_values.specs.Lists.{all_some}
use Rattle.context_typing.specs.Merging.{joined_prefix}
use Rattle.context_typing.specs.Shapes.{PrefixShape}
use Rattle.context_typing.proofs.MergeFacts.{prefixes-from}
use Rattle.context_typing.proofs.merging.concat_prefixes.Goals as goal

pub returns-in-Some : goal.returns-in-Some
returns-in-Some c =
    let f = λ (t : List PrefixShape). all_some (map (joined_prefix c.args.shapes.now) t) in
    let P : Option (List PrefixShape) → Type 0 = λ r. IfOk c.joined_prefixes.result (λ o. option_map (λ v. v.items) o ≡ r) in
    subst P (ap f c.deref.ensures.value ∙ ap (option_and_then f) (ap (option_map (λ v. v.items)) (sym c.in-Some.is) ∙ c.in_ok-table.ensures) ∙ prefixes-from c.args.shapes.now) c.joined_prefixes.ensures

pub returns-in-None : goal.returns-in-None
returns-in-None c =
    let f = λ (t : List PrefixShape). all_some (map (joined_prefix c.args.shapes.now) t) in
    ap (option_and_then f) (ap (option_map (λ v. v.items)) (sym c.in-None.is) ∙ c.in_ok-table.ensures) ∙ prefixes-from c.args.shapes.now
