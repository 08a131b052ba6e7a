use Rattle.std.proofs.Common.{◌∙◌, rules}
use Rattle.std.specs.Cmp.Lexicographic.{slice_cmp}
use Rattle.std.specs.Ordering.{nat_cmp}
use Rattle.std.proofs.lemmas.Fn.{always_returns_same}
use Rattle.edm_schema.proofs.NameSearch.{searched}
use Rattle.edm_schema.proofs.named.find_named.Goals as goal

pub returns-clause-value : goal.returns-clause-value
returns-clause-value g c =
    let name = g.T.Named.name_of in
    c.ok.ensures.value ∙ searched name c.args.items.now c.requires c.args.name.now c.binary_search_by.result c.binary_search_by.ensures.bound (c.binary_search_by.ensures.position (λ y. slice_cmp nat_cmp (name y) c.args.name.now) (always_returns_same _ _ _ (λ a r f' k. search rules)))
