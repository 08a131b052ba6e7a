-- An entity type with a fault in its navigations or terms.
use Rattle.std.proofs.Common.{◌≡◌, true, sym, ◌∙◌, ap, arith}
use Rattle.std.proofs.lemmas.Bool.{and_from}
use Rattle.edm_schema.specs.ModelTrees.{type_tree}
use Rattle.edm_schema.specs.MemberLists.{root_of}
use Rattle.edm_schema.proofs.Counted.{all_places_more}
use Rattle.edm_schema.proofs.SchemaParts.{tree_at}
use Rattle.model_diagnosis.specs.Searched.{has_sound_links}
use Rattle.model_diagnosis.proofs.Found.{type_fault}
use Rattle.model_diagnosis.proofs.search.links_fault.Goals as goal

pub returns-in-Some-clause-found : goal.returns-in-Some-clause-found
returns-in-Some-clause-found c =
    type_fault c.args.schema.now c.requires c.loop-k.k c.index-t.result.now c.in-Some.fault c.index-t.ensures (omega (arith, c.len-k-end.ensures)) c.in-Some.ensures.found

pub loop-k-preserved : goal.loop-k-preserved
loop-k-preserved c =
    let d = root_of c.args.schema.now in
    let is = tree_at c.args.schema.now c.requires c.loop-k.k c.index-t.result.now c.index-t.ensures (omega (arith, c.len-k-end.ensures)) in
    let here : has_sound_links d c.loop-k.k (type_tree d c.loop-k.k) ≡ true = ap (has_sound_links d c.loop-k.k) (sym is) ∙ c.in_default.ensures.none in
    all_places_more (λ k. has_sound_links d k (type_tree d k)) c.loop-k.k ∙ and_from _ _ c.loop-k.invariant here
