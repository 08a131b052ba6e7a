-- What a group becomes has no column of a key.
use Rattle.std.proofs.Common.{◌≡◌, refl, sym, ◌∙◌, ap, Bool, true, false, List, [], ◌∷◌, map}
use Rattle.std.specs.Prelude.{not}
use Rattle.std.specs.List.{list_all, list_any}
use Rattle.std.proofs.lemmas.Bool.{and_parts, and_from, not-true, or_parts, or_from, not_from_false}
use Rattle.std.proofs.lemmas.List.{map-append}
use Rattle.edm_values.proofs.ListFacts.{all-map}
use Rattle.edm_values.proofs.OptionFacts.{some_and}
use Rattle.edm_values.proofs.SearchFacts.{found-all}
use Rattle.edm_values.specs.declared.Value.{Value}
use Rattle.edm_values.specs.Lists.{are_distinct, is_some_and}
use Rattle.edm_values.specs.Names.{Path}
use Rattle.edm_data.specs.Worlds.{World}
use Rattle.context_typing.proofs.PathLemmas.{entry-path}
use Rattle.context_typing.proofs.TableLemmas.{different-append}
use Rattle.context_typing.specs.Paths.{same_path}
use Rattle.context_typing.specs.Shapes.{ColumnShape, Shape}
use Rattle.context_typing.specs.Typing.{column_at}
use Rattle.apply_meaning.specs.Instances.{Instance, column_fits, extended}
use Rattle.apply_meaning.specs.Meaning.{keyed}
use Rattle.apply_meaning.specs.RowViews.{columns_differ}
use Rattle.apply_meaning.proofs.FitLemmas.{Fit}

keyed-none : (q : Path → Bool) (ps : List Path) (vs : List Value) → list_any q ps ≡ false → list_any q (map (λ c. c.0) (keyed ps vs)) ≡ false
keyed-none q [] vs h = refl
keyed-none q (p ∷ ps) [] h = refl
keyed-none q (p ∷ ps) (v ∷ vs) h = let t = or_parts (q p) _ h in or_from _ _ t.0 (keyed-none q ps vs t.1)

-- the columns of keys with different paths differ
pub keyed-differ : (ps : List Path) (vs : List Value) → are_distinct same_path ps ≡ true → columns_differ (keyed ps vs) ≡ true
keyed-differ [] vs h = refl
keyed-differ (p ∷ ps) [] h = refl
keyed-differ (p ∷ ps) (v ∷ vs) h =
    let q = and_parts (not (list_any (same_path p) ps)) _ h in
    and_from _ _ (not_from_false _ (keyed-none (same_path p) ps vs (not-true _ q.0))) (keyed-differ ps vs q.1)

columns-apart : (ps : List Path) (cs : List ColumnShape) → list_all (λ p. not (list_any (same_path p) ps)) (map (λ c. c.path) cs) ≡ true → list_all (λ x. not (list_any (same_path x.path) ps)) cs ≡ true
columns-apart ps [] h = refl
columns-apart ps (x ∷ cs) h = let t = and_parts (not (list_any (same_path x.path) ps)) _ h in and_from _ _ t.0 (columns-apart ps cs t.1)

-- the columns of an instance that fits a shape without these paths are apart from them
keyed-apart : (w : World) (G : Shape) (x : Instance) (ps : List Path) (vs : List Value) → Fit w G x → list_all (λ p. not (list_any (same_path p) ps)) (map (λ c. c.path) G.columns) ≡ true
    → list_all (λ p. not (list_any (same_path p) (map (λ c. c.0) (keyed ps vs)))) (map (λ c. c.0) x.columns) ≡ true
keyed-apart w G x ps vs F apart = all-map (λ c. is_some_and (column_fits w x c) (column_at G c.0)) (λ p. not (list_any (same_path p) (map (λ c. c.0) (keyed ps vs)))) (λ c. c.0) x.columns F.columns_fit (λ c h.
    let k = some_and (column_fits w x c) (column_at G c.0) h in
    let path = entry-path (λ c. c.path) G.columns c.0 k.0 k.1 in
    let no = found-all (λ z. same_path z.path c.0) (λ z. not (list_any (same_path z.path) ps)) G.columns k.0 k.1 (columns-apart ps G.columns apart) in
    not_from_false _ (keyed-none (same_path c.0) ps vs (ap (λ z. list_any (same_path z) ps) (sym path) ∙ not-true _ no)))

-- an instance that fits a shape without these paths may have the columns of keys by them
pub keyed-columns : (w : World) (G : Shape) (x : Instance) (ps : List Path) (vs : List Value) → Fit w G x → are_distinct same_path ps ≡ true
    → list_all (λ p. not (list_any (same_path p) ps)) (map (λ c. c.path) G.columns) ≡ true → columns_differ (extended x (keyed ps vs)).columns ≡ true
keyed-columns w G x ps vs F distinct apart =
    ap (are_distinct same_path) (map-append (λ c. c.0) x.columns (keyed ps vs))
    ∙ different-append (map (λ c. c.0) x.columns) (map (λ c. c.0) (keyed ps vs)) F.columns_differ (keyed-differ ps vs distinct) (keyed-apart w G x ps vs F apart)
