-- The instances that answers keep.
use Rattle.std.proofs.Common.{◌≡◌, Bool, true, false, List, [], ◌∷◌, Option, Some, None, ap, refl, map, length, ◌∙◌}
use Rattle.std.specs.Prelude.{filter, option_map, cond, not, ◌||◌}
use Rattle.std.specs.Bool.{then_some}
use Rattle.std.specs.List.{list_any}
use Rattle.std.proofs.lemmas.List.{length-map}
use Rattle.edm_values.specs.declared.Value.{Value}
use Rattle.edm_values.specs.Values.{is_beyond, is_value}
use Rattle.apply_meaning.specs.Instances.{Instance}
use Rattle.apply_meaning.specs.Meaning.{refused_at_beyond}
use Rattle.row_frames.specs.Answers.{answer_of}
use Rattle.row_values.specs.Answers.{kept_by}

-- the answers of values keep the instances on which these are true
pub kept-filtered : (value : Instance → Value) (l : List Instance) → kept_by (map (λ i. answer_of (value i)) l) l ≡ refused_at_beyond (map value l) (filter (λ i. is_value true (value i)) l)
kept-filtered value [] = refl
kept-filtered value (i ∷ l) = go (is_beyond (value i)) (is_value true (value i)) (list_any is_beyond (map value l)) (kept-filtered value l)
  where
    rest : List (Option Bool)
    rest = map (λ i. answer_of (value i)) l

    go : (b t others : Bool) → kept_by rest l ≡ then_some (not others) (filter (λ i. is_value true (value i)) l)
        → kept_by ((cond b None (Some t)) ∷ rest) (i ∷ l) ≡ then_some (not (b || others)) (cond t (i ∷ filter (λ i. is_value true (value i)) l) (filter (λ i. is_value true (value i)) l))
    go true t others e = refl
    go false true true e = ap (option_map (λ k. i ∷ k)) e
    go false true false e = ap (option_map (λ k. i ∷ k)) e
    go false false others e = e

-- the same where answers and rows stand for others
pub kept-answered : (value : Instance → Value) (l rows : List Instance) (found answers : List (Option Bool)) → rows ≡ l → found ≡ map (λ i. answer_of (value i)) rows → answers ≡ found
    → (length answers ≡ length l) × (kept_by answers l ≡ refused_at_beyond (map value l) (filter (λ i. is_value true (value i)) l))
kept-answered value l rows found answers e f h =
    let told = h ∙ f ∙ ap (map (λ i. answer_of (value i))) e in
    (ap length told ∙ length-map l (λ i. answer_of (value i)), ap (λ bs. kept_by bs l) told ∙ kept-filtered value l)
