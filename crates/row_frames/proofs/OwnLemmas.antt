-- Paths that are properties of the entities at the empty prefix.
use Rattle.std.proofs.Common.{◌≡◌, ℕ, ◌<◌, sym, ◌∙◌, ap, subst, List, [], ◌∷◌, get_or, length, map, refl, Option, Some, None, arith}
use Rattle.std.specs.Prelude.{IfSome, option_map, unwrap_or}
use Rattle.std.specs.List.{All}
use Rattle.std.proofs.lemmas.List.Elements.{All-map}
use Rattle.std.proofs.lemmas.Option.{slice_get-get_or}
use Rattle.edm_values.specs.declared.Value.{Value}
use Rattle.edm_values.specs.Lists.{first_some}
use Rattle.edm_values.specs.Names.{Name, Path}
use Rattle.edm_model.specs.Models.{Part}
use Rattle.edm_data.specs.References.{property}
use Rattle.edm_data.specs.Worlds.{World, Entity, entity_at}
use Rattle.context_typing.specs.Paths.{at_path}
use Rattle.apply_meaning.specs.Instances.{Instance, named_value, prefix_value}
use Rattle.apply_meaning.specs.RowViews.{have_paths, with_root}
use Rattle.row_frames.specs.declared.tables.Pick.{Pick}
use Rattle.row_frames.specs.declared.tables.Table.{Table}
use Rattle.row_frames.specs.Frames.{all_picked, column_at, instance_at, picked, picked_in, place_in, prefix_at, root_at}
use Rattle.row_frames.specs.Own.{IsOwn}
use Rattle.row_frames.proofs.HopLemmas.{alone-behind}
use Rattle.row_frames.proofs.TableLemmas.{empty, root-of}

-- a list of one element
pub one-element : {X : Type 0} (xs : List X) (x : X) → length xs ≡ 1 → x ≡ get_or xs 0 x → xs ≡ x ∷ []
one-element [] x h e = absurd (omega (arith, h))
one-element (y ∷ []) x h e = ap (λ z. z ∷ []) (sym e)
one-element (y ∷ z ∷ xs) x h e = absurd (omega (arith, h))

-- a path of one name that no column has, in a table without other prefixes
pub own-at : (w : World) (set p : ℕ) (names : Path) (n : Name) (t : Table) → names ≡ n ∷ [] → length t.prefixes.items ≡ 0
    → ((k : ℕ) → option_map (λ c. c.1) (at_path (λ c. c.0) (map (column_at k) t.columns.items) names) ≡ None)
    → ((k : ℕ) → root_at t.roots k ≡ Some (entity_at set (place_in t.roots k)))
    → ((e : Entity) → e.set ≡ set → named_value w n e ≡ Some (property w e p))
    → (k : ℕ) → IsOwn w names set p (instance_at t k)
own-at w set p names n t one z free r h k =
    let i : Instance = instance_at t k in
    let e : Entity = entity_at set (place_in t.roots k) in
    let none = empty t.prefixes.items z in
    let own : i.prefixes ≡ ([], Some e) ∷ [] = λ j. with_root (r k j) (map (prefix_at k) (none j)) in
    record {
      at = place_in t.roots k;
      root = sym (root-of t k (ap (λ ps. have_paths (map (prefix_at k) ps)) none)) ∙ r k;
      value = ap (λ o. unwrap_or (first_some o (prefix_value w i names)) Value.Null) (free k)
          ∙ ap (λ q. unwrap_or (prefix_value w i q) Value.Null) one
          ∙ ap (λ o. unwrap_or o Value.Null) (alone-behind w i e n [] own ∙ h e refl);
    }

-- what holds of the rows of each table holds of each row that is picked
pub own-picked : (w : World) (p : Path) (s q : ℕ) (ts : List Table) → ((j : ℕ) (d : Table) → j < length ts → (k : ℕ) → IsOwn w p s q (instance_at (get_or ts j d) k)) → (d : Table) (x : Pick) → x.table < length ts → IsOwn w p s q (picked ts x)
own-picked w p s q ts h d x less =
    subst (IsOwn w p s q) (sym (ap (λ o. picked_in o x.row) (slice_get-get_or ts x.table d less))) (h x.table d less x.row)

-- and of all instances
pub own-frame : (w : World) (p : Path) (ts ts' : List Table) (xs : List Pick) (l : List Instance) (o : Option (ℕ × Part)) → ts' ≡ ts → all_picked ts xs ≡ l → All (λ x. x.table < length ts) xs
    → IfSome o (λ o. (x : Pick) → x.table < length ts' → IsOwn w p o.0 o.1.at (picked ts' x)) → IfSome o (λ o. All (IsOwn w p o.0 o.1.at) l)
own-frame w p ts ts' xs l None same e within h = tt
own-frame w p ts ts' xs l (Some o) same e within h =
    let all : (x : Pick) → x.table < length ts → IsOwn w p o.0 o.1.at (picked ts x) = subst (λ (us : List Table). (x : Pick) → x.table < length us → IsOwn w p o.0 o.1.at (picked us x)) same h in
    subst (All (IsOwn w p o.0 o.1.at)) e (All-map (IsOwn w p o.0 o.1.at) (picked ts) xs (λ k d less. all (get_or xs k d) (within k d less)))
