-- A filter that goes among the nodes of a grouping by a rule, and a climb whose pipeline loses its last step by one, are put as what was there.
use Rattle.std.proofs.Common.{append-nil, ◌==◌, ◌≡◌, inl, inr, refl, sym, ◌∙◌, ap, Bool, true, false, not, ◌&&◌, ◌||◌, List, [], ◌∷◌, ◌++◌, Option, Some, None, if◌then◌else◌}
use Rattle.std.specs.Prelude.{option_and_then, option_map, unwrap_or}
use Rattle.std.specs.Bool.{then_some}
use Rattle.std.specs.List.{list_all, list_any}
use Rattle.std.proofs.Math.Bool.{and-true}
use Rattle.std.proofs.lemmas.Bool.{and_parts, or_cases}
use Rattle.edm_values.specs.Lists.{are_distinct, is_nonempty, is_some_and}
use Rattle.edm_values.specs.Literals.{is_boolean_kind}
use Rattle.edm_values.specs.Names.{Name, Path}
use Rattle.edm_values.proofs.EachLemmas.{and-left, and-right}
use Rattle.edm_values.proofs.OptionFacts.{and_5, chained, mapped, none_or, some_and}
use Rattle.edm_model.specs.LookUps.{HierarchyPlace}
use Rattle.edm_model.specs.Models.{Model}
use Rattle.apply_ast.specs.Trees.{Expr, Key, Keys, OptPipe, Step, pipe}
use Rattle.context_typing.specs.Paths.{same_path}
use Rattle.context_typing.specs.Shapes.{Shape, set_shape}
use Rattle.context_typing.specs.Typing.{Customs, after, group_keys, has_kind, hierarchy_at, inner_quiet, inner_shape, is_nodes, is_node_path, is_risky, is_sure, key_paths, key_typed, keys_typed, plain_paths, root_type, rollup_part, rollup_paths, step_shape, steps_shape}
use Rattle.rewrite_laws.specs.Rewrites.{ended_inner, ended_key, ended_keys, filter_nodes, drop_idle, all_but_last, is_idle, pipe_or_identity, node_shape, rollup_keys_in_every_row, grouping_quiet, is_among, on_node, over, paths}
use Rattle.rewrite_laws.proofs.EndedPipes.{ended_inner-shape}
use Rattle.rewrite_laws.proofs.ClimbRule.{drops-last}
use Rattle.rewrite_laws.proofs.GroupingRules.{apart-last}
use Rattle.rewrite_laws.proofs.NodeRule.{into-nodes, node_test, node_test-parts, nodes-shape}
use Rattle.context_typing.proofs.PathLemmas.{same_paths}
use Rattle.rewrite_laws.proofs.QuietLemmas.{bare}
use Rattle.walk_laws.specs.Walks.{All, Segment, chooses_nodes, front, put_steps, segment, settled_inner, settled_key, settled_keys, settled_step, shape_behind, put_step, without_idle, whole}
use Rattle.walk_laws.proofs.SameOnShapes.{after-climb}
use Rattle.walk_laws.proofs.WalkEntering.{entering-put}
use Rattle.walk_laws.proofs.WalkPassing.{PutsSame}
use Rattle.walk_laws.proofs.WalkInside.{inner-ended}
use Rattle.walk_laws.proofs.WalkPlaces.{behind-typed}

-- ---- among nodes

-- the test of a rule, with and without that the filter is sure
pub drop-sure : {X : Type 0} (n o s k q : Bool) (y : X) → (n && o && s && k && q) ≡ false → (if s then then_some (n && o && k && q) y else None) ≡ None
drop-sure n o false k q y h = refl
drop-sure false o true k q y h = refl
drop-sure true false true k q y h = refl
drop-sure true true true false q y h = refl
drop-sure true true true true false y h = refl
drop-sure true true true true true y h = cc

keep-sure : {X : Type 0} (n o s k q : Bool) (y : X) → (n && o && s && k && q) ≡ true → (if s then then_some (n && o && k && q) y else None) ≡ Some y
keep-sure false o s k q y h = cc
keep-sure true false s k q y h = cc
keep-sure true true false k q y h = cc
keep-sure true true true false q y h = cc
keep-sure true true true true false y h = cc
keep-sure true true true true true y h = refl

-- what is over the node's path alone is not over the plain keys
not-plain : (plain : List Path) (p : Path) → is_among plain p ≡ false → (ps : List Path) → is_nonempty ps ≡ true → list_all (is_among (p ∷ [])) ps ≡ true → list_all (is_among (plain ++ [])) ps ≡ false
not-plain plain p apart [] n a = cc
not-plain plain p apart (q ∷ qs) n a =
    let t = and_parts (is_among (p ∷ []) q) _ a in
    ap (λ z. z && list_all (is_among (plain ++ [])) qs) (ap (λ l. is_among l q) (append-nil plain) ∙ elim (or_cases (same_path q p) false t.0) [ inl e ↦ ap (is_among plain) (same_paths q p e) ∙ apart | inr e ↦ cc ])

module _ (m : Model) (c : Customs) where
  -- the nodes shown have the shape that they had
  node_shape-ended : (e : Expr) (N : Shape × Name) (ks : Keys) → node_shape m c ks ≡ Some N → has_kind is_boolean_kind m N.0 e ≡ true → node_shape m c (ended_keys (Step.Filter e) ks) ≡ Some N
  node_shape-ended e N Keys.NoKeys k h = none_or N k
  node_shape-ended e N (Keys.MoreKeys (Key.Plain p) ks) k h = node_shape-ended e N ks k h
  node_shape-ended e N (Keys.MoreKeys (Key.Rollup all ps) ks) k h = node_shape-ended e N ks k h
  node_shape-ended e N (Keys.MoreKeys (Key.Recursive g p U) ks) k h =
      let f = chained (λ f. option_map (λ N. (N, f.key.name)) (inner_shape m c (set_shape f.type) (set_shape f.type) U)) (hierarchy_at m g) N k in
      let x = mapped (λ N. (N, ((f.0).key).name)) (inner_shape m c (set_shape (f.0).type) (set_shape (f.0).type) U) N f.2 in
      let kind : has_kind is_boolean_kind m x.0 e ≡ true = ap (λ z. has_kind is_boolean_kind m z.0 e) x.2 ∙ h in
      ap (option_and_then (λ f. option_map (λ N. (N, f.key.name)) (inner_shape m c (set_shape f.type) (set_shape f.type) (ended_inner U (Step.Filter e))))) f.1
      ∙ ap (option_map (λ N. (N, ((f.0).key).name))) (ended_inner-shape m c (set_shape (f.0).type) x.0 U e x.1 kind)
      ∙ ap (λ z. Some z) x.2

  -- keys with a filter at the end of their pipelines
  keys-ended : (S : Shape) (e : Expr) (ks : Keys) (es : List Expr) → keys_typed m c S ks ≡ true → settled_keys All m c (ended_keys (Step.Filter e) ks) es ≡ settled_keys All m c ks (e ∷ es)
  unfolding put_steps steps_shape
  keys-ended S e Keys.NoKeys es h = refl
  keys-ended S e (Keys.MoreKeys k ks) es h = λ i. Keys.MoreKeys (one k (and-left (key_typed m c S k) (keys_typed m c S ks) h) i) (keys-ended S e ks es (and-right (key_typed m c S k) (keys_typed m c S ks) h) i)
    where
      give : OptPipe → List Expr → Option HierarchyPlace → OptPipe
      give T es o = elim o [ None ↦ T | Some f ↦ settled_inner All m c (set_shape f.type) T es ]

      one : (k : Key) → key_typed m c S k ≡ true → settled_key All m c (ended_key (Step.Filter e) k) es ≡ settled_key All m c k (e ∷ es)
      one (Key.Plain p) t = refl
      one (Key.Rollup all ps) t = refl
      one (Key.Recursive g p U) t =
          let f = some_and (λ f. is_some_and (λ N. is_some_and (λ t. t == f.type) (root_type N)) (inner_shape m c (set_shape f.type) (set_shape f.type) U)) (hierarchy_at m g) (and-right (is_node_path m S g p) _ t) in
          ap (λ o. Key.Recursive g p (give (ended_inner U (Step.Filter e)) es o)) f.1
          ∙ ap (Key.Recursive g p) (inner-ended All m c (set_shape (f.0).type) U e es)
          ∙ sym (ap (λ o. Key.Recursive g p (give U (e ∷ es) o)) f.1)

module _ (flat : Bool) (m : Model) (c : Customs) where
  pub chosen-put : PutsSame true flat All m c filter_nodes
  unfolding put_steps steps_shape
  chosen-put S before (Step.GroupBy ks T) ss ss' gs u e =
      let x = Step.GroupBy ks T in
      let S1 = chained (λ Z. steps_shape m c Z (pipe ss)) (step_shape m c S x) u.last u.typed in
      let at : after m c S x ≡ S1.0 = ap (λ o. unwrap_or o S) S1.1 in
      let D = into-nodes (bare m) c S S1.0 before ks T ss ss' S1.1 e in
      let name = ((D.place).key).name in
      let N : Shape × Name = (D.chosen, name) in
      let form : Expr → Expr = λ b. on_node name b in
      let into : Expr → Step = λ b. Step.GroupBy (ended_keys (Step.Filter (on_node name b)) ks) T in
      let K = λ (b : Expr). (D.key).keys_ended (Step.Filter (on_node name b)) in
      entering-put All m c S S1.0 x (node_test m c S ks T N) into form (record {
        put = λ gs. refl;
        put_into = λ b gs. refl;
        refuses = λ b t.
            (λ i. if D.one_nodes i && D.quiet i && is_sure m (sym at i) b then option_and_then (λ N. then_some (chooses_nodes m ks N b) (on_node N.1 b)) (D.shape_is i) else None)
            ∙ drop-sure (is_nonempty (paths b)) (over (rollup_paths (rollup_part (group_keys ks))) b) (is_sure m (after m c S x) b) (has_kind is_boolean_kind m D.chosen (on_node name b)) (is_sure m D.chosen (on_node name b)) (on_node name b) t;
        enters = λ b t h.
            (λ i. if D.one_nodes i && D.quiet i && is_sure m (sym at i) b then option_and_then (λ N. then_some (chooses_nodes m ks N b) (on_node N.1 b)) (D.shape_is i) else None)
            ∙ keep-sure (is_nonempty (paths b)) (over (rollup_paths (rollup_part (group_keys ks))) b) (is_sure m (after m c S x) b) (has_kind is_boolean_kind m D.chosen (on_node name b)) (is_sure m D.chosen (on_node name b)) (on_node name b) t;
        stays = λ b t.
            let p = node_test-parts m c S ks T N b t in
            let some : is_nonempty (paths b) ≡ true = (and_5 (is_nonempty (paths b)) _ _ _ _ t).0 in
            let over_path = ap (λ part. list_all (is_among (rollup_paths part)) (paths b)) (sym (D.key).part) ∙ p.0 in
            let apart = apart-last (plain_paths ks) (D.key).path (ap (λ part. are_distinct same_path (plain_paths ks ++ rollup_paths part)) (sym (D.key).part) ∙ (D.grouping).differ) in
            ap (λ part. list_all (is_among (plain_paths ks ++ rollup_keys_in_every_row part)) (paths b) && is_sure m S1.0 b) (D.key).part
            ∙ ap (λ z. z && is_sure m S1.0 b) (not-plain (plain_paths ks) (D.key).path apart (paths b) some over_path);
        made = λ b t h.
            let p = node_test-parts m c S ks T N b t in
            let sure : is_sure m S1.0 b ≡ true = ap (λ Z. is_sure m Z b) (sym at) ∙ p.1 in
            let lets = ap (λ G. not (list_any (is_risky S) (key_paths G)) && inner_quiet m c S T) (K b) ∙ sym (and-true (grouping_quiet m c S ks T)) ∙ ap (λ z. grouping_quiet m c S ks T && z) (sym sure) in
            let shown = node_shape-ended m c (on_node name b) N ks D.shape_is p.2 ∙ sym D.shape_is in (
              nodes-shape (bare m) c S S1.0 ks T D.grouping D.key D.place D.place_is D.chosen D.chosen_is b p.2,
              λ i. record {
                lets = lets i;
                passes = λ v. over ((K b i).plain ++ rollup_keys_in_every_row (rollup_part (K b i))) v.expr && v.sure;
                enters = λ v. if is_nodes (rollup_part (K b i)) && (not (list_any (is_risky S) (key_paths (K b i))) && inner_quiet m c S T) && v.sure
                    then option_and_then (λ N. then_some (is_nonempty (paths v.expr) && over (rollup_paths (rollup_part (K b i))) v.expr && has_kind is_boolean_kind m N.0 (on_node N.1 v.expr) && is_sure m N.0 (on_node N.1 v.expr)) (on_node N.1 v.expr)) (shown i) else None;
                head = λ es. Some (Step.GroupBy (keys-ended m c S (on_node name b) ks es (D.grouping).keys_ok i) (settled_inner All m c S T []));
                tests = [];
              },
            );
      }) ss ss' true gs u.last S1.1 u.typed (u.unsplit refl) D.taken
  chosen-put S before s ss ss' gs u e = none_or ss' e

-- ---- a climb's pipeline without its last step

module _ (m : Model) (c : Customs) where
  -- the last step is put behind the others
  pub put-last : (S : Shape) (ss : List Step) (x : Step) (gs : List Segment) → put_steps All m c S (pipe (ss ++ x ∷ [])) gs ≡ put_step All m c (shape_behind m c S (pipe ss)) x (settled_step All m c (shape_behind m c S (pipe ss)) x) (put_steps All m c S (pipe ss) gs)
  unfolding put_steps
  put-last S [] x gs = refl
  put-last S (s ∷ ss) x gs = put-last (after m c S s) ss x (put_step All m c S s (settled_step All m c S s) gs)

  -- an idle step is taken off again
  idle-off : (S : Shape) (p : Path) (x : Step) (gs : List Segment) → is_idle m S p x ≡ true → without_idle p (put_step All m c S x (settled_step All m c S x) gs) ≡ without_idle p gs
  unfolding put_steps
  idle-off S p (Step.OrderBy items) gs h = ap (λ z. if (z && true) || false then without_idle p gs else segment All m c S (Step.OrderBy items) (settled_step All m c S (Step.OrderBy items)) ∷ gs) h
  idle-off S p (Step.Compute ns) gs h = ap (λ z. if z then without_idle p gs else segment All m c S (Step.Compute ns) (settled_step All m c S (Step.Compute ns)) ∷ gs) h
  idle-off S p _ gs h = cc

  identity-or_steps : (S : Shape) (ss : List Step) (gs : List Segment) → put_steps All m c S (pipe_or_identity ss) gs ≡ put_steps All m c S (pipe ss) gs
  unfolding put_steps
  identity-or_steps S [] gs = refl
  identity-or_steps S (s ∷ ss) gs = refl

module _ (flat : Bool) (m : Model) (c : Customs) where
  pub idle-put : PutsSame false flat All m c drop_idle
  unfolding put_steps
  idle-put S before (Step.Climb up h p T d keep) ss ss' gs u e =
      let D = drops-last m c S u.last before up h p T d keep ss ss' u.typed e in
      let rest = all_but_last T in
      let climbs : List Segment → Segment = λ hs. record { lets = false; passes = λ t. false; enters = λ t. None; head = λ es. Some (Step.Climb up h p (whole hs) d keep); tests = [] } in
      let same : without_idle p (put_steps All m c S (pipe_or_identity rest) front) ≡ without_idle p (put_steps All m c S T front) =
      ap (without_idle p) (identity-or_steps m c S rest front)
      ∙ sym (ap (λ Z. without_idle p (put_step All m c Z D.last (settled_step All m c Z D.last) (put_steps All m c S (pipe rest) front))) (behind-typed m c S D.before_last (pipe rest) D.front) ∙ idle-off m c D.before_last p D.last (put_steps All m c S (pipe rest) front) D.idle)
      ∙ sym (ap (without_idle p) (put-last m c S rest D.last front))
      ∙ sym (ap (λ q. without_idle p (put_steps All m c S q front)) D.whole) in
      ap (λ l. put_steps All m c S (pipe l) gs) (sym D.made)
      ∙ ap (λ Z. put_steps All m c Z (pipe ss) (climbs (without_idle p (put_steps All m c S (pipe_or_identity rest) front)) ∷ gs)) (after-climb m c S up h p (pipe_or_identity rest) d keep)
      ∙ ap (λ hs. put_steps All m c S (pipe ss) (climbs hs ∷ gs)) same
      ∙ sym (ap (λ Z. put_steps All m c Z (pipe ss) (climbs (without_idle p (put_steps All m c S T front)) ∷ gs)) (after-climb m c S up h p T d keep))
  idle-put S before s ss ss' gs u e = none_or ss' e
