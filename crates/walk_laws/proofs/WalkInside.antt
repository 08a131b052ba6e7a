-- What the rules by which a filter goes into a join, into the nodes of a grouping and into branches, and by which a climb's pipeline loses its last step, make at their place is put as what was there.
use Rattle.std.proofs.Common.{◌≡◌, refl, sym, ◌∙◌, ap, Bool, true, false, not, ◌&&◌, ◌||◌, List, [], ◌∷◌, Option, Some, None, length, map, drop}
use Rattle.std.specs.Prelude.{nat_lt}
use Rattle.std.specs.Bool.{then_some}
use Rattle.std.specs.List.{list_all, list_any}
use Rattle.std.proofs.lemmas.Bool.{and_parts}
use Rattle.edm_values.specs.Lists.{is_nonempty, is_some_and}
use Rattle.edm_values.specs.Literals.{is_boolean_kind}
use Rattle.edm_values.specs.Names.{Name, Path}
use Rattle.edm_values.proofs.OptionFacts.{chained, none_or, some_and}
use Rattle.edm_model.specs.Models.{Model, Navigation}
use Rattle.apply_ast.specs.Trees.{Expr, OptPipe, Pipe, Pipes, Step, pipe, steps}
use Rattle.context_typing.specs.Paths.{begins}
use Rattle.context_typing.specs.Shapes.{Shape, set_shape}
use Rattle.context_typing.specs.Typing.{Customs, has_kind, is_quiet, is_sure, step_shape, steps_shape}
use Rattle.context_typing.proofs.ShapeLemmas.{law-from}
use Rattle.context_typing.proofs.WalkFacts.{pipe-steps}
use Rattle.rewrite_laws.specs.Rewrites.{branches, concat, ended, ended_inner, filter_branches, filter_related, paths, with_paths}
use Rattle.rewrite_laws.proofs.AliasPaths.{related-longer}
use Rattle.rewrite_laws.proofs.EndedPipes.{ended-shape}
use Rattle.rewrite_laws.proofs.QuietInside.{related-quiet}
use Rattle.rewrite_laws.proofs.RelatedRule.{inside-shape, inside-sure, join-parts}
use Rattle.rewrite_laws.proofs.BranchRule.{all_ended, concat-ended, taken-shape}
use Rattle.rewrite_laws.proofs.QuietLemmas.{bare}
use Rattle.walk_laws.specs.Walks.{Rules, All, Test, front, put_filter, put_filters, put_steps, segment, settled_branches, settled_inner, settled_step, shape_behind, whole}
use Rattle.walk_laws.proofs.WalkEntering.{entering-put}
use Rattle.walk_laws.proofs.WalkPassing.{PutsSame}
use Rattle.walk_laws.proofs.WalkPlaces.{all-mapped}
use Rattle.walk_laws.proofs.WalkPuts.{filter-ended, shape-ended}
use Rattle.rewrite_laws.proofs.RuleLemmas.{after-filter}

-- ---- a filter at the end of a pipeline

module _ (w : Rules) (m : Model) (c : Customs) where
  -- it is put as one that goes there
  pub settled-ended : (S : Shape) (p : Pipe) (e : Expr) (es : List Expr)
      → put_filters m (shape_behind m c S (ended p (Step.Filter e))) es (put_steps w m c S (ended p (Step.Filter e)) front) ≡ put_filters m (shape_behind m c S p) (e ∷ es) (put_steps w m c S p front)
  settled-ended S p e es =
      (λ i. put_filters m (shape-ended w m c S (steps p) e i) es (filter-ended w m c S (steps p) e front i))
      ∙ (λ i. put_filters m (shape_behind m c S (pipe-steps p i)) (e ∷ es) (put_steps w m c S (pipe-steps p i) front))

  pub inner-ended : (S : Shape) (T : OptPipe) (e : Expr) (es : List Expr) → settled_inner w m c S (ended_inner T (Step.Filter e)) es ≡ settled_inner w m c S T (e ∷ es)
  unfolding put_steps
  inner-ended S OptPipe.NoPipe e es = λ i. OptPipe.SomePipe (whole (put_filters m (after-filter m c S e i) es (put_filter m S e front)))
  inner-ended S (OptPipe.SomePipe p) e es = ap (λ gs. OptPipe.SomePipe (whole gs)) (settled-ended S p e es)

-- ---- into a join

module _ (flat : Bool) (m : Model) (c : Customs) where
  pub related-put : PutsSame true flat All m c filter_related
  unfolding put_steps steps_shape is_quiet
  related-put S before (Step.Join false n a T) ss ss' gs u e =
      let x = Step.Join false n a T in
      let S1 = chained (λ Z. steps_shape m c Z (pipe ss)) (step_shape m c S x) u.last u.typed in
      let J = join-parts m c S S1.0 false n a T S1.1 in
      let L = law-from m S u.lawful in
      let test : Expr → Bool = λ b. is_nonempty (paths b) && list_all (begins a) (paths b) in
      let form : Expr → Expr = λ b. with_paths (drop 1) b in
      let into : Expr → Step = λ b. Step.Join false n a (ended_inner T (Step.Filter (with_paths (drop 1) b))) in
      let give : OptPipe → List Expr → Option Navigation → OptPipe = λ U es o. elim o [ None ↦ U | Some v ↦ settled_inner All m c (set_shape v.target) U es ] in
      entering-put All m c S S1.0 x test into form (record {
        put = λ gs. refl;
        put_into = λ b gs. refl;
        refuses = λ b t. ap (λ z. then_some (z && list_all (λ p. nat_lt 1 (length p)) (paths b)) (form b)) t;
        enters = λ b t h.
            let under = (and_parts (is_nonempty (paths b)) _ t).1 in
            let longer = related-longer m c S S1.0 false n a T J b under h in
            λ i. then_some (t i && longer i) (form b);
        stays = λ b t. ap (λ z. not z && is_sure m S1.0 b) (some-begins a (paths b) t);
        made = λ b t h.
            let under = (and_parts (is_nonempty (paths b)) _ t).1 in (
              inside-shape (bare m) c S S1.0 n a T L J b under h,
              λ i. record {
                lets = related-quiet (bare m) c S S1.0 n a T J b (inside-sure (bare m) c S S1.0 n a T L J b under) i;
                passes = (segment All m c S x (settled_step All m c S x)).passes;
                enters = (segment All m c S x (settled_step All m c S x)).enters;
                head = λ es. Some (Step.Join false n a ((ap (give (ended_inner T (Step.Filter (form b))) es) J.via_is ∙ inner-ended All m c (set_shape (J.via).target) T (form b) es ∙ sym (ap (give T (form b ∷ es)) J.via_is)) i));
                tests = [];
              },
            );
      }) ss ss' true gs u.last S1.1 u.typed (u.unsplit refl) e
    where
      some-begins : (a : Name) (ps : List Path) → (is_nonempty ps && list_all (begins a) ps) ≡ true → list_any (begins a) ps ≡ true
      some-begins a [] h = cc
      some-begins a (p ∷ ps) h = ap (λ z. z || list_any (begins a) ps) (and_parts (begins a p) _ h).0
  related-put S before s ss ss' gs u e = none_or ss' e

-- ---- into branches

module _ (flat : Bool) (w : Rules) (m : Model) (c : Customs) where
  branches-ended : (S : Shape) (b : Expr) (ps : Pipes) (es : List Expr) → settled_branches w m c S (all_ended b ps) es ≡ settled_branches w m c S ps (b ∷ es)
  unfolding put_steps
  branches-ended S b Pipes.NoPipes es = refl
  branches-ended S b (Pipes.MorePipes p ps) es = λ i. Pipes.MorePipes (whole (settled-ended w m c S p b es i)) (branches-ended S b ps es i)

  -- the filter leaves the shapes behind the branches
  ended-shapes : (S : Shape) (b : Expr) (ps : Pipes) → list_all (λ p. is_some_and (λ S'. has_kind is_boolean_kind m S' b) (steps_shape m c S p)) (branches ps) ≡ true
      → map (steps_shape m c S) (branches (all_ended b ps)) ≡ map (steps_shape m c S) (branches ps)
  ended-shapes S b Pipes.NoPipes h = refl
  ended-shapes S b (Pipes.MorePipes p ps) h =
      let t = and_parts (is_some_and (λ S'. has_kind is_boolean_kind m S' b) (steps_shape m c S p)) _ h in
      let Z = some_and (λ S'. has_kind is_boolean_kind m S' b) (steps_shape m c S p) t.0 in
      λ i. (ended-shape m c S Z.0 p b Z.1 Z.2 ∙ sym Z.1) i ∷ ended-shapes S b ps t.1 i

  -- a filter is typed on a branch
  abbrev on_branch : Test → Option Shape → Bool
  on_branch t o = is_some_and (λ S'. has_kind is_boolean_kind m S' t.expr) o

  pub branches-put : PutsSame true flat w m c filter_branches
  unfolding put_steps steps_shape
  branches-put S before (Step.Concat ps) ss ss' gs u e =
      let x = Step.Concat ps in
      let S1 = chained (λ Z. steps_shape m c Z (pipe ss)) (step_shape m c S x) u.last u.typed in
      let test : Expr → Bool = λ b. list_all (λ p. is_some_and (λ S'. has_kind is_boolean_kind m S' b) (steps_shape m c S p)) (branches ps) in
      let into : Expr → Step = λ b. concat (map (λ p. ended p (Step.Filter b)) (branches ps)) in
      entering-put w m c S S1.0 x test into (λ b. b) (record {
        put = λ gs. refl;
        put_into = λ b gs. refl;
        refuses = λ b t. ap (λ z. then_some z b) t;
        enters = λ b t h. ap (λ z. then_some z b) t;
        stays = λ b t. refl;
        made = λ b t h. (
          taken-shape m c S S1.0 b ps S1.1 t,
          ap (λ qs. segment w m c S (Step.Concat qs) (settled_step w m c S (Step.Concat qs))) (concat-ended b ps)
              ∙ (λ i. record {
                lets = false;
                passes = λ t. false;
                enters = λ v. then_some ((all-mapped (on_branch v) (steps_shape m c S) (branches (all_ended b ps)) ∙ ap (list_all (on_branch v)) (ended-shapes S b ps t) ∙ sym (all-mapped (on_branch v) (steps_shape m c S) (branches ps))) i) v.expr;
                head = λ es. Some (Step.Concat (branches-ended S b ps es i));
                tests = [];
              }),
        );
      }) ss ss' true gs u.last S1.1 u.typed (u.unsplit refl) e
  branches-put S before s ss ss' gs u e = none_or ss' e
