use Rattle.std.proofs.Common.{refl}
use Rattle.apply_ast.specs.Views.{expr_of}
use Rattle.edm_values.proofs.ListFacts.{all-any}
use Rattle.rewrite_forms.specs.PathChanges.{is_left}
use Rattle.rewrite_forms.specs.declared.path_copies.Change.TheVariants as change
use Rattle.rewrite_laws.specs.Rewrites.{paths}
use Rattle.rewrite_forms.proofs.path_copies.on_node.Goals as goal

pub with_paths-requires : goal.with_paths-requires
with_paths-requires c = all-any (is_left (change.Alone c.args.key)) (paths (expr_of c.args.e.now)) (λ p. refl)
