use Rattle.std.proofs.Common.{◌∙◌, ap, map}
use Rattle.apply_ast.specs.Views.{key_of, keys_from}
use Rattle.apply_ast.proofs.ViewEquations.{keys_of-is}
use Rattle.rewrite_places.proofs.trees.key_list.Goals as goal

pub returns : goal.returns
returns c = keys_of-is c.new.result ∙ ap (λ l. keys_from (map key_of l)) c.new.ensures.value
