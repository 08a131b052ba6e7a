use Rattle.std.proofs.Common.{subst, sym}
use Rattle.apply_grammar.specs.Gives.{Gives}
use Rattle.apply_grammar.proofs.ExprWhole.{path_gives, path_text_read}
use Rattle.apply_grammar.proofs.paths.read_path.Goals as goal

pub returns-clause-found : goal.returns-clause-found
returns-clause-found c = path_gives c.args.text.now c.whole_path.result (rw (sym c.as_bytes.ensures.value) c.whole_path.ensures)

pub returns-clause-only : goal.returns-clause-only
returns-clause-only c = λ p h. subst (λ f. Gives (λ q. q) c.whole_path.result f) (path_text_read c.args.text.now p h) (rw (sym c.as_bytes.ensures.value) c.whole_path.ensures)
