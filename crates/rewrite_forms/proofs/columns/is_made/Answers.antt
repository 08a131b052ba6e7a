use Rattle.std.proofs.Common.{sym, ◌∙◌, ap, length, get_or, map}
use Rattle.apply_ast.specs.Views.{named_of}
use Rattle.rewrite_forms.proofs.NewPaths.{new-one, new-other}
use Rattle.rewrite_forms.proofs.columns.is_made.Goals as goal

pub returns-then-names-ne1 : goal.returns-then-names-ne1
returns-then-names-ne1 c = record { value = new-other (map named_of c.args.made.now) c.args.path.now (λ h. c.if-names-ne1.true (ap length c.names-names.ensures.names ∙ h)) }

pub returns : goal.returns
returns c =
    record {
      value = let n = c.index-names-0.result in
          c.is_new.ensures
          ∙ new-one c.args.made.now c.args.path.now n (sym (ap length c.names-names.ensures.names) ∙ c.if-names-ne1.false) (c.index-names-0.is ∙ ap (λ l. get_or l 0 n) c.names-names.ensures.names);
    }
