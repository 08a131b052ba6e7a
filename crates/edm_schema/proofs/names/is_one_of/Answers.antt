use Rattle.std.proofs.Common.{◌≡◌, true, false, arith, sym, ◌∙◌}
use Rattle.std.specs.List.{list_any}
use Rattle.std.proofs.lemmas.Grind.{common_steps}
use Rattle.edm_values.specs.Lists.{same_text}
use Rattle.edm_schema.proofs.Mapped.{list_any-map}
use Rattle.edm_schema.proofs.names.is_one_of.Goals as goal

pub returns : goal.returns
returns c =
    record {
      value = let none : list_any (λ n. same_text c.args.name.now n.now) c.args.names.now ≡ false = grind (arith, common_steps) in
          sym (list_any-map (same_text c.args.name.now) (λ n. n.now) c.args.names.now ∙ none);
    }

pub returns-then-eq : goal.returns-then-eq
returns-then-eq c =
    record {
      value = let some : list_any (λ n. same_text c.args.name.now n.now) c.args.names.now ≡ true = grind (arith, common_steps) in
          sym (list_any-map (same_text c.args.name.now) (λ n. n.now) c.args.names.now ∙ some);
    }
