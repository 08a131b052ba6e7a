use Rattle.std.proofs.Common.{◌-◌, ◌∙◌, ap, map, reverse, subst, sym, take, List, ℕ}
use Rattle.edm_values.specs.declared.Value.{Value}
use Rattle.aggregate_ops.specs.Fronts.{AreGroupsOf}
use Rattle.std.specs.List.{range_with_len}
use Rattle.indexmap.proofs.ReorderLemmas.{map-reverse}
use Rattle.par_stages.specs.Placed.{placed}
use Rattle.aggregate_ops.specs.KeyTables.{groups_of}
use Rattle.aggregate_ops.proofs.groups.Groups.by_fronts.Goals as goal

pub returns : goal.returns
returns c =
    record {
      value = λ keys are.
          let P : List (List Value × List ℕ) → Type 0 = λ gs. AreGroupsOf c.args.rows keys gs in
          c.reverse.ensures.items
          ∙ ap reverse (c.in_ok-found.ensures ∙ c.in_ok-levels.ensures keys (subst P (sym (c.as_slice.ensures.value ∙ c.self.view_is)) are))
          ∙ sym (map-reverse (λ j. groups_of (placed 0 (map (take j) keys))) (range_with_len c.args.least (c.args.width - c.args.least)));
    }
