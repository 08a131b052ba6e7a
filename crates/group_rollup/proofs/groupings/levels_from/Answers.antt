use Rattle.std.proofs.Common.{◌≡◌, ◌≤◌, ◌+◌, ◌-◌, [], ◌∷◌, ◌++◌, ◌∙◌, ap, arith, length, subst, sym, List, ℕ}
use Rattle.std.specs.Prelude.{All}
use Rattle.edm_values.specs.declared.Value.{Value}
use Rattle.aggregate_ops.specs.Columns.{key_rows}
use Rattle.aggregate_ops.proofs.ColumnKeys.{length-rows, rows-wide}
use Rattle.group_rollup.proofs.GroupLemmas.{groups-long}
use Rattle.group_rollup.proofs.LevelLemmas.{front_groups-finest, front_groups-none}
use Rattle.group_rollup.proofs.groupings.levels_from.Goals as goal

pub by_fronts-requires-clause-long : goal.by_fronts-requires-clause-long
by_fronts-requires-clause-long g c =
    let columns = c.args.columns.now in
    let P : List (List Value × List ℕ) → Type 0 = λ gs. All (λ g. length columns ≤ length g.0) gs in
    subst P (sym c.in_ok-finest.ensures.value) (groups-long (length columns) (key_rows columns c.args.rows) (rows-wide columns c.args.rows))

pub by_fronts-requires-clause-groups : goal.by_fronts-requires-clause-groups
by_fronts-requires-clause-groups g c = (key_rows c.args.columns.now c.args.rows, record { size = length-rows c.args.columns.now c.args.rows; are = c.in_ok-finest.ensures.value })

pub returns-then-width-least : goal.returns-then-width-least
returns-then-width-least g c = c.new.ensures.items ∙ front_groups-none c.args.least (length c.args.columns.now) (key_rows c.args.columns.now c.args.rows) (omega arith)

pub returns : goal.returns
returns g c =
    let lists = key_rows c.args.columns.now c.args.rows in
    let coarser = c.in_ok-coarser.ensures.value lists (record { size = length-rows c.args.columns.now c.args.rows; are = c.in_ok-finest.ensures.value }) in
    let first : c.push.new.self.items ≡ c.in_ok-finest.finest ∷ [] = c.in_ok-push.ensures.items ∙ ap (λ l. l ++ c.in_ok-finest.finest ∷ []) c.new-found.ensures.items in
    c.in_ok-append.ensures.items
    ∙ (λ i. first i ++ c.in_ok-coarser.coarser.items)
    ∙ (λ i. c.in_ok-finest.ensures.value i ∷ coarser i)
    ∙ front_groups-finest c.args.least (length c.args.columns.now) lists (omega arith) (rows-wide c.args.columns.now c.args.rows)
