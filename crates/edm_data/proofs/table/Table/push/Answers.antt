use Rattle.std.proofs.Common.{◌≡◌, ◌<◌, ◌≤◌, List, [], ◌∷◌, ◌++◌, length, map, get_or, set, sym, ap, ◌∙◌, arith}
use Rattle.std.proofs.lemmas.List.{length-map, get_or-map}
use Rattle.edm_values.specs.Values.{seen_value}
use Rattle.edm_values.specs.declared.Value.{Value}
use Rattle.edm_data.specs.Columns.{ValueList}
use Rattle.edm_data.proofs.GridLemmas.{grid_count, grown, grown-none, grown-length, grown-next, grown-more, grown-columns, grown-rows, column_length}
use Rattle.edm_data.proofs.table.Table.push.Goals as goal

pub loop-place-init : goal.loop-place-init
loop-place-init c = sym (grown-none c.self.inside.columns.items (map seen_value c.args.row.now))

pub index_mut-requires : goal.index_mut-requires
index_mut-requires c =
    let size : length c.loop-place.columns.items ≡ length c.self.inside.columns.items = ap length c.loop-place.invariant ∙ grown-length c.loop-place.place c.self.inside.columns.items (map seen_value c.args.row.now) in
    omega (arith, c.loop-place.columns.ok.0, c.self.inside.columns.ok.0)

pub push-requires : goal.push-requires
push-requires c =
    let cs = c.self.inside.columns.items in
    let p = c.loop-place.place in
    let r = c.index_mut.result.now in
    let within : p < length cs = omega (arith, c.self.inside.columns.ok.0) in
    let is : r ≡ get_or cs p r = c.index_mut.ensures.value ∙ ap (λ (l : List ValueList). get_or l p r) c.loop-place.invariant ∙ grown-next p cs (map seen_value c.args.row.now) r within in
    let size : length r ≡ c.self.inside.count = column_length c.self.inside.count p cs r c.self.invariant within is in
    let rows : length c.args.self.rows ≡ c.self.inside.count = sym (sym (grid_count cs c.self.inside.count) ∙ ap (λ g. length g.rows) c.self.view_is) in
    omega (arith, c.requires.few)

pub loop-place-preserved : goal.loop-place-preserved
loop-place-preserved c =
    let cs = c.self.inside.columns.items in
    let vs = map seen_value c.args.row.now in
    let p = c.loop-place.place in
    let r = c.index_mut.result.now in
    let x = seen_value c.index-row-place.result in
    let within : p < length cs = omega (arith, c.self.inside.columns.ok.0) in
    let is : r ≡ get_or cs p r = c.index_mut.ensures.value ∙ ap (λ (l : List ValueList). get_or l p r) c.loop-place.invariant ∙ grown-next p cs vs r within in
    let size : length vs ≡ length cs = length-map c.args.row.now seen_value ∙ c.requires.width ∙ sym (ap (λ g. g.width) c.self.view_is) in
    let first : p < length c.args.row.now = rw (← length-map c.args.row.now seen_value) (omega (arith, size, within)) in
    let item : x ≡ get_or vs p x = ap seen_value c.index-row-place.is ∙ sym (get_or-map seen_value c.args.row.now p c.index-row-place.result x first) in
    let here : c.push.new.self ≡ get_or cs p r ++ get_or vs p x ∷ [] = c.in_ok-push.ensures.ok ∙ ap (λ (v : Value). r ++ v ∷ []) item ∙ ap (λ (l : ValueList). l ++ get_or vs p x ∷ []) is in
    ap (λ (l : List ValueList). set l p c.push.new.self) c.loop-place.invariant ∙ ap (set (grown p cs vs) p) here ∙ grown-more p cs vs r x within size

pub overflow_add-result : goal.overflow_add-result
overflow_add-result c =
    let rows : length c.args.self.rows ≡ c.self.inside.count = sym (sym (grid_count c.self.inside.columns.items c.self.inside.count) ∙ ap (λ g. length g.rows) c.self.view_is) in
    omega (arith, c.requires.few)

pub invariant_of-result : goal.invariant_of-result
invariant_of-result c =
    let cs = c.self.inside.columns.items in
    let size : length (map seen_value c.args.row.now) ≡ length cs = length-map c.args.row.now seen_value ∙ c.requires.width ∙ sym (ap (λ g. g.width) c.self.view_is) in
    let past : length cs ≤ c.loop-place.place = omega (arith, c.self.inside.columns.ok.0) in
    rw c.loop-place.invariant (grown-columns c.self.inside.count c.loop-place.place cs (map seen_value c.args.row.now) past size c.self.invariant)

pub returns-clause-width : goal.returns-clause-width
returns-clause-width c = ap length c.loop-place.invariant ∙ grown-length c.loop-place.place c.self.inside.columns.items (map seen_value c.args.row.now) ∙ ap (λ g. g.width) c.self.view_is

pub returns-clause-rows : goal.returns-clause-rows
returns-clause-rows c =
    let cs = c.self.inside.columns.items in
    let size : length (map seen_value c.args.row.now) ≡ length cs = length-map c.args.row.now seen_value ∙ c.requires.width ∙ sym (ap (λ g. g.width) c.self.view_is) in
    let past : length cs ≤ c.loop-place.place = omega (arith, c.self.inside.columns.ok.0) in
    rw c.loop-place.invariant (grown-rows c.self.inside.count c.loop-place.place cs (map seen_value c.args.row.now) past size c.self.invariant ∙ ap (λ g. g.rows ++ (map seen_value c.args.row.now) ∷ []) c.self.view_is)
