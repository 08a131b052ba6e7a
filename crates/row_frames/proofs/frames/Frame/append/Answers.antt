use Rattle.std.proofs.Common.{◌≡◌, ◌∙◌, ap, arith, length, ◌++◌, map}
use Rattle.std.proofs.lemmas.List.{length-append}
use Rattle.row_frames.specs.Joined.{shifted}
use Rattle.row_frames.proofs.JoinedLemmas.{joined-picked, joined-within, joined-tables, none-before}
use Rattle.row_frames.proofs.frames.Frame.append.Goals as goal

pub invariant_of-result : goal.invariant_of-result
invariant_of-result c = (
  joined-tables c.self.inside.tables.items c.other.inside.tables.items c.in_ok-tables.tables.items c.in_ok-tables.ensures c.self.invariant.0 c.other.invariant.0,
  joined-within (length c.self.inside.tables.items) (length c.other.inside.tables.items) (length c.in_ok-tables.tables.items) c.self.inside.picks c.other.inside.picks c.of_list-picks.result
      (ap length c.in_ok-tables.ensures ∙ length-append c.self.inside.tables.items c.other.inside.tables.items)
      (c.of_list-picks.ensures ∙ c.in_ok-list.ensures ∙ (λ i. c.in_ok-first.ensures i ++ map (shifted ((ap length c.as_slice.ensures.value) i)) ((c.as_slice-2.ensures.value ∙ c.in_ok-behind.ensures) i)))
      c.self.invariant.1 c.other.invariant.1,
)

pub returns : goal.returns
returns c = record {
  value = joined-picked c.self.inside.tables.items c.other.inside.tables.items c.in_ok-tables.tables.items c.self.inside.picks c.other.inside.picks c.of_list-picks.result c.in_ok-tables.ensures
      (c.of_list-picks.ensures ∙ c.in_ok-list.ensures ∙ (λ i. c.in_ok-first.ensures i ++ map (shifted ((ap length c.as_slice.ensures.value) i)) ((c.as_slice-2.ensures.value ∙ c.in_ok-behind.ensures) i)))
      c.self.invariant.1
      ∙ (λ i. c.self.view_is i ++ c.other.view_is i);
}

pub returns-then-len-eq0 : goal.returns-then-len-eq0
returns-then-len-eq0 c =
    let none : length c.args.self ≡ 0 = omega arith in
    record { value = none-before c.args.self c.args.other none }
