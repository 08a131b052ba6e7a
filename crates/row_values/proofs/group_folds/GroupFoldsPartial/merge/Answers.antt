use Rattle.std.proofs.Common.{◌∙◌, ◌+◌, ◌<◌, ◌≤◌, ◌++◌, ap, arith, length, subst, sym}
use Rattle.std.specs.List.{All}
use Rattle.row_values.specs.GroupFolds.{AreFoldsOf, AreMergedTo, IsFold}
use Rattle.row_values.proofs.GroupFoldLemmas.{all-merged, few-together, fold-merged, left-read, left-rest, left-there, merged-next, merged-none, merged-old}
use Rattle.row_values.proofs.group_folds.GroupFoldsPartial.merge.Goals as goal

pub loop-more-init : goal.loop-more-init
loop-more-init g c = record {
  left = c.into_iter-more-iterator.ensures.into_iter_gives.0 ∙ ap (λ s. s.groups) c.later.view_is;
  merged = merged-none g.P.Partial.kind g.P.Partial.stands_for c.args.self.now.groups c.args.later.groups c.replace-groups.result.items (ap (λ v. v.items) c.replace-groups.ensures.value ∙ ap (λ s. s.groups) c.self.view_is);
}

pub merge-requires-clause-room : goal.merge-requires-clause-room
merge-requires-clause-room g c =
    let kind = g.P.Partial.kind in
    let stands = g.P.Partial.stands_for in
    let s = c.args.self.now in
    let t = c.args.later in
    let k = c.loop-more.k in
    let m = c.loop-more.invariant.merged in
    let old = c.index_mut.result.now in
    let more = c.in-Some.more in
    let inside : k < length c.loop-more.groups.items = omega arith in
    let late : k < length t.groups = left-there t.groups k more _ _ c.loop-more.invariant.left c.in-Some.ensures.steps.0 in
    let own : All (IsFold kind stands s.empty s.taken) s.groups = subst (λ s. All (IsFold kind stands s.empty s.taken) s.groups) c.self.view_is c.self.invariant.1 in
    let later : All (IsFold kind stands t.empty t.taken) t.groups = subst (λ t. All (IsFold kind stands t.empty t.taken) t.groups) c.later.view_is c.later.invariant.1 in
    few-together kind stands g.P.Partial.count s.empty t.empty old more s.taken t.taken _
    g.met.P.Partial.counted
    (subst (IsFold kind stands s.empty s.taken) (sym (merged-old kind stands s.groups t.groups c.loop-more.groups.items k old old m inside c.index_mut.ensures.value)) (own k old (omega (arith, m.size))))
    (subst (IsFold kind stands t.empty t.taken) (sym (left-read t.groups k more _ _ more c.loop-more.invariant.left c.in-Some.ensures.steps.0)) (later k more late))
    c.requires.room

pub merge-requires-clause-kind : goal.merge-requires-clause-kind
merge-requires-clause-kind g c =
    let kind = g.P.Partial.kind in
    let stands = g.P.Partial.stands_for in
    let s = c.args.self.now in
    let t = c.args.later in
    let k = c.loop-more.k in
    let m = c.loop-more.invariant.merged in
    let old = c.index_mut.result.now in
    let more = c.in-Some.more in
    let inside : k < length c.loop-more.groups.items = omega arith in
    let late : k < length t.groups = left-there t.groups k more _ _ c.loop-more.invariant.left c.in-Some.ensures.steps.0 in
    let own : All (IsFold kind stands s.empty s.taken) s.groups = subst (λ s. All (IsFold kind stands s.empty s.taken) s.groups) c.self.view_is c.self.invariant.1 in
    let later : All (IsFold kind stands t.empty t.taken) t.groups = subst (λ t. All (IsFold kind stands t.empty t.taken) t.groups) c.later.view_is c.later.invariant.1 in
    let same = ap (λ x. x.1.1) c.requires.kind in
    ap kind (left-read t.groups k more _ _ more c.loop-more.invariant.left c.in-Some.ensures.steps.0) ∙ (later k more late).kind_is ∙ same
    ∙ sym (ap kind (merged-old kind stands s.groups t.groups c.loop-more.groups.items k old old m inside c.index_mut.ensures.value) ∙ (own k old (omega (arith, m.size))).kind_is)

pub loop-more-preserved : goal.loop-more-preserved
loop-more-preserved g c =
    let gs = c.args.self.now.groups in
    let later = c.args.later.groups in
    record {
      left = left-rest later c.loop-more.k c.in-Some.more _ _ c.loop-more.invariant.left c.in-Some.ensures.steps.0;
      merged = merged-next g.P.Partial.kind g.P.Partial.stands_for gs later c.loop-more.groups.items _ _ c.loop-more.k c.index_mut.result.now c.merge.new.self c.in-Some.more c.loop-more.invariant.merged (omega arith) c.index_mut.ensures.value c.loop-more.invariant.left c.in-Some.ensures.steps.0 c.in_ok-merge.ensures.kind c.in_ok-merge.ensures.merged;
    }

pub invariant_of-self-2 : goal.invariant_of-self-2
invariant_of-self-2 g c =
    let kind = g.P.Partial.kind in
    let stands = g.P.Partial.stands_for in
    let ms = c.loop-more.groups.items in
    let k = c.loop-more.k in
    let gs = c.self.inside.groups.items in
    let late = c.later.inside.groups.items in
    let m : AreMergedTo kind stands gs late ms k =
    subst (λ s. AreMergedTo kind stands s.groups late ms k) (sym c.self.view_is) (subst (λ t. AreMergedTo kind stands c.args.self.now.groups t.groups ms k) (sym c.later.view_is) c.loop-more.invariant.merged) in
    let few : c.self.inside.taken + c.later.inside.taken < 9223372036854775808 = omega (arith, c.requires.room, ap (λ s. s.taken) c.self.view_is, ap (λ s. s.taken) c.later.view_is) in
    let whole : length ms ≤ k = omega arith in
    (few, λ j d lt. fold-merged kind stands gs late ms k j c.self.inside.taken c.later.inside.taken c.self.inside.empty c.later.inside.empty d m whole lt (c.self.invariant.1 j d (omega (arith, m.size))) (c.later.invariant.1 j d (omega (arith, m.few_later))))

pub returns-clause-merged : goal.returns-clause-merged
returns-clause-merged g c = λ xs ys a b.
    let kind = g.P.Partial.kind in
    let stands = g.P.Partial.stands_for in
    let s = c.args.self.now in
    let t = c.args.later in
    let ms = c.loop-more.groups.items in
    let k = c.loop-more.k in
    let whole : length ms ≤ k = omega arith in
    subst (λ s. AreFoldsOf stands (record { numbers = s.numbers; count = s.count; taken = s.taken + c.later.inside.taken; empty = s.empty; groups = ms }) (xs ++ ys)) (sym c.self.view_is)
    (subst (λ t. AreFoldsOf stands (record { numbers = s.numbers; count = s.count; taken = s.taken + t.taken; empty = s.empty; groups = ms }) (xs ++ ys)) (sym c.later.view_is)
    (all-merged kind stands s t ms k xs ys c.loop-more.invariant.merged whole (ap (λ x. x.0) c.requires.kind) a b))
