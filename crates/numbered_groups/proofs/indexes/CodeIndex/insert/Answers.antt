use Rattle.std.proofs.Common.{rules, ◌≡◌, ◌∙◌, ◌++◌, ◌∷◌, [], ℕ, List, ap, subst, sym, arith, length, set}
use Rattle.std.specs.Prelude.{nat_eq, slice_get}
use Rattle.std.proofs.lemmas.List.{get_or_read}
use Rattle.indexmap.specs.IndexSet.{insert_key}
use Rattle.numbered_groups.specs.Found.{IndexState, IsIndex}
use Rattle.numbered_groups.proofs.IndexLemmas.{index-known, index-more, known-stays, new-behind, there-last}
use Rattle.numbered_groups.proofs.indexes.CodeIndex.insert.Goals as goal

pub returns-then-known-clause-heads : goal.returns-then-known-clause-heads
returns-then-known-clause-heads c =
    let heads = c.self.inside.heads.items in
    let table = c.make_room.new.table.items in
    let index = c.in_ok-make_room.ensures.index heads c.self.invariant in
    let read = get_or_read table c.args.code c.index-known.result.now c.in_ok-make_room.ensures.room c.index-known.ensures 0 in
    known-stays heads c.args.code c.index-known.result.now (index-known heads table c.args.code c.index-known.result.now index c.in_ok-make_room.ensures.room (sym read) c.if-known.true)
    ∙ ap (λ (s : IndexState). insert_key nat_eq s.heads c.args.code) c.self.view_is

pub returns-then-known-clause-at : goal.returns-then-known-clause-at
returns-then-known-clause-at c =
    let heads = c.self.inside.heads.items in
    let table = c.make_room.new.table.items in
    let index = c.in_ok-make_room.ensures.index heads c.self.invariant in
    let read = get_or_read table c.args.code c.index-known.result.now c.in_ok-make_room.ensures.room c.index-known.ensures 0 in
    index-known heads table c.args.code c.index-known.result.now index c.in_ok-make_room.ensures.room (sym read) c.if-known.true

pub invariant_of-self-2 : goal.invariant_of-self-2
invariant_of-self-2 c =
    let heads = c.self.inside.heads.items in
    let table = c.make_room.new.table.items in
    let code = c.args.code in
    let index = c.in_ok-make_room.ensures.index heads c.self.invariant in
    let read = get_or_read table code c.index-known.result.now c.in_ok-make_room.ensures.room c.index-known.ensures 0 in
    let number : c.in_ok-number.number ≡ length heads = search rules in
    let P : List ℕ → Type 0 = λ hs. IsIndex hs (set table code c.in_ok-number.number) in
    let Q : ℕ → Type 0 = λ m. IsIndex (heads ++ code ∷ []) (set table code m) in
    subst P (sym c.in_ok-push.ensures.items) (subst Q (sym number) (index-more heads table code index c.in_ok-make_room.ensures.room (sym read ∙ c.if-known.false) (omega arith)))

pub returns-clause-heads : goal.returns-clause-heads
returns-clause-heads c =
    let heads = c.self.inside.heads.items in
    let table = c.make_room.new.table.items in
    let index = c.in_ok-make_room.ensures.index heads c.self.invariant in
    let read = get_or_read table c.args.code c.index-known.result.now c.in_ok-make_room.ensures.room c.index-known.ensures 0 in
    c.in_ok-push.ensures.items ∙ new-behind heads table c.args.code index (sym read ∙ c.if-known.false) ∙ ap (λ (s : IndexState). insert_key nat_eq s.heads c.args.code) c.self.view_is

pub returns-clause-at : goal.returns-clause-at
returns-clause-at c =
    let heads = c.self.inside.heads.items in
    let number : c.in_ok-number.number ≡ length heads = search rules in
    ap (λ hs. slice_get hs c.in_ok-number.number) c.in_ok-push.ensures.items ∙ ap (slice_get (heads ++ c.args.code ∷ [])) number ∙ there-last heads c.args.code
