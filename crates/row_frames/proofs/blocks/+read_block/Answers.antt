use Rattle.std.proofs.Common.{◌∙◌, ap, refl, sym}
use Rattle.edm_values.specs.Values.{seen_value}
use Rattle.apply_meaning.specs.Instances.{binary, call1, call2}
use Rattle.row_frames.specs.Blocks.{unary}
use Rattle.row_frames.specs.declared.readers.Bound.TheVariants as bound
use Rattle.row_frames.proofs.BlockLemmas.{as-many, each-mapped, each-op, each-paired, read-by}
use Rattle.row_frames.proofs.blocks.+read_block.Goals as goal

pub returns-in_ok-a-in-Unary : goal.returns-in_ok-a-in-Unary
returns-in_ok-a-in-Unary t c =
    let read = read-by c.args.reader.now in
    let a = c.deref.result.now in
    let op = c.in-Unary.op in
    each-mapped (unary op) (read a) (read c.args.e.now) c.args.rows.now c.in_ok-a-in-Unary.a c.with_unary.result
    c.in_ok-a-in-Unary.ensures
    (λ x. ap (λ b. unary op (read b x)) c.deref.ensures
    ∙ each-op (λ o. unary o (read c.in-Unary.a.value x)) (λ o. read (bound.Unary' o record { ptr = c.in-Unary.a.ptr; alloc = c.in-Unary.a.alloc; value = tt } c.in-Unary.a.value) x) refl refl op
    ∙ ap (λ e. read e x) (sym c.in-Unary.is))
    c.with_unary.ensures

pub returns-in-Some : goal.returns-in-Some
returns-in-Some t c =
    let w = c.args.reader.now.store.now in
    let t' = c.args.reader.now.table.now in
    let read = read-by c.args.reader.now in
    let op = c.in-Binary.op in
    let a = c.deref-in-Binary.result.now in
    each-mapped (λ v. binary op v (seen_value c.in-Some.b)) (read a) (read c.args.e.now) c.args.rows.now c.in_ok-a-in-Binary.a c.with_literal.result
    c.in_ok-a-in-Binary.ensures
    (λ x. (λ i. binary op (read (c.deref-in-Binary.ensures i) x) (sym (c.in-Some.ensures w t' x.row) i)) ∙ (λ i. binary op (read c.in-Binary.a.value x) (read (c.deref-in-Binary-2.ensures i) x)) ∙ ap (λ e. read e x) (sym c.in-Binary.is))
    c.with_literal.ensures

pub with_block-requires : goal.with_block-requires
with_block-requires t c =
    let read = read-by c.args.reader.now in
    as-many (read c.deref-in-Binary.result.now) (read c.deref-in-Binary-3.result.now) c.args.rows.now c.in_ok-a-in-Binary.a c.in_ok-b-in-Binary.b
    c.in_ok-a-in-Binary.ensures
    c.in_ok-b-in-Binary.ensures

pub returns-in_ok-b-in-Binary : goal.returns-in_ok-b-in-Binary
returns-in_ok-b-in-Binary t c =
    let read = read-by c.args.reader.now in
    each-paired (binary c.in-Binary.op) (read c.deref-in-Binary.result.now) (read c.deref-in-Binary-3.result.now) (read c.args.e.now) c.args.rows.now c.in_ok-a-in-Binary.a c.in_ok-b-in-Binary.b c.with_block.result
    c.in_ok-a-in-Binary.ensures
    c.in_ok-b-in-Binary.ensures
    (λ x. (λ i. binary c.in-Binary.op (read (c.deref-in-Binary.ensures i) x) (read (c.deref-in-Binary-3.ensures i) x)) ∙ ap (λ e. read e x) (sym c.in-Binary.is))
    c.with_block.ensures

pub returns-in_ok-a-in-Call1 : goal.returns-in_ok-a-in-Call1
returns-in_ok-a-in-Call1 t c =
    let read = read-by c.args.reader.now in
    each-mapped (call1 c.in-Call1.f) (read c.deref-in-Call1.result.now) (read c.args.e.now) c.args.rows.now c.in_ok-a-in-Call1.a c.with_call1.result
    c.in_ok-a-in-Call1.ensures
    (λ x. ap (λ b. call1 c.in-Call1.f (read b x)) c.deref-in-Call1.ensures ∙ ap (λ e. read e x) (sym c.in-Call1.is))
    c.with_call1.ensures

pub with_call2-requires : goal.with_call2-requires
with_call2-requires t c =
    let read = read-by c.args.reader.now in
    as-many (read c.deref-in-Call2.result.now) (read c.deref-in-Call2-2.result.now) c.args.rows.now c.in_ok-a-in-Call2.a c.in_ok-b-in-Call2.b
    c.in_ok-a-in-Call2.ensures
    c.in_ok-b-in-Call2.ensures

pub returns-in_ok-b-in-Call2 : goal.returns-in_ok-b-in-Call2
returns-in_ok-b-in-Call2 t c =
    let read = read-by c.args.reader.now in
    each-paired (call2 c.in-Call2.f) (read c.deref-in-Call2.result.now) (read c.deref-in-Call2-2.result.now) (read c.args.e.now) c.args.rows.now c.in_ok-a-in-Call2.a c.in_ok-b-in-Call2.b c.with_call2.result
    c.in_ok-a-in-Call2.ensures
    c.in_ok-b-in-Call2.ensures
    (λ x. (λ i. call2 c.in-Call2.f (read (c.deref-in-Call2.ensures i) x) (read (c.deref-in-Call2-2.ensures i) x)) ∙ ap (λ e. read e x) (sym c.in-Call2.is))
    c.with_call2.ensures
