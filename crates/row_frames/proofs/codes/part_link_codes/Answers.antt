use Rattle.std.proofs.Common.{◌<◌, ◌+◌, arith, length, subst, sym}
use Rattle.std.proofs.lemmas.List.{take_all}
use Rattle.std.proofs.lemmas.List.Elements.{All-push}
use Rattle.value_codes.specs.Above.{AreCoded}
use Rattle.row_frames.specs.LinkCodes.{IsLinkCode}
use Rattle.row_frames.specs.Runs.{part_rows}
use Rattle.row_frames.specs.declared.tables.Pick.{Pick}
use Rattle.row_frames.proofs.LinkCodeLemmas.{coded-at}
use Rattle.row_frames.proofs.codes.part_link_codes.Goals as goal

pub link_code-requires-clause-within : goal.link_code-requires-clause-within
link_code-requires-clause-within c =
    let lt : c.loop-k.k < length (part_rows c.args.part.now) = omega arith in
    subst (λ (x : Pick). x.table < length c.args.tables.now) (sym (c.at.ensures c.at.result)) (c.requires.within c.loop-k.k c.at.result lt)

pub loop-k-preserved : goal.loop-k-preserved
loop-k-preserved c =
    let R = IsLinkCode c.args.tables.now c.args.links.now in
    let xs = part_rows c.args.part.now in
    let code = c.in-Some.code in
    let lt : c.loop-k.k < length xs = omega arith in
    let here = subst (λ (x : Pick). R x code) (c.at.ensures c.at.result) c.in-Some.ensures.code in
    rw c.in_ok-push-in-Some.ensures.items (
      coded-at R xs c.loop-k.codes.items c.loop-k.k c.at.result code lt c.loop-k.invariant.0 here,
      All-push (λ n. n < c.args.count + 1) c.loop-k.codes.items code c.loop-k.invariant.1 c.in-Some.ensures.below,
    )

pub returns : goal.returns
returns c =
    let R = IsLinkCode c.args.tables.now c.args.links.now in
    record {
      coded = subst (λ l. AreCoded R l c.loop-k.codes.items) (take_all c.loop-k.k (part_rows c.args.part.now) (omega arith)) c.loop-k.invariant.0;
      below = c.loop-k.invariant.1;
    }
