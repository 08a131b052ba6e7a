use Rattle.std.proofs.Common.{◌≡◌, ◌++◌, ℕ, List, true, take, arith, sym, ◌∙◌, ap}
use Rattle.line_stream.specs.Buffers.{Kept, kept_with}
use Rattle.line_stream.proofs.Buffered.{kept_with-over}
use Rattle.line_stream.proofs.buffer.LineBuffer.push.Goals as goal

pub returns-then-count-piece : goal.returns-then-count-piece
returns-then-count-piece c =
    record {
      value = let kept : Kept = record { bytes = c.self.inside.bytes.items; limit = c.self.inside.limit; is_over = c.self.inside.is_over } in
          let view : kept ≡ c.args.self.now = c.self.view_is in
          let items : c.extend_from_slice.new.self.items ≡ kept.bytes ++ take c.min-count.result c.args.piece.now = rw c.unwrap.ensures at c.extend_from_slice.ensures.items in
          let with : (bytes : List ℕ) → Kept = λ bytes. record { bytes = bytes; limit = kept.limit; is_over = true } in
          ap with items ∙ sym (kept_with-over kept c.args.piece.now c.min-count.result (omega arith) (omega arith) c.if-count-piece.true) ∙ ap (λ k. kept_with k c.args.piece.now) view;
    }
