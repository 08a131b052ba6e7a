-- Laws of replies and of their costs, by which they answer the lines of a stream: every line has a reply, and lines that are too long have the same and cost the same.
use Rattle.std.proofs.Common.{◌≡◌, ℕ, ◌<◌, List, length, refl, true, false, arith, Bool}
use Rattle.std.specs.Prelude.{nat_lt}
use Rattle.std.proofs.lemmas.Bool.Decides.{nat_tests}
use Rattle.edm_data.specs.Worlds.{World}
use Rattle.context_typing.specs.Typing.{Customs}
use Rattle.apply_grammar.specs.Frames.{line_limit}
use Rattle.apply_replies.specs.Responses.{TooLong, Memory, refused}
use Rattle.apply_replies.specs.Costs.{BoundsLine}
use Rattle.apply_replies.specs.Replies.{IsReply, too_long, no_request, request, no_memory}

module _ (w : World) (cs : Customs) where
  some_reply_by : (line : List ℕ) (long : Bool) → nat_lt line_limit (length line) ≡ long → (r : List ℕ) × IsReply w cs line r
  some_reply_by line true e = (refused TooLong, too_long (grind (arith, nat_tests, e)))
  some_reply_by line false e = (refused Memory, no_memory (grind (arith, nat_tests, e)))

  -- there is a reply to each line
  pub some_reply : (line : List ℕ) → (r : List ℕ) × IsReply w cs line r
  some_reply line = some_reply_by line (nat_lt line_limit (length line)) refl

  -- lines that are too long have the same replies
  pub long_lines : (line other r : List ℕ) → line_limit < length line → line_limit < length other → IsReply w cs line r → IsReply w cs other r
  long_lines line other r long also (too_long past) = too_long also
  long_lines line other r long also (no_request k within none) = absurd (omega (arith, within, long))
  long_lines line other r long also (request asked response within is given) = absurd (omega (arith, within, long))
  long_lines line other r long also (no_memory within) = absurd (omega (arith, within, long))

  -- what bounds the cost of a line that is too long bounds that of all such lines
  pub long_costs : (optimised : Bool) (line other : List ℕ) (n : ℕ) → line_limit < length line → line_limit < length other → BoundsLine optimised w cs line n → BoundsLine optimised w cs other n
  long_costs optimised line other n long also h = λ within. absurd (omega (arith, within, also))
