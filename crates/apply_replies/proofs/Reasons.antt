-- The reasons of replies.
use Rattle.std.proofs.Common.{◌≡◌, ℕ, ◌<◌, ◌≤◌, List, length, refl, sym, subst, true, false, arith, Bool, Ok, Err, IfOk}
use Rattle.std.specs.declared.result.Result.{Result}
use Rattle.std.specs.Prelude.{nat_lt, ◌↔◌, IsErrOf}
use Rattle.std.proofs.lemmas.Bool.Decides.{nat_tests}
use Rattle.edm_data.specs.Worlds.{World}
use Rattle.context_typing.specs.Typing.{Customs}
use Rattle.apply_grammar.specs.Frames.{line_limit}
use Rattle.apply_grammar.specs.Requests.{Asked, IsRequest, IsNoRequest, asked_of}
use Rattle.apply_grammar.specs.declared.refusals.GrammarRefused.{GrammarRefused}
use Rattle.apply_grammar.specs.declared.refusals.GrammarRefused.TheVariants as grammar
use Rattle.apply_ast.specs.declared.steps.Request.{Request}
use Rattle.line_stream.specs.Outputs.{bytes_of}
use Rattle.line_stream.specs.declared.output.Output.{Output}
use Rattle.apply_replies.specs.Responses.{TooLong, Syntax, Memory, refused}
use Rattle.apply_replies.specs.Replies.{IsReply, IsResponse, too_long, no_request, request, no_memory}
use Rattle.apply_replies.specs.OutputBytes.{bytes_made}

-- the line is told too long
abbrev IsLong : Result Request GrammarRefused → Type 0
IsLong read = IsErrOf read grammar.TooLong

-- what is said of a line that is too long
abbrev Told : Result Request GrammarRefused → List ℕ → Type 0
Told read line = IsLong read ↔ line_limit < length line

within-by : (n : ℕ) (long : Bool) → nat_lt line_limit n ≡ long → ¬ (line_limit < n) → n ≤ line_limit
within-by n true e refuse = absurd (refuse (grind (arith, nat_tests, e)))
within-by n false e refuse = grind (arith, nat_tests, e)

-- a line that is not told too long keeps its limit
within-limit : (read : Result Request GrammarRefused) (line : List ℕ) → Told read line → ¬ IsLong read → length line ≤ line_limit
within-limit read line told refuse = within-by (length line) (nat_lt line_limit (length line)) refl (λ long. refuse (told.1 long))

found-other : (r : Request) → ¬ IsLong (Ok r)
found-other r h = cc

syntax-other : (k : ℕ) → ¬ IsLong (Err (grammar.Syntax k))
syntax-other k h = cc

memory-other : ¬ IsLong (Err grammar.Memory)
memory-other h = cc

made-request : {E : Type 0} (made : Result Output E) (w : World) (cs : Customs) (line : List ℕ) (asked : Asked) → length line ≤ line_limit → IsRequest line asked → IfOk made (λ r. IsResponse w cs asked (bytes_of r)) → IsReply w cs line (bytes_made made)
made-request (Ok r) w cs line asked within is h = request asked (bytes_of r) within is h
made-request (Err x) w cs line asked within is h = no_memory within

made-no_request : {E : Type 0} (made : Result Output E) (w : World) (cs : Customs) (line : List ℕ) (k : ℕ) → length line ≤ line_limit → IsNoRequest line k → IfOk made (λ r. bytes_of r ≡ refused (Syntax k)) → IsReply w cs line (bytes_made made)
made-no_request (Ok r) w cs line k within none e = let P : List ℕ → Type 0 = λ t. IsReply w cs line t in subst P (sym e) (no_request k within none)
made-no_request (Err x) w cs line k within none e = no_memory within

-- the reply to a request that was read
pub reply-found : {E : Type 0} (made : Result Output E) (w : World) (cs : Customs) (line bytes : List ℕ) (r : Request) → Told (Ok r) line → IsRequest line (asked_of r) → IfOk made (λ x. IsResponse w cs (asked_of r) (bytes_of x)) → bytes ≡ bytes_made made → IsReply w cs line bytes
reply-found made w cs line bytes r told is h same =
    let P : List ℕ → Type 0 = λ t. IsReply w cs line t in
    subst P (sym same) (made-request made w cs line (asked_of r) (within-limit (Ok r) line told (found-other r)) is h)

-- the reply to a line that is no request
pub reply-stops : {E : Type 0} (made : Result Output E) (w : World) (cs : Customs) (line bytes : List ℕ) (k : ℕ) → Told (Err (grammar.Syntax k)) line → IsNoRequest line k → IfOk made (λ x. bytes_of x ≡ refused (Syntax k)) → bytes ≡ bytes_made made → IsReply w cs line bytes
reply-stops made w cs line bytes k told none e same =
    let P : List ℕ → Type 0 = λ t. IsReply w cs line t in
    subst P (sym same) (made-no_request made w cs line k (within-limit (Err (grammar.Syntax k)) line told (syntax-other k)) none e)

-- the reply to a line that is too long
pub reply-long : (w : World) (cs : Customs) (line bytes : List ℕ) → line_limit < length line → bytes ≡ refused TooLong → IsReply w cs line bytes
reply-long w cs line bytes long e = let P : List ℕ → Type 0 = λ t. IsReply w cs line t in subst P (sym e) (too_long long)

-- the reply to a line for which memory was wanting
pub reply-memory : (w : World) (cs : Customs) (line bytes : List ℕ) → Told (Err grammar.Memory) line → bytes ≡ refused Memory → IsReply w cs line bytes
reply-memory w cs line bytes told e =
    let P : List ℕ → Type 0 = λ t. IsReply w cs line t in
    subst P (sym e) (no_memory (within-limit (Err grammar.Memory) line told memory-other))

-- a line that was read as a request keeps its limit
pub request-within : (r : Request) (line : List ℕ) → Told (Ok r) line → length line ≤ line_limit
request-within r line told = within-limit (Ok r) line told (found-other r)
