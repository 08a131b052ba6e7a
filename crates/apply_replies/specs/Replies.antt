-- The reply to a line of the input.
use Rattle.std.specs.Prelude.{◌≡◌, ℕ, ◌<◌, ◌≤◌, true, false, List, length, Option, Some, None, option_and_then}
use Rattle.std.specs.Global.{Vec}
use Rattle.std.specs.declared.result.Result as result
use Rattle.std.specs.declared.result.Result.TheVariants.{Ok, Err}
use Rattle.edm_values.specs.declared.refusals.Refused.{Refused}
use Rattle.edm_values.specs.declared.refusals.Refused.TheVariants as refusal
use Rattle.edm_values.specs.Literals.{plain_text}
use Rattle.apply_ast.specs.Printing.{print}
use Rattle.apply_ast.specs.Trees.{Pipe}
use Rattle.edm_model.specs.LookUps.{set_name, set_named}
use Rattle.edm_data.specs.Worlds.{World, Entity}
use Rattle.edm_data.specs.References.{key}
use Rattle.apply_meaning.specs.Instances.{rows}
use Rattle.apply_meaning.specs.Meaning.{mean}
use Rattle.apply_grammar.specs.Frames.{line_limit}
use Rattle.apply_grammar.specs.Requests.{Asked, IsRequest, IsNoRequest}
use Rattle.context_typing.specs.Shapes.{Shape}
use Rattle.context_typing.specs.Readings.{readings}
use Rattle.context_typing.specs.Typing.{Customs, Types, IsUntypedAt, shape_of_set}
use Rattle.json_render.specs.Bodies.{body}
use Rattle.rewrite_laws.specs.Rewrites.{IsPlanOf}
use Rattle.hier_states.specs.NamedHierarchies.{hierarchies}
use Rattle.hier_states.specs.States.{first_cycle}
use Rattle.apply_store.specs.Stores.{Store}
use Rattle.apply_replies.specs.Responses.{TooLong, Syntax, NotFound, Type', Cycle, Range, Memory, answered, plan_body, refused}

-- the set of a request is there, and the pipeline takes its shape to this one
pub record IsTyped (w : World) (c : Customs) (asked : Asked) (set : ℕ) (s : Shape) : Type 0 where
  pub finds : set_named w.model asked.1 ≡ Some set
  pub types : Types w.model c (shape_of_set w.model set) asked.2 s

-- the body of what the pipeline means on the instances of its set, or none where it is refused or a value to be printed is `Beyond`
abbrev pub answer_body : World → Customs → ℕ → Pipe → Shape → Option (List ℕ)
answer_body w c set p s = option_and_then (body w (set_name w.model set) s) (mean w c (shape_of_set w.model set) p (rows w set))

-- the response of a run that came to this body, or that was refused; none where memory was wanting
abbrev pub IsOfBody : result.Result (Vec ℕ) Refused → List ℕ → Type 0
IsOfBody (Ok body) response = response ≡ answered body.items
IsOfBody (Err refusal.Range) response = response ≡ refused Range
IsOfBody (Err refusal.Memory) response = ⊥

-- The response to a request: the first that holds of no such set, no type from this transformation on, the text of the pipeline's plan where that was asked for, a cyclic hierarchy in the pipeline's text, told by its node's identifier, and a number past its range; else the body.
pub data IsResponse (w : World) (c : Customs) (asked : Asked) : List ℕ → Type 0 where
  no_set : set_named w.model asked.1 ≡ None → IsResponse w c asked (refused (NotFound asked.1))
  no_type : (set k : ℕ) → set_named w.model asked.1 ≡ Some set → IsUntypedAt w.model c (shape_of_set w.model set) asked.2 k → IsResponse w c asked (refused (Type' k))
  plan : (set : ℕ) (s : Shape) (q : Pipe) → IsTyped w c asked set s → asked.0 ≡ true → IsPlanOf w.model c (shape_of_set w.model set) asked.2 q → IsResponse w c asked (answered (plan_body (print q)))
  cycle : (set : ℕ) (s : Shape) (node : Entity) → IsTyped w c asked set s → asked.0 ≡ false → first_cycle w (hierarchies asked.2) ≡ Some node → IsResponse w c asked (refused (Cycle (plain_text (key w node))))
  range : (set : ℕ) (s : Shape) → IsTyped w c asked set s → asked.0 ≡ false → first_cycle w (hierarchies asked.2) ≡ None → answer_body w c set asked.2 s ≡ None → IsResponse w c asked (refused Range)
  answer : (set : ℕ) (s : Shape) (bytes : List ℕ) → IsTyped w c asked set s → asked.0 ≡ false → first_cycle w (hierarchies asked.2) ≡ None → answer_body w c set asked.2 s ≡ Some bytes → IsResponse w c asked (answered bytes)

-- The reply to a line: that it is too long; else the number of the step where it stops being a request, or the response to its request. Memory may be wanting in place of each but the first.
pub data IsReply (w : World) (c : Customs) (line : List ℕ) : List ℕ → Type 0 where
  too_long : line_limit < length line → IsReply w c line (refused TooLong)
  no_request : (k : ℕ) → length line ≤ line_limit → IsNoRequest line k → IsReply w c line (refused (Syntax k))
  request : (asked : Asked) (response : List ℕ) → length line ≤ line_limit → IsRequest line asked → IsResponse w c asked response → IsReply w c line response
  no_memory : length line ≤ line_limit → IsReply w c line (refused Memory)

-- the reply to a line over a store
abbrev pub IsReplyOf : Store → List ℕ → List ℕ → Type 0
IsReplyOf store line r = IsReply store.world (readings store.customs) line r
