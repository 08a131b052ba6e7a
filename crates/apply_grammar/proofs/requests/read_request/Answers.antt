use Rattle.std.proofs.Common.{subst}
use Rattle.apply_grammar.specs.Gives.{GivesRequest}
use Rattle.apply_grammar.proofs.RequestLaws.{request_found, request_stops, line_only}
use Rattle.apply_grammar.proofs.requests.read_request.Goals as goal

pub returns-clause-found : goal.returns-clause-found
returns-clause-found c = request_found c.args.line.now c.read_line.result c.read_line.ensures

pub returns-clause-only : goal.returns-clause-only
returns-clause-only c = λ x l h. subst (GivesRequest c.read_line.result) (line_only c.args.line.now x h) c.read_line.ensures

pub returns-clause-syntax : goal.returns-clause-syntax
returns-clause-syntax c = request_stops c.args.line.now c.read_line.result c.read_line.ensures
