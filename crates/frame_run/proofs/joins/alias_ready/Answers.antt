use Rattle.std.proofs.Common.{option_map}
use Rattle.apply_ast.specs.Views.{inner_of, pipe_of}
use Rattle.pipe_run.proofs.JoinParts.{join-ready}
use Rattle.frame_run.proofs.joins.alias_ready.Goals as goal

pub returns : goal.returns
returns g c = (join-ready c.args.context.now c.args.root.now c.args.outer c.args.nav.now c.args.alias.now (inner_of (option_map pipe_of c.args.inner.now)) c.args.frame.now c.requires).free
