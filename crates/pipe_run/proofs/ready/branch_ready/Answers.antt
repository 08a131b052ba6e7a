use Rattle.apply_ast.specs.Views.{pipe_of}
use Rattle.pipe_run.proofs.ConcatLemmas.{branch-at}
use Rattle.pipe_run.proofs.ready.branch_ready.Goals as goal

pub returns : goal.returns
returns g c =
    let r = c.requires.ready in
    let own = r.1 c.args.k (pipe_of c.args.branch.now) (branch-at c.args.branches.now c.args.k c.args.branch.now c.requires.within c.requires.branch) in
    (r.0, own.0, own.1)
