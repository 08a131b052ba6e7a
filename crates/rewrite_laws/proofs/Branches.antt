-- Pipelines whose concatenations have branches, and their weights, which rise.
use Rattle.std.proofs.Common.{ℕ, ◌+◌, ◌*◌, ◌^◌, ◌≤◌, ◌<◌, arith}
use Rattle.std.proofs.lemmas.Nat.{pow_pos}
use Rattle.apply_ast.specs.Trees.{Pipe, Step, OptPipe, Pipes, Key, Keys}
use Rattle.rewrite_laws.specs.Measures.{size, weight, inner_weight, branches_weight, keys_weight, step_weight}
use Rattle.rewrite_laws.proofs.Rising.{Rising, Steady, rising-steady, rising-id, rising-suc, rising-times, rising-after, rising-sum, steady-constant, rising-from_next}

-- the number of branches
abbrev pub branch_count : Pipes → ℕ
branch_count Pipes.NoPipes = 0
branch_count (Pipes.MorePipes p ps) = 1 + branch_count ps

abbrev mutual
  -- each concatenation in a pipeline, inner ones included, has at least two branches
  pub Branched : Pipe → Type 0
  Branched Pipe.End = Unit {0}
  Branched (Pipe.Then s p) = BranchedStep s × Branched p

  -- the same of an inner pipeline
  pub BranchedInner : OptPipe → Type 0
  BranchedInner OptPipe.NoPipe = Unit {0}
  BranchedInner (OptPipe.SomePipe p) = Branched p

  -- the same of the branches
  pub BranchedAll : Pipes → Type 0
  BranchedAll Pipes.NoPipes = Unit {0}
  BranchedAll (Pipes.MorePipes p ps) = Branched p × BranchedAll ps

  -- the same of a key
  pub BranchedKey : Key → Type 0
  BranchedKey (Key.Recursive h p T) = BranchedInner T
  BranchedKey k = Unit {0}

  -- the same of the keys
  pub BranchedKeys : Keys → Type 0
  BranchedKeys Keys.NoKeys = Unit {0}
  BranchedKeys (Keys.MoreKeys k ks) = BranchedKey k × BranchedKeys ks

  -- the same of a step
  pub BranchedStep : Step → Type 0
  BranchedStep (Step.GroupBy ks T) = BranchedKeys ks × BranchedInner T
  BranchedStep (Step.Concat ps) = (2 ≤ branch_count ps) × BranchedAll ps
  BranchedStep (Step.Join outer n a T) = BranchedInner T
  BranchedStep (Step.Climb up h p T d keep) = Branched T
  BranchedStep s = Unit {0}

-- one more than a function, and than a sum with a constant
rising-plus : (f : ℕ → ℕ) (k : ℕ) → Rising f → Rising (λ v. 1 + f v + k)
rising-plus f k F = record {
  strict = λ v v' h. let a : f v < f v' = F.strict v v' h in omega arith;
  scaled = λ v n h.
      let a : f (v * n) ≤ f v * n = F.scaled v n h in
      let b : k * n + k ≤ k * n + k * n = (let S = steady-constant k in let c : k ≤ k * n = S.scaled 0 n h in omega arith) in
      omega arith;
}

rising-next : (f : ℕ → ℕ) → Rising f → Rising (λ v. 1 + f v)
rising-next f F = record {
  strict = λ v v' h. let a : f v < f v' = F.strict v v' h in omega arith;
  scaled = λ v n h. let a : f (v * n) ≤ f v * n = F.scaled v n h in omega arith;
}

rising-both : (f : ℕ → ℕ) → Rising f → Rising (λ v. 1 + v + f v)
rising-both f F = record {
  strict = λ v v' h. let a : f v < f v' = F.strict v v' h in omega arith;
  scaled = λ v n h. let a : f (v * n) ≤ f v * n = F.scaled v n h in omega arith;
}

none_is_not_two : 2 ≤ branch_count Pipes.NoPipes → ⊥
none_is_not_two h = omega (arith, h)

mutual
  unfolding weight

  -- the weight of a branched pipeline rises
  pub pipe_rising : (p : Pipe) → Branched p → Rising (weight p)
  pipe_rising Pipe.End b = rising-id
  pipe_rising (Pipe.Then s p) b = rising-after (weight p) (step_weight s) (pipe_rising p b.1) (step_rising s b.0)

  pub inner_rising : (T : OptPipe) → BranchedInner T → Rising (inner_weight T)
  inner_rising OptPipe.NoPipe b = rising-id
  inner_rising (OptPipe.SomePipe p) b = pipe_rising p b

  pub branches_steady : (ps : Pipes) → BranchedAll ps → Steady (branches_weight ps)
  branches_steady Pipes.NoPipes b = steady-constant 0
  branches_steady (Pipes.MorePipes p ps) b = rising-steady (branches_weight (Pipes.MorePipes p ps)) (rising-sum (weight p) (branches_weight ps) (pipe_rising p b.0) (branches_steady ps b.1))

  pub step_rising : (s : Step) → BranchedStep s → Rising (step_weight s)
  step_rising Step.Identity b = rising-id
  step_rising (Step.Filter e) b = rising-times (2 ^ size e) (let h : 0 < 2 ^ size e = pow_pos (size e) in omega arith)
  step_rising (Step.GroupBy ks T) b = rising-plus (inner_weight T) (keys_weight ks) (inner_rising T b.1)
  step_rising (Step.Concat Pipes.NoPipes) b = absurd (none_is_not_two b.0)
  step_rising (Step.Concat (Pipes.MorePipes p ps)) b =
      let f = branches_weight (Pipes.MorePipes p ps) in
      rising-next (λ v. f (v + 1)) (rising-from_next f (rising-sum (weight p) (branches_weight ps) (pipe_rising p (b.1).0) (branches_steady ps (b.1).1)))
  step_rising (Step.Join outer n a T) b = rising-both (inner_weight T) (inner_rising T b)
  step_rising (Step.Climb up h p T d keep) b = rising-both (weight T) (pipe_rising T b)
  step_rising s b = rising-suc
