use Rattle.std.proofs.Common.{◌≡◌, map, drop}
use Rattle.apply_ast.specs.Views.{expr_of}
use Rattle.optimiser.specs.HeldSegments.{Frame, outline, segments_of}
use Rattle.walk_laws.specs.Walks as spec
use Rattle.optimiser.proofs.putting.put_filters.Given as goal

-- what is put behind the segments so far is the filters that are left
abbrev pub invariant-loop-e : goal.invariant-loop-e
invariant-loop-e l = record {
  value : (w : Frame) → spec.put_filters l.m l.shape (map expr_of (drop l.e-index l.es)) (segments_of l.m w l.segments.items) ≡ spec.put_filters l.m l.shape (map expr_of l.es) (segments_of l.m w l.initial.segments.items);
  kept : map outline l.segments.items ≡ map outline l.initial.segments.items;
}
